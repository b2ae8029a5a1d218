-- Of the beginning of a character that goes on no further each byte is broken.
use Rattle.std.proofs.Common.{◌≡◌, inl, ℕ, ◌≤◌, Bool, true, false, List, [], ◌∷◌, ◌++◌, length, refl, sym, ap, ◌∙◌, subst, append_assoc, append-nil, arith, encode_utf8}
use Rattle.std.specs.Prelude.{replicate}
use Rattle.std.specs.Char.{IsScalar}
use Rattle.std.specs.List.{AllByRecursion}
use Rattle.std.proofs.lemmas.Str.{encode_same}
use Rattle.termwiz_keys.specs.declared.types.InputEvent.{InputEvent}
use Rattle.termwiz_grammar.specs.Grammar.{IsUnfinishedCharacter, Steps, Means}
use Rattle.termwiz_keymap.proofs.lemmas.lists.CommonPrefixes.{Overlaps, overlap, append-some, true_at_end, true_at_front}
use Rattle.termwiz_keymap.proofs.lemmas.lists.CommonPrefixes.Overlaps.{within, past}
use Rattle.termwiz_grammar.proofs.lemmas.characters.CharacterPrefixes.{unfinished_high}
use Rattle.termwiz_grammar.proofs.lemmas.cuts.ChunkInvariance.{cut_independent, steps_join}
use Rattle.termwiz_laws.specs.BrokenBytes.{IsBrokenBefore, broken_event, GoesNoFurther, GoesOn, CutsCharacter, CutCharacter}
use Rattle.termwiz_laws.proofs.lemmas.first_bytes.EncodedBytes.{several_from}
use Rattle.termwiz_laws.proofs.lemmas.broken_bytes.FirstBytesOfNone.{broken_before, always_broken}
use Rattle.termwiz_laws.proofs.lemmas.broken_bytes.BrokenItems.{broken_stands}

-- bytes with which encodings go on, each alone
pub later_bytes : (v S : List ℕ) (f : Bool) → AllByRecursion GoesOn v
    → Steps (v ++ S) f (replicate (length v) broken_event) S
later_bytes [] S f a = refl
later_bytes (x ∷ v) S f a = (
  x ∷ [],
  v ++ S,
  broken_stands x (v ++ S) f
      (always_broken x (v ++ S) f (inl ((let h : GoesOn x = a.0 in h.0), (let h : GoesOn x = a.0 in omega arith)))),
  refl,
  later_bytes v S f a.1,
)

-- the bytes go no further into S: it is empty and no more may come, or its first byte is another one
abbrev pub EndsBefore : List ℕ → List ℕ → Bool → Type 0
EndsBefore bytes [] f = f ≡ false
EndsBefore bytes (next ∷ S) f = GoesNoFurther bytes next

not_into : (u x : List ℕ) (byte c : ℕ) (S : List ℕ) (f : Bool) → IsScalar c → S ≡ byte ∷ x → EndsBefore u S f
    → (tail : List ℕ) → encode_utf8 c ≡ u ++ byte ∷ tail → ⊥
not_into u x byte c S f scalar e ends tail spells =
    (let h : EndsBefore u (byte ∷ x) f = subst (λ s. EndsBefore u s f) e ends in h c tail scalar spells)

-- so the first of them is broken
pub first_broken : (b : ℕ) (u S : List ℕ) (f : Bool) → IsUnfinishedCharacter (b ∷ u) → EndsBefore (b ∷ u) S f
    → IsBrokenBefore b (u ++ S) f
first_broken b u S f h ends = broken_before b (u ++ S) f high
    (λ c scalar begins. unspelled c scalar begins.0 (overlap (encode_utf8 c) begins.0 (b ∷ u) S begins.1))
    (λ opens k. finished S refl opens.more_comes k)
  where
    high : 0x80 ≤ b
    high = (unfinished_high (b ∷ u) (λ e. cc (e)) h).0.0

    unspelled : (c : ℕ) → IsScalar c → (r : List ℕ) → Overlaps (encode_utf8 c) r (b ∷ u) S → ⊥
    unspelled c scalar r (within t e g) =
        let both : encode_utf8 h.char ++ [] ≡ encode_utf8 c ++ (t ++ h.tail) =
        append-nil (encode_utf8 h.char) ∙ h.spells ∙ ap (λ z. z ++ h.tail) e ∙ append_assoc (encode_utf8 c) t h.tail in
        append-some t h.tail h.longer (sym (encode_same h.char c [] (t ++ h.tail) both).1)
    unspelled c scalar r (past [] n e g) = n refl
    unspelled c scalar r (past (x ∷ t) n e g) = not_into (b ∷ u) (t ++ r) x c S f scalar g ends t e

    finished : (s : List ℕ) → S ≡ s → f ≡ true → IsUnfinishedCharacter (b ∷ u ++ S) → ⊥
    finished [] e more k =
        let last : f ≡ false = subst (λ z. EndsBefore (b ∷ u) z f) e ends in cc (more, last)
    finished (x ∷ t) e more k =
        let spells : encode_utf8 k.char ≡ (b ∷ u) ++ x ∷ (t ++ k.tail) =
        k.spells ∙ ap (λ z. (b ∷ u ++ z) ++ k.tail) e ∙ append_assoc (b ∷ u) (x ∷ t) k.tail in
        not_into (b ∷ u) t x k.char S f k.scalar e ends (t ++ k.tail) spells

-- and the others go on from none
pub others_later : (b : ℕ) (u : List ℕ) → IsUnfinishedCharacter (b ∷ u) → AllByRecursion GoesOn u
others_later b u h =
    let high : 0x80 ≤ b = (unfinished_high (b ∷ u) (λ e. cc (e)) h).0.0 in
    true_at_front GoesOn u h.tail (several_from h.char b (u ++ h.tail) h.scalar high h.spells).3

pub cut_steps : (b : ℕ) (u S : List ℕ) (f : Bool) → IsUnfinishedCharacter (b ∷ u) → EndsBefore (b ∷ u) S f
    → Steps (b ∷ u ++ S) f (replicate (length (b ∷ u)) broken_event) S
cut_steps b u S f h ends =
    (b ∷ [], u ++ S, broken_stands b (u ++ S) f (first_broken b u S f h ends), refl, later_bytes u S f (others_later b u h))

-- no encoding goes on with a byte that is none of 0x80 to 0xBF
cut_ends : (b : ℕ) (u S : List ℕ) (f : Bool) → IsUnfinishedCharacter (b ∷ u) → CutsCharacter S f → EndsBefore (b ∷ u) S f
cut_ends b u [] f h cuts = cuts
cut_ends b u (x ∷ S) f h cuts = λ c tail scalar spells.
    let high : 0x80 ≤ b = (unfinished_high (b ∷ u) (λ e. cc (e)) h).0.0 in
    cuts (true_at_end GoesOn u (x ∷ tail) (several_from c b (u ++ x ∷ tail) scalar high spells).3).0

all_steps : (u S : List ℕ) (f : Bool) → IsUnfinishedCharacter u → CutsCharacter S f
    → Steps (u ++ S) f (replicate (length u) broken_event) S
all_steps [] S f h cuts = refl
all_steps (b ∷ u) S f h cuts = cut_steps b u S f h (cut_ends b u S f h cuts)

pub cut_character : CutCharacter
cut_character T u S W E D f h cuts before after =
    let events : List InputEvent = replicate (length u) broken_event in
    subst (λ x. Means x f (E ++ events ++ D) W) (sym (append_assoc T u S))
    (subst (λ x. Means (T ++ (u ++ S)) f x W) (sym (append_assoc E events D))
    (cut_independent T (u ++ S) [] W E (events ++ D) f before (record {
      steps = steps_join events D (u ++ S) S W f (all_steps u S f h cuts) after.steps;
      rest = after.rest;
    })))
