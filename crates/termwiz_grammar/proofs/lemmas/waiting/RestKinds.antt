-- Each rest is of exactly one kind, told by its first bytes, and what a flush makes of it.
use Rattle.std.proofs.Common.{◌≡◌, ◌≢◌, ◌⊎◌, inl, inr, ⊎_elim, ℕ, ◌≤◌, Bool, false, List, [], ◌∷◌, ◌++◌, length, refl, sym, ap, ◌∙◌, subst, append_assoc, arith}
use Rattle.std.specs.List.{AllByRecursion}
use Rattle.termwiz_keymap.specs.Bytes.{Begins}
use Rattle.termwiz_keys.specs.Introducers.{ESC, START}
use Rattle.termwiz_keys.specs.Keys.{escape, with_alt}
use Rattle.termwiz_keys.specs.declared.types.InputEvent.TheVariants.{Key}
use Rattle.termwiz_grammar.specs.declared.waiting.Waiting.{Waiting}
use Rattle.termwiz_grammar.specs.declared.waiting.Waiting.TheVariants.{Nothing, Escape, Sequence, Character, Paste}
use Rattle.termwiz_grammar.specs.Sequences.{IsSequence}
use Rattle.termwiz_grammar.specs.Grammar.{IsUnfinishedSequence, IsUnfinishedCharacter, IsBeginning, IsRest, Means}
use Rattle.termwiz_grammar.specs.Sequences.Meaning.{Row}
use Rattle.termwiz_grammar.specs.Grammar.Head.{Sequence as Spelled}
use Rattle.termwiz_grammar.specs.Laws.{FlushMatters, IsHeldEscape, Waits}
use Rattle.termwiz_grammar.specs.Laws.Waits.{nothing, open_paste, undecided}
use Rattle.termwiz_grammar.specs.WaitingKinds.{IsHeldThen, IsOneOrTwoEscapes, IsKind, WaitingKinds, FlushOfKinds}
use Rattle.termwiz_keymap.proofs.lemmas.lists.CommonPrefixes.{append-some, true_at_front}
use Rattle.termwiz_grammar.proofs.lemmas.table.RowShape.{Bytes, escape_row}
use Rattle.termwiz_grammar.proofs.lemmas.table.RowShape.Bytes.{one, more}
use Rattle.termwiz_grammar.proofs.lemmas.table.SequenceFacts.{escape_is_sequence, sequence_bytes, start, start_ends}
use Rattle.termwiz_grammar.proofs.lemmas.characters.CharacterPrefixes.{IsHigh, unfinished_high}
use Rattle.termwiz_grammar.proofs.lemmas.lists.Decidable.{same_or_not}
use Rattle.termwiz_grammar.proofs.lemmas.waiting.RestShape.{empty_is_rest, endless_rests, waiting_shape}
use Rattle.termwiz_grammar.proofs.lemmas.waiting.UndecidedBytes.{undecided_law}
use Rattle.termwiz_grammar.proofs.lemmas.read_back.WholeTexts.{row_means, alt_means}
use Rattle.termwiz_grammar.proofs.lemmas.items.OneItem.{start_head}
use Rattle.termwiz_grammar.proofs.lemmas.items.OneHead.{longest_whole}
use Rattle.termwiz_grammar.proofs.lemmas.mouse.OneReport.{IsPlain}

-- ESC and bytes below 127, after at most one more ESC
record SequenceBytes (u : List ℕ) : Type 0 where
  after : List ℕ
  low : AllByRecursion IsPlain after
  spells : (u ≡ 27 ∷ after) ⊎ (u ≡ 27 ∷ 27 ∷ after)

-- a byte from 128 on, after at most one ESC
pub record CharacterBytes (u : List ℕ) : Type 0 where
  pub first : ℕ
  pub after : List ℕ
  pub high : 128 ≤ first
  pub spells : (u ≡ first ∷ after) ⊎ (u ≡ 27 ∷ first ∷ after)

unfinished_bytes : (u tail : List ℕ) → u ≢ [] → tail ≢ [] → Bytes (u ++ tail)
    → (t : List ℕ) × (u ≡ 27 ∷ t) × AllByRecursion IsPlain t
unfinished_bytes [] tail some longer b = absurd (some refl)
unfinished_bytes (x ∷ u) tail some longer (one b l e) = absurd (append-some u tail longer (cc (e)))
unfinished_bytes (x ∷ u) tail some longer (more t n e p) =
    (u, cc (e), true_at_front IsPlain u tail (subst (AllByRecursion IsPlain) (cc (e)) p))

sequence_bytes_of : (u : List ℕ) → IsHeldThen IsUnfinishedSequence u → SequenceBytes u
sequence_bytes_of u is =
    let h = is.unfinished in
    let b = unfinished_bytes is.bytes h.tail is.some h.longer
    (sequence_bytes (is.bytes ++ h.tail) h.meaning h.is_sequence) in
    record {
      after = b.0;
      low = b.2;
      spells = ⊎_elim
          (λ (none : is.held ≡ []). inl (is.splits ∙ ap (λ x. x ++ is.bytes) none ∙ b.1))
          (λ (one : is.held ≡ ESC). inr (is.splits ∙ ap (λ x. x ++ is.bytes) one ∙ ap (λ x. 27 ∷ x) b.1)) is.is_held;
    }

first_high : (u : List ℕ) → u ≢ [] → AllByRecursion IsHigh u → (x : ℕ) × (t : List ℕ) × (u ≡ x ∷ t) × (128 ≤ x)
first_high [] some a = absurd (some refl)
first_high (x ∷ u) some a = (x, u, refl, a.0.0)

character_bytes_of : (u : List ℕ) → IsHeldThen IsUnfinishedCharacter u → CharacterBytes u
character_bytes_of u is =
    let b = first_high is.bytes is.some (unfinished_high is.bytes is.some is.unfinished) in
    record {
      first = b.0;
      after = b.1;
      high = b.3;
      spells = ⊎_elim
          (λ (none : is.held ≡ []). inl (is.splits ∙ ap (λ x. x ++ is.bytes) none ∙ b.2))
          (λ (one : is.held ≡ ESC). inr (is.splits ∙ ap (λ x. x ++ is.bytes) one ∙ ap (λ x. 27 ∷ x) b.2)) is.is_held;
    }

high_is_no_escape : (x : ℕ) → 128 ≤ x → 27 ≡ x → ⊥
high_is_no_escape x high same = omega arith

not_empty : {P : List ℕ → Type 0} (u : List ℕ) → IsHeldThen P u → u ≡ [] → ⊥
not_empty u is none = append-some is.held is.bytes is.some (sym is.splits ∙ none)

escape_no_character : (u : List ℕ) → IsOneOrTwoEscapes u → CharacterBytes u → ⊥
escape_no_character u escapes c = ⊎_elim
    (λ (a : u ≡ ESC). ⊎_elim
    (λ (p : u ≡ c.first ∷ c.after). high_is_no_escape c.first c.high (cc (a, p)))
    (λ (q : u ≡ 27 ∷ c.first ∷ c.after). cc (a, q)) c.spells)
    (λ (b : u ≡ ESC ++ ESC). ⊎_elim
    (λ (p : u ≡ c.first ∷ c.after). high_is_no_escape c.first c.high (cc (b, p)))
    (λ (q : u ≡ 27 ∷ c.first ∷ c.after). high_is_no_escape c.first c.high (cc (b, q))) c.spells)
    escapes

escape_no_paste : (u : List ℕ) → IsOneOrTwoEscapes u → (body : List ℕ) → u ≡ START ++ body → ⊥
escape_no_paste u escapes body p = ⊎_elim (λ (a : u ≡ ESC). cc (a, p)) (λ (b : u ≡ ESC ++ ESC). cc (b, p)) escapes

character_no_paste : (u : List ℕ) → CharacterBytes u → (body : List ℕ) → u ≡ START ++ body → ⊥
character_no_paste u c body p = ⊎_elim
    (λ (a : u ≡ c.first ∷ c.after). high_is_no_escape c.first c.high (cc (a, p)))
    (λ (b : u ≡ 27 ∷ c.first ∷ c.after). (let same : 91 ≡ c.first = cc (b, p) in omega (arith, same, c.high)))
    c.spells

sequence_no_character : (u : List ℕ) → SequenceBytes u → CharacterBytes u → ⊥
sequence_no_character u s c = ⊎_elim
    (λ (a : u ≡ 27 ∷ s.after). ⊎_elim
    (λ (p : u ≡ c.first ∷ c.after). high_is_no_escape c.first c.high (cc (a, p)))
    (λ (q : u ≡ 27 ∷ c.first ∷ c.after).
    let low : AllByRecursion IsPlain (c.first ∷ c.after) =
    subst (AllByRecursion IsPlain) {x = s.after} {y = c.first ∷ c.after} (cc (a, q)) s.low in
    omega (arith, low.0.1, c.high)) c.spells)
    (λ (b : u ≡ 27 ∷ 27 ∷ s.after). ⊎_elim
    (λ (p : u ≡ c.first ∷ c.after). high_is_no_escape c.first c.high (cc (b, p)))
    (λ (q : u ≡ 27 ∷ c.first ∷ c.after). high_is_no_escape c.first c.high (cc (b, q))) c.spells)
    s.spells

sequence_no_paste : (u : List ℕ) → IsHeldThen IsUnfinishedSequence u → (body : List ℕ) → u ≡ START ++ body → ⊥
sequence_no_paste u is body p = ⊎_elim
    (λ (none : is.held ≡ []).
    let h = is.unfinished in
    let all : is.bytes ++ h.tail ≡ START ++ (body ++ h.tail) =
    ap (λ x. x ++ h.tail) (sym (is.splits ∙ ap (λ x. x ++ is.bytes) none) ∙ p) ∙ append_assoc START body h.tail in
    append-some body h.tail h.longer
    (start_ends (body ++ h.tail) h.meaning (subst (λ x. IsSequence x h.meaning) all h.is_sequence)))
    (λ (held : is.held ≡ ESC).
    let h = is.unfinished in
    let b = unfinished_bytes is.bytes h.tail is.some h.longer
    (sequence_bytes (is.bytes ++ h.tail) h.meaning h.is_sequence) in
    let spelled : u ≡ 27 ∷ 27 ∷ b.0 = is.splits ∙ ap (λ x. x ++ is.bytes) held ∙ ap (λ x. 27 ∷ x) b.1 in
    cc (spelled, p))
    is.is_held

-- what is of two kinds is of one
one_kind : (u : List ℕ) (f : Bool) (a b : Waiting) → IsKind u f a → IsKind u f b → b ≡ a
one_kind u f Nothing Nothing p q = refl
one_kind u f Nothing Escape p q = absurd (⊎_elim (λ (e : u ≡ ESC). cc (e, p)) (λ (e : u ≡ ESC ++ ESC). cc (e, p)) q.0)
one_kind u f Nothing Sequence p q = absurd (not_empty u q.0 p)
one_kind u f Nothing Character p q = absurd (not_empty u q.0 p)
one_kind u f Nothing Paste p q = absurd (cc (p, q.splits))
one_kind u f Escape Nothing p q = absurd (⊎_elim (λ (e : u ≡ ESC). cc (e, q)) (λ (e : u ≡ ESC ++ ESC). cc (e, q)) p.0)
one_kind u f Escape Escape p q = refl
one_kind u f Escape Sequence p q = absurd (q.1 p.0)
one_kind u f Escape Character p q = absurd (escape_no_character u p.0 (character_bytes_of u q.0))
one_kind u f Escape Paste p q = absurd (escape_no_paste u p.0 q.body q.splits)
one_kind u f Sequence Nothing p q = absurd (not_empty u p.0 q)
one_kind u f Sequence Escape p q = absurd (p.1 q.0)
one_kind u f Sequence Sequence p q = refl
one_kind u f Sequence Character p q =
    absurd (sequence_no_character u (sequence_bytes_of u p.0) (character_bytes_of u q.0))
one_kind u f Sequence Paste p q = absurd (sequence_no_paste u p.0 q.body q.splits)
one_kind u f Character Nothing p q = absurd (not_empty u p.0 q)
one_kind u f Character Escape p q = absurd (escape_no_character u q.0 (character_bytes_of u p.0))
one_kind u f Character Sequence p q =
    absurd (sequence_no_character u (sequence_bytes_of u q.0) (character_bytes_of u p.0))
one_kind u f Character Character p q = refl
one_kind u f Character Paste p q = absurd (character_no_paste u (character_bytes_of u p.0) q.body q.splits)
one_kind u f Paste Nothing p q = absurd (cc (q, p.splits))
one_kind u f Paste Escape p q = absurd (escape_no_paste u q.0 p.body p.splits)
one_kind u f Paste Sequence p q = absurd (sequence_no_paste u q.0 p.body p.splits)
one_kind u f Paste Character p q = absurd (character_no_paste u (character_bytes_of u q.0) p.body p.splits)
one_kind u f Paste Paste p q = refl

one_or_two_or_not : (u : List ℕ) → IsOneOrTwoEscapes u ⊎ (IsOneOrTwoEscapes u → ⊥)
one_or_two_or_not u = ⊎_elim
    (λ (a : u ≡ ESC). inl (inl a))
    (λ (none : u ≡ ESC → ⊥). ⊎_elim
    (λ (b : u ≡ ESC ++ ESC). inl (inr b))
    (λ (never : u ≡ ESC ++ ESC → ⊥). inr (λ either. ⊎_elim none never either))
    (same_or_not u (ESC ++ ESC)))
    (same_or_not u ESC)

some_kind : (u : List ℕ) (f : Bool) → Waits u f → (kind : Waiting) × IsKind u f kind
some_kind u f (nothing e) = (Nothing, e)
some_kind u f (open_paste body e never) = (Paste, record { body = body; splits = e; endless = never })
some_kind u f (undecided held bytes is e n (inl unfinished) short m) = ⊎_elim
    (λ (escapes : IsOneOrTwoEscapes u). (Escape, (escapes, m)))
    (λ other. (
      Sequence,
      (record { held = held; bytes = bytes; is_held = is; splits = e; some = n; unfinished = unfinished }, other, m),
    ))
    (one_or_two_or_not u)
some_kind u f (undecided held bytes is e n (inr unfinished) short m) =
    (Character, (record { held = held; bytes = bytes; is_held = is; splits = e; some = n; unfinished = unfinished }, m))

pub waiting_kinds : WaitingKinds
waiting_kinds u f rest =
    let it = some_kind u f (waiting_shape u f rest) in
    (it.0, it.1, λ other is. one_kind u f it.0 other it.1 is)

-- a rest of a kind that its first bytes tell
pub escape_rest : (u : List ℕ) (f : Bool) → IsRest u f → IsOneOrTwoEscapes u → IsKind u f Escape
escape_rest u f rest escapes = (let it = some_kind u f (waiting_shape u f rest) in go it.0 it.1)
  where
    go : (kind : Waiting) → IsKind u f kind → IsKind u f Escape
    go Nothing is = absurd (⊎_elim (λ (e : u ≡ ESC). cc (e, is)) (λ (e : u ≡ ESC ++ ESC). cc (e, is)) escapes)
    go Escape is = is
    go Sequence is = absurd (is.1 escapes)
    go Character is = absurd (escape_no_character u escapes (character_bytes_of u is.0))
    go Paste is = absurd (escape_no_paste u escapes is.body is.splits)

pub character_rest : (u : List ℕ) (f : Bool) → IsRest u f → CharacterBytes u → IsKind u f Character
character_rest u f rest c = (let it = some_kind u f (waiting_shape u f rest) in go it.0 it.1)
  where
    go : (kind : Waiting) → IsKind u f kind → IsKind u f Character
    go Nothing is = absurd (⊎_elim (λ (e : u ≡ c.first ∷ c.after). cc (e, is))
        (λ (e : u ≡ 27 ∷ c.first ∷ c.after). cc (e, is)) c.spells)
    go Escape is = absurd (escape_no_character u is.0 c)
    go Sequence is = absurd (sequence_no_character u (sequence_bytes_of u is.0) c)
    go Character is = is
    go Paste is = absurd (character_no_paste u c is.body is.splits)

pub paste_rest : (u : List ℕ) (f : Bool) → IsRest u f → Begins START u → IsKind u f Paste
paste_rest u f rest b = (let it = some_kind u f (waiting_shape u f rest) in go it.0 it.1)
  where
    go : (kind : Waiting) → IsKind u f kind → IsKind u f Paste
    go Nothing is = absurd (cc (is, b.1))
    go Escape is = absurd (escape_no_paste u is.0 b.0 b.1)
    go Sequence is = absurd (sequence_no_paste u is.0 b.0 b.1)
    go Character is = absurd (character_no_paste u (character_bytes_of u is.0) b.0 b.1)
    go Paste is = is

pub sequence_rest : (u : List ℕ) (f : Bool) → IsRest u f → u ≢ [] → ¬ IsOneOrTwoEscapes u → ¬ CharacterBytes u
    → ¬ Begins START u → IsKind u f Sequence
sequence_rest u f rest some no_escape no_character no_paste = (let it = some_kind u f (waiting_shape u f rest) in go it.0 it.1)
  where
    go : (kind : Waiting) → IsKind u f kind → IsKind u f Sequence
    go Nothing is = absurd (some is)
    go Escape is = absurd (no_escape is.0)
    go Sequence is = is
    go Character is = absurd (no_character (character_bytes_of u is.0))
    go Paste is = absurd (no_paste (is.body, is.splits))

breaks : (u : List ℕ) (held bytes : List ℕ) → IsHeldEscape held → u ≡ held ++ bytes → bytes ≢ [] → IsBeginning bytes
    → (c : List ℕ) × FlushMatters u c
breaks u held bytes is e n beginning =
    let m = undecided_law held bytes is n beginning in (m.0, subst (λ x. FlushMatters x m.0) (sym e) m.1)

-- a flush of ESC and of ESC ESC
pub alone : Means ESC false (Key escape ∷ []) []
alone = row_means ESC escape escape_row (λ e. cc (e))

pub twice : Means (ESC ++ ESC) false (Key (with_alt escape) ∷ []) []
twice =
    alt_means 27 [] (Spelled ESC (Row escape)) escape (inl (omega arith)) (longest_whole ESC (Row escape) escape_is_sequence)
    ((λ e. cc (e)), refl) refl

pub flush_of_kinds : FlushOfKinds
flush_of_kinds u Nothing is = subst (λ x. Means x false [] []) (sym is) (record { steps = refl; rest = empty_is_rest false })
flush_of_kinds u Escape is = ⊎_elim
    (λ (a : u ≡ ESC). inl (a, subst (λ x. Means x false (Key escape ∷ []) []) (sym a) alone))
    (λ (b : u ≡ ESC ++ ESC). inr (b, subst (λ x. Means x false (Key (with_alt escape) ∷ []) []) (sym b) twice)) is.0
flush_of_kinds u Sequence is = breaks u is.0.held is.0.bytes is.0.is_held is.0.splits is.0.some (inl is.0.unfinished)
flush_of_kinds u Character is = breaks u is.0.held is.0.bytes is.0.is_held is.0.splits is.0.some (inr is.0.unfinished)
flush_of_kinds u Paste is = record {
  steps = refl;
  rest = endless_rests u false start (start_head u (is.body, is.splits)) is.body is.splits is.endless;
}

pub one_flushed : (u : List ℕ) → IsOneOrTwoEscapes u → length u ≡ 1 → Means u false (Key escape ∷ []) []
one_flushed u escapes single = ⊎_elim
    (λ (a : u ≡ ESC). subst (λ x. Means x false (Key escape ∷ []) []) (sym a) alone)
    (λ (b : u ≡ ESC ++ ESC). absurd (omega (arith, single, ap length b))) escapes

pub two_flushed : (u : List ℕ) → IsOneOrTwoEscapes u → length u ≢ 1 → Means u false (Key (with_alt escape) ∷ []) []
two_flushed u escapes other = ⊎_elim
    (λ (a : u ≡ ESC). absurd (other (ap length a)))
    (λ (b : u ≡ ESC ++ ESC). subst (λ x. Means x false (Key (with_alt escape) ∷ []) []) (sym b) twice) escapes
