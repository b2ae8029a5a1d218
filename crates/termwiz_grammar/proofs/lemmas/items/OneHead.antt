-- A text has at most one head, and it can be told which.
use Rattle.std.proofs.Common.{◌<◌, ◌≡◌, ◌⊎◌, inl, inr, ℕ, zero, suc, ◌≤◌, Bool, true, false, List, [], ◌∷◌, length, take, drop, refl, sym, ap, ◌∙◌, subst, ⊎_elim, arith, encode_utf8, append-nil, length-take, take-append-drop, le_antisymm}
use Rattle.std.specs.Char.{IsScalar}
use Rattle.std.proofs.lemmas.Bool.{cases_lt}
use Rattle.std.proofs.lemmas.Str.{encode_same}
use Rattle.termwiz_keymap.specs.Bytes.{Begins}
use Rattle.termwiz_grammar.specs.Sequences.{Meaning, IsSequence}
use Rattle.termwiz_grammar.specs.Grammar.{Head, IsHead, IsLongest, IsOpen}
use Rattle.termwiz_grammar.specs.Grammar.Head.{Sequence, Character, Broken}
use Rattle.termwiz_keymap.proofs.lemmas.lists.CommonPrefixes.{length-Begins, same_from_length}
use Rattle.termwiz_grammar.proofs.lemmas.lists.Decidable.{Decision, decide_either}
use Rattle.termwiz_grammar.proofs.lemmas.table.SequenceFacts.{sequence_some, sequence_once, sequence_or_not, unfinished_or_not}
use Rattle.termwiz_grammar.proofs.lemmas.characters.CharacterPrefixes.{character_or_not, unfinished_character_or_not}

pub longest_once : (u s t : List ℕ) (m n : Meaning) → IsLongest u s m → IsLongest u t n → (s ≡ t) × (m ≡ n)
longest_once u s t m n a b =
    let e : s ≡ t = same_from_length s t u a.begins b.begins
    (le_antisymm (b.longest s m a.is_sequence a.begins) (a.longest t n b.is_sequence b.begins)) in
    (e, sequence_once t m n (subst (λ x. IsSequence x m) e a.is_sequence) b.is_sequence)

-- a sequence is the longest that begins itself
pub longest_whole : (text : List ℕ) (m : Meaning) → IsSequence text m → IsLongest text text m
longest_whole text m is_sequence = record {
  is_sequence = is_sequence;
  begins = ([], sym (append-nil text));
  longest = λ other n is b. length-Begins other text b;
}

pub head_once : (u : List ℕ) (h k : Head) → IsHead u h → IsHead u k → h ≡ k
head_once u (Sequence s m) (Sequence t n) a b = let e = longest_once u s t m n a b in cc (e.0, e.1)
head_once u (Sequence s m) (Character d) a b = absurd (b.no_sequence s m a.is_sequence a.begins)
head_once u (Sequence s m) (Broken d) a b = absurd (b.no_sequence s m a.is_sequence a.begins)
head_once u (Character c) (Sequence t n) a b = absurd (a.no_sequence t n b.is_sequence b.begins)
head_once u (Character c) (Character d) a b =
    ap (λ x. Character x) (encode_same c d a.begins.0 b.begins.0 (sym a.begins.1 ∙ b.begins.1)).0
head_once u (Character c) (Broken d) a b = absurd (b.unspelled c a.scalar a.begins)
head_once u (Broken c) (Sequence t n) a b = absurd (a.no_sequence t n b.is_sequence b.begins)
head_once u (Broken c) (Character d) a b = absurd (a.unspelled d b.scalar b.begins)
head_once u (Broken c) (Broken d) a b = let same : c ≡ d = cc (a.begins.1, b.begins.1) in ap (λ x. Broken x) same

-- the longest sequence of at most n bytes that begins u, or none
pub data Found (u : List ℕ) (n : ℕ) : Type 0 where
  found : (text : List ℕ) (m : Meaning) → IsSequence text m → Begins text u
      → ((other : List ℕ) (k : Meaning) → IsSequence other k → Begins other u → length other ≤ n
      → length other ≤ length text) → Found u n
  missing : ((other : List ℕ) (k : Meaning) → IsSequence other k → Begins other u → length other ≤ n → ⊥) → Found u n

empty_is_no_sequence : (other : List ℕ) (k : Meaning) → IsSequence other k → length other ≤ 0 → ⊥
empty_is_no_sequence [] k is_sequence l = sequence_some [] k is_sequence refl
empty_is_no_sequence (x ∷ other) k is_sequence l = absurd (omega arith)

find_up_to : (u : List ℕ) (n : ℕ) → n ≤ length u → Found u n
find_up_to u zero l = missing (λ other k is_sequence b short. empty_is_no_sequence other k is_sequence short)
find_up_to u (suc n) l = go (sequence_or_not (take (suc n) u)) (find_up_to u n (omega arith))
  where
    begins : Begins (take (suc n) u) u
    begins = (drop (suc n) u, sym (take-append-drop (suc n) u))

    long : length (take (suc n) u) ≡ suc n
    long = omega (arith, length-take (suc n) u)

    same : (other : List ℕ) → Begins other u → length other ≡ suc n → other ≡ take (suc n) u
    same other b e = same_from_length other (take (suc n) u) u b begins (e ∙ sym long)

    go : Decision ((m : Meaning) × IsSequence (take (suc n) u) m) → Found u n → Found u (suc n)
    go (inl k) below = found (take (suc n) u) k.0 k.1 begins (λ other m is_sequence b short. omega (arith, long))
    go (inr never) (found text m is_sequence b longest) =
        found text m is_sequence b (λ other k is c short. at_most other k is c short)
      where
        at_most : (other : List ℕ) (k : Meaning) → IsSequence other k → Begins other u → length other ≤ suc n
            → length other ≤ length text
        at_most other k is c short = ⊎_elim
            (λ (past : n < length other).
            absurd (never (k, subst (λ x. IsSequence x k) (same other c (omega arith)) is)))
            (λ (lt : length other ≤ n). longest other k is c lt)
            (cases_lt n (length other))
    go (inr never) (missing none) = missing (λ other k is c short. ⊎_elim
        (λ (past : n < length other). never (k, subst (λ x. IsSequence x k) (same other c (omega arith)) is))
        (λ (lt : length other ≤ n). none other k is c lt)
        (cases_lt n (length other)))

-- each text that isn't empty has a head
pub head_of : (x : ℕ) (t : List ℕ) → (h : Head) × IsHead (x ∷ t) h
head_of x t = go (find_up_to (x ∷ t) (length (x ∷ t)) (omega arith)) (character_or_not (x ∷ t))
  where
    go : Found (x ∷ t) (length (x ∷ t)) → Decision ((c : ℕ) × IsScalar c × Begins (encode_utf8 c) (x ∷ t))
        → (h : Head) × IsHead (x ∷ t) h
    go (found text m is_sequence b longest) char = (
      Sequence text m,
      record {
        is_sequence = is_sequence;
        begins = b;
        longest = λ other k is c. longest other k is c (length-Begins other (x ∷ t) c);
      },
    )
    go (missing none) (inl (c, scalar, b)) = (
      Character c,
      record {
        no_sequence = λ other k is d. none other k is d (length-Begins other (x ∷ t) d);
        scalar = scalar;
        begins = b;
      },
    )
    go (missing none) (inr never) = (
      Broken x,
      record {
        no_sequence = λ other k is d. none other k is d (length-Begins other (x ∷ t) d);
        unspelled = λ c scalar b. never (c, scalar, b);
        begins = (t, refl);
      },
    )

pub open_or_not : (u : List ℕ) (f : Bool) → IsOpen u f ⊎ (IsOpen u f → ⊥)
open_or_not [] f = inr (λ h. h.some refl)
open_or_not (x ∷ u) false = inr (λ h. cc (h.more_comes))
open_or_not (x ∷ u) true = ⊎_elim
    (λ h. inl (record { more_comes = refl; some = λ e. cc; beginning = h }))
    (λ never. inr (λ h. never h.beginning))
    (decide_either (unfinished_or_not (x ∷ u)) (unfinished_character_or_not (x ∷ u)))
