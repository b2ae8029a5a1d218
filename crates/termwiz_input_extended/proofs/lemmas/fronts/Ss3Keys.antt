-- A key that a terminal sends as ESC O and a letter: its row, and where it is at the front of a text.
use Rattle.std.proofs.Common.{◌≡◌, ⊎_elim, ℕ, zero, suc, ◌+◌, ◌<◌, ◌≤◌, nat_lt, Bool, true, List, [], ◌∷◌, ◌++◌, length, take, drop, refl, sym, ap, ◌∙◌, subst, arith, get_or, Contains}
use Rattle.std.specs.Prelude.{None}
use Rattle.std.proofs.lemmas.Bool.{and_parts}
use Rattle.std.proofs.lemmas.Bool.Decides.{nat_tests}
use Rattle.termwiz_keymap.specs.Bytes.{Begins}
use Rattle.termwiz_keys.specs.Introducers.{SS3}
use Rattle.termwiz_keys.specs.Keys.{key_with, NONE}
use Rattle.termwiz_keys.specs.declared.types.KeyCode.TheVariants.{ApplicationUpArrow, ApplicationDownArrow, ApplicationRightArrow, ApplicationLeftArrow, End, Function, Home}
use Rattle.termwiz_keys.specs.declared.types.KeyEvent.{KeyEvent}
use Rattle.termwiz_keys.specs.declared.types.InputEvent.TheVariants.{Key}
use Rattle.termwiz_grammar.specs.Sequences.{Meaning, IsSequence}
use Rattle.termwiz_grammar.specs.Sequences.Meaning.{Row, Report}
use Rattle.termwiz_grammar.specs.Grammar.{IsOpen, IsUnfinishedSequence, IsUnfinishedCharacter}
use Rattle.termwiz_grammar.specs.Table.{rows, written_out}
use Rattle.termwiz_grammar.proofs.lemmas.characters.CharacterPrefixes.{sequence_finished}
use Rattle.termwiz_grammar.proofs.lemmas.table.ComputedTests.{ends_well, is_inner}
use Rattle.termwiz_grammar.proofs.lemmas.table.RowShape.{row_shaped}
use Rattle.termwiz_input.specs.Matches.{IsItemAt}
use Rattle.termwiz_input.proofs.lemmas.items.ItemByHead.{row_stands}
use Rattle.termwiz_extended_events.specs.declared.types.Dialect.{Dialect}
use Rattle.termwiz_extended_events.specs.declared.types.Dialect.TheVariants.{Extended, Termwiz}
use Rattle.termwiz_extended_events.specs.declared.types.Reading.{Reading}
use Rattle.termwiz_input_extended.specs.NextItems.{IsSs3Key, front_key}
use Rattle.termwiz_input_extended.proofs.lemmas.fronts.ControlCharacters.{row_by_bytes}

-- the rows of ESC O and a letter
pub up_row : Contains rows (27 ∷ 79 ∷ 65 ∷ [], key_with ApplicationUpArrow NONE)
unfolding written_out
up_row = row_by_bytes (27 ∷ 79 ∷ 65 ∷ []) (key_with ApplicationUpArrow NONE) refl

pub down_row : Contains rows (27 ∷ 79 ∷ 66 ∷ [], key_with ApplicationDownArrow NONE)
unfolding written_out
down_row = row_by_bytes (27 ∷ 79 ∷ 66 ∷ []) (key_with ApplicationDownArrow NONE) refl

pub right_row : Contains rows (27 ∷ 79 ∷ 67 ∷ [], key_with ApplicationRightArrow NONE)
unfolding written_out
right_row = row_by_bytes (27 ∷ 79 ∷ 67 ∷ []) (key_with ApplicationRightArrow NONE) refl

pub left_row : Contains rows (27 ∷ 79 ∷ 68 ∷ [], key_with ApplicationLeftArrow NONE)
unfolding written_out
left_row = row_by_bytes (27 ∷ 79 ∷ 68 ∷ []) (key_with ApplicationLeftArrow NONE) refl

pub end_row : Contains rows (27 ∷ 79 ∷ 70 ∷ [], key_with End NONE)
unfolding written_out
end_row = row_by_bytes (27 ∷ 79 ∷ 70 ∷ []) (key_with End NONE) refl

pub home_row : Contains rows (27 ∷ 79 ∷ 72 ∷ [], key_with Home NONE)
unfolding written_out
home_row = row_by_bytes (27 ∷ 79 ∷ 72 ∷ []) (key_with Home NONE) refl

pub function_row : (n : ℕ) → 1 ≤ n → n ≤ 4 → Contains rows (27 ∷ 79 ∷ (79 + n) ∷ [], key_with (Function n) NONE)
unfolding written_out
function_row zero low high = absurd (omega arith)
function_row (suc zero) low high = row_by_bytes (27 ∷ 79 ∷ 80 ∷ []) (key_with (Function 1) NONE) refl
function_row (suc (suc zero)) low high = row_by_bytes (27 ∷ 79 ∷ 81 ∷ []) (key_with (Function 2) NONE) refl
function_row (suc (suc (suc zero))) low high = row_by_bytes (27 ∷ 79 ∷ 82 ∷ []) (key_with (Function 3) NONE) refl
function_row (suc (suc (suc (suc zero)))) low high = row_by_bytes (27 ∷ 79 ∷ 83 ∷ []) (key_with (Function 4) NONE) refl
function_row (suc (suc (suc (suc (suc n))))) low high = absurd (omega arith)

-- no sequence goes on behind ESC O and a letter
letter_ends : (b : ℕ) (tail : List ℕ) (m : Meaning) → 64 < b → IsSequence (27 ∷ 79 ∷ b ∷ tail) m → tail ≡ []
unfolding IsSequence
letter_ends b [] m high is = refl
letter_ends b (y ∷ t) (Row key) high is =
    let inner = and_parts (is_inner b) (ends_well (y ∷ t)) (row_shaped (27 ∷ 79 ∷ b ∷ y ∷ t) key is).shape in
    let below : nat_lt b 60 ≡ true = (and_parts (nat_lt 47 b) (nat_lt b 60) inner.0).1 in
    absurd (grind (arith, nat_tests, high, below))
letter_ends b (y ∷ t) (Report r) high is =
    absurd (let second : ◌≡◌ {A = ℕ} 79 91 = ap (λ z. get_or z 1 0) is.form in omega (arith, second))

none_left : (r s : List ℕ) → r ++ s ≡ [] → s ≡ []
none_left [] s e = e
none_left (x ∷ r) s e = absurd (cc (e))

-- such a row is an item where the text begins with it, whatever follows
module _ (u : List ℕ) (b : ℕ) (rest : List ℕ) (key : KeyEvent) (split : u ≡ 27 ∷ 79 ∷ b ∷ rest) (high : 64 < b)
    (row : Contains rows (27 ∷ 79 ∷ b ∷ [], key)) where
  known : IsSequence (27 ∷ 79 ∷ b ∷ []) (Row key)
  unfolding IsSequence
  known = row

  begins : Begins (27 ∷ 79 ∷ b ∷ []) u
  begins = (rest, split)

  at_most : (text : List ℕ) (m : Meaning) → IsSequence text m → Begins text u → length text ≤ 3
  at_most [] m is c = omega arith
  at_most (x ∷ []) m is c = omega arith
  at_most (x ∷ y ∷ []) m is c = omega arith
  at_most (x ∷ y ∷ z ∷ t) m is c =
      let e : x ∷ y ∷ z ∷ (t ++ c.0) ≡ 27 ∷ 79 ∷ b ∷ rest = sym c.1 ∙ split in
      let same : x ∷ y ∷ z ∷ t ≡ 27 ∷ 79 ∷ b ∷ t =
      (let first : x ≡ 27 = cc (e) in let second : y ≡ 79 = cc (e) in let third : z ≡ b = cc (e) in cc (first, second, third)) in
      let none : t ≡ [] = letter_ends b t m high (subst (λ w. IsSequence w m) same is) in
      omega (arith, ap length none)

  unfinished : IsUnfinishedSequence u → ⊥
  unfinished h = h.longer (none_left rest h.tail
      (letter_ends b (rest ++ h.tail) h.meaning high (subst (λ w. IsSequence (w ++ h.tail) h.meaning) split h.is_sequence)))

  pub ss3_item : (more : Bool) → IsItemAt u more (Key key) 3
  ss3_item more = row_stands u more key 3 closed (
    omega (arith, ap length split),
    record {
      is_sequence = subst (λ t. IsSequence t (Row key)) (sym first) known;
      begins = subst (λ t. Begins t u) (sym first) begins;
      longest = λ text m is c. rw (first) (at_most text m is c);
    },
  ) (λ c. let second : ◌≡◌ {A = ℕ} 79 91 = cc (split, c.1) in omega (arith, second)) (λ e. absurd (cc (first, e)))
    where
      first : take 3 u ≡ 27 ∷ 79 ∷ b ∷ []
      first = ap (take 3) split

      closed : IsOpen u more → ⊥
      closed opens = ⊎_elim (λ (h : IsUnfinishedSequence u). unfinished h)
          (λ (h : IsUnfinishedCharacter u). sequence_finished (27 ∷ 79 ∷ b ∷ []) u (Row key) known begins opens.some h) opens.beginning

-- so where the text begins with three such bytes
pub is_ss3_key : (u : List ℕ) (b : ℕ) (key : KeyEvent) → 2 < length u → get_or u 0 0 ≡ 27 → get_or u 1 0 ≡ 79 → get_or u 2 0 ≡ b → 64 < b
    → Contains rows (27 ∷ 79 ∷ b ∷ [], key) → IsSs3Key u key
is_ss3_key u b key long first second third high row =
    let split = parts u long first second third in ((b ∷ drop 3 u, split), ss3_item u b (drop 3 u) key split high row)
  where
    parts : (u : List ℕ) → 2 < length u → get_or u 0 0 ≡ 27 → get_or u 1 0 ≡ 79 → get_or u 2 0 ≡ b → u ≡ 27 ∷ 79 ∷ b ∷ drop 3 u
    parts [] l e f g = absurd (omega arith)
    parts (x ∷ []) l e f g = absurd (omega arith)
    parts (x ∷ y ∷ []) l e f g = absurd (omega arith)
    parts (x ∷ y ∷ z ∷ r) l e f g = cc (e, f, g)

-- no reading decides its key
pub ss3_front : (reading : Reading) (u : List ℕ) → Begins SS3 u → front_key reading.dialect reading u ≡ None
ss3_front reading u b = subst (λ t. front_key reading.dialect reading t ≡ None) (sym b.1) (by_dialect reading.dialect)
  where
    by_dialect : (dialect : Dialect) → front_key dialect reading (27 ∷ 79 ∷ b.0) ≡ None
    by_dialect Extended = refl
    by_dialect Termwiz = refl
