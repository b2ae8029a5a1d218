-- The row of a control character, and where it is at the front of a text.
use Rattle.std.proofs.Common.{◌≡◌, ◌≢◌, ⊎_elim, ℕ, ◌+◌, ◌-◌, ◌≤◌, Bool, true, List, [], ◌∷◌, ◌++◌, length, take, refl, sym, ap, subst, arith, bytes_eq, drop, get_or, ◌<◌, Contains}
use Rattle.std.specs.Prelude.{Some, filter}
use Rattle.std.specs.Map.{lookup}
use Rattle.std.proofs.lemmas.Map.Views.{Contains-from_lookup}
use Rattle.std.proofs.lemmas.Slice.Eq.{bytes_eq-Decides}
use Rattle.std.proofs.lemmas.List.Elements.{Contains-append_left}
use Rattle.termwiz_keymap.specs.Bytes.{Begins}
use Rattle.termwiz_keys.specs.Keys.{key_with, CTRL, NONE}
use Rattle.termwiz_keys.specs.declared.types.KeyCode.TheVariants.{Char, Backspace, Tab, Enter}
use Rattle.termwiz_keys.specs.declared.types.KeyEvent.{KeyEvent}
use Rattle.termwiz_keys.specs.declared.types.InputEvent.TheVariants.{Key}
use Rattle.termwiz_grammar.specs.Sequences.{Meaning, IsSequence}
use Rattle.termwiz_grammar.specs.Sequences.Meaning.{Row}
use Rattle.termwiz_grammar.specs.Grammar.{IsOpen, IsUnfinishedSequence, IsUnfinishedCharacter}
use Rattle.termwiz_grammar.specs.Table.{rows, written_out, numbers, control_letter, control_letters_rows, is_letter}
use Rattle.termwiz_grammar.proofs.lemmas.characters.CharacterPrefixes.{sequence_finished}
use Rattle.termwiz_grammar.proofs.lemmas.lists.ListMembers.{in_filter, in_map, in_numbers}
use Rattle.termwiz_grammar.proofs.lemmas.table.RowShape.{Bytes}
use Rattle.termwiz_grammar.proofs.lemmas.table.RowShape.Bytes.{one, more}
use Rattle.termwiz_grammar.proofs.lemmas.table.SequenceFacts.{sequence_bytes}
use Rattle.termwiz_input.specs.Matches.{IsItemAt}
use Rattle.termwiz_input.proofs.lemmas.items.ItemByHead.{row_stands}

-- a row that a search by its bytes finds is in the table
pub row_by_bytes : (text : List ℕ) (key : KeyEvent) → lookup (bytes_eq text) rows ≡ Some key → Contains rows (text, key)
row_by_bytes text key found =
    Contains-from_lookup (λ (s t : List ℕ) (e : bytes_eq s t ≡ true). (bytes_eq-Decides s t).0 e) text key rows found

-- the rows of single bytes
pub backspace_row : Contains rows (8 ∷ [], key_with Backspace NONE)
unfolding written_out
backspace_row = row_by_bytes (8 ∷ []) (key_with Backspace NONE) refl

pub delete_row : Contains rows (127 ∷ [], key_with Backspace NONE)
unfolding written_out
delete_row = row_by_bytes (127 ∷ []) (key_with Backspace NONE) refl

pub tab_row : Contains rows (9 ∷ [], key_with Tab NONE)
unfolding written_out
tab_row = row_by_bytes (9 ∷ []) (key_with Tab NONE) refl

pub line_feed_row : Contains rows (10 ∷ [], key_with Enter NONE)
unfolding written_out
line_feed_row = row_by_bytes (10 ∷ []) (key_with Enter NONE) refl

pub return_row : Contains rows (13 ∷ [], key_with Enter NONE)
unfolding written_out
return_row = row_by_bytes (13 ∷ []) (key_with Enter NONE) refl

pub control_letter_row : (b : ℕ) → 1 ≤ b → b ≤ 26 → is_letter b ≡ true → Contains rows (b ∷ [], key_with (Char (96 + b)) CTRL)
unfolding rows control_letters_rows numbers
control_letter_row b low high letter =
    let place : 1 + (b - 1) ≡ b = omega (arith, low) in
    let number : Contains (numbers 1 26) b = subst (λ n. Contains (numbers 1 26) n) place (in_numbers 1 26 (b - 1) (omega (arith, high))) in
    Contains-append_left control_letters_rows _ (b ∷ [], key_with (Char (96 + b)) CTRL)
    (in_map control_letter (filter is_letter (numbers 1 26)) b (in_filter is_letter (numbers 1 26) b number letter))

-- a text by its first byte
pub first_and_rest : (u : List ℕ) → 0 < length u → u ≡ get_or u 0 0 ∷ drop 1 u
first_and_rest [] some = absurd (omega arith)
first_and_rest (x ∷ u) some = refl

-- a row of one byte that isn't ESC is an item where the text begins with it
module _ (u : List ℕ) (b : ℕ) (rest : List ℕ) (key : KeyEvent) (split : u ≡ b ∷ rest) (other : b ≢ 27) (row : Contains rows (b ∷ [], key)) where
  known : IsSequence (b ∷ []) (Row key)
  unfolding IsSequence
  known = row

  begins : Begins (b ∷ []) u
  begins = (rest, split)

  at_most : (text : List ℕ) (m : Meaning) → IsSequence text m → Begins text u → length text ≤ 1
  at_most text m is c = go (sequence_bytes text m is)
    where
      go : Bytes text → length text ≤ 1
      go (one x l e) = omega (arith, ap length e)
      go (more t n e p) = absurd (other (cc (split, c.1, e)))

  unfinished : IsUnfinishedSequence u → ⊥
  unfinished h = go (sequence_bytes (u ++ h.tail) h.meaning h.is_sequence)
    where
      none_left : (r : List ℕ) → r ++ h.tail ≡ [] → h.tail ≡ []
      none_left [] e = e
      none_left (x ∷ r) e = absurd (cc (e))

      go : Bytes (u ++ h.tail) → ⊥
      go (one x l e) = h.longer (none_left rest (let same : rest ++ h.tail ≡ [] = cc (split, e) in same))
      go (more t n e p) = other (cc (split, e))

  pub one_byte_item : (f : Bool) → IsItemAt u f (Key key) 1
  one_byte_item f = row_stands u f key 1 closed (
    omega (arith, ap length split),
    record {
      is_sequence = subst (λ t. IsSequence t (Row key)) (sym first) known;
      begins = subst (λ t. Begins t u) (sym first) begins;
      longest = λ text m is c. rw (first) (at_most text m is c);
    },
  ) (λ c. other (cc (split, c.1))) (λ e. absurd (other (cc (first, e))))
    where
      first : take 1 u ≡ b ∷ []
      first = ap (take 1) split

      closed : IsOpen u f → ⊥
      closed opens = ⊎_elim (λ (h : IsUnfinishedSequence u). unfinished h)
          (λ (h : IsUnfinishedCharacter u). sequence_finished (b ∷ []) u (Row key) known begins opens.some h) opens.beginning
