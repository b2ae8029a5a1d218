-- The bytes with which sequences begin.
use Rattle.std.proofs.Common.{◌≡◌, ◌≢◌, ◌⊎◌, inl, inr, ⊎_elim, ℕ, ◌<◌, true, not, List, [], ◌∷◌, ◌++◌, refl, ap, subst, arith, Contains, get_or, ◌==◌}
use Rattle.std.specs.List.{list_all}
use Rattle.std.proofs.lemmas.Bool.Decides.{nat_tests}
use Rattle.std.proofs.lemmas.List.Elements.{All-contains}
use Rattle.std.proofs.lemmas.List.Sums.{AllPass-from_list_all}
use Rattle.termwiz_keys.specs.declared.types.KeyEvent.{KeyEvent}
use Rattle.termwiz_keymap.specs.Bytes.{Begins}
use Rattle.termwiz_grammar.specs.Table.{TableRow, rows, written_out}
use Rattle.termwiz_grammar.specs.Sequences.{Meaning, IsSequence}
use Rattle.termwiz_grammar.specs.Sequences.Meaning.{Row, Report}
use Rattle.termwiz_grammar.specs.Grammar.{IsUnfinishedSequence}
use Rattle.termwiz_grammar.proofs.lemmas.mouse.OneReport.{report_plain}
use Rattle.termwiz_grammar.proofs.lemmas.table.RowShape.{Bytes}
use Rattle.termwiz_grammar.proofs.lemmas.table.RowShape.Bytes.{one, more}
use Rattle.termwiz_grammar.proofs.lemmas.table.SequenceFacts.{sequence_bytes, sequence_some}

no_row_with_zero : list_all (λ r. not (get_or r.0 0 1 == 0)) rows ≡ true
unfolding written_out
no_row_with_zero = refl

-- no row begins with the byte 0
row_not_zero : (text : List ℕ) (k : KeyEvent) → Contains rows (text, k) → get_or text 0 1 ≢ 0
row_not_zero text k c =
    let passes : not (get_or text 0 1 == 0) ≡ true =
    All-contains (λ (r : TableRow). not (get_or r.0 0 1 == 0) ≡ true) rows (text, k)
    (AllPass-from_list_all (λ (r : TableRow). not (get_or r.0 0 1 == 0)) rows no_row_with_zero) c in
    grind (arith, nat_tests)

-- nor does any sequence
not_zero : (b : ℕ) (t : List ℕ) (m : Meaning) → IsSequence (b ∷ t) m → b ≢ 0
unfolding IsSequence
not_zero b t (Row k) c = row_not_zero (b ∷ t) k c
not_zero b t (Report r) c =
    let same : b ≡ 27 = ap (λ l. get_or l 0 0) (report_plain (b ∷ t) r c).1 in λ e. omega (arith, same, e)

abbrev pub BeginsSequence : ℕ → Type 0
BeginsSequence b = ((0 < b) × (b < 28)) ⊎ (b ≡ 127)

-- each sequence begins with one of these
pub first_byte : (b : ℕ) (t : List ℕ) (m : Meaning) → IsSequence (b ∷ t) m → BeginsSequence b
first_byte b t m is = go (sequence_bytes (b ∷ t) m is)
  where
    some : b ≢ 0
    some = not_zero b t m is

    go : Bytes (b ∷ t) → BeginsSequence b
    go (one c l e) =
        let same : b ≡ c = ap (λ x. get_or x 0 0) e in
        ⊎_elim (λ (low : c < 28). inl (omega (arith, some), omega arith)) (λ (last : c ≡ 127). inr (omega arith)) l
    go (more s n e p) = let same : b ≡ 27 = ap (λ x. get_or x 0 0) e in inl (omega arith, omega arith)

-- so no sequence begins a text with another first byte
pub none_begins : (b : ℕ) (u text : List ℕ) (m : Meaning) → (BeginsSequence b → ⊥) → IsSequence text m → Begins text (b ∷ u) → ⊥
none_begins b u [] m other is begins = sequence_some [] m is refl
none_begins b u (x ∷ text) m other is begins =
    let same : x ≡ b = cc (begins.1) in other (subst BeginsSequence same (first_byte x text m is))

-- and such a text properly begins none
pub none_unfinished : (b : ℕ) (u : List ℕ) → (BeginsSequence b → ⊥) → IsUnfinishedSequence (b ∷ u) → ⊥
none_unfinished b u other h = other (first_byte b (u ++ h.tail) h.meaning h.is_sequence)
