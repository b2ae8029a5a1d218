-- The first place of a row of some keys that is read as a report.
use Rattle.std.proofs.Common.{◌≡◌, ◌⊎◌, inl, inr, ⊎_elim, ℕ, ◌≤◌, Bool, true, false, List, refl, sym, ap, ◌∙◌, subst, arith, min, Some, None, Option}
use Rattle.std.specs.Prelude.{◌==◌}
use Rattle.std.proofs.lemmas.Bool.Decides.{nat_tests}
use Rattle.std.specs.FinMap as map
use Rattle.termwiz_base.specs.declared.modifiers.Modifiers.{Modifiers}
use Rattle.termwiz_keys.specs.declared.types.KeyCode.{KeyCode}
use Rattle.termwiz_keys.specs.declared.types.KeyCode.TheVariants.{Char}
use Rattle.termwiz_keys.specs.declared.types.KeyEvent.{KeyEvent}
use Rattle.termwiz_grammar.specs.RowsInOrder.{IsRowAt}
use Rattle.termwiz_grammar.specs.Laws.{row_count}
use Rattle.termwiz_grammar.specs.Table.{table, key_of_code}
use Rattle.termwiz_grammar.proofs.lemmas.table.TableAsMap.{rows_in_order}
use Rattle.termwiz_extended_events.specs.declared.types.KeyReport.{KeyReport}
use Rattle.termwiz_extended_events.specs.declared.types.Reading.{Reading}
use Rattle.termwiz_senders.specs.KeyTexts.{IsReadAsKey, IsFirstRow}
use Rattle.termwiz_senders.specs.RowKeys.{IsAny, IsFirstRead, HasCode, main_code, row_code, row_modifiers, first_character, second_character}
use Rattle.termwiz_senders.proofs.lemmas.ReadAlone.{NoneBefore, row_once_at}
use Rattle.termwiz_senders.proofs.lemmas.RowKeysRead.{MayBeKey, row_key_read}

-- a row that is read, and none before it is
pub found_read : (reading : Reading) (r : KeyReport) (key own : KeyEvent) (place : ℕ) (row : List ℕ) → IsRowAt place row own
    → IsReadAsKey reading r row → NoneBefore reading r key place → IsFirstRead (λ k. k ≡ key) reading r place
found_read reading r key own place row here read none = record {
  own = λ bytes k at. subst (IsReadAsKey reading r) (row_once_at place row bytes own k here at).0 read;
  none = λ before bytes k below at its. none before bytes below (subst (IsRowAt before bytes) its at);
}

-- no row is at the place
pub none_read : (reading : Reading) (r : KeyReport) (key : KeyEvent) (place : ℕ) → NoneBefore reading r key place → map.len table ≤ place
    → IsFirstRead (λ k. k ≡ key) reading r place
none_read reading r key place none all = record {
  own = λ bytes k at. absurd (omega (arith, all, at.inside));
  none = λ before bytes k below at its. none before bytes below (subst (IsRowAt before bytes) its at);
}

-- with no code there is no such row, and none is at so far a place
pub none_far : (reading : Reading) (r : KeyReport) (code : Option KeyCode) (modifiers : Modifiers) (place : ℕ) → code ≡ None
    → row_count ≤ place → IsFirstRead (HasCode code modifiers) reading r place
none_far reading r code modifiers place none far = record {
  own = λ bytes k at. absurd (omega (arith, far, at.inside, rows_in_order.counted));
  none = λ before bytes k below at its. absurd (let h : None ≡ Some k.key = sym none ∙ its.0 in cc (h));
}

-- with a code it is one of the key with that code
pub of_code : (reading : Reading) (r : KeyReport) (code : Option KeyCode) (own : KeyCode) (modifiers : Modifiers) (place : ℕ) → code ≡ Some own
    → IsFirstRead (λ k. k ≡ record { key = own; modifiers = modifiers }) reading r place → IsFirstRead (HasCode code modifiers) reading r place
of_code reading r code own modifiers place is first = record {
  own = first.own;
  none = λ before bytes k below at its. first.none before bytes k below at (same k its);
}
  where
    same : (k : KeyEvent) → HasCode code modifiers k → k ≡ record { key = own; modifiers = modifiers }
    same k its = let both : Some own ≡ Some k.key = sym is ∙ its.0 in
        let key : own ≡ k.key = cc (both) in
        subst (λ c. k ≡ record { key = c; modifiers = modifiers }) (sym key) (ap (λ m. record { key = k.key; modifiers = m }) its.1)

-- the smaller of two places
pub first_of_both : (P Q : KeyEvent → Type 0) (reading : Reading) (r : KeyReport) (a b c : ℕ) → IsFirstRead P reading r a
    → IsFirstRead Q reading r b → c ≡ min a b → IsFirstRead (λ k. P k ⊎ Q k) reading r c
first_of_both P Q reading r a b c x y is = record {
  own = λ bytes k at. ⊎_elim
      (λ (left : c ≡ a). x.own bytes k (subst (λ p. IsRowAt p bytes k) left at))
      (λ (right : c ≡ b). y.own bytes k (subst (λ p. IsRowAt p bytes k) right at))
      (which a b c is);
  none = λ before bytes k below at its. ⊎_elim
      (λ (left : P k). x.none before bytes k (omega (arith, below, is)) at left)
      (λ (right : Q k). y.none before bytes k (omega (arith, below, is)) at right)
      its;
}
  where
    which : (a b c : ℕ) → c ≡ min a b → (c ≡ a) ⊎ (c ≡ b)
    which a b c e = grind arith

-- a key that may be a report has one of the codes
codes_of_main : (m k : KeyCode) → m ≡ main_code k → (m ≡ k) ⊎ ((first_character m ≡ Some k) ⊎ (second_character m ≡ Some k))
codes_of_main m (Char c) e = subst (λ n. (n ≡ Char c) ⊎ ((first_character n ≡ Some (Char c)) ⊎ (second_character n ≡ Some (Char c)))) (sym e)
    (go (c == 8) (c == 127) (c == 27) (c == 9) (c == 10) (c == 13) refl refl refl refl refl refl)
  where
    go : (p q s t u v : Bool) → (c == 8) ≡ p → (c == 127) ≡ q → (c == 27) ≡ s → (c == 9) ≡ t → (c == 10) ≡ u → (c == 13) ≡ v
        → (key_of_code c ≡ Char c) ⊎ ((first_character (key_of_code c) ≡ Some (Char c)) ⊎ (second_character (key_of_code c) ≡ Some (Char c)))
    go true q s t u v e1 e2 e3 e4 e5 e6 = let same : c ≡ 8 = grind (arith, nat_tests) in rw same (inr (inl refl))
    go false true s t u v e1 e2 e3 e4 e5 e6 = let same : c ≡ 127 = grind (arith, nat_tests) in rw same (inr (inr refl))
    go false false true t u v e1 e2 e3 e4 e5 e6 = let same : c ≡ 27 = grind (arith, nat_tests) in rw same (inr (inl refl))
    go false false false true u v e1 e2 e3 e4 e5 e6 = let same : c ≡ 9 = grind (arith, nat_tests) in rw same (inr (inl refl))
    go false false false false true v e1 e2 e3 e4 e5 e6 = let same : c ≡ 10 = grind (arith, nat_tests) in rw same (inr (inl refl))
    go false false false false false true e1 e2 e3 e4 e5 e6 = let same : c ≡ 13 = grind (arith, nat_tests) in rw same (inr (inr refl))
    go false false false false false false e1 e2 e3 e4 e5 e6 = rw (e1, e2, e3, e4, e5, e6) (inl refl)
codes_of_main m key e = inl e

-- The rows of these codes are all that may be read.
pub by_codes : (reading : Reading) (r : KeyReport) (code : KeyCode) (first second : Option KeyCode) (modifiers : Modifiers) (a b c place : ℕ)
    → row_code r ≡ Some code → modifiers.0 ≡ row_modifiers r.modifiers → first ≡ first_character code → second ≡ second_character code
    → IsFirstRead (HasCode (Some code) modifiers) reading r a → IsFirstRead (HasCode first modifiers) reading r b
    → IsFirstRead (HasCode second modifiers) reading r c → place ≡ min (min a b) c → IsFirstRead IsAny reading r place
by_codes reading r code first second modifiers a b c place is held first_is second_is x y z least = record {
  own = all.own;
  none = λ before bytes k below at any read. all.none before bytes k below at (its before bytes k at read) read;
}
  where
    Either : KeyEvent → Type 0
    Either k = HasCode (Some code) modifiers k ⊎ HasCode first modifiers k

    all : IsFirstRead (λ k. Either k ⊎ HasCode second modifiers k) reading r place
    all = first_of_both Either (HasCode second modifiers) reading r (min a b) c place
        (first_of_both (HasCode (Some code) modifiers) (HasCode first modifiers) reading r a b (min a b) x y refl) z least

    its : (before : ℕ) (bytes : List ℕ) (k : KeyEvent) → IsRowAt before bytes k → IsReadAsKey reading r bytes
        → Either k ⊎ HasCode second modifiers k
    its before bytes k at read = go (codes_of_main code k.key same)
      where
        may : MayBeKey r k
        may = row_key_read reading r bytes k ((rows_in_order.exactly bytes k).1 (before, at)) read

        same : code ≡ main_code k.key
        same = let both : Some code ≡ Some (main_code k.key) = sym is ∙ may.code in cc (both)

        bits : k.modifiers ≡ modifiers
        bits = ap (λ (n : ℕ). record { 0 = n }) (may.held ∙ sym held)

        go : (code ≡ k.key) ⊎ ((first_character code ≡ Some k.key) ⊎ (second_character code ≡ Some k.key))
            → Either k ⊎ HasCode second modifiers k
        go (inl own) = inl (inl (ap (λ c. Some c) own, bits))
        go (inr (inl one)) = inl (inr (first_is ∙ one, bits))
        go (inr (inr two)) = inr (second_is ∙ two, bits)

-- where no code is told no row is read
pub no_code_row : (reading : Reading) (r : KeyReport) → row_code r ≡ None → (bytes : List ℕ) → ¬ IsFirstRow reading r bytes
no_code_row reading r none bytes row =
    let may = row_key_read reading r bytes row.key ((rows_in_order.exactly bytes row.key).1 (row.place, row.here)) row.read in
    (let h : None ≡ Some (main_code row.key.key) = sym none ∙ may.code in cc (h))

-- the row at the place is the first one
pub first_row_at : (reading : Reading) (r : KeyReport) (place : ℕ) (bytes : List ℕ) (key : KeyEvent) → IsFirstRead IsAny reading r place
    → IsRowAt place bytes key → IsFirstRow reading r bytes
first_row_at reading r place bytes key is here = record {
  place = place;
  key = key;
  here = here;
  read = is.own bytes key here;
  first = λ before other its below at. is.none before other its below at tt;
}

-- if there is none at the place, there is no first one
pub no_first_row : (reading : Reading) (r : KeyReport) (place : ℕ) → IsFirstRead IsAny reading r place → map.len table ≤ place
    → (bytes : List ℕ) → ¬ IsFirstRow reading r bytes
no_first_row reading r place is all bytes row =
    is.none row.place bytes row.key (omega (arith, all, row.here.inside)) row.here tt row.read
