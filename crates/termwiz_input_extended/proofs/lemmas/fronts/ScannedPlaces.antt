-- What was looked at stays so while the text grows.
use Rattle.std.proofs.Common.{◌≡◌, ℕ, ◌+◌, ◌-◌, ◌≤◌, List, [], ◌∷◌, ◌++◌, length, sym, ap, ◌∙◌, subst, arith, length-append, Result, Ok, Err, OnOk, OnErr}
use Rattle.termwiz_keymap.specs.Bytes.{Begins}
use Rattle.termwiz_keymap.proofs.lemmas.lists.CommonPrefixes.{Begins-append}
use Rattle.termwiz_keys.specs.Introducers.{ESC}
use Rattle.termwiz_input_extended.specs.FormAnswers.{IsScanned}
use Rattle.termwiz_input_extended.specs.FormAnswers.IsScanned.{at_start}
use Rattle.termwiz_input_extended.specs.NextItems.{IsScannedTo}
use Rattle.termwiz_input_extended.proofs.lemmas.forms.Scanned.{scanned_grows}

-- nothing was looked at
pub scanned_none : (u : List ℕ) → IsScannedTo u 0
scanned_none u = record { within = omega arith; here = λ one. at_start (omega arith); after = λ v split b. at_start (omega arith) }

pub scanned_to_grows : (u s : List ℕ) (place : ℕ) → IsScannedTo u place → IsScannedTo (u ++ s) place
scanned_to_grows u s place is = record {
  within = omega (arith, length-append u s, is.within);
  here = λ one. scanned_grows u s place (is.here (λ b. one (Begins-append (ESC ++ ESC) u s b)));
  after = λ v split b. after_longer u v is split b;
}
  where
    after_longer : (w v : List ℕ) → IsScannedTo w place → w ++ s ≡ ESC ++ v → Begins ESC v → IsScanned v (place - 1)
    after_longer [] v is split b = at_start (omega (arith, is.within))
    after_longer (x ∷ []) v is split b = at_start (omega (arith, is.within))
    after_longer (x ∷ y ∷ w) v is split b =
        let first : x ≡ 27 = cc (split) in
        let rest : v ≡ (y ∷ w) ++ s = cc (split) in
        let next : y ≡ 27 = cc (rest, b.1) in
        subst (λ z. IsScanned z (place - 1)) (sym rest) (scanned_grows (y ∷ w) s (place - 1)
        (is.after (y ∷ w) (ap (λ z. z ∷ y ∷ w) first) (w, ap (λ z. z ∷ w) next)))

-- a text that begins with one ESC, and one that begins with two
pub scanned_once : (u : List ℕ) (place : ℕ) → (Begins (ESC ++ ESC) u → ⊥) → place ≤ length u → IsScanned u place
    → IsScannedTo u place
scanned_once u place one within is = record {
  within = within;
  here = λ never. is;
  after = λ v split b. absurd (one (b.0, split ∙ ap (λ x. 27 ∷ x) b.1));
}

pub scanned_twice : (v : List ℕ) (place : ℕ) → Begins ESC v → place ≤ length v → IsScanned v place
    → IsScannedTo (27 ∷ v) (1 + place)
scanned_twice v place b within is = record {
  within = omega (arith, within);
  here = λ one. absurd (one (b.0, ap (λ x. 27 ∷ x) b.1));
  after = λ w split c. subst (λ x. IsScanned x (1 + place - 1)) (let h : v ≡ w = cc (split) in h)
      (subst (λ n. IsScanned v n) (let h : place ≡ 1 + place - 1 = omega arith in h) is);
}

-- a text whose first ESC no other one follows doesn't begin ESC ESC
pub no_second_escape : (u v : List ℕ) → u ≡ ESC ++ v → (Begins ESC v → ⊥) → Begins (ESC ++ ESC) u → ⊥
no_second_escape u v split never b = never (b.0, cc (split, b.1))

-- what was looked at stays so, whether bytes came or were refused
pub scanned_after_feed : {F : Type 0} (u new s : List ℕ) (place : ℕ) (result : Result (Unit {0}) F) → OnOk result (new ≡ u ++ s)
    → OnErr result (new ≡ u) → IsScannedTo u place → IsScannedTo new place
scanned_after_feed u new s place (Ok done) ok err is =
    subst (λ x. IsScannedTo x place) (sym ok) (scanned_to_grows u s place is)
scanned_after_feed u new s place (Err fault) ok err is = subst (λ x. IsScannedTo x place) (sym err) is
