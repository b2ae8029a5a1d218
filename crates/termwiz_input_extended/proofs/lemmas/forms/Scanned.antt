-- Bytes that were looked at before.
use Rattle.std.proofs.Common.{◌≡◌, ◌≢◌, ℕ, ◌+◌, ◌-◌, ◌<◌, ◌≤◌, Bool, List, [], ◌∷◌, ◌++◌, length, take, drop, get_or, sym, ap, ◌∙◌, subst, arith, append_assoc, append-nil}
use Rattle.std.proofs.lemmas.List.{take-append-le}
use Rattle.std.specs.List.{AllByRecursion}
use Rattle.termwiz_keymap.proofs.lemmas.lists.CommonPrefixes.{append-some, true_from}
use Rattle.termwiz_grammar.specs.MouseReports.{IsDigit}
use Rattle.termwiz_extended_grammar.specs.Forms.{IsInner, IsControl, IsForm, IsUnfinishedForm}
use Rattle.termwiz_extended_grammar.specs.Forms.IsForm.{control, x10_report, console_key, keypad_key, modified_key, shifted_key, title}
use Rattle.termwiz_extended_grammar.proofs.lemmas.forms.FormBytes.{introducer_shape, rxvt_digits}
use Rattle.termwiz_extended_grammar.proofs.lemmas.items.StringItems.{string_append}
use Rattle.termwiz_input_extended.specs.FormAnswers.{IsScanned}
use Rattle.termwiz_input_extended.specs.FormAnswers.IsScanned.{at_start, in_control, in_string}
use Rattle.termwiz_input_extended.proofs.lemmas.forms.FrontAnswers.{true_of_first, two_first}

-- what was looked at stays so when the text grows
pub scanned_grows : (u s : List ℕ) (scanned : ℕ) → IsScanned u scanned → IsScanned (u ++ s) scanned
scanned_grows u s scanned (at_start l) = at_start l
scanned_grows u s scanned (in_control inner rest e each l) =
    in_control inner (rest ++ s) (ap (λ z. z ++ s) e ∙ ap (λ z. 27 ∷ 91 ∷ z) (append_assoc inner rest s)) each l
scanned_grows u s scanned (in_string kind head bytes after is l) =
    in_string kind head bytes (after ++ s) (string_append u s kind head bytes after is) l

none_before : (P : ℕ → Type 0) (r : List ℕ) (scanned : ℕ) → scanned ≤ 2 → AllByRecursion P (take (scanned - 2) r)
none_before P r scanned l = let none : 0 ≡ scanned - 2 = omega arith in subst (λ n. AllByRecursion P (take n r)) none tt

all_before : (P : ℕ → Type 0) (r run rest : List ℕ) (scanned : ℕ) → r ≡ run ++ rest → AllByRecursion P run
    → scanned ≤ 2 + length run → AllByRecursion P (take (scanned - 2) r)
all_before P r run rest scanned e all l = subst (AllByRecursion P)
    (sym (ap (take (scanned - 2)) e ∙ take-append-le (scanned - 2) run rest (omega arith)))
    (true_of_first P run (scanned - 2) all)

pub scanned_control : (r : List ℕ) (scanned : ℕ) → IsScanned (27 ∷ 91 ∷ r) scanned → AllByRecursion IsInner (take (scanned - 2) r)
scanned_control r scanned (at_start l) = none_before IsInner r scanned l
scanned_control r scanned (in_control inner rest e each l) = all_before IsInner r inner rest scanned (cc (e)) each l
scanned_control r scanned (in_string kind head bytes after is l) = absurd (
    let i = introducer_shape kind in
    let all : 27 ∷ 91 ∷ r ≡ 27 ∷ i.0 ∷ (head ++ (bytes ++ after)) = is.splits ∙ ap (λ z. z ++ head ++ (bytes ++ after)) i.1 in
    let same : i.0 ≡ 91 = cc (all) in
    omega (arith, i.2)
    )

pub scanned_control_at : (u : List ℕ) (scanned n : ℕ) → 1 < length u → get_or u 0 0 ≡ 27 → get_or u 1 0 ≡ 91 → n ≡ scanned - 2
    → IsScanned u scanned → AllByRecursion IsInner (take n (take (length u - 2) (drop 2 u)))
scanned_control_at u scanned n l escape second e h =
    let rest : List ℕ = take (length u - 2) (drop 2 u) in
    subst (λ k. AllByRecursion IsInner (take k rest)) (sym e)
    (scanned_control rest scanned (subst (λ z. IsScanned z scanned) (sym (two_first u 27 91 l escape second)) h))

-- what comes before the last element
front_true : (P : ℕ → Type 0) (r tail a : List ℕ) (v : ℕ) → AllByRecursion P a → tail ≢ [] → r ++ tail ≡ a ++ v ∷ []
    → AllByRecursion P r
front_true P [] tail a v all some e = tt
front_true P (c ∷ r) tail [] v all some e = absurd (append-some r tail some (cc (e)))
front_true P (c ∷ r) tail (b ∷ a) v all some e =
    (subst P (let q : b ≡ c = cc (e) in q) all.0, front_true P r tail a v all.1 some (cc (e)))

-- where to look on in an unfinished control sequence
pub scanned_unfinished : {x10_mouse : Bool} (u : List ℕ) → 2 < length u → get_or u 1 0 ≡ 91 → IsInner (get_or u 2 0) → IsUnfinishedForm x10_mouse u
    → IsScanned u (length u - 1)
scanned_unfinished {x10_mouse = x10_mouse} [] l second third f = absurd (omega arith)
scanned_unfinished {x10_mouse = x10_mouse} (x ∷ []) l second third f = absurd (omega arith)
scanned_unfinished {x10_mouse = x10_mouse} (x ∷ y ∷ []) l second third f = absurd (omega arith)
scanned_unfinished {x10_mouse = x10_mouse} (x ∷ y ∷ c ∷ r) l second third f = go f.is_form
  where
    by_control : IsControl x10_mouse (x ∷ y ∷ c ∷ (r ++ f.tail)) → IsScanned (x ∷ y ∷ c ∷ r) (length (x ∷ y ∷ c ∷ r) - 1)
    by_control g =
        let each = front_true IsInner (c ∷ r) f.tail g.inner g.last g.each f.longer (cc (g.form)) in
        let first : x ≡ 27 = cc (g.form) in
        in_control (c ∷ r) [] (cc (first, second, append-nil r)) each (omega arith)

    go : IsForm x10_mouse (x ∷ y ∷ c ∷ (r ++ f.tail)) → IsScanned (x ∷ y ∷ c ∷ r) (length (x ∷ y ∷ c ∷ r) - 1)
    go (control g) = by_control g
    go (x10_report on g) = absurd (let same : c ≡ 77 = cc (g.form) in omega arith)
    go (console_key g) = absurd (let same : c ≡ 91 = cc (g.form) in omega arith)
    go (keypad_key g) = absurd (let same : y ≡ 79 = cc (g.form) in omega arith)
    go (modified_key g) = absurd (let same : y ≡ 79 = cc (g.form) in omega arith)
    go (shifted_key g) =
        let each = front_true IsInner (c ∷ r) f.tail g.number 36
        (true_from IsDigit IsInner (λ b d. (omega arith, omega arith)) g.number (rxvt_digits g.number g.number_is)) f.longer (cc (g.form)) in
        let first : x ≡ 27 = cc (g.form) in
        in_control (c ∷ r) [] (cc (first, second, append-nil r)) each (omega arith)
    go (title g) = absurd (let same : y ≡ 93 = cc (g.form) in omega arith)
