-- What is at the front of a text, as far as openings go: from a head, from a completion, or from the want of both.
use Rattle.std.proofs.Common.{◌≡◌, ◌≢◌, ◌⊎◌, inl, inr, ℕ, suc, ◌+◌, ◌<◌, ◌≤◌, false, List, [], ◌∷◌, ◌++◌, length, take, drop, get_or, refl, sym, ap, ◌∙◌, subst, arith, append_assoc, append-nil, length-take-le}
use Rattle.std.specs.List.{AllByRecursion}
use Rattle.std.proofs.lemmas.Bool.{cases_lt}
use Rattle.termwiz_keymap.specs.Bytes.{Begins}
use Rattle.termwiz_keymap.proofs.lemmas.lists.CommonPrefixes.{append-some}
use Rattle.termwiz_grammar.specs.MouseReports.{IsDigit}
use Rattle.termwiz_extended_events.specs.declared.types.StringKind.{StringKind}
use Rattle.termwiz_extended_events.specs.declared.types.StringKind.TheVariants.{Osc, Dcs, Apc}
use Rattle.termwiz_extended_grammar.specs.Forms.{introducer}
use Rattle.termwiz_extended_grammar.specs.Strings.{IsHead, IsShortNumber, IsLetter}
use Rattle.termwiz_extended_grammar.proofs.lemmas.forms.FormBytes.{IsOpening, introducer_shape, first_other}
use Rattle.termwiz_extended_grammar.proofs.lemmas.forms.FormEnds.{mark_ends}
use Rattle.termwiz_extended_grammar.proofs.lemmas.items.StringFronts.{head_inside, unfinished_inside, unfinished_outside}
use Rattle.termwiz_extended_grammar.proofs.lemmas.items.StringItems.{parted_once}
use Rattle.termwiz_input_extended.specs.declared.string.OpeningAt.TheVariants.{Opening, Unfinished, Absent}
use Rattle.termwiz_input_extended.specs.StringAnswers.{HasOpening}
use Rattle.termwiz_input_extended.proofs.lemmas.forms.FrontAnswers.{parted_at, run_before}

opening_size : (kind : StringKind) (head : List ℕ) → 2 + length head ≡ length (introducer kind ++ head)
opening_size Osc head = omega arith
opening_size Dcs head = omega arith
opening_size Apc head = omega arith

pub opening_found : (kind : StringKind) (r head more : List ℕ) (len : ℕ) → IsHead kind head → r ≡ head ++ more → len ≡ 2 + length head
    → HasOpening (introducer kind ++ r) (Opening kind len)
opening_found kind r head more len is e l = record {
  head = head;
  is_head = is;
  begins = (more, ap (λ z. introducer kind ++ z) e ∙ sym (append_assoc (introducer kind) head more));
  len_is = l ∙ opening_size kind head;
}

as_opening : (kind : StringKind) (head : List ℕ) → IsHead kind head → IsOpening (introducer kind ++ head)
as_opening kind head is = record { kind = kind; head = head; is_head = is; form = refl }

-- what properly begins a head doesn't begin with one
pub opening_begun : (kind : StringKind) (r tail : List ℕ) → tail ≢ [] → IsHead kind (r ++ tail)
    → HasOpening (introducer kind ++ r) Unfinished
opening_begun kind r tail longer is =
    ((λ o. none (head_inside kind r o)), unfinished_outside kind r tail longer is)
  where
    none : (head : List ℕ) × IsHead kind head × Begins head r → ⊥
    none (head, it, (more, e)) =
        let whole : r ++ tail ≡ head ++ (more ++ tail) = ap (λ z. z ++ tail) e ∙ append_assoc head more tail in
        append-some more tail longer (mark_ends {x10_mouse = false} (introducer kind ++ head) (more ++ tail) (inr (as_opening kind head it))
        (inr (subst IsOpening (ap (λ z. introducer kind ++ z) whole ∙ sym (append_assoc (introducer kind) head (more ++ tail)))
        (as_opening kind (r ++ tail) is))))

-- where no head begins like r
pub opening_none : (kind : StringKind) (r : List ℕ) → ((head x y : List ℕ) → IsHead kind head → head ++ x ≡ r ++ y → ⊥)
    → HasOpening (introducer kind ++ r) Absent
opening_none kind r none = (
  λ o. let h = head_inside kind r o in none h.0 h.2.0 [] h.1 (sym h.2.1 ∙ sym (append-nil r)),
  λ o. let h = unfinished_inside kind r o in none (r ++ h.0) [] h.0 h.2 (append-nil (r ++ h.0)),
)

-- an opening, of which nothing and ESC alone are beginnings
graphics_is : IsHead Apc (71 ∷ 97 ∷ 61 ∷ [])
graphics_is = record { letter = 97; form = refl; letter_is = inr (omega arith, omega arith) }

nothing_yet : HasOpening [] Unfinished
nothing_yet = (
  λ o. (
      let i = introducer_shape o.kind in
      let all : [] ≡ 27 ∷ i.0 ∷ (o.head ++ o.begins.0) = o.begins.1 ∙ ap (λ z. z ++ o.head ++ o.begins.0) i.1 in
      cc (all)
      ),
  record {
    tail = introducer Apc ++ 71 ∷ 97 ∷ 61 ∷ [];
    longer = λ h. cc (h);
    kind = Apc;
    head = 71 ∷ 97 ∷ 61 ∷ [];
    is_head = graphics_is;
    spells = refl;
  },
)

escape_alone : HasOpening (27 ∷ []) Unfinished
escape_alone = (
  λ o. (
      let i = introducer_shape o.kind in
      let all : 27 ∷ [] ≡ 27 ∷ i.0 ∷ (o.head ++ o.begins.0) = o.begins.1 ∙ ap (λ z. z ++ o.head ++ o.begins.0) i.1 in
      cc (all)
      ),
  record {
    tail = 95 ∷ 71 ∷ 97 ∷ 61 ∷ [];
    longer = λ h. cc (h);
    kind = Apc;
    head = 71 ∷ 97 ∷ 61 ∷ [];
    is_head = graphics_is;
    spells = refl;
  },
)

pub nothing_at : (u : List ℕ) → length u ≡ 0 → HasOpening u Unfinished
nothing_at [] l = nothing_yet
nothing_at (x ∷ u) l = absurd (omega arith)

pub escape_at : (u : List ℕ) → length u ≡ 1 → get_or u 0 0 ≡ 27 → HasOpening u Unfinished
escape_at [] l e = absurd (omega arith)
escape_at (x ∷ []) l e = subst (λ z. HasOpening (z ∷ []) Unfinished) (sym e) escape_alone
escape_at (x ∷ y ∷ u) l e = absurd (omega arith)

-- digits at the front
pub record Digits (r : List ℕ) (d : ℕ) : Type 0 where
  pub each : AllByRecursion IsDigit (take d r)
  pub few : d ≤ 5
  pub stops : d < 5 → d < length r → ¬ IsDigit (get_or r d 0)

pub digits_from : (r : List ℕ) (d : ℕ) → AllByRecursion IsDigit (take d r) → d ≤ 5
    → (d < 5 → d < length r → ¬ IsDigit (get_or r d 0)) → Digits r d
digits_from r d each few stops = record { each = each; few = few; stops = stops }

pub short_number : (r : List ℕ) (d : ℕ) → Digits r d → 0 < d → d ≤ length r → IsShortNumber (take d r)
short_number r d n some inside =
    let size : length (take d r) ≡ d = length-take-le d r inside in
    record { each = n.each; some = λ none. omega (arith, ap length none); short = omega (arith, n.few) }

-- a number that begins like r has its digits
pub number_meets : (digits r x y : List ℕ) (d v : ℕ) → AllByRecursion IsDigit digits → length digits ≤ 5 → ¬ IsDigit v → Digits r d
    → d < length r → digits ++ v ∷ x ≡ r ++ y → (digits ≡ take d r) × (v ∷ x ≡ get_or r d 0 ∷ (drop (suc d) r ++ y))
number_meets digits r x y d v each short no_digit n inside e = go (cases_lt d 5)
  where
    size : length (take d r) ≡ d
    size = length-take-le d r (omega arith)

    same : digits ++ v ∷ x ≡ take d r ++ get_or r d 0 ∷ (drop (suc d) r ++ y)
    same = e ∙ ap (λ z. z ++ y) (sym (parted_at r d inside)) ∙ append_assoc (take d r) (get_or r d 0 ∷ drop (suc d) r) y

    go : (d < 5) ⊎ (5 ≤ d) → (digits ≡ take d r) × (v ∷ x ≡ get_or r d 0 ∷ (drop (suc d) r ++ y))
    go (inl below) =
        let f = first_other IsDigit digits (take d r) x (drop (suc d) r ++ y) v (get_or r d 0) each n.each no_digit
        (n.stops below inside) same in
        (f.0, cc (f.1, f.2))
    go (inr all) =
        let past = run_before IsDigit (take d r) (get_or r d 0 ∷ (drop (suc d) r ++ y)) digits x v n.each no_digit same in
        parted_once digits (take d r) (v ∷ x) (get_or r d 0 ∷ (drop (suc d) r ++ y)) (omega (arith, n.few, size, past)) same

-- G, a letter and =
pub graphics_found : (r : List ℕ) → 2 < length r → get_or r 0 0 ≡ 71 → IsLetter (get_or r 1 0) → get_or r 2 0 ≡ 61
    → HasOpening (introducer Apc ++ r) (Opening Apc 5)
graphics_found [] l e is f = absurd (omega arith)
graphics_found (a ∷ []) l e is f = absurd (omega arith)
graphics_found (a ∷ b ∷ []) l e is f = absurd (omega arith)
graphics_found (a ∷ b ∷ c ∷ r) l e is f = opening_found Apc (a ∷ b ∷ c ∷ r) (71 ∷ b ∷ 61 ∷ []) r 5
    (record { letter = b; form = refl; letter_is = is }) (cc (e, f)) refl

pub graphics_begun : (r : List ℕ) → length r < 3 → (0 < length r → get_or r 0 0 ≡ 71) → (1 < length r → IsLetter (get_or r 1 0))
    → HasOpening (introducer Apc ++ r) Unfinished
graphics_begun [] l e is = opening_begun Apc [] (71 ∷ 97 ∷ 61 ∷ []) (λ h. cc (h)) graphics_is
graphics_begun (a ∷ []) l e is = subst (λ z. HasOpening (27 ∷ 95 ∷ z ∷ []) Unfinished) (sym (e (omega arith)))
    (opening_begun Apc (71 ∷ []) (97 ∷ 61 ∷ []) (λ h. cc (h)) graphics_is)
graphics_begun (a ∷ b ∷ []) l e is = subst (λ z. HasOpening (27 ∷ 95 ∷ z ∷ b ∷ []) Unfinished) (sym (e (omega arith)))
    (opening_begun Apc (71 ∷ b ∷ []) (61 ∷ []) (λ h. cc (h))
    (record { letter = b; form = refl; letter_is = is (omega arith) }))
graphics_begun (a ∷ b ∷ c ∷ r) l e is = absurd (omega arith)
