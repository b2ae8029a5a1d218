-- What reports of keys tell.
use Rattle.std.proofs.Common.{◌≡◌, ◌⊎◌, inl, inr, ℕ, Bool, true, false, not, ◌&&◌, List, [], ◌∷◌, Option, Some, None, refl, sym, ap, ◌∙◌, append-nil}
use Rattle.std.specs.Prelude.{if◌then◌else◌, is_some}
use Rattle.std.specs.Str.{chars}
use Rattle.std.proofs.lemmas.Bool.{and_right}
use Rattle.termwiz_extended_events.specs.declared.types.Event.{Event}
use Rattle.termwiz_extended_events.specs.declared.types.Event.TheVariants.{Key}
use Rattle.termwiz_extended_events.specs.declared.types.KeyReport.{KeyReport}
use Rattle.termwiz_extended_events.specs.declared.types.Reading.{Reading}
use Rattle.termwiz_extended_grammar.specs.ExtendedGrammar.{Means}
use Rattle.termwiz_bindings.specs.declared.press.KeyPress.{KeyPress}
use Rattle.termwiz_bindings.specs.MainKeys.{makes_no_press}
use Rattle.termwiz_bindings.specs.Presses.{canonical, is_release, is_typed, may_type, settled_report, typed_press, typed_text, types_text}
use Rattle.termwiz_binding_laws.specs.EncodedPresses.{press_of_event}
use Rattle.termwiz_press_laws.specs.Things.{IsToldAs, Told, pressed_or_typed, told_of_report}
use Rattle.termwiz_press_laws.specs.Things.Told.{Pressed}

-- a press is told
pub press_tells : (r : KeyReport) (p : KeyPress) → canonical r ≡ Some p → told_of_report r ≡ Pressed p ∷ []
press_tells r p e = ap (λ o. pressed_or_typed o (typed_text r)) e

-- only a key has one
pub record IsPressOf (event : Event) (p : KeyPress) : Type 0 where
  pub report : KeyReport
  pub is_key : event ≡ Key report
  pub press : canonical report ≡ Some p

pub press_is : (event : Event) (p : KeyPress) → press_of_event event ≡ Some p → IsPressOf event p
press_is (Key r) p e = record { report = r; is_key = refl; press = e }
press_is event p e = absurd (cc (e))

-- a release tells nothing
pub release_tells : (r : KeyReport) → is_release r.kind ≡ true → told_of_report r ≡ []
unfolding canonical typed_text
release_tells r e = rw e refl

-- a text of at most one character
abbrev pub IsShort : List ℕ → Type 0
IsShort text = (text ≡ []) ⊎ ((c : ℕ) × (chars text ≡ c ∷ []))

chosen : (a b : Bool) (text : List ℕ) → text ≡ [] → (if a then [] else (if b then text else [])) ≡ []
chosen true b text none = refl
chosen false true text none = none
chosen false false text none = refl

never : (a b : Bool) (text : List ℕ) → b ≡ false → (if a then [] else (if b then text else [])) ≡ []
never true b text none = refl
never false true text none = absurd (cc (none))
never false false text none = refl

-- it isn't told as a text
pub short_text : (r : KeyReport) → IsShort r.text → typed_text r ≡ []
unfolding typed_text typed_press
short_text r (inl none) =
    chosen (is_release r.kind) (types_text r && not (is_some (typed_press (chars r.text) r.modifiers))) r.text none
short_text r (inr (c, one)) =
    never (is_release r.kind) (types_text r && not (is_some (typed_press (chars r.text) r.modifiers))) r.text
    (ap (λ cs. types_text r && not (is_some (typed_press cs r.modifiers))) one ∙ and_right (types_text r) false refl)

pub short_tells : (r : KeyReport) → IsShort r.text → told_of_report r ≡ pressed_or_typed (canonical r) []
short_tells r short = ap (pressed_or_typed (canonical r)) (short_text r short)

-- two reports of the same press tell the same
pub same_tells : (q r : KeyReport) → canonical q ≡ canonical r → IsShort q.text → IsShort r.text → told_of_report q ≡ told_of_report r
same_tells q r press one other =
    short_tells q one ∙ ap (λ o. pressed_or_typed o []) press ∙ sym (short_tells r other)

by_rule : (a t n : Bool) (o : Option KeyPress) (p : KeyPress) → a ≡ false → t ≡ false → n ≡ false
    → (if a then None else (if t then o else (if n then None else Some p))) ≡ Some p
by_rule true t n o p e f g = absurd (cc (e))
by_rule false true n o p e f g = absurd (cc (f))
by_rule false false true o p e f g = absurd (cc (g))
by_rule false false false o p e f g = refl

-- a key that makes a press has one, where no text is told
pub plain_press : (r : KeyReport) → is_release r.kind ≡ false → r.text ≡ [] → makes_no_press r.key ≡ false
    → canonical r ≡ Some (settled_report r)
unfolding canonical
plain_press r kept none makes =
    by_rule (is_release r.kind) (types_text r) (makes_no_press r.key) (typed_press (chars r.text) r.modifiers) (settled_report r) kept
    (ap (λ t. may_type r.key && is_typed r.modifiers t) none ∙ and_right (may_type r.key) false refl) makes

-- One key is told as its report.
pub one_key : (reading : Reading) (bytes : List ℕ) (more : Bool) (told : List Told) (r : KeyReport) → Means reading bytes more (Key r ∷ []) []
    → told_of_report r ≡ told → IsToldAs reading bytes more told reading
one_key reading bytes more told r means tells =
    record { events = Key r ∷ []; means = means; tells = append-nil (told_of_report r) ∙ tells; leaves = refl }
