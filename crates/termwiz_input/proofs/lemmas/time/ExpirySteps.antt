-- What is noted and flushed step by step is what `Expires` says.
use Rattle.std.proofs.Common.{◌≡◌, ◌↔◌, ℕ, Bool, true, false, IsTrue, List, [], ◌∷◌, sym, subst, Option, Result, Ok, Err, IfOk, IfSome, OnErr}
use Rattle.std.proofs.lemmas.Option.{IfSome_then}
use Rattle.std.proofs.lemmas.Result.{IfOk-weaker}
use Rattle.termwiz_keys.specs.declared.types.InputEvent.{InputEvent}
use Rattle.termwiz_grammar.specs.Grammar.{Steps}
use Rattle.termwiz_grammar.specs.WaitingKinds.{IsOpenPaste}
use Rattle.termwiz_input.specs.declared.time.Policy.{Policy}
use Rattle.termwiz_input.specs.declared.time.Seen.{Seen}
use Rattle.termwiz_input.specs.declared.time.Timer.{Timer}
use Rattle.termwiz_input.specs.Expiry.{Expires, FlushStep, Flushes, IsSeen}
use Rattle.termwiz_input.specs.Expiry.Expires.{stays, flushed}
use Rattle.termwiz_input.specs.Expiry.FlushStep.{item_read}
use Rattle.termwiz_input.specs.Time.{IsDue, noted}

-- what holds anyway holds after an error
pub OnErr-of_any : {X F P : Type 0} (result : Result X F) → P → OnErr result P
OnErr-of_any (Ok value) holds = tt
OnErr-of_any (Err fault) holds = holds

module _ (policy : Policy) (text : List ℕ) (timer : Timer) (now : ℕ) (seen : Seen) (first : Timer)
    (is_seen : IsSeen policy text false false seen) (first_is : first ≡ noted timer now seen) (due : Bool)
    (tells : IsTrue due ↔ IsDue first now) where
  pub stays_noted : due ≡ false → Expires policy text timer now true [] text first
  stays_noted not_due =
      let P : Timer → Type 0 = λ t. Expires policy text timer now true [] text t in
      let Q : Timer → Type 0 = λ t. IsDue t now in
      subst P (sym first_is)
      (stays seen is_seen (λ is. let yes : due ≡ true = tells.1 (subst Q (sym first_is) is) in cc))

  pub flushed_noted : (after : Seen) (last : Timer) (events : List InputEvent) (left : List ℕ) → due ≡ true
      → Flushes text events left → IsSeen policy left false true after → last ≡ noted first now after
      → Expires policy text timer now false events left last
  flushed_noted after last events left is_due flush is_after last_is =
      let P : Timer → Type 0 = λ t. Expires policy text timer now false events left t in
      let Q : Timer → Type 0 = λ t. IsDue t now in
      let R : Timer → Type 0 = λ t. P (noted t now after) in
      subst P (sym last_is)
      (subst R (sym first_is) (flushed seen after events left is_seen (subst Q first_is (tells.0 is_due)) flush is_after))

-- what was noted before a refusal is the last note
pub refused_noted : {X F : Type 0} (result : Result X F) (policy : Policy) (text : List ℕ) (timer : Timer) (now : ℕ) (seen : Seen)
    (first : Timer) → IsSeen policy text false false seen → first ≡ noted timer now seen
    → OnErr result ((told : Seen) × IsSeen policy text false false told × (first ≡ noted timer now told))
refused_noted (Ok value) policy text timer now seen first is_seen first_is = tt
refused_noted (Err fault) policy text timer now seen first is_seen first_is = (seen, is_seen, first_is)

-- an item that is read where no paste is open is one event of a flush
pub items_flushed : {F : Type 0} (text before left : List ℕ) (result : Result (Option InputEvent) F) → before ≡ text → ¬ IsOpenPaste text
    → IfOk result (λ found. IfSome found (λ event. Steps before false (event ∷ []) left))
    → IfOk result (λ found. IfSome found (λ event. FlushStep text event left))
items_flushed text before left result same closed read = IfOk-weaker result _ _
    (λ found some. IfSome_then found some
    (λ event steps. item_read event left closed (subst (λ (u : List ℕ). Steps u false (event ∷ []) left) same steps)))
    read
