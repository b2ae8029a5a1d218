use Rattle.std.proofs.Common.{◌≡◌, [], List, ℕ, sym, subst}
use Rattle.termwiz_grammar.specs.WaitingKinds.{IsOpenPaste}
use Rattle.termwiz_input.specs.Expiry.{FlushStep}
use Rattle.termwiz_input.specs.Expiry.FlushStep.{paste_ended}
use Rattle.termwiz_input.specs.PasteSearch.{IsPasteSoFar}
use Rattle.termwiz_input.proofs.lemmas.time.ExpirySteps.{items_flushed}
use Rattle.termwiz_input.proofs.time.next_flushed.Goals as goal

pub returns-in-Some-clause-event : goal.returns-in-Some-clause-event
returns-in-Some-clause-event c =
    let text : List ℕ = c.args.parser.now in
    let so_far : IsPasteSoFar text c.in-Some.event = rw c.in-Some.is at c.in_ok-event.ensures.event in
    let nothing : c.end_paste.new.self ≡ [] = rw c.in-Some.is at c.in_ok-event.ensures.nothing in
    subst (λ (u : List ℕ). FlushStep text c.in-Some.event u) (sym nothing) (paste_ended c.in-Some.event so_far)

pub returns-in-None-clause-event : goal.returns-in-None-clause-event
returns-in-None-clause-event c =
    let text : List ℕ = c.args.parser.now in
    let closed : ¬ IsOpenPaste text = rw c.in-None.is at c.in_ok-event.ensures.none in
    let same : c.end_paste.new.self ≡ text = rw c.in-None.is at c.in_ok-event.ensures.none_same in
    items_flushed text c.end_paste.new.self c.next_event.new.self c.next_event.result same closed c.next_event.ensures.event
