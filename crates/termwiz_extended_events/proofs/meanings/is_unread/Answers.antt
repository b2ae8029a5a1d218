use Rattle.std.proofs.Common.{◌≡◌, sym, ◌∙◌, Some}
use Rattle.termwiz_extended_events.proofs.UnreadEnds.{unread}
use Rattle.termwiz_extended_events.proofs.meanings.is_unread.Goals as goal

pub returns-in-Some-Some : goal.returns-in-Some-Some
returns-in-Some-Some c = λ yes.
    unread c.args.t.now c.in-Some-Some.last.now (sym c.in-Some-Some.ensures'.value) (c.is_unread_end.ensures.0 yes)
    (λ e. let same : Some c.in-Some-Some.first.now ≡ Some 77 = c.in-Some-Some.ensures.value ∙ e in
    c.if-first-ne77.true (let is : c.in-Some-Some.first.now ≡ 77 = cc (same) in is))
