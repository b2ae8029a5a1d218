use Rattle.std.proofs.Common.{◌∙◌, List, Bool, true, add-one, take, string_bytes, subst, sym}
use Rattle.termwiz_bindings.specs.declared.press.KeyPress.{KeyPress}
use Rattle.hedrugal.specs.SentNames.{Appends, AreSent}
use Rattle.hedrugal.proofs.SentPresses.{one_more_sent, one_more_taken}
use Rattle.hedrugal.proofs.sent_names.chord_text.Goals as goal

pub loop-place-preserved : goal.loop-place-preserved
loop-place-preserved c =
    let l = c.loop-place in
    let press = c.in-Some.press in
    let before = string_bytes l.sent in
    let after = string_bytes c.push_press.new.sent in
    let sent : Appends c.args.modes press before true after =
    subst (λ (b : Bool). Appends c.args.modes press before b after) c.if-not-branch.false c.in_ok-push_press.ensures in
    let more = one_more_sent c.args.modes (take l.place c.args.chord.now) press before after l.invariant sent.0 sent.1 in
    let taken = one_more_taken c.args.chord.now l.place press (sym c.get.ensures.press ∙ c.in-Some.is) in
    rw add-one (subst (λ (ps : List KeyPress). AreSent c.args.modes ps after) (sym taken) more)
