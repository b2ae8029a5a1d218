use Rattle.std.proofs.Common.{◌∙◌, ◌++◌, ◌∷◌, [], sym, ap, arith, take, nat_lt, append-nil, append_assoc, string_bytes}
use Rattle.std.specs.Prelude.{if◌then◌else◌}
use Rattle.termwiz_bindings.specs.Names.{printed}
use Rattle.termwiz_bindings.specs.ChordNames.{printed_chord}
use Rattle.termwiz_bindings.proofs.lemmas.ChordSteps.{press_at, none_at, more_printed, all_printed}
use Rattle.termwiz_bindings.proofs.names.chords.push_chord.Goals as goal

pub loop-place-init : goal.loop-place-init
unfolding printed_chord
loop-place-init c = sym (append-nil (string_bytes c.args.out.now))

pub loop-place-preserved : goal.loop-place-preserved
loop-place-preserved c =
    let l = c.loop-place in
    let at = press_at c.args.chord.now l.place c.in-Some.press c.in-Some.ensures.press in
    let start = string_bytes c.args.out.now in
    let so_far = printed_chord (take l.place c.args.chord.now) in
    let next = (if nat_lt 0 l.place then 32 ∷ [] else []) ++ printed c.in-Some.press in
    c.in_ok-push_next.ensures ∙ ap (λ bytes. bytes ++ next) l.invariant ∙ append_assoc start so_far next
    ∙ ap (λ bytes. start ++ bytes) (sym (more_printed c.args.chord.now l.place c.in-Some.press at.0 at.1))

pub returns-in_default : goal.returns-in_default
returns-in_default c =
    let past = none_at c.args.chord.now c.loop-place.place c.in_default.ensures.press in
    absurd (omega (arith, past))

pub returns : goal.returns
returns c =
    c.loop-place.invariant
    ∙ ap (λ bytes. string_bytes c.args.out.now ++ bytes) (all_printed c.args.chord.now c.loop-place.place (omega arith))
