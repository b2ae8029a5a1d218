use Rattle.std.proofs.Common.{◌≡◌, ◌++◌, length, sym, ap, ◌∙◌, arith, append-nil}
use Rattle.std.proofs.lemmas.Bool.Decides.{nat_tests}
use Rattle.termwiz_senders.proofs.lemmas.SafeFronts.{nothing_left}
use Rattle.termwiz_senders.proofs.paste.push_safe.Goals as goal

pub returns : goal.returns
returns c =
    let sent = c.loop-rest.sent.items in
    let none : length c.loop-rest.rest.now ≡ 0 = grind (arith, nat_tests) in
    sym (append-nil sent) ∙ ap (λ t. sent ++ t) (sym (nothing_left c.loop-rest.rest.now none)) ∙ c.loop-rest.invariant
