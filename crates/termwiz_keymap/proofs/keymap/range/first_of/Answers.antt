use Rattle.std.proofs.Common.{◌≡◌, ◌+◌, ◌-◌, subst, arith}
use Rattle.termwiz_keymap.specs.KeyRanges.{IsFirstFrom}
use Rattle.termwiz_keymap.proofs.lemmas.rows.ByteSearch.{closed, closing_above, closing_all, closing_below}
use Rattle.termwiz_keymap.proofs.keymap.range.first_of.Goals as goal

pub returns-then-byte-limit-2 : goal.returns-then-byte-limit-2
returns-then-byte-limit-2 g c =
    let place = c.args.low + c.saturating_sub-ahead.result in
    let before = place - 1 in
    let one : before + 1 ≡ place = omega (arith, c.if-ahead-gt0.true) in
    let after = closing_above c.args.rows.now c.args.depth c.args.limit c.args.low c.args.high c.args.low c.args.high
    c.requires.rising (closing_all c.args.rows.now c.args.depth c.args.limit c.args.low c.args.high c.requires.ordered)
    before (omega (arith, c.if-ahead-gt0.true)) (omega (arith, c.if-ahead-high.true)) c.byte-then-byte-limit.result
    c.index-rows-low-then-byte-limit.result c.index-rows-low-then-byte-limit.is c.byte-then-byte-limit.ensures
    c.if-byte-limit-2.true in
    let here = closing_below c.args.rows.now c.args.depth c.args.limit c.args.low c.args.high (before + 1) c.args.high
    c.requires.rising after place (omega (arith, one)) (omega (arith, c.if-ahead-high.true))
    c.byte-then-ahead-high.result c.index-rows-low-then-ahead-high.result c.index-rows-low-then-ahead-high.is
    c.byte-then-ahead-high.ensures c.if-byte-limit.true in
    subst (λ p. IsFirstFrom c.args.rows.now c.args.depth c.args.limit c.args.low c.args.high p) one
    (closed c.args.rows.now c.args.depth c.args.limit c.args.low c.args.high (before + 1) place here (omega (arith, one)))
