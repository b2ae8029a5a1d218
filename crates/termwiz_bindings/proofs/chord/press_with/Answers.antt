use Rattle.std.proofs.Common.{◌≡◌, ◌∙◌, get_or, refl, arith}
use Rattle.termwiz_bindings.proofs.lemmas.CodedPresses.{press_read, stands_read}
use Rattle.termwiz_bindings.proofs.chord.press_with.Goals as goal

pub returns-in_err-key-clause-only : goal.returns-in_err-key-clause-only
returns-in_err-key-clause-only c = λ press is same.
    let high : c.from.result ≡ get_or c.args.code.now 1 0 = c.from.ensures in
    let middle : c.from-2.result ≡ get_or c.args.code.now 2 0 = c.from-2.ensures in
    let low : c.from-3.result ≡ get_or c.args.code.now 3 0 = c.from-3.ensures in
    absurd (cc (c.in_err-key.ensures.only press.key (stands_read c.args.code.now press _ _ is same c.from-4.ensures (omega (arith, high, middle, low)))))

pub returns-clause-only : goal.returns-clause-only
returns-clause-only c = λ press is same.
    let high : c.from.result ≡ get_or c.args.code.now 1 0 = c.from.ensures in
    let middle : c.from-2.result ≡ get_or c.args.code.now 2 0 = c.from-2.ensures in
    let low : c.from-3.result ≡ get_or c.args.code.now 3 0 = c.from-3.ensures in
    let found = c.in_ok-key.ensures.only press.key (stands_read c.args.code.now press _ _ is same c.from-4.ensures (omega (arith, high, middle, low))) in
    let key : c.in_ok-key.key ≡ press.key = cc (found) in
    c.new.ensures.value ∙ press_read c.args.code.now press c.in_ok-key.key _ is same key refl
