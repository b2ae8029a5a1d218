use Rattle.std.proofs.Common.{◌<◌, arith}
use Rattle.hedrugal.proofs.HeldCodes.{code_found, code_there, numbers_low}
use Rattle.hedrugal.proofs.chords.code_of.Goals as goal
use Rattle.hedrugal.proofs.chords.code_of.Goals.{then-numbers-gt255-via-then-numbers-gt255, then-numbers-gt255-via-else-numbers-gt255+then-numbers-gt16777215}

pub returns-then-numbers-gt255-clause-none : goal.returns-then-numbers-gt255-clause-none
returns-then-numbers-gt255-clause-none c = λ press is.
    let key : c.args.numbers.now.key < 256 = (numbers_low c.args.numbers.now press is).0 in
    let detail : c.args.numbers.now.detail < 0x1000000 = (numbers_low c.args.numbers.now press is).1 in
    elim c.then-numbers-gt255.branch [
      | then-numbers-gt255-via-then-numbers-gt255 w ↦ omega (arith, key, w.if-numbers-gt255.true)
      | then-numbers-gt255-via-else-numbers-gt255+then-numbers-gt16777215 w ↦ omega (arith, detail, w.if-numbers-gt16777215.true)
    ]

pub returns-then-is_code-clause-some : goal.returns-then-is_code-clause-some
returns-then-is_code-clause-some c = code_found c.args.numbers.now (c.is_code.ensures.0 c.if-is_code.true)

pub returns-else-is_code-clause-none : goal.returns-else-is_code-clause-none
returns-else-is_code-clause-none c = λ press is.
    let yes = c.is_code.ensures.1 (code_there c.args.numbers.now press is) in
    absurd (cc (yes, c.if-is_code.false))
