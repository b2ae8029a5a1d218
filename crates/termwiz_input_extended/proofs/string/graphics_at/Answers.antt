use Rattle.std.proofs.Common.{arith}
use Rattle.termwiz_input_extended.proofs.lemmas.strings.Openings.{graphics_found, graphics_begun}
use Rattle.termwiz_input_extended.proofs.string.graphics_at.Goals as goal

pub returns-in-71-2 : goal.returns-in-71-2
returns-in-71-2 c = graphics_begun c.args.rest.now (omega arith) (λ l. omega arith) (λ l. rw (c.if-not-is_ascii_alphabetic.false) at c.is_ascii_alphabetic.ensures.cases)

pub returns-in-71-3 : goal.returns-in-71-3
returns-in-71-3 c = graphics_found c.args.rest.now (omega arith) (omega arith)
    (rw (c.if-not-is_ascii_alphabetic.false) at c.is_ascii_alphabetic.ensures.cases) (omega arith)

pub returns-in-empty : goal.returns-in-empty
returns-in-empty c = graphics_begun c.args.rest.now (omega arith) (λ l. omega arith) (λ l. absurd (omega arith))

pub returns-in-empty-2 : goal.returns-in-empty-2
returns-in-empty-2 c = graphics_begun c.args.rest.now (omega arith) (λ l. omega arith) (λ l. absurd (omega arith))
