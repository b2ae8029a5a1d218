use Rattle.std.proofs.Common.{subst}
use Rattle.memchr.specs.Find.{FindsNeedle}
use Rattle.termwiz_keymap.proofs.readbuf.ReadBuffer.find_subsequence.Goals as goal

pub returns-clause-first : goal.returns-clause-first
returns-clause-first c = subst (λ u. FindsNeedle u c.args.needle.now c.args.offset c.find_from.result)
    c.as_slice.ensures c.find_from.ensures.first
