use Rattle.std.proofs.Common.{sym, subst, arith}
use Rattle.std.specs.Prelude.{Some}
use Rattle.memchr.specs.Find.{FindsNeedle}
use Rattle.termwiz_keymap.proofs.lemmas.lists.FindFromOffset.{none_from, found_from}
use Rattle.termwiz_keymap.proofs.bytes.find_from.Goals as goal

pub returns-in_err-found-clause-first : goal.returns-in_err-found-clause-first
returns-in_err-found-clause-first c =
    subst (FindsNeedle c.args.text.now c.args.needle.now c.args.offset) (sym c.from_residual.ensures)
    (none_from c.args.text.now c.args.needle.now c.args.offset c.requires c.in_err-found.ensures)

-- the place is the offset and what was found, however that sum is written
pub returns-clause-first : goal.returns-clause-first
returns-clause-first c =
    subst (λ place. FindsNeedle c.args.text.now c.args.needle.now c.args.offset (Some place)) (omega arith)
    (found_from c.args.text.now c.args.needle.now c.args.offset c.in_ok-found.found c.requires c.in_ok-found.ensures)
