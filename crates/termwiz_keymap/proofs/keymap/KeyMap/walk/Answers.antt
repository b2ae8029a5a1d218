use Rattle.std.proofs.Common.{ap, refl, length, arith}
use Rattle.termwiz_keymap.proofs.lemmas.rows.RangeLookups.{longest_found, none_found, extended_by}
use Rattle.termwiz_keymap.proofs.keymap.KeyMap.walk.Goals as goal

pub returns-then-longest-len-clause-longest : goal.returns-then-longest-len-clause-longest
returns-then-longest-len-clause-longest g c =
    longest_found c.args.self.now c.self.inside.rows c.self.invariant.ascending c.self.view_is c.args.text.now
    c.found_for-longest.result.0 c.found_for-longest.ensures.longest c.index-row.result.now (length c.key.result.now)
    c.index-row.result.now.value (omega (arith, c.if-longest-len.true, c.len.ensures)) c.index-row.ensures
    (ap length c.key.ensures) refl

pub returns-then-longest-len-clause-extended : goal.returns-then-longest-len-clause-extended
returns-then-longest-len-clause-extended g c =
    extended_by c.args.self.now c.self.inside.rows c.self.invariant.ascending c.self.view_is c.args.text.now
    c.found_for-longest.result.1 c.found_for-longest.ensures.goes_on

pub returns-else-longest-len-clause-none : goal.returns-else-longest-len-clause-none
returns-else-longest-len-clause-none g c =
    none_found c.args.self.now c.self.inside.rows c.self.invariant.ascending c.self.view_is c.args.text.now
    c.found_for-longest.result.0 c.found_for-longest.ensures.longest (omega (arith, c.if-longest-len.false, c.len.ensures))

pub returns-else-longest-len-clause-extended : goal.returns-else-longest-len-clause-extended
returns-else-longest-len-clause-extended g c =
    extended_by c.args.self.now c.self.inside.rows c.self.invariant.ascending c.self.view_is c.args.text.now
    c.found_for-longest.result.1 c.found_for-longest.ensures.goes_on

pub found_for-longest-requires-clause-remembered : goal.found_for-longest-requires-clause-remembered
found_for-longest-requires-clause-remembered g c = rw c.deref.ensures.value c.self.invariant.remembered
