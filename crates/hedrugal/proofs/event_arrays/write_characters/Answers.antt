use Rattle.std.proofs.Common.{arith, rules}
use Rattle.hedrugal.proofs.WrittenEvents.{none_more, one_more_bare, written_on}
use Rattle.hedrugal.proofs.event_arrays.write_characters.Goals as goal

pub returns-then-not-next_character-clause-written : goal.returns-then-not-next_character-clause-written
returns-then-not-next_character-clause-written c =
    written_on _ _ _ _ _ _ _ _ _ c.loop-count.invariant.0
    (none_more c.loop-count.held c.next_character.new.self c.loop-count.count c.loop-count.events c.next_character.new.shown _
    (c.next_character.ensures.none_same (search rules)) (c.next_character.ensures.none_shown (search rules)))

pub loop-count-preserved : goal.loop-count-preserved
loop-count-preserved c = (
  written_on _ _ _ _ _ _ _ _ _ c.loop-count.invariant.0
      (one_more_bare c.loop-count.held c.next_character.new.self c.loop-count.count c.loop-count.events c.next_character.new.shown
      (omega (arith, c.loop-count-test.true)) (c.next_character.ensures.told (search rules)) (c.next_character.ensures.bare (search rules))),
  omega (arith, c.loop-count.invariant.1),
)
