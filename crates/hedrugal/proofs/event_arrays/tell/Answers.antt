use Rattle.std.proofs.Common.{rules}
use Rattle.hedrugal.proofs.WrittenEvents.{no_bytes_copied}
use Rattle.hedrugal.proofs.event_arrays.tell.Goals as goal

pub returns-else-shown-gt0-clause-told : goal.returns-else-shown-gt0-clause-told
returns-else-shown-gt0-clause-told c = λ done.
    no_bytes_copied c.args.held.now c.next.new.self _ _ (c.next.ensures.told (search rules)) c.if-shown-gt0.false
