use Rattle.std.proofs.Common.{refl, arith}
use Rattle.hedrugal.proofs.HeldCodes.{moved_front}
use Rattle.hedrugal.proofs.matcher_calls.remove_first.Goals as goal

pub returns-clause-codes : goal.returns-clause-codes
returns-clause-codes c =
    moved_front c.args.matcher.now.codes c.copy_within.new.self c.args.keys c.args.matcher.now.count _ _ refl refl c.requires.keys
    (omega arith) c.copy_within.ensures.after
