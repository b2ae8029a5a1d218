use Rattle.keyshow.proofs.Numerals.{piece-parses}
use Rattle.keyshow.proofs.piece_in.Goals as goal

pub returns-in_default : goal.returns-in_default
returns-in_default c =
    piece-parses c.args.word.now c.parse.result c.in_default.field-0 c.parse.ensures.value.0 c.in_default.is
