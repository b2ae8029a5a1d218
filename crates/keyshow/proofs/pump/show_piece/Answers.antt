use Rattle.std.proofs.Common.{[], arith, rules}
use Rattle.std.specs.Io.KnownBytes.{Keeps}
use Rattle.std.proofs.KnownBytes.{Consumes-nil, Consumes-kept}
use Rattle.std.proofs.lemmas.Result.{err_from_is_err_and}
use Rattle.keyshow.proofs.Ended.{nothing}
use Rattle.keyshow.proofs.pump.show_piece.Goals as goal

pub returns-in_err-count-clause-err : goal.returns-in_err-count-clause-err
returns-in_err-count-clause-err g c =
    let p = err_from_is_err_and c.from_residual.result c.from_residual.ensures.1 in
    let kept : Keeps (g.R.Read.remaining c.args.reader.now) (g.R.Read.remaining c.read.new.self) = search rules in
    rw p.1 ([], omega arith, Consumes-kept _ _ _ [] (Consumes-nil _) kept, nothing c.one_meaning.ensures _ _)
