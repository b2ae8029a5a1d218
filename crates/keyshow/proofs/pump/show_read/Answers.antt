use Rattle.std.proofs.Common.{◌≡◌, ◌++◌}
use Rattle.std.proofs.lemmas.Result.{err_from_is_err_and}
use Rattle.keyshow.specs.Lines.{lines}
use Rattle.keyshow.proofs.Ended.{nothing, decided}
use Rattle.keyshow.proofs.pump.show_read.Goals as goal

pub returns-in_err-push_lines-clause-err : goal.returns-in_err-push_lines-clause-err
returns-in_err-push_lines-clause-err g c =
    let p = err_from_is_err_and c.from_residual.result c.from_residual.ensures.1 in
    rw p.1 (nothing c.one_meaning.ensures _ _)

pub returns-in_err-write_whole-clause-err : goal.returns-in_err-write_whole-clause-err
returns-in_err-write_whole-clause-err g c =
    let p =
    err_from_is_err_and c.from_residual-in_err-write_whole.result c.from_residual-in_err-write_whole.ensures.1 in
    let (events, means, text) = c.in_ok-push_lines.ensures.ok in
    let (part, (rest, splits), written) = c.in_err-write_whole.ensures.err in
    let begins : lines events ≡ part ++ rest = cc in
    rw p.1 (decided c.one_meaning.ensures c.resumes.ensures _ c.push_lines.new.parser events part _ _ means
    (rest, begins) written)
