use Rattle.std.proofs.Common.{◌≡◌, ◌∙◌, sym, append-nil, rules}
use Rattle.std.specs.Io.KnownBytes.{Appends}
use Rattle.std.proofs.lemmas.Result.{err_from_is_err_and}
use Rattle.keyshow.specs.Lines.{all_lines}
use Rattle.keyshow.proofs.Ended.{nothing, on_err, unflushed}
use Rattle.keyshow.proofs.pump.finish.Goals as goal

pub returns-in_err-push_lines-clause-err : goal.returns-in_err-push_lines-clause-err
returns-in_err-push_lines-clause-err g c =
    let p = err_from_is_err_and c.from_residual.result c.from_residual.ensures.1 in
    rw p.1 (nothing c.one_meaning.ensures _ _)

pub returns-in_err-map_err-clause-err : goal.returns-in_err-map_err-clause-err
returns-in_err-map_err-clause-err g c =
    let p = err_from_is_err_and c.from_residual-in_err-map_err.result c.from_residual-in_err-map_err.ensures.1 in
    rw p.1 (nothing c.one_meaning.ensures _ _)

pub returns-in_err-write_whole-clause-err : goal.returns-in_err-write_whole-clause-err
returns-in_err-write_whole-clause-err g c =
    let p =
    err_from_is_err_and c.from_residual-in_err-write_whole.result c.from_residual-in_err-write_whole.ensures.1 in
    let (events, means, text) = c.in_ok-push_lines.ensures.ok in
    let (part, (rest, splits), written) = c.in_err-write_whole.ensures.err in
    let whole : c.as_slice.result.now ≡ all_lines events c.push_lines.new.parser = search rules in
    rw p.1 (record {
      events = events;
      waiting = c.push_lines.new.parser;
      part = part;
      means = rw append-nil at means;
      begins = (rest, sym whole ∙ splits);
      written = written;
    })

pub returns-clause-err : goal.returns-clause-err
returns-clause-err g c =
    let (events, means, text) = c.in_ok-push_lines.ensures.ok in
    let written : Appends (g.W.Write.contents c.args.writer.now) (g.W.Write.contents c.write_whole.new.writer)
    (all_lines events c.push_lines.new.parser) = search rules in
    on_err c.map_err-2.result
    (unflushed _ c.push_lines.new.parser events _ _ _ (rw append-nil at means) written c.flush.ensures.bytes)
