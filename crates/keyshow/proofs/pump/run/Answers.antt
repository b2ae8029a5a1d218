use Rattle.std.proofs.Common.{◌≡◌, ◌++◌, [], Err, length, refl, ap, append_assoc, append-nil, arith, true, false, rules}
use Rattle.std.proofs.KnownBytes.{Appends-nil, Appends-trans, Consumes-nil, Consumes-trans, Consumes-kept}
use Rattle.std.proofs.lemmas.Result.{err_from_is_err_and, on_ok_weaker, on_err_weaker}
use Rattle.keyshow.specs.declared.pump.RunError.TheVariants.{Read}
use Rattle.keyshow.specs.Lines.{lines, waiting_line, all_lines}
use Rattle.keyshow.proofs.Ended.{nothing, after_lines, after_all, any_part}
use Rattle.keyshow.proofs.Written.{lines-append}
use Rattle.keyshow.proofs.pump.run.Goals as goal

pub loop-init : goal.loop-init
loop-init g c =
    let empty : c.in_ok-parser.parser ≡ [] = search rules in
    ([], [], Consumes-nil _, rw empty (record { steps = refl; rest = c.empty_is_rest.ensures true }), Appends-nil _)

pub loop-preserved : goal.loop-preserved
loop-preserved g c =
    let (text, events, read, means, written) = c.loop.invariant in
    let (piece, more, read_more, means_more, written_more) = c.in_ok-more.ensures.more c.if-not-more.false in (
      text ++ piece,
      events ++ more,
      Consumes-trans _ _ _ text piece read read_more,
      (c.resumes.ensures text piece c.loop.parser c.show_piece.new.parser events more true).0 means.steps means_more,
      rw (lines-append events more) (Appends-trans _ _ _ (lines events) (lines more) written written_more),
    )

pub returns-then-not-more-clause-ok : goal.returns-then-not-more-clause-ok
returns-then-not-more-clause-ok g c =
    let (text, events, read, means, written) = c.loop.invariant in
    let end = c.in_ok-more.ensures in
    let is_end = c.if-not-more.true in
    let contents = g.W.Write.contents in
    on_ok_weaker c.finish.result (λ p. record {
      text = text;
      events = events ++ p.0;
      waiting = c.finish.new.parser;
      read = Consumes-kept _ _ _ text read (end.none_read is_end);
      at_end = end.at_end is_end;
      means = rw append-nil at ((c.resumes.ensures text [] c.loop.parser c.finish.new.parser events p.0 false).0
          means.steps (rw (append-nil, ← end.same_parser is_end) p.1));
      written = rw (
        lines-append events p.0,
        append_assoc (lines events) (lines p.0) (waiting_line (length c.finish.new.parser)),
      ) (Appends-trans (contents c.args.writer.now) (contents c.loop.writer) (contents c.finish.new.writer)
          (lines events) (all_lines p.0 c.finish.new.parser) written (rw (← end.same_writer is_end) p.2));
    }) c.finish.ensures.ok

pub returns-in_err-parser-clause-err : goal.returns-in_err-parser-clause-err
returns-in_err-parser-clause-err g c =
    let p = err_from_is_err_and c.from_residual.result c.from_residual.ensures.1 in
    rw p.1 (record { text = []; read = Consumes-nil _; written = nothing c.one_meaning.ensures _ _ })

pub returns-in_err-more-clause-err : goal.returns-in_err-more-clause-err
returns-in_err-more-clause-err g c =
    let p = err_from_is_err_and c.from_residual-in_err-more.result c.from_residual-in_err-more.ensures.1 in
    let (text, events, read, means, written) = c.loop.invariant in
    let (piece, few, read_more, part) = c.in_err-more.ensures.err in
    rw p.1 (record {
      text = text ++ piece;
      read = Consumes-trans _ _ _ text piece read read_more;
      written = after_lines c.resumes.ensures text piece c.loop.parser events _ _ _ means written part;
    })

pub returns-in_err-more-clause-read : goal.returns-in_err-more-clause-read
returns-in_err-more-clause-read g c = λ is.
    let p = err_from_is_err_and c.from_residual-in_err-more.result c.from_residual-in_err-more.ensures.1 in
    let (text, events, read, means, written) = c.loop.invariant in
    let fails : c.in_err-more.field-0.0 ≡ Read = cc (p.1, p.2, is) in
    record {
      text = text;
      events = events;
      waiting = c.loop.parser;
      read = Consumes-kept _ _ _ text read (c.in_err-more.ensures.not_read (ap Err fails));
      means = means;
      written = rw (c.in_err-more.ensures.not_written (ap Err fails)) written;
    }

pub returns-clause-err : goal.returns-clause-err
returns-clause-err g c =
    let (text, events, read, means, written) = c.loop.invariant in
    record {
      text = text;
      read = read;
      written =
          after_all c.resumes.ensures text c.loop.parser events _ _ _ means written (nothing c.one_meaning.ensures _ _);
    }

pub returns-clause-read : goal.returns-clause-read
returns-clause-read g c = λ is.
    let (text, events, read, means, written) = c.loop.invariant in
    record { text = text; events = events; waiting = c.loop.parser; read = read; means = means; written = written }

pub returns-then-not-more-clause-err : goal.returns-then-not-more-clause-err
returns-then-not-more-clause-err g c =
    let (text, events, read, means, written) = c.loop.invariant in
    let end = c.in_ok-more.ensures in
    let is_end = c.if-not-more.true in
    on_err_weaker c.finish.result (λ p. record {
      text = text;
      read = Consumes-kept _ _ _ text read (end.none_read is_end);
      written = after_all c.resumes.ensures text c.loop.parser events _ _ _ means written
          (rw (end.same_parser is_end, end.same_writer is_end) at p);
    }) c.finish.ensures.err

pub returns-in_err-parser-clause-ahead : goal.returns-in_err-parser-clause-ahead
returns-in_err-parser-clause-ahead g c = record {
  text = [];
  ahead = [];
  events = [];
  waiting = [];
  part = [];
  few = omega arith;
  read = Consumes-nil _;
  means = record { steps = refl; rest = c.empty_is_rest.ensures true };
  written = Appends-nil _;
}

pub returns-in_err-more-clause-ahead : goal.returns-in_err-more-clause-ahead
returns-in_err-more-clause-ahead g c =
    let (text, events, read, means, written) = c.loop.invariant in
    let (bytes, few, read_more, part) = c.in_err-more.ensures.err in
    record {
      text = text;
      ahead = bytes;
      events = events;
      waiting = c.loop.parser;
      part = part.part;
      few = search (rules, few);
      read = Consumes-trans _ _ _ text bytes read read_more;
      means = means;
      written = Appends-trans _ _ _ (lines events) part.part written part.written;
    }

pub returns-clause-ahead : goal.returns-clause-ahead
returns-clause-ahead g c =
    let (text, events, read, means, written) = c.loop.invariant in
    record {
      text = text;
      ahead = [];
      events = events;
      waiting = c.loop.parser;
      part = [];
      few = omega arith;
      read = rw append-nil read;
      means = means;
      written = rw append-nil written;
    }

pub returns-then-not-more-clause-ahead : goal.returns-then-not-more-clause-ahead
returns-then-not-more-clause-ahead g c =
    let (text, events, read, means, written) = c.loop.invariant in
    let end = c.in_ok-more.ensures in
    let is_end = c.if-not-more.true in
    let (part, written_more) = any_part _ _ _ _ _ c.finish.result c.finish.ensures.ok c.finish.ensures.err in
    record {
      text = text;
      ahead = [];
      events = events;
      waiting = c.loop.parser;
      part = part;
      few = omega arith;
      read = rw append-nil (Consumes-kept _ _ _ text read (end.none_read is_end));
      means = means;
      written = Appends-trans _ _ _ (lines events) part written (rw (← end.same_writer is_end) written_more);
    }
