use Rattle.std.proofs.Common.{rules, ◌∷◌, []}
use Rattle.termwiz_input_extended.proofs.lemmas.calls.DialectKept.{dialect_kept}
use Rattle.termwiz_input_extended.proofs.lemmas.fronts.LeftBounded.{left_flushed, left_waits}
use Rattle.termwiz_input_extended.proofs.input.ExtendedParser.emit_next.Goals as goal

pub returns-then-emit_character-clause-emitted : goal.returns-then-emit_character-clause-emitted
returns-then-emit_character-clause-emitted g c = λ done.
    (c.emit_character.ensures.emitted (search rules) c.args.maybe_more).0

pub returns-then-emit_character-clause-dialect : goal.returns-then-emit_character-clause-dialect
returns-then-emit_character-clause-dialect g c =
    let is = (c.emit_character.ensures.emitted (search rules) c.args.maybe_more).0 in
    dialect_kept c.args.self.now.reading _ (is.event ∷ []) is.reading

pub returns-clause-flushed : goal.returns-clause-flushed
returns-clause-flushed g c =
    left_flushed g.S.EventSink.takes _ _ _ _ c.args.maybe_more c.emit_item.result c.emit_item.ensures

pub returns-clause-waits : goal.returns-clause-waits
returns-clause-waits g c =
    left_waits g.S.EventSink.takes _ _ _ _ c.args.maybe_more c.emit_item.result c.emit_item.ensures
