use Rattle.std.proofs.Common.{rules}
use Rattle.termwiz_timed.specs.declared.parser.TimedEvent.TheVariants.{Whole}
use Rattle.hedrugal.proofs.WrittenEvents.{bare_len, brings_none}
use Rattle.hedrugal.proofs.parser_and_text.ParserAndText.next_character.Goals as goal

pub returns-then-emit_character-clause-told : goal.returns-then-emit_character-clause-told
returns-then-emit_character-clause-told c = λ done.
    let told = c.emit_character.ensures.told (search rules) in
    let shown = told.1 in
    let none = brings_none told.0 told.3 in
    (Whole told.0, told.2, search rules, search rules)

pub returns-then-emit_character-clause-bare : goal.returns-then-emit_character-clause-bare
returns-then-emit_character-clause-bare c = λ done.
    let told = c.emit_character.ensures.told (search rules) in
    let place = told.1.1 in
    let none = bare_len told.0 c.emit_character.new.sink.event.now told.1.0 told.3 in
    search rules
