use Rattle.std.proofs.Common.{◌∙◌, sym, ap, length}
use Rattle.termwiz_extended_events.specs.declared.types.Event.TheVariants.{Key}
use Rattle.termwiz_extended_events.specs.PortEvents.{pressed_key}
use Rattle.hedrugal.specs.Calls.{copied}
use Rattle.hedrugal.specs.Events.{c_event}
use Rattle.hedrugal.proofs.parser_and_text.ParserAndText.copy_row.Goals as goal

pub returns-clause-row : goal.returns-clause-row
returns-clause-row c = λ row key at.
    let same = sym (c.in-Some.ensures.row.there (row, key)) ∙ at.there (row, key) in (
      c.copy_prefix.ensures.len ∙ ap (λ e. length e.0) same,
      c.copy_prefix.ensures.bytes ∙ ap (λ e. copied e.0 c.args.out.now) same,
      c.show.ensures ∙ ap (λ r. c_event (Key r)) c.pressed_key.ensures ∙ ap (λ e. c_event (Key (pressed_key e.1))) same,
    )
