use Rattle.std.proofs.Common.{◌≡◌, ◌∙◌, Option, Some, Err, refl, sym, ap, subst}
use Rattle.hedrugal.specs.declared.parser_and_text.ParserAndText.{ParserAndText}
use Rattle.hedrugal.specs.ReadingCalls.{HasReading}
use Rattle.hedrugal.proofs.event_calls.hed_encode_event.Goals as goal

-- a parser that is there has its reading
has_its_reading : (state : Option ParserAndText) (held : ParserAndText) → state ≡ Some held → HasReading state held.parser.reading
has_its_reading state held is = subst (λ s. HasReading s held.parser.reading) (sym is) refl

pub returns-in-Err-NoText-clause-no_text : goal.returns-in-Err-NoText-clause-no_text
returns-in-Err-NoText-clause-no_text c e = (
  c.in-Ok.event,
  c.parser.result.now.reading,
  record {
    event_is = c.in-Ok.ensures.event;
    reading_is = subst (HasReading c.args.parser.now.state.held) (sym c.parser.ensures.reading)
        (has_its_reading c.args.parser.now.state.held c.in-Some.held.now c.in-Some.ensures.some);
  },
  c.encode_event.ensures.no_text (c.in-Err-NoText.is ∙ ap (λ e. Err e) c.in-Err-NoText.field-0-is),
)

pub returns-in-Err-TooLong-clause-too_long : goal.returns-in-Err-TooLong-clause-too_long
returns-in-Err-TooLong-clause-too_long c e =
    let long = c.encode_event.ensures.too_long (c.in-Err-TooLong.is ∙ ap (λ e. Err e) c.in-Err-TooLong.field-0-is) in (
      c.in-Ok.event,
      c.parser.result.now.reading,
      record {
        event_is = c.in-Ok.ensures.event;
        reading_is = subst (HasReading c.args.parser.now.state.held) (sym c.parser.ensures.reading)
            (has_its_reading c.args.parser.now.state.held c.in-Some.held.now c.in-Some.ensures.some);
      },
      long.0,
      long.1,
    )
