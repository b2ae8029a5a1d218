-- A run of which press to press speaks: Escape is pressed, and then all ends.
use Rattle.std.proofs.Common.{◌≡◌, true, List, [], ◌∷◌, Some, refl, lit<}
use Rattle.termwiz_keys.specs.Introducers.{ESC}
use Rattle.termwiz_keys.specs.Keys.{NONE}
use Rattle.termwiz_keys.specs.Encoding.{enc}
use Rattle.termwiz_keys.specs.declared.types.KeyCode.TheVariants.{Escape}
use Rattle.termwiz_laws.proofs.lemmas.further_keys.ComputedReadings.{enc_written_out}
use Rattle.termwiz_extended_events.specs.declared.types.Dialect.TheVariants.{Extended}
use Rattle.termwiz_extended_grammar.specs.ExtendedGrammar.{escape_event}
use Rattle.termwiz_extended_grammar.proofs.lemmas.items.ExtendedRests.{empty_is_rest}
use Rattle.termwiz_kitty.proofs.lemmas.PortKeys.{xterm_modes}
use Rattle.termwiz_timed.specs.declared.parser.Stage.TheVariants as stage
use Rattle.termwiz_timed.specs.declared.parser.TimedEvent.TheVariants.{Whole}
use Rattle.termwiz_timed.specs.AgesInTime.{at_time, came, first_ages}
use Rattle.termwiz_timed.specs.Runs.{IsRun, Moment}
use Rattle.termwiz_timed.specs.Steps.{TellsNone, after_item}
use Rattle.termwiz_timed.specs.Steps.Call.{AllTold, End, Feed, Told}
use Rattle.termwiz_timed.specs.Steps.Tells.{item}
use Rattle.termwiz_timed.specs.Timed.{Timed, new_timed}
use Rattle.termwiz_timed.proofs.lemmas.WorkedOut.{told_ready, untold_goes}
use Rattle.termwiz_timed.proofs.lemmas.WorkedSteps.{escape_flushed, escape_rests}
use Rattle.termwiz_binding_laws.specs.SentPresses.Sent.{by_port}
use Rattle.termwiz_press_laws.specs.PressRuns.{Sending, SomeRunTells}
use Rattle.termwiz_press_laws.specs.PressRuns.IsFollowed.{by_pause}
use Rattle.termwiz_press_laws.specs.Things.Thing.{SentKey}

-- the parser after each call
abbrev start : Timed
start = new_timed Extended

abbrev fed : Timed
fed = record start { text = ESC; stage = stage.Untold; ages = came [] ESC (at_time first_ages 0) }

abbrev waiting : Timed
waiting = record fed { stage = stage.AllTold }

abbrev ended : Timed
ended = record waiting { stage = stage.Ending }

abbrev told : Timed
told = after_item ended escape_event []

abbrev over : Timed
over = record told { stage = stage.AllTold }

abbrev moments : List Moment
moments =
    record { call = AllTold; after = over } ∷ record { call = Told (Whole escape_event); after = told } ∷ record { call = End; after = ended }
    ∷ record { call = AllTold; after = waiting } ∷ record { call = Feed 0 ESC; after = fed } ∷ []

waits : TellsNone fed waiting
waits = record { rest = escape_rests fed.reading refl; no_part = tt; few = tt; no_end = untold_goes ESC; told = refl }

ends : TellsNone told over
ends = record { rest = empty_is_rest told.reading _; no_part = tt; few = tt; no_end = untold_goes []; told = refl }

run : IsRun start moments
run = (((((tt, (told_ready, refl)), waits), refl), item escape_event [] (escape_flushed ended.reading).steps), ends)

abbrev sendings : List Sending
sendings = record { thing = SentKey (by_port Escape NONE xterm_modes); bytes = ESC; paused = true } ∷ []

sent : enc Escape (record { 0 = NONE }) xterm_modes ≡ Some ESC
unfolding enc_written_out
sent = refl

pub some_run_tells : SomeRunTells
some_run_tells = record {
  segment = moments;
  sendings = sendings;
  some = λ none. cc (none);
  run = run;
  is_segment = (tt, (tt, (tt, (tt, (tt, tt)))));
  ready = record { all_told = refl; empty = refl; first = record { reads = refl; erase = refl; newline = refl } };
  are = ((sent, (tt, (0, lit< tt, refl), refl)), by_pause refl, tt);
  bring = refl;
  all_told = refl;
}
