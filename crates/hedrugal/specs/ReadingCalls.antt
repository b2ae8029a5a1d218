-- How a parser that C holds reads, and what the call that sets it does.
use Rattle.std.specs.Prelude.{◌≡◌, Option, Some, None}
use Rattle.termwiz_extended_events.specs.declared.types.Reading.{Reading}
use Rattle.termwiz_timed.specs.Steps.Call.{SetReading}
use Rattle.hedrugal.specs.declared.parser_and_text.ParserAndText.{ParserAndText}
use Rattle.hedrugal.specs.declared.reading_calls.CReading.{CReading}
use Rattle.hedrugal.specs.Calls.{Calls}
use Rattle.hedrugal.specs.Events.{dialect_number, erase_number, newline_number}

-- a reading in numbers
abbrev pub c_reading : Reading → CReading
c_reading reading = record {
  dialect = dialect_number reading.dialect;
  erase = erase_number reading.erase;
  newline = newline_number reading.newline;
  x10_mouse = reading.x10_mouse;
  questions = reading.questions;
}

-- there is a parser, and it has this reading
abbrev pub HasReading : Option ParserAndText → Reading → Type 0
HasReading (Some held) reading = held.parser.reading ≡ reading
HasReading None reading = ⊥

-- the numbers stand for this reading
abbrev pub StandFor : CReading → Reading → Type 0
StandFor numbers reading = (dialect_number reading.dialect ≡ numbers.dialect) × (erase_number reading.erase ≡ numbers.erase)
    × (newline_number reading.newline ≡ numbers.newline) × (reading.x10_mouse ≡ numbers.x10_mouse) × (reading.questions ≡ numbers.questions)

-- they stand for none
abbrev pub IsBadReading : CReading → Type 0
IsBadReading numbers = (reading : Reading) → ¬ StandFor numbers reading

-- it reads as these numbers say from now on
abbrev pub ReadsBy : Option ParserAndText → CReading → Option ParserAndText → Type 0
ReadsBy before numbers after = (reading : Reading) × StandFor numbers reading × Calls before (SetReading reading) after
