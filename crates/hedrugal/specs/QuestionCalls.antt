-- What the calls for questions do to the parser: which positions of the cursor it expects.
use Rattle.std.specs.Prelude.{◌≡◌, ℕ, zero, suc, Option, Some}
use Rattle.termwiz_extended_grammar.specs.Readings.{asking}
use Rattle.termwiz_timed.specs.Steps.Call.{ExpectPosition, ForgetPositions}
use Rattle.termwiz_timed.specs.Timed.{Timed}
use Rattle.hedrugal.specs.declared.parser_and_text.ParserAndText.{ParserAndText}
use Rattle.hedrugal.specs.Calls.{Calls, IsUnchanged}

-- the parser with so many positions of the cursor that it expects
abbrev pub expecting : Timed → ℕ → Timed
expecting parser count = record parser { reading = asking parser.reading count }

-- there is a parser, and it expects so many; nothing else of it changed, nor the bytes of the event that was told last
abbrev pub Expects : Option ParserAndText → ℕ → Option ParserAndText → Type 0
Expects (Some before) count (Some after) =
    (after.parser ≡ expecting before.parser count) × (after.text.items ≡ before.text.items)
Expects _ count _ = ⊥

-- so many further positions were expected, by one call each
abbrev pub ExpectsMore : ℕ → Option ParserAndText → Option ParserAndText → Type 0
ExpectsMore zero before after = IsUnchanged before after
ExpectsMore (suc count) before after = (between : Option ParserAndText) × Calls before ExpectPosition between × ExpectsMore count between after

-- which positions it expected was forgotten, and then so many were expected
abbrev pub ForgetsAndExpects : Option ParserAndText → ℕ → Option ParserAndText → Type 0
ForgetsAndExpects before count after =
    (between : Option ParserAndText) × Calls before ForgetPositions between × ExpectsMore count between after
