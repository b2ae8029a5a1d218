-- What the calls that show the sequence table answer.
use Rattle.std.specs.Prelude.{◌≤◌, ℕ, ◌+◌, Option, Some, None, ⊤}
use Rattle.std.specs.FinMap as map
use Rattle.termwiz_grammar.specs.RowsInOrder.{AreCompletions}
use Rattle.termwiz_input.specs.Table.{table}
use Rattle.hedrugal.specs.declared.parser_and_text.ParserAndText.{ParserAndText}
use Rattle.hedrugal.specs.declared.entry_calls.CEntries.{CEntries}

-- these rows would complete what the parser has buffered
abbrev pub AreToComplete : Option ParserAndText → CEntries → Type 0
AreToComplete (Some held) rows = AreCompletions held.parser.text rows.with_alt rows.first (rows.first + rows.count)
AreToComplete None rows = ⊥

-- there is no parser, or the place is past the last row
abbrev pub IsNoRow : Option ParserAndText → ℕ → Type 0
IsNoRow (Some held) place = map.len table ≤ place
IsNoRow None place = ⊤
