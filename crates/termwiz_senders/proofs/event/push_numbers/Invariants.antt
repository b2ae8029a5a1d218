use Rattle.std.proofs.Common.{◌≡◌, ◌++◌, take, string_bytes, flat_map}
use Rattle.termwiz_senders.specs.EventTexts.{further_number}
use Rattle.termwiz_senders.proofs.event.push_numbers.Given as goal

-- the numbers so far were appended
abbrev pub invariant-loop-number : goal.invariant-loop-number
invariant-loop-number l = string_bytes l.text ≡ string_bytes l.initial.text ++ flat_map further_number (take l.number-index l.numbers)
