use Rattle.std.proofs.Common.{◌≡◌, ◌+◌, true, drop}
use Rattle.hedrugal.specs.SentNames.{name_start}
use Rattle.hedrugal.proofs.sent_names.name_start.Given as goal

-- the name starts so many bytes behind this place
abbrev pub invariant-loop-at : goal.invariant-loop-at
invariant-loop-at l =
    name_start true l.initial.names_before l.text ≡ l.at + name_start l.is_behind_blank l.names_before (drop l.at l.text)
