use Rattle.std.proofs.Common.{◌≡◌, ◌≤◌, ℕ, List, ◌++◌, false, drop, length}
use Rattle.hedrugal.specs.Calls.{copied}
use Rattle.hedrugal.specs.PasteLines.{lines}
use Rattle.hedrugal.proofs.paste_lines.hed_paste_lines.Given as goal

-- these bytes are written, and the lines of the rest come behind them
abbrev pub invariant-loop-byte : goal.invariant-loop-byte
invariant-loop-byte l =
    (l.len ≤ l.byte-index) × ((written : List ℕ) × (l.len ≡ length written) × (l.out ≡ copied written l.initial.out)
    × (lines false l.text ≡ written ++ lines l.is_behind_cr (drop l.byte-index l.text)))
