use Rattle.std.proofs.Common.{◌≡◌, length, map}
use Rattle.termwiz_bindings.specs.Words.{entry_at_word}
use Rattle.termwiz_bindings.proofs.names.words.entry_at_word.Given as goal

-- what is left of the table has the same at the word
abbrev pub invariant-loop-table : goal.invariant-loop-table
invariant-loop-table g l =
    entry_at_word (map (λ row. (row.0.now, row.1)) l.table) l.name
    ≡ entry_at_word (map (λ row. (row.0.now, row.1)) l.initial.table) l.name

abbrev pub decreases-loop-table : goal.decreases-loop-table
decreases-loop-table g l = length l.table
