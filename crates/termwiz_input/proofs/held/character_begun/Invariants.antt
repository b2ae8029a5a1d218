use Rattle.std.proofs.Common.{ℕ, ◌-◌, ◌<◌, ◌≤◌, drop, length}
use Rattle.termwiz_grammar.specs.Grammar.{IsUnfinishedCharacter}
use Rattle.termwiz_input.proofs.held.character_begun.Given as goal

abbrev pub invariant-loop-len : goal.invariant-loop-len
invariant-loop-len l =
    (k : ℕ) → 1 ≤ k → k < l.len → ¬ IsUnfinishedCharacter (drop (length l.text - k) l.text)
