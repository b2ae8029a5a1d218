use Rattle.std.proofs.Common.{◌≡◌, ◌==◌, drop}
use Rattle.std.specs.List.{find}
use Rattle.termwiz_keys.proofs.encode.sequences.code_in.Given as goal

abbrev pub invariant-loop-code : goal.invariant-loop-code
invariant-loop-code l = find (λ f. f.1 == l.number) l.codes ≡ find (λ f. f.1 == l.number) (drop l.code-index l.codes)
