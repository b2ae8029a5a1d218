use Rattle.std.proofs.Common.{◌≡◌, ◌==◌, drop}
use Rattle.std.specs.List.{find}
use Rattle.termwiz_extended_events.proofs.reported_keys.function_key.Given as goal

abbrev pub invariant-loop-code : goal.invariant-loop-code
invariant-loop-code l = find (λ row. row.0 == l.number) l.codes ≡ find (λ row. row.0 == l.number) (drop l.code-index l.codes)
