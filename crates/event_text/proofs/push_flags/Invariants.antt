use Rattle.std.proofs.Common.{◌≡◌, ◌++◌, take, map}
use Rattle.std.specs.List.{join_with_byte}
use Rattle.event_text.proofs.FlagNames.{names, has_a_name}
use Rattle.event_text.proofs.push_flags.Given as goal

abbrev pub invariant-loop-flag : goal.invariant-loop-flag
invariant-loop-flag g l =
    g.F.Flags.exact
    → let so_far =
    names (g.F.Flags.set_of l.set) (map (λ f. (f.name.now, g.F.Flags.set_of f.value)) (take l.flag-index l.flags)) in
    (l.out.items ≡ l.initial.out.items ++ join_with_byte 43 so_far) × (l.named ≡ has_a_name so_far)
