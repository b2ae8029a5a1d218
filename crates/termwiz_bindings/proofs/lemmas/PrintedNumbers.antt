-- What formats write of numbers.
use Rattle.std.proofs.Common.{◌≡◌, ℕ, ◌-◌, ◌^◌, List, [], ◌++◌, false, length, replicate, refl, append-nil, arith}
use Rattle.std.specs.Fmt.{padded_integral, char_count, format_spec}

-- digits padded with zeros to a width
pub zero_padded : (width : ℕ) (ds : List ℕ)
    → padded_integral (format_spec 32 0 4 width (2 ^ 64 - 1)) false [] ds ≡ replicate (width - length ds) 48 ++ ds
unfolding padded_integral char_count
zero_padded width ds =
    let less : width - length ds - 0 - 0 ≡ width - length ds = omega arith in
    rw (less, append-nil ds) refl
