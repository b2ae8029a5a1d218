-- What two sets of bits have to do with each other, as numbers.
use Rattle.std.specs.Prelude.{◌≡◌, ℕ}
use Rattle.std.specs.Int.RustNames.{bit_and}

-- a has every bit of b
abbrev pub HasEvery : ℕ → ℕ → Type 0
HasEvery a b = bit_and a b ≡ b
