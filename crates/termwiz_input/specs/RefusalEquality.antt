-- What the laws say of values of this crate's types, beside the words of termwiz_base.
use Rattle.std.specs.Prelude.{◌≡◌, ◌↔◌, Bool, IsTrue}
use Rattle.termwiz_input.specs.declared.errors.ParseVecError.{ParseVecError}

-- The test answers whether two refused calls gave the same events and whether the bytes of both were taken,
-- or of neither.
abbrev pub TellsEqualRefusals : (ParseVecError → ParseVecError → Bool) → Type 0
TellsEqualRefusals test = (a b : ParseVecError)
    → IsTrue (test a b) ↔ ((a.events.items ≡ b.events.items) × (a.taken ≡ b.taken))
