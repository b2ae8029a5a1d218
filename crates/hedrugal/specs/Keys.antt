-- Numbers that stand for no key.
use Rattle.std.specs.Prelude.{◌≢◌, ℕ}
use Rattle.termwiz_input.specs.KeyCode.{KeyCode}
use Rattle.termwiz_bindings.specs.Numbers.{key_number}

-- no key has this number
abbrev pub IsNoKey : ℕ → Type 0
IsNoKey number = (key : KeyCode) → key_number key ≢ number
