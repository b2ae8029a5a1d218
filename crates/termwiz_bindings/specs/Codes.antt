-- The codes of presses, five bytes each. A list of presses is looked up by its codes, one after another.
use Rattle.std.specs.Prelude.{⊤, ◌≡◌, ◌≤◌, ℕ, ◌+◌, ◌*◌, ◌/◌, ◌%◌, zero, suc, List, [], ◌∷◌, ◌++◌, get_or, Some}
use Rattle.std.specs.Char.{IsScalar}
use Rattle.termwiz_keys.specs.declared.types.KeyCode.{KeyCode}
use Rattle.termwiz_keys.specs.declared.types.KeyCode.TheVariants.{Char, Function}
use Rattle.termwiz_extended_events.specs.declared.types.ReportedKey.{ReportedKey}
use Rattle.termwiz_extended_events.specs.declared.types.ReportedKey.TheVariants.{Named, Functional}
use Rattle.termwiz_bindings.specs.declared.numbers.TheConstants.{KEYS}
use Rattle.termwiz_bindings.specs.declared.press.KeyPress.{KeyPress}
use Rattle.termwiz_bindings.specs.Numbers.{reported_number, reported_detail}
use Rattle.termwiz_bindings.specs.Presses.{canonical}
use Rattle.termwiz_bindings.specs.PressLaws.{report_of_press}

-- what the key carries is a character or the number of a function key, as its type has it
abbrev pub IsKeyInRange : ReportedKey → Type 0
IsKeyInRange (Named (Char c)) = IsScalar c
IsKeyInRange (Named (Function n)) = n ≤ 255
IsKeyInRange key = ⊤

-- The press of some report: as a report that says no more, it is its own press.
pub record IsPress (p : KeyPress) : Type 0 where
  pub own : canonical (report_of_press p) ≡ Some p
  pub in_range : IsKeyInRange p.key

-- how many bytes a code has
abbrev pub code_len : ℕ
code_len = 5

-- a number in three bytes, the most significant first
abbrev pub three_bytes : ℕ → List ℕ
three_bytes n = n / 0x10000 % 256 ∷ n / 0x100 % 256 ∷ n % 256 ∷ []

-- The code of a press: the number of its key, what the key carries, and the modifiers.
unfoldable pub code : KeyPress → List ℕ
code p = reported_number p.key ∷ three_bytes (reported_detail p.key) ++ p.held ∷ []

-- the bytes are the code of a press
pub record IsCode (bytes : List ℕ) : Type 0 where
  pub press : KeyPress
  pub is : IsPress press
  pub same : bytes ≡ code press

-- the codes of presses, one after another
abbrev pub codes : List KeyPress → List ℕ
codes [] = []
codes (p ∷ ps) = code p ++ codes ps

-- a key with another detail in place of what it carries
abbrev pub carrying : KeyCode → ℕ → KeyCode
carrying (Char c) detail = Char detail
carrying (Function n) detail = Function detail
carrying key detail = key

-- the key with this number and this detail
unfoldable pub key_with : ℕ → ℕ → ReportedKey
key_with zero detail = Functional detail
key_with (suc place) detail = Named (carrying (get_or KEYS.now place (Char 0)) detail)

-- the press with this code
abbrev pub press_with : ℕ → ℕ → ℕ → ℕ → ℕ → KeyPress
press_with number high middle low held = record { key = key_with number (high * 0x10000 + middle * 0x100 + low); held = held }

-- the presses with these codes
abbrev pub presses_with : List ℕ → List KeyPress
presses_with (number ∷ high ∷ middle ∷ low ∷ held ∷ rest) = press_with number high middle low held ∷ presses_with rest
presses_with bytes = []
