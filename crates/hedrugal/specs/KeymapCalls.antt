-- What the calls do to a key map that C holds: to the map that its handle leads to, if there is one.
use Rattle.std.specs.Prelude.{◌≡◌, ℕ, Bool, List, Option, Some, None}
use Rattle.std.specs.FinMap as map
use Rattle.termwiz_input.specs.Found.{Found}
use Rattle.termwiz_input.specs.Lookup.{LookupGives}
use Rattle.hedrugal.specs.declared.bindings.Bindings.{Bindings}

-- there is a map, and it has no key
abbrev pub IsEmpty : Option Bindings → Type 0
IsEmpty (Some held) = held.map ≡ map.empty
IsEmpty None = ⊥

-- the key has this value, and each other key the one that it had
abbrev pub Inserted : Option Bindings → List ℕ → ℕ → Option Bindings → Type 0
Inserted (Some before) key value (Some after) = after.map ≡ map.insert before.map key value
Inserted _ key value _ = ⊥

-- a lookup of the text has this answer
abbrev pub Finds : Option Bindings → List ℕ → Bool → Found ℕ → Type 0
Finds (Some held) text more found = LookupGives held.map text more found
Finds None text more found = ⊥

-- how many keys the map has; 0 without a map
abbrev pub keymap_len : Option Bindings → ℕ
keymap_len (Some held) = map.len held.map
keymap_len None = 0
