-- Words on texts. A text is a list of bytes.
use Rattle.std.specs.Prelude.{◌≡◌, ℕ, List, ◌++◌}

-- text begins u
abbrev pub Begins : List ℕ → List ℕ → Type 0
Begins text u = (rest : List ℕ) × (u ≡ text ++ rest)

-- text stands somewhere in u
abbrev pub Occurs : List ℕ → List ℕ → Type 0
Occurs text u = (before after : List ℕ) × (u ≡ before ++ text ++ after)
