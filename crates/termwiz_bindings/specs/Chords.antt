-- A chord as it is held: the codes of its presses, and zeros after them.
use Rattle.std.specs.Prelude.{◌↔◌, Bool, IsTrue, ◌≡◌, ℕ, ◌*◌, ◌-◌, ◌≤◌, List, ◌++◌, length, take, replicate}
use Rattle.std.specs.List.{All}
use Rattle.termwiz_bindings.specs.declared.chord.TheConstants.{MAX_KEYS}
use Rattle.termwiz_bindings.specs.declared.press.KeyPress.{KeyPress}
use Rattle.termwiz_bindings.specs.Codes.{IsPress, code_len, codes, presses_with}

-- at most so many presses, each that of some report
pub record IsChord (ps : List KeyPress) : Type 0 where
  pub few : length ps ≤ MAX_KEYS
  pub presses : All IsPress ps

-- the codes of a chord
abbrev pub AreCodes : List ℕ → Type 0
AreCodes bytes = (ps : List KeyPress) × IsChord ps × (bytes ≡ codes ps)

-- the presses whose codes the first bytes are
abbrev pub held_presses : List ℕ → ℕ → List KeyPress
held_presses bytes len = presses_with (take (len * code_len) bytes)

-- the codes of presses, with zeros after them up to the length of the array
abbrev pub padded : List KeyPress → List ℕ
padded ps = codes ps ++ replicate (MAX_KEYS * code_len - length ps * code_len) 0

-- the bytes hold a chord of so many presses
pub record HoldChord (bytes : List ℕ) (len : ℕ) : Type 0 where
  pub chord : IsChord (held_presses bytes len)
  pub count : length (held_presses bytes len) ≡ len
  pub padding : padded (held_presses bytes len) ≡ bytes

-- the test answers whether two chords have the same presses
abbrev pub TellsChordsApart : (List KeyPress → List KeyPress → Bool) → Type 0
TellsChordsApart test = (a b : List KeyPress) → IsChord a → IsChord b → IsTrue (test a b) ↔ (a ≡ b)
