-- What kind of bytes stays buffered, by the first of them.
use Rattle.std.specs.Prelude.{◌≡◌, ◌≢◌, ℕ, List, []}
use Rattle.termwiz_keymap.specs.Bytes.{Begins}
use Rattle.termwiz_keys.specs.Introducers.{START}
use Rattle.termwiz_grammar.specs.declared.waiting.Waiting.{Waiting}
use Rattle.termwiz_grammar.specs.declared.waiting.Waiting.TheVariants.{Nothing, Escape, Sequence, Character, Paste}
use Rattle.termwiz_grammar.specs.WaitingKinds.{IsOneOrTwoEscapes}
use Rattle.termwiz_input.specs.Matches.{BeginsWithHighByte}

-- none of the other kinds is told by these bytes
pub record IsNoOtherKind (u : List ℕ) : Type 0 where
  pub some : u ≢ []
  pub no_escape : ¬ IsOneOrTwoEscapes u
  pub no_character : ¬ BeginsWithHighByte u
  pub no_paste : ¬ Begins START u

-- the bytes tell this kind
abbrev pub IsToldByBytes : List ℕ → Waiting → Type 0
IsToldByBytes u Nothing = u ≡ []
IsToldByBytes u Escape = IsOneOrTwoEscapes u
IsToldByBytes u Character = BeginsWithHighByte u
IsToldByBytes u Paste = Begins START u
IsToldByBytes u Sequence = IsNoOtherKind u
