-- What contracts see of an extended parser.
use Rattle.std.specs.Prelude.{◌≡◌, ℕ, List, []}
use Rattle.termwiz_keymap.specs.Bytes.{Begins}
use Rattle.termwiz_keys.specs.Introducers.{START}
use Rattle.termwiz_grammar.specs.WaitingKinds.{IsOneOrTwoEscapes}
use Rattle.termwiz_input.specs.Matches.{BeginsWithHighByte}
use Rattle.termwiz_input.specs.WaitingBytes.{IsNoOtherKind}
use Rattle.termwiz_extended_events.specs.declared.types.Reading.{Reading}
use Rattle.termwiz_extended_grammar.specs.declared.waiting.ExtendedWaiting.{ExtendedWaiting}
use Rattle.termwiz_extended_grammar.specs.declared.waiting.ExtendedWaiting.TheVariants.{Nothing, Escape, Sequence, Character, Paste, String}
use Rattle.termwiz_extended_grammar.specs.ExtendedGrammar.{ReadsOpening}

-- how it reads, and the text that waits: what it has taken and not turned into events
pub record Buffered : Type 0 where
  pub reading : Reading
  pub text : List ℕ

-- the reading and the bytes tell this kind
abbrev pub IsToldByBytes : Reading → List ℕ → ExtendedWaiting → Type 0
IsToldByBytes reading u Nothing = u ≡ []
IsToldByBytes reading u Escape = IsOneOrTwoEscapes u
IsToldByBytes reading u Character = BeginsWithHighByte u
IsToldByBytes reading u Paste = Begins START u
IsToldByBytes reading u String = ReadsOpening reading u
IsToldByBytes reading u Sequence = IsNoOtherKind u × (¬ ReadsOpening reading u)
