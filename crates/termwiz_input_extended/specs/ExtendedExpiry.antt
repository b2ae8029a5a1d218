-- How long what an extended parser has buffered may wait.
use Rattle.std.specs.Prelude.{◌≡◌, ℕ, Bool, List, length}
use Rattle.termwiz_grammar.specs.declared.waiting.Waiting.TheVariants as port
use Rattle.termwiz_input.specs.declared.time.Limit.{Limit}
use Rattle.termwiz_input.specs.declared.time.Policy.{Policy}
use Rattle.termwiz_input.specs.Time.{limit_of_kind, limit_of_string}
use Rattle.termwiz_extended_events.specs.declared.types.Reading.{Reading}
use Rattle.termwiz_extended_grammar.specs.ExtendedGrammar.{IsRest}
use Rattle.termwiz_extended_grammar.specs.ExtendedKinds.{IsKind}
use Rattle.termwiz_extended_grammar.specs.declared.waiting.ExtendedWaiting.{ExtendedWaiting}
use Rattle.termwiz_extended_grammar.specs.declared.waiting.ExtendedWaiting.TheVariants.{Nothing, Escape, Sequence, Character, Paste, String}
use Rattle.termwiz_input_extended.specs.Buffered.{IsToldByBytes}

-- the limit of so many bytes of a kind: that of the port's kinds, and of a string a millisecond more for each byte
abbrev pub limit_of_waiting : Policy → ExtendedWaiting → ℕ → Limit
limit_of_waiting policy Nothing len = limit_of_kind policy port.Nothing len
limit_of_waiting policy Escape len = limit_of_kind policy port.Escape len
limit_of_waiting policy Sequence len = limit_of_kind policy port.Sequence len
limit_of_waiting policy Character len = limit_of_kind policy port.Character len
limit_of_waiting policy Paste len = limit_of_kind policy port.Paste len
limit_of_waiting policy String len = limit_of_string policy len

-- The limit of a text, by its length and its kind. Its first bytes tell the kind; where no item stands at the text, it is that of the rest.
pub record IsLimitOf (policy : Policy) (reading : Reading) (text : List ℕ) (limit : Limit) : Type 0 where
  pub kind : ExtendedWaiting
  pub told : IsToldByBytes reading text kind
  pub is_kind : (more : Bool) → IsRest reading text more → IsKind reading text more kind
  pub is_limit : limit ≡ limit_of_waiting policy kind (length text)
