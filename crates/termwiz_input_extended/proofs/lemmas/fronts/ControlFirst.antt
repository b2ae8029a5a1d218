-- A control character first in a text: its key is an item of the port.
use Rattle.std.proofs.Common.{◌≡◌, ◌≢◌, ⊎_elim, ℕ, ◌≤◌, Bool, List, [], ◌∷◌, ap, ◌∙◌, arith, Contains}
use Rattle.termwiz_keys.specs.declared.types.KeyEvent.{KeyEvent}
use Rattle.termwiz_keys.specs.declared.types.InputEvent.TheVariants.{Key}
use Rattle.termwiz_grammar.specs.Table.{rows as table_rows}
use Rattle.termwiz_input.specs.Matches.{IsItemAt}
use Rattle.termwiz_extended_events.specs.declared.types.Reading.{Reading}
use Rattle.termwiz_extended_events.specs.PortEvents.{decided_key}
use Rattle.termwiz_extended_grammar.specs.Readings.{ReadsMore}
use Rattle.termwiz_input_extended.specs.NextItems.{IsControlKey, IsPortsOwn, front_key}
use Rattle.termwiz_input_extended.proofs.lemmas.fronts.ControlCharacters.{one_byte_item}
use Rattle.termwiz_input_extended.proofs.lemmas.fronts.FrontItems.{own_without_escape}
use Rattle.termwiz_input_extended.proofs.lemmas.fronts.ToldByFront.{first_key}

no_escape : (byte : ℕ) → IsControlKey byte → byte ≢ 27
no_escape byte is e = ⊎_elim
    (λ (h : (1 ≤ byte) × (byte ≤ 26)). omega (arith, e, h.1))
    (λ (h : byte ≡ 127). omega (arith, e, h))
    is

pub control_own : (reading : Reading) (u : List ℕ) (more : Bool) (byte : ℕ) (rest : List ℕ) → u ≡ byte ∷ rest → IsControlKey byte
    → IsPortsOwn reading u more
control_own reading u more byte rest split is =
    own_without_escape reading u more (λ b. let first : byte ≡ 27 = cc (split, b.1) in no_escape byte is first)

pub control_item : (u : List ℕ) (more : Bool) (byte : ℕ) (rest : List ℕ) (key : KeyEvent) → u ≡ byte ∷ rest → IsControlKey byte
    → Contains table_rows (byte ∷ [], key) → IsItemAt u more (Key key) 1
control_item u more byte rest key split is row = one_byte_item u byte rest key split (no_escape byte is) row more

-- its byte decides
pub control_front : (reading : Reading) (u : List ℕ) (byte : ℕ) (rest : List ℕ) → ReadsMore reading → u ≡ byte ∷ rest → IsControlKey byte
    → front_key reading.dialect reading u ≡ decided_key reading byte
control_front reading u byte rest reads split is =
    ap (front_key reading.dialect reading) split ∙ first_key reading byte rest reads (no_escape byte is)
