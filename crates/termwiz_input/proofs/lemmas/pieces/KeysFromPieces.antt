-- The promise of a call on pieces, from its meaning; and the text of a listed key, read from pieces.
use Rattle.std.proofs.Common.{◌∷◌, ◌++◌, ◌∙◌, ℕ, Bool, false, List, [], sym, subst}
use Rattle.termwiz_base.specs.declared.modifiers.Modifiers.{Modifiers}
use Rattle.termwiz_keys.specs.declared.encode.KeyCodeEncodeModes.{KeyCodeEncodeModes}
use Rattle.termwiz_keys.specs.declared.types.KeyCode.{KeyCode}
use Rattle.termwiz_keys.specs.declared.types.InputEvent.TheVariants.{Key}
use Rattle.termwiz_grammar.specs.Grammar.{Means}
use Rattle.termwiz_grammar.specs.Listed.{IsListed, ReadsBack}
use Rattle.termwiz_input.specs.Pieces.{AreNumbered, NumberedEvent, events_of, join, pieces_or_one}
use Rattle.termwiz_input.specs.Promise.{IsExactReading, IsReadFromPieces}
use Rattle.termwiz_grammar.proofs.lemmas.read_back.KeysReadBack.{read_back}
use Rattle.termwiz_grammar.proofs.lemmas.waiting.RestShape.{one_meaning, waiting_shape}

-- what was emitted and is left is an exact reading, if it is the meaning
pub exact : (before : List ℕ) (pieces : List (List ℕ)) (more : Bool) (given : List NumberedEvent) (left : List ℕ)
    → Means (before ++ join pieces) more (events_of given) left → AreNumbered before (pieces_or_one pieces) given
    → IsExactReading before pieces more given left
exact before pieces more given left means numbered =
    let one = one_meaning (before ++ join pieces) more in
    let same = one.3 (events_of given) left means in record {
      meaning = means;
      only = λ events rest other. let it = one.3 events rest other in (it.0 ∙ sym same.0, it.1 ∙ sym same.1);
      numbers = numbered;
      short = waiting_shape left more means.rest;
    }

pub read_from_pieces : (key : KeyCode) (modifiers : Modifiers) (modes : KeyCodeEncodeModes)
    → IsListed key modifiers modes → IsReadFromPieces key modifiers modes
read_from_pieces key modifiers modes listed =
    let back : ReadsBack key modifiers modes = read_back key modifiers modes listed in (
      back.0,
      back.1,
      λ pieces given left joined reading.
          let it = reading.only (Key (record { key = key; modifiers = modifiers }) ∷ []) []
          (subst (λ text. Means text false (Key (record { key = key; modifiers = modifiers }) ∷ []) []) (sym joined) back.2)
          in (sym it.0, sym it.1),
    )
