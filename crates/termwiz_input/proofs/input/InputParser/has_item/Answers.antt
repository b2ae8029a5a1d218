use Rattle.std.proofs.Common.{◌≡◌, ℕ, Bool, List, refl}
use Rattle.termwiz_grammar.specs.Grammar.{HasItem}
use Rattle.termwiz_input.specs.declared.front.AtFront.{AtFront}
use Rattle.termwiz_input.specs.declared.front.AtFront.TheVariants.{PrintableAscii, Character, Key, Escape, AltCharacter, AltKey, MouseReport, Paste, Incomplete}
use Rattle.termwiz_input.specs.Fronts.{IsFront}
use Rattle.termwiz_input.proofs.input.InputParser.has_item.Goals as goal

-- whatever else is at the front is an item
found_item : (u : List ℕ) (more : Bool) (found : AtFront) → IsFront u more found → (found ≡ Incomplete → ⊥) → HasItem u more
found_item u more (PrintableAscii run) is other = (_, _, (is.first more).1)
found_item u more (Character c len) is other = (_, _, is.1)
found_item u more (Key key len) is other = (_, _, is.1)
found_item u more Escape is other = (_, _, is.1)
found_item u more (AltCharacter c len) is other = (_, _, is.1)
found_item u more (AltKey key len) is other = (_, _, is.1)
found_item u more (MouseReport event len) is other = (_, _, is.1)
found_item u more (Paste body len) is other = (_, _, is.1)
found_item u more Incomplete is other = absurd (other refl)

pub returns-in_default : goal.returns-in_default
returns-in_default c = record {
  some = λ _. found_item c.args.self.now c.args.maybe_more c.front-found.result c.front-found.ensures c.in_default.not-Incomplete;
  none = λ e. absurd (cc (e));
}
