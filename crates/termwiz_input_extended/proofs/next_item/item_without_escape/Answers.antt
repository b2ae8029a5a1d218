use Rattle.std.proofs.Common.{◌≡◌, length, drop, sym, subst, arith}
use Rattle.std.proofs.lemmas.List.{nil_from_length}
use Rattle.termwiz_extended_grammar.specs.ExtendedGrammar.{IsRest}
use Rattle.termwiz_extended_grammar.proofs.lemmas.items.ExtendedRests.{empty_is_rest}
use Rattle.termwiz_input_extended.proofs.lemmas.fronts.ControlCharacters.{first_and_rest}
use Rattle.termwiz_input_extended.proofs.lemmas.fronts.FrontItems.{own_without_escape}
use Rattle.termwiz_input_extended.proofs.lemmas.fronts.ScannedPlaces.{scanned_none}
use Rattle.termwiz_input_extended.proofs.next_item.item_without_escape.Goals as goal

pub returns-in-empty : goal.returns-in-empty
returns-in-empty c = λ reading reads more. (
  let none : length c.args.text.now ≡ 0 = omega arith in
      subst (λ t. IsRest reading t more) (sym (nil_from_length c.args.text.now none)) (empty_is_rest reading more),
  scanned_none c.args.text.now,
)

pub returns-in-len1-up : goal.returns-in-len1-up
returns-in-len1-up c = λ reading reads more. (
  reads,
  (drop 1 c.args.text.now, first_and_rest c.args.text.now (omega arith), c.is_control_key.ensures.0 c.if-is_control_key.true),
)

pub returns-in_default : goal.returns-in_default
returns-in_default c = λ reading reads more. own_without_escape reading c.args.text.now more c.requires
