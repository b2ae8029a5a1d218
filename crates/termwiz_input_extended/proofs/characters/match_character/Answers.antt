use Rattle.std.proofs.Common.{arith, sym, subst}
use Rattle.termwiz_keys.specs.Keys.{plain}
use Rattle.termwiz_keys.specs.declared.types.InputEvent.TheVariants.{Key}
use Rattle.termwiz_input.specs.Matches.{IsItemAt}
use Rattle.termwiz_input_extended.proofs.lemmas.fronts.KnownFronts.{high_character, own_printable, printable_item}
use Rattle.termwiz_input_extended.proofs.lemmas.fronts.ToldByFront.{front_none}
use Rattle.termwiz_input_extended.proofs.characters.match_character.Goals as goal

pub returns-in-len1-up : goal.returns-in-len1-up
returns-in-len1-up c = λ reading more.
    let is = c.is_printable_ascii.ensures.0 c.if-is_printable_ascii.true in
    record {
      own = own_printable reading c.args.text.now more is;
      item = subst (λ x. IsItemAt c.args.text.now more (Key (plain x)) 1) (sym c.from.ensures)
          (printable_item c.args.text.now more (omega arith) is);
      undecided = front_none reading c.args.text.now (omega (arith, is.0)) (λ e. omega (arith, is.1, e));
    }

pub returns-in-len1-up-2 : goal.returns-in-len1-up-2
returns-in-len1-up-2 c = rw c.character_at.ensures
    (high_character c.args.text.now (omega arith) (omega (arith, c.if-first-ge-HIGH.true)))
