use Rattle.std.proofs.Common.{◌∷◌, ◌++◌, ◌∙◌, [], ap}
use Rattle.termwiz_input.proofs.lemmas.items.FrontItem.{item_stored}
use Rattle.termwiz_input.proofs.input.InputParser.store.Goals as goal

pub returns : goal.returns
returns c = λ more item. record {
  stored = item_stored c.args.self.now more c.args.event c.args.len _ _ item
      (c.push_reserved.ensures.items ∙ ap (λ l. l ++ c.args.event ∷ []) c.in_ok-make_room.ensures.items);
  none = tt;
  none_same = tt;
  refused = tt;
  refused_same = tt;
}
