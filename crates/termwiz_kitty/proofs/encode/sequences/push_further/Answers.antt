use Rattle.std.proofs.Common.{◌∙◌, ◌++◌, sym, ap, string_bytes, flat_map}
use Rattle.std.proofs.lemmas.Iterator.{YieldsList-from_chars}
use Rattle.std.proofs.lemmas.Iterator.Consumers.{YieldsList-end}
use Rattle.termwiz_kitty.specs.KittyTexts.{further_character}
use Rattle.termwiz_kitty.proofs.lemmas.PushedFields.{map_same}
use Rattle.termwiz_kitty.proofs.encode.sequences.push_further.Goals as goal

-- at the end every character has been yielded
pub returns : goal.returns
returns c =
    let all = YieldsList-end (YieldsList-from_chars c.args.rest.now c.utf8.rest cc) c.loop-c.yielded _ c.loop-c.yielded_by _ _ c.in-None.is c.next.ensures.steps in
    c.loop-c.invariant
    ∙ ap (λ cs. string_bytes c.args.text.now ++ flat_map further_character cs) (sym (map_same c.loop-c.yielded) ∙ all.0)
