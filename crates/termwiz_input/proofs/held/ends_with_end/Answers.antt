use Rattle.std.proofs.Common.{◌-◌, length, take}
use Rattle.std.proofs.lemmas.Bool.Decides.{Decides-eqb}
use Rattle.std.proofs.lemmas.Slice.Eq.{ends_is}
use Rattle.termwiz_keys.specs.Introducers.{END}
use Rattle.termwiz_input.proofs.held.ends_with_end.Goals as goal

pub returns : goal.returns
returns c =
    let told = ends_is Decides-eqb c.args.text.now (take c.args.len END) c.ends_with.result c.ends_with.ensures.value in
    (λ is. (take (length c.args.text.now - length (take c.args.len END)) c.args.text.now, told.0 is), λ (before, e). told.1 before e)
