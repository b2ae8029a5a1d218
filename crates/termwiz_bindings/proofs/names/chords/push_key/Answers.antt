use Rattle.std.proofs.Common.{rules, sym}
use Rattle.termwiz_bindings.proofs.lemmas.ReadPresses.{read_own}
use Rattle.termwiz_bindings.proofs.names.chords.push_key.Goals as goal

pub push-requires : goal.push-requires
push-requires c = record {
  own = read_own c.args.at c.args.key.now c.in_ok-press.press (sym c.in_ok-press.ensures);
  in_range = search rules;
}
