use Rattle.std.proofs.Common.{◌++◌, ap₂, length}
use Rattle.std.proofs.lemmas.List.{drop-replicate}
use Rattle.termwiz_bindings.proofs.chord.padded.Goals as goal

pub returns : goal.returns
returns c = ap₂ (λ front behind. front ++ behind) c.copy_from_slice.ensures.after (drop-replicate (length c.args.bytes.now) 160 0)
