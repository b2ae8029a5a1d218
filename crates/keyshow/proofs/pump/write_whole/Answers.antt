use Rattle.std.proofs.Common.{◌++◌, take}
use Rattle.std.proofs.KnownBytes.{Appends-trans}
use Rattle.keyshow.proofs.Written.{written_further}
use Rattle.keyshow.proofs.pump.write_whole.Goals as goal

pub loop-rest-preserved : goal.loop-rest-preserved
loop-rest-preserved g c =
    let (done, split, written) = c.loop-rest.invariant in
    let rest = c.loop-rest.rest.now in
    let count = c.in-Ok.n in (
      done ++ take count rest,
      written_further c.args.bytes.now done rest count split,
      Appends-trans _ _ _ done (take count rest) written c.in-Ok.ensures.bytes,
    )
