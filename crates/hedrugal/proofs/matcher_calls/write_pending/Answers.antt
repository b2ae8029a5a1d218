use Rattle.std.proofs.Common.{◌≤◌, length, arith}
use Rattle.hedrugal.proofs.HeldCodes.{codes_few, pending_written}
use Rattle.hedrugal.proofs.matcher_calls.write_pending.Goals as goal

pub slice_bounds-copy_from_slice-end : goal.slice_bounds-copy_from_slice-end
slice_bounds-copy_from_slice-end c =
    let few : length c.codes-codes.result.now ≤ 160 =
    codes_few c.args.pending.now c.codes-codes.result.now c.codes-codes.ensures.chord c.codes-codes.ensures.codes in
    omega (arith, few)

pub returns : goal.returns
returns c =
    pending_written c.len-matcher.result c.copy_from_slice.new.self c.codes-codes.result.now _ c.args.pending.now
    c.codes-codes.ensures.chord c.codes-codes.ensures.codes c.len-matcher.ensures c.copy_from_slice.ensures.after
