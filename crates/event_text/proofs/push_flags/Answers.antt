use Rattle.std.proofs.Common.{◌≡◌, arith}
use Rattle.std.proofs.lemmas.Bool.Decides.{nat_tests}
use Rattle.std.proofs.lemmas.Result.{on_ok_weaker}
use Rattle.event_text.proofs.FlagNames.{after_named_flag, after_other_flag, all_flags, empty_set, none_named, some_named}
use Rattle.event_text.proofs.push_flags.Goals as goal
use Rattle.event_text.proofs.push_flags.Goals.{then-has_flag+in_ok-push_name, else-has_flag}

pub loop-flag-preserved : goal.loop-flag-preserved
loop-flag-preserved g c = λ exact.
    let so_far = c.loop-flag.invariant exact in
    let test = rw c.value.ensures at (c.has_flag.ensures exact) in
    let flag = c.flag-item.result in
    elim c.if-has_flag.branch [
      | then-has_flag+in_ok-push_name w ↦ rw (w.out-is, w.named-is) (
          after_named_flag c.flags-flags.result.now c.loop-flag.flag-index flag
          (λ f. (f.name.now, g.F.Flags.set_of f.value))
          (g.F.Flags.set_of c.args.set.now) c.args.out.now.items c.loop-flag.out.items w.push_name.new.out.items
          c.loop-flag.named
          c.loop-flag-test.true c.flag-item.is c.has_flag.result test w.if-has_flag.true so_far.0 so_far.1
          (rw w.name.ensures at w.in_ok-push_name.ensures)
          )
      | else-has_flag w ↦ rw (w.out-is, w.named-is) (
          after_other_flag c.flags-flags.result.now c.loop-flag.flag-index flag
          (λ f. (f.name.now, g.F.Flags.set_of f.value))
          (g.F.Flags.set_of c.args.set.now) c.args.out.now.items c.loop-flag.out.items c.loop-flag.out.items
          c.loop-flag.named
          c.loop-flag-test.true c.flag-item.is c.has_flag.result test w.if-has_flag.false so_far.0 so_far.1
          )
    ]

pub returns-then-named : goal.returns-then-named
returns-then-named g c = λ exact.
    let so_far = c.loop-flag.invariant exact in
    let whole = all_flags c.flags-flags.result.now c.loop-flag.flag-index
    (λ f. (f.name.now, g.F.Flags.set_of f.value)) g.F.Flags.table
    (g.F.Flags.set_of c.args.set.now) c.loop-flag-test.false (c.flags-flags.ensures exact) in
    some_named _ _ c.args.out.now.items c.loop-flag.out.items c.loop-flag.named whole so_far.0 so_far.1 c.if-named.true

pub returns-else-named : goal.returns-else-named
returns-else-named g c = λ exact.
    let so_far = c.loop-flag.invariant exact in
    let whole = all_flags c.flags-flags.result.now c.loop-flag.flag-index
    (λ f. (f.name.now, g.F.Flags.set_of f.value)) g.F.Flags.table
    (g.F.Flags.set_of c.args.set.now) c.loop-flag-test.false (c.flags-flags.ensures exact) in
    on_ok_weaker c.push-else-named.result
    (none_named _ _ c.args.out.now.items c.loop-flag.out.items c.loop-flag.named whole so_far.0 so_far.1
    c.if-named.false c.push-else-named.new.out.items)
    c.push-else-named.ensures

pub returns-then-is_empty : goal.returns-then-is_empty
returns-then-is_empty g c = λ exact.
    let test = c.is_empty.ensures exact in
    let none : g.F.Flags.set_of c.args.set.now ≡ 0 = grind (arith, nat_tests, test, c.if-is_empty.true) in
    rw (empty_set g.F.Flags.table (g.F.Flags.set_of c.args.set.now) none) c.push.ensures
