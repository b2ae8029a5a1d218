use Rattle.std.proofs.Common.{◌∷◌, ◌<◌, ◌∙◌, ap, map, get_or, codes, lit<, arith}
use Rattle.std.proofs.lemmas.List.{get_or_default}
use Rattle.std.proofs.lemmas.Result.{on_ok_weaker}
use Rattle.event_text.specs.Names.{modifier_flags}
use Rattle.event_text.proofs.FlagNames.{names, Ascend, after_named_flag, after_other_flag, all_flags, all_below, none_named, some_named}
use Rattle.event_text.proofs.push_modifiers.Goals as goal
use Rattle.event_text.proofs.push_modifiers.Goals.{then-has_flag+in_ok-push_name, else-has_flag, else-loop-flag-test, then-loop-flag-test+then-bits}

-- the modifiers' flags, with NONE
modifiers_ascend : Ascend ((codes "NONE", 0) ∷ modifier_flags)
modifiers_ascend = (
  lit< tt,
  (lit< tt, (lit< tt, (lit< tt, (lit< tt, (lit< tt, (lit< tt, (lit< tt, (lit< tt, (lit< tt, (lit< tt, tt)))))))))),
)

pub loop-flag-preserved : goal.loop-flag-preserved
loop-flag-preserved c =
    let so_far = c.loop-flag.invariant in
    let test = rw c.value-in-loop-flag.ensures at (c.has_flag.ensures tt) in
    elim c.if-has_flag.branch [
      | then-has_flag+in_ok-push_name w ↦ rw (w.out-is, w.named-is) (
          after_named_flag c.flags-flags.result.now c.loop-flag.flag-index
          (get_or c.flags-flags.result.now c.loop-flag.flag-index _) (λ f. (f.name.now, f.value.0))
          c.args.modifiers.0 c.args.out.now.items c.loop-flag.out.items w.push_name.new.out.items c.loop-flag.named
          c.loop-flag-test.true
          (get_or_default c.flags-flags.result.now c.loop-flag.flag-index _ _ c.loop-flag-test.true) c.has_flag.result
          test w.if-has_flag.true so_far.0 so_far.1 (rw w.name.ensures at w.in_ok-push_name.ensures)
          )
      | else-has_flag w ↦ rw (w.out-is, w.named-is) (
          after_other_flag c.flags-flags.result.now c.loop-flag.flag-index
          (get_or c.flags-flags.result.now c.loop-flag.flag-index _) (λ f. (f.name.now, f.value.0))
          c.args.modifiers.0 c.args.out.now.items c.loop-flag.out.items c.loop-flag.out.items c.loop-flag.named
          c.loop-flag-test.true
          (get_or_default c.flags-flags.result.now c.loop-flag.flag-index _ _ c.loop-flag-test.true) c.has_flag.result
          test w.if-has_flag.false so_far.0 so_far.1
          )
    ]

pub returns-then-named : goal.returns-then-named
returns-then-named c =
    let so_far = c.loop-flag.invariant in
    let flags = c.flags-flags.result.now in
    let up : Ascend (map (λ f. (f.name.now, f.value.0)) flags) = rw (c.flags-flags.ensures tt) modifiers_ascend in
    elim c.loop-flag-test.branch [
      | else-loop-flag-test w ↦
          let whole = all_flags flags c.loop-flag.flag-index
          (λ f. (f.name.now, f.value.0)) _ c.args.modifiers.0 w.loop-flag-test.false (c.flags-flags.ensures tt) in
          some_named _ _ c.args.out.now.items c.loop-flag.out.items c.loop-flag.named whole so_far.0 so_far.1
          c.if-named.true
      | then-loop-flag-test+then-bits w ↦
          let above : c.args.modifiers.0 < w.value.result.now.0 =
          omega (arith, w.bits.ensures tt, w.bits-in-loop-flag.ensures tt) in
          let whole = all_below (λ f. (f.name.now, f.value.0)) c.args.modifiers.0 _ flags c.loop-flag.flag-index
          w.value.result.now.0 up w.loop-flag-test.true (ap (λ v. v.0) w.value.ensures) above in
          some_named _ _ c.args.out.now.items c.loop-flag.out.items c.loop-flag.named
          (whole ∙ ap (names c.args.modifiers.0) (c.flags-flags.ensures tt)) so_far.0 so_far.1 c.if-named.true
    ]

pub returns-else-named : goal.returns-else-named
returns-else-named c =
    let so_far = c.loop-flag.invariant in
    let flags = c.flags-flags.result.now in
    let up : Ascend (map (λ f. (f.name.now, f.value.0)) flags) = rw (c.flags-flags.ensures tt) modifiers_ascend in
    let written = c.push-else-named.new.out.items in
    elim c.loop-flag-test.branch [
      | else-loop-flag-test w ↦
          let whole = all_flags flags c.loop-flag.flag-index
          (λ f. (f.name.now, f.value.0)) _ c.args.modifiers.0 w.loop-flag-test.false (c.flags-flags.ensures tt) in
          on_ok_weaker c.push-else-named.result (none_named _ _ c.args.out.now.items c.loop-flag.out.items
          c.loop-flag.named whole so_far.0 so_far.1 c.if-named.false written) c.push-else-named.ensures
      | then-loop-flag-test+then-bits w ↦
          let above : c.args.modifiers.0 < w.value.result.now.0 =
          omega (arith, w.bits.ensures tt, w.bits-in-loop-flag.ensures tt) in
          let whole = all_below (λ f. (f.name.now, f.value.0)) c.args.modifiers.0 _ flags c.loop-flag.flag-index
          w.value.result.now.0 up w.loop-flag-test.true (ap (λ v. v.0) w.value.ensures) above in
          on_ok_weaker c.push-else-named.result
          (none_named _ _ c.args.out.now.items c.loop-flag.out.items c.loop-flag.named
          (whole ∙ ap (names c.args.modifiers.0) (c.flags-flags.ensures tt)) so_far.0 so_far.1 c.if-named.false written)
          c.push-else-named.ensures
    ]
