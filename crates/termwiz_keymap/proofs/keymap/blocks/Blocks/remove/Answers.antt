use Rattle.std.proofs.Common.{◌≡◌, ◌∙◌, ◌+◌, ◌-◌, ◌≤◌, ◌++◌, length, get_or, sym, ap, subst, arith}
use Rattle.std.specs.List.{remove}
use Rattle.std.proofs.lemmas.List.{length-append}
use Rattle.std.proofs.lemmas.List.Edits.{length-remove}
use Rattle.termwiz_keymap.specs.declared.keymap.blocks.Block.{Block}
use Rattle.termwiz_keymap.specs.InBlocks.{AreStarted, elements}
use Rattle.termwiz_keymap.proofs.lemmas.lists.BlockLists.{both_lengths, element_found, element_removed, offset_inside_any, start_is, started_first}
use Rattle.termwiz_keymap.proofs.keymap.blocks.Blocks.remove.Goals as goal

pub take_out-value-requires-clause-offset : goal.take_out-value-requires-clause-offset
take_out-value-requires-clause-offset g c =
    let holder = rw c.deref.ensures.value at c.holder-at.ensures in
    let within = rw (← c.self.view_is) at c.requires in
    offset_inside_any c.self.inside.first.items c.self.inside.rest.items c.self.invariant.started c.args.place
    c.holder-at.result holder (omega (arith, c.if-place-len.false, c.len.ensures)) within c.index.result.now c.index.ensures

pub write_starts-requires-2-clause-fits : goal.write_starts-requires-2-clause-fits
write_starts-requires-2-clause-fits g c =
    let holder = rw c.deref.ensures.value at c.holder-at.ensures in
    let within = rw (← c.self.view_is) at c.requires in
    let first = c.self.inside.first.items in
    let rest = c.self.inside.rest.items in
    let at = c.holder-at.result in
    let taken = c.take_out-value.new.blocks.items in
    let removed : first ++ elements taken ≡ remove (first ++ elements rest) c.args.place =
    ap (λ l. first ++ l) c.take_out-value.ensures.items
    ∙ element_removed first rest c.self.invariant.started c.args.place at holder
    (omega (arith, c.if-place-len.false, c.len.ensures)) within c.index.result.now c.index.ensures in
    omega (
      arith,
      both_lengths taken at,
      ap (λ l. length (elements l)) c.take_out-value.ensures.before,
      ap length removed,
      length-append first (elements taken),
      length-remove (first ++ elements rest) c.args.place within,
      c.self.invariant.counted,
      start_is first rest c.self.invariant.started c.args.place at holder
          (omega (arith, c.if-place-len.false, c.len.ensures)) within c.index.result.now c.index.ensures,
    )

pub invariant_of-self-2 : goal.invariant_of-self-2
invariant_of-self-2 g c =
    let holder = rw c.deref.ensures.value at c.holder-at.ensures in
    let within = rw (← c.self.view_is) at c.requires in
    let past : length c.self.inside.first.items ≤ c.args.place = omega (arith, c.if-place-len.false, c.len.ensures) in
    let first = c.self.inside.first.items in
    let rest = c.self.inside.rest.items in
    let at = c.holder-at.result in
    let removed : first ++ elements c.write_starts-2.new.blocks.items ≡ remove (first ++ elements rest) c.args.place =
    ap (λ l. first ++ l) (c.write_starts-2.ensures.same ∙ c.take_out-value.ensures.items)
    ∙ element_removed first rest c.self.invariant.started c.args.place at holder past within c.index.result.now c.index.ensures in
    record {
      started = c.write_starts-2.ensures.started (length first)
          (subst (λ l. AreStarted (length first) l) (sym c.take_out-value.ensures.before)
          (started_first (length first) rest at c.self.invariant.started))
          (start_is first rest c.self.invariant.started c.args.place at holder past within c.index.result.now c.index.ensures
          ∙ ap (λ l. length first + length (elements l)) (sym c.take_out-value.ensures.before));
      filled = c.write_starts-2.ensures.filled c.take_out-value.ensures.filled;
      counted = omega (
        arith,
        ap length removed,
        length-remove (first ++ elements rest) c.args.place within,
        c.self.invariant.counted,
      );
    }

pub returns-clause-value : goal.returns-clause-value
returns-clause-value g c =
    let holder = rw c.deref.ensures.value at c.holder-at.ensures in
    let within = rw (← c.self.view_is) at c.requires in
    let x = c.index.result.now in
    let value = c.take_out-value.result in
    c.take_out-value.ensures.value x
    ∙ ap (λ (b : Block _). get_or b.items.items (c.args.place - x.start) value) (sym c.index.ensures)
    ∙ sym (element_found c.self.inside.first.items c.self.inside.rest.items c.self.invariant.started c.args.place
    c.holder-at.result holder (omega (arith, c.if-place-len.false, c.len.ensures)) within x c.index.ensures value)
    ∙ ap (λ xs. get_or xs c.args.place value) c.self.view_is

pub returns-clause-items : goal.returns-clause-items
returns-clause-items g c =
    let holder = rw c.deref.ensures.value at c.holder-at.ensures in
    let within = rw (← c.self.view_is) at c.requires in
    ap (λ l. c.self.inside.first.items ++ l) (c.write_starts-2.ensures.same ∙ c.take_out-value.ensures.items)
    ∙ element_removed c.self.inside.first.items c.self.inside.rest.items c.self.invariant.started c.args.place
    c.holder-at.result holder (omega (arith, c.if-place-len.false, c.len.ensures)) within c.index.result.now c.index.ensures
    ∙ ap (λ xs. remove xs c.args.place) c.self.view_is
