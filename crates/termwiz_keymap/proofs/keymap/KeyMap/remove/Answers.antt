use Rattle.std.proofs.Common.{◌∙◌, Some, ap, sym}
use Rattle.std.specs.FinMap as map
use Rattle.termwiz_keymap.proofs.lemmas.entries.RemovedEntries.{nothing_removed}
use Rattle.termwiz_keymap.proofs.lemmas.rows.KeysInRows.{none_there, row_removed, value_there}
use Rattle.termwiz_keymap.proofs.lemmas.rows.RememberedRanges.{searchable_removed}
use Rattle.termwiz_keymap.proofs.keymap.KeyMap.remove.Goals as goal

pub invariant_of-self : goal.invariant_of-self
invariant_of-self g c =
    rw c.remove-row.ensures.items (searchable_removed c.self.inside.rows c.in-Ok.place c.clear.new.self.items
    c.self.invariant.ascending c.in-Ok.ensures.found.in_range c.clear.ensures.items)

pub returns-in-Ok-clause-value : goal.returns-in-Ok-clause-value
returns-in-Ok-clause-value g c =
    ap Some c.into_value.ensures
    ∙ sym (value_there c.self.inside.rows c.args.key.now c.in-Ok.place c.remove-row.result c.self.invariant.ascending
    c.in-Ok.ensures.found c.remove-row.ensures.value)
    ∙ ap (λ m. map.get m c.args.key.now) c.self.view_is

pub returns-in-Ok-clause-others : goal.returns-in-Ok-clause-others
returns-in-Ok-clause-others g c =
    rw c.remove-row.ensures.items (row_removed c.self.inside.rows c.args.key.now c.in-Ok.place c.remove-row.result
    c.self.invariant.ascending c.in-Ok.ensures.found ∙ ap (λ m. map.remove m c.args.key.now) c.self.view_is)

pub returns-in-Err-clause-value : goal.returns-in-Err-clause-value
returns-in-Err-clause-value g c =
    sym (ap (λ m. map.get m c.args.key.now) (sym c.self.view_is)
    ∙ none_there c.self.inside.rows c.args.key.now c.in-Err.field-0 c.in-Err.ensures.absent)

pub returns-in-Err-clause-others : goal.returns-in-Err-clause-others
returns-in-Err-clause-others g c =
    sym (nothing_removed c.args.self.now c.args.key.now (ap (λ m. map.get m c.args.key.now) (sym c.self.view_is)
    ∙ none_there c.self.inside.rows c.args.key.now c.in-Err.field-0 c.in-Err.ensures.absent))
