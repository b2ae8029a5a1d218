use Rattle.std.proofs.Common.{◌≡◌, ◌++◌, length}
use Rattle.termwiz_keymap.specs.InBlocks.{AreBlocks, elements}
use Rattle.termwiz_keymap.proofs.keymap.blocks.Blocks.close.Given as goal

abbrev pub invariant-loop-self : goal.invariant-loop-self
invariant-loop-self g l = record {
  blocks : AreBlocks l.self-inside.first.items l.self-inside.rest.items l.self-inside.len;
  same : l.self-inside.first.items ++ elements l.self-inside.rest.items ≡ l.fn.self;
}

abbrev pub decreases-loop-self : goal.decreases-loop-self
decreases-loop-self g l = length l.self-inside.rest.items
