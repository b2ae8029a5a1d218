use Rattle.std.proofs.Common.{◌≡◌, ◌+◌, ◌<◌, ◌^◌, ℕ, length, take, drop}
use Rattle.termwiz_keymap.specs.InBlocks.{AreFilled, AreStarted, elements}
use Rattle.termwiz_keymap.proofs.keymap.blocks.write_starts.Given as goal

abbrev pub invariant-loop-number : goal.invariant-loop-number
invariant-loop-number g l = record {
  started : (first : ℕ) → AreStarted first (take l.fn.from l.fn.blocks.items)
      → l.fn.start ≡ first + length (elements (take l.fn.from l.fn.blocks.items))
      → AreStarted first (take l.number l.blocks.items)
      × (l.start ≡ first + length (elements (take l.number l.blocks.items)));
  fits : l.start + length (elements (drop l.number l.blocks.items)) < 2 ^ 64;
  long : length l.blocks.items ≡ length l.fn.blocks.items;
  filled : AreFilled l.fn.blocks.items → AreFilled l.blocks.items;
  same : elements l.blocks.items ≡ elements l.fn.blocks.items;
}
