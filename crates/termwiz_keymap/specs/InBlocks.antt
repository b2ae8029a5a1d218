-- A list in blocks, each with the place of its first element.
use Rattle.std.specs.Prelude.{◌≡◌, ◌+◌, ◌<◌, ◌≤◌, ◌++◌, ℕ, List, [], ◌∷◌, length, get_or}
use Rattle.std.specs.List.{flat_map}
use Rattle.termwiz_keymap.specs.declared.keymap.blocks.Block.{Block}

module _ {T : Type 0} where
  -- the elements of the blocks, one block after another
  abbrev pub elements : List (Block T) → List T
  elements blocks = flat_map (λ b. b.items.items) blocks

  -- the first block starts at a place, and each other one behind the one before
  abbrev pub AreStarted : ℕ → List (Block T) → Type 0
  AreStarted start [] = Unit {0}
  AreStarted start (b ∷ blocks) = (b.start ≡ start) × AreStarted (start + length b.items.items) blocks

  -- each block has elements
  abbrev pub AreFilled : List (Block T) → Type 0
  AreFilled [] = Unit {0}
  AreFilled (b ∷ blocks) = (0 < length b.items.items) × AreFilled blocks

  -- the first elements and the blocks after them are a list of this length
  pub record AreBlocks (first : List T) (rest : List (Block T)) (len : ℕ) : Type 0 where
    pub started : AreStarted (length first) rest
    pub filled : AreFilled rest
    pub counted : length (first ++ elements rest) ≡ len

  -- of the blocks that start at a place or before it this is the last one
  pub record IsHolder (blocks : List (Block T)) (place k : ℕ) : Type 0 where
    pub inside : k < length blocks
    pub started : (b : Block T) → (get_or blocks k b).start ≤ place
    pub next : (b : Block T) → k + 1 < length blocks → place < (get_or blocks (k + 1) b).start
