-- How many bytes at the end of a pasted text are held back.
use Rattle.std.specs.Prelude.{◌≡◌, ℕ, ◌-◌, ◌<◌, ◌≤◌, List, length, take, drop}
use Rattle.termwiz_keys.specs.Introducers.{END}
use Rattle.termwiz_grammar.specs.Grammar.{IsUnfinishedCharacter}
use Rattle.termwiz_grammar.specs.PasteParts.{BeginsCharacter, EndsWith, EndsWithNone, IsParted}

-- the first so many bytes of END end b, and no more of its first five bytes do
pub record IsEndBegun (b : List ℕ) (len : ℕ) : Type 0 where
  pub within : len ≤ 5
  pub here : EndsWith b (take len END)
  pub longest : (more : ℕ) → len < more → more ≤ 5 → ¬ EndsWith b (take more END)

-- the last so many bytes of b properly begin a character; if these are none, no last bytes do
pub record IsCharacterBegun (b : List ℕ) (len : ℕ) : Type 0 where
  pub within : len ≤ length b
  pub here : 0 < len → IsUnfinishedCharacter (drop (length b - len) b)
  pub none : len ≡ 0 → EndsWithNone BeginsCharacter b

-- u is an open paste, and the bytes of its text before this place are decided
pub record IsDecidedTo (u : List ℕ) (place : ℕ) : Type 0 where
  pub after_start : 6 ≤ place
  pub within : place ≤ length u
  pub parted : IsParted u (take (place - 6) (drop 6 u)) (drop place u)
