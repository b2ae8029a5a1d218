-- What a lookup in a map from byte lists answers, and what a clone of such a map is.
use Rattle.std.specs.Prelude.{◌≡◌, ◌<◌, ◌≤◌, ℕ, Bool, true, false, List, ◌++◌, length, take, None, Some, IsSome, IsSomeAnd, IsTrue, MatchOption, ◌↔◌}
use Rattle.std.specs.Ordering.{nat_cmp}
use Rattle.std.specs.Cmp.Lexicographic.{slice_cmp}
use Rattle.std.specs.FinMap as map
use denote.Ref.{Bor}
use Rattle.termwiz_keymap.specs.declared.keymap.Found.{Found}
use Rattle.termwiz_keymap.specs.declared.keymap.Found.TheVariants.{None as Nothing, Exact, Ambiguous, NeedData}

-- maps from byte lists
abbrev pub ByteMap : Type 0 → Type 0
ByteMap V = map.FinMap (slice_cmp nat_cmp) V

module _ {V : Type 0} where
  -- some key begins with the text and is longer
  abbrev pub IsExtended : ByteMap V → List ℕ → Type 0
  IsExtended m text = (rest : List ℕ) × (0 < length rest) × IsSome (map.get m (text ++ rest))

  -- the longest key that begins the text has this length and this value
  pub record IsLongestKey (m : ByteMap V) (text : List ℕ) (len : ℕ) (value : V) : Type 0 where
    pub within : len ≤ length text
    pub stored : map.get m (take len text) ≡ Some value
    pub longest : (k : ℕ) → len < k → k ≤ length text → map.get m (take k text) ≡ None

  -- no key begins the text
  abbrev pub NoKeyBegins : ByteMap V → List ℕ → Type 0
  NoKeyBegins m text = (k : ℕ) → k ≤ length text → map.get m (take k text) ≡ None

  -- the lookup rule
  abbrev pub LookupGives : ByteMap V → List ℕ → Bool → Found V → Type 0
  LookupGives m text more (Ambiguous len value) = IsLongestKey m text len value × IsExtended m text × (more ≡ true)
  LookupGives m text more (Exact len value) = IsLongestKey m text len value × (IsExtended m text → more ≡ false)
  LookupGives m text more NeedData = NoKeyBegins m text × IsExtended m text
  LookupGives m text more Nothing = NoKeyBegins m text × ¬ (IsExtended m text)

  -- an answer by reference, with the value that it refers to
  abbrev pub found_copied : Found (Bor V) → Found V
  found_copied (Ambiguous len value) = Ambiguous len value.now
  found_copied (Exact len value) = Exact len value.now
  found_copied NeedData = NeedData
  found_copied Nothing = Nothing

  -- the test answers whether two values are the same value
  abbrev pub TellsEqual : (V → V → Bool) → Type 0
  TellsEqual test = (a b : V) → IsTrue (test a b) ↔ (a ≡ b)

  -- a clone of a value equals it
  abbrev pub ClonesEqual : (V → V → Type 0) → Type 0
  ClonesEqual is_clone = (value clone : V) → is_clone value clone → clone ≡ value

  -- For each key, either neither map has it, or both have it and the copy's value is a clone of the original's.
  abbrev pub IsClone : (V → V → Type 0) → ByteMap V → ByteMap V → Type 0
  IsClone is_clone original copy = (key : List ℕ) → MatchOption (map.get original key) (map.get copy key ≡ None)
      (λ value. IsSomeAnd (map.get copy key) (is_clone value))

-- Where a lookup answers Exact although more may come, each longer text has the same answer.
abbrev pub ExactStays : Type 0 → Type 0
ExactStays V = (m : ByteMap V) (t s : List ℕ) (n : ℕ) (v : V) (more : Bool) → LookupGives m t true (Exact n v)
    → LookupGives m (t ++ s) more (Exact n v)
