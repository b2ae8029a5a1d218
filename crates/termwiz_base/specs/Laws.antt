-- What the laws say of values: of their equality, of clones, of hashes, and of the bits of flags.
use Rattle.std.specs.Prelude.{◌≡◌, ◌==◌, ◌↔◌, ℕ, Bool, List, IsTrue}
use Rattle.std.specs.Int.RustNames.{bit_or}
use Rattle.termwiz_base.specs.Bits.{HasEvery}

-- The test answers whether two values are the same value.
abbrev pub TellsEqual : {A : Type 0} → (A → A → Bool) → Type 0
TellsEqual {A} test = (a b : A) → IsTrue (test a b) ↔ (a ≡ b)

-- Each clone equals its original.
abbrev pub ClonesEqual : {A : Type 0} → (A → A → Type 0) → Type 0
ClonesEqual {A} is_clone = (original copy : A) → is_clone original copy → copy ≡ original

-- No clone fails.
abbrev pub AlwaysCloned : {A : Type 0} → (A → Type 0) → Type 0
AlwaysCloned {A} is_infallible = (original : A) → is_infallible original

-- Values that the test finds equal make the same writes to a hasher.
abbrev pub HashesAgree : {A : Type 0} → (A → A → Bool) → (A → List (List ℕ)) → Type 0
HashesAgree {A} test writes = (a b : A) → IsTrue (test a b) → writes a ≡ writes b

-- a has every bit of b exactly if adding b changes nothing
abbrev pub EveryByUnion : Type 0
EveryByUnion = (a b : ℕ) → IsTrue (bit_or b a == a) ↔ HasEvery a b
