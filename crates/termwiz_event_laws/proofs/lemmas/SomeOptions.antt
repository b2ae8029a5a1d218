-- Where what is there comes from.
use Rattle.std.proofs.Common.{◌≡◌, ◌⊎◌, inl, inr, List, [], ◌∷◌, refl, Option, Some, None}
use Rattle.std.specs.Prelude.{option_map}
use Rattle.termwiz_extended_events.specs.Numbers.{first_some}

pub map_some : {A B : Type 0} (f : A → B) (o : Option A) (y : B) → option_map f o ≡ Some y → (x : A) × (o ≡ Some x) × (f x ≡ y)
map_some f None y e = absurd (cc (e))
map_some f (Some x) y e = (x, refl, cc (e))

-- one of these is there, and is this one
abbrev pub IsAmong : {A : Type 0} → List (Option A) → A → Type 0
IsAmong [] a = ⊥
IsAmong (o ∷ os) a = (o ≡ Some a) ⊎ IsAmong os a

pub among : {A : Type 0} (os : List (Option A)) (a : A) → first_some os ≡ Some a → IsAmong os a
among [] a e = absurd (cc (e))
among (None ∷ os) a e = inr (among os a e)
among (Some b ∷ os) a e = inl e
