-- The first field of a text.
use Rattle.std.proofs.Common.{◌≡◌, ℕ, ◌+◌, ◌-◌, ◌<◌, ◌≤◌, Bool, true, false, List, [], ◌∷◌, length, take, drop, cond, refl, arith, position, nat_lt, Some, None}
use Rattle.std.specs.List.{slice_split, position_or_len}
use Rattle.std.proofs.lemmas.Bool.Decides.{nat_tests}
use Rattle.std.proofs.lemmas.List.{take_all, length-drop}
use Rattle.std.proofs.lemmas.List.Sums.{fails_before_first}
use Rattle.std.proofs.lemmas.List.Splits.{slice_split_first, slice_split_none}

-- where a place is found, it is the first one
placed : (b : Bool) (first place : ℕ) → Some place ≡ cond b (Some first) None → (b ≡ true) × (place ≡ first)
placed true first place e = (refl, cc (e))
placed false first place e = cc (e)

unplaced : (b : Bool) (first : ℕ) → None ≡ cond b (Some first) None → b ≡ false
unplaced true first e = cc (e)
unplaced false first e = refl

-- with a separator, the field ends there
pub split_at_place : (p : ℕ → Bool) (text : List ℕ) (place : ℕ) → Some place ≡ position p text
    → slice_split p text ≡ take place text ∷ slice_split p (take (length text - (place + 1)) (drop (place + 1) text))
split_at_place p text place e =
    let found = placed (nat_lt (position_or_len p text) (length text)) (position_or_len p text) place e in
    let within : position_or_len p text < length text = grind (arith, nat_tests, found.0) in
    let rest : take (length text - (place + 1)) (drop (place + 1) text) ≡ drop (place + 1) text =
    take_all (length text - (place + 1)) (drop (place + 1) text) (omega (arith, length-drop (place + 1) text)) in
    rw (rest, found.1) (slice_split_first p text 0 within)

-- without one, all of the text is one field
pub split_nowhere : (p : ℕ → Bool) (text : List ℕ) → None ≡ position p text → slice_split p text ≡ text ∷ []
split_nowhere p text e =
    let past = unplaced (nat_lt (position_or_len p text) (length text)) (position_or_len p text) e in
    let beyond : length text ≤ position_or_len p text = grind (arith, nat_tests, past) in
    slice_split_none p text (λ k d l. fails_before_first p text k d (omega arith))
