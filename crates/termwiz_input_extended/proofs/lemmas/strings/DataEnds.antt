-- What is true of each byte before a place is true of all of them.
use Rattle.std.proofs.Common.{ℕ, zero, suc, ◌<◌, List, [], ◌∷◌, length, take, get_or, arith}
use Rattle.std.specs.List.{AllByRecursion}

pub each_taken : (P : ℕ → Type 0) (s : List ℕ) (n : ℕ) → ((k : ℕ) → k < n → k < length s → P (get_or s k 0)) → AllByRecursion P (take n s)
each_taken P s zero each = tt
each_taken P [] (suc n) each = tt
each_taken P (x ∷ s) (suc n) each =
    (each 0 (omega arith) (omega arith), each_taken P s n (λ k below inside. each (suc k) (omega arith) (omega arith)))
