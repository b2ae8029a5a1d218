-- What lists that are made of other lists contain.
use Rattle.std.proofs.Common.{◌≡◌, ⊎_elim, ℕ, zero, suc, ◌+◌, ◌<◌, Bool, true, false, List, [], ◌∷◌, ◌++◌, map, filter, flat_map, fold, refl, sym, ap, subst, arith, Contains, add-zero}
use Rattle.std.proofs.lemmas.List.Elements.{Contains-append_left, Contains-append_right, Contains-append_cases}
use Rattle.termwiz_grammar.specs.Table.{numbers}

pub in_map : {X Y : Type 0} (f : X → Y) (xs : List X) (x : X) → Contains xs x → Contains (map f xs) (f x)
in_map f [] x (i, l, e) = absurd (omega arith)
in_map f (y ∷ xs) x (zero, l, e) = (zero, omega arith, ap f e)
in_map f (y ∷ xs) x (suc i, l, e) = let h = in_map f xs x (i, omega arith, e) in (suc h.0, omega (arith, h.1), h.2)

pub in_flat_map : {X Y : Type 0} (f : X → List Y) (xs : List X) (x : X) (y : Y) → Contains xs x → Contains (f x) y
    → Contains (flat_map f xs) y
in_flat_map f [] x y (i, l, e) c = absurd (omega arith)
in_flat_map f (z ∷ xs) x y (zero, l, e) c =
    Contains-append_left (f z) (flat_map f xs) y (subst (λ v. Contains (f v) y) (sym e) c)
in_flat_map f (z ∷ xs) x y (suc i, l, e) c =
    Contains-append_right (f z) (flat_map f xs) y (in_flat_map f xs x y (i, omega arith, e) c)

-- each of the first with each of the second
abbrev pub pairs : {X Y : Type 0} → List X → List Y → List (X × Y)
pairs xs ys = flat_map (λ x. map (λ y. (x, y)) ys) xs

pub in_pairs : {X Y : Type 0} (xs : List X) (ys : List Y) (x : X) (y : Y) → Contains xs x → Contains ys y
    → Contains (pairs xs ys) (x, y)
in_pairs {X} {Y} xs ys x y a b =
    let pair : X → Y → X × Y = λ x y. (x, y) in
    in_flat_map (λ x. map (pair x) ys) xs x (x, y) a (in_map (pair x) ys y b)

-- of a list that is made for each element, what is made for those that are kept
pub in_flat_map_filter : {X Y : Type 0} (f : X → List Y) (p : X → Bool) (xs : List X) (y : Y)
    → Contains (flat_map f (filter p xs)) y → Contains (flat_map f xs) y
in_flat_map_filter f p [] y h = h
in_flat_map_filter f p (x ∷ xs) y h = go (p x) refl (λ c. in_flat_map_filter f p xs y c)
  where
    go : (b : Bool) → p x ≡ b → (Contains (flat_map f (filter p xs)) y → Contains (flat_map f xs) y)
        → Contains (flat_map f (x ∷ xs)) y
    go true e later = ⊎_elim
        (λ (c : Contains (f x) y). Contains-append_left (f x) (flat_map f xs) y c)
        (λ (c : Contains (flat_map f (filter p xs)) y). Contains-append_right (f x) (flat_map f xs) y (later c))
        (Contains-append_cases (f x) (flat_map f (filter p xs)) y (rw e at h))
    go false e later = Contains-append_right (f x) (flat_map f xs) y (later (rw e at h))

pub in_map_filter : {X Y : Type 0} (f : X → Y) (p : X → Bool) (xs : List X) (y : Y) → Contains (map f (filter p xs)) y
    → Contains (map f xs) y
in_map_filter f p [] y h = h
in_map_filter f p (x ∷ xs) y h = go (p x) refl (λ c. in_map_filter f p xs y c)
  where
    go : (b : Bool) → p x ≡ b → (Contains (map f (filter p xs)) y → Contains (map f xs) y) → Contains (map f (x ∷ xs)) y
    go true e later = ⊎_elim
        (λ (c : Contains (f x ∷ []) y). Contains-append_left (f x ∷ []) (map f xs) y c)
        (λ (c : Contains (map f (filter p xs)) y). Contains-append_right (f x ∷ []) (map f xs) y (later c))
        (Contains-append_cases (f x ∷ []) (map f (filter p xs)) y (rw e at h))
    go false e later = Contains-append_right (f x ∷ []) (map f xs) y (later (rw e at h))

-- the same where for each of other elements something is made for each of those that are kept
pub in_flat_map_filtered : {X Y Z : Type 0} (f : Z → X → Y) (p : X → Bool) (xs : List X) (zs : List Z) (y : Y)
    → Contains (flat_map (λ z. map (f z) (filter p xs)) zs) y → Contains (flat_map (λ z. map (f z) xs) zs) y
in_flat_map_filtered f p xs [] y h = h
in_flat_map_filtered {X} {Y} {Z} f p xs (z ∷ zs) y h =
    let kept : Z → List Y = λ z. map (f z) (filter p xs) in
    let all : Z → List Y = λ z. map (f z) xs in
    ⊎_elim
    (λ (c : Contains (kept z) y). Contains-append_left (all z) (flat_map all zs) y (in_map_filter (f z) p xs y c))
    (λ (c : Contains (flat_map kept zs) y). Contains-append_right (all z) (flat_map all zs) y
    (in_flat_map_filtered f p xs zs y c))
    (Contains-append_cases (kept z) (flat_map kept zs) y h)

pub in_filter : {X : Type 0} (p : X → Bool) (xs : List X) (x : X) → Contains xs x → p x ≡ true
    → Contains (filter p xs) x
in_filter p [] x (i, l, e) kept = absurd (omega arith)
in_filter p (y ∷ xs) x (zero, l, e) kept = let first : p y ≡ true = subst (λ z. p z ≡ true) (sym e) kept in
    rw first (zero, omega arith, e)
in_filter p (y ∷ xs) x (suc i, l, e) kept = go (p y) refl (in_filter p xs x (i, omega arith, e) kept)
  where
    go : (b : Bool) → p y ≡ b → Contains (filter p xs) x → Contains (filter p (y ∷ xs)) x
    go true f h = rw f (suc h.0, omega (arith, h.1), h.2)
    go false f h = rw f h

pub in_numbers : (first count i : ℕ) → i < count → Contains (numbers first count) (first + i)
unfolding numbers
in_numbers first zero i l = absurd (omega arith)
in_numbers first (suc count) zero l = (zero, omega arith, sym (add-zero first))
in_numbers first (suc count) (suc i) l =
    let h = in_numbers (suc first) count i (omega arith) in
    let same : suc first + i ≡ first + suc i = omega arith in
    (suc h.0, omega (arith, h.1), rw (← same) h.2)

-- lists that are joined, one after another
abbrev pub joined : {X : Type 0} → List X → List (List X) → List X
joined first lists = fold (λ all xs. all ++ xs) first lists

pub in_first : {X : Type 0} (first : List X) (lists : List (List X)) (x : X) → Contains first x
    → Contains (joined first lists) x
in_first first [] x h = h
in_first first (xs ∷ lists) x h = in_first (first ++ xs) lists x (Contains-append_left first xs x h)

pub in_later : {X : Type 0} (first : List X) (lists : List (List X)) (xs : List X) (x : X) → Contains lists xs
    → Contains xs x → Contains (joined first lists) x
in_later first [] xs x (i, l, e) h = absurd (omega arith)
in_later first (ys ∷ lists) xs x (zero, l, e) h =
    in_first (first ++ ys) lists x (Contains-append_right first ys x (subst (λ zs. Contains zs x) (sym e) h))
in_later first (ys ∷ lists) xs x (suc i, l, e) h = in_later (first ++ ys) lists xs x (i, omega arith, e) h

-- where two functions answer the same on a whole list, they do on each element
pub same_on : {X Y : Type 0} (f g : X → Y) (xs : List X) (x : X) → map f xs ≡ map g xs → Contains xs x → f x ≡ g x
same_on f g [] x same (i, l, e) = absurd (omega arith)
same_on f g (y ∷ xs) x same (zero, l, e) = subst (λ z. f z ≡ g z) e (let h : f y ≡ g y = cc (same) in h)
same_on f g (y ∷ xs) x same (suc i, l, e) =
    same_on f g xs x (let h : map f xs ≡ map g xs = cc (same) in h) (i, omega arith, e)
