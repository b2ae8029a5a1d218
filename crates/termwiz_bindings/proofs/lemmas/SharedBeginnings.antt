-- Two lists that begin one list.
use Rattle.std.proofs.Common.{◌≡◌, ◌≢◌, ◌<◌, ◌≤◌, List, [], ◌∷◌, ◌++◌, length, take, refl, sym, ap, ◌∙◌, length-append, arith}
use Rattle.std.proofs.lemmas.List.{take_at}

module _ {X : Type 0} where
  -- Where a and u begin one list, a begins u or is longer and goes on after it.
  pub data Overlaps (a r u s : List X) : Type 0 where
    within : (t : List X) → u ≡ a ++ t → r ≡ t ++ s → Overlaps a r u s
    past : (t : List X) → t ≢ [] → a ≡ u ++ t → s ≡ t ++ r → Overlaps a r u s

  overlaps_cons : {a r u s : List X} (x y : X) → x ≡ y → Overlaps a r u s → Overlaps (x ∷ a) r (y ∷ u) s
  overlaps_cons x y same (within t e f) = within t (cc) f
  overlaps_cons x y same (past t n e f) = past t n (cc) f

  pub overlap : (a r u s : List X) → u ++ s ≡ a ++ r → Overlaps a r u s
  overlap [] r u s e = within u refl (sym e)
  overlap (x ∷ a) r [] s e = past (x ∷ a) (λ h. cc) refl e
  overlap (x ∷ a) r (y ∷ u) s e =
      let head : x ≡ y = cc in
      let tail : u ++ s ≡ a ++ r = cc in
      overlaps_cons x y head (overlap a r u s tail)

  pub append-some : (s t : List X) → t ≢ [] → s ++ t ≢ []
  append-some [] t n = n
  append-some (x ∷ s) t n = λ h. cc

  pub append-some_left : (s t : List X) → s ≢ [] → s ++ t ≢ []
  append-some_left [] t n = absurd (n refl)
  append-some_left (x ∷ s) t n = λ h. cc

  pub length-some : (t : List X) → t ≢ [] → 0 < length t
  length-some [] n = absurd (n refl)
  length-some (x ∷ t) n = omega arith

  -- two that begin one list and are equally long are the same
  pub same_from_length : (a b r s : List X) → a ++ r ≡ b ++ s → length a ≡ length b → a ≡ b
  same_from_length [] [] r s e l = refl
  same_from_length [] (y ∷ b) r s e l = absurd (omega arith)
  same_from_length (x ∷ a) [] r s e l = absurd (omega arith)
  same_from_length (x ∷ a) (y ∷ b) r s e l =
      let rest : a ≡ b = same_from_length a b r s (cc) (omega arith) in
      cc

  -- what begins a list is its first elements
  pub taken_front : (u a r : List X) → u ≡ a ++ r → take (length a) u ≡ a
  taken_front u a r e = ap (λ z. take (length a) z) e ∙ take_at a r (length a) refl

  pub front_fits : (u a r : List X) → u ≡ a ++ r → length a ≤ length u
  front_fits u a r e = omega (arith, ap length e, length-append a r)
