-- Two lists that begin one list.
use Rattle.std.proofs.Common.{◌≡◌, ◌≢◌, ℕ, ◌<◌, ◌≤◌, List, [], ◌∷◌, ◌++◌, length, refl, sym, ap, ◌∙◌, append_assoc, length-append, arith}
use Rattle.std.specs.List.{AllByRecursion}
use Rattle.termwiz_keymap.specs.Bytes.{Begins}

-- Where a and u begin one list, a begins u or is longer and goes on after it.
pub data Overlaps (a r u s : List ℕ) : Type 0 where
  within : (t : List ℕ) → u ≡ a ++ t → r ≡ t ++ s → Overlaps a r u s
  past : (t : List ℕ) → t ≢ [] → a ≡ u ++ t → s ≡ t ++ r → Overlaps a r u s

overlaps_cons : {a r u s : List ℕ} (x y : ℕ) → x ≡ y → Overlaps a r u s → Overlaps (x ∷ a) r (y ∷ u) s
overlaps_cons x y same (within t e f) = within t (cc) f
overlaps_cons x y same (past t n e f) = past t n (cc) f

pub overlap : (a r u s : List ℕ) → u ++ s ≡ a ++ r → Overlaps a r u s
overlap [] r u s e = within u refl (sym e)
overlap (x ∷ a) r [] s e = past (x ∷ a) (λ h. cc) refl e
overlap (x ∷ a) r (y ∷ u) s e =
    let head : x ≡ y = cc in
    let tail : u ++ s ≡ a ++ r = cc in
    overlaps_cons x y head (overlap a r u s tail)

pub append-some : (s t : List ℕ) → t ≢ [] → s ++ t ≢ []
append-some [] t n = n
append-some (x ∷ s) t n = λ h. cc

pub append-some_left : (s t : List ℕ) → s ≢ [] → s ++ t ≢ []
append-some_left [] t n = absurd (n refl)
append-some_left (x ∷ s) t n = λ h. cc

pub length-some : (t : List ℕ) → t ≢ [] → 0 < length t
length-some [] n = absurd (n refl)
length-some (x ∷ t) n = omega arith

pub length-Begins : (text u : List ℕ) → Begins text u → length text ≤ length u
length-Begins text u b = omega (arith, ap length b.1, length-append text b.0)

pub Begins-append : (text u s : List ℕ) → Begins text u → Begins text (u ++ s)
Begins-append text u s (rest, e) = (rest ++ s, ap (λ x. x ++ s) e ∙ append_assoc text rest s)

-- two that begin one list and are equally long are the same
pub same_from_length : (a b u : List ℕ) → Begins a u → Begins b u → length a ≡ length b → a ≡ b
same_from_length [] [] u p q e = refl
same_from_length [] (y ∷ b) u p q e = absurd (omega arith)
same_from_length (x ∷ a) [] u p q e = absurd (omega arith)
same_from_length (x ∷ a) (y ∷ b) [] p q e = absurd (cc (p.1))
same_from_length (x ∷ a) (y ∷ b) (z ∷ u) p q e =
    let rest : a ≡ b = same_from_length a b u (p.0, cc (p.1)) (q.0, cc (q.1)) (omega arith) in
    cc (p.1, q.1)

-- what is true of each byte of a text is true of each byte of its end
pub true_at_end : (P : ℕ → Type 0) (s t : List ℕ) → AllByRecursion P (s ++ t) → AllByRecursion P t
true_at_end P [] t a = a
true_at_end P (x ∷ s) t a = true_at_end P s t a.1

pub true_at_front : (P : ℕ → Type 0) (s t : List ℕ) → AllByRecursion P (s ++ t) → AllByRecursion P s
true_at_front P [] t a = tt
true_at_front P (x ∷ s) t a = (a.0, true_at_front P s t a.1)

-- what follows from what is true of each byte is true of each byte
pub true_from : (P Q : ℕ → Type 0) → ((b : ℕ) → P b → Q b) → (s : List ℕ) → AllByRecursion P s → AllByRecursion Q s
true_from P Q follows [] a = tt
true_from P Q follows (x ∷ s) a = (follows x a.0, true_from P Q follows s a.1)
