-- An exact answer stays when the text grows.
use Rattle.std.proofs.Common.{◌≡◌, ◌∙◌, ◌<◌, ◌+◌, ◌-◌, ℕ, Bool, true, List, ◌++◌, length, take, refl, ap, subst, arith, ⊎_elim, length-append, length-take, append_assoc}
use Rattle.std.proofs.lemmas.List.{take-append-le}
use Rattle.std.proofs.lemmas.Bool.{cases_lt}
use Rattle.std.proofs.Math.Seq.{take-append-add}
use Rattle.std.specs.Prelude.{Option, Some, None, IsSome}
use Rattle.std.specs.FinMap as map
use Rattle.termwiz_keymap.specs.Lookup.{ByteMap, IsExtended, LookupGives}
use Rattle.termwiz_keymap.specs.declared.keymap.Found.TheVariants.{Exact}

-- a beginning that is longer than t goes on into s
pub in_rest : (t s : List ℕ) (k : ℕ) → length t < k → take k (t ++ s) ≡ t ++ take (k - length t) s
in_rest t s k past = ap (λ n. take n (t ++ s)) {x = k} {y = length t + (k - length t)} (omega arith)
    ∙ take-append-add t s (k - length t)

module _ {V : Type 0} (m : ByteMap V) where
  -- a text that is not extended has no key beyond it
  pub none_beyond : (t r : List ℕ) → ¬ (IsExtended m t) → 0 < length r → map.get m (t ++ r) ≡ None
  none_beyond t r closed more = by (map.get m (t ++ r)) (λ there. closed (r, more, there))
    where
      by : (o : Option V) → ¬ (IsSome o) → o ≡ None
      by None h = refl
      by (Some v) h = absurd (h refl)

  closed_beyond : (t s : List ℕ) → ¬ (IsExtended m t) → ¬ (IsExtended m (t ++ s))
  closed_beyond t s closed (r, more, there) =
      closed (s ++ r, omega (arith, length-append s r), subst (λ k. IsSome (map.get m k)) (append_assoc t s r) there)

  pub stays : (t s : List ℕ) (n : ℕ) (v : V) (more : Bool) → LookupGives m t true (Exact n v)
      → LookupGives m (t ++ s) more (Exact n v)
  stays t s n v more (is, final) =
      let closed : ¬ (IsExtended m t) = λ h. absurd (let e = final h in (cc)) in (
        record {
          within = omega (arith, is.within, length-append t s);
          stored = ap (map.get m) (take-append-le n t s is.within) ∙ is.stored;
          longest = λ k above below. ⊎_elim
              (λ past. rw (in_rest t s k past) (none_beyond t (take (k - length t) s) closed
              (omega (arith, length-take (k - length t) s, length-append t s))))
              (λ inside. ap (map.get m) (take-append-le k t s inside) ∙ is.longest k above inside)
              (cases_lt (length t) k);
        },
        λ h. absurd (closed_beyond t s closed h),
      )
