-- Where a needle occurs in a text from an offset on.
use Rattle.std.proofs.Common.{◌≡◌, ℕ, ◌+◌, ◌-◌, ◌≤◌, List, length, take, drop, sym, ◌∙◌, subst, arith, length-drop, get_or-drop}
use Rattle.std.specs.Prelude.{Some, None}
use Rattle.std.proofs.lemmas.List.{take_rest}
use Rattle.memchr.specs.Find.{OccursAt, FindsNeedle, Nowhere}

-- an occurrence past an offset, and in what is left from there
occurs_later : (hay needle : List ℕ) (offset k : ℕ) → offset ≤ length hay → OccursAt (drop offset hay) needle k
    → OccursAt hay needle (offset + k)
occurs_later hay needle offset k inside h = record {
  fits = omega (arith, length-drop offset hay, h.fits);
  reads = λ j l. (let e : (offset + k) + j ≡ offset + (k + j) = omega arith in
      rw e (sym (get_or-drop offset hay (k + j) 0) ∙ h.reads j l));
}

occurs_sooner : (hay needle : List ℕ) (offset k : ℕ) → offset ≤ k → OccursAt hay needle k
    → OccursAt (drop offset hay) needle (k - offset)
occurs_sooner hay needle offset k past h = record {
  fits = omega (arith, length-drop offset hay, h.fits);
  reads = λ j l. get_or-drop offset hay ((k - offset) + j) 0
      ∙ (let e : offset + ((k - offset) + j) ≡ k + j = omega arith in rw e (h.reads j l));
}

-- a search from an offset on, by a search of what is left from there
pub none_from : (hay needle : List ℕ) (offset : ℕ) → offset ≤ length hay
    → FindsNeedle (take (length hay - offset) (drop offset hay)) needle 0 None → FindsNeedle hay needle offset None
none_from hay needle offset inside never k low high here =
    (let P : List ℕ → Type 0 = λ t. Nowhere (OccursAt t needle) 0 (length t + 1) in
    subst P (take_rest hay offset) never)
    (k - offset) (omega arith) (omega (arith, length-drop offset hay, here.fits))
    (occurs_sooner hay needle offset k low here)

pub found_from : (hay needle : List ℕ) (offset k : ℕ) → offset ≤ length hay
    → FindsNeedle (take (length hay - offset) (drop offset hay)) needle 0 (Some k)
    → FindsNeedle hay needle offset (Some (offset + k))
found_from hay needle offset k inside found =
    let P : List ℕ → Type 0 = λ t. FindsNeedle t needle 0 (Some k) in
    let first = subst P (take_rest hay offset) found in
    let here = occurs_later hay needle offset k inside first.1 in (
      record {
        low = omega arith;
        high = omega (arith, here.fits);
        before = λ j low high at. first.0.before (j - offset) (omega arith) (omega arith)
            (occurs_sooner hay needle offset j low at);
      },
      here,
    )
