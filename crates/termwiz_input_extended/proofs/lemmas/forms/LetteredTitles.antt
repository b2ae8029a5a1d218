-- The letter of a title, data after it, and what comes after these.
use Rattle.std.proofs.Common.{◌≡◌, ◌≢◌, ℕ, suc, ◌-◌, ◌<◌, ◌≤◌, List, [], ◌∷◌, ◌++◌, length, take, drop, get_or, refl, sym, ap, ◌∙◌, subst, arith, min, length-take, length-take-le, length-drop, take-append-drop}
use Rattle.std.specs.List.{AllByRecursion}
use Rattle.std.proofs.lemmas.List.{take_rest, get_or-take, take-take}
use Rattle.std.proofs.Math.Seq.{drop-cons}
use Rattle.termwiz_extended_events.specs.declared.types.StringKind.TheVariants.{Osc}
use Rattle.termwiz_extended_grammar.specs.Forms.{IsData}

-- what follows the first byte
abbrev pub body_of : List ℕ → List ℕ
body_of r = take (length r - 1) (drop 1 r)

pub record Lettered (r : List ℕ) (len : ℕ) : Type 0 where
  pub bytes : List ℕ
  pub after : List ℕ
  pub whole : r ≡ get_or r 0 0 ∷ (bytes ++ after)
  pub each : AllByRecursion (IsData Osc) bytes
  pub size : length bytes ≡ len
  pub after_is : after ≡ drop len (body_of r)
  pub rest : length after ≡ length (body_of r) - len

first_and_body : (r : List ℕ) → r ≢ [] → r ≡ get_or r 0 0 ∷ body_of r
first_and_body [] some = absurd (some refl)
first_and_body (c ∷ r) some = ap (λ z. c ∷ z) (sym (take_rest (c ∷ r) 1))

pub lettered : (r : List ℕ) (m len : ℕ) → r ≢ [] → AllByRecursion (IsData Osc) (take len (take m (body_of r)))
    → len ≤ length (take m (body_of r)) → Lettered r len
lettered r m len some each inside =
    let size : length (take m (body_of r)) ≡ min m (length (body_of r)) = length-take m (body_of r) in
    record {
      bytes = take len (body_of r);
      after = drop len (body_of r);
      whole = first_and_body r some ∙ ap (λ z. get_or r 0 0 ∷ z) (sym (take-append-drop len (body_of r)));
      each = subst (AllByRecursion (IsData Osc)) (take-take len m (body_of r) (omega (arith, size, inside))) each;
      size = length-take-le len (body_of r) (omega (arith, size, inside));
      after_is = refl;
      rest = length-drop len (body_of r);
    }

-- the byte after the data
pub lettered_next : (r : List ℕ) (m len : ℕ) → len < length (take m (body_of r))
    → drop len (body_of r) ≡ get_or (take m (body_of r)) len 0 ∷ drop (suc len) (body_of r)
lettered_next r m len inside =
    let size : length (take m (body_of r)) ≡ min m (length (body_of r)) = length-take m (body_of r) in
    drop-cons (body_of r) len 0 (omega (arith, size, inside))
    ∙ ap (λ b. b ∷ drop (suc len) (body_of r)) (sym (get_or-take m (body_of r) len 0 (omega (arith, size, inside))))
