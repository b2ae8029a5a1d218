-- Numbers after ESC [ and a last byte have the form of a control sequence.
use Rattle.std.proofs.Common.{◌≡◌, ◌≢◌, ℕ, ◌<◌, ◌≤◌, Bool, List, [], ◌∷◌, ◌++◌, length, refl, ◌∙◌, subst, arith, append_assoc, length-append}
use Rattle.std.specs.List.{AllByRecursion}
use Rattle.termwiz_keymap.proofs.lemmas.lists.CommonPrefixes.{true_at_end, true_from}
use Rattle.termwiz_extended_grammar.specs.Forms.{IsInner, IsControl}
use Rattle.termwiz_extended_grammar.proofs.lemmas.forms.FormBytes.{all_append}
use Rattle.termwiz_senders.proofs.lemmas.WrittenNumbers.{IsBody}

-- what follows ESC [
abbrev pub written : List ℕ → ℕ → List ℕ
written body last = 27 ∷ 91 ∷ (body ++ last ∷ [])

body_inner : (b : ℕ) → IsBody b → IsInner b
body_inner b is = (omega arith, omega arith)

abbrev IsHigh : ℕ → Type 0
IsHigh b = 48 ≤ b

body_high : (b : ℕ) → IsBody b → IsHigh b
body_high b is = is.0

-- a sign is not among them
no_sign : (front t u : List ℕ) → AllByRecursion IsHigh u → u ≡ front ++ 36 ∷ t → ⊥
no_sign front t u high e = (let sign : 48 ≤ 36 = (true_at_end IsHigh front (36 ∷ t) (subst (AllByRecursion IsHigh) e high)).0 in omega arith)

no_letter : (body : List ℕ) (last x : ℕ) (t : List ℕ) → AllByRecursion IsBody body → body ≢ [] → 60 < x → body ++ last ∷ [] ≡ x ∷ t → ⊥
no_letter [] last x t a some high e = some refl
no_letter (y ∷ body) last x t a some high e = (let same : y ≡ x = cc (e) in let is : IsBody y = a.0 in omega arith)

pub control_from : {x10_mouse : Bool} (body : List ℕ) (last : ℕ) → AllByRecursion IsBody body → body ≢ []
    → (64 ≤ last) × (last ≤ 126) → length body ≤ 200 → IsControl x10_mouse (written body last)
control_from body last a some is short = record {
  inner = body;
  last = last;
  form = refl;
  each = true_from IsBody IsInner body_inner body a;
  last_is = is;
  short = omega (arith, short, length-append body (last ∷ []));
  no_mouse = λ on. λ (t, e). no_letter body last 77 t a some (omega arith) (cc (e));
  no_console = λ (t, e). no_letter body last 91 t a some (omega arith) (cc (e));
  no_row = λ digit d. λ (t, e). no_sign (digit ∷ []) t (body ++ last ∷ []) high (cc (e));
  no_shifted = λ number n. λ (t, e).
      (let same : body ++ last ∷ [] ≡ (number ++ 36 ∷ []) ++ t = cc (e) in
      no_sign number t (body ++ last ∷ []) high (same ∙ append_assoc number (36 ∷ []) t));
}
  where
    high : AllByRecursion IsHigh (body ++ last ∷ [])
    high = all_append IsHigh body (last ∷ []) (true_from IsBody IsHigh body_high body a) (omega (arith, is.0), tt)
