-- A text is as long as its fields and what parts them, or as its parts.
use Rattle.std.proofs.Common.{◌≡◌, ◌≢◌, ℕ, ◌+◌, Bool, true, false, List, [], ◌∷◌, ◌++◌, length, refl, sym, ap, ap₂, ◌∙◌, subst, arith, Some, None, length-append}
use Rattle.std.specs.Prelude.{◌==◌}
use Rattle.std.specs.List.{join_with_byte}
use Rattle.std.proofs.lemmas.Bool.Decides.{nat_tests}
use Rattle.std.proofs.lemmas.List.Splits.{join_with_byte-slice_split}
use Rattle.termwiz_extended_events.specs.Numbers.{before_end, fields, parts}
use Rattle.termwiz_extended_grammar.proofs.lemmas.forms.Unfinished.{last_of}
use Rattle.termwiz_kitty.proofs.lemmas.read_back.FieldSplits.{before_end_here, before_other_end}

pub fields_joined : (text : List ℕ) (fs : List (List ℕ)) → fields text ≡ fs → text ≡ join_with_byte 59 fs
fields_joined text fs e = sym (join_with_byte-slice_split 59 text) ∙ ap (join_with_byte 59) e

pub parts_joined : (field : List ℕ) (ps : List (List ℕ)) → parts field ≡ ps → field ≡ join_with_byte 58 ps
parts_joined field ps e = sym (join_with_byte-slice_split 58 field) ∙ ap (join_with_byte 58) e

-- a text and what it is joined from
pub two_long : (c : ℕ) (text a b : List ℕ) → text ≡ join_with_byte c (a ∷ b ∷ []) → length text ≡ length a + 1 + length b
two_long c text a b e = omega (arith, ap length e, length-append a (c ∷ b))

pub three_long : (c : ℕ) (text a b d : List ℕ) → text ≡ join_with_byte c (a ∷ b ∷ d ∷ [])
    → length text ≡ length a + 1 + length b + 1 + length d
three_long c text a b d e = omega (arith, ap length e, length-append a (c ∷ (b ++ c ∷ d)), length-append b (c ∷ d))

-- what stands before an end of one byte, and that end
by_last : (x l : ℕ) (front body : List ℕ) → before_end (x ∷ []) (front ++ l ∷ []) ≡ Some body → front ++ l ∷ [] ≡ body ++ x ∷ []
by_last x l front body e = go (l == x) refl
  where
    go : (b : Bool) → (l == x) ≡ b → front ++ l ∷ [] ≡ body ++ x ∷ []
    go true same =
        let equal : l ≡ x = grind (arith, nat_tests) in
        let here : before_end (x ∷ []) (front ++ x ∷ []) ≡ Some body = subst (λ z. before_end (x ∷ []) (front ++ z ∷ []) ≡ Some body) equal e in
        let found : front ≡ body = cc (before_end_here front x, here) in
        ap₂ (λ f z. f ++ z ∷ []) found equal
    go false other =
        let differ : l ≢ x = grind (arith, nat_tests) in
        absurd (cc (before_other_end front l x differ, e))

none_before : (x : ℕ) → before_end (x ∷ []) [] ≡ None
unfolding before_end
none_before x = refl

pub ends_so : (x : ℕ) (text body : List ℕ) → before_end (x ∷ []) text ≡ Some body → text ≡ body ++ x ∷ []
ends_so x [] body e = absurd (cc (none_before x, e))
ends_so x (y ∷ t) body e =
    let l = last_of (y ∷ t) (λ k. cc (k)) in
    l.2 ∙ by_last x l.1 l.0 body (subst (λ z. before_end (x ∷ []) z ≡ Some body) l.2 e)
