-- A derived comparison of an enum's values answers whether they are the same value, if at each variant it answers so of
-- the fields.
use Rattle.std.proofs.Common.{◌≡◌, ◌↔◌, Bool, true, false, IsTrue, List, [], ◌∷◌, refl, ap, sym, ◌∙◌, inl, inr}
use denote.Struct.Field.{Field}
use denote.Struct.Values.{Values}
use denote.Enum.Declared.{Record, Choice, values_one}
use denote.Enum.Compared.{Each, by}

abbrev pub IsTrueAnd : Bool → Type 0 → Type 0
IsTrueAnd true P = P
IsTrueAnd false P = ⊥

-- each variant's test answers whether the fields are the same, and is true where there are none
abbrev pub TellSame : (Fss : List (List Field)) → Each Bool Fss → Type 0
TellSame [] tests = Unit {0}
TellSame ([] ∷ Fss) tests = IsTrueAnd (tests.0 tt tt) (TellSame Fss tests.1)
TellSame ((F ∷ Fs) ∷ Fss) tests = ((x y : Values (F ∷ Fs)) → IsTrue (tests.0 x y) ↔ (x ≡ y)) × TellSame Fss tests.1

IsTrueAnd-true : (b : Bool) (P : Type 0) → IsTrueAnd b P → IsTrue b × P
IsTrueAnd-true true P p = (refl, p)
IsTrueAnd-true false P p = absurd p

by-same : (Fss : List (List Field)) (tests : Each Bool Fss) → TellSame Fss tests → (c d : Choice Fss)
    → IsTrue (by false false Fss tests c d) ↔ (c ≡ d)
by-same [] tests tell c d = absurd c
by-same ([] ∷ Fss) tests tell (inl x) (inl y) = (λ _. refl, λ _. (IsTrueAnd-true (tests.0 tt tt) _ tell).0)
by-same ((F ∷ Fs) ∷ Fss) tests tell (inl x) (inl y) = (λ h. ap inl ((tell.0 x y).0 h), λ e. (tell.0 x y).1 (cc))
by-same ([] ∷ Fss) tests tell (inr c) (inr d) =
    let rest = by-same Fss tests.1 (IsTrueAnd-true (tests.0 tt tt) _ tell).1 c d in
    (λ h. ap inr (rest.0 h), λ e. rest.1 (cc))
by-same ((F ∷ Fs) ∷ Fss) tests tell (inr c) (inr d) =
    let rest = by-same Fss tests.1 tell.1 c d in
    (λ h. ap inr (rest.0 h), λ e. rest.1 (cc))
by-same (Fs ∷ Fss) tests tell (inl x) (inr d) = (λ h. cc, λ e. cc)
by-same (Fs ∷ Fss) tests tell (inr c) (inl y) = (λ h. cc, λ e. cc)

-- r is what the derived comparison answers
pub tells_same : (N : Record) (tests : Each Bool N.parts) (a b : N.D) (r : Bool)
    → r ≡ by false false N.parts tests (N.as_values a) (N.as_values b) → TellSame N.parts tests → IsTrue r ↔ (a ≡ b)
tells_same N tests a b r is tell =
    let same = by-same N.parts tests tell (N.as_values a) (N.as_values b) in
    (λ h. values_one N a b (same.0 (sym is ∙ h)), λ e. is ∙ same.1 (ap N.as_values e))

-- a variant of one field
pub one_field : {A : Type 0} (test : A → A → Bool) → ((a b : A) → IsTrue (test a b) ↔ (a ≡ b)) → (x y : A × Unit {0})
    → IsTrue (test x.0 y.0) ↔ (x ≡ y)
one_field test same x y =
    let tells = same x.0 y.0 in
    (λ h. let e : x.0 ≡ y.0 = tells.0 h in λ i. (e i, tt), λ e. tells.1 (ap (λ p. p.0) e))
