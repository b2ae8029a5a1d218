-- The characters with which sequences begin mean other keys than themselves.
use Rattle.std.proofs.Common.{◌≡◌, ◌≢◌, ⊎_elim, ℕ, zero, ◌+◌, ◌-◌, ◌<◌, Bool, true, false, not, Option, Some, None, List, [], ◌∷◌, ◌++◌, refl, sym, subst, arith, Contains, bytes_eq, ◌&&◌, ◌==◌}
use Rattle.std.specs.List.{list_all}
use Rattle.std.specs.Map.{lookup}
use Rattle.std.proofs.lemmas.Slice.Eq.{bytes_eq-Decides}
use Rattle.std.proofs.lemmas.List.Elements.{All-contains, Contains-append_left, Contains-append_right}
use Rattle.std.proofs.lemmas.List.Sums.{AllPass-from_list_all}
use Rattle.std.proofs.lemmas.Map.Views.{Contains-from_lookup}
use Rattle.termwiz_keys.specs.declared.types.KeyCode.{KeyCode}
use Rattle.termwiz_keys.specs.declared.types.KeyCode.TheVariants.{Char}
use Rattle.termwiz_keys.specs.declared.types.KeyEvent.{KeyEvent}
use Rattle.termwiz_keys.specs.Keys.{plain}
use Rattle.termwiz_grammar.specs.Table.{rows, numbers, written_out}
use Rattle.termwiz_grammar.proofs.lemmas.lists.ListMembers.{in_numbers}
use Rattle.termwiz_laws.proofs.lemmas.first_bytes.NoSequence.{BeginsSequence}

abbrev is_char : KeyCode → Bool
is_char (Char c) = true
is_char _ = false

-- the key of a character, without modifiers
abbrev is_plain_key : KeyEvent → Bool
is_plain_key k = is_char k.key && (k.modifiers.0 == 0)

abbrev is_other : Option KeyEvent → Bool
is_other None = false
is_other (Some k) = not (is_plain_key k)

-- the key of a byte that is a row
abbrev own_key : ℕ → Option KeyEvent
own_key c = lookup (bytes_eq (c ∷ [])) rows

abbrev beginning_bytes : List ℕ
beginning_bytes = numbers 1 27 ++ 127 ∷ []

all_other : list_all (λ c. is_other (own_key c)) beginning_bytes ≡ true
unfolding written_out numbers
all_other = refl

in_list : (c : ℕ) → BeginsSequence c → Contains beginning_bytes c
in_list c begins = ⊎_elim
    (λ (low : (0 < c) × (c < 28)).
    let same : 1 + (c - 1) ≡ c = omega (arith, low.0) in
    Contains-append_left (numbers 1 27) (127 ∷ []) c
    (subst (λ x. Contains (numbers 1 27) x) same (in_numbers 1 27 (c - 1) (omega (arith, low.0, low.1)))))
    (λ (last : c ≡ 127). Contains-append_right (numbers 1 27) (127 ∷ []) c (zero, omega arith, sym last))
    begins

pub record OtherKey (c : ℕ) : Type 0 where
  pub key : KeyEvent
  pub row : Contains rows (c ∷ [], key)
  pub other : key ≢ plain c

pub other_key : (c : ℕ) → BeginsSequence c → OtherKey c
other_key c begins = go (own_key c) refl
    (All-contains (λ x. is_other (own_key x) ≡ true) beginning_bytes c
    (AllPass-from_list_all (λ x. is_other (own_key x)) beginning_bytes all_other) (in_list c begins))
  where
    go : (o : Option KeyEvent) → own_key c ≡ o → is_other (own_key c) ≡ true → OtherKey c
    go None e passes = absurd (let none : is_other None ≡ true = subst (λ x. is_other x ≡ true) e passes in cc)
    go (Some k) e passes = record {
      key = k;
      row = Contains-from_lookup (λ (s t : List ℕ) (h : bytes_eq s t ≡ true). (bytes_eq-Decides s t).0 h) (c ∷ []) k rows e;
      other = λ same.
          let some : not (is_plain_key k) ≡ true = subst (λ x. is_other x ≡ true) e passes in
          let none : not (is_plain_key (plain c)) ≡ true = subst (λ x. not (is_plain_key x) ≡ true) same some in
          cc;
    }
