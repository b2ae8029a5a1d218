-- The keys and their numbers: the list of the keys, and the number of each, go the same way.
use Rattle.std.proofs.Common.{◌≡◌, ◌↔◌, ℕ, ◌+◌, ◌-◌, ◌<◌, ◌≤◌, List, Option, Some, refl, sym, ap, ◌∙◌, subst, arith, length, get_or, map}
use Rattle.std.proofs.lemmas.List.{get_or-map}
use Rattle.std.specs.List.{range_with_len}
use Rattle.std.proofs.lemmas.List.FromFn.{get_or-range_with_len}
use Rattle.termwiz_keys.specs.declared.types.KeyCode.{KeyCode}
use Rattle.termwiz_keys.specs.declared.types.KeyCode.TheVariants.{Char, Function}
use Rattle.termwiz_extended_events.specs.declared.types.ReportedKey.{ReportedKey}
use Rattle.termwiz_extended_events.specs.declared.types.ReportedKey.TheVariants.{Named, Functional}
use Rattle.termwiz_bindings.specs.declared.numbers.TheConstants.{KEYS}
use Rattle.termwiz_bindings.specs.Codes.{IsKeyInRange, key_with}
use Rattle.termwiz_bindings.specs.Numbers.{Carries, StandFor, StandForReported, bare, key_detail, key_number, reported_detail, reported_number}

-- how many keys there are
abbrev pub key_count : ℕ
key_count = length KEYS.now

-- each key is in the list, at the place of its number
pub place_of : (key : KeyCode) (d : KeyCode) → get_or KEYS.now (key_number key - 1) d ≡ bare key
unfolding key_number bare
place_of (Char character) d = refl
place_of (Function number) d = refl
place_of key d = refl

-- a number of a key is one of 1 to the number of keys
pub number_within : (key : KeyCode) → (1 ≤ key_number key) × (key_number key ≤ key_count)
unfolding key_number
number_within (Char character) = (omega arith, omega arith)
number_within (Function number) = (omega arith, omega arith)
number_within key = (omega arith, omega arith)

-- the list has the keys in the order of their numbers
in_order : map key_number KEYS.now ≡ range_with_len 1 key_count
unfolding key_number
in_order = refl

pub number_at : (i : ℕ) (d : KeyCode) → i < key_count → key_number (get_or KEYS.now i d) ≡ i + 1
number_at i d inside =
    let number : get_or (map key_number KEYS.now) i 0 ≡ key_number (get_or KEYS.now i d) =
    get_or-map key_number KEYS.now i d 0 inside in
    let counted : get_or (range_with_len 1 key_count) i 0 ≡ 1 + i = get_or-range_with_len 1 key_count i 0 inside in
    sym number ∙ ap (λ (numbers : List ℕ). get_or numbers i 0) in_order ∙ counted ∙ omega arith

-- the place of a key, by its number
pub place_is : (key : KeyCode) (number : ℕ) (d : KeyCode) → key_number key ≡ number
    → get_or KEYS.now (number - 1) d ≡ bare key
place_is key number d is = subst (λ n. get_or KEYS.now (n - 1) d ≡ bare key) is (place_of key d)

-- what a key carries changes neither its number nor what it is without that
number_of_bare : (key : KeyCode) → key_number (bare key) ≡ key_number key
unfolding key_number bare
number_of_bare (Char character) = refl
number_of_bare (Function number) = refl
number_of_bare key = refl

bare_of_bare : (key : KeyCode) → bare (bare key) ≡ bare key
unfolding bare
bare_of_bare (Char character) = refl
bare_of_bare (Function number) = refl
bare_of_bare key = refl

-- a key with this number, and one with this detail that is the same without what it carries
pub stands : (number detail : ℕ) (found : KeyCode) → key_number found ≡ number
    → ((key : KeyCode) → key_number key ≡ number → ◌≡◌ {A = Option KeyCode} (Some found) (Some (bare key)))
    → (key : KeyCode) → ((bare key ≡ bare found) × Carries key detail) ↔ StandFor number detail key
stands number detail found is every key = (
  λ (same, carries). (sym (number_of_bare key) ∙ ap key_number same ∙ number_of_bare found ∙ is, carries),
  λ (numbered, carries).
      (let e = every key numbered in let f : found ≡ bare key = cc (e) in sym (ap bare f ∙ bare_of_bare key), carries),
)

-- the number of a key fits a byte
pub number_below : (key : ReportedKey) → reported_number key < 256
unfolding reported_number
number_below (Named key) = omega (arith, (number_within key).1)
number_below (Functional number) = omega arith

-- a key is the one with its number and its detail
pub own_key : (key : ReportedKey) → key_with (reported_number key) (reported_detail key) ≡ key
unfolding key_with reported_number reported_detail key_number key_detail
own_key (Named (Char character)) = refl
own_key (Named (Function number)) = refl
own_key (Named key) = refl
own_key (Functional number) = refl

-- its number and its detail stand for it
pub stands_for_itself : (key : ReportedKey) → IsKeyInRange key → StandForReported (reported_number key) (reported_detail key) key
unfolding reported_number reported_detail key_detail Carries
stands_for_itself (Named (Char character)) inside = (refl, (refl, inside))
stands_for_itself (Named (Function number)) inside = (refl, (refl, inside))
stands_for_itself (Named key) inside = (refl, tt)
stands_for_itself (Functional number) inside = (refl, refl)
