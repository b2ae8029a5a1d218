-- By which rule a report of a key is read, as its last byte tells.
use Rattle.std.proofs.Common.{◌≡◌, ◌≢◌, ℕ, zero, suc, ◌-◌, ◌==◌, List, [], ◌∷◌, length, drop, refl, false, arith, Option, Some, None}
use Rattle.std.specs.List.{slice_get}
use Rattle.std.proofs.lemmas.Bool.Decides.{nat_tests}
use Rattle.std.proofs.lemmas.Option.{slice_get-get_or}
use Rattle.termwiz_extended_events.specs.declared.types.KeyReport.{KeyReport}
use Rattle.termwiz_extended_events.specs.Numbers.{before_end, first_some}
use Rattle.termwiz_extended_events.specs.KeyReports.{character_key, lettered_key, numbered_key, other_key, other_held, key_report}

-- what follows all bytes but the last one
drop_to : (t : List ℕ) (k b : ℕ) → length t ≡ suc k → slice_get t k ≡ Some b → drop k t ≡ b ∷ []
drop_to [] k b long e = absurd (omega (arith, long))
drop_to (x ∷ []) zero b long e = cc (e)
drop_to (x ∷ []) (suc k) b long e = absurd (omega (arith, long))
drop_to (x ∷ y ∷ t) zero b long e = absurd (omega (arith, long))
drop_to (x ∷ y ∷ t) (suc k) b long e = drop_to (y ∷ t) k b (omega (arith, long)) e

drop_to_last : (t : List ℕ) (b : ℕ) → slice_get t (length t - 1) ≡ Some b → drop (length t - 1) t ≡ b ∷ []
drop_to_last [] b e = cc (e)
drop_to_last (x ∷ t) b e = drop_to (x ∷ t) (length (x ∷ t) - 1) b (omega arith) e

-- a text with another last byte doesn't end so
pub other_end : (t : List ℕ) (b end : ℕ) → slice_get t (length t - 1) ≡ Some b → b ≢ end → before_end (end ∷ []) t ≡ None
unfolding before_end
other_end t b end e n =
    let other : (b == end) ≡ false = grind (arith, nat_tests) in
    rw (drop_to_last t b e, other) refl

pub no_character : (t : List ℕ) (b : ℕ) → slice_get t (length t - 1) ≡ Some b → b ≢ 117 → character_key t ≡ None
unfolding character_key
no_character t b e n = rw (other_end t b 117 e n) refl

no_number : (t : List ℕ) (b : ℕ) → slice_get t (length t - 1) ≡ Some b → b ≢ 126 → numbered_key t ≡ None
unfolding numbered_key
no_number t b e n = rw (other_end t b 126 e n) refl

no_other : (t : List ℕ) (b : ℕ) → slice_get t (length t - 1) ≡ Some b → b ≢ 126 → other_key t ≡ None
unfolding other_key other_held
no_other t b e n = rw (other_end t b 126 e n) refl

no_letter_u : (t : List ℕ) → slice_get t (length t - 1) ≡ Some 117 → lettered_key t ≡ None
unfolding lettered_key
no_letter_u t e = rw (e) refl

no_letter_tilde : (t : List ℕ) → slice_get t (length t - 1) ≡ Some 126 → lettered_key t ≡ None
unfolding lettered_key
no_letter_tilde t e = rw (e) refl

first_alone : (first : Option KeyReport) → first_some (first ∷ None ∷ None ∷ None ∷ []) ≡ first
first_alone None = refl
first_alone (Some report) = refl

-- a text that ends with `u` is the report of a character's key, or none
pub ends_with_u : (t : List ℕ) → slice_get t (length t - 1) ≡ Some 117 → key_report t ≡ character_key t
unfolding key_report
ends_with_u t e =
    rw (no_letter_u t e, no_number t 117 e (λ h. omega (arith, h)), no_other t 117 e (λ h. omega (arith, h)))
    (first_alone (character_key t))

-- one that ends with `~` is the report of a key by its number, or of another key
pub ends_with_tilde : (t : List ℕ) → slice_get t (length t - 1) ≡ Some 126
    → key_report t ≡ first_some (numbered_key t ∷ other_key t ∷ [])
unfolding key_report
ends_with_tilde t e = rw (no_character t 126 e (λ h. omega (arith, h)), no_letter_tilde t e) refl

second_alone : (second : Option KeyReport) → first_some (None ∷ second ∷ None ∷ None ∷ []) ≡ second
second_alone None = refl
second_alone (Some report) = refl

-- any other is the report of a key by its letter, or none
pub ends_otherwise : (t : List ℕ) (b : ℕ) → slice_get t (length t - 1) ≡ Some b → b ≢ 117 → b ≢ 126 → key_report t ≡ lettered_key t
unfolding key_report
ends_otherwise t b e u tilde =
    rw (no_character t b e u, no_number t b e tilde, no_other t b e tilde) (second_alone (lettered_key t))

no_bytes : key_report [] ≡ None
unfolding key_report character_key lettered_key numbered_key other_key other_held before_end
no_bytes = refl

-- no bytes are no report
pub ends_nowhere : (t : List ℕ) → slice_get t (length t - 1) ≡ None → key_report t ≡ None
ends_nowhere [] e = no_bytes
ends_nowhere (x ∷ t) e = absurd (cc (e, slice_get-get_or (x ∷ t) (length (x ∷ t) - 1) 0 (omega arith)))
