-- Numbers that are appended one after another.
use Rattle.std.proofs.Common.{◌≡◌, ℕ, suc, ◌+◌, ◌<◌, ◌≤◌, List, [], ◌∷◌, ◌++◌, length, take, sym, ap, ◌∙◌, arith, append_assoc, append-nil, flat_map, decimal, slice_index_or}
use Rattle.std.proofs.Math.Seq.{take-suc}
use Rattle.std.proofs.lemmas.Grind.{flat_map-append}
use Rattle.std.proofs.lemmas.List.{take_all}
use Rattle.termwiz_senders.specs.EventTexts.{further_number}

pub none_appended : (before : List ℕ) → before ≡ before ++ []
none_appended before = sym (append-nil before)

pub one_appended : (numbers : List ℕ) (i : ℕ) (before so_far after : List ℕ) → i < length numbers
    → so_far ≡ before ++ flat_map further_number (take i numbers) → after ≡ so_far ++ 59 ∷ decimal (slice_index_or numbers i 0)
    → after ≡ before ++ flat_map further_number (take (i + 1) numbers)
one_appended numbers i before so_far after inside is one =
    let next : take (i + 1) numbers ≡ take i numbers ++ (slice_index_or numbers i 0 ∷ []) =
    (let same : i + 1 ≡ suc i = omega arith in ap (λ n. take n numbers) same) ∙ take-suc numbers i 0 inside in
    one ∙ ap (λ t. t ++ 59 ∷ decimal (slice_index_or numbers i 0)) is
    ∙ append_assoc before (flat_map further_number (take i numbers)) (59 ∷ decimal (slice_index_or numbers i 0))
    ∙ ap (λ t. before ++ t) (sym (ap (flat_map further_number) next
    ∙ flat_map-append further_number (take i numbers) (slice_index_or numbers i 0 ∷ [])
    ∙ ap (λ t. flat_map further_number (take i numbers) ++ t) (append-nil (59 ∷ decimal (slice_index_or numbers i 0)))))

pub all_appended : (numbers : List ℕ) (i : ℕ) (before after : List ℕ) → length numbers ≤ i
    → after ≡ before ++ flat_map further_number (take i numbers) → after ≡ before ++ flat_map further_number numbers
all_appended numbers i before after all is = is ∙ ap (λ t. before ++ flat_map further_number t) (take_all i numbers all)
