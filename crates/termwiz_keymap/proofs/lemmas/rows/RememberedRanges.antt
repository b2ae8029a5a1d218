-- A remembered range is the range of the bytes that it is remembered by.
use Rattle.std.proofs.Common.{⊎_elim, ◌≡◌, ◌∙◌, ◌+◌, ◌-◌, ◌*◌, ◌/◌, ◌<◌, ◌≤◌, ◌^◌, min, ℕ, suc, List, [], ◌∷◌, ◌++◌, length, take, get_or, set, refl, sym, ap, subst, arith}
use Rattle.std.specs.List.{insert, remove}
use Rattle.std.proofs.lemmas.Bool.{cases_lt}
use Rattle.std.proofs.lemmas.List.{get_or-take, get_or_past, length-take-le, length-take, take_more}
use Rattle.std.proofs.lemmas.List.Elements.{All-contains, All-nil, All-set}
use Rattle.termwiz_keymap.specs.declared.keymap.row.Row.{Row}
use Rattle.termwiz_keymap.specs.declared.keymap.range.Range.{Range}
use Rattle.termwiz_keymap.specs.declared.keymap.remembered.Remembered.{Remembered}
use Rattle.termwiz_keymap.specs.KeyRows.{key_of, AreAscending, IsAt, IsGapFor}
use Rattle.termwiz_keymap.specs.KeyRanges.{IsLongest, IsRangeOf}
use Rattle.termwiz_keymap.specs.Remembering.{number_after, number_of, AreBytes, range_in, IsAmongPlaces, IsFoundFor, IsRight, AreRemembered, AreSearchable}
use Rattle.termwiz_keymap.proofs.lemmas.rows.AscendingRows.{ascending_set, ascending_inserted, ascending_removed}

number_after-more : (n : ℕ) (bytes : List ℕ) (b : ℕ) → number_after n (bytes ++ b ∷ []) ≡ number_after n bytes * 256 + b
number_after-more n [] b = refl
number_after-more n (x ∷ bytes) b = number_after-more (n * 256 + x) bytes b

-- the number of one byte more
pub number_more : (text : List ℕ) (d : ℕ) → d < length text
    → number_of (take (d + 1) text) ≡ number_of (take d text) * 256 + get_or text d 0
number_more text d inside =
    ap number_of (take_more text d 0 inside) ∙ number_after-more 0 (take d text) (get_or text d 0)

-- the number of one byte less
pub number_shorter : (text : List ℕ) (d n : ℕ) → AreBytes text → 0 < d → d ≤ length text → n ≡ number_of (take d text)
    → n / 256 ≡ number_of (take (d - 1) text)
number_shorter text d n bytes some inside is =
    let same : number_of (take (d - 1 + 1) text) ≡ number_of (take d text) =
    ap (λ k. number_of (take k text)) {x = d - 1 + 1} {y = d} (omega arith) in
    omega (arith, is, same, number_more text (d - 1) (omega arith), bytes (d - 1))

-- equally many bytes with the same number are the same
same_bytes : (a b : ℕ) (xs ys : List ℕ) → AreBytes xs → AreBytes ys → length xs ≡ length ys
    → number_after a xs ≡ number_after b ys → (a ≡ b) × (xs ≡ ys)
same_bytes a b [] [] bx bY len e = (e, refl)
same_bytes a b [] (y ∷ ys) bx bY len e = absurd (omega arith)
same_bytes a b (x ∷ xs) [] bx bY len e = absurd (omega arith)
same_bytes a b (x ∷ xs) (y ∷ ys) bx bY len e =
    let rest = same_bytes (a * 256 + x) (b * 256 + y) xs ys (λ k. bx (suc k)) (λ k. bY (suc k)) (omega arith) e in
    let small_x : x < 256 = bx 0 in
    let small_y : y < 256 = bY 0 in
    let sums : a * 256 + x ≡ b * 256 + y = rest.0 in
    let first : x ≡ y = omega (arith, sums, small_x, small_y) in
    let rests : xs ≡ ys = rest.1 in
    (omega (arith, sums, small_x, small_y), cc (first, rests))

-- the number of at most seven bytes
pub number_fits : (xs : List ℕ) → AreBytes xs → length xs ≤ 7 → number_of xs < 2 ^ 56
number_fits [] bytes few = omega arith
number_fits (a ∷ []) bytes few = omega (arith, bytes 0)
number_fits (a ∷ b ∷ []) bytes few = omega (arith, bytes 0, bytes 1)
number_fits (a ∷ b ∷ c ∷ []) bytes few = omega (arith, bytes 0, bytes 1, bytes 2)
number_fits (a ∷ b ∷ c ∷ d ∷ []) bytes few = omega (arith, bytes 0, bytes 1, bytes 2, bytes 3)
number_fits (a ∷ b ∷ c ∷ d ∷ e ∷ []) bytes few = omega (arith, bytes 0, bytes 1, bytes 2, bytes 3, bytes 4)
number_fits (a ∷ b ∷ c ∷ d ∷ e ∷ f ∷ []) bytes few =
    omega (arith, bytes 0, bytes 1, bytes 2, bytes 3, bytes 4, bytes 5)
number_fits (a ∷ b ∷ c ∷ d ∷ e ∷ f ∷ g ∷ []) bytes few =
    omega (arith, bytes 0, bytes 1, bytes 2, bytes 3, bytes 4, bytes 5, bytes 6)
number_fits (a ∷ b ∷ c ∷ d ∷ e ∷ f ∷ g ∷ h ∷ xs) bytes few = absurd (omega arith)

-- the first bytes of a text are bytes
pub front_bytes : (text : List ℕ) (d : ℕ) → AreBytes text → AreBytes (take d text)
front_bytes text d bytes k = ⊎_elim
    (λ (l : k < d). omega (arith, get_or-take d text k 0 l, bytes k))
    (λ (p : d ≤ k). omega (arith, get_or_past (take d text) k 0 (omega (arith, length-take d text))))
    (cases_lt k d)

-- what is found for one byte more
pub found_more : (places : List Remembered) (text : List ℕ) (found next : Remembered) → IsFoundFor places text found
    → found.depth < length text
    → IsAmongPlaces places (found.number * 256 + get_or text found.depth 0) (found.depth + 1) next
    → IsFoundFor places text next
found_more places text found next is inside at = record {
  among = at.among;
  some = omega (arith, at.its_depth);
  inside = omega (arith, at.its_depth);
  its_number =
      at.its_number ∙ ap (λ n. n * 256 + get_or text found.depth 0) is.its_number
      ∙ sym (number_more text found.depth inside) ∙ ap (λ d. number_of (take d text)) (sym at.its_depth);
}

-- the number of at most seven first bytes of a text
pub front_fits : (text : List ℕ) (d : ℕ) → AreBytes text → d ≤ 7 → number_of (take d text) < 2 ^ 56
front_fits text d bytes few =
    number_fits (take d text) (front_bytes text d bytes) (omega (arith, length-take d text))

module _ {V : Type 0} (rows : List (Row V)) where
  -- what is found for a text is the range of its first bytes
  pub right_found : (places : List Remembered) (text : List ℕ) (found : Remembered) → AreRemembered rows places
      → AreBytes text → IsFoundFor places text found → IsRangeOf rows (take found.depth text) (range_in found)
  right_found places text found are bytes is =
      let right = All-contains (IsRight rows) places found are is.among in
      right (take found.depth text) (front_bytes text found.depth bytes) is.some
      (length-take-le found.depth text is.inside) (sym is.its_number)

  longest_capped : (text : List ℕ) (place : ℕ) → IsLongest rows text place → IsLongest rows text (min place (length rows))
  longest_capped text place is = ⊎_elim
      (λ (l : place < length rows). subst (IsLongest rows text) {x = place} {y = min place (length rows)} (omega arith) is)
      (λ (p : length rows ≤ place). record {
        begins = λ r inside. absurd (omega arith);
        some = λ i r inside begins. absurd (omega (arith, is.some i r inside begins));
        longest = λ i r inside begins. absurd (omega (arith, is.some i r inside begins));
      })
      (cases_lt place (length rows))

  -- the range of first bytes of a text may be remembered by them
  pub remembered_set : (places : List Remembered) (i : ℕ) (text : List ℕ) (range : Range) (new : Remembered)
      → AreRemembered rows places → AreBytes text → IsRangeOf rows (take new.depth text) range → new.depth ≤ length text
      → new.number ≡ number_of (take new.depth text) → new.low ≡ range.low → new.high ≡ range.high
      → new.longest ≡ min range.longest (length rows) → AreRemembered rows (set places i new)
  remembered_set places i text range new are bytes of inside number low high longest =
      All-set (IsRight rows) places i new (λ front fronts some len same.
      let one = same_bytes 0 0 (take new.depth text) front (front_bytes text new.depth bytes) fronts
      (length-take-le new.depth text inside ∙ sym len) (sym number ∙ sym same) in
      let capped = longest_capped (take new.depth text) range.longest of.longest in
      subst (λ f. IsRangeOf rows f (range_in new)) one.1 (record {
        going_on = rw (low, high) of.going_on;
        longest = rw longest capped;
      })) are

  -- where nothing is remembered
  forgotten : (places : List Remembered) → places ≡ [] → AreAscending rows → AreSearchable rows places
  forgotten places none up = record { ascending = up; remembered = rw none (All-nil (IsRight rows)) }

module _ {V : Type 0} where
  pub searchable_forgotten : (rows : List (Row V)) → AreAscending rows → AreSearchable rows []
  searchable_forgotten rows up = forgotten rows [] refl up

  pub searchable_set : (rows : List (Row V)) (key : List ℕ) (place : ℕ) (old new : Row V) (places : List Remembered)
      → AreAscending rows → IsAt rows key place → old ≡ get_or rows place old → key_of new ≡ key_of old → places ≡ []
      → AreSearchable (set rows place new) places
  searchable_set rows key place old new places up at there same none =
      forgotten (set rows place new) places none (ascending_set rows key place new up at
      (same ∙ ap (λ (x : Row V). key_of x) there ∙ at.same old))

  pub searchable_inserted : (rows : List (Row V)) (key : List ℕ) (place : ℕ) (row : Row V) (places : List Remembered)
      → AreAscending rows → IsGapFor rows key place → key_of row ≡ key → places ≡ []
      → AreSearchable (insert rows place row) places
  searchable_inserted rows key place row places up gap same none =
      forgotten (insert rows place row) places none (ascending_inserted rows up key place gap row same)

  pub searchable_removed : (rows : List (Row V)) (place : ℕ) (places : List Remembered) → AreAscending rows
      → place < length rows → places ≡ [] → AreSearchable (remove rows place) places
  searchable_removed rows place places up inside none =
      forgotten (remove rows place) places none (ascending_removed rows place up inside)
