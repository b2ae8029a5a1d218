-- Binary search for the first row whose byte at a depth isn't below a limit.
use Rattle.std.proofs.Common.{⊎_elim, ◌≡◌, ◌≢◌, ◌∙◌, ◌+◌, ◌<◌, ◌≤◌, ℕ, List, length, get_or, sym, ap, subst, arith}
use Rattle.std.proofs.lemmas.Bool.{cases_lt}
use Rattle.std.proofs.lemmas.List.{get_or_default}
use Rattle.termwiz_keymap.specs.declared.keymap.row.Row.{Row}
use Rattle.termwiz_keymap.specs.KeyRows.{key_of}
use Rattle.termwiz_keymap.specs.KeyRanges.{AreRising, IsFirstFrom}

module _ {V : Type 0} where
  abbrev byte_at : List (Row V) → ℕ → ℕ → Row V → ℕ
  byte_at rows depth i r = get_or (key_of (get_or rows i r)) depth 0

  -- Where the search has come to: of the rows from `first` up to `last`, those before `low` have smaller bytes, and none from
  -- `high` on has.
  pub record IsClosing (rows : List (Row V)) (depth limit first last low high : ℕ) : Type 0 where
    pub from_first : first ≤ low
    pub ordered : low ≤ high
    pub to_last : high ≤ last
    pub below : (i : ℕ) (r : Row V) → first ≤ i → i < low → byte_at rows depth i r < limit
    pub from : (i : ℕ) (r : Row V) → high ≤ i → i < last → limit ≤ byte_at rows depth i r

  pub closing_all : (rows : List (Row V)) (depth limit first last : ℕ) → first ≤ last
      → IsClosing rows depth limit first last first last
  closing_all rows depth limit first last ordered = record {
    from_first = omega arith;
    ordered = ordered;
    to_last = omega arith;
    below = λ i r past under. absurd (omega arith);
    from = λ i r past under. absurd (omega arith);
  }

  pub closed : (rows : List (Row V)) (depth limit first last low high : ℕ)
      → IsClosing rows depth limit first last low high → high ≤ low → IsFirstFrom rows depth limit first last low
  closed rows depth limit first last low high is met = record {
    past_low = is.from_first;
    up_to_high = omega (arith, is.to_last, is.ordered);
    below = is.below;
    from = λ i r past under. is.from i r (omega arith) under;
  }

  module _ (rows : List (Row V)) (depth limit first last low high : ℕ) (rises : AreRising rows depth first last)
      (is : IsClosing rows depth limit first last low high) (middle : ℕ) (from : low ≤ middle) (to : middle < high)
      (byte : ℕ) (row : Row V) (there : row ≡ get_or rows middle row) (byte_is : byte ≡ get_or (key_of row) depth 0) where
    inside : middle < length rows
    inside = omega (arith, is.to_last, rises.inside)

    byte_there : (r : Row V) → byte_at rows depth middle r ≡ byte
    byte_there r =
        ap (λ (x : Row V). get_or (key_of x) depth 0) (get_or_default rows middle r row inside ∙ sym there) ∙ sym byte_is

    pub closing_above : byte < limit → IsClosing rows depth limit first last (middle + 1) high
    closing_above less = record {
      from_first = omega (arith, is.from_first);
      ordered = omega arith;
      to_last = is.to_last;
      below = λ i r past under. ⊎_elim
          (λ (before : i < middle). omega (
            arith,
            rises.rising i middle r past before (omega (arith, is.to_last)),
            byte_there r,
          ))
          (λ (at : middle ≤ i). subst (λ k. byte_at rows depth k r < limit) {x = middle} {y = i} (omega arith)
          (omega (arith, byte_there r)))
          (cases_lt i middle);
      from = is.from;
    }

    pub closing_below : limit ≤ byte → IsClosing rows depth limit first last low middle
    closing_below not = record {
      from_first = is.from_first;
      ordered = from;
      to_last = omega (arith, is.to_last);
      below = is.below;
      from = λ i r past under. ⊎_elim
          (λ (after : middle < i). omega (
            arith,
            rises.rising middle i r (omega (arith, is.from_first)) after under,
            byte_there r,
          ))
          (λ (at : i ≤ middle). subst (λ k. limit ≤ byte_at rows depth k r) {x = middle} {y = i} (omega arith)
          (omega (arith, byte_there r)))
          (cases_lt middle i);
    }

  -- the byte at a place, read from the row there
  byte_of : (rows : List (Row V)) (depth i : ℕ) (row r : Row V) → i < length rows → row ≡ get_or rows i row
      → byte_at rows depth i r ≡ get_or (key_of row) depth 0
  byte_of rows depth i row r inside there =
      ap (λ (x : Row V). get_or (key_of x) depth 0) (get_or_default rows i r row inside ∙ sym there)

  -- a search that began after a row with a byte below the limit
  pub first_after : (rows : List (Row V)) (depth limit low high place : ℕ) (row : Row V) → low < length rows
      → row ≡ get_or rows low row → get_or (key_of row) depth 0 < limit
      → IsFirstFrom rows depth limit (low + 1) high place → IsFirstFrom rows depth limit low high place
  first_after rows depth limit low high place row inside there less is = record {
    past_low = omega (arith, is.past_low);
    up_to_high = is.up_to_high;
    below = λ i r past under. ⊎_elim
        (λ (after : low < i). is.below i r (omega arith) under)
        (λ (at : i ≤ low). subst (λ k. byte_at rows depth k r < limit) {x = low} {y = i} (omega arith)
        (omega (arith, byte_of rows depth low row r inside there)))
        (cases_lt low i);
    from = is.from;
  }

  -- where the first byte that isn't below another isn't equal to it, no byte is
  module _ (rows : List (Row V)) (depth byte first low high : ℕ) (rises : AreRising rows depth first high)
      (is : IsFirstFrom rows depth byte first high low) where
    none_from : ((r : Row V) → low < high → byte < byte_at rows depth low r)
        → IsFirstFrom rows depth (byte + 1) low high low
    none_from above = record {
      past_low = omega arith;
      up_to_high = is.up_to_high;
      below = λ i r past under. absurd (omega arith);
      from = λ i r past under. ⊎_elim
          (λ (after : low < i). omega (
            arith,
            above r (omega arith),
            rises.rising low i r is.past_low after under,
          ))
          (λ (at : i ≤ low). subst (λ k. byte + 1 ≤ byte_at rows depth k r) {x = low} {y = i} (omega arith)
          (omega (arith, above r (omega arith))))
          (cases_lt low i);
    }

    pub none_left : low ≡ high → IsFirstFrom rows depth (byte + 1) low high low
    none_left end = none_from (λ r some. absurd (omega arith))

    pub none_with : (row : Row V) → low < length rows → row ≡ get_or rows low row
        → get_or (key_of row) depth 0 ≢ byte → IsFirstFrom rows depth (byte + 1) low high low
    none_with row inside there apart = none_from (λ r some. omega (
      arith,
      apart,
      is.from low r (omega arith) some,
      byte_of rows depth low row r inside there,
    ))
