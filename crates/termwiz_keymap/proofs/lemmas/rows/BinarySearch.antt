-- What a search among ascending rows finds, and which bytes it need not compare again.
use Rattle.std.proofs.Common.{⊎_elim, ◌⊎◌, inl, inr, ◌≡◌, ◌≢◌, ◌∙◌, ◌+◌, ◌-◌, ◌<◌, ◌≤◌, ℕ, zero, suc, List, [], ◌∷◌, length, get_or, refl, sym, ap, subst, arith}
use Rattle.std.specs.Ordering.{nat_cmp}
use Rattle.std.specs.declared.cmp.Ordering.TheVariants.{Less, Equal, Greater}
use Rattle.std.specs.Cmp.Lexicographic.{slice_cmp}
use Rattle.std.specs.FinMap.{nat_cmp-IsAntisymmetric, slice_cmp-IsAntisymmetric}
use Rattle.std.proofs.lemmas.Cmp.{nat_list_cmp_total}
use Rattle.std.proofs.lemmas.Bool.{cases_lt}
use Rattle.std.proofs.lemmas.List.{get_or_default}
use Rattle.termwiz_keymap.specs.declared.keymap.row.Row.{Row}
use Rattle.termwiz_keymap.specs.KeyRows.{AgreeFor, ShareFirst, key_of, AreAscending, IsGapFor, IsBounded, IsCountUpTo}
use Rattle.termwiz_keymap.proofs.lemmas.rows.KeyOrder.{Before, first_bytes, before_by_first, before_by_rest, turned}

-- the rest of an agreement
agree_rest : (x y : ℕ) (key text : List ℕ) (n : ℕ) → AgreeFor (x ∷ key) (y ∷ text) (suc n) → AgreeFor key text n
agree_rest x y key text n is = record {
  in_key = omega (arith, is.in_key);
  in_text = omega (arith, is.in_text);
  same = λ i below. is.same (suc i) (omega arith);
  differ = λ k t. is.differ (omega arith) (omega arith);
}

pub share_none : (key text : List ℕ) → ShareFirst key text 0
share_none key text = record { in_key = omega arith; in_text = omega arith; same = λ i below. absurd (omega arith) }

share_rest : (x y : ℕ) (key text : List ℕ) (n : ℕ) → ShareFirst (x ∷ key) (y ∷ text) (suc n) → ShareFirst key text n
share_rest x y key text n s = record {
  in_key = omega (arith, s.in_key);
  in_text = omega (arith, s.in_text);
  same = λ i below. s.same (suc i) (omega arith);
}

same_more : (x y : ℕ) (key text : List ℕ) (n : ℕ) → x ≡ y → ((i : ℕ) → i < n → get_or key i 0 ≡ get_or text i 0)
    → (i : ℕ) → i < suc n → get_or (x ∷ key) i 0 ≡ get_or (y ∷ text) i 0
same_more x y key text n e s zero below = e
same_more x y key text n e s (suc i) below = s i (omega arith)

share_more : (x y : ℕ) (key text : List ℕ) (n : ℕ) → x ≡ y → ShareFirst key text n
    → ShareFirst (x ∷ key) (y ∷ text) (suc n)
share_more x y key text n e s = record {
  in_key = omega (arith, s.in_key);
  in_text = omega (arith, s.in_text);
  same = same_more x y key text n e s.same;
}

agree_share : (key text : List ℕ) (n : ℕ) → AgreeFor key text n → ShareFirst key text n
agree_share key text n is = record { in_key = is.in_key; in_text = is.in_text; same = is.same }

-- what is after x, and not after a text, shares with the text what x does
squeezed_below : (x y t : List ℕ) (n : ℕ) → Before x y → (Before t y → ⊥) → ShareFirst x t n → ShareFirst y t n
squeezed_below x y t zero xy ty s = share_none y t
squeezed_below [] y t (suc n) xy ty s = absurd (omega (arith, s.in_key))
squeezed_below (a ∷ x) y [] (suc n) xy ty s = absurd (omega (arith, s.in_text))
squeezed_below (a ∷ x) [] (c ∷ t) (suc n) xy ty s = absurd (cc (xy))
squeezed_below (a ∷ x) (b ∷ y) (c ∷ t) (suc n) xy ty s =
    let same : a ≡ c = s.same 0 (omega arith) in
    ⊎_elim
    (λ (less : a < b). absurd (ty (before_by_first c b t y (omega (arith, same, less)))))
    (λ p.
    let bc : b ≡ c = sym p.0 ∙ same in
    share_more b c y t n bc (squeezed_below x y t n p.1
    (λ past. ty (subst (λ d. Before (d ∷ t) (b ∷ y)) bc (before_by_rest b t y past))) (share_rest a c x t n s)))
    (first_bytes a b x y xy)

-- what is before x, and after a text, shares with the text what x does
pub squeezed_above : (x y t : List ℕ) (n : ℕ) → Before t y → Before y x → ShareFirst x t n → ShareFirst y t n
squeezed_above x y t zero ty yx s = share_none y t
squeezed_above [] y t (suc n) ty yx s = absurd (omega (arith, s.in_key))
squeezed_above (a ∷ x) y [] (suc n) ty yx s = absurd (omega (arith, s.in_text))
squeezed_above (a ∷ x) [] (c ∷ t) (suc n) ty yx s = absurd (cc (ty))
squeezed_above (a ∷ x) (b ∷ y) (c ∷ t) (suc n) ty yx s =
    let same : a ≡ c = s.same 0 (omega arith) in
    ⊎_elim
    (λ (less : c < b). ⊎_elim
    (λ (down : b < a). absurd (omega (arith, same, less, down)))
    (λ q. absurd (omega (arith, same, less, q.0)))
    (first_bytes b a y x yx))
    (λ p. ⊎_elim
    (λ (down : b < a). absurd (omega (arith, same, p.0, down)))
    (λ q. share_more b c y t n (sym p.0) (squeezed_above x y t n p.1 q.1 (share_rest a c x t n s)))
    (first_bytes b a y x yx))
    (first_bytes c b t y ty)

-- a key is after a text if the text ends where they part, or goes on with a smaller byte
pub after_agreed : (key text : List ℕ) (n : ℕ) → AgreeFor key text n → n < length key
    → (n ≡ length text) ⊎ (get_or text n 0 < get_or key n 0) → Before text key
after_agreed [] text n is inside how = absurd (omega arith)
after_agreed (b ∷ key) [] zero is inside how = refl
after_agreed (b ∷ key) [] (suc n) is inside how = absurd (omega (arith, is.in_text))
after_agreed (b ∷ key) (c ∷ text) zero is inside how =
    before_by_first c b text key (⊎_elim (λ (e : 0 ≡ length (c ∷ text)). absurd (omega arith)) (λ (l : c < b). l) how)
after_agreed (b ∷ key) (c ∷ text) (suc n) is inside how =
    subst (λ d. Before (c ∷ text) (d ∷ key)) (sym (is.same 0 (omega arith)))
    (before_by_rest c text key (after_agreed key text n (agree_rest b c key text n is) (omega arith)
    (⊎_elim (λ (e : suc n ≡ length (c ∷ text)). inl (omega arith))
    (λ (l : get_or text n 0 < get_or key n 0). inr l) how)))

-- and isn't otherwise
pub not_after_agreed : (key text : List ℕ) (n : ℕ) → AgreeFor key text n
    → (n < length key → (n < length text) × (get_or key n 0 ≤ get_or text n 0)) → Before text key → ⊥
not_after_agreed [] [] n is how before = cc (before)
not_after_agreed [] (c ∷ text) n is how before = cc (before)
not_after_agreed (b ∷ key) [] n is how before =
    absurd (let h : n < 0 = (how (omega (arith, is.in_text))).0 in omega arith)
not_after_agreed (b ∷ key) (c ∷ text) zero is how before = ⊎_elim
    (λ (less : c < b). absurd (let h : b ≤ c = (how (omega arith)).1 in omega arith))
    (λ p. is.differ (omega arith) (omega arith) (sym p.0))
    (first_bytes c b text key before)
not_after_agreed (b ∷ key) (c ∷ text) (suc n) is how before = ⊎_elim
    (λ (less : c < b). absurd (let e : b ≡ c = is.same 0 (omega arith) in omega arith))
    (λ p. not_after_agreed key text n (agree_rest b c key text n is) (λ inside. let h = how (omega arith) in
    (omega (arith, h.0), h.1)) p.1)
    (first_bytes c b text key before)

module _ {V : Type 0} where
  -- the key of a row, whatever stands where no row is
  pub key_any : (rows : List (Row V)) (i : ℕ) (row r : Row V) → i < length rows → row ≡ get_or rows i row
      → key_of row ≡ key_of (get_or rows i r)
  key_any rows i row r inside is = ap (λ (x : Row V). key_of x) (is ∙ get_or_default rows i row r inside)

  -- Where the search has come to: the rows between the bounds share so many first bytes with the key if they aren't
  -- after it, and so many if they are.
  pub record IsNarrowed (rows : List (Row V)) (key : List ℕ) (low high low_shared high_shared : ℕ) : Type 0 where
    pub bounded : IsBounded rows key low high
    pub below : (i : ℕ) (r : Row V) → low ≤ i → i < length rows → (Before key (key_of (get_or rows i r)) → ⊥)
        → ShareFirst (key_of (get_or rows i r)) key low_shared
    pub above : (i : ℕ) (r : Row V) → i < high → Before key (key_of (get_or rows i r))
        → ShareFirst (key_of (get_or rows i r)) key high_shared

  module _ (rows : List (Row V)) (up : AreAscending rows) (key : List ℕ) (low high low_shared high_shared : ℕ)
      (is : IsNarrowed rows key low high low_shared high_shared) where
    module _ (middle : ℕ) (row : Row V) (from : low ≤ middle) (to : middle < high)
        (there : row ≡ get_or rows middle row) where
      inside : middle < length rows
      inside = omega (arith, is.bounded.high_inside)

      key_is : (r : Row V) → key_of row ≡ key_of (get_or rows middle r)
      key_is r = key_any rows middle row r inside there

      module _ (n : ℕ) (agree : AgreeFor (key_of row) key n) where
        shares : (r : Row V) → ShareFirst (key_of (get_or rows middle r)) key n
        shares r = subst (λ x. ShareFirst x key n) (key_is r) (agree_share (key_of row) key n agree)

        pub narrowed_below : (Before key (key_of row) → ⊥) → IsNarrowed rows key (middle + 1) high n high_shared
        narrowed_below not = record {
          bounded = record {
            low_inside = omega (arith, inside);
            high_inside = is.bounded.high_inside;
            up_to = λ i r under past. not (subst (λ x. Before key x) (sym (key_is r)) (⊎_elim
                (λ (less : i < middle). nat_list_cmp_total.trans key (key_of (get_or rows i r))
                (key_of (get_or rows middle r)) past (up i middle r less inside))
                (λ (same : middle ≤ i). subst (λ k. Before key (key_of (get_or rows k r))) {x = i} {y = middle}
                (omega arith) past)
                (cases_lt i middle)));
            after = is.bounded.after;
          };
          below = λ i r past within up_to. squeezed_below (key_of (get_or rows middle r))
              (key_of (get_or rows i r)) key n (up middle i r (omega arith) within) up_to (shares r);
          above = is.above;
        }

        pub narrowed_above : Before key (key_of row) → IsNarrowed rows key low middle low_shared n
        narrowed_above past = record {
          bounded = record {
            low_inside = is.bounded.low_inside;
            high_inside = omega (arith, inside);
            up_to = is.bounded.up_to;
            after = λ i r over within.
                let here : Before key (key_of (get_or rows middle r)) = subst (λ x. Before key x) (key_is r) past in
                ⊎_elim
                (λ (more : middle < i). nat_list_cmp_total.trans key (key_of (get_or rows middle r))
                (key_of (get_or rows i r)) here (up middle i r more within))
                (λ (same : i ≤ middle). subst (λ k. Before key (key_of (get_or rows k r))) {x = middle} {y = i}
                (omega arith) here)
                (cases_lt middle i);
          };
          below = is.below;
          above = λ i r under over. squeezed_above (key_of (get_or rows middle r)) (key_of (get_or rows i r)) key n over
              (up i middle r under inside) (shares r);
        }

  -- of the rows that aren't after a key the last has the key, or none has
  module _ (rows : List (Row V)) (up : AreAscending rows) (key : List ℕ) (n : ℕ) (count : IsCountUpTo rows key n) where
    pub gap_after_last : (0 < n → (r : Row V) → key_of (get_or rows (n - 1) r) ≢ key) → IsGapFor rows key n
    gap_after_last apart = record {
      in_range = count.low_inside;
      smaller_before = λ j r under.
          let k = key_of (get_or rows j r) in
          elim (slice_cmp nat_cmp key k) as (λ o. slice_cmp nat_cmp key k ≡ o → Before k key) [
            | Less ↦ λ e. absurd (count.up_to j r under e)
            | Equal ↦ λ e.
                let equal : key ≡ k = slice_cmp-IsAntisymmetric nat_cmp-IsAntisymmetric _ _ e in
                absurd (⊎_elim
                (λ (less : j < n - 1). count.up_to (n - 1) r (omega arith) (subst (λ x. Before x
                (key_of (get_or rows (n - 1) r))) (sym equal) (up j (n - 1) r less (omega (arith, count.low_inside)))))
                (λ (last : n - 1 ≤ j). apart (omega arith) r
                (ap (λ i. key_of (get_or rows i r)) {x = n - 1} {y = j} (omega arith) ∙ sym equal))
                (cases_lt j (n - 1)))
            | Greater ↦ λ e. turned key k e
          ] refl;
      greater_after = count.after;
    }

    pub gap_after_row : (row : Row V) → 0 < n → row ≡ get_or rows (n - 1) row → key_of row ≢ key → IsGapFor rows key n
    gap_after_row row some last apart = gap_after_last (λ _ r same.
        apart (key_any rows (n - 1) row r (omega (arith, count.low_inside)) last ∙ same))

  -- a place between a row that isn't after a key and one that is
  module _ (rows : List (Row V)) (up : AreAscending rows) (key : List ℕ) (place : ℕ) (inside : place ≤ length rows) where
    counted_at : (0 < place → (r : Row V) → Before key (key_of (get_or rows (place - 1) r)) → ⊥)
        → (place < length rows → (r : Row V) → Before key (key_of (get_or rows place r))) → IsCountUpTo rows key place
    counted_at low high = record {
      low_inside = inside;
      high_inside = inside;
      up_to = λ i r under before. low (omega arith) r (⊎_elim
          (λ (less : i < place - 1). nat_list_cmp_total.trans key (key_of (get_or rows i r))
          (key_of (get_or rows (place - 1) r)) before (up i (place - 1) r less (omega arith)))
          (λ (last : place - 1 ≤ i). subst (λ k. Before key (key_of (get_or rows k r))) {x = i} {y = place - 1}
          (omega arith) before)
          (cases_lt i (place - 1)));
      after = λ i r past within. ⊎_elim
          (λ (more : place < i). nat_list_cmp_total.trans key (key_of (get_or rows place r)) (key_of (get_or rows i r))
          (high (omega arith) r) (up place i r more within))
          (λ (first : i ≤ place). subst (λ k. Before key (key_of (get_or rows k r))) {x = place} {y = i} (omega arith)
          (high (omega arith) r))
          (cases_lt place i);
    }

    -- the row before the place, and the one there
    abbrev pub NotBefore : Type 0
    NotBefore = 0 < place → (r : Row V) → Before key (key_of (get_or rows (place - 1) r)) → ⊥

    pub not_before : (row : Row V) → 0 < place → row ≡ get_or rows (place - 1) row → (Before key (key_of row) → ⊥)
        → NotBefore
    not_before row some there not _ r before = not (subst (λ k. Before key k)
        (sym (key_any rows (place - 1) row r (omega arith) there)) before)

    pub none_before : place ≤ 0 → NotBefore
    none_before first some r before = absurd (omega arith)

    pub counted_last : NotBefore → place ≡ length rows → IsCountUpTo rows key place
    counted_last low last = counted_at low (λ less r. absurd (omega arith))

    pub counted_between : NotBefore → (row : Row V) → place < length rows → row ≡ get_or rows place row
        → Before key (key_of row) → IsCountUpTo rows key place
    counted_between low row less there before = counted_at low (λ _ r. subst (λ k. Before key k)
        (key_any rows place row r less there) before)
