-- How a range of rows is narrowed, and where a search in it ends.
use Rattle.std.proofs.Common.{◌≡◌, ◌≢◌, ◌∙◌, ◌+◌, ◌<◌, ◌≤◌, ⊎_elim, ℕ, List, [], ◌∷◌, ◌++◌, length, get_or, refl, sym, ap, subst, arith, append_assoc, append-nil, length-append, take, drop, take-append-drop}
use Rattle.std.proofs.lemmas.List.{get_or_default, length-take-le, take_more}
use Rattle.std.proofs.Math.Seq.{take-append_seam}
use Rattle.std.proofs.lemmas.Bool.{cases_lt}
use Rattle.termwiz_keymap.specs.declared.keymap.row.Row.{Row}
use Rattle.termwiz_keymap.specs.declared.keymap.range.Range.{Range}
use Rattle.termwiz_keymap.specs.Bytes.{Begins}
use Rattle.termwiz_keymap.specs.KeyRows.{key_of, AreAscending, AgreeFor, ShareFirst}
use Rattle.termwiz_keymap.specs.KeyRanges.{GoesOn, AreGoingOn, IsLongest, IsRangeOf, AreRising, IsFirstFrom}
use Rattle.termwiz_keymap.proofs.lemmas.lists.CommonPrefixes.{length-Begins, Begins-append, same_from_length}
use Rattle.termwiz_keymap.proofs.lemmas.rows.KeyOrder.{Before, not_after}
use Rattle.termwiz_keymap.proofs.lemmas.rows.GoingOn.{length-GoesOn, byte_after, next_byte, bytes_rise, parted, goes_front, agreed_begins, agreed_goes_on, agreed_not_begins, agreed_not_goes_on, goes_on_shares}

-- one byte more after some bytes
more_rest : (front : List ℕ) (b : ℕ) (s : List ℕ) → front ++ b ∷ s ≡ (front ++ b ∷ []) ++ s
more_rest front b s = sym (append_assoc front (b ∷ []) s)

length-more : (front : List ℕ) (b : ℕ) → length (front ++ b ∷ []) ≡ length front + 1
length-more front b = omega (arith, length-append front (b ∷ []))

-- a key with one byte more is these bytes alone, or goes on after them
goes_from : (front : List ℕ) (b : ℕ) (key s : List ℕ) → key ≡ front ++ b ∷ s → key ≢ front ++ b ∷ []
    → GoesOn (front ++ b ∷ []) key
goes_from front b key [] is apart = absurd (apart is)
goes_from front b key (c ∷ s) is apart = (c ∷ s, (λ e. cc), is ∙ more_rest front b (c ∷ s))

same_more : (front : List ℕ) (b : ℕ) (key s : List ℕ) → key ≡ front ++ b ∷ s → length key ≡ length front + 1
    → key ≡ front ++ b ∷ []
same_more front b key [] is len = is
same_more front b key (c ∷ s) is len = absurd (omega (arith, ap length is, length-append front (b ∷ c ∷ s)))

none_by_length : (key : List ℕ) → length key ≡ 0 → key ≡ []
none_by_length [] len = refl
none_by_length (b ∷ key) len = absurd (omega arith)

module _ {V : Type 0} where
  abbrev key_at : List (Row V) → ℕ → Row V → List ℕ
  key_at rows i r = key_of (get_or rows i r)

  -- a row at a place that is another's
  at_same : (rows : List (Row V)) (i j : ℕ) (r : Row V) → i ≡ j → key_at rows i r ≡ key_at rows j r
  at_same rows i j r e = ap (λ k. key_of (get_or rows k r)) e

  -- a row, whatever stands where no row is
  at_any : (rows : List (Row V)) (i : ℕ) (row r : Row V) → i < length rows → row ≡ get_or rows i row
      → row ≡ get_or rows i r
  at_any rows i row r inside is = is ∙ get_or_default rows i row r inside

  pub rising : (rows : List (Row V)) → AreAscending rows → (front : List ℕ) (depth low high : ℕ) → length front ≡ depth
      → AreGoingOn rows front low high → AreRising rows depth low high
  rising rows up front depth low high len is = record {
    inside = is.inside;
    longer = λ i r from to. omega (arith, length-GoesOn front (key_at rows i r) (is.those i r from to));
    rising = λ i j r from less to. subst (λ d. get_or (key_at rows i r) d 0 ≤ get_or (key_at rows j r) d 0) len
        (bytes_rise front (key_at rows i r) (key_at rows j r) (is.those i r from (omega arith))
        (is.those j r (omega arith) to) (up i j r less (omega (arith, is.inside))));
  }

  pub rising_from : (rows : List (Row V)) (depth low high start : ℕ) → low ≤ start → AreRising rows depth low high
      → AreRising rows depth start high
  rising_from rows depth low high start past is = record {
    inside = is.inside;
    longer = λ i r from to. is.longer i r (omega arith) to;
    rising = λ i j r from less to. is.rising i j r (omega arith) less to;
  }

  -- the rows with one byte more
  module _ (rows : List (Row V)) (up : AreAscending rows) (front : List ℕ) (b low high start end : ℕ)
      (is : AreGoingOn rows front low high) (starts : IsFirstFrom rows (length front) b low high start)
      (ends : IsFirstFrom rows (length front) (b + 1) start high end) where
    abbrev more : List ℕ
    more = front ++ b ∷ []

    with_byte : (i : ℕ) (r : Row V) → start ≤ i → i < end → (s : List ℕ) × (key_at rows i r ≡ front ++ b ∷ s)
    with_byte i r from to =
        let next = next_byte front (key_at rows i r)
        (is.those i r (omega (arith, starts.past_low)) (omega (arith, ends.up_to_high))) in
        let byte : get_or (key_at rows i r) (length front) 0 ≡ b =
        omega (arith, starts.from i r from (omega (arith, ends.up_to_high)), ends.below i r from to) in
        (next.0, next.1 ∙ ap (λ c. front ++ c ∷ next.0) byte)

    by_byte : (i : ℕ) (r : Row V) (s : List ℕ) → i < length rows → key_at rows i r ≡ front ++ b ∷ s
        → (start ≤ i) × (i < end)
    by_byte i r s inside key =
        let there = is.no_others i r inside (b ∷ s, (λ e. cc), key) in
        let byte : get_or (key_at rows i r) (length front) 0 ≡ b = byte_after front s (key_at rows i r) b key in (
          ⊎_elim (λ (under : i < start). absurd (omega (arith, byte, starts.below i r there.0 under)))
              (λ (l : start ≤ i). l) (cases_lt i start),
          ⊎_elim (λ (l : i < end). l)
              (λ (over : end ≤ i). absurd (omega (arith, byte, ends.from i r over there.1))) (cases_lt i end),
        )

    -- only the first of them can be these bytes alone
    apart_later : (i j : ℕ) (r : Row V) → start ≤ i → i < j → j < end → key_at rows j r ≢ more
    apart_later i j r from less to same =
        let first = with_byte i r from (omega arith) in
        not_after more first.0 (subst (λ k. Before k more) (first.1 ∙ more_rest front b first.0)
        (subst (λ k. Before (key_at rows i r) k) same (up i j r less (omega (arith, ends.up_to_high, is.inside)))))

    going_on_from : (from : ℕ) → start ≤ from
        → ((i : ℕ) (r : Row V) → from ≤ i → i < end → key_at rows i r ≢ more)
        → ((i : ℕ) (r : Row V) → start ≤ i → i < from → key_at rows i r ≡ more) → AreGoingOn rows more from end
    going_on_from from past apart alone = record {
      inside = omega (arith, ends.up_to_high, is.inside);
      those = λ i r low' high'.
          let w = with_byte i r (omega arith) high' in
          goes_from front b (key_at rows i r) w.0 w.1 (apart i r low' high');
      no_others = λ i r inside goes.
          let there = by_byte i r goes.0 inside (goes.2 ∙ sym (more_rest front b goes.0)) in (
            ⊎_elim (λ (under : i < from). absurd (omega (
              arith,
              length-GoesOn more (key_at rows i r) goes,
              ap length (alone i r there.0 under),
            ))) (λ (l : from ≤ i). l) (cases_lt i from),
            there.1,
          );
    }

    -- where the first is these bytes alone
    module _ (some : start < end) (len : (r : Row V) → length (key_at rows start r) ≡ length front + 1) where
      first_is : (r : Row V) → key_at rows start r ≡ more
      first_is r =
          let w = with_byte start r (omega arith) some in same_more front b (key_at rows start r) w.0 w.1 (len r)

      pub narrowed_met : IsRangeOf rows more (record { low = start + 1; high = end; longest = start })
      narrowed_met = record {
        going_on = going_on_from (start + 1) (omega arith)
            (λ i r from to. apart_later start i r (omega arith) (omega arith) to)
            (λ i r from to. at_same rows i start r (omega arith) ∙ first_is r);
        longest = record {
          begins = λ r inside. ([], sym (append-nil (key_at rows start r) ∙ first_is r));
          some = λ i r inside begins. omega (arith, some, ends.up_to_high, is.inside);
          longest = λ i r inside begins. omega (
            arith,
            length-Begins (key_at rows i r) more begins,
            ap length (first_is r),
          );
        };
      }

    -- where it isn't
    module _ (longest : ℕ) (old : IsLongest rows front longest)
        (len : start < end → (r : Row V) → length (key_at rows start r) ≢ length front + 1) where
      apart : (i : ℕ) (r : Row V) → start ≤ i → i < end → key_at rows i r ≢ more
      apart i r from to same = ⊎_elim
          (λ (less : start < i). apart_later start i r (omega arith) less to same)
          (λ (first : i ≤ start). len (omega arith) r
          (ap length (at_same rows start i r (omega arith) ∙ same) ∙ length-more front b))
          (cases_lt start i)

      shorter : (i : ℕ) (r : Row V) → i < length rows → Begins (key_at rows i r) more → Begins (key_at rows i r) front
      shorter i r inside begins = ⊎_elim
          (λ (b : Begins (key_at rows i r) front). b)
          (λ (g : GoesOn front (key_at rows i r)).
          let whole : key_at rows i r ≡ more = same_from_length (key_at rows i r) more more begins
          ([], sym (append-nil more)) (omega (
            arith,
            length-Begins (key_at rows i r) more begins,
            length-GoesOn front (key_at rows i r) g,
            length-more front b,
          )) in
          let there = by_byte i r [] inside whole in
          absurd (apart i r there.0 there.1 whole))
          (parted (key_at rows i r) front (b ∷ []) begins)

      pub narrowed_unmet : IsRangeOf rows more (record { low = start; high = end; longest = longest })
      narrowed_unmet = record {
        going_on = going_on_from start (omega arith) apart (λ i r from to. absurd (omega arith));
        longest = record {
          begins = λ r inside. Begins-append (key_at rows longest r) front (b ∷ []) (old.begins r inside);
          some = λ i r inside begins. old.some i r inside (shorter i r inside begins);
          longest = λ i r inside begins. old.longest i r inside (shorter i r inside begins);
        };
      }

  -- a text and its first bytes, whose range is known
  module _ (rows : List (Row V)) (front x : List ℕ) (range : Range) (is : IsRangeOf rows front range) where
    -- the longest key stays where no key that goes on after the first bytes begins the text
    longest_stays : ((i : ℕ) (r : Row V) → i < length rows → GoesOn front (key_at rows i r)
        → Begins (key_at rows i r) (front ++ x) → ⊥) → IsLongest rows (front ++ x) range.longest
    longest_stays none =
        let shorter : (i : ℕ) (r : Row V) → i < length rows → Begins (key_at rows i r) (front ++ x)
        → Begins (key_at rows i r) front = λ i r inside begins. ⊎_elim (λ (b : Begins (key_at rows i r) front). b)
        (λ (g : GoesOn front (key_at rows i r)). absurd (none i r inside g begins))
        (parted (key_at rows i r) front x begins) in
        record {
          begins = λ r inside. Begins-append (key_at rows range.longest r) front x (is.longest.begins r inside);
          some = λ i r inside begins. is.longest.some i r inside (shorter i r inside begins);
          longest = λ i r inside begins. is.longest.longest i r inside (shorter i r inside begins);
        }

    -- no key goes on after the first bytes
    pub dead_end : range.high ≤ range.low → IsRangeOf rows (front ++ x) range
    dead_end none = record {
      going_on = record {
        inside = is.going_on.inside;
        those = λ i r from to. absurd (omega arith);
        no_others = λ i r inside goes. is.going_on.no_others i r inside (goes_front (key_at rows i r) front x goes);
      };
      longest = longest_stays (λ i r inside goes begins.
          let there = is.going_on.no_others i r inside goes in absurd (omega (arith, there.0, there.1)));
    }

    -- one key does
    module _ (one : range.low + 1 ≡ range.high) where
      only : (i : ℕ) (r : Row V) → i < length rows → GoesOn front (key_at rows i r) → i ≡ range.low
      only i r inside goes = let there = is.going_on.no_others i r inside goes in omega (arith, there.0, there.1)

      inside_low : range.low < length rows
      inside_low = omega (arith, is.going_on.inside)

      long : (r : Row V) → length front < length (key_at rows range.low r)
      long r = length-GoesOn front (key_at rows range.low r) (is.going_on.those range.low r (omega arith) (omega arith))

      pub last_begins : ((r : Row V) → Begins (key_at rows range.low r) (front ++ x))
          → IsRangeOf rows (front ++ x) (record { low = range.high; high = range.high; longest = range.low })
      last_begins begins = record {
        going_on = record {
          inside = is.going_on.inside;
          those = λ i r from to. absurd (omega arith);
          no_others = λ i r inside goes.
              let same = only i r inside (goes_front (key_at rows i r) front x goes) in
              absurd (omega (
                arith,
                length-GoesOn (front ++ x) (key_at rows i r) goes,
                length-Begins (key_at rows range.low r) (front ++ x) (begins r),
                ap length (at_same rows i range.low r same),
              ));
        };
        longest = record {
          begins = λ r inside. begins r;
          some = λ i r inside b. inside_low;
          longest = λ i r inside b. ⊎_elim
              (λ (b : Begins (key_at rows i r) front). omega (arith, length-Begins (key_at rows i r) front b, long r))
              (λ (g : GoesOn front (key_at rows i r)).
              omega (arith, ap length (at_same rows i range.low r (only i r inside g))))
              (parted (key_at rows i r) front x b);
        };
      }

      -- where it doesn't begin the text
      module _ (apart : (r : Row V) → Begins (key_at rows range.low r) (front ++ x) → ⊥) where
        longest_kept : IsLongest rows (front ++ x) range.longest
        longest_kept = longest_stays (λ i r inside goes begins. apart r (subst (λ k. Begins k (front ++ x))
            (at_same rows i range.low r (only i r inside goes)) begins))

        pub last_goes_on : ((r : Row V) → GoesOn (front ++ x) (key_at rows range.low r))
            → IsRangeOf rows (front ++ x) range
        last_goes_on goes = record {
          going_on = record {
            inside = is.going_on.inside;
            those = λ i r from to. subst (λ k. GoesOn (front ++ x) k) (at_same rows range.low i r (omega arith)) (goes r);
            no_others = λ i r inside goes. is.going_on.no_others i r inside (goes_front (key_at rows i r) front x goes);
          };
          longest = longest_kept;
        }

        pub last_parts : ((r : Row V) → GoesOn (front ++ x) (key_at rows range.low r) → ⊥)
            → IsRangeOf rows (front ++ x) (record { low = range.high; high = range.high; longest = range.longest })
        last_parts not = record {
          going_on = record {
            inside = is.going_on.inside;
            those = λ i r from to. absurd (omega arith);
            no_others = λ i r inside goes. absurd (not r (subst (λ k. GoesOn (front ++ x) k)
                (at_same rows i range.low r (only i r inside (goes_front (key_at rows i r) front x goes))) goes));
          };
          longest = longest_kept;
        }

  -- the range of the empty text
  module _ (rows : List (Row V)) (up : AreAscending rows) where
    some_by_length : (key : List ℕ) → length key ≢ 0 → GoesOn [] key
    some_by_length key len = (key, (λ none. len (ap length none)), refl)

    whole_met : 0 < length rows → ((r : Row V) → key_at rows 0 r ≡ [])
        → IsRangeOf rows [] (record { low = 1; high = length rows; longest = 0 })
    whole_met some first = record {
      going_on = record {
        inside = omega arith;
        those = λ i r from to. some_by_length (key_at rows i r) (λ len.
            not_after [] (key_at rows 0 r) (subst (λ k. Before (key_at rows 0 r) k) (none_by_length (key_at rows i r) len)
            (up 0 i r (omega arith) to)));
        no_others = λ i r inside goes. (
          ⊎_elim (λ (first' : i < 1). absurd (omega (
            arith,
            length-GoesOn [] (key_at rows i r) goes,
            ap length (at_same rows i 0 r (omega arith) ∙ first r),
          ))) (λ (l : 1 ≤ i). l) (cases_lt i 1),
          inside,
        );
      };
      longest = record {
        begins = λ r inside. ([], sym (append-nil (key_at rows 0 r) ∙ first r));
        some = λ i r inside begins. some;
        longest = λ i r inside begins. omega (arith, length-Begins (key_at rows i r) [] begins);
      };
    }

    whole_unmet : (0 < length rows → (r : Row V) → length (key_at rows 0 r) ≢ 0)
        → IsRangeOf rows [] (record { low = 0; high = length rows; longest = length rows })
    whole_unmet first =
        let some : (i : ℕ) (r : Row V) → i < length rows → length (key_at rows i r) ≢ 0 = λ i r inside len. ⊎_elim
        (λ (later : 0 < i). not_after [] (key_at rows 0 r) (subst (λ k. Before (key_at rows 0 r) k)
        (none_by_length (key_at rows i r) len) (up 0 i r later inside)))
        (λ (at : i ≤ 0). first (omega arith) r (ap length (at_same rows 0 i r (omega arith)) ∙ len))
        (cases_lt 0 i) in
        record {
          going_on = record {
            inside = omega arith;
            those = λ i r from to. some_by_length (key_at rows i r) (some i r to);
            no_others = λ i r inside goes. (omega arith, inside);
          };
          longest = record {
            begins = λ r inside. absurd (omega arith);
            some = λ i r inside begins.
                absurd (some i r inside (omega (arith, length-Begins (key_at rows i r) [] begins)));
            longest = λ i r inside begins.
                absurd (some i r inside (omega (arith, length-Begins (key_at rows i r) [] begins)));
          };
        }

    pub met_first : (row : Row V) → 0 < length rows → row ≡ get_or rows 0 row → length (key_of row) ≡ 0
        → IsRangeOf rows [] (record { low = 1; high = length rows; longest = 0 })
    met_first row some there len = whole_met some (λ r.
        none_by_length (key_at rows 0 r) (ap (λ (x : Row V). length (key_of x)) (sym (at_any rows 0 row r some there)) ∙ len))

    pub unmet_first : (row : Row V) → 0 < length rows → row ≡ get_or rows 0 row → length (key_of row) ≢ 0
        → IsRangeOf rows [] (record { low = 0; high = length rows; longest = length rows })
    unmet_first row some there len = whole_unmet (λ _ r same.
        len (ap (λ (x : Row V). length (key_of x)) (at_any rows 0 row r some there) ∙ same))

    pub no_first : length rows ≡ 0
        → IsRangeOf rows [] (record { low = 0; high = length rows; longest = length rows })
    no_first none = whole_unmet (λ some r same. absurd (omega arith))

  -- the same where the bytes are the first of a text
  module _ (rows : List (Row V)) (text : List ℕ) (depth : ℕ) (range : Range)
      (is : IsRangeOf rows (take depth text) range) where
    rest_is : take depth text ++ drop depth text ≡ text
    rest_is = take-append-drop depth text

    pub ended : range.high ≤ range.low → IsRangeOf rows text range
    ended none =
        subst (λ t. IsRangeOf rows t range) rest_is (dead_end rows (take depth text) (drop depth text) range is none)

    -- a row of the range, and its key
    module _ (inside : depth ≤ length text) (i : ℕ) (from : range.low ≤ i) (to : i < range.high) (row : Row V)
        (there : row ≡ get_or rows i row) (key : List ℕ) (key_is : key ≡ key_of row) where
      key_goes : GoesOn (take depth text) key
      key_goes = subst (λ k. GoesOn (take depth text) k)
          (ap (λ (x : Row V). key_of x) (sym there) ∙ sym key_is) (is.going_on.those i row from to)

      pub key_longer : depth < length key
      key_longer = omega (arith, length-GoesOn (take depth text) key key_goes, length-take-le depth text inside)

      -- the range is also that of the first bytes of the key
      pub range_of_key : IsRangeOf rows (take depth key) range
      range_of_key =
          let same : take depth key ≡ take depth text =
          ap (take depth) key_goes.2 ∙ ap (λ n. take n (take depth text ++ key_goes.0)) (sym (length-take-le depth text inside))
          ∙ take-append_seam (take depth text) key_goes.0 in
          subst (λ t. IsRangeOf rows t range) (sym same) is

    pub rising_at : AreAscending rows → depth ≤ length text → AreRising rows depth range.low range.high
    rising_at up inside =
        rising rows up (take depth text) depth range.low range.high (length-take-le depth text inside) is.going_on

    module _ (up : AreAscending rows) (inside : depth < length text) (start end : ℕ)
        (starts : IsFirstFrom rows depth (get_or text depth 0) range.low range.high start)
        (ends : IsFirstFrom rows depth (get_or text depth 0 + 1) start range.high end) where
      len_is : length (take depth text) ≡ depth
      len_is = length-take-le depth text (omega arith)

      starts_there : IsFirstFrom rows (length (take depth text)) (get_or text depth 0) range.low range.high start
      starts_there = rw len_is starts

      ends_there : IsFirstFrom rows (length (take depth text)) (get_or text depth 0 + 1) start range.high end
      ends_there = rw len_is ends

      more_is : take depth text ++ get_or text depth 0 ∷ [] ≡ take (depth + 1) text
      more_is = sym (take_more text depth 0 inside)

      pub met : start < end → (row : Row V) → row ≡ get_or rows start row → length (key_of row) ≡ depth + 1
          → IsRangeOf rows (take (depth + 1) text) (record { low = start + 1; high = end; longest = start })
      met some row there len =
          subst (λ t. IsRangeOf rows t (record { low = start + 1; high = end; longest = start })) more_is
          (narrowed_met rows up (take depth text) (get_or text depth 0) range.low range.high start end is.going_on
          starts_there ends_there some
          (λ r. ap (λ (x : Row V). length (key_of x)) (sym (at_any rows start row r (omega (arith, ends.up_to_high, is.going_on.inside)) there)) ∙ len ∙ ap (λ d. d + 1) (sym len_is)))

      unmet : (start < end → (r : Row V) → length (key_at rows start r) ≢ depth + 1)
          → IsRangeOf rows (take (depth + 1) text) (record { low = start; high = end; longest = range.longest })
      unmet apart =
          subst (λ t. IsRangeOf rows t (record { low = start; high = end; longest = range.longest })) more_is
          (narrowed_unmet rows up (take depth text) (get_or text depth 0) range.low range.high start end is.going_on
          starts_there ends_there range.longest is.longest
          (λ some r same. apart some r (same ∙ ap (λ d. d + 1) len_is)))

      pub unmet_row : (row : Row V) → start < end → row ≡ get_or rows start row → length (key_of row) ≢ depth + 1
          → IsRangeOf rows (take (depth + 1) text) (record { low = start; high = end; longest = range.longest })
      unmet_row row some there apart = unmet (λ _ r same. apart (ap (λ (x : Row V). length (key_of x))
          (at_any rows start row r (omega (arith, ends.up_to_high, is.going_on.inside)) there) ∙ same))

      pub unmet_none : end ≤ start
          → IsRangeOf rows (take (depth + 1) text) (record { low = start; high = end; longest = range.longest })
      unmet_none none = unmet (λ some r same. absurd (omega arith))

    -- where one row is left
    module _ (one : range.low + 1 ≡ range.high) (inside : depth ≤ length text) (row : Row V)
        (there : row ≡ get_or rows range.low row) (key : List ℕ) (key_is : key ≡ key_of row) where
      key_there : (r : Row V) → key ≡ key_at rows range.low r
      key_there r =
          key_is ∙ ap (λ (x : Row V). key_of x) (at_any rows range.low row r (omega (arith, is.going_on.inside)) there)

      pub shares_first : ShareFirst key text depth
      shares_first = goes_on_shares key text depth inside (subst (λ k. GoesOn (take depth text) k) (sym (key_there row))
          (is.going_on.those range.low row (omega arith) (omega arith)))

      module _ (n : ℕ) (agree : AgreeFor key text n) where
        pub one_begins : n ≡ length key
            → IsRangeOf rows text (record { low = range.high; high = range.high; longest = range.low })
        one_begins whole =
            subst (λ t. IsRangeOf rows t (record { low = range.high; high = range.high; longest = range.low })) rest_is
            (last_begins rows (take depth text) (drop depth text) range is one (λ r. subst (λ t. Begins (key_at rows range.low r) t)
            (sym rest_is) (subst (λ k. Begins k text) (key_there r) (agreed_begins key text n agree whole))))

        apart_from : n ≢ length key → (r : Row V) → Begins (key_at rows range.low r) (take depth text ++ drop depth text) → ⊥
        apart_from short r begins = agreed_not_begins key text n agree short
            (subst (λ k. Begins k text) (sym (key_there r)) (subst (λ t. Begins (key_at rows range.low r) t) rest_is begins))

        pub one_goes_on : n ≢ length key → n ≡ length text → IsRangeOf rows text range
        one_goes_on short whole =
            subst (λ t. IsRangeOf rows t range) rest_is
            (last_goes_on rows (take depth text) (drop depth text) range is one (apart_from short)
            (λ r. subst (λ t. GoesOn t (key_at rows range.low r)) (sym rest_is)
            (subst (λ k. GoesOn text k) (key_there r) (agreed_goes_on key text n agree whole short))))

        pub one_parts : n ≢ length key → n ≢ length text
            → IsRangeOf rows text (record { low = range.high; high = range.high; longest = range.longest })
        one_parts short parts =
            subst (λ t. IsRangeOf rows t (record { low = range.high; high = range.high; longest = range.longest })) rest_is
            (last_parts rows (take depth text) (drop depth text) range is one (apart_from short)
            (λ r goes. agreed_not_goes_on key text n agree parts (subst (λ k. GoesOn text k) (sym (key_there r))
            (subst (λ t. GoesOn t (key_at rows range.low r)) rest_is goes))))
