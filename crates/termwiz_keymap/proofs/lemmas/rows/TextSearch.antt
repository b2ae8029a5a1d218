-- The search for a whole text: the first key that is after it, and the longest one that begins it.
use Rattle.std.proofs.Common.{⊎_elim, ◌⊎◌, inl, inr, ◌≡◌, ◌≢◌, ◌∙◌, ◌-◌, ◌<◌, ◌≤◌, ℕ, List, [], ◌∷◌, length, take, drop, get_or, refl, sym, ap, subst, arith, append-nil, take-append-drop}
use Rattle.std.proofs.lemmas.Bool.{cases_lt}
use Rattle.std.proofs.lemmas.List.{get_or-take, length-take-le}
use Rattle.std.proofs.Math.ListN.{get_or-append}
use Rattle.std.proofs.Math.Seq.{take-length}
use Rattle.termwiz_keymap.specs.declared.keymap.row.Row.{Row}
use Rattle.termwiz_keymap.specs.declared.keymap.range.Range.{Range}
use Rattle.termwiz_keymap.specs.Bytes.{Begins}
use Rattle.termwiz_keymap.specs.KeyRows.{key_of, AreAscending, AgreeFor, ShareFirst, IsCountUpTo}
use Rattle.termwiz_keymap.specs.KeyRanges.{AreGoingOn, GoesOn, IsLongest, IsRangeOf, SomeGoesOn}
use Rattle.termwiz_keymap.proofs.lemmas.lists.CommonPrefixes.{length-Begins}
use Rattle.termwiz_keymap.proofs.lemmas.rows.BinarySearch.{key_any, squeezed_above, after_agreed, not_after_agreed}
use Rattle.termwiz_keymap.proofs.lemmas.rows.GoingOn.{length-GoesOn, parted, agreed_begins, agreed_not_begins}
use Rattle.termwiz_keymap.proofs.lemmas.rows.KeyOrder.{Before, not_itself, not_after, before_longer}

-- a key that shares the whole of some bytes begins with them
shared_begins : (front key : List ℕ) → ShareFirst key front (length front) → Begins front key
shared_begins front key shares = agreed_begins front key (length front) (record {
  in_key = omega arith;
  in_text = shares.in_key;
  same = λ i below. sym (shares.same i below);
  differ = λ k t e. omega arith;
}) refl

-- what begins with some bytes is these bytes, or goes on after them
grown : (front key : List ℕ) → Begins front key → (key ≡ front) ⊎ GoesOn front key
grown front key ([], e) = inl (e ∙ append-nil front)
grown front key (b ∷ rest, e) = inr (b ∷ rest, (λ none. cc (none)), e)

-- a key shares a text with what goes on after it
going_on_shares : (text key : List ℕ) → GoesOn text key → ShareFirst key text (length text)
going_on_shares text key goes = record {
  in_key = omega (arith, length-GoesOn text key goes);
  in_text = omega arith;
  same = λ i below. ap (λ k. get_or k i 0) goes.2 ∙ get_or-append text goes.0 0 i below;
}

-- what agrees with a text for so many bytes agrees so with more first bytes of it
agree_front : (key text : List ℕ) (n len : ℕ) → len ≤ length text → n ≤ len → AgreeFor key text n
    → AgreeFor key (take len text) n
agree_front key text n len inside within agree =
    let is : length (take len text) ≡ len = length-take-le len text inside in
    record {
      in_key = agree.in_key;
      in_text = omega arith;
      same = λ i below. agree.same i below ∙ sym (get_or-take len text i 0 (omega arith));
      differ = λ k t e. agree.differ k (omega arith) (e ∙ get_or-take len text n 0 (omega arith));
    }

-- what begins a text and isn't longer than its first bytes begins these
begins_front : (key text : List ℕ) (len : ℕ) → len ≤ length text → Begins key text → length key ≤ len
    → Begins key (take len text)
begins_front key text len inside begins short = ⊎_elim
    (λ (b : Begins key (take len text)). b)
    (λ (g : GoesOn (take len text) key).
    absurd (omega (arith, length-GoesOn (take len text) key g, length-take-le len text inside)))
    (parted key (take len text) (drop len text) (subst (λ t. Begins key t) (sym (take-append-drop len text)) begins))

module _ {V : Type 0} where
  abbrev key_at : List (Row V) → ℕ → Row V → List ℕ
  key_at rows i r = key_of (get_or rows i r)

  some_row : (rows : List (Row V)) (i : ℕ) → i < length rows → Row V
  some_row [] i inside = absurd (omega arith)
  some_row (x ∷ xs) i inside = x

  -- Where the search for the longest key has come to: no longer key begins the text than so many bytes, and so many rows aren't after these.
  pub record IsShortened (rows : List (Row V)) (text : List ℕ) (len count : ℕ) : Type 0 where
    pub inside : len ≤ length text
    pub counted : IsCountUpTo rows (take len text) count
    pub longest : (i : ℕ) (r : Row V) → i < length rows → Begins (key_at rows i r) text → length (key_at rows i r) ≤ len

  -- the range of a text has rows if and only if some key goes on after it
  module _ (rows : List (Row V)) (text : List ℕ) (range : Range) (is : IsRangeOf rows text range) where
    pub goes_on_in : range.low < range.high → SomeGoesOn rows text
    goes_on_in some =
        (range.low, omega (arith, is.going_on.inside), λ r. is.going_on.those range.low r (omega arith) some)

    pub some_in : SomeGoesOn rows text → range.low < range.high
    some_in (i, inside, goes) =
        let d = some_row rows i inside in
        let within = is.going_on.no_others i d inside (goes d) in
        omega (arith, within.0, within.1)

  module _ (rows : List (Row V)) (up : AreAscending rows) (text : List ℕ) where
    -- the first key after the text
    module _ (count : ℕ) (counted : IsCountUpTo rows text count) where
      pub going_on_first : SomeGoesOn rows text → (count < length rows) × ((r : Row V) → Begins text (key_at rows count r))
      going_on_first (i, inside, goes) =
          let d = some_row rows i inside in
          let from : count ≤ i = ⊎_elim
          (λ (under : i < count). absurd (counted.up_to i d under
          (subst (λ k. Before text k) (sym (goes d).2) (before_longer text (goes d).0 (goes d).1))))
          (λ (from : count ≤ i). from) (cases_lt i count) in (
            omega arith,
            λ r. ⊎_elim
                (λ (less : count < i). shared_begins text (key_at rows count r)
                (squeezed_above (key_at rows i r) (key_at rows count r) text (length text)
                (counted.after count r (omega arith) (omega arith)) (up count i r less inside)
                (going_on_shares text (key_at rows i r) (goes r))))
                (λ (to : i ≤ count). subst (λ k. Begins text (key_at rows k r)) {x = i} {y = count} (omega arith)
                ((goes r).0, (goes r).2))
                (cases_lt count i),
          )

      from_count : (i : ℕ) (r : Row V) → GoesOn text (key_at rows i r) → count ≤ i
      from_count i r goes = ⊎_elim
          (λ (under : i < count). absurd (counted.up_to i r under
          (subst (λ k. Before text k) (sym goes.2) (before_longer text goes.0 goes.1))))
          (λ (from : count ≤ i). from) (cases_lt i count)

      -- where a later key begins with the text, each from the first after the text on does
      shares_between : (i j : ℕ) (r : Row V) → count ≤ i → i ≤ j → j < length rows
          → ShareFirst (key_at rows j r) text (length text) → ShareFirst (key_at rows i r) text (length text)
      shares_between i j r from to inside share = ⊎_elim
          (λ (less : i < j). squeezed_above (key_at rows j r) (key_at rows i r) text (length text)
          (counted.after i r from (omega arith)) (up i j r less inside) share)
          (λ (past : j ≤ i). subst (λ k. ShareFirst (key_at rows k r) text (length text)) {x = j} {y = i} (omega arith) share)
          (cases_lt i j)

      pub going_on_to : (high : ℕ) → count ≤ high → high ≤ length rows
          → ((i : ℕ) (r : Row V) → count ≤ i → i < high → ShareFirst (key_at rows i r) text (length text))
          → ((i : ℕ) (r : Row V) → high ≤ i → i < length rows → ShareFirst (key_at rows i r) text (length text) → ⊥)
          → AreGoingOn rows text count high
      going_on_to high ordered within sharing others = record {
        inside = within;
        those = λ i r from to. ⊎_elim
            (λ (same : key_at rows i r ≡ text). absurd (not_itself text (subst (λ k. Before text k) same
            (counted.after i r from (omega arith)))))
            (λ (goes : GoesOn text (key_at rows i r)). goes)
            (grown text (key_at rows i r) (shared_begins text (key_at rows i r) (sharing i r from to)));
        no_others = λ i r inside goes. (
          from_count i r goes,
          ⊎_elim (λ (less : i < high). less)
              (λ (past : high ≤ i). absurd (others i r past inside (going_on_shares text (key_at rows i r) goes)))
              (cases_lt i high),
        );
      }

      -- a key in the middle tells of those before it or of those after it
      module _ (middle : ℕ) (row : Row V) (from : count ≤ middle) (within : middle < length rows)
          (there : row ≡ get_or rows middle row) (n : ℕ) (agree : AgreeFor (key_of row) text n) where
        pub sharing_up_to : n ≡ length text → (i : ℕ) (r : Row V) → count ≤ i → i ≤ middle
            → ShareFirst (key_at rows i r) text (length text)
        sharing_up_to whole i r past to = shares_between i middle r past to within
            (subst (λ k. ShareFirst k text (length text)) (key_any rows middle row r within there) (record {
              in_key = omega (arith, agree.in_key);
              in_text = omega arith;
              same = λ k below. agree.same k (omega arith);
            }))

        pub none_sharing_from : (n ≡ length text → ⊥) → (i : ℕ) (r : Row V) → middle ≤ i → i < length rows
            → ShareFirst (key_at rows i r) text (length text) → ⊥
        none_sharing_from part i r past inside share =
            let here : ShareFirst (key_of row) text (length text) =
            subst (λ k. ShareFirst k text (length text)) (sym (key_any rows middle row r within there))
            (shares_between middle i r from past inside share) in
            ⊎_elim
            (λ (less : n < length text). agree.differ (omega (arith, here.in_key)) less (here.same n less))
            (λ (most : length text ≤ n). part (omega (arith, agree.in_text)))
            (cases_lt n (length text))

      pub none_going_on : length rows ≤ count → SomeGoesOn rows text → ⊥
      none_going_on all goes = absurd (omega (arith, (going_on_first goes).0))

      module _ (row : Row V) (within : count < length rows) (there : row ≡ get_or rows count row) (n : ℕ)
          (agree : AgreeFor (key_of row) text n) where
        pub goes_on_there : n ≡ length text → SomeGoesOn rows text
        goes_on_there whole = (
          count,
          within,
          λ r.
              let key_is : key_of row ≡ key_at rows count r = key_any rows count row r within there in
              let begins : Begins text (key_of row) = agreed_begins text (key_of row) n (record {
                in_key = agree.in_text;
                in_text = agree.in_key;
                same = λ i below. sym (agree.same i below);
                differ = λ k t e. agree.differ t k (sym e);
              }) whole in
              ⊎_elim
              (λ (same : key_of row ≡ text). absurd (not_itself text (subst (λ k. Before text k) (sym key_is ∙ same)
              (counted.after count r (omega arith) within))))
              (λ (goes : GoesOn text (key_of row)). subst (λ k. GoesOn text k) key_is goes)
              (grown text (key_of row) begins),
        )

        pub agrees_there : SomeGoesOn rows text → n ≡ length text
        agrees_there goes =
            let begins : Begins text (key_of row) =
            subst (λ k. Begins text k) (sym (key_any rows count row row within there)) ((going_on_first goes).1 row) in
            ⊎_elim
            (λ (less : n < length text). absurd (agree.differ (omega (arith, length-Begins text (key_of row) begins)) less
            (ap (λ k. get_or k n 0) begins.1 ∙ get_or-append text begins.0 0 n less)))
            (λ (all : length text ≤ n). omega (arith, agree.in_text))
            (cases_lt n (length text))

    pub shortened_none : (count : ℕ) → IsCountUpTo rows text count → IsShortened rows text (length text) count
    shortened_none count counted = record {
      inside = omega arith;
      counted = subst (λ t. IsCountUpTo rows t count) (sym (take-length text)) counted;
      longest = λ i r inside begins. length-Begins (key_at rows i r) text begins;
    }

    module _ (len count : ℕ) (is : IsShortened rows text len count) where
      -- the keys that begin the text are among those counted
      among : (i : ℕ) (r : Row V) → i < length rows → Begins (key_at rows i r) text → i < count
      among i r inside begins = ⊎_elim
          (λ (under : i < count). under)
          (λ (past : count ≤ i).
          let b = begins_front (key_at rows i r) text len is.inside begins (is.longest i r inside begins) in
          absurd (not_after (key_at rows i r) b.0
          (subst (λ t. Before t (key_at rows i r)) b.1 (is.counted.after i r past inside))))
          (cases_lt i count)

      -- where none is counted, no key begins the text
      pub longest_none : count ≤ 0 → IsLongest rows text (length rows)
      longest_none none = record {
        begins = λ r inside. absurd (omega arith);
        some = λ i r inside begins. absurd (omega (arith, among i r inside begins));
        longest = λ i r inside begins. absurd (omega (arith, among i r inside begins));
      }

      module _ (some : 0 < count) (row : Row V) (there : row ≡ get_or rows (count - 1) row) (n : ℕ)
          (agree : AgreeFor (key_of row) text n) where
        within : count - 1 < length rows
        within = omega (arith, is.counted.high_inside)

        key_is : (r : Row V) → key_of row ≡ key_at rows (count - 1) r
        key_is r = key_any rows (count - 1) row r within there

        not_past : Before (take len text) (key_of row) → ⊥
        not_past before = is.counted.up_to (count - 1) row (omega arith) (subst (λ k. Before (take len text) k) (key_is row) before)

        at_last : (i : ℕ) (r : Row V) → count - 1 ≤ i → i < count → key_at rows i r ≡ key_of row
        at_last i r from to = sym (key_is r ∙ ap (λ k. key_at rows k r) {x = count - 1} {y = i} (omega arith))

        pub longest_there : n ≡ length (key_of row) → IsLongest rows text (count - 1)
        longest_there whole =
            let begins : Begins (key_of row) text = agreed_begins (key_of row) text n agree whole in
            record {
              begins = λ r inside. subst (λ k. Begins k text) (key_is r) begins;
              some = λ i r inside b. within;
              longest = λ i r inside b. subst (λ k. length (key_at rows i r) ≤ length k) (key_is r) (⊎_elim
                  (λ (less : i < count - 1). ⊎_elim
                  (λ (c : Begins (key_of row) (key_at rows i r)). absurd (not_after (key_of row) c.0
                  (subst (λ k. Before k (key_of row)) c.1
                  (subst (λ k. Before (key_at rows i r) k) (sym (key_is r)) (up i (count - 1) r less within)))))
                  (λ (g : GoesOn (key_at rows i r) (key_of row)). omega (arith, length-GoesOn (key_at rows i r) (key_of row) g))
                  (parted (key_of row) (key_at rows i r) b.0 (subst (λ t. Begins (key_of row) t) b.1 begins)))
                  (λ (last : count - 1 ≤ i). omega (arith, ap length (at_last i r last (among i r inside b))))
                  (cases_lt i (count - 1)));
            }

        module _ (parts : n ≢ length (key_of row)) where
          short : n < length (key_of row)
          short = omega (arith, agree.in_key)

          pub shorter : n < len
          shorter = ⊎_elim
              (λ (less : n < len). less)
              (λ (more : len ≤ n).
              let len_is : length (take len text) ≡ len = length-take-le len text is.inside in
              absurd (not_past (after_agreed (key_of row) (take len text) len (record {
                in_key = omega (arith, short);
                in_text = omega arith;
                same = λ i below. agree.same i (omega arith) ∙ sym (get_or-take len text i 0 below);
                differ = λ k t e. omega arith;
              }) (omega (arith, short)) (inl (omega arith)))))
              (cases_lt n len)

          longest_next : (i : ℕ) (r : Row V) → i < length rows → Begins (key_at rows i r) text → length (key_at rows i r) ≤ n
          longest_next i r inside b = ⊎_elim
              (λ (more : n < length (key_at rows i r)). absurd (⊎_elim
              (λ (less : i < count - 1).
              let key = key_at rows i r in
              let same : (k : ℕ) → k < length key → get_or text k 0 ≡ get_or key k 0 =
              λ k below. ap (λ t. get_or t k 0) b.1 ∙ get_or-append key b.0 0 k below in
              let before : Before key (key_of row) =
              subst (λ k. Before key k) (sym (key_is r)) (up i (count - 1) r less within) in
              ⊎_elim
              (λ (under : get_or text n 0 < get_or (key_of row) n 0).
              not_past (after_agreed (key_of row) (take len text) n
              (agree_front (key_of row) text n len is.inside (omega (arith, shorter)) agree) short
              (inr (omega (arith, under, get_or-take len text n 0 shorter)))))
              (λ (over : get_or (key_of row) n 0 ≤ get_or text n 0).
              not_after_agreed (key_of row) key n (record {
                in_key = agree.in_key;
                in_text = omega arith;
                same = λ k below. agree.same k below ∙ same k (omega arith);
                differ = λ k t e. agree.differ k (omega (arith, length-Begins key text b)) (e ∙ sym (same n t));
              }) (λ _. (more, omega (arith, over, same n more))) before)
              (cases_lt (get_or text n 0) (get_or (key_of row) n 0)))
              (λ (last : count - 1 ≤ i). agreed_not_begins (key_of row) text n agree parts
              (subst (λ k. Begins k text) (at_last i r last (among i r inside b)) b))
              (cases_lt i (count - 1))))
              (λ (up_to : length (key_at rows i r) ≤ n). up_to)
              (cases_lt n (length (key_at rows i r)))

          pub shortened : (next : ℕ) → IsCountUpTo rows (take n text) next → IsShortened rows text n next
          shortened next counted = record {
            inside = omega (arith, shorter, is.inside);
            counted = counted;
            longest = longest_next;
          }
