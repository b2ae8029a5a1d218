-- What a search in one block of ascending rows tells of all rows.
use Rattle.std.proofs.Common.{⊎_elim, ◌≡◌, ◌∙◌, ◌+◌, ◌-◌, ◌<◌, ◌≤◌, ℕ, suc, List, [], ◌∷◌, ◌++◌, length, get_or, take, drop, sym, ap, subst, arith, append_assoc, zero-add}
use Rattle.std.proofs.lemmas.Bool.{cases_lt}
use Rattle.std.proofs.lemmas.Cmp.{nat_list_cmp_total}
use Rattle.std.proofs.lemmas.List.{length-append, get_or_append_left, get_or-append-add, get_or_default, drop_more, drop_all}
use Rattle.termwiz_keymap.specs.declared.keymap.blocks.Block.{Block}
use Rattle.termwiz_keymap.specs.declared.keymap.row.Row.{Row}
use Rattle.termwiz_keymap.specs.InBlocks.{AreFilled, AreStarted, elements}
use Rattle.termwiz_keymap.specs.KeyRows.{key_of, AreAscending, IsBegun, IsCountUpTo}
use Rattle.termwiz_keymap.proofs.lemmas.lists.BlockLists.{cut, filled_at, no_more, start_at}
use Rattle.termwiz_keymap.proofs.lemmas.rows.KeyOrder.{Before}

module _ {V : Type 0} where
  -- the first element from a block on
  first_from : (bs : List (Block (Row V))) (k : ℕ) (b : Block (Row V)) (r : Row V) → AreFilled bs → k < length bs
      → get_or (elements (drop k bs)) 0 r ≡ get_or (get_or bs k b).items.items 0 r
  first_from bs k b r all inside =
      ap (λ l. get_or (elements l) 0 r) (drop_more bs k b inside)
      ∙ get_or_append_left (get_or bs k b).items.items (elements (drop (k + 1) bs)) r 0 (filled_at bs k b all inside)

  -- where elements follow, so does a block
  some_from : (bs : List (Block (Row V))) (k : ℕ) → 0 < length (elements (drop k bs)) → k < length bs
  some_from bs k some = ⊎_elim (λ (less : k < length bs). less)
      (λ (past : length bs ≤ k). absurd (omega (arith, ap (λ l. length (elements l)) (drop_all k bs past))))
      (cases_lt k (length bs))

  -- the key of a block's first row, whatever stands where no row is
  pub first_key : (bs : List (Block (Row V))) (k : ℕ) (x b : Block (Row V)) (row r : Row V) → AreFilled bs → k < length bs
      → row ≡ get_or (get_or bs k x).items.items 0 row
      → key_of row ≡ key_of (get_or (get_or bs k b).items.items 0 r)
  first_key bs k x b row r all inside is =
      ap (λ (a : Row V). key_of a)
      (is ∙ get_or_default (get_or bs k x).items.items 0 row r (filled_at bs k x all inside))
      ∙ ap (λ (bl : Block (Row V)). key_of (get_or bl.items.items 0 r)) (get_or_default bs k x b inside)

  head_of : (bs : List (Block (Row V))) → 0 < length bs → Block (Row V)
  head_of [] some = absurd (omega arith)
  head_of (x ∷ bs) some = x

  module _ (rows before block after : List (Row V)) (is : rows ≡ before ++ (block ++ after)) where
    long : length rows ≡ length before + (length block + length after)
    long = ap length is ∙ length-append before (block ++ after) ∙ ap (λ n. length before + n) (length-append block after)

    in_block : (i : ℕ) (r : Row V) → i < length block → get_or rows (length before + i) r ≡ get_or block i r
    in_block i r inside =
        ap (λ l. get_or l (length before + i) r) is
        ∙ get_or-append-add before (block ++ after) i r
        ∙ get_or_append_left block after r i inside

    behind : (i : ℕ) (r : Row V) → get_or rows (length before + (length block + i)) r ≡ get_or after i r
    behind i r =
        ap (λ l. get_or l (length before + (length block + i)) r) is
        ∙ get_or-append-add before (block ++ after) (length block + i) r
        ∙ get_or-append-add block after i r

    module _ (up : AreAscending rows) where
      pub ascending_part : AreAscending block
      ascending_part i j r less inside =
          let P : Row V → Row V → Type 0 = λ a b. Before (key_of a) (key_of b) in
          subst (λ a. P a (get_or block j r)) (in_block i r (omega arith))
          (subst (λ b. P (get_or rows (length before + i) r) b) (in_block j r inside)
          (up (length before + i) (length before + j) r (omega arith) (omega (arith, long))))

      module _ (key : List ℕ) (n m : ℕ) (count : IsCountUpTo block key n) (there : m ≡ length before + n)
          (low : 0 < length before → (0 < length block) × ((r : Row V) → Before key (key_of (get_or block 0 r)) → ⊥))
          (high : 0 < length after → (r : Row V) → Before key (key_of (get_or after 0 r))) where
        not_after : (i : ℕ) (r : Row V) → i < m → Before key (key_of (get_or rows i r)) → ⊥
        not_after i r less past = ⊎_elim
            (λ (early : i < length before).
            let some = low (omega arith) in
            let e : length before + 0 ≡ length before = omega arith in
            some.1 r (nat_list_cmp_total.trans key (key_of (get_or rows i r)) (key_of (get_or block 0 r)) past
            (subst (λ a. Before (key_of (get_or rows i r)) (key_of a)) (in_block 0 r some.0)
            (up i (length before + 0) r (omega arith) (omega (arith, long, some.0))))))
            (λ (late : length before ≤ i).
            let e : i ≡ length before + (i - length before) = omega arith in
            count.up_to (i - length before) r (omega (arith, there))
            (subst (λ a. Before key (key_of a))
            (ap (λ k. get_or rows k r) e ∙ in_block (i - length before) r (omega (arith, there, count.low_inside))) past))
            (cases_lt i (length before))

        first_behind : (r : Row V) → 0 < length after → Before key (key_of (get_or rows (length before + (length block + 0)) r))
        first_behind r some = subst (λ a. Before key (key_of a)) (sym (behind 0 r)) (high some r)

        all_after : (i : ℕ) (r : Row V) → m ≤ i → i < length rows → Before key (key_of (get_or rows i r))
        all_after i r past inside = ⊎_elim
            (λ (early : i < length before + length block).
            let e : i ≡ length before + (i - length before) = omega (arith, there) in
            subst (λ a. Before key (key_of a))
            (sym (ap (λ k. get_or rows k r) e ∙ in_block (i - length before) r (omega (arith, there))))
            (count.after (i - length before) r (omega (arith, there)) (omega (arith, there))))
            (λ (late : length before + length block ≤ i). ⊎_elim
            (λ (more : length before + (length block + 0) < i).
            nat_list_cmp_total.trans key (key_of (get_or rows (length before + (length block + 0)) r))
            (key_of (get_or rows i r)) (first_behind r (omega (arith, long)))
            (up (length before + (length block + 0)) i r more inside))
            (λ (here : i ≤ length before + (length block + 0)).
            subst (λ k. Before key (key_of (get_or rows k r))) {x = length before + (length block + 0)} {y = i}
            (omega arith) (first_behind r (omega (arith, long))))
            (cases_lt (length before + (length block + 0)) i))
            (cases_lt i (length before + length block))

        pub counted_part : IsCountUpTo rows key m
        counted_part = record {
          low_inside = omega (arith, long, there, count.low_inside);
          high_inside = omega (arith, long, there, count.low_inside);
          up_to = not_after;
          after = all_after;
        }

  -- in blocks: in the first elements, if no block begins with a key up to this one, else in the last that does
  module _ (rows first : List (Row V)) (rest : List (Block (Row V))) (whole : first ++ elements rest ≡ rows)
      (filled : AreFilled rest) (up : AreAscending rows) where
    pub ascending_first : AreAscending first
    ascending_first = ascending_part rows [] first (elements rest) (sym whole) up

    pub counted_first : (key : List ℕ) (count n : ℕ) → IsBegun rest key count → count ≡ 0 → IsCountUpTo first key n
        → IsCountUpTo rows key n
    counted_first key count n begun none here =
        counted_part rows [] first (elements rest) (sym whole) up key n n here (sym (zero-add n))
        (λ some. absurd (omega arith))
        (λ some r.
        let inside : 0 < length rest = some_from rest 0 some in
        let b = head_of rest inside in
        subst (λ a. Before key (key_of a))
        (ap (λ k. get_or (get_or rest k b).items.items 0 r) none ∙ sym (first_from rest 0 b r filled inside))
        (begun.after b r (omega arith)))

    module _ (starts : AreStarted (length first) rest) (key : List ℕ) (count : ℕ) (begun : IsBegun rest key count)
        (some : 0 < count) (x : Block (Row V)) (there : x ≡ get_or rest (count - 1) x) where
      inside : count - 1 < length rest
      inside = omega (arith, begun.inside)

      parts : rows ≡ (first ++ elements (take (count - 1) rest))
          ++ ((get_or rest (count - 1) x).items.items ++ elements (drop (suc (count - 1)) rest))
      parts =
          sym whole ∙ ap (λ l. first ++ l) (cut rest (count - 1) x inside)
          ∙ sym (append_assoc first (elements (take (count - 1) rest))
          ((get_or rest (count - 1) x).items.items ++ elements (drop (suc (count - 1)) rest)))

      pub ascending_block : AreAscending x.items.items
      ascending_block = subst (λ (b : Block (Row V)). AreAscending b.items.items) (sym there)
          (ascending_part rows (first ++ elements (take (count - 1) rest)) (get_or rest (count - 1) x).items.items
          (elements (drop (suc (count - 1)) rest)) parts up)

      pub counted_block : (n : ℕ) → IsCountUpTo x.items.items key n → IsCountUpTo rows key (x.start + n)
      counted_block n here =
          counted_part rows (first ++ elements (take (count - 1) rest)) (get_or rest (count - 1) x).items.items
          (elements (drop (suc (count - 1)) rest)) parts up key n (x.start + n)
          (subst (λ (b : Block (Row V)). IsCountUpTo b.items.items key n) there here)
          (omega (
            arith,
            ap (λ (b : Block (Row V)). b.start) there,
            start_at (length first) rest (count - 1) x starts inside,
            length-append first (elements (take (count - 1) rest)),
          ))
          (λ _. (filled_at rest (count - 1) x filled inside, λ r. begun.up_to x r some))
          (λ more r.
          let later : suc (count - 1) < length rest = some_from rest (suc (count - 1)) more in
          let e : count ≡ suc (count - 1) = omega arith in
          subst (λ a. Before key (key_of a))
          (ap (λ k. get_or (get_or rest k x).items.items 0 r) e
          ∙ sym (first_from rest (suc (count - 1)) x r filled later))
          (begun.after x r (omega arith)))

      pub count_fits : (n : ℕ) → n ≤ length x.items.items → x.start + n ≤ length rows
      count_fits n most =
          omega (
            arith,
            most,
            ap length whole,
            length-append first (elements rest),
            no_more rest (count - 1) x inside,
            ap (λ (b : Block (Row V)). b.start) there,
            ap (λ (b : Block (Row V)). length b.items.items) there,
            start_at (length first) rest (count - 1) x starts inside,
          )
