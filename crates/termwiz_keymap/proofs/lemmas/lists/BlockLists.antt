-- Lists in blocks, and what becomes of one if an element of a block is set, inserted or taken out.
use Rattle.std.proofs.Common.{⊎_elim, ◌≡◌, ◌∙◌, ◌+◌, ◌-◌, ◌<◌, ◌≤◌, ℕ, zero, suc, List, [], ◌∷◌, ◌++◌, length, get_or, set, take, drop, refl, sym, ap, subst, arith, add-zero, add-one, zero-add, append_assoc, take-append-drop}
use Rattle.std.specs.List.{insert, remove}
use Rattle.std.proofs.Math.Seq.{split_at}
use Rattle.std.proofs.lemmas.Bool.{cases_lt}
use Rattle.std.proofs.lemmas.Grind.{flat_map-append}
use Rattle.std.proofs.lemmas.List.{length-append, length-take, set_split, set-append_left, set-append_right, take_more, take_more_set, take-set, drop-set-lt, take_all, take_at, drop_all, drop_more, get_or-append-add, get_or_default}
use Rattle.std.proofs.lemmas.List.Concat.{get_or-flat_map}
use Rattle.std.proofs.lemmas.List.Edits.{insert-append_left, insert-append_right, remove-append_left, remove-append_right}
use Rattle.termwiz_keymap.specs.declared.keymap.blocks.Block.{Block}
use Rattle.termwiz_keymap.specs.InBlocks.{AreFilled, AreStarted, IsHolder, elements}

module _ {T : Type 0} where
  pub elements-append : (xs ys : List (Block T)) → elements (xs ++ ys) ≡ elements xs ++ elements ys
  elements-append xs ys = flat_map-append (λ (b : Block T). b.items.items) xs ys

  -- the elements before a block, those of the block and those after it
  pub cut : (bs : List (Block T)) (k : ℕ) (b : Block T) → k < length bs
      → elements bs ≡ elements (take k bs) ++ ((get_or bs k b).items.items ++ elements (drop (suc k) bs))
  cut bs k b inside = ap elements (split_at bs k b inside) ∙ elements-append (take k bs) (get_or bs k b ∷ drop (suc k) bs)

  pub cut_set : (bs : List (Block T)) (k : ℕ) (b : Block T) → k < length bs
      → elements (set bs k b) ≡ elements (take k bs) ++ (b.items.items ++ elements (drop (suc k) bs))
  cut_set bs k b inside = ap elements (set_split bs k b inside) ∙ elements-append (take k bs) (b ∷ drop (suc k) bs)

  -- how many elements there are up to a block, and with it
  pub up_to_next : (bs : List (Block T)) (k : ℕ) (b : Block T) → k < length bs
      → length (elements (take (k + 1) bs)) ≡ length (elements (take k bs)) + length (get_or bs k b).items.items
  up_to_next bs k b inside =
      let some : List (Block T) = get_or bs k b ∷ [] in
      ap (λ l. length (elements l)) (take_more bs k b inside)
      ∙ ap length (elements-append (take k bs) some)
      ∙ length-append (elements (take k bs)) (elements some)
      ∙ ap (λ n. length (elements (take k bs)) + n)
      (length-append (get_or bs k b).items.items [] ∙ add-zero (length (get_or bs k b).items.items))

  pub no_more : (bs : List (Block T)) (k : ℕ) (b : Block T) → k < length bs
      → length (elements (take k bs)) + length (get_or bs k b).items.items ≤ length (elements bs)
  no_more bs k b inside =
      omega (
        arith,
        ap length (cut bs k b inside),
        length-append (elements (take k bs)) ((get_or bs k b).items.items ++ elements (drop (suc k) bs)),
        length-append (get_or bs k b).items.items (elements (drop (suc k) bs)),
      )

  -- an edit of a list that edits the one of its parts that has the place
  module _ (edit : List T → ℕ → List T) (Inside : ℕ → ℕ → Type 0)
      (left : (xs ys : List T) (i : ℕ) → Inside i (length xs) → edit (xs ++ ys) i ≡ edit xs i ++ ys)
      (right : (xs ys : List T) (i : ℕ) → length xs ≤ i → edit (xs ++ ys) i ≡ xs ++ edit ys (i - length xs)) where
    pub edited : (bs : List (Block T)) (k j : ℕ) (b : Block T) → k < length bs
        → Inside j (length (get_or bs k b).items.items)
        → edit (elements bs) (length (elements (take k bs)) + j)
        ≡ elements (take k bs) ++ (edit (get_or bs k b).items.items j ++ elements (drop (suc k) bs))
    edited bs k j b inside within =
        let before = elements (take k bs) in
        let items = (get_or bs k b).items.items in
        let after = elements (drop (suc k) bs) in
        let back : length before + j - length before ≡ j = omega arith in
        ap (λ l. edit l (length before + j)) (cut bs k b inside)
        ∙ right before (items ++ after) (length before + j) (omega arith)
        ∙ ap (λ n. before ++ edit (items ++ after) n) back
        ∙ ap (λ l. before ++ l) (left items after j within)

  pub set_edited : (bs : List (Block T)) (k j : ℕ) (v : T) (b : Block T) → k < length bs
      → j < length (get_or bs k b).items.items
      → set (elements bs) (length (elements (take k bs)) + j) v
      ≡ elements (take k bs) ++ (set (get_or bs k b).items.items j v ++ elements (drop (suc k) bs))
  set_edited bs k j v b inside within =
      edited (λ xs i. set xs i v) (λ i n. i < n) (λ xs ys i low. set-append_left xs ys i v low)
      (λ xs ys i past. set-append_right xs ys (length xs) i v refl past) bs k j b inside within

  pub insert_edited : (bs : List (Block T)) (k j : ℕ) (v : T) (b : Block T) → k < length bs
      → j ≤ length (get_or bs k b).items.items
      → insert (elements bs) (length (elements (take k bs)) + j) v
      ≡ elements (take k bs) ++ (insert (get_or bs k b).items.items j v ++ elements (drop (suc k) bs))
  insert_edited bs k j v b inside within =
      edited (λ xs i. insert xs i v) (λ i n. i ≤ n) (λ xs ys i low. insert-append_left xs ys i v low)
      (λ xs ys i past. insert-append_right xs ys (length xs) i v refl past) bs k j b inside within

  pub remove_edited : (bs : List (Block T)) (k j : ℕ) (b : Block T) → k < length bs
      → j < length (get_or bs k b).items.items
      → remove (elements bs) (length (elements (take k bs)) + j)
      ≡ elements (take k bs) ++ (remove (get_or bs k b).items.items j ++ elements (drop (suc k) bs))
  remove_edited bs k j b inside within =
      edited (λ xs i. remove xs i) (λ i n. i < n) (λ xs ys i low. remove-append_left xs ys i low)
      (λ xs ys i past. remove-append_right xs ys (length xs) i refl past) bs k j b inside within

  -- where a block starts
  pub start_at : (start : ℕ) (bs : List (Block T)) (k : ℕ) (b : Block T) → AreStarted start bs → k < length bs
      → (get_or bs k b).start ≡ start + length (elements (take k bs))
  start_at start [] k b starts inside = absurd (omega arith)
  start_at start (x ∷ bs) zero b starts inside = starts.0 ∙ sym (add-zero start)
  start_at start (x ∷ bs) (suc k) b starts inside =
      let rest = start_at (start + length x.items.items) bs k b starts.1 (omega arith) in
      omega (arith, rest, length-append x.items.items (elements (take k bs)))

  -- the place of an element is one within the block that is found for it
  pub held : (start : ℕ) (bs : List (Block T)) (place k : ℕ) (b : Block T) → AreStarted start bs → IsHolder bs place k
      → place < start + length (elements bs) → place < (get_or bs k b).start + length (get_or bs k b).items.items
  held start bs place k b starts holder within =
      let here = start_at start bs k b starts holder.inside in
      let size = up_to_next bs k b holder.inside in
      ⊎_elim
      (λ (more : k + 1 < length bs).
      omega (arith, here, size, holder.next b more, start_at start bs (k + 1) b starts more))
      (λ (last : length bs ≤ k + 1).
      omega (arith, here, size, ap (λ l. length (elements l)) (take_all (k + 1) bs last)))
      (cases_lt (k + 1) (length bs))

  -- starts of a list of blocks and of those after them
  pub started_both : (start : ℕ) (xs ys : List (Block T)) → AreStarted start xs
      → AreStarted (start + length (elements xs)) ys → AreStarted start (xs ++ ys)
  started_both start [] ys first then = subst (λ n. AreStarted n ys) (add-zero start) then
  started_both start (x ∷ xs) ys first then =
      let e : start + length (elements (x ∷ xs)) ≡ start + length x.items.items + length (elements xs) =
      omega (arith, length-append x.items.items (elements xs)) in
      (first.0, started_both (start + length x.items.items) xs ys first.1 (subst (λ n. AreStarted n ys) e then))

  pub started_first : (start : ℕ) (bs : List (Block T)) (k : ℕ) → AreStarted start bs → AreStarted start (take k bs)
  started_first start [] k starts = subst (λ l. AreStarted start l) (sym (take_all k [] (omega arith))) tt
  started_first start (x ∷ bs) zero starts = tt
  started_first start (x ∷ bs) (suc k) starts = (starts.0, started_first (start + length x.items.items) bs k starts.1)

  pub filled_both : (xs ys : List (Block T)) → AreFilled xs → AreFilled ys → AreFilled (xs ++ ys)
  filled_both [] ys first then = then
  filled_both (x ∷ xs) ys first then = (first.0, filled_both xs ys first.1 then)

  pub filled_first : (bs : List (Block T)) (k : ℕ) → AreFilled bs → AreFilled (take k bs)
  filled_first [] k some = subst (λ l. AreFilled l) (sym (take_all k [] (omega arith))) tt
  filled_first (x ∷ bs) zero some = tt
  filled_first (x ∷ bs) (suc k) some = (some.0, filled_first bs k some.1)

  pub filled_last : (bs : List (Block T)) (k : ℕ) → AreFilled bs → AreFilled (drop k bs)
  filled_last [] k some = subst (λ l. AreFilled l) (sym (drop_all k [] (omega arith))) tt
  filled_last (x ∷ bs) zero some = some
  filled_last (x ∷ bs) (suc k) some = filled_last bs k some.1

  pub filled_at : (bs : List (Block T)) (k : ℕ) (b : Block T) → AreFilled bs → k < length bs
      → 0 < length (get_or bs k b).items.items
  filled_at [] k b some inside = absurd (omega arith)
  filled_at (x ∷ bs) zero b some inside = some.0
  filled_at (x ∷ bs) (suc k) b some inside = filled_at bs k b some.1 (omega arith)

  pub filled_set : (bs : List (Block T)) (k : ℕ) (b : Block T) → AreFilled bs → 0 < length b.items.items
      → AreFilled (set bs k b)
  filled_set [] k b all some = tt
  filled_set (x ∷ bs) zero b all some = (some, all.1)
  filled_set (x ∷ bs) (suc k) b all some = (all.0, filled_set bs k b all.1 some)

  -- a block with other elements
  pub with_items : (bs : List (Block T)) (k : ℕ) (b : Block T) (items : List T) → k < length bs → b.items.items ≡ items
      → elements (set bs k b) ≡ elements (take k bs) ++ (items ++ elements (drop (suc k) bs))
  with_items bs k b items inside is =
      cut_set bs k b inside ∙ ap (λ l. elements (take k bs) ++ (l ++ elements (drop (suc k) bs))) is

  -- a block with the same elements in the place of another
  module _ (bs : List (Block T)) (k : ℕ) (x y : Block T) (inside : k < length bs) (there : x ≡ get_or bs k x)
      (items : y.items.items ≡ x.items.items) where
    same_items : y.items.items ≡ (get_or bs k x).items.items
    same_items = items ∙ ap (λ (b : Block T). b.items.items) there

    pub rewritten_same : elements (set bs k y) ≡ elements bs
    rewritten_same = with_items bs k y (get_or bs k x).items.items inside same_items ∙ sym (cut bs k x inside)

    pub rewritten_filled : AreFilled bs → AreFilled (set bs k y)
    rewritten_filled all = filled_set bs k y all (omega (arith, ap length same_items, filled_at bs k x all inside))

    -- and its start written anew
    module _ (first n : ℕ) (starts : AreStarted first (take k bs)) (at : n ≡ first + length (elements (take k bs)))
        (start : y.start ≡ n) where
      pub rewritten_started : AreStarted first (take (k + 1) (set bs k y))
      rewritten_started = subst (λ l. AreStarted first l) (sym (take_more_set bs k y inside))
          (started_both first (take k bs) (y ∷ []) starts (start ∙ at, tt))

      pub rewritten_next : n + length x.items.items ≡ first + length (elements (take (k + 1) (set bs k y)))
      rewritten_next =
          let some : List (Block T) = y ∷ [] in
          let size : length (elements some) ≡ length y.items.items = length-append y.items.items [] ∙ add-zero _ in
          omega (
            arith,
            at,
            size,
            ap length items,
            ap (λ l. length (elements l)) (take_more_set bs k y inside),
            ap length (elements-append (take k bs) some),
            length-append (elements (take k bs)) (elements some),
          )

  -- a block that has no elements is taken out
  module _ (bs : List (Block T)) (k : ℕ) (y : Block T) (inside : k < length bs) where
    without : remove (set bs k y) k ≡ take k bs ++ drop (suc k) bs
    without = ap (λ l. l ++ drop (suc k) (set bs k y)) (take-set bs k y)
        ∙ ap (λ l. take k bs ++ l) (drop-set-lt (suc k) bs k y (omega arith))

    pub without_elements : elements (remove (set bs k y) k) ≡ elements (take k bs) ++ elements (drop (suc k) bs)
    without_elements = ap elements without ∙ elements-append (take k bs) (drop (suc k) bs)

    pub without_filled : AreFilled bs → AreFilled (remove (set bs k y) k)
    without_filled all = subst (λ l. AreFilled l) (sym without)
        (filled_both (take k bs) (drop (suc k) bs) (filled_first bs k all) (filled_last bs (suc k) all))

    pub without_first : take k (remove (set bs k y) k) ≡ take k bs
    without_first = ap (take k) without ∙ take_at (take k bs) (drop (suc k) bs) k
        (omega (arith, length-take k bs))

  -- what is left from a block on
  pub left_from : (bs : List (Block T)) (k : ℕ) (b : Block T) → k < length bs
      → length (elements (drop k bs)) ≡ length (get_or bs k b).items.items + length (elements (drop (k + 1) bs))
  left_from bs k b inside =
      ap (λ l. length (elements l)) (drop_more bs k b inside)
      ∙ length-append (get_or bs k b).items.items (elements (drop (k + 1) bs))

  -- an element that is found in a block
  module _ (first : List T) (rest : List (Block T)) (starts : AreStarted (length first) rest) (place k : ℕ)
      (holder : IsHolder rest place k) (past : length first ≤ place) (inside : place < length (first ++ elements rest))
      (x : Block T) (there : x ≡ get_or rest k x) where
    before : ℕ
    before = length (elements (take k rest))

    pub start_is : x.start ≡ length first + length (elements (take k rest))
    start_is = ap (λ (b : Block T). b.start) there ∙ start_at (length first) rest k x starts holder.inside

    from_start : x.start ≤ place
    from_start = omega (arith, ap (λ (b : Block T). b.start) there, holder.started x)

    place_is : place ≡ length first + (length (elements (take k rest)) + (place - x.start))
    place_is = omega (arith, start_is, from_start)

    pub offset_inside : place - x.start < length x.items.items
    offset_inside =
        omega (
          arith,
          from_start,
          length-append first (elements rest),
          held (length first) rest place k x starts holder (omega (arith, length-append first (elements rest))),
          ap (λ (b : Block T). b.start) there,
          ap (λ (b : Block T). length b.items.items) there,
        )

    there_inside : place - x.start < length (get_or rest k x).items.items
    there_inside = omega (arith, offset_inside, ap (λ (b : Block T). length b.items.items) there)

    pub offset_inside_any : (b : Block T) → place - x.start < length (get_or rest k b).items.items
    offset_inside_any b = omega (
      arith,
      there_inside,
      ap (λ (b : Block T). length b.items.items) (get_or_default rest k x b holder.inside),
    )

    pub element_found : (d : T) → get_or (first ++ elements rest) place d ≡ get_or x.items.items (place - x.start) d
    element_found d =
        ap (λ n. get_or (first ++ elements rest) n d) place_is
        ∙ get_or-append-add first (elements rest) (length (elements (take k rest)) + (place - x.start)) d
        ∙ get_or-flat_map (λ (b : Block T). b.items.items) rest k (place - x.start) x d holder.inside there_inside
        ∙ ap (λ (b : Block T). get_or b.items.items (place - x.start) d) (sym there)

    offset_is : place - length first ≡ length (elements (take k rest)) + (place - x.start)
    offset_is = omega (arith, place_is)

    pub element_set : (v : T) (y : Block T) → y.items.items ≡ set x.items.items (place - x.start) v
        → first ++ elements (set rest k y) ≡ set (first ++ elements rest) place v
    element_set v y is =
        ap (λ l. first ++ l) (with_items rest k y (set x.items.items (place - x.start) v) holder.inside is
        ∙ ap (λ (b : Block T). elements (take k rest) ++ (set b.items.items (place - x.start) v ++ elements (drop (suc k) rest))) there
        ∙ sym (set_edited rest k (place - x.start) v x holder.inside there_inside)
        ∙ ap (λ n. set (elements rest) n v) (sym offset_is))
        ∙ sym (set-append_right first (elements rest) (length first) place v refl past)

    pub element_removed : first ++ remove (elements rest) (length (elements (take k rest)) + (place - x.start))
        ≡ remove (first ++ elements rest) place
    element_removed =
        ap (λ n. first ++ remove (elements rest) n) (sym offset_is)
        ∙ sym (remove-append_right first (elements rest) (length first) place refl past)
    -- the starts stay if a block has as many elements as before

  pub started_set : (start : ℕ) (bs : List (Block T)) (k : ℕ) (b y : Block T) → AreStarted start bs
      → y.start ≡ (get_or bs k b).start → length y.items.items ≡ length (get_or bs k b).items.items → k < length bs
      → AreStarted start (set bs k y)
  started_set start [] k b y starts is same inside = absurd (omega arith)
  started_set start (x ∷ bs) zero b y starts is same inside =
      (is ∙ starts.0, subst (λ n. AreStarted (start + n) bs) (sym same) starts.1)
  started_set start (x ∷ bs) (suc k) b y starts is same inside =
      (starts.0, started_set (start + length x.items.items) bs k b y starts.1 is same (omega arith))

  -- the elements before a block and those from it on
  pub both_lengths : (bs : List (Block T)) (k : ℕ)
      → length (elements bs) ≡ length (elements (take k bs)) + length (elements (drop k bs))
  both_lengths bs k =
      ap (λ l. length (elements l)) (sym (take-append-drop k bs))
      ∙ ap length (elements-append (take k bs) (drop k bs))
      ∙ length-append (elements (take k bs)) (elements (drop k bs))

  pub started_after : (start : ℕ) (bs : List (Block T)) (k : ℕ) (b : Block T) → AreStarted start bs → k < length bs
      → AreStarted (start + (length (elements (take k bs)) + length (get_or bs k b).items.items)) (drop (suc k) bs)
  started_after start [] k b starts inside = absurd (omega arith)
  started_after start (x ∷ bs) zero b starts inside =
      subst (λ n. AreStarted (start + n) bs) (sym (zero-add (length x.items.items))) starts.1
  started_after start (x ∷ bs) (suc k) b starts inside =
      let size = length (get_or bs k b).items.items in
      let e : start + length x.items.items + (length (elements (take k bs)) + size)
      ≡ start + (length (elements (x ∷ take k bs)) + size) =
      omega (arith, length-append x.items.items (elements (take k bs))) in
      subst (λ n. AreStarted n (drop (suc k) bs)) e
      (started_after (start + length x.items.items) bs k b starts.1 (omega arith))

  -- a block that is parted in two
  module _ (bs : List (Block T)) (k : ℕ) (x y z : Block T) (inside : k < length bs) (there : x ≡ get_or bs k x)
      (halves : y.items.items ++ z.items.items ≡ x.items.items) where
    parted : insert (set bs k y) (k + 1) z ≡ take k bs ++ y ∷ z ∷ drop (suc k) bs
    parted =
        ap (λ l. l ++ z ∷ drop (k + 1) (set bs k y)) (take_more_set bs k y inside)
        ∙ ap (λ l. (take k bs ++ y ∷ []) ++ z ∷ l) (drop-set-lt (k + 1) bs k y (omega arith))
        ∙ append_assoc (take k bs) (y ∷ []) (z ∷ drop (k + 1) bs)
        ∙ ap (λ n. take k bs ++ y ∷ z ∷ drop n bs) (add-one k)

    whole : y.items.items ++ z.items.items ≡ (get_or bs k x).items.items
    whole = halves ∙ ap (λ (b : Block T). b.items.items) there

    pub parted_same : elements (insert (set bs k y) (k + 1) z) ≡ elements bs
    parted_same =
        ap elements parted
        ∙ elements-append (take k bs) (y ∷ z ∷ drop (suc k) bs)
        ∙ ap (λ l. elements (take k bs) ++ l) (sym (append_assoc y.items.items z.items.items (elements (drop (suc k) bs))))
        ∙ ap (λ l. elements (take k bs) ++ (l ++ elements (drop (suc k) bs))) whole
        ∙ sym (cut bs k x inside)

    pub parted_started : (start : ℕ) → AreStarted start bs → y.start ≡ x.start
        → z.start ≡ x.start + length y.items.items → AreStarted start (insert (set bs k y) (k + 1) z)
    parted_started start starts first second =
        let at : x.start ≡ start + length (elements (take k bs)) =
        ap (λ (b : Block T). b.start) there ∙ start_at start bs k x starts inside in
        let size : length y.items.items + length z.items.items ≡ length (get_or bs k x).items.items =
        sym (length-append y.items.items z.items.items) ∙ ap length whole in
        let e : start + (length (elements (take k bs)) + length (get_or bs k x).items.items)
        ≡ start + length (elements (take k bs)) + length y.items.items + length z.items.items = omega (arith, size) in
        subst (λ l. AreStarted start l) (sym parted)
        (started_both start (take k bs) (y ∷ z ∷ drop (suc k) bs) (started_first start bs k starts) (
          first ∙ at,
          (
            second ∙ ap (λ n. n + length y.items.items) at,
            subst (λ n. AreStarted n (drop (suc k) bs)) e (started_after start bs k x starts inside),
          ),
        ))

    pub parted_filled : AreFilled bs → 0 < length y.items.items → 0 < length z.items.items
        → AreFilled (insert (set bs k y) (k + 1) z)
    parted_filled all some more = subst (λ l. AreFilled l) (sym parted)
        (filled_both (take k bs) (y ∷ z ∷ drop (suc k) bs) (filled_first bs k all)
        (some, (more, filled_last bs (suc k) all)))

  -- an element that is inserted behind one of a block
  module _ (bs : List (Block T)) (starts : AreStarted 0 bs) (place k : ℕ) (holder : IsHolder bs (place - 1) k)
      (inside : place ≤ length (elements bs)) (some : 0 < length (elements bs)) (x : Block T)
      (there : x ≡ get_or bs k x) where
    x_start : x.start ≡ length (elements (take k bs))
    x_start = ap (λ (b : Block T). b.start) there ∙ start_at 0 bs k x starts holder.inside ∙ zero-add _

    up_to_place : x.start ≤ place
    up_to_place = omega (arith, ap (λ (b : Block T). b.start) there, holder.started x)

    pub insert_inside : place - x.start ≤ length x.items.items
    insert_inside =
        omega (
          arith,
          up_to_place,
          held 0 bs (place - 1) k x starts holder (omega arith),
          ap (λ (b : Block T). b.start) there,
          ap (λ (b : Block T). length b.items.items) there,
        )

    pub element_inserted : (v : T) (y : Block T) → y.items.items ≡ insert x.items.items (place - x.start) v
        → elements (set bs k y) ≡ insert (elements bs) place v
    element_inserted v y is =
        let at : length (elements (take k bs)) + (place - x.start) ≡ place = omega (arith, x_start, up_to_place) in
        with_items bs k y (insert x.items.items (place - x.start) v) holder.inside is
        ∙ ap (λ (b : Block T). elements (take k bs) ++ (insert b.items.items (place - x.start) v ++ elements (drop (suc k) bs))) there
        ∙ sym (insert_edited bs k (place - x.start) v x holder.inside
        (omega (arith, insert_inside, ap (λ (b : Block T). length b.items.items) there)))
        ∙ ap (λ n. insert (elements bs) n v) at

    pub starts_from : x.start ≡ 0 + length (elements (take k bs))
    starts_from = x_start ∙ sym (zero-add _)

  pub some_elements : (bs : List (Block T)) → AreFilled bs → 0 < length bs → 0 < length (elements bs)
  some_elements [] all some = absurd (omega arith)
  some_elements (x ∷ bs) all some = omega (arith, all.0, length-append x.items.items (elements bs))
