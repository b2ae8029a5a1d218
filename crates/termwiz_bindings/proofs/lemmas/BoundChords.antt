-- Bindings by the codes of their chords.
use Rattle.std.proofs.Common.{◌≡◌, ◌≢◌, ◌∙◌, ◌↔◌, ⊎_elim, ℕ, ◌+◌, ◌*◌, ◌/◌, ◌<◌, ◌≤◌, Bool, true, false, cond, List, [], ◌∷◌, ◌++◌, length, take, drop, refl, sym, ap, subst, take-append-drop, arith}
use Rattle.std.specs.Prelude.{Option, None, Some, IsSome, is_some}
use Rattle.std.specs.List.{All}
use Rattle.std.specs.Ordering.{nat_cmp}
use Rattle.std.specs.Cmp.Lexicographic.{slice_cmp}
use Rattle.std.specs.FinMap as map
use Rattle.std.proofs.lemmas.Bool.{cases_lt}
use Rattle.std.proofs.lemmas.List.{length-append, length-take-le}
use Rattle.termwiz_keymap.specs.declared.keymap.Found.{Found}
use Rattle.termwiz_keymap.specs.declared.keymap.Found.TheVariants.{None as Nothing, Exact, Ambiguous, NeedData}
use Rattle.termwiz_keymap.specs.KeyRanges.{GoesOn}
use Rattle.termwiz_keymap.specs.KeysInOrder.{AreExtensions, AreInOrder, IsEntryAt}
use Rattle.termwiz_keymap.specs.Lookup.{ByteMap, IsExtended, IsLongestKey, LookupGives, NoKeyBegins}
use Rattle.termwiz_keymap.proofs.lemmas.entries.EntriesInOrder.{in_order_of_bytes}
use Rattle.termwiz_keymap.proofs.lemmas.entries.KeysInEntries.{tied, tied_same, get-set}
use Rattle.termwiz_keymap.proofs.lemmas.entries.RemovedEntries.{get-without}
use Rattle.termwiz_bindings.specs.declared.press.KeyPress.{KeyPress}
use Rattle.termwiz_bindings.specs.Codes.{IsPress, code_len, codes}
use Rattle.termwiz_bindings.specs.Chords.{AreCodes, IsChord}
use Rattle.termwiz_bindings.specs.Bindings.{AreBindings, AreContinuations, FindGives, GoesOnAfter, bound, find, unbound}
use Rattle.termwiz_bindings.specs.Matching.{BeginWith, BeginWithNone, HasLongest, IsContinued}
use Rattle.termwiz_bindings.proofs.lemmas.CodedPresses.{begun, codes_append, codes_length, codes_take, same_presses}
use Rattle.termwiz_bindings.proofs.lemmas.SharedBeginnings.{taken_front, front_fits}

-- chords with the same codes are the same
pub same_chord : (chord other : List KeyPress) → IsChord chord → IsChord other → codes chord ≡ codes other → chord ≡ other
same_chord chord other is its same = same_presses chord other is.presses its.presses same

no_elements : {A : Type 0} (xs : List A) → length xs ≡ 0 → xs ≡ []
no_elements [] none = refl
no_elements (x ∷ xs) none = absurd (omega arith)

some_elements : {A : Type 0} (xs : List A) → xs ≢ [] → 0 < length xs
some_elements [] some = absurd (some refl)
some_elements (x ∷ xs) some = omega arith

some_codes : (ps : List KeyPress) → ps ≢ [] → 0 < length (codes ps)
some_codes ps some = let few = some_elements ps some in let len = codes_length ps in omega arith

-- a longer chord has longer codes, and the other way round
pub longer_chord : (ps chord : List KeyPress) → All IsPress ps → IsChord chord
    → GoesOn (codes ps) (codes chord) ↔ GoesOnAfter ps chord
longer_chord ps chord are is = (
  λ (rest, some, same).
      let go = begun ps chord are is.presses rest same in
      (go.0, (λ none. some (no_elements rest (no_rest rest go.0 same go.1 none))), go.1),
  λ (rest, some, same).
      (codes rest, (λ none. some (no_elements rest (codes_none rest none))), ap codes same ∙ codes_append ps rest),
)
  where
    no_rest : (rest : List ℕ) (more : List KeyPress) → codes chord ≡ codes ps ++ rest → chord ≡ ps ++ more → more ≡ [] → length rest ≡ 0
    no_rest rest more same go none =
        let a : length chord * code_len ≡ length ps * code_len + length rest =
        sym (codes_length chord) ∙ ap length same ∙ length-append (codes ps) rest
        ∙ ap (λ n. n + length rest) (codes_length ps) in
        let b : length chord ≡ length ps + length more = ap length go ∙ length-append ps more in
        let d : length more ≡ 0 = ap length none in
        omega arith

    codes_none : (rest : List KeyPress) → codes rest ≡ [] → length rest ≡ 0
    codes_none rest none = let a : length rest * code_len ≡ 0 = sym (codes_length rest) ∙ ap length none in omega arith

-- an answer with the number of presses in place of that of bytes
abbrev pub by_presses : {V : Type 0} → Found V → Found V
by_presses (Ambiguous len value) = Ambiguous (len / code_len) value
by_presses (Exact len value) = Exact (len / code_len) value
by_presses NeedData = NeedData
by_presses Nothing = Nothing

module _ {V : Type 0} (m : ByteMap V) (are : AreBindings m) where
  pub some_at : (key : List ℕ) (value : V) → map.get m key ≡ Some value → IsSome (map.get m key)
  some_at key value is = ap is_some is

  module _ (ps : List KeyPress) (presses : All IsPress ps) where
    -- a longer key is that of a longer chord
    pub continued : IsExtended m (codes ps) ↔ IsContinued (find m) ps
    continued = (
      λ (rest, some, stored).
          let known = are (codes ps ++ rest) stored in
          let longer = (longer_chord ps known.0 presses known.1).0
          (rest, (λ none. absurd (omega (arith, some, ap length none))), sym known.3) in
          record {
            tail = longer.0;
            longer = longer.1;
            is_chord = subst (λ key. IsSome (map.get m key)) (known.3 ∙ ap codes longer.2) stored;
          },
      λ goes_on. (
        codes goes_on.tail,
        some_codes goes_on.tail goes_on.longer,
        subst (λ key. IsSome (map.get m key)) (codes_append ps goes_on.tail) goes_on.is_chord,
      ),
    )

    missing : (found : Option V) → found ≡ None → ¬ IsSome found
    missing found is some = let none : IsSome {T = V} None = subst IsSome is some in cc (none)

    -- a chord that begins the presses, where its codes are no key
    no_key : (chord : List KeyPress) → BeginWith ps chord
        → map.get m (take (length chord * code_len) (codes ps)) ≡ None → ¬ IsSome (find m chord)
    no_key chord begins none =
        let front : chord ≡ take (length chord) ps = sym (taken_front ps chord begins.0 begins.1) in
        let fits : length chord ≤ length ps = front_fits ps chord begins.0 begins.1 in
        missing (find m chord) (ap (find m) front ∙ ap (map.get m) (sym (codes_take ps (length chord) fits)) ∙ none)

    -- the longest key that begins the codes is that of the longest chord that begins the presses
    longest_of : (len : ℕ) (value : V) → IsLongestKey m (codes ps) len value → (count : ℕ) → len ≡ count * code_len → 0 < count
        → HasLongest (find m) ps count value
    longest_of len value is count same some =
        let all : length (codes ps) ≡ length ps * code_len = codes_length ps in
        let within : len ≤ length (codes ps) = is.within in
        let few : count ≤ length ps = omega arith in
        let taken : length (take count ps) ≡ count = length-take-le count ps few in
        record {
          some = some;
          within = few;
          chord = record {
            bound = ap (map.get m) (sym (codes_take ps count few) ∙ ap (λ n. take n (codes ps)) (sym same)) ∙ is.stored;
            begins = (drop count ps, sym (take-append-drop count ps));
            longest = λ other chord begins.
                let up : length other ≤ length ps = front_fits ps other begins.0 begins.1 in
                ⊎_elim
                (λ (more : count < length other). absurd (no_key other begins
                (is.longest (length other * code_len) (omega (arith, more, same)) (omega (arith, up, all))) chord))
                (λ (few : length other ≤ count). omega arith)
                (cases_lt count (length other));
          };
        }

    pub longest_chord : (len : ℕ) (value : V) → IsLongestKey m (codes ps) len value → HasLongest (find m) ps (len / code_len) value
    longest_chord len value is =
        let known = are (take len (codes ps)) (some_at (take len (codes ps)) value is.stored) in
        let length_is : len ≡ length known.0 * code_len =
        sym (length-take-le len (codes ps) is.within) ∙ ap length known.3 ∙ codes_length known.0 in
        let some : 0 < length known.0 = some_elements known.0 known.2 in
        let count : length known.0 ≡ len / code_len = omega arith in
        subst (λ n. HasLongest (find m) ps n value) count (longest_of len value is (length known.0) length_is some)

    pub no_chord : NoKeyBegins m (codes ps) → BeginWithNone (find m) ps
    no_chord none chord is begins =
        let all : length (codes ps) ≡ length ps * code_len = codes_length ps in
        let up : length chord ≤ length ps = front_fits ps chord begins.0 begins.1 in
        no_key chord begins (none (length chord * code_len) (omega arith)) is

    -- what a lookup of the codes finds, by the number of presses
    pub found_of : (more : Bool) (found : Found V) → LookupGives m (codes ps) more found → FindGives m ps more (by_presses found)
    found_of more (Ambiguous len value) (longest, extended, may) = (longest_chord len value longest, continued.0 extended, may)
    found_of more (Exact len value) (longest, not_more) =
        (longest_chord len value longest, λ goes_on. not_more (continued.1 goes_on))
    found_of more NeedData (none, extended) = (no_chord none, continued.0 extended)
    found_of more Nothing (none, not_extended) = (no_chord none, λ goes_on. not_extended (continued.1 goes_on))

    pub continuations_of : (low high : ℕ) → AreExtensions m (codes ps) low high → AreContinuations m ps low high
    continuations_of low high is = record {
      ordered = is.ordered;
      inside = is.inside;
      those = λ place chord value is_chord at.
          let bytes = is.those place (codes chord) value at in
          let chords = longer_chord ps chord presses is_chord in (
            λ goes_on. bytes.0 (chords.1 goes_on),
            λ between. chords.0 (bytes.1 between),
          );
    }

  -- a key at a place is the codes of a chord
  pub codes_at : (place : ℕ) (key : List ℕ) (value : V) → IsEntryAt m place key value → AreCodes key
  codes_at place key value at =
      let order : AreInOrder V = in_order_of_bytes in
      let known = are key (some_at key value ((order.stored m key value).1 (place, at))) in
      (known.0, known.1, known.3)

  -- bindings stay such with one chord more, and with one fewer
  pub bindings_bound : (chord : List KeyPress) (value : V) → IsChord chord → chord ≢ [] → AreBindings (bound m chord value)
  bindings_bound chord value is some key there =
      go (tied key (codes chord)) refl (subst IsSome (get-set m (codes chord) value key) there)
    where
      go : (b : Bool) → tied key (codes chord) ≡ b → IsSome (cond b (Some value) (map.get m key))
          → (c : List KeyPress) × IsChord c × (c ≢ []) × (key ≡ codes c)
      go true same found = (chord, is, some, tied_same key (codes chord) same)
      go false other found = are key found

  pub bindings_unbound : (chord : List KeyPress) → AreBindings (unbound m chord)
  bindings_unbound chord key there = go (tied key (codes chord)) (subst IsSome (get-without m (codes chord) key) there)
    where
      go : (b : Bool) → IsSome (cond b None (map.get m key)) → (c : List KeyPress) × IsChord c × (c ≢ []) × (key ≡ codes c)
      go true found = absurd (cc (found))
      go false found = are key found

-- no chord is bound in an empty map
pub bindings_empty : (V : Type 0) (m : ByteMap V) → m ≡ map.empty → AreBindings m
bindings_empty V m is key there =
    let none : map.get m key ≡ None = ap (λ (n : ByteMap V). map.get n key) is ∙ map.get-empty (slice_cmp nat_cmp) key in
    absurd (cc (none, there))

module _ {V : Type 0} where
  -- the same of a map and bytes that are known to be those of bindings and of a chord
  module _ (m n : ByteMap V) (same : m ≡ n) (are : AreBindings m) (bytes : List ℕ) (ps : List KeyPress)
      (is : IsChord ps) (spelled : bytes ≡ codes ps) where
    pub same_bindings : AreBindings n
    same_bindings = subst AreBindings same are

    pub found_by : (more : Bool) (found : Found V) → LookupGives m bytes more found → FindGives n ps more (by_presses found)
    found_by more found gives =
        found_of n same_bindings ps is.presses more found (subst (λ (k : ByteMap V). LookupGives k (codes ps) more found) same
        (subst (λ key. LookupGives m key more found) spelled gives))

    pub continuations_by : (low high : ℕ) → AreExtensions m bytes low high → AreContinuations n ps low high
    continuations_by low high are_those =
        continuations_of n same_bindings ps is.presses low high (subst (λ (k : ByteMap V). AreExtensions k (codes ps) low high) same
        (subst (λ key. AreExtensions m key low high) spelled are_those))

    pub continued_by : (P : Type 0) → P ↔ IsExtended m bytes → P ↔ IsContinued (find n) ps
    continued_by P both =
        let those : P ↔ IsExtended n (codes ps) = subst (λ (k : ByteMap V). P ↔ IsExtended k (codes ps)) same
        (subst (λ key. P ↔ IsExtended m key) spelled both) in
        let go = continued n same_bindings ps is.presses in (
          λ p. go.0 (those.0 p),
          λ goes_on. those.1 (go.1 goes_on),
        )

    pub bound_by : (value : V) (new : ByteMap V) → ps ≢ [] → new ≡ map.insert m bytes value → AreBindings new
    bound_by value new some is_new =
        subst AreBindings (sym (is_new ∙ ap (λ key. map.insert m key value) spelled)) (bindings_bound m are ps value is some)

    pub unbound_by : (new : ByteMap V) → new ≡ map.remove m bytes → AreBindings new
    unbound_by new is_new = subst AreBindings (sym (is_new ∙ ap (λ key. map.remove m key) spelled)) (bindings_unbound m are ps)
