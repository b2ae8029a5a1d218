-- The chords of bindings: they are known by codes, and still each list of presses has one meaning under them.
use Rattle.std.proofs.Common.{◌≡◌, ◌≢◌, ◌⊎◌, inl, inr, ℕ, zero, suc, ◌*◌, ◌<◌, ◌≤◌, Bool, true, false, cond, List, [], ◌∷◌, ◌++◌, length, take, drop, get_or, Option, Some, None, refl, sym, ap, ◌∙◌, subst, length-take-le, take-append-drop, Contains, arith}
use Rattle.std.specs.Prelude.{IsSome}
use Rattle.std.specs.List.{All, AllByRecursion}
use Rattle.std.specs.FinMap as map
use Rattle.std.proofs.lemmas.List.{append_cancel_left}
use Rattle.std.proofs.lemmas.List.Elements.{All-head, All-tail}
use Rattle.termwiz_keymap.specs.Entries.{Entries}
use Rattle.termwiz_keymap.specs.KeyRanges.{GoesOn}
use Rattle.termwiz_keymap.specs.KeysInOrder.{AreInOrder}
use Rattle.termwiz_keymap.specs.Lookup.{ByteMap}
use Rattle.termwiz_keymap.proofs.lemmas.entries.EntriesInOrder.{in_order_of_bytes}
use Rattle.termwiz_keymap.proofs.lemmas.entries.KeysInEntries.{tied, tied_same, get-set}
use Rattle.termwiz_keymap.proofs.lemmas.entries.RemovedEntries.{get-without}
use Rattle.termwiz_grammar.proofs.lemmas.lists.Decidable.{decide_eq}
use Rattle.termwiz_bindings.specs.declared.press.KeyPress.{KeyPress}
use Rattle.termwiz_bindings.specs.Codes.{IsPress, code, code_len, codes}
use Rattle.termwiz_bindings.specs.Bindings.{AreBindings, bound, find, unbound}
use Rattle.termwiz_bindings.specs.Matching.{IsChordMap, IsContinued, most_keys}
use Rattle.termwiz_bindings.specs.ChordLaws.{AgreeFrom, LeavesOtherLists}
use Rattle.termwiz_bindings.proofs.lemmas.CodedPresses.{code_length, codes_append, codes_length, codes_tell}
use Rattle.termwiz_bindings.proofs.lemmas.SharedBeginnings.{length-some, same_from_length, front_fits}
use Rattle.termwiz_bindings.proofs.lemmas.PendingChords.{meaning_of_presses}

-- whether a key begins with some bytes and is longer can be told
decide_goes_on : (front key : List ℕ) → GoesOn front key ⊎ ¬ GoesOn front key
decide_goes_on [] [] = inr (λ h. h.1 (sym h.2))
decide_goes_on [] (k ∷ key) = inl (k ∷ key, (λ e. cc (e)), refl)
decide_goes_on (f ∷ front) [] = inr (λ h. cc (h.2))
decide_goes_on (f ∷ front) (k ∷ key) = go (decide_eq f k) (decide_goes_on front key)
  where
    go : (f ≡ k) ⊎ (f ≡ k → ⊥) → GoesOn front key ⊎ ¬ GoesOn front key → GoesOn (f ∷ front) (k ∷ key) ⊎ ¬ GoesOn (f ∷ front) (k ∷ key)
    go (inl same) (inl h) = inl (h.0, h.1, cc (same, h.2))
    go (inl same) (inr none) = inr (λ h. none (h.0, h.1, cc (h.2)))
    go (inr other) later = inr (λ h. other (cc (h.2)))

-- the codes behind those of some presses are those of presses
codes_behind : (u chord : List KeyPress) (rest : List ℕ) → codes chord ≡ codes u ++ rest
    → (tail : List KeyPress) × (rest ≡ codes tail)
codes_behind u chord rest e =
    let width : length u * code_len ≤ length chord * code_len =
    omega (arith, codes_length u, codes_length chord, front_fits (codes chord) (codes u) rest e) in
    let fits : length u ≤ length chord = omega arith in
    let parts : codes chord ≡ codes (take (length u) chord) ++ codes (drop (length u) chord) =
    ap codes (sym (take-append-drop (length u) chord)) ∙ codes_append (take (length u) chord) (drop (length u) chord) in
    let wide : length (codes u) ≡ length (codes (take (length u) chord)) =
    codes_length u ∙ sym (codes_length (take (length u) chord) ∙ ap (λ n. n * code_len) (length-take-le (length u) chord fits)) in
    let fronts : codes u ≡ codes (take (length u) chord) =
    same_from_length (codes u) (codes (take (length u) chord)) rest (codes (drop (length u) chord)) (sym e ∙ parts) wide in (
      drop (length u) chord,
      append_cancel_left (codes u) rest (codes (drop (length u) chord)) (sym e ∙ parts ∙ ap (λ z. z ++ codes (drop (length u) chord)) (sym fronts)),
    )

module _ {V : Type 0} where
  -- an entry whose key goes on after some bytes
  abbrev Continuing : List ℕ → Entries V → Type 0
  Continuing front es =
      (i : ℕ) × (e : List ℕ × V) × (i < length es) × ((d : List ℕ × V) → get_or es i d ≡ e) × GoesOn front e.0

  decide_continuing : (front : List ℕ) (es : Entries V) → Continuing front es ⊎ ¬ Continuing front es
  decide_continuing front [] = inr (λ h. let l : h.0 < 0 = h.2 in absurd (omega arith))
  decide_continuing front (x ∷ es) = go (decide_goes_on front x.0) (decide_continuing front es)
    where
      none : ¬ GoesOn front x.0 → ¬ Continuing front es → (i : ℕ) (e : List ℕ × V) → i < length (x ∷ es)
          → ((d : List ℕ × V) → get_or (x ∷ es) i d ≡ e) → GoesOn front e.0 → ⊥
      none first later zero e l at goes = first (subst (λ z. GoesOn front z.0) (sym (at x)) goes)
      none first later (suc i) e l at goes = later (i, e, omega arith, at, goes)

      go : GoesOn front x.0 ⊎ ¬ GoesOn front x.0 → Continuing front es ⊎ ¬ Continuing front es
          → Continuing front (x ∷ es) ⊎ ¬ Continuing front (x ∷ es)
      go (inl goes) later = inl (zero, x, omega arith, (λ d. refl), goes)
      go (inr first) (inl h) = inl (suc h.0, h.1, omega (arith, h.2), h.3, h.4)
      go (inr first) (inr later) = inr (λ h. none first later h.0 h.1 h.2 h.3 h.4)

  in_order : AreInOrder V
  in_order = in_order_of_bytes

  known_some : (m : ByteMap V) (key : List ℕ) (v : V) → map.get m key ≡ Some v → IsSome (map.get m key)
  known_some m key v e = subst IsSome (sym e) refl

  known_value : (o : Option V) → IsSome o → (v : V) × (o ≡ Some v)
  known_value (Some v) is = (v, refl)
  known_value None is = absurd (cc (is))

  told : (m : ByteMap V) → AreBindings m → (u : List KeyPress) → IsContinued (find m) u ⊎ ¬ IsContinued (find m) u
  told m are u = go (decide_continuing (codes u) (map.entries m))
    where
      place_of : (key : List ℕ) (v : V) → map.get m key ≡ Some v → GoesOn (codes u) key → Continuing (codes u) (map.entries m)
      place_of key v e goes =
          let at = (in_order.stored m key v).0 e in
          (at.0, (key, v), subst (λ n. at.0 < n) (map.len-entries m) at.1.inside, at.1.there, goes)

      no_codes : (tail : List KeyPress) → tail ≢ [] → codes tail ≢ []
      no_codes tail some e =
          let few : length tail * code_len ≡ 0 = sym (codes_length tail) ∙ ap length e in
          let more : 0 < length tail = length-some tail some in
          absurd (omega arith)

      found : Continuing (codes u) (map.entries m) → IsContinued (find m) u
      found (i, e, l, at, goes) =
          let stored : map.get m e.0 ≡ Some e.1 = (in_order.stored m e.0 e.1).1
          (i, record { inside = subst (λ n. i < n) (sym (map.len-entries m)) l; there = at }) in
          let is : IsSome (map.get m e.0) = known_some m e.0 e.1 stored in
          let chord = are e.0 is in
          let behind = codes_behind u chord.0 goes.0 (sym chord.3 ∙ goes.2) in
          let key : e.0 ≡ codes (u ++ behind.0) = goes.2 ∙ ap (λ z. codes u ++ z) behind.1 ∙ sym (codes_append u behind.0) in
          record {
            tail = behind.0;
            longer = λ none. goes.1 (behind.1 ∙ ap codes none);
            is_chord = subst (λ z. IsSome (map.get m z)) key is;
          }

      go : Continuing (codes u) (map.entries m) ⊎ ¬ Continuing (codes u) (map.entries m)
          → IsContinued (find m) u ⊎ ¬ IsContinued (find m) u
      go (inl h) = inl (found h)
      go (inr none) = inr (λ c.
          let one = known_value (find m (u ++ c.tail)) c.is_chord in
          none (place_of (codes (u ++ c.tail)) one.0 one.1 (codes c.tail, no_codes c.tail c.longer, codes_append u c.tail)))

  pub are_chords : (m : ByteMap V) → AreBindings m → IsChordMap (find m)
  are_chords m are = record {
    some = nothing (find m []) refl;
    short = λ chord is.
        let real = are (codes chord) is in
        let few : length real.0 ≤ most_keys = real.1.few in
        let wide : length chord * code_len ≡ length real.0 * code_len = sym (codes_length chord) ∙ ap length real.3 ∙ codes_length real.0 in
        omega arith;
    told = told m are;
  }
    where
      nothing : (o : Option V) → find m [] ≡ o → o ≡ None
      nothing None e = refl
      nothing (Some v) e =
          let real = are [] (known_some m [] v e) in
          let some : 0 < length real.0 = length-some real.0 real.2 in
          let none : 0 ≡ length real.0 * code_len = ap length real.3 ∙ codes_length real.0 in
          absurd (omega arith)

-- presses that begin differently have different codes
apart_codes : (p first : KeyPress) (rest others : List KeyPress) → IsPress p → IsPress first → p ≢ first
    → codes (p ∷ rest) ≢ codes (first ∷ others)
apart_codes p first rest others is its apart e =
    apart (codes_tell p first is its
    (same_from_length (code p) (code first) (codes rest) (codes others) e (code_length p ∙ sym (code_length first))))

none_has : (x : KeyPress) (u : List KeyPress) (y : KeyPress) → ¬ Contains (y ∷ u) x → (y ≢ x) × (¬ Contains u x)
none_has x u y none = ((λ e. none (zero, omega arith, e)), λ (i, l, e). none (suc i, omega arith, e))

no_code : (first : KeyPress) (others : List KeyPress) → codes [] ≢ codes (first ∷ others)
no_code first others e =
    let wide : length (codes (first ∷ others)) ≡ suc (length others) * code_len = codes_length (first ∷ others) in
    let none : 0 ≡ length (codes (first ∷ others)) = ap length e in
    absurd (omega arith)

module _ {V : Type 0} where
  untied_get : (b : Bool) (w x : Option V) → b ≢ true → cond b w x ≡ x
  untied_get false w x n = refl
  untied_get true w x n = absurd (n refl)

  agree_bound : (m : ByteMap V) (first : KeyPress) (others : List KeyPress) (v : V) → IsPress first → (u : List KeyPress)
      → All IsPress u → ¬ Contains u first → AllByRecursion (AgreeFrom (find m) (find (bound m (first ∷ others) v))) u
  agree_bound m first others v is [] are none = tt
  agree_bound m first others v is (x ∷ u) are none =
      let parts = none_has first u x none in (
        λ rest. get-set m (codes (first ∷ others)) v (codes (x ∷ rest))
            ∙ untied_get (tied (codes (x ∷ rest)) (codes (first ∷ others))) (Some v) (find m (x ∷ rest))
            (λ same. apart_codes x first rest others (All-head IsPress x u are) is parts.0
            (tied_same (codes (x ∷ rest)) (codes (first ∷ others)) same)),
        agree_bound m first others v is u (All-tail IsPress x u are) parts.1,
      )

  agree_unbound : (m : ByteMap V) (first : KeyPress) (others : List KeyPress) → IsPress first → (u : List KeyPress)
      → All IsPress u → ¬ Contains u first → AllByRecursion (AgreeFrom (find m) (find (unbound m (first ∷ others)))) u
  agree_unbound m first others is [] are none = tt
  agree_unbound m first others is (x ∷ u) are none =
      let parts = none_has first u x none in (
        λ rest. get-without m (codes (first ∷ others)) (codes (x ∷ rest))
            ∙ untied_get (tied (codes (x ∷ rest)) (codes (first ∷ others))) None (find m (x ∷ rest))
            (λ same. apart_codes x first rest others (All-head IsPress x u are) is parts.0
            (tied_same (codes (x ∷ rest)) (codes (first ∷ others)) same)),
        agree_unbound m first others is u (All-tail IsPress x u are) parts.1,
      )

pub leaves_other_lists : (V : Type 0) → LeavesOtherLists V
leaves_other_lists V m first others v f u left E is are none = (
  meaning_of_presses V (find m) (find (bound m (first ∷ others) v)) f u left E
      (get-set m (codes (first ∷ others)) v (codes [])
      ∙ untied_get (tied (codes []) (codes (first ∷ others))) (Some v) (find m [])
      (λ same. no_code first others (tied_same (codes []) (codes (first ∷ others)) same)))
      (agree_bound m first others v is u are none),
  meaning_of_presses V (find m) (find (unbound m (first ∷ others))) f u left E
      (get-without m (codes (first ∷ others)) (codes [])
      ∙ untied_get (tied (codes []) (codes (first ∷ others))) None (find m [])
      (λ same. no_code first others (tied_same (codes []) (codes (first ∷ others)) same)))
      (agree_unbound m first others is u are none),
)
