-- What is held back of the text of an open paste, and what is left once the other bytes are taken.
use Rattle.std.proofs.Common.{◌≡◌, ◌⊎◌, ⊎_elim, ℕ, zero, suc, ◌+◌, ◌-◌, ◌<◌, ◌≤◌, List, [], ◌++◌, length, take, drop, min, max, inl, inr, refl, sym, ap, ◌∙◌, subst, arith, length-append, length-drop, length-take-le, take-append-drop, drop-drop}
use Rattle.std.specs.Str.Lossy.{utf8_lossy}
use Rattle.std.proofs.Math.Seq.{drop-append_seam, drop-length, take-append_seam}
use Rattle.std.proofs.lemmas.Bool.{cases_lt}
use Rattle.std.proofs.lemmas.Str.{length-encode, len_utf8_bounds}
use Rattle.termwiz_keymap.specs.Bytes.{Occurs}
use Rattle.termwiz_keys.specs.Introducers.{START, END}
use Rattle.termwiz_grammar.specs.Grammar.{IsUnfinishedCharacter}
use Rattle.termwiz_grammar.specs.WaitingKinds.{IsOpenPaste}
use Rattle.termwiz_grammar.specs.PasteParts.{BeginsCharacter, BeginsEnd, EndsWith, EndsWithNone, HasPart, IsHeld}
use Rattle.termwiz_grammar.specs.PasteParts.IsHeld.{end_begun, character_begun, nothing}
use Rattle.termwiz_keymap.proofs.lemmas.lists.CommonPrefixes.{length-some}
use Rattle.termwiz_grammar.proofs.lemmas.pastes.HeldBytes.{held_once, held_short}
use Rattle.termwiz_input.specs.HeldLengths.{IsCharacterBegun, IsDecidedTo, IsEndBegun}

-- what ends a text is what is left of it after the bytes before
ends_at : (b text : List ℕ) → EndsWith b text → drop (length b - length text) b ≡ text
ends_at b text (before, e) =
    let n : length b - length text ≡ length before = omega (arith, ap length e, length-append before text) in
    ap (λ k. drop k b) n ∙ ap (drop (length before)) e ∙ drop-append_seam before text

-- a proper beginning of END is so many first bytes of it, at most five
first_bytes : (other : List ℕ) → BeginsEnd other → (take (length other) END ≡ other) × (0 < length other) × (length other ≤ 5)
first_bytes other is = (
  ap (take (length other)) is.splits ∙ take-append_seam other is.tail,
  length-some other is.some,
  omega (arith, ap length is.splits, length-append other is.tail, length-some is.tail is.longer),
)

-- so many first bytes of END properly begin it
begins_end : (n : ℕ) → 0 < n → n ≤ 5 → BeginsEnd (take n END)
begins_end n some few = record {
  some = λ none. omega (arith, ap length none, length-take-le n END (omega arith));
  tail = drop n END;
  longer = λ none. omega (arith, ap length none, length-drop n END);
  splits = sym (take-append-drop n END);
}

-- the longest beginning of END that was found is what is held back
pub held_end : (b : List ℕ) (n : ℕ) → IsEndBegun b n → 0 < n → (n ≤ length b) × IsHeld b (drop (length b - n) b)
held_end b n found some =
    let long : length (take n END) ≡ n = length-take-le n END (omega (arith, found.within)) in
    let at : drop (length b - n) b ≡ take n END =
    ap (λ k. drop (length b - k) b) (sym long) ∙ ends_at b (take n END) found.here in (
      omega (arith, ap length found.here.1, length-append found.here.0 (take n END)),
      subst (IsHeld b) (sym at) (end_begun (begins_end n some found.within) found.here (λ other is there. longest other is there long)),
    )
  where
    longest : (other : List ℕ) → BeginsEnd other → EndsWith b other → length (take n END) ≡ n → length other ≤ length (take n END)
    longest other is there long = ⊎_elim
        (λ (l : n < length other).
        let first = first_bytes other is in
        absurd (found.longest (length other) l first.2 (subst (EndsWith b) (sym first.0) there)))
        (λ (l : length other ≤ n). omega arith)
        (cases_lt n (length other))

-- where none was found, the beginning of a character is
pub held_character : (b : List ℕ) (n : ℕ) → IsEndBegun b 0 → IsCharacterBegun b n → IsHeld b (drop (length b - n) b)
held_character b zero none found =
    let all : drop (length b - 0) b ≡ [] = (let e : length b - 0 ≡ length b = omega arith in ap (λ k. drop k b) e) ∙ drop-length b in
    nothing (λ other is there. no_end other is there) (found.none refl) all
  where
    no_end : EndsWithNone BeginsEnd b
    no_end other is there =
        let first = first_bytes other is in
        none.longest (length other) first.1 first.2 (subst (EndsWith b) (sym first.0) there)
held_character b (suc n) none found = character_begun (λ other is there. no_end other is there) (record {
  some = λ e. omega (arith, ap length e, length-drop (length b - suc n) b, found.within);
  unfinished = found.here (omega arith);
}) (take (length b - suc n) b, sym (take-append-drop (length b - suc n) b))
  where
    no_end : EndsWithNone BeginsEnd b
    no_end other is there =
        let first = first_bytes other is in
        none.longest (length other) first.1 first.2 (subst (EndsWith b) (sym first.0) there)

-- nothing ends a text that properly begins a character, if none of its last one, two and three bytes do
pub no_character : (b : List ℕ) (end : ℕ) → end ≡ min 4 (length b + 1)
    → ((k : ℕ) → 1 ≤ k → k < end → ¬ IsUnfinishedCharacter (drop (length b - k) b)) → EndsWithNone BeginsCharacter b
no_character b end is none text begins there =
    let h = begins.unfinished in
    let short : length text < 4 =
    omega (arith, length-append text h.tail, ap length h.spells, length-encode h.char, len_utf8_bounds h.char, length-some h.tail h.longer) in
    let inside : length text ≤ length b = omega (arith, ap length there.1, length-append there.0 text) in
    none (length text) (length-some text begins.some) (omega arith) (subst IsUnfinishedCharacter (sym (ends_at b text there)) h)

-- the decided bytes and those that are held back are the text
pub parts : (u : List ℕ) (place : ℕ) → 6 ≤ place → take (place - 6) (drop 6 u) ++ drop place u ≡ drop 6 u
parts u place low =
    ap (λ t. take (place - 6) (drop 6 u) ++ t)
    (sym (drop-drop (place - 6) 6 u ∙ (let e : 6 + (place - 6) ≡ place = omega arith in ap (λ k. drop k u) e)))
    ∙ take-append-drop (place - 6) (drop 6 u)

-- so far the bytes of an open paste are decided
pub decided : (u : List ℕ) (n place : ℕ) → IsOpenPaste u → n ≤ length (drop 6 u) → place ≡ length u - n
    → IsHeld (drop 6 u) (drop (length (drop 6 u) - n) (drop 6 u)) → IsDecidedTo u place
decided u n place paste few is held =
    let long : length u ≡ 6 + length paste.body = ap length paste.splits ∙ length-append START paste.body in
    let left : length (drop 6 u) ≡ length u - 6 = length-drop 6 u in
    let low : 6 ≤ place = omega arith in
    let body : drop 6 u ≡ paste.body = ap (drop 6) paste.splits in
    let whole = parts u place low in
    let at : drop (length (drop 6 u) - n) (drop 6 u) ≡ drop place u =
    drop-drop (length (drop 6 u) - n) 6 u
    ∙ (let e : 6 + (length (drop 6 u) - n) ≡ place = omega arith in ap (λ k. drop k u) e) in
    record {
      after_start = low;
      within = omega arith;
      parted = record {
        splits = paste.splits ∙ ap (λ t. START ++ t) (sym body ∙ sym whole);
        endless = subst (λ t. ¬ Occurs END t) (sym body ∙ sym whole) paste.endless;
        is_held = subst (λ t. IsHeld t (drop place u)) (sym whole) (subst (IsHeld (drop 6 u)) at held);
      };
    }

-- what can be taken
pub has_part : (u : List ℕ) (limit place : ℕ) → IsDecidedTo u place → (place ≡ 6 → ⊥) → limit < length u - 6 → HasPart u limit
has_part u limit place is some many = (
  utf8_lossy (take (place - 6) (drop 6 u)),
  START ++ drop place u,
  record {
    decided = take (place - 6) (drop 6 u);
    held = drop place u;
    parted = is.parted;
    many = omega (arith, ap length (parts u place is.after_start), length-drop 6 u);
    some = λ none. omega (
      arith,
      ap length none,
      length-take-le (place - 6) (drop 6 u) (omega (arith, length-drop 6 u, is.within)),
      is.after_start,
    );
    its_text = refl;
    leaves = refl;
  },
)

-- where nothing can be taken
pub no_part : (u : List ℕ) (limit place : ℕ) → IsDecidedTo u place → (place ≡ 6) ⊎ (length u - 6 ≤ limit) → ¬ HasPart u limit
no_part u limit place is (inl at) (text, left, part) =
    let body : drop 6 u ≡ part.decided ++ part.held = ap (drop 6) part.parted.splits in
    let here : drop place u ≡ drop 6 u = ap (λ k. drop k u) at in
    let first : IsHeld (drop 6 u) (drop 6 u) =
    subst (IsHeld (drop 6 u)) here (subst (λ t. IsHeld t (drop place u)) (parts u place is.after_start) is.parted.is_held) in
    let second : IsHeld (drop 6 u) part.held = subst (λ t. IsHeld t part.held) (sym body) part.parted.is_held in
    let same : part.held ≡ drop 6 u = (held_once (drop 6 u) (drop 6 u) part.held first second).0 in
    omega (arith, ap length same, ap length body, length-append part.decided part.held, length-some part.decided part.some)
no_part u limit place is (inr few) (text, left, part) =
    omega (arith, part.many, ap length part.parted.splits, length-append START (part.decided ++ part.held))

-- what is left is short
pub left_bounded : (u left : List ℕ) (place : ℕ) → IsDecidedTo u place → left ≡ START ++ drop place u → length left ≤ 11
left_bounded u left place is e = omega (
  arith,
  ap length e,
  length-append START (drop place u),
  held_short (take (place - 6) (drop 6 u) ++ drop place u) (drop place u) is.parted.is_held,
)

-- and so is an open paste of which nothing can be taken
pub rest_bounded : (u : List ℕ) (limit place : ℕ) → IsDecidedTo u place → (place ≡ 6) ⊎ (length u - 6 ≤ limit) → length u ≤ 6 + max limit 5
rest_bounded u limit place is (inl at) =
    let here : length (drop place u) ≡ length (drop 6 u) = ap (λ k. length (drop k u)) at in
    omega (
      arith,
      held_short (take (place - 6) (drop 6 u) ++ drop place u) (drop place u) is.parted.is_held,
      length-drop 6 u,
      ap length is.parted.splits,
      length-append START (take (place - 6) (drop 6 u) ++ drop place u),
    )
rest_bounded u limit place is (inr few) = omega arith
