-- The codes of presses: those that a matcher of C has, and those of numbers.
use Rattle.std.proofs.Common.{◌≡◌, ◌∙◌, ℕ, ◌+◌, ◌-◌, ◌*◌, ◌/◌, ◌%◌, ◌<◌, ◌≤◌, Bool, List, [], ◌∷◌, ◌++◌, length, take, drop, Option, Some, None, sym, ap, ap₂, arith, length-drop}
use Rattle.std.specs.List.{copy_within}
use Rattle.std.proofs.lemmas.List.{drop-take, take_at}
use Rattle.std.proofs.lemmas.List.Edits.{take-paste}
use denote.Ref.{Bor}
use Rattle.termwiz_bindings.specs.declared.chord.TheConstants.{MAX_KEYS}
use Rattle.termwiz_bindings.specs.declared.matcher.Outcome.{Outcome}
use Rattle.termwiz_bindings.specs.declared.press.KeyPress.{KeyPress}
use Rattle.termwiz_bindings.specs.Bindings.{find}
use Rattle.termwiz_bindings.specs.Chords.{IsChord}
use Rattle.termwiz_bindings.specs.Codes.{IsCode, IsPress, code, code_len, codes, presses_with}
use Rattle.termwiz_bindings.specs.Matchers.{IsFirst, keys_of, outcome_copied}
use Rattle.termwiz_bindings.specs.Numbers.{reported_detail, reported_number}
use Rattle.termwiz_bindings.proofs.lemmas.ChordBytes.{codes_push, one_more, rest_chord}
use Rattle.termwiz_bindings.proofs.lemmas.CodedPresses.{IsReadFrom, codes_drop, codes_length, press_detail_below, presses_of, read_chord, read_codes, read_from}
use Rattle.termwiz_bindings.proofs.lemmas.KeyNumbers.{number_below}
use Rattle.hedrugal.specs.declared.chord_bindings.ChordBindings.{ChordBindings}
use Rattle.hedrugal.specs.declared.matcher_calls.CMatcher.{CMatcher}
use Rattle.hedrugal.specs.declared.matcher_calls.COutcome.{COutcome}
use Rattle.hedrugal.specs.declared.press_calls.CKeyPress.{CKeyPress}
use Rattle.hedrugal.specs.Chords.{AreOfPress, IsCodeOf, with_presses}
use Rattle.hedrugal.specs.MatcherCalls.{AreHeld, Holds, IsFull, Pressed, TakesFirst, Waits, WrotePending, c_outcome, front}
use Rattle.hedrugal.specs.PressCalls.{c_press}

-- so many presses are pending
counted : (m : CMatcher) (bytes : List ℕ) (ps : List KeyPress) → AreHeld m bytes → bytes ≡ codes ps → length ps ≡ m.count
counted m bytes ps held same =
    let wide : length bytes ≡ length ps * code_len = ap length same ∙ codes_length ps in
    omega (arith, wide, held.width)

-- those with the codes that it has
holds_those : (m : CMatcher) (bytes : List ℕ) (held : AreHeld m bytes) → Holds m held.chord.0
holds_those m bytes held = (held.few, held.chord.1, sym held.those ∙ held.chord.2)

-- they are known by their codes
same_held : (m : CMatcher) (ps qs : List KeyPress) → Holds m ps → Holds m qs → ps ≡ qs
same_held m ps qs (few, is, same) (others_few, other, others_same) =
    sym (presses_of ps is.presses) ∙ ap presses_with (sym same ∙ others_same) ∙ presses_of qs other.presses

-- so those that were written are the ones that are pending
pub wrote_pending : (m : CMatcher) (ps : List KeyPress) (before after : List CKeyPress) (count : ℕ) → Holds m ps → count ≡ length ps
    → after ≡ with_presses ps before → WrotePending m before after count
wrote_pending m ps before after count held len same = λ qs other.
    let e : ps ≡ qs = same_held m ps qs held other in
    (len ∙ ap length e, same ∙ ap (λ (us : List KeyPress). with_presses us before) e)

-- as many as there may be
pub is_full : (m : CMatcher) (bytes : List ℕ) → AreHeld m bytes → m.count ≡ MAX_KEYS → IsFull m
is_full m bytes held most =
    let count : length held.chord.0 ≡ m.count = counted m bytes held.chord.0 held held.chord.2 in
    (held.chord.0, holds_those m bytes held, omega (arith, count, most))

-- one more
pub pushed : (before after : CMatcher) (bytes new : List ℕ) (press : CKeyPress) → AreHeld before bytes → IsCodeOf press new
    → before.count < MAX_KEYS → after.count ≡ before.count + 1 → front after ≡ front before ++ new → Pressed before press after
pushed before after bytes new press held its room count behind =
    let ps : List KeyPress = held.chord.0 in
    let len : length ps ≡ before.count = counted before bytes ps held held.chord.2 in
    let few : after.count ≤ MAX_KEYS = omega (arith, room, count) in
    let less : length ps < MAX_KEYS = omega (arith, room, len) in
    let both : front before ++ new ≡ codes ps ++ code its.press =
    ap₂ (λ (xs ys : List ℕ). xs ++ ys) (sym held.those ∙ held.chord.2) its.same in (
      ps,
      its.press,
      holds_those before bytes held,
      its.is,
      (few, one_more ps its.press held.chord.1 its.is.0 less, behind ∙ both ∙ sym (codes_push ps its.press)),
    )

-- the presses that are read from the codes
holds_read : (m : CMatcher) (bytes : List ℕ) → AreHeld m bytes → Holds m (presses_with bytes)
holds_read m bytes held = (held.few, read_chord bytes held.chord, sym held.those ∙ read_codes bytes held.chord)

counted_read : (m : CMatcher) (bytes : List ℕ) → AreHeld m bytes → length (presses_with bytes) ≡ m.count
counted_read m bytes held = counted m bytes (presses_with bytes) held (read_codes bytes held.chord)

-- they wait
pub waits_read : (o : Option ChordBindings) (held : ChordBindings) (more : Bool) (m : CMatcher) (bytes : List ℕ) → o ≡ Some held
    → AreHeld m bytes → (found : Option (Outcome (Bor ℕ))) → found ≡ None → IsFirst (find held.chords) more (presses_with bytes) found
    → Waits o more m
waits_read o held more m bytes some are found none is =
    let first : IsFirst (find held.chords) more (presses_with bytes) None = rw none at is in
    rw some (presses_with bytes, holds_read m bytes are, first.0)

-- the first ones are taken
rest_held : (before after : CMatcher) (bytes : List ℕ) (keys : ℕ) → AreHeld before bytes → keys ≤ length (presses_with bytes)
    → after.count ≡ before.count - keys → front after ≡ drop (keys * code_len) (front before)
    → Holds after (drop keys (presses_with bytes))
rest_held before after bytes keys held within count codes_are =
    let ps : List KeyPress = presses_with bytes in
    let few : after.count ≤ MAX_KEYS = omega (arith, held.few, count) in
    let own : front before ≡ codes ps = sym held.those ∙ read_codes bytes held.chord in
    (few, rest_chord ps keys (read_chord bytes held.chord), codes_are ∙ ap (drop (keys * code_len)) own ∙ codes_drop ps keys within)

pub takes_read : (o : Option ChordBindings) (held : ChordBindings) (more : Bool) (before after : CMatcher) (bytes : List ℕ)
    (out : COutcome) → o ≡ Some held → AreHeld before bytes → (found : Option (Outcome (Bor ℕ))) (first : Outcome (Bor ℕ))
    → found ≡ Some first → IsFirst (find held.chords) more (presses_with bytes) found → after.count ≡ before.count - keys_of first
    → front after ≡ drop (keys_of first * code_len) (front before) → out ≡ c_outcome (outcome_copied first)
    → TakesFirst o more before out after
takes_read o held more before after bytes out some are found first told is count codes_are shown =
    let taken : IsFirst (find held.chords) more (presses_with bytes) (Some first) = rw told at is in
    rw some (
      outcome_copied first,
      (
        presses_with bytes,
        drop (keys_of first) (presses_with bytes),
        holds_read before bytes are,
        rest_held before after bytes (keys_of first) are taken.0 count codes_are,
        taken.1,
      ),
      shown,
    )

pub within_read : (more : Bool) (held : ChordBindings) (m : CMatcher) (bytes : List ℕ) → AreHeld m bytes
    → (found : Option (Outcome (Bor ℕ))) (first : Outcome (Bor ℕ)) → found ≡ Some first
    → IsFirst (find held.chords) more (presses_with bytes) found → keys_of first ≤ m.count
within_read more held m bytes are found first told is =
    let taken : IsFirst (find held.chords) more (presses_with bytes) (Some first) = rw told at is in
    omega (arith, taken.0, counted_read m bytes are)

-- the bytes behind the first ones, moved to the front
pub moved_front : (old new : List ℕ) (keys count start end : ℕ) → start ≡ keys * code_len → end ≡ count * code_len → keys ≤ count
    → end ≤ length old → new ≡ copy_within old start end 0
    → take ((count - keys) * code_len) new ≡ drop (keys * code_len) (take (count * code_len) old)
moved_front old new keys count start end start_is end_is few fits moved =
    let n : ℕ = end - start in
    let width : (count - keys) * code_len ≡ 0 + n = omega arith in
    let all : count * code_len ≡ start + n = omega arith in
    let behind : n ≤ length (drop start old) = omega (arith, length-drop start old) in
    ap₂ (λ (k : ℕ) (xs : List ℕ). take k xs) width moved
    ∙ take-paste old 0 (drop start old) n (omega arith) behind
    ∙ sym (drop-take start n old)
    ∙ ap₂ (λ (k m : ℕ). drop k (take m old)) start_is (sym all)

-- the numbers of a press as a code has them
abbrev pub bytes_of : CKeyPress → List ℕ
bytes_of n = n.key ∷ n.detail / 0x10000 ∷ n.detail / 0x100 % 0x100 ∷ n.detail % 0x100 ∷ n.held ∷ []

-- they are in range
pub numbers_low : (n : CKeyPress) (p : KeyPress) → AreOfPress n p → (n.key < 256) × (n.detail < 0x1000000)
numbers_low n p (is, same) =
    let key : n.key ≡ reported_number p.key = ap (λ (m : CKeyPress). m.key) same in
    let detail : n.detail ≡ reported_detail p.key = ap (λ (m : CKeyPress). m.detail) same in
    (omega (arith, key, number_below p.key), omega (arith, detail, press_detail_below p is))

-- and have the code of their press
numbers_written : (n : CKeyPress) (p : KeyPress) → AreOfPress n p → bytes_of n ≡ code p
unfolding code
numbers_written n p (is, same) =
    let low : reported_detail p.key < 0x1000000 = press_detail_below p is in
    let high : reported_detail p.key / 0x10000 ≡ reported_detail p.key / 0x10000 % 256 = omega (arith, low) in
    ap bytes_of same
    ∙ ap (λ byte. reported_number p.key ∷ byte ∷ reported_detail p.key / 0x100 % 256 ∷ reported_detail p.key % 256 ∷ p.held ∷ []) high

-- the press of a code has its numbers
numbers_read : (n : CKeyPress) (p : KeyPress) → IsPress p → bytes_of n ≡ code p → n ≡ c_press p
numbers_read n p is same =
    let read : IsReadFrom (bytes_of n) p = read_from (bytes_of n) p is same in
    let number : n.key ≡ reported_number p.key = read.number in
    let joined : n.detail / 0x10000 * 0x10000 + n.detail / 0x100 % 0x100 * 0x100 + n.detail % 0x100 ≡ n.detail = omega arith in
    let detail : n.detail ≡ reported_detail p.key = sym joined ∙ read.detail in
    let held : n.held ≡ p.held = read.held in
    let one : n ≡ record { key = reported_number p.key; held = n.held; detail = n.detail } =
    ap (λ (k : ℕ). record { key = k; held = n.held; detail = n.detail }) number in
    let two : record { key = reported_number p.key; held = n.held; detail = n.detail } ≡ record { key = reported_number p.key; held = p.held; detail = n.detail } =
    ap (λ (h : ℕ). record { key = reported_number p.key; held = h; detail = n.detail }) held in
    let three : record { key = reported_number p.key; held = p.held; detail = n.detail } ≡ c_press p =
    ap (λ (d : ℕ). record { key = reported_number p.key; held = p.held; detail = d }) detail in
    one ∙ two ∙ three

-- these bytes are the code of a press exactly if they are that of the press with the numbers
pub code_found : (n : CKeyPress) → IsCode (bytes_of n) → IsCodeOf n (bytes_of n)
code_found n its = record { press = its.press; is = (its.is, numbers_read n its.press its.is its.same); same = its.same }

pub code_there : (n : CKeyPress) (p : KeyPress) → AreOfPress n p → IsCode (bytes_of n)
code_there n p is = record { press = p; is = is.0; same = numbers_written n p is }

-- the codes of a chord aren't more than there is room for
pub codes_few : (ps : List KeyPress) (bytes : List ℕ) → IsChord ps → bytes ≡ codes ps → length bytes ≤ 160
codes_few ps bytes is same =
    let wide : length bytes ≡ length ps * code_len = ap length same ∙ codes_length ps in
    omega (arith, wide, is.few)

-- presses that were written are pending
pub pending_written : (count : ℕ) (start bytes rest : List ℕ) (ps : List KeyPress) → IsChord ps → bytes ≡ codes ps → count ≡ length ps
    → start ≡ bytes → (count ≤ MAX_KEYS) × IsChord ps × (take (count * code_len) (start ++ rest) ≡ codes ps)
pending_written count start bytes rest ps is same counts written = (
  omega (arith, is.few, counts),
  is,
  ap₂ (λ (k : ℕ) (xs : List ℕ). take (k * code_len) (xs ++ rest)) counts (written ∙ same)
      ∙ take_at (codes ps) rest (length ps * code_len) (codes_length ps),
)
