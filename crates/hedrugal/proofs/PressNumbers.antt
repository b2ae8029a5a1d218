-- Presses and chords by their numbers.
use Rattle.std.proofs.Common.{◌≡◌, ◌∙◌, ℕ, zero, suc, ◌+◌, ◌<◌, ◌≤◌, min, List, [], ◌∷◌, ◌++◌, length, take, drop, get_or, map, Option, Some, None, Bool, true, refl, sym, ap, ap₂, subst, arith}
use Rattle.std.specs.List.{slice_get, slice_set}
use Rattle.std.specs.Prelude.{if◌then◌else◌}
use Rattle.std.proofs.lemmas.List.{get_or-map, length-map, length-take, map-append, take_all, take_more}
use Rattle.termwiz_extended_events.specs.declared.types.KeyEventKind.TheVariants.{Press}
use Rattle.termwiz_extended_events.specs.declared.types.ReportedKey.{ReportedKey}
use Rattle.termwiz_extended_events.specs.KeyReports.{report_of}
use Rattle.termwiz_bindings.specs.declared.press.KeyPress.{KeyPress}
use Rattle.termwiz_bindings.specs.Bindings.{find}
use Rattle.termwiz_bindings.specs.Matchers.{IsTaken}
use Rattle.termwiz_bindings.specs.Numbers.{StandForReported}
use Rattle.termwiz_bindings.specs.Presses.{canonical}
use Rattle.termwiz_bindings.proofs.lemmas.KeyNumbers.{stands_for_itself}
use Rattle.hedrugal.specs.declared.chord_bindings.ChordBindings.{ChordBindings}
use Rattle.hedrugal.specs.declared.matcher_calls.CMatcher.{CMatcher}
use Rattle.hedrugal.specs.declared.press_calls.CKeyPress.{CKeyPress}
use Rattle.hedrugal.specs.Chords.{AreOfChord, AreOfPress, AreOfPresses, with_presses}
use Rattle.hedrugal.specs.MatcherCalls.{AreOfEither, AreOfNeither, Holds, PressedEither}
use Rattle.hedrugal.specs.PressCalls.{c_press}

-- the numbers of a press stand for its key
pub key_stands : (numbers : CKeyPress) (p : KeyPress) → AreOfPress numbers p → StandForReported numbers.key numbers.detail p.key
key_stands numbers p is =
    subst (λ (n : CKeyPress). StandForReported n.key n.detail p.key) (sym is.1) (stands_for_itself p.key is.0.in_range)

-- so the press is found by its key and its modifiers
pub press_found : (numbers : CKeyPress) (p : KeyPress) (key : ReportedKey) (told : Option KeyPress) → AreOfPress numbers p
    → ((k : ReportedKey) → StandForReported numbers.key numbers.detail k → ◌≡◌ {A = Option ReportedKey} (Some key) (Some k))
    → told ≡ canonical (report_of key (record { modifiers = numbers.held; kind = Press })) → told ≡ Some p
press_found numbers p key told is only e =
    let only_key = only p.key (key_stands numbers p is) in
    let k : key ≡ p.key = cc (only_key) in
    let h : numbers.held ≡ p.held = ap (λ (n : CKeyPress). n.held) is.1 in
    e ∙ ap₂ (λ k h. canonical (report_of k (record { modifiers = h; kind = Press }))) k h ∙ is.0.own

-- one more press is written
pub one_more_written : (ps : List KeyPress) (keys : List CKeyPress) (i : ℕ) (p : KeyPress) → i < length keys → slice_get ps i ≡ Some p
    → slice_set (map c_press (take i ps) ++ drop i keys) i (c_press p) ≡ map c_press (take (suc i) ps) ++ drop (suc i) keys
one_more_written [] keys i p inside is = absurd (cc (is))
one_more_written (q ∷ ps) [] i p inside is = let no : ⊥ = omega arith in absurd no
one_more_written (q ∷ ps) (k ∷ keys) zero p inside is = let same : q ≡ p = cc (is) in ap (λ (n : KeyPress). c_press n ∷ keys) (sym same)
one_more_written (q ∷ ps) (k ∷ keys) (suc i) p inside is =
    ap (λ (more : List CKeyPress). c_press q ∷ more) (one_more_written ps keys i p (omega arith) is)

-- there is a press at each place of a chord
pub press_inside : (ps : List KeyPress) (i : ℕ) → i < length ps → slice_get ps i ≡ None → ⊥
press_inside [] i inside none = let no : ⊥ = omega arith in no
press_inside (p ∷ ps) zero inside none = absurd (cc (none))
press_inside (p ∷ ps) (suc i) inside none = press_inside ps i (omega arith) none

-- all are written that there is room for
pub all_written : (ps : List KeyPress) (keys : List CKeyPress) (i : ℕ) → i ≤ length ps → i ≤ length keys
    → min (length keys) (length ps) ≤ i → map c_press (take i ps) ++ drop i keys ≡ with_presses ps keys
all_written [] keys zero few room all = sym (ap₂ (λ (xs ys : List CKeyPress). xs ++ ys) (take_all (length keys) [] (omega arith)) refl)
all_written [] keys (suc i) few room all = let no : ⊥ = omega arith in absurd no
all_written (p ∷ ps) [] zero few room all = refl
all_written (p ∷ ps) [] (suc i) few room all = let no : ⊥ = omega arith in absurd no
all_written (p ∷ ps) (k ∷ keys) zero few room all = let no : ⊥ = omega arith in absurd no
all_written (p ∷ ps) (k ∷ keys) (suc i) few room all =
    ap (λ (more : List CKeyPress). c_press p ∷ more) (all_written ps keys i (omega arith) (omega arith) (omega arith))

-- one more press of a chord has its numbers
pub one_more_read : (keys : List CKeyPress) (ps : List KeyPress) (i : ℕ) (d : CKeyPress) (p : KeyPress) → i < length keys
    → get_or keys i d ≡ c_press p → take i keys ≡ map c_press ps → take (i + 1) keys ≡ map c_press (ps ++ p ∷ [])
one_more_read keys ps i d p inside own before =
    take_more keys i d inside ∙ ap₂ (λ (xs : List CKeyPress) (x : CKeyPress). xs ++ x ∷ []) before own
    ∙ sym (map-append c_press ps (p ∷ []))

-- so many presses were read
pub count_read : (keys : List CKeyPress) (ps : List KeyPress) (i : ℕ) → i ≤ length keys → take i keys ≡ map c_press ps → length ps ≡ i
count_read keys ps i inside is =
    let read : length (take i keys) ≡ length (map c_press ps) = ap length is in
    let taken = length-take i keys in
    let mapped = length-map ps c_press in
    omega (arith, read, taken, mapped)

-- numbers of no press are in those of no presses
pub no_presses_with : (keys : List CKeyPress) (i : ℕ) (d : CKeyPress) → i < length keys
    → ((p : KeyPress) → AreOfPress (get_or keys i d) p → ⊥) → (ps : List KeyPress) → AreOfPresses keys ps → ⊥
no_presses_with [] i d inside none [] (chord, same) = let no : ⊥ = omega arith in absurd no
no_presses_with (k ∷ keys) i d inside none [] (chord, same) = absurd (cc (same))
no_presses_with keys i d inside none (p ∷ ps) (chord, same) =
    let count : length keys ≡ length (p ∷ ps) = ap length same ∙ length-map (p ∷ ps) c_press in
    let lt : i < length (p ∷ ps) = omega (arith, count) in
    let at : get_or (map c_press (p ∷ ps)) i d ≡ c_press (get_or (p ∷ ps) i p) = get_or-map c_press (p ∷ ps) i p d lt in
    none (get_or (p ∷ ps) i p) (chord.presses i p lt, ap (λ (ks : List CKeyPress). get_or ks i d) same ∙ at)

-- a chord of at most two presses is its first press, and its second one, if there is one
pub either_is : (keys : List CKeyPress) (ps : List KeyPress) (first : KeyPress) (second : Option KeyPress) → length keys ≤ 2
    → AreOfChord keys ps → slice_get ps 0 ≡ Some first → second ≡ slice_get ps 1 → AreOfEither keys first second
either_is keys [] first second few (chord, some, same) e0 e1 = absurd (some refl)
either_is keys (p ∷ []) first None few is e0 e1 =
    let one : p ≡ first = cc (e0) in subst (λ (x : KeyPress). AreOfChord keys (x ∷ [])) one is
either_is keys (p ∷ []) first (Some q) few is e0 e1 = absurd (cc (e1))
either_is keys (p ∷ q ∷ []) first None few is e0 e1 = absurd (cc (e1))
either_is keys (p ∷ q ∷ []) first (Some r) few is e0 e1 =
    let one : p ≡ first = cc (e0) in
    let two : q ≡ r = cc (e1) in
    subst (λ (x : KeyPress). AreOfChord keys (x ∷ r ∷ [])) one (subst (λ (y : KeyPress). AreOfChord keys (p ∷ y ∷ [])) two is)
either_is keys (p ∷ q ∷ r ∷ ps) first second few (chord, some, same) e0 e1 =
    let count : length keys ≡ length (p ∷ q ∷ r ∷ ps) = ap length same ∙ length-map (p ∷ q ∷ r ∷ ps) c_press in
    let no : ⊥ = omega (arith, count, few) in absurd no

-- more numbers aren't those of either
pub too_many : (keys : List CKeyPress) → 2 < length keys → AreOfNeither keys
too_many keys many first None (chord, some, same) =
    let count : length keys ≡ length (first ∷ []) = ap length same ∙ length-map (first ∷ []) c_press in
    let no : ⊥ = omega (arith, count, many) in absurd no
too_many keys many first (Some q) (chord, some, same) =
    let count : length keys ≡ length (first ∷ q ∷ []) = ap length same ∙ length-map (first ∷ q ∷ []) c_press in
    let no : ⊥ = omega (arith, count, many) in absurd no

-- a chord has a first press
pub has_first : (keys : List CKeyPress) (ps : List KeyPress) (found : Option KeyPress) → AreOfChord keys ps → found ≡ slice_get ps 0
    → found ≡ None → AreOfNeither keys
has_first keys [] found (chord, some, same) is none = absurd (some refl)
has_first keys (p ∷ ps) found of_chord is none = absurd (cc (is, none))

-- the same by what was found at the two places
pub either_found : (keys : List CKeyPress) (ps : List KeyPress) (found second : Option KeyPress) (first : KeyPress) → length keys ≤ 2
    → AreOfChord keys ps → found ≡ slice_get ps 0 → found ≡ Some first → second ≡ slice_get ps 1 → AreOfEither keys first second
either_found keys ps found second first few is e some f = either_is keys ps first second few is (sym e ∙ some) f

-- a press was put behind the others
pub pressed_either : (o : Option ChordBindings) (held : ChordBindings) (before after : CMatcher) (keys : List CKeyPress)
    (ps new : List KeyPress) (first : KeyPress) (second : Option KeyPress) (pressed : Bool) → o ≡ Some held → Holds before ps
    → AreOfEither keys first second
    → ((press : KeyPress) × IsTaken (find held.chords) ps first second press
    × (new ≡ (if pressed then ps ++ press ∷ [] else ps)))
    → pressed ≡ true → Holds after new → PressedEither o before keys after
pressed_either o held before after keys ps new first second pressed some holds either (press, taken, e) is after_holds =
    let now : new ≡ ps ++ press ∷ [] = rw is at e in
    rw some (ps, first, second, press, holds, either, taken, subst (λ (qs : List KeyPress). Holds after qs) now after_holds)
