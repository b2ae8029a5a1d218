-- Enter in newline mode: a carriage return and a line feed are Enter and ctrl+j.
use Rattle.std.proofs.Common.{◌≡◌, ◌≢◌, arith, ◌∙◌, ℕ, Bool, true, false, not, List, [], ◌∷◌, ◌++◌, map, Some, refl, sym, ap, subst, Contains, append_assoc, ◌||◌}
use Rattle.std.specs.List.{list_all}
use Rattle.std.proofs.lemmas.Bool.{and_parts, not-true}
use Rattle.std.proofs.lemmas.List.Sums.{AllPass-from_list_all}
use Rattle.std.proofs.lemmas.List.Elements.{All-contains}
use Rattle.termwiz_keys.specs.declared.types.KeyCode.{KeyCode}
use Rattle.termwiz_keys.specs.declared.types.KeyCode.TheVariants.{Char, Enter}
use Rattle.termwiz_keys.specs.declared.types.InputEvent.TheVariants as input
use Rattle.termwiz_keys.specs.declared.encode.KeyCodeEncodeModes.{KeyCodeEncodeModes}
use Rattle.termwiz_keys.specs.Encoding.{enc, sideless, escape_if_alt, key_text, normal_key, normal_held, shows_shift, named_key, enter_text}
use Rattle.termwiz_keys.specs.Keys.{NONE, SHIFT, ALT, CTRL, key_with}
use Rattle.termwiz_keys.specs.KeyCodes.{holds, shifted}
use Rattle.termwiz_grammar.specs.Table.{written_out}
use Rattle.termwiz_grammar.proofs.lemmas.lists.ListMembers.{same_on}
use Rattle.termwiz_grammar.proofs.lemmas.read_back.RuleReader.{reading, reading_means, rows_for, rows_for_are}
use Rattle.termwiz_laws.specs.FurtherKeys.ReadsBackToo.{enter}
use Rattle.termwiz_laws.proofs.lemmas.further_keys.FurtherReadings.{bits, further_keys_read_back}
use Rattle.termwiz_laws.proofs.lemmas.further_keys.SingleKey.{among, among_contains}
use Rattle.termwiz_extended_events.specs.declared.types.Event.TheVariants.{Key}
use Rattle.termwiz_extended_grammar.specs.ExtendedGrammar.{Means}
use Rattle.termwiz_extended_grammar.proofs.lemmas.cuts.ExtendedCuts.{cut_independent}
use Rattle.termwiz_kitty.proofs.lemmas.PortKeys.{xterm_modes, held_that_wait}
use Rattle.termwiz_kitty.proofs.lemmas.legacy.LegacyKeys.{is_read}
use Rattle.termwiz_binding_laws.specs.Twins.{only_alt}
use Rattle.termwiz_binding_laws.specs.EncodedPresses.{HasFirstSettings, any_of_four}
use Rattle.termwiz_binding_laws.proofs.lemmas.KeysRead.{NewlinesAreTwoKeys}
use Rattle.termwiz_binding_laws.proofs.lemmas.EveryReading.{told_at_first}
use Rattle.termwiz_binding_laws.proofs.lemmas.RowReports.{Shape, shape}
use Rattle.termwiz_kitty.proofs.lemmas.legacy.ReadAsOne.{IsReportText, IsRead, ReadAs, read_as}
use Rattle.termwiz_kitty.proofs.lemmas.legacy.ReadAsOne.ReadAs.{as_key, as_report, apart}
use Rattle.termwiz_extended_events.specs.declared.types.Reading.{Reading}
use Rattle.termwiz_extended_events.specs.declared.types.Dialect.{Dialect}
use Rattle.termwiz_extended_events.specs.declared.types.Dialect.TheVariants.{Extended, Termwiz}
use Rattle.termwiz_extended_events.specs.PortEvents.{pressed_key, typed_key, told}
use Rattle.termwiz_keys.specs.declared.types.KeyEvent.{KeyEvent}
use Rattle.termwiz_keys.specs.Introducers.{ESC}
use Rattle.std.specs.Prelude.{if◌then◌else◌}

-- the sets with ALT and without it
abbrev alt_or_none : List ℕ
alt_or_none = NONE ∷ ALT ∷ []

-- what is sent outside of newline mode, and in it
sent_alone : (held : ℕ) → sideless held ≡ held → (holds held SHIFT || holds held CTRL) ≡ false
    → enc Enter (bits held) xterm_modes ≡ Some (escape_if_alt held ++ 13 ∷ [])
unfolding enc key_text normal_key normal_held shows_shift named_key shifted enter_text
sent_alone held sides plain = rw (sides, plain) refl

sent_as_two : (held : ℕ) (modes : KeyCodeEncodeModes) → sideless held ≡ held → (holds held SHIFT || holds held CTRL) ≡ false
    → modes.newline_mode ≡ true → enc Enter (bits held) modes ≡ Some (escape_if_alt held ++ 13 ∷ 10 ∷ [])
unfolding enc key_text normal_key normal_held shows_shift named_key shifted enter_text
sent_as_two held modes sides plain newline = rw (sides, plain, newline) refl

-- Enter never waits
abbrev is_enter : KeyCode → Bool
is_enter Enter = true
is_enter key = false

none_waits : list_all (λ (p : KeyCode × ℕ). not (is_enter p.0)) held_that_wait ≡ true
none_waits = refl

enter_waits : (held : ℕ) → Contains held_that_wait (Enter, held) → ⊥
enter_waits held here =
    let test : not (is_enter Enter) ≡ true =
    All-contains (λ (p : KeyCode × ℕ). not (is_enter p.0) ≡ true) held_that_wait (Enter, held)
    (AllPass-from_list_all (λ (p : KeyCode × ℕ). not (is_enter p.0)) held_that_wait none_waits) here in
    cc (test)

-- one byte that isn't ESC, alone or after ESC, is no report
no_report : (r : Reading) (held b : ℕ) → b ≢ 27 → IsReportText r (escape_if_alt held ++ b ∷ []) → ⊥
no_report r held b other is = go (holds held ALT) (shape r (escape_if_alt held ++ b ∷ []) is).split (shape r (escape_if_alt held ++ b ∷ []) is).some
  where
    go : {second : ℕ} {rest : List ℕ} (alt : Bool) → (if alt then ESC else []) ++ b ∷ [] ≡ 27 ∷ second ∷ rest → rest ≢ [] → ⊥
    go true e some = some (cc (e))
    go false e some = cc (e)

none_behind : (r : Reading) (held b : ℕ) (v : List ℕ) → b ≢ 27 → escape_if_alt held ++ b ∷ [] ≡ ESC ++ v → IsReportText r v → ⊥
none_behind r held b v other e is = go (holds held ALT) e
  where
    s : Shape v
    s = shape r v is

    go : (alt : Bool) → (if alt then ESC else []) ++ b ∷ [] ≡ ESC ++ v → ⊥
    go true e = cc (e, s.split)
    go false e = other (cc (e))

-- so it is told as the port's key
key_told : (r : Reading) (held b : ℕ) (k : KeyEvent) (more : Bool) → b ≢ 27 → IsRead r (escape_if_alt held ++ b ∷ []) k more
    → Means r (escape_if_alt held ++ b ∷ []) more (told r (escape_if_alt held ++ b ∷ []) (input.Key k) ∷ []) []
key_told r held b k more other is = go (read_as r (escape_if_alt held ++ b ∷ []) k more is)
  where
    go : ReadAs r (escape_if_alt held ++ b ∷ []) k more
        → Means r (escape_if_alt held ++ b ∷ []) more (told r (escape_if_alt held ++ b ∷ []) (input.Key k) ∷ []) []
    go (as_key it) = it
    go (as_report report it) = absurd (no_report r held b other report)
    go (apart v split report) = absurd (none_behind r held b v other split report)

-- no reading decides a carriage return
return_typed : (r : Reading) (held : ℕ) → typed_key r.dialect r (escape_if_alt held ++ 13 ∷ []) Enter ≡ Enter
return_typed r held = go r.dialect (holds held ALT)
  where
    go : (dialect : Dialect) (alt : Bool) → typed_key dialect r ((if alt then ESC else []) ++ 13 ∷ []) Enter ≡ Enter
    go Extended true = refl
    go Extended false = refl
    go Termwiz alt = refl

-- with more to come the first byte, and the ESC before it, are Enter
first_enter : (r : Reading) (held : ℕ) → Contains alt_or_none held → sideless held ≡ held → (holds held SHIFT || holds held CTRL) ≡ false
    → Means r (escape_if_alt held ++ 13 ∷ []) true (Key (pressed_key (key_with Enter held)) ∷ []) []
first_enter r held here sides plain =
    subst (λ k. Means r (escape_if_alt held ++ 13 ∷ []) true (Key (pressed_key (key_with k held)) ∷ []) []) (return_typed r held)
    (key_told r held 13 (key_with Enter held) true (λ e. omega (arith, e))
    (is_read r Enter held (escape_if_alt held ++ 13 ∷ []) true
    (further_keys_read_back Enter (bits held) xterm_modes (enter held xterm_modes refl here)) (sent_alone held sides plain)
    (λ e waits. enter_waits held waits)))

line_feed : reading (rows_for Enter) (10 ∷ []) ≡ Some (key_with Enter NONE)
unfolding written_out
line_feed = refl

-- and the second one is U+000A
second_key : (r : Reading) → HasFirstSettings r → Means r (10 ∷ []) false (Key (pressed_key (key_with (Char 10) NONE)) ∷ []) []
second_key r first =
    let means = reading_means (rows_for Enter) (10 ∷ []) (key_with Enter NONE) (rows_for_are Enter) line_feed in
    subst (λ e. Means r (10 ∷ []) false (e ∷ []) []) (told_at_first r first (10 ∷ []) (key_with Enter NONE))
    (key_told r NONE 10 (key_with Enter NONE) false (λ e. omega (arith, e)) (record {
      flushed = means;
      means = means;
      closed = λ h. cc (h.more_comes);
      closed_after = λ v split h. cc (h.more_comes);
    }))

both : (r : Reading) (held : ℕ) → HasFirstSettings r → Contains alt_or_none held → sideless held ≡ held
    → (holds held SHIFT || holds held CTRL) ≡ false
    → Means r (escape_if_alt held ++ 13 ∷ 10 ∷ []) false
    (Key (pressed_key (key_with Enter held)) ∷ Key (pressed_key (key_with (Char 10) NONE)) ∷ []) []
both r held first here sides plain =
    subst (λ t. Means r t false (Key (pressed_key (key_with Enter held)) ∷ Key (pressed_key (key_with (Char 10) NONE)) ∷ []) [])
    (append_assoc (escape_if_alt held) (13 ∷ []) (10 ∷ []))
    (cut_independent r (escape_if_alt held ++ 13 ∷ []) (10 ∷ []) [] [] (Key (pressed_key (key_with Enter held)) ∷ [])
    (Key (pressed_key (key_with (Char 10) NONE)) ∷ []) false (first_enter r held here sides plain) (second_key r first))

-- facts of the sets, computed
no_sides : map sideless any_of_four ≡ map (λ held. held) any_of_four
no_sides = refl

same_escape : map (λ held. escape_if_alt (only_alt held)) any_of_four ≡ map escape_if_alt any_of_four
same_escape = refl

alt_alone : map (λ held. among alt_or_none (only_alt held)) any_of_four ≡ map (λ held. true) any_of_four
alt_alone = refl

alt_plain : map (λ held. holds (only_alt held) SHIFT || holds (only_alt held) CTRL) any_of_four ≡ map (λ held. false) any_of_four
alt_plain = refl

alt_sides : map (λ held. sideless (only_alt held)) any_of_four ≡ map only_alt any_of_four
alt_sides = refl

pub newlines_are_two_keys : NewlinesAreTwoKeys
newlines_are_two_keys r held modes text first here newline sends =
    subst (λ t. Means r t false
    (Key (pressed_key (key_with Enter (only_alt held))) ∷ Key (pressed_key (key_with (Char 10) NONE)) ∷ []) []) same
    (both r (only_alt held) first
    (among_contains alt_or_none (only_alt held)
    (same_on (λ h. among alt_or_none (only_alt h)) (λ h. true) any_of_four held alt_alone here))
    (same_on (λ h. sideless (only_alt h)) only_alt any_of_four held alt_sides here)
    (same_on (λ h. holds (only_alt h) SHIFT || holds (only_alt h) CTRL) (λ h. false) any_of_four held alt_plain here))
  where
    parts : (modes.newline_mode ≡ true) × (not (holds held SHIFT || holds held CTRL) ≡ true)
    parts = and_parts modes.newline_mode (not (holds held SHIFT || holds held CTRL)) newline

    sent : enc Enter (bits held) modes ≡ Some (escape_if_alt held ++ 13 ∷ 10 ∷ [])
    sent = sent_as_two held modes (same_on sideless (λ h. h) any_of_four held no_sides here)
        (not-true (holds held SHIFT || holds held CTRL) parts.1) parts.0

    same : escape_if_alt (only_alt held) ++ 13 ∷ 10 ∷ [] ≡ text
    same =
        let e : Some (escape_if_alt held ++ 13 ∷ 10 ∷ []) ≡ Some text = sym sent ∙ sends in
        let s : escape_if_alt held ++ 13 ∷ 10 ∷ [] ≡ text = cc (e) in
        ap (λ t. t ++ 13 ∷ 10 ∷ []) (same_on (λ h. escape_if_alt (only_alt h)) escape_if_alt any_of_four held same_escape here) ∙ s
