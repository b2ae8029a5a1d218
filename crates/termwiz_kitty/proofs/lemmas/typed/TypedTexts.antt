-- What is typed is read back.
use Rattle.std.proofs.Common.{◌≡◌, ◌≢◌, inl, inr, ⊎_elim, ℕ, ◌-◌, ◌<◌, ◌≤◌, Bool, true, false, not, ◌&&◌, ◌||◌, List, [], ◌∷◌, ◌++◌, map, refl, sym, ap, ◌∙◌, subst, arith, Option, Some, None, zero, lit<}
use Rattle.std.specs.Prelude.{⊤, if◌then◌else◌, unwrap_or}
use Rattle.std.specs.Char.{IsScalar, is_control, is_ascii_lowercase}
use Rattle.std.specs.Str.{IsUtf8, all_scalars}
use Rattle.std.proofs.lemmas.Bool.{and_parts}
use Rattle.std.proofs.lemmas.Bool.Decides.{nat_tests}
use Rattle.termwiz_keys.specs.Encoding.{enc, key_text, normal_key, normal_held, shows_shift, named_key, enter_text, tab_text, backspace_text}
use Rattle.termwiz_keys.specs.KeyCodes.{shifted}
use Rattle.termwiz_keys.specs.Keys.{NONE, key_with}
use Rattle.termwiz_keys.specs.declared.types.KeyCode.{KeyCode}
use Rattle.termwiz_keys.specs.declared.types.KeyCode.TheVariants.{Char, Enter, Tab, Backspace}
use Rattle.termwiz_grammar.specs.Grammar as port
use Rattle.termwiz_grammar.specs.Grammar.{IsBeginning}
use Rattle.termwiz_grammar.specs.Laws.{IsHeldEscape}
use Rattle.termwiz_grammar.specs.Table.{numbers}
use Rattle.termwiz_grammar.proofs.lemmas.lists.ListMembers.{same_on}
use Rattle.termwiz_laws.specs.FurtherKeys.{ReadsBackToo}
use Rattle.termwiz_laws.specs.FurtherKeys.ReadsBackToo.{enter, alone, none_or_alt}
use Rattle.termwiz_laws.specs.KeyStreams.{Press, event_of, MayGoOn}
use Rattle.termwiz_laws.proofs.lemmas.further_keys.FurtherReadings.{further_keys_read_back}
use Rattle.termwiz_laws.proofs.lemmas.key_streams.NoFlush.{first_byte, means_at_once}
use Rattle.termwiz_laws.proofs.lemmas.shared_texts.TwinKeys.{sent_means}
use Rattle.termwiz_extended_events.specs.declared.types.KeyReport.{KeyReport}
use Rattle.termwiz_extended_events.specs.declared.types.ReportedKey.{ReportedKey}
use Rattle.termwiz_extended_events.specs.declared.types.ReportedKey.TheVariants.{Named, Functional}
use Rattle.termwiz_extended_events.specs.declared.types.Event.TheVariants.{Key}
use Rattle.termwiz_extended_events.specs.declared.types.Dialect.{Dialect}
use Rattle.termwiz_extended_events.specs.declared.types.Dialect.TheVariants.{Extended, Termwiz}
use Rattle.termwiz_extended_events.specs.declared.types.Reading.{Reading}
use Rattle.termwiz_extended_events.specs.PortEvents.{pressed_key, typed_key, decided_key, told}
use Rattle.termwiz_extended_grammar.specs.ExtendedGrammar.{Means}
use Rattle.termwiz_kitty.specs.declared.telling.Telling.TheVariants.{Nothing, Typed, Reported}
use Rattle.termwiz_kitty.specs.declared.legacy.LegacyText.{LegacyText}
use Rattle.termwiz_kitty.specs.LegacyTexts.{capital, with_shift}
use Rattle.termwiz_kitty.specs.Telling.{is_shifted, is_release, is_at_most_shifted, is_bare, is_silent_release, is_silent_modifier, is_typed_text, has_control, types_character, types, told_key, sends_control, tells_all_keys, legacy_of, or_reported, telling}
use Rattle.termwiz_kitty.specs.KittyTexts.{shown, typed_by, typed_text, kitty_text}
use Rattle.termwiz_kitty.specs.KittyLaws.{IsKey, IsScalarOrMissing, IsReport, pressed, characters_pressed, typed_by_events, typed_events, TypedReadBack}
use Rattle.termwiz_kitty.proofs.lemmas.PortKeys.{xterm_modes, at_number}
use Rattle.termwiz_kitty.proofs.lemmas.read_back.SequencesMean.{told_is_key}
use Rattle.termwiz_kitty.proofs.lemmas.typed.NoEscape.{has_no_extra}
use Rattle.termwiz_kitty.proofs.lemmas.legacy.ReadAsOne.{as_in_port}
use Rattle.termwiz_kitty.proofs.lemmas.typed.TypedCharacters.{characters_mean, character_means}

not_true : (b : Bool) → not b ≡ true → b ≡ false
not_true false e = refl
not_true true e = cc (e)

-- a character that is sent as text
pub record IsShown (c : ℕ) : Type 0 where
  pub scalar : IsScalar c
  pub no_control : is_control c ≡ false

abbrev pub IsShownOrMissing : Option ℕ → Type 0
IsShownOrMissing None = ⊤
IsShownOrMissing (Some c) = IsShown c

-- what a key types with Shift

capitals_computed : map (λ c. all_scalars ((c - 32) ∷ []) && not (is_control (c - 32))) (numbers 97 26) ≡ map (λ c. true) (numbers 97 26)
unfolding numbers
capitals_computed = refl

capital_is : (c : ℕ) → IsShownOrMissing (capital c)
capital_is c = go (is_ascii_lowercase c) refl
  where
    letter : is_ascii_lowercase c ≡ true → IsShown (c - 32)
    letter small =
        let low : 97 ≤ c = grind (arith, nat_tests) in
        let high : c < 123 = grind (arith, nat_tests) in
        let both = and_parts (all_scalars ((c - 32) ∷ [])) (not (is_control (c - 32)))
        (same_on (λ c. all_scalars ((c - 32) ∷ []) && not (is_control (c - 32))) (λ c. true) (numbers 97 26) c capitals_computed
        (at_number 97 26 c low high)) in
        record { scalar = (and_parts _ true both.0).0; no_control = not_true (is_control (c - 32)) both.1 }

    go : (b : Bool) → is_ascii_lowercase c ≡ b → IsShownOrMissing (capital c)
    go true small = rw small (letter small)
    go false other = rw other tt

pub with_shift_is : (c : ℕ) (other : Option ℕ) → IsScalarOrMissing other → IsShownOrMissing (with_shift c other)
with_shift_is c None o = capital_is c
with_shift_is c (Some d) o = go (is_control d) refl
  where
    go : (v : Bool) → is_control d ≡ v → IsShownOrMissing (with_shift c (Some d))
    go true e = rw e (capital_is c)
    go false e = rw e (record { scalar = o; no_control = e })

or_itself : (c : ℕ) (o : Option ℕ) → IsShown c → IsShownOrMissing o → IsShown (unwrap_or o c)
or_itself c None is o = is
or_itself c (Some d) is o = o

pub shown_is : (c bits : ℕ) (other : Option ℕ) → IsShown c → IsScalarOrMissing other → IsShown (shown c bits other)
shown_is c bits other is o = go (is_shifted bits)
  where
    go : (v : Bool) → IsShown (if v then unwrap_or (with_shift c other) c else c)
    go true = or_itself c (with_shift c other) is (with_shift_is c other o)
    go false = is

-- the text of a report
text_means : (reading : Reading) (text : List ℕ) (more : Bool) → IsUtf8 text → is_typed_text text ≡ true
    → Means reading text more (characters_pressed text) []
text_means reading [] more utf8 e = cc (e)
text_means reading (b ∷ bs) more utf8 e = characters_mean reading (b ∷ bs) more utf8 (not_true (has_control (b ∷ bs)) e)

-- a control character of one byte can't go on
goes_not_on : (b : ℕ) → b ≢ 27 → b < 128 → ¬ MayGoOn (b ∷ [])
goes_not_on b other low on = go on.is_held
  where
    go : IsHeldEscape on.held → ⊥
    go (inl none) =
        let whole : on.bytes ≡ b ∷ [] = sym (on.splits ∙ ap (λ h. h ++ on.bytes) none) in
        ⊎_elim (λ (e : b ≡ 27). other e) (λ (h : 128 ≤ b). omega arith)
        (first_byte b [] (subst IsBeginning whole on.beginning))
    go (inr escape) =
        let whole : b ∷ [] ≡ 27 ∷ on.bytes = on.splits ∙ ap (λ h. h ++ on.bytes) escape in other (cc (whole))

abbrev alone_held : KeyCode → Press
alone_held key = record { key = key; modifiers = record { 0 = NONE }; modes = xterm_modes }

-- the text of a key that is sent as one control character
control_means : (reading : Reading) (key : KeyCode) (b : ℕ) (more : Bool) → ReadsBackToo key NONE xterm_modes
    → enc key (record { 0 = NONE }) xterm_modes ≡ Some (b ∷ []) → b ≢ 27 → b < 128
    → Means reading (b ∷ []) more (told reading (b ∷ []) (event_of (alone_held key)) ∷ []) []
control_means reading key b more too sends other low =
    let none = has_no_extra reading (b ∷ []) more (other, tt) in
    as_in_port reading (b ∷ []) (key_with key NONE) more (means_to_port more)
    (record { none = none.none; closed = λ h. closed more (none.open_to_port h) }) (λ v split. absurd (other (cc (split))))
  where
    closed : (m : Bool) → port.IsOpen (b ∷ []) m → ⊥
    closed m h = goes_not_on b other low
        (record { held = []; bytes = b ∷ []; is_held = inl refl; some = h.some; splits = refl; beginning = h.beginning })

    flushed : port.Means (b ∷ []) false (event_of (alone_held key) ∷ []) []
    flushed = sent_means (alone_held key) (b ∷ []) (further_keys_read_back key (record { 0 = NONE }) xterm_modes too) sends

    means_to_port : (m : Bool) → port.Means (b ∷ []) m (event_of (alone_held key) ∷ []) []
    means_to_port false = flushed
    means_to_port true = means_at_once (b ∷ []) (event_of (alone_held key)) flushed (goes_not_on b other low)

without_false : (b : Bool) → (b || false) ≡ true → b ≡ true
without_false true e = refl
without_false false e = e

-- the key of a byte that no reading decides
as_itself : (reading : Reading) (key : KeyCode) (b : ℕ) → decided_key reading b ≡ None
    → told reading (b ∷ []) (event_of (alone_held key)) ≡ pressed key
as_itself reading key b none = ap (λ k. Key (pressed_key (key_with k NONE))) (go reading.dialect)
  where
    go : (dialect : Dialect) → typed_key dialect reading (b ∷ []) key ≡ key
    go Extended = rw none refl
    go Termwiz = refl

-- what a key types by itself
by_itself_means : (reading : Reading) (key : ReportedKey) (r : KeyReport) (more : Bool) → IsReport r → IsKey key
    → (types_character key || sends_control key) ≡ true → Means reading (typed_by key r) more (typed_by_events reading key (typed_by key r)) []
unfolding enc key_text normal_key normal_held shows_shift named_key shifted enter_text tab_text backspace_text
by_itself_means reading (Named (Char c)) r more is k e =
    let types : not (is_control c) ≡ true = without_false (not (is_control c)) e in
    let one = shown_is c r.modifiers r.shifted (record { scalar = k; no_control = not_true (is_control c) types }) is.shifted_is in
    character_means reading (shown c r.modifiers r.shifted) more one.scalar one.no_control
by_itself_means reading (Named Enter) r more is k e =
    subst (λ e. Means reading (13 ∷ []) more (e ∷ []) []) (as_itself reading Enter 13 refl) (control_means reading Enter 13 more (enter NONE xterm_modes refl (zero, lit< tt, refl)) refl (λ same. omega arith) (lit< tt))
by_itself_means reading (Named Tab) r more is k e =
    subst (λ e. Means reading (9 ∷ []) more (e ∷ []) []) (as_itself reading Tab 9 refl)
    (control_means reading Tab 9 more (alone Tab xterm_modes (4, lit< tt, refl)) refl (λ same. omega arith) (lit< tt))
by_itself_means reading (Named Backspace) r more is k e =
    control_means reading Backspace 127 more (none_or_alt Backspace NONE xterm_modes (1, lit< tt, refl) (zero, lit< tt, refl)) refl
    (λ same. omega arith) (lit< tt)
by_itself_means reading (Named key) r more is k e = absurd (cc (e))
by_itself_means reading (Functional n) r more is k e = absurd (cc (e))

pub by_itself : (at_most text character control bare : Bool) → text ≡ false
    → ((at_most && (text || character)) || (control && bare)) ≡ true → (character || control) ≡ true
by_itself a t true s b e h = refl
by_itself a t false true b e h = refl
by_itself true false false false b e h = h
by_itself false t false false b e h = h
by_itself true true false false b e h = cc (e)

typed_means : (reading : Reading) (key : ReportedKey) (r : KeyReport) (more : Bool) → IsReport r → IsKey key → types key r ≡ true
    → Means reading (typed_text key r) more (typed_events reading key r (typed_text key r)) []
unfolding typed_text
typed_means reading key r more is k e = go (is_typed_text r.text) refl
  where
    go : (v : Bool) → is_typed_text r.text ≡ v → Means reading (typed_text key r) more (typed_events reading key r (typed_text key r)) []
    go true typed = rw typed (text_means reading r.text more is.text_is typed)
    go false none = rw none (by_itself_means reading key r more is k
        (by_itself (is_at_most_shifted r.modifiers) (is_typed_text r.text) (types_character key) (sends_control key)
        (is_bare r.modifiers) none e))

-- what is typed is told so by its rule alone
other_rule : (sent : Option LegacyText) → or_reported sent ≡ Typed → ⊥
other_rule (Some text) e = cc (e)
other_rule None e = cc (e)

typed_by_rule : (a b c d t : Bool) (sent : Option LegacyText) → (if a then Nothing else (if b then Nothing else (if c then Reported
    else (if d then Nothing else (if t then Typed else or_reported sent))))) ≡ Typed → t ≡ true
typed_by_rule a b c d true sent e = refl
typed_by_rule true b c d false sent e = cc (e)
typed_by_rule false true c d false sent e = cc (e)
typed_by_rule false false true d false sent e = cc (e)
typed_by_rule false false false true false sent e = cc (e)
typed_by_rule false false false false false sent e = absurd (other_rule sent e)

pub types_it : (r : KeyReport) (flags : ℕ) → telling r flags ≡ Typed → types (told_key r flags) r ≡ true
unfolding telling
types_it r flags e =
    (and_parts (types (told_key r flags) r) (not (is_release r.kind))
    (typed_by_rule (is_silent_release r flags) (is_silent_modifier r flags) (tells_all_keys flags)
    (sends_control (told_key r flags) && is_release r.kind) (types (told_key r flags) r && not (is_release r.kind))
    (legacy_of r flags) e)).0

written_as : (r : KeyReport) (flags : ℕ) → telling r flags ≡ Typed → Some (typed_text (told_key r flags) r) ≡ kitty_text r flags
unfolding kitty_text
written_as r flags tells = rw tells refl

pub typed_read_back : TypedReadBack
typed_read_back reading r flags text more is tells writes =
    let whole : Some (typed_text (told_key r flags) r) ≡ Some text = written_as r flags tells ∙ writes in
    let same : typed_text (told_key r flags) r ≡ text = cc (whole) in
    subst (λ t. Means reading t more (typed_events reading (told_key r flags) r t) []) same
    (typed_means reading (told_key r flags) r more is (told_is_key r flags is.key_is) (types_it r flags tells))
