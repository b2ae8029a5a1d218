-- A report that is sent under Kitty's protocol is told as its twins.
use Rattle.std.proofs.Common.{◌≡◌, ◌≢◌, ◌⊎◌, inl, inr, ℕ, ◌<◌, Bool, true, false, not, ◌&&◌, ◌==◌, List, [], ◌∷◌, ◌++◌, length, map, flat_map, Option, Some, None, refl, sym, ap, ap₂, ◌∙◌, subst, arith, append-nil, Contains}
use Rattle.std.specs.Prelude.{if◌then◌else◌, is_some, option_map}
use Rattle.std.specs.Str.{chars}
use Rattle.std.proofs.lemmas.Bool.{and_parts, and_right, eqb-true}
use Rattle.std.proofs.lemmas.Nat.{and_le_r}
use Rattle.termwiz_keys.specs.Keys.{NONE, key_with}
use Rattle.termwiz_keys.specs.declared.types.KeyCode.{KeyCode}
use Rattle.termwiz_keys.specs.declared.types.KeyCode.TheVariants.{Char, Enter, Tab, Backspace}
use Rattle.termwiz_keys.specs.KeyCodes.{holds}
use Rattle.termwiz_extended_events.specs.declared.types.Event.{Event}
use Rattle.termwiz_extended_events.specs.declared.types.Event.TheVariants.{Key}
use Rattle.termwiz_extended_events.specs.declared.types.KeyEventKind.{KeyEventKind}
use Rattle.termwiz_extended_events.specs.declared.types.KeyEventKind.TheVariants.{Press, Repeat, Release}
use Rattle.termwiz_extended_events.specs.declared.types.KeyReport.{KeyReport}
use Rattle.termwiz_extended_events.specs.declared.types.Reading.{Reading}
use Rattle.termwiz_extended_events.specs.declared.types.ReportedKey.{ReportedKey}
use Rattle.termwiz_extended_events.specs.declared.types.ReportedKey.TheVariants.{Named, Functional}
use Rattle.termwiz_extended_events.specs.PortEvents.{pressed_key}
use Rattle.termwiz_extended_grammar.specs.ExtendedGrammar.{Means}
use Rattle.termwiz_extended_grammar.specs.Readings.{after_events}
use Rattle.termwiz_kitty.specs.KeyForms.{main_key, normal_key}
use Rattle.termwiz_kitty.specs.KittyLaws.{IsReport, IsWritable, characters_pressed, pressed, read_key, typed_by_events, typed_events}
use Rattle.termwiz_kitty.specs.KittyTexts.{IsWithin, kitty_text, legacy_bytes, typed_text}
use Rattle.termwiz_kitty.specs.LegacyTexts.{legacy_text}
use Rattle.termwiz_kitty.specs.Telling.{DISAMBIGUATE, has_control, is_legacy, is_legacy_press, is_press, is_release, is_silent_modifier, is_typed_text, legacy_of, reported, sends_control, tells_all_keys, tells_event_types, tells_text, telling, told_key, told_kind, types, without_locks}
use Rattle.termwiz_kitty.proofs.lemmas.read_back.SequencesMean.{kitty_read_back}
use Rattle.termwiz_kitty.proofs.lemmas.typed.TypedTexts.{typed_read_back}
use Rattle.termwiz_timed.proofs.lemmas.ReadsCut.{means_once}
use Rattle.termwiz_event_laws.specs.EventLaws.{waiting_texts}
use Rattle.termwiz_bindings.specs.declared.press.KeyPress.{KeyPress}
use Rattle.termwiz_bindings.specs.Presses as rules
use Rattle.termwiz_bindings.specs.Presses.{canonical}
use Rattle.termwiz_binding_laws.specs.EncodedPresses.{HasFirstSettings, press_of_event}
use Rattle.termwiz_binding_laws.specs.KittyPresses.{HasOneCharacter, held_before, is_in_tables, is_sent_as_text, kitty_twin, takes_text, told_of, typed_report}
use Rattle.termwiz_binding_laws.specs.LegacyTwins.{legacy_twin}
use Rattle.termwiz_binding_laws.specs.SentPresses.Sent.{by_kitty}
use Rattle.termwiz_binding_laws.proofs.lemmas.ReportsRead.{IsReadWith}
use Rattle.termwiz_binding_laws.proofs.lemmas.SentPresses.{presses_of_what_is_sent}
use Rattle.termwiz_binding_laws.proofs.lemmas.ToldKeys.{main_is_normal}
use Rattle.termwiz_binding_laws.proofs.lemmas.TwinSources.{text_before}
use Rattle.termwiz_binding_laws.proofs.lemmas.TwinTexts.{twin_read}
use Rattle.termwiz_press_laws.specs.Things.{IsToldAs, Told, has_one_character, long_twins, pressed_or_typed, report_twins, told_of_event, told_of_events, told_of_report, typed_character}
use Rattle.termwiz_press_laws.proofs.lemmas.LegacyTexts.{legacy_plain, legacy_press, legacy_whole}
use Rattle.termwiz_press_laws.proofs.lemmas.PortThings.{IsOneKey, at_once}
use Rattle.termwiz_press_laws.proofs.lemmas.ToldReports.{IsShort, one_key, press_is, press_tells, release_tells, same_tells, short_tells}

some_then : {A P : Type 0} (o : Option A) → is_some o ≡ true → ((a : A) → o ≡ Some a → P) → P
some_then (Some a) e further = further a refl
some_then None e further = absurd (cc (e))

none_is : {A : Type 0} (o : Option A) → is_some o ≡ false → o ≡ None
none_is (Some a) e = absurd (cc (e))
none_is None e = refl

some_of : {A B : Type 0} (f : A → B) (o : Option A) (b : B) → option_map f o ≡ Some b → is_some o ≡ true
some_of f (Some a) b e = refl
some_of f None b e = absurd (cc (e))

of_press : {A : Type 0} (b : Bool) (o : Option A) (a : A) → (if b then o else None) ≡ Some a → o ≡ Some a
of_press true o a e = e
of_press false o a e = absurd (cc (e))

release_press : (kind : KeyEventKind) → is_release kind ≡ true → is_press kind ≡ false
release_press Release e = refl
release_press Press e = absurd (cc (e))
release_press Repeat e = absurd (cc (e))

same_release : (kind : KeyEventKind) → rules.is_release kind ≡ is_release kind
same_release Press = refl
same_release Repeat = refl
same_release Release = refl

-- a release has no text from before the protocol, and with flag 8 nothing has
release_untold : (r : KeyReport) (flags : ℕ) → is_release r.kind ≡ true → tells_event_types flags ≡ true → legacy_of r flags ≡ None
release_untold r flags e t =
    let press : is_press (told_kind flags r.kind) ≡ false =
    ap (λ b. is_press (if b then r.kind else Press)) t ∙ release_press r.kind e in
    ap (λ b. if b then legacy_text (told_key r flags) (without_locks r.modifiers) r.shifted else None)
    (and_right (is_legacy flags) (is_press (told_kind flags r.kind)) press)

all_untold : (r : KeyReport) (flags : ℕ) → tells_all_keys flags ≡ true → legacy_of r flags ≡ None
all_untold r flags a =
    let reports : is_legacy flags ≡ false =
    ap (λ b. not (holds flags DISAMBIGUATE) && not b) a ∙ and_right (not (holds flags DISAMBIGUATE)) false refl in
    ap (λ b. if b && is_press (told_kind flags r.kind) then legacy_text (told_key r flags) (without_locks r.modifiers) r.shifted else None) reports

-- where there is none, the key isn't in the tables
no_table : (r : KeyReport) (flags : ℕ) → legacy_of r flags ≡ None → is_in_tables r flags ≡ false
no_table r flags none =
    ap (λ o. not (is_sent_as_text r flags) && is_some o) none ∙ and_right (not (is_sent_as_text r flags)) false refl

twin_chosen : (s t : Bool) (one two three : KeyReport) → s ≡ false → t ≡ true → (if s then one else (if t then two else three)) ≡ two
twin_chosen true t one two three e f = absurd (cc (e))
twin_chosen false true one two three e f = refl
twin_chosen false false one two three e f = absurd (cc (f))

table_twin : (r : KeyReport) (flags : ℕ) → is_sent_as_text r flags ≡ false → is_in_tables r flags ≡ true
    → kitty_twin r flags ≡ legacy_twin (told_key r flags) (held_before r) r.shifted
table_twin r flags untyped table =
    twin_chosen (is_sent_as_text r flags) (is_in_tables r flags) (typed_report (told_key r flags) r)
    (legacy_twin (told_key r flags) (held_before r) r.shifted) (told_of r flags) untyped table

-- One character at most.
short_is : (r : KeyReport) (text : List ℕ) → has_one_character r text ≡ true
    → (text ≡ []) ⊎ ((takes_text r.key ≡ true) × ((c : ℕ) × (chars text ≡ c ∷ [])))
short_is r [] e = inl refl
short_is r (b ∷ text) e =
    let parts = and_parts (takes_text r.key) (length (chars (b ∷ text)) == 1) e in
    inr (parts.0, one (chars (b ∷ text)) (eqb-true (length (chars (b ∷ text))) 1 parts.1))
  where
    one : (cs : List ℕ) → length cs ≡ 1 → (c : ℕ) × (cs ≡ c ∷ [])
    one [] l = absurd (omega (arith, l))
    one (c ∷ []) l = (c, refl)
    one (c ∷ d ∷ cs) l = absurd (omega (arith, l))

short_from : (r : KeyReport) → HasOneCharacter r → IsShort r.text
short_from r (inl none) = inl none
short_from r (inr one) = inr one.1

short_if : (b : Bool) (t u : List ℕ) → IsShort t → IsShort u → IsShort (if b then t else u)
short_if true t u one other = one
short_if false t u one other = other

twin_short : (r : KeyReport) (flags : ℕ) → IsShort r.text → IsShort (kitty_twin r flags).text
twin_short r flags short = go (is_sent_as_text r flags) (is_in_tables r flags)
  where
    go : (a b : Bool) → IsShort (if a then typed_report (told_key r flags) r
        else (if b then legacy_twin (told_key r flags) (held_before r) r.shifted else told_of r flags)).text
    go true b = short
    go false true = inl (legacy_plain (told_key r flags) (held_before r) r.shifted)
    go false false = short_if _ r.text [] short (inl refl)

reported_short : (r : KeyReport) (flags : ℕ) → IsShort r.text → IsShort (reported r flags).text
unfolding reported
reported_short r flags short = short_if (tells_text r flags) r.text [] short (inl refl)

-- what is typed is told as its presses
abbrev told_alone : List Event → List Told
told_alone events = flat_map (λ e. pressed_or_typed (press_of_event e) []) events

pressed_alone : (key : KeyCode) → told_of_event (pressed key) ≡ pressed_or_typed (press_of_event (pressed key)) []
pressed_alone key = short_tells (pressed_key (key_with key NONE)) (inl refl)

one_alone : (key : KeyCode) → told_of_events (pressed key ∷ []) ≡ told_alone (pressed key ∷ [])
one_alone key = ap (λ t. t ++ []) (pressed_alone key)

all_alone : (cs : List ℕ) → told_of_events (map (λ c. pressed (Char c)) cs) ≡ told_alone (map (λ c. pressed (Char c)) cs)
all_alone [] = refl
all_alone (c ∷ cs) = ap₂ (λ a b. a ++ b) (pressed_alone (Char c)) (all_alone cs)

typed_alone : (reading : Reading) (key : ReportedKey) (r : KeyReport) (text : List ℕ)
    → told_of_events (typed_events reading key r text) ≡ told_alone (typed_events reading key r text)
typed_alone reading key r text = go (is_typed_text r.text)
  where
    by_key : (k : ReportedKey) → told_of_events (typed_by_events reading k text) ≡ told_alone (typed_by_events reading k text)
    by_key (Named Enter) = one_alone Enter
    by_key (Named Tab) = one_alone Tab
    by_key (Named Backspace) = one_alone (read_key reading Backspace)
    by_key (Named k) = all_alone (chars text)
    by_key (Functional n) = all_alone (chars text)

    go : (b : Bool) → told_of_events (if b then characters_pressed text else typed_by_events reading key text)
        ≡ told_alone (if b then characters_pressed text else typed_by_events reading key text)
    go true = all_alone (chars text)
    go false = by_key key

-- no key changes the reading
characters_leave : (reading : Reading) (cs : List ℕ) → after_events reading (map (λ c. pressed (Char c)) cs) ≡ reading
characters_leave reading [] = refl
characters_leave reading (c ∷ cs) = characters_leave reading cs

typed_leave : (before reading : Reading) (key : ReportedKey) (r : KeyReport) (text : List ℕ)
    → after_events before (typed_events reading key r text) ≡ before
typed_leave before reading key r text = go (is_typed_text r.text)
  where
    by_key : (k : ReportedKey) → after_events before (typed_by_events reading k text) ≡ before
    by_key (Named Enter) = refl
    by_key (Named Tab) = refl
    by_key (Named Backspace) = refl
    by_key (Named k) = characters_leave before (chars text)
    by_key (Functional n) = characters_leave before (chars text)

    go : (b : Bool) → after_events before (if b then characters_pressed text else typed_by_events reading key text) ≡ before
    go true = characters_leave before (chars text)
    go false = by_key key

alone_by_presses : (events : List Event) (r : KeyReport) → map press_of_event events ≡ canonical r ∷ [] → IsShort r.text
    → told_alone events ≡ flat_map told_of_report (r ∷ [])
alone_by_presses [] r e short = absurd (cc (e))
alone_by_presses (event ∷ []) r e short =
    let same : press_of_event event ≡ canonical r = cc (e) in
    ap (λ t. t ++ []) (ap (λ o. pressed_or_typed o []) same ∙ sym (short_tells r short))
alone_by_presses (event ∷ other ∷ events) r e short = absurd (cc (e))

-- the characters of a longer text
characters_told : (cs : List ℕ) → told_of_events (map (λ c. pressed (Char c)) cs) ≡ flat_map told_of_report (map typed_character cs)
characters_told [] = refl
characters_told (c ∷ cs) = ap (λ t. told_of_report (typed_character c) ++ t) (characters_told cs)

-- a longer text is typed
long_typed : (r : KeyReport) (text : List ℕ) → has_one_character r text ≡ false → has_control text ≡ false → is_typed_text text ≡ true
long_typed r [] long none = absurd (cc (long))
long_typed r (b ∷ text) long none = ap not none

typed_is : (key : ReportedKey) (r : KeyReport) → is_typed_text r.text ≡ true → typed_text key r ≡ r.text
unfolding typed_text
typed_is key r e = rw e refl

module _ (reading : Reading) (first : HasFirstSettings reading) (flags : ℕ) (bytes : List ℕ) (more : Bool) (some : bytes ≢ [])
    (waits : more ≡ true → ¬ Contains waiting_texts bytes) (r : KeyReport) (is : IsReport r) (can : IsWritable r)
    (writes : kitty_text r flags ≡ Some bytes) (within : IsWithin r flags bytes) where
  abbrev IsTold : List KeyReport → Type 0
  IsTold reports = IsToldAs reading bytes more (flat_map told_of_report reports) reading

  something : kitty_text r flags ≡ Some [] → ⊥
  something e = some (let s : Some [] ≡ Some bytes = sym e ∙ writes in let none : [] ≡ bytes = cc (s) in sym none)

  -- what is sent is read as the report that the sequence carries
  abbrev ReportRead : Type 0
  ReportRead = (f : Bool) → Means reading bytes f (Key (reported r flags) ∷ []) []

  -- A release is sent as a report, and only where the types of events are told.
  module _ (e : is_release r.kind ≡ true) where
    silent : tells_event_types flags ≡ false → ⊥
    unfolding kitty_text telling
    silent t = something (rw (e, t) refl)

    module _ (t : tells_event_types flags ≡ true) where
      none : legacy_of r flags ≡ None
      none = release_untold r flags e t

      no_types : (types (told_key r flags) r && false) ≡ false
      no_types = and_right (types (told_key r flags) r) false refl

      by_tests : (m a c : Bool) → is_silent_modifier r flags ≡ m → tells_all_keys flags ≡ a → sends_control (told_key r flags) ≡ c → ReportRead
      unfolding kitty_text telling
      by_tests true a c p q v = absurd (something (rw (e, t, p) refl))
      by_tests false true c p q v = λ f.
          kitty_read_back reading r flags bytes f first.reads is (rw (e, t, p, q) refl) writes (within (rw (e, t, p, q) refl))
      by_tests false false true p q v = absurd (something (rw (e, t, p, v, q) refl))
      by_tests false false false p q v = λ f.
          kitty_read_back reading r flags bytes f first.reads is (rw (none, e, t, p, no_types, v, q) refl) writes
          (within (rw (none, e, t, p, no_types, v, q) refl))

      release_kind : rules.is_release (reported r flags).kind ≡ true
      unfolding reported
      release_kind = ap (λ b. rules.is_release (if b then r.kind else Press)) t ∙ same_release r.kind ∙ e

      release_told : IsTold []
      release_told =
          one_key reading bytes more [] (reported r flags)
          (by_tests (is_silent_modifier r flags) (tells_all_keys flags) (sends_control (told_key r flags)) refl refl refl more)
          (release_tells (reported r flags) release_kind)

    no_press : IsTold []
    no_press = go (tells_event_types flags) refl
      where
        go : (t : Bool) → tells_event_types flags ≡ t → IsTold []
        go true t = release_told t
        go false t = absurd (silent t)

  -- A press or a repeat is sent as the text that it types, as a text of the tables, or as its report.
  module _ (kept : is_release r.kind ≡ false) where
    data How : Type 0 where
      as_text : is_sent_as_text r flags ≡ true → typed_text (told_key r flags) r ≡ bytes
          → ((f : Bool) → Means reading bytes f (typed_events reading (told_key r flags) r bytes) []) → How
      in_tables : is_sent_as_text r flags ≡ false → is_in_tables r flags ≡ true
          → text_before (told_key r flags) (held_before r) r.shifted ≡ Some bytes → How
      as_report : is_sent_as_text r flags ≡ false → is_in_tables r flags ≡ false → ReportRead → How

    no_control : (sends_control (told_key r flags) && false) ≡ false
    no_control = and_right (sends_control (told_key r flags)) false refl

    module _ (p : is_silent_modifier r flags ≡ false) where
      all_reported : tells_all_keys flags ≡ true → ReportRead
      unfolding telling
      all_reported q f =
          kitty_read_back reading r flags bytes f first.reads is (rw (kept, p, q) refl) writes (within (rw (kept, p, q) refl))

      module _ (q : tells_all_keys flags ≡ false) where
        text_is : types (told_key r flags) r ≡ true → Some (typed_text (told_key r flags) r) ≡ Some bytes
        unfolding kitty_text telling
        text_is x = rw (kept, p, x, no_control, q) at writes

        text_read : types (told_key r flags) r ≡ true → (f : Bool) → Means reading bytes f (typed_events reading (told_key r flags) r bytes) []
        unfolding telling
        text_read x f = typed_read_back reading r flags bytes f is (rw (kept, p, x, no_control, q) refl) writes

        untyped : types (told_key r flags) r ≡ false → is_sent_as_text r flags ≡ false
        untyped x = ap (λ b. not (tells_all_keys flags) && b) x ∙ and_right (not (tells_all_keys flags)) false refl

        table_is : types (told_key r flags) r ≡ false → is_some (legacy_of r flags) ≡ true
            → text_before (told_key r flags) (held_before r) r.shifted ≡ Some bytes
        unfolding kitty_text telling
        table_is x l = some_then (legacy_of r flags) l (λ text found.
            let sent : Some (legacy_bytes text) ≡ Some bytes = rw (kept, p, x, no_control, found, q) at writes in
            ap (option_map legacy_bytes)
            (of_press (is_legacy_press r flags) (legacy_text (told_key r flags) (without_locks r.modifiers) r.shifted) text found) ∙ sent)

        untold : types (told_key r flags) r ≡ false → is_some (legacy_of r flags) ≡ false → ReportRead
        unfolding telling
        untold x l f =
            let none = none_is (legacy_of r flags) l in
            kitty_read_back reading r flags bytes f first.reads is (rw (kept, p, x, no_control, none, q) refl) writes
            (within (rw (kept, p, x, no_control, none, q) refl))

    silent_modifier : is_silent_modifier r flags ≡ true → ⊥
    unfolding kitty_text telling
    silent_modifier p = something (rw (kept, p) refl)

    how : How
    how = go (is_silent_modifier r flags) refl (tells_all_keys flags) refl (types (told_key r flags) r) refl (is_some (legacy_of r flags)) refl
      where
        go : (m : Bool) → is_silent_modifier r flags ≡ m → (a : Bool) → tells_all_keys flags ≡ a
            → (x : Bool) → types (told_key r flags) r ≡ x → (l : Bool) → is_some (legacy_of r flags) ≡ l → How
        go true p a q x u l v = absurd (silent_modifier p)
        go false p true q x u l v =
            as_report (ap (λ b. not b && types (told_key r flags) r) q) (no_table r flags (all_untold r flags q)) (all_reported p q)
        go false p false q true u l v =
            as_text (ap₂ (λ a b. not a && b) q u)
            (let s = text_is p q u in cc (s)) (text_read p q u)
        go false p false q false u true v =
            in_tables (untyped p q u) (ap₂ (λ a b. not a && b) (untyped p q u) v) (table_is p q u v)
        go false p false q false u false v =
            as_report (untyped p q u) (no_table r flags (none_is (legacy_of r flags) v)) (untold p q u v)

    -- a text of the tables is read as the press of its twin
    module _ (untyped' : is_sent_as_text r flags ≡ false) (table : is_in_tables r flags ≡ true)
        (sends : text_before (told_key r flags) (held_before r) r.shifted ≡ Some bytes) where
      normal : (b : Bool) → normal_key (if b then main_key r.key else r.key) ≡ (if b then main_key r.key else r.key)
      normal true = main_is_normal r.key can.normal
      normal false = can.normal

      few : held_before r < 64
      few = omega (arith, and_le_r r.modifiers 63)

      found : (p : KeyPress) × (canonical (legacy_twin (told_key r flags) (held_before r) r.shifted) ≡ Some p)
      found =
          legacy_press (told_key r flags) (held_before r) r.shifted
          (some_of legacy_bytes (legacy_text (told_key r flags) (held_before r) r.shifted) bytes sends)

      press : canonical (kitty_twin r flags) ≡ Some found.0
      press = ap canonical (table_twin r flags untyped' table) ∙ found.1

      read : IsReadWith reading bytes false (canonical (legacy_twin (told_key r flags) (held_before r) r.shifted))
      read = twin_read reading first r.shifted bytes false some (told_key r flags) (held_before r) (normal (is_legacy flags)) few is.shifted_is
          sends (λ e. absurd (cc (e)))

      table_told : IsTold (kitty_twin r flags ∷ [])
      table_told =
          let key = press_is read.0 found.0 (read.2 ∙ found.1) in
          let flushed : IsOneKey reading bytes found.0 false = record {
            report = key.report;
            means = subst (λ d. Means reading bytes false (d ∷ []) []) key.is_key read.1;
            press = key.press;
          } in
          let now = at_once reading bytes found.0 more (legacy_whole (held_before r) r.shifted bytes is.shifted_is (told_key r flags) sends) flushed
          waits in
          one_key reading bytes more (flat_map told_of_report (kitty_twin r flags ∷ [])) now.report now.means
          (press_tells now.report found.0 now.press
          ∙ sym (append-nil (told_of_report (kitty_twin r flags)) ∙ press_tells (kitty_twin r flags) found.0 press))

    -- with one character at most it has the press of its twin
    module _ (one : HasOneCharacter r) where
      short : IsShort r.text
      short = short_from r one

      law : (events : List Event) × Means reading bytes false events [] × (map press_of_event events ≡ canonical (kitty_twin r flags) ∷ [])
      law = presses_of_what_is_sent reading (by_kitty r flags) bytes false first writes some (record {
        pressed = record { report = is; writable = can; kept = kept; text = one };
        within = within;
        alone = λ e. absurd (cc (e));
      })

      one_told : IsTold (kitty_twin r flags ∷ [])
      one_told = go how
        where
          go : How → IsTold (kitty_twin r flags ∷ [])
          go (as_text typed is_text means) =
              let events = typed_events reading (told_key r flags) r bytes in
              let same = means_once reading bytes false events law.0 [] [] (means false) law.1 in
              record {
                events = events;
                means = means more;
                tells = typed_alone reading (told_key r flags) r bytes
                    ∙ alone_by_presses events (kitty_twin r flags) (ap (map press_of_event) same.0 ∙ law.2) (twin_short r flags short);
                leaves = typed_leave reading reading (told_key r flags) r bytes;
              }
          go (in_tables untyped' table sends) = table_told untyped' table sends
          go (as_report untyped' none means) =
              let same = means_once reading bytes false (Key (reported r flags) ∷ []) law.0 [] [] (means false) law.1 in
              let both : canonical (reported r flags) ∷ [] ≡ canonical (kitty_twin r flags) ∷ [] =
              ap (map press_of_event) same.0 ∙ law.2 in
              one_key reading bytes more (flat_map told_of_report (kitty_twin r flags ∷ [])) (reported r flags) (means more)
              (same_tells (reported r flags) (kitty_twin r flags) (cc (both)) (reported_short r flags short) (twin_short r flags short)
              ∙ sym (append-nil (told_of_report (kitty_twin r flags))))

    -- with a longer text it is told by how it is sent
    module _ (long : has_one_character r r.text ≡ false) where
      abbrev Chosen : Bool → Bool → List KeyReport
      Chosen s t =
          if s then map typed_character (chars r.text)
          else (if t then kitty_twin r flags ∷ [] else reported r flags ∷ [])

      long_told : IsTold (long_twins r flags)
      long_told = go how
        where
          choose : (s t : Bool) → is_sent_as_text r flags ≡ s → is_in_tables r flags ≡ t → IsTold (Chosen s t) → IsTold (long_twins r flags)
          choose s t e f told =
              subst (λ a. IsTold (Chosen a (is_in_tables r flags))) (sym e) (subst (λ b. IsTold (Chosen s b)) (sym f) told)

          go : How → IsTold (long_twins r flags)
          go (as_text typed is_text means) =
              let is_typed = long_typed r r.text long can.no_control in
              let text : bytes ≡ r.text = sym is_text ∙ typed_is (told_key r flags) r is_typed in
              let events : typed_events reading (told_key r flags) r bytes ≡ characters_pressed r.text =
              ap (λ b. if b then characters_pressed bytes else typed_by_events reading (told_key r flags) bytes) is_typed
              ∙ ap characters_pressed text in
              choose true (is_in_tables r flags) typed refl (record {
                events = characters_pressed r.text;
                means = subst (λ d. Means reading bytes more d []) events (means more);
                tells = characters_told (chars r.text);
                leaves = characters_leave reading (chars r.text);
              })
          go (in_tables untyped' table sends) = choose false true untyped' table (table_told untyped' table sends)
          go (as_report untyped' none' means) =
              choose false false untyped' none'
              (one_key reading bytes more (flat_map told_of_report (reported r flags ∷ [])) (reported r flags) (means more)
              (sym (append-nil (told_of_report (reported r flags)))))

  pub kitty_told : IsTold (report_twins r flags)
  kitty_told = go (is_release r.kind) refl (has_one_character r r.text) refl
    where
      Twins : Bool → Bool → List KeyReport
      Twins k b = if k then [] else (if b then kitty_twin r flags ∷ [] else long_twins r flags)

      go : (k : Bool) → is_release r.kind ≡ k → (b : Bool) → has_one_character r r.text ≡ b
          → IsTold (Twins (is_release r.kind) (has_one_character r r.text))
      go true release b e = subst (λ k. IsTold (Twins k (has_one_character r r.text))) (sym release) (no_press release)
      go false kept true one =
          subst (λ k. IsTold (Twins k (has_one_character r r.text))) (sym kept)
          (subst (λ b. IsTold (Twins false b)) (sym one) (one_told kept (short_is r r.text one)))
      go false kept false long =
          subst (λ k. IsTold (Twins k (has_one_character r r.text))) (sym kept)
          (subst (λ b. IsTold (Twins false b)) (sym long) (long_told kept long))
