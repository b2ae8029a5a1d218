-- Mouse events: what is written is read back, and each one that is emitted is written.
use Rattle.std.proofs.Common.{◌≡◌, ◌⊎◌, ℕ, ◌-◌, ◌^◌, ◌<◌, ◌≤◌, Bool, true, false, ◌&&◌, ◌||◌, nat_le, List, [], ◌∷◌, ◌++◌, refl, sym, ap, ap₂, ◌∙◌, subst, arith, append_assoc, Option, Some, None, inl, inr}
use Rattle.std.specs.Prelude.{◌==◌, if◌then◌else◌, unwrap_or, slice_get}
use Rattle.std.specs.List.{list_all}
use Rattle.std.proofs.lemmas.Bool.{and_parts}
use Rattle.std.proofs.lemmas.Bool.Decides.{nat_tests}
use Rattle.std.proofs.lemmas.List.Elements.{All-contains}
use Rattle.std.proofs.lemmas.List.Sums.{AllPass-from_list_all}
use Rattle.std.proofs.lemmas.Option.{option_and_then_some}
use Rattle.termwiz_base.specs.Mouse.{final_press, final_release, button_of, row_of}
use Rattle.termwiz_base.specs.declared.mouse.MouseButton.{MouseButton}
use Rattle.termwiz_base.specs.declared.mouse.MouseButton.TheVariants as button
use Rattle.termwiz_base.specs.declared.mouse.MouseReport.TheVariants.{SGR1006}
use Rattle.termwiz_keymap.proofs.lemmas.lists.CommonPrefixes.{true_from}
use Rattle.termwiz_keys.specs.Buttons.{button_bits, buttons_of}
use Rattle.termwiz_keys.specs.declared.types.MouseEvent.{MouseEvent}
use Rattle.termwiz_grammar.specs.MouseReports.{IsDigit, IsMouseReport, mouse_event, value_of}
use Rattle.termwiz_grammar.specs.Table.{numbers}
use Rattle.termwiz_grammar.proofs.lemmas.mouse.OneReport.{layout}
use Rattle.termwiz_extended_events.specs.declared.types.Event.TheVariants.{Mouse}
use Rattle.termwiz_extended_events.specs.declared.types.MouseReport.{MouseReport}
use Rattle.termwiz_extended_events.specs.declared.types.MouseKind.{MouseKind}
use Rattle.termwiz_extended_events.specs.declared.types.MouseKind.TheVariants.{Press, Release, Drag, Move, Wheel}
use Rattle.termwiz_extended_events.specs.declared.types.Reading.{Reading}
use Rattle.termwiz_extended_events.specs.MouseReports.{byte_kind_of, byte_report, code_of_fields, ends_released, is_released, kind_of, named_button, sgr_code, sgr_report, with_kind}
use Rattle.termwiz_extended_events.specs.Numbers.{fields, before_end, number_within, short_number}
use Rattle.termwiz_extended_events.specs.Replies.{mouse_at, mouse_of_fields, urxvt_mouse, x10_mouse, mouse_report}
use Rattle.termwiz_extended_grammar.specs.Readings.{ReadsMore}
use Rattle.termwiz_kitty.proofs.lemmas.PortKeys.{at_number}
use Rattle.termwiz_kitty.proofs.lemmas.read_back.Decimals.{number_of_digits}
use Rattle.termwiz_kitty.proofs.lemmas.read_back.FieldSplits.{IsFieldByte, digit_in_field, last_byte as last_of, more_fields, without_last}
use Rattle.termwiz_senders.specs.declared.mouse.MouseEncoding.TheVariants.{Sgr, Urxvt}
use Rattle.termwiz_senders.specs.declared.mouse.MouseTracking.TheVariants.{Any}
use Rattle.termwiz_senders.specs.EventTexts.{pressed_buttons, dragged_buttons, released_buttons, turned_wheels, reported_button, button_text, sgr_event_text, further_event_text, further_mouse_text, tells_modifiers, IsMouseText, IsReadAtOnce}
use Rattle.termwiz_senders.specs.MouseLaws.{Sends, button_number, is_wheel, told_kind}
use Rattle.termwiz_senders.specs.MouseTexts.{told_by, action_of, code_of, last_byte, sent_modifiers, sgr_text, urxvt_text, mouse_text}
use Rattle.termwiz_senders.proofs.lemmas.SgrReports.{sgr_read_back_extended}
use Rattle.termwiz_senders.proofs.lemmas.UrxvtReports.{urxvt_read_back}
use Rattle.termwiz_senders.proofs.lemmas.TableEntries.{entry_holds}
use Rattle.termwiz_event_laws.proofs.lemmas.KeyReportsNumbers.{number_parts}
use Rattle.termwiz_event_laws.proofs.lemmas.SideButtons.{side_read_back}
use Rattle.termwiz_event_laws.proofs.lemmas.SideButtons.Happens.{pressed, released, dragged}
use Rattle.termwiz_event_laws.proofs.lemmas.SomeOptions.{IsAmong, among}
use Rattle.termwiz_event_laws.proofs.lemmas.ToldModifiers.{told_again, code_tells}

-- what is written as the port reads it too, in parts
record IsWritten (e : MouseReport) (bytes : List ℕ) : Type 0 where
  b : MouseButton
  found : reported_button e.kind e.button ≡ Some b
  told : tells_modifiers e.modifiers ≡ true
  down : e.buttons.0 ≡ button_bits b
  sent : mouse_text (SGR1006 e.x e.y b e.modifiers) Any Sgr ≡ Some bytes

written_parts : (e : MouseReport) (bytes : List ℕ) → sgr_event_text e ≡ Some bytes → IsWritten e bytes
unfolding sgr_event_text
written_parts e bytes is = go (tells_modifiers e.modifiers) refl
  where
    by_button : tells_modifiers e.modifiers ≡ true → (b : MouseButton) → reported_button e.kind e.button ≡ Some b → button_text e b ≡ Some bytes
        → IsWritten e bytes
    by_button tells b found sent = same (e.buttons.0 == button_bits b) refl
      where
        same : (v : Bool) → (e.buttons.0 == button_bits b) ≡ v → IsWritten e bytes
        same true down = record { b = b; found = found; told = tells; down = grind (arith, nat_tests); sent = rw down at sent }
        same false other = absurd (let none : None ≡ Some bytes = rw other at sent in cc (none))

    go : (v : Bool) → tells_modifiers e.modifiers ≡ v → IsWritten e bytes
    go true tells =
        option_and_then_some (button_text e) (reported_button e.kind e.button) bytes (rw tells at is) (by_button tells)
    go false tells = absurd (let none : None ≡ Some bytes = rw tells at is in cc (none))

-- what is reported names the button, and tells what happened
abbrev IsTold : MouseKind → Option ℕ → MouseButton → Type 0
IsTold kind o b = (told_kind (action_of b) (is_wheel b) ≡ kind) × (button_number b ≡ o)

told_so : (kind : MouseKind) (o : Option ℕ) (b : MouseButton) → reported_button kind o ≡ Some b → IsTold kind o b
told_so Press (Some n) b e =
    entry_holds (λ n b. IsTold Press (Some n) b) pressed_buttons n b ((refl, refl), ((refl, refl), ((refl, refl), tt))) e
told_so Drag (Some n) b e =
    entry_holds (λ n b. IsTold Drag (Some n) b) dragged_buttons n b ((refl, refl), ((refl, refl), ((refl, refl), tt))) e
told_so Release (Some n) b e = entry_holds (λ n b. IsTold Release (Some n) b) released_buttons n b
    ((refl, refl), ((refl, refl), ((refl, refl), ((refl, refl), ((refl, refl), ((refl, refl), ((refl, refl), tt))))))) e
told_so Wheel (Some n) b e =
    entry_holds (λ n b. IsTold Wheel (Some n) b) turned_wheels n b ((refl, refl), ((refl, refl), ((refl, refl), ((refl, refl), tt)))) e
told_so Move None b e = subst (IsTold Move None) (let same : button.None ≡ b = cc (e) in same) (refl, refl)
told_so Move (Some n) b e = absurd (cc (e))
told_so Press None b e = absurd (cc (e))
told_so Drag None b e = absurd (cc (e))
told_so Release None b e = absurd (cc (e))
told_so Wheel None b e = absurd (cc (e))

sgr_back : (reading : Reading) (e : MouseReport) (bytes : List ℕ) → e.x < 2 ^ 16 → e.y < 2 ^ 16 → sgr_event_text e ≡ Some bytes
    → IsReadAtOnce reading (Mouse e) bytes
sgr_back reading e bytes f g is =
    let w = written_parts e bytes is in
    let report = SGR1006 e.x e.y w.b e.modifiers in
    let sends : Sends report Any Sgr bytes = record { place = record { x_fits = f; y_fits = g }; reported = refl; bytes_are = w.sent } in
    let its = told_so e.kind e.button w.b w.found in
    let whole : record {
      x = e.x;
      y = e.y;
      modifiers = sent_modifiers Any e.modifiers;
      buttons = buttons_of w.b;
      kind = told_kind (action_of w.b) (is_wheel w.b);
      button = button_number w.b;
    } ≡ e =
    ap₂ (λ k o. record { x = e.x; y = e.y; modifiers = sent_modifiers Any e.modifiers; buttons = buttons_of w.b; kind = k; button = o }) its.0 its.1
    ∙ ap₂ (λ m n. record { x = e.x; y = e.y; modifiers = record { 0 = m }; buttons = record { 0 = n }; kind = e.kind; button = e.button })
    (told_again e.modifiers w.told) (sym w.down) in
    subst (λ d. IsReadAtOnce reading (Mouse d) bytes) whole (λ more. sgr_read_back_extended reading report Any bytes more sends)

-- a release that names no button
nameless_back : (reading : Reading) (e : MouseReport) (bytes : List ℕ) → ReadsMore reading → e.x < 2 ^ 16 → e.y < 2 ^ 16
    → tells_modifiers e.modifiers ≡ true → e.buttons.0 ≡ 0 → e.kind ≡ Release → e.button ≡ None
    → mouse_text (SGR1006 e.x e.y button.Button1Release e.modifiers) Any Urxvt ≡ Some bytes → IsReadAtOnce reading (Mouse e) bytes
nameless_back reading e bytes reads f g told down kind named is =
    let report = SGR1006 e.x e.y button.Button1Release e.modifiers in
    let sends : Sends report Any Urxvt bytes = record { place = record { x_fits = f; y_fits = g }; reported = refl; bytes_are = is } in
    let whole : record { x = e.x; y = e.y; modifiers = sent_modifiers Any e.modifiers; buttons = record { 0 = 0 }; kind = Release; button = None } ≡ e =
    ap₂ (λ k o. record { x = e.x; y = e.y; modifiers = sent_modifiers Any e.modifiers; buttons = record { 0 = 0 }; kind = k; button = o })
    (sym kind) (sym named)
    ∙ ap₂ (λ m n. record { x = e.x; y = e.y; modifiers = record { 0 = m }; buttons = record { 0 = n }; kind = e.kind; button = e.button })
    (told_again e.modifiers told) (sym down) in
    subst (λ d. IsReadAtOnce reading (Mouse d) bytes) whole (λ more. urxvt_read_back reading report Any bytes more reads sends)

further_back : (reading : Reading) (e : MouseReport) (bytes : List ℕ) → ReadsMore reading → e.x < 2 ^ 16 → e.y < 2 ^ 16
    → further_mouse_text e ≡ Some bytes → IsReadAtOnce reading (Mouse e) bytes
unfolding further_mouse_text
further_back reading e bytes reads f g is = go (tells_modifiers e.modifiers && (e.buttons.0 == 0)) refl
  where
    by_kind : tells_modifiers e.modifiers ≡ true → e.buttons.0 ≡ 0 → (kind : MouseKind) (o : Option ℕ) → e.kind ≡ kind → e.button ≡ o
        → further_event_text e kind o ≡ Some bytes → IsReadAtOnce reading (Mouse e) bytes
    by_kind told down Release None k n h = nameless_back reading e bytes reads f g told down k n h
    by_kind told down Press (Some number) k n h = side_read_back reading e number pressed bytes reads f g told down k n h
    by_kind told down Drag (Some number) k n h = side_read_back reading e number dragged bytes reads f g told down k n h
    by_kind told down Release (Some number) k n h = side_read_back reading e number released bytes reads f g told down k n h
    by_kind told down Press None k n h = absurd (cc (h))
    by_kind told down Drag None k n h = absurd (cc (h))
    by_kind told down Move o k n h = absurd (cc (h))
    by_kind told down Wheel o k n h = absurd (cc (h))

    go : (v : Bool) → (tells_modifiers e.modifiers && (e.buttons.0 == 0)) ≡ v → IsReadAtOnce reading (Mouse e) bytes
    go true both =
        let parts = and_parts (tells_modifiers e.modifiers) (e.buttons.0 == 0) both in
        let none : (e.buttons.0 == 0) ≡ true = parts.1 in
        by_kind parts.0 (grind (arith, nat_tests)) e.kind e.button refl refl (rw both at is)
    go false other = absurd (let none : None ≡ Some bytes = rw other at is in cc (none))

pub mouse_read_back : (reading : Reading) (e : MouseReport) (bytes : List ℕ) → e.x < 2 ^ 16 → e.y < 2 ^ 16 → IsMouseText reading e bytes
    → IsReadAtOnce reading (Mouse e) bytes
mouse_read_back reading e bytes f g (inl is) = sgr_back reading e bytes f g is
mouse_read_back reading e bytes f g (inr (reads, is)) = further_back reading e bytes reads f g is

-- Each report that is emitted is written.

-- the button is reported, and its bits are these
abbrev is_reported_as : ℕ → Option MouseButton → Bool
is_reported_as n (Some b) = n == button_bits b
is_reported_as n None = false

sgr_there : (e : MouseReport) → tells_modifiers e.modifiers ≡ true → is_reported_as e.buttons.0 (reported_button e.kind e.button) ≡ true
    → (bytes : List ℕ) × (sgr_event_text e ≡ Some bytes)
unfolding sgr_event_text mouse_text
sgr_there e told is = go (reported_button e.kind e.button) refl is
  where
    go : (o : Option MouseButton) → reported_button e.kind e.button ≡ o → is_reported_as e.buttons.0 o ≡ true
        → (bytes : List ℕ) × (sgr_event_text e ≡ Some bytes)
    go (Some b) found down =
        let t = told_by (SGR1006 e.x e.y b e.modifiers) in
        (sgr_text (code_of Any Sgr t) e.x e.y (last_byte (action_of t.button)), rw (told, found, down) refl)
    go None found down = absurd (cc (down))

-- the codes of the port's reports
abbrev is_sgr_code : ℕ → ℕ → Bool
is_sgr_code last code = is_reported_as (button_bits (button_of code last)) (reported_button (kind_of (last == final_release) code (named_button code)) (named_button code))

sgr_codes_press : list_all (is_sgr_code 77) (numbers 0 96) ≡ true
unfolding numbers button_of row_of
sgr_codes_press = refl

sgr_codes_release : list_all (is_sgr_code 109) (numbers 0 96) ≡ true
unfolding numbers button_of row_of
sgr_codes_release = refl

of_code : (p : ℕ → Bool) (code : ℕ) → code ≤ 95 → list_all p (numbers 0 96) ≡ true → p code ≡ true
of_code p code few all = All-contains (λ m. p m ≡ true) (numbers 0 96) code (AllPass-from_list_all p (numbers 0 96) all)
    (at_number 0 96 code (omega arith) (omega (arith, few)))

sgr_code_told : (code last : ℕ) → code ≤ 95 → (last ≡ 77) ⊎ (last ≡ 109) → is_sgr_code last code ≡ true
sgr_code_told code last few (inl m) = subst (λ l. is_sgr_code l code ≡ true) (sym m) (of_code (is_sgr_code 77) code few sgr_codes_press)
sgr_code_told code last few (inr m) = subst (λ l. is_sgr_code l code ≡ true) (sym m) (of_code (is_sgr_code 109) code few sgr_codes_release)

-- what the port's report tells besides
module _ (text : List ℕ) (event : MouseEvent) (r : IsMouseReport text event) where
  code_told : sgr_code text ≡ value_of r.code
  unfolding sgr_code
  code_told =
      let rest = r.x ++ 59 ∷ (r.y ++ r.last ∷ []) in
      let split : fields (r.code ++ 59 ∷ rest) ≡ r.code ∷ fields rest =
      more_fields r.code rest (true_from IsDigit IsFieldByte digit_in_field r.code r.code_is.each) in
      ap (λ t. code_of_fields (sgr_of t)) (layout text event r) ∙ ap code_of_fields split
      ∙ ap (λ o. unwrap_or o 0) (number_of_digits 5 0 95 (value_of r.code) r.code
      (record { some = r.code_is.some; each = r.code_is.each; value = refl }) r.code_is.short (omega arith) r.code_is.within)
    where
      sgr_of : List ℕ → List (List ℕ)
      sgr_of (a ∷ b ∷ c ∷ t) = fields t
      sgr_of t = []

  last_told : is_released text ≡ (r.last == final_release)
  last_told =
      let body = 27 ∷ 91 ∷ 60 ∷ (r.code ++ 59 ∷ (r.x ++ 59 ∷ r.y)) in
      let whole : text ≡ body ++ r.last ∷ [] = layout text event r ∙ sym (simp append_assoc) in
      ap is_released whole ∙ ap (λ n. ends_released (slice_get (body ++ r.last ∷ []) n)) (without_last body r.last)
      ∙ ap ends_released (last_of body r.last)

  pub sgr_whole : (bytes : List ℕ) × (sgr_event_text (sgr_report text event) ≡ Some bytes)
  unfolding mouse_event
  sgr_whole =
      let code = value_of r.code in
      let e : MouseReport = with_kind (mouse_event code (value_of r.x) (value_of r.y) r.last) (kind_of (r.last == final_release) code (named_button code))
      (named_button code) in
      let found = sgr_there e (code_tells code) (sgr_code_told code r.last r.code_is.within r.last_is) in
      let same : sgr_report text event ≡ e =
      ap₂ (λ n v. with_kind event (kind_of v n (named_button n)) (named_button n)) code_told last_told
      ∙ ap (λ d. with_kind d (kind_of (r.last == final_release) code (named_button code)) (named_button code)) r.means in
      (found.0, ap sgr_event_text same ∙ found.1)

-- the codes of urxvt's and X10's reports
abbrev is_nameless_release : MouseKind → Option ℕ → ℕ → Bool
is_nameless_release Release None n = n == 0
is_nameless_release kind o n = false

abbrev is_byte_code : ℕ → Bool
is_byte_code code =
    is_reported_as (button_bits (button_of code final_press)) (reported_button (byte_kind_of code (named_button code)) (named_button code))
    || is_nameless_release (byte_kind_of code (named_button code)) (named_button code) (button_bits (button_of code final_press))

byte_codes : list_all is_byte_code (numbers 0 96) ≡ true
unfolding numbers button_of row_of
byte_codes = refl

-- the report is written, as the port reads it or not
abbrev pub HasText : MouseReport → Type 0
HasText e = (bytes : List ℕ) × ((sgr_event_text e ≡ Some bytes) ⊎ (further_mouse_text e ≡ Some bytes))

nameless_there : (e : MouseReport) (kind : MouseKind) (o : Option ℕ) → e.kind ≡ kind → e.button ≡ o → tells_modifiers e.modifiers ≡ true
    → is_nameless_release kind o e.buttons.0 ≡ true → (bytes : List ℕ) × (further_mouse_text e ≡ Some bytes)
unfolding further_mouse_text mouse_text
nameless_there e Release None k n told none =
    let t = told_by (SGR1006 e.x e.y button.Button1Release e.modifiers) in
    (urxvt_text (code_of Any Urxvt t) e.x e.y, rw (told, none, k, n) refl)
nameless_there e Release (Some number) k n told none = absurd (cc (none))
nameless_there e Press o k n told none = absurd (cc (none))
nameless_there e Drag o k n told none = absurd (cc (none))
nameless_there e Move o k n told none = absurd (cc (none))
nameless_there e Wheel o k n told none = absurd (cc (none))

byte_whole : (code x y : ℕ) → code ≤ 95 → HasText (byte_report code x y)
unfolding mouse_event
byte_whole code x y few =
    let e = byte_report code x y in
    go (is_reported_as e.buttons.0 (reported_button e.kind e.button)) (is_nameless_release e.kind e.button e.buttons.0) refl refl
    (of_code is_byte_code code few byte_codes)
  where
    go : (v w : Bool) → is_reported_as (button_bits (button_of code final_press)) (reported_button (byte_kind_of code (named_button code)) (named_button code)) ≡ v
        → is_nameless_release (byte_kind_of code (named_button code)) (named_button code) (button_bits (button_of code final_press)) ≡ w
        → is_byte_code code ≡ true → HasText (byte_report code x y)
    go true w reported none h = (let found = sgr_there (byte_report code x y) (code_tells code) reported in (found.0, inl found.1))
    go false true reported none h =
        let found = nameless_there (byte_report code x y) (byte_kind_of code (named_button code)) (named_button code) refl refl (code_tells code) none in
        (found.0, inr found.1)
    go false false reported none h = absurd (let no : false ≡ true = rw (reported, none) at h in cc (no))

at_report : (b x y : Option ℕ) (m : MouseReport) → ((n : ℕ) → b ≡ Some n → n ≤ 127) → mouse_at b x y ≡ Some m → HasText m
at_report (Some b) (Some x) (Some y) m few e =
    let same : byte_report (b - 32) x y ≡ m = cc (e) in
    subst HasText same (byte_whole (b - 32) x y (omega (arith, few b refl)))
at_report None x y m few e = absurd (cc (e))
at_report (Some b) None y m few e = absurd (cc (e))
at_report (Some b) (Some x) None m few e = absurd (cc (e))

fields_report : (fs : List (List ℕ)) (m : MouseReport) → mouse_of_fields fs ≡ Some m → HasText m
fields_report [] m e = absurd (cc (e))
fields_report (b ∷ []) m e = absurd (cc (e))
fields_report (b ∷ x ∷ []) m e = absurd (cc (e))
fields_report (b ∷ x ∷ y ∷ []) m e =
    at_report (number_within 5 32 127 b) (short_number x) (short_number y) m (λ n is. (number_parts 5 32 127 b n is).high) e
fields_report (b ∷ x ∷ y ∷ f ∷ fs) m e = absurd (cc (e))

urxvt_report : (s : List ℕ) (m : MouseReport) → urxvt_mouse s ≡ Some m → HasText m
unfolding urxvt_mouse
urxvt_report s m e =
    option_and_then_some (λ body. mouse_of_fields (fields body)) (before_end (77 ∷ []) s) m e (λ body found told. fields_report (fields body) m told)

x10_report : (s : List ℕ) (m : MouseReport) → x10_mouse s ≡ Some m → HasText m
unfolding x10_mouse
x10_report [] m e = absurd (cc (e))
x10_report (a ∷ []) m e = absurd (cc (e))
x10_report (a ∷ b ∷ []) m e = absurd (cc (e))
x10_report (a ∷ b ∷ x ∷ []) m e = absurd (cc (e))
x10_report (a ∷ b ∷ x ∷ y ∷ []) m e = go ((a == 77) && nat_le 32 b && nat_le b 127 && nat_le 32 x && nat_le 32 y) refl e
  where
    go : (v : Bool) → ((a == 77) && nat_le 32 b && nat_le b 127 && nat_le 32 x && nat_le 32 y) ≡ v
        → (if v then Some (byte_report (b - 32) (x - 32) (y - 32)) else None) ≡ Some m → HasText m
    go true all h =
        let one = and_parts ((a == 77) && nat_le 32 b && nat_le b 127 && nat_le 32 x) (nat_le 32 y) all in
        let two = and_parts ((a == 77) && nat_le 32 b && nat_le b 127) (nat_le 32 x) one.0 in
        let three = and_parts ((a == 77) && nat_le 32 b) (nat_le b 127) two.0 in
        let high : nat_le b 127 ≡ true = three.1 in
        let few : b ≤ 127 = grind (arith, nat_tests) in
        let same : byte_report (b - 32) (x - 32) (y - 32) ≡ m = cc (h) in
        subst HasText same (byte_whole (b - 32) (x - 32) (y - 32) (omega (arith, few)))
    go false all h = absurd (cc (h))
x10_report (a ∷ b ∷ x ∷ y ∷ z ∷ s) m e = absurd (cc (e))

pub report_told : (s : List ℕ) (m : MouseReport) → mouse_report s ≡ Some m → HasText m
unfolding mouse_report
report_told s m e = go (among (urxvt_mouse s ∷ x10_mouse s ∷ []) m e)
  where
    go : IsAmong (urxvt_mouse s ∷ x10_mouse s ∷ []) m → HasText m
    go (inl f) = urxvt_report s m f
    go (inr (inl f)) = x10_report s m f
    go (inr (inr f)) = absurd f
