-- What the texts of keys report, computed over lists of keys with modifiers.
use Rattle.std.proofs.Common.{◌≡◌, ℕ, Bool, true, false, List, [], ◌∷◌, map, drop, Option, Some, None, refl, sym, ap, ◌∙◌, subst, Contains}
use Rattle.std.specs.Prelude.{if◌then◌else◌, option_map}
use Rattle.termwiz_keys.specs.Encoding.{enc}
use Rattle.termwiz_keys.specs.Keys.{key_with}
use Rattle.termwiz_keys.specs.declared.types.KeyCode.{KeyCode}
use Rattle.termwiz_keys.specs.declared.types.KeyCode.TheVariants.{Backspace}
use Rattle.termwiz_keys.specs.declared.types.KeyEvent.{KeyEvent}
use Rattle.termwiz_grammar.proofs.lemmas.lists.ListMembers.{same_on}
use Rattle.termwiz_laws.proofs.lemmas.further_keys.ComputedReadings.{Held}
use Rattle.termwiz_extended_events.specs.declared.types.KeyReport.{KeyReport}
use Rattle.termwiz_extended_events.specs.declared.types.Event.{Event}
use Rattle.termwiz_extended_events.specs.declared.types.Event.TheVariants.{Key, Mouse, Paste, FocusGained, FocusLost, CursorPosition, Resized, KeyboardFlags, Csi, Osc, Dcs, Apc, StringPart, StringCut}
use Rattle.termwiz_extended_events.specs.declared.types.Reading.{Reading}
use Rattle.termwiz_extended_events.specs.PortEvents.{pressed_key, typed_key, with_key}
use Rattle.termwiz_extended_events.specs.declared.types.Dialect.{Dialect}
use Rattle.termwiz_extended_events.specs.declared.types.Dialect.TheVariants.{Extended, Termwiz}
use Rattle.termwiz_extended_events.specs.Meanings.{event_of, IsKeyOrPosition}
use Rattle.termwiz_extended_grammar.specs.ExtendedGrammar.{Means}
use Rattle.termwiz_extended_grammar.specs.Readings.{event_in, is_asking}
use Rattle.termwiz_kitty.specs.KittyLaws.{read_by, read_key, IsReadAs}
use Rattle.termwiz_kitty.proofs.lemmas.PortKeys.{xterm_modes}
use Rattle.termwiz_kitty.proofs.lemmas.legacy.ReadAsOne.{ReadAs}
use Rattle.termwiz_kitty.proofs.lemmas.legacy.ReadAsOne.ReadAs.{as_key, as_report, apart}

abbrev pub is_report : Event → Bool
is_report (Key r) = true
is_report (CursorPosition row column) = true
is_report _ = false

-- the report of a sequence, or else that of the key
abbrev pub report_or : Event → KeyReport → Option KeyReport
report_or (Key r) other = Some r
report_or (CursorPosition row column) other = None
report_or _ other = Some other

-- The report of a text that the port reads as this key, while a question for the cursor's position is open or not; none where what follows its
-- first byte is a report too.
abbrev pub told_report : Bool → List ℕ → KeyReport → Option KeyReport
told_report asks text other = if is_report (event_of asks (drop 1 text)) then None else report_or (event_of asks text) other

reports_tested : (e : Event) → IsKeyOrPosition e → is_report e ≡ true
reports_tested (Mouse r) h = absurd h
reports_tested (Paste text) h = absurd h
reports_tested (Key r) h = refl
reports_tested FocusGained h = absurd h
reports_tested FocusLost h = absurd h
reports_tested (CursorPosition row column) h = refl
reports_tested (Resized r c h w) k = absurd k
reports_tested (KeyboardFlags flags) h = absurd h
reports_tested (Csi bytes) h = absurd h
reports_tested (Osc bytes) h = absurd h
reports_tested (Dcs bytes) h = absurd h
reports_tested (Apc bytes) h = absurd h
reports_tested (StringPart kind bytes) h = absurd h
reports_tested (StringCut kind bytes) h = absurd h

key_is : (e : Event) (r : KeyReport) → IsKeyOrPosition e → report_or e r ≡ Some r → e ≡ Key r
key_is (Mouse m) r h k = absurd h
key_is (Paste text) r h k = absurd h
key_is (Key q) r h k = cc (k)
key_is FocusGained r h k = absurd h
key_is FocusLost r h k = absurd h
key_is (CursorPosition row column) r h k = cc (k)
key_is (Resized a b c d) r h k = absurd h
key_is (KeyboardFlags flags) r h k = absurd h
key_is (Csi bytes) r h k = absurd h
key_is (Osc bytes) r h k = absurd h
key_is (Dcs bytes) r h k = absurd h
key_is (Apc bytes) r h k = absurd h
key_is (StringPart kind bytes) r h k = absurd h
key_is (StringCut kind bytes) r h k = absurd h

some_if : (b : Bool) (o : Option KeyReport) (r : KeyReport) → (if b then None else o) ≡ Some r → (b ≡ false) × (o ≡ Some r)
some_if true o r e = cc (e)
some_if false o r e = (refl, e)

-- A text that is told as a key is read as that key, if its report is that key's too.
pub told_is_read : (reading : Reading) (text : List ℕ) (k : KeyEvent) (r : KeyReport) (more : Bool) → ReadAs reading text k more
    → pressed_key (with_key k (typed_key reading.dialect reading text k.key)) ≡ r
    → told_report (is_asking reading) text r ≡ Some r → IsReadAs reading text more r
told_is_read reading text k r more (as_key means) typed e = subst (λ q. Means reading text more (Key q ∷ []) []) typed means
told_is_read reading text k r more (as_report is means) typed e =
    let both = some_if (is_report (event_in reading (drop 1 text))) (report_or (event_in reading text) r) r e in
    subst (λ event. Means reading text more (event ∷ []) []) (key_is (event_in reading text) r is.reports both.1) means
told_is_read reading text k r more (apart v splits is) typed e =
    let both = some_if (is_report (event_in reading (drop 1 text))) (report_or (event_in reading text) r) r e in
    let test : is_report (event_in reading v) ≡ false = subst (λ t. is_report (event_in reading (drop 1 t)) ≡ false) splits both.0 in
    let no = reports_tested (event_in reading v) is.reports in absurd (cc (test, no))

-- the report that a key is read as
abbrev pub read_report : Reading → Held → KeyReport
read_report reading p = pressed_key (key_with (read_key reading p.0) p.1)

abbrev pub report_if_some : Bool → Option (List ℕ) → KeyReport → Option KeyReport
report_if_some asks (Some text) other = told_report asks text other
report_if_some asks None other = None

abbrev pub sent_by : Held → Option (List ℕ)
sent_by p = enc p.0 (record { 0 = p.1 }) xterm_modes

abbrev pub told_of : Bool → Reading → Held → Option KeyReport
told_of asks reading p = report_if_some asks (sent_by p) (read_report reading p)

abbrev pub expected : Reading → Held → Option KeyReport
expected reading p = Some (read_report reading p)

-- each is told as it is read, whether a question is open or not
abbrev pub AllTold : List Held → Type 0
AllTold cases = (reading : Reading) (asks : Bool) → map (told_of asks reading) cases ≡ map (expected reading) cases

abbrev pub typed_of : Reading → Held → Option KeyCode
typed_of reading p = option_map (λ text. typed_key Extended reading text p.0) (sent_by p)

-- and the bytes of each type the key that it is read as
abbrev pub AllTyped : List Held → Type 0
AllTyped cases = (reading : Reading) → map (typed_of reading) cases ≡ map (λ p. Some (read_by Extended reading p.0)) cases

pub told_in : (cases : List Held) (p : Held) (reading : Reading) (asks : Bool) (text : List ℕ) → AllTold cases → Contains cases p
    → sent_by p ≡ Some text → told_report asks text (read_report reading p) ≡ Some (read_report reading p)
told_in cases p reading asks text test here sends =
    ap (λ o. report_if_some asks o (read_report reading p)) (sym sends)
    ∙ same_on (told_of asks reading) (expected reading) cases p (test reading asks) here

pub typed_in : (cases : List Held) (p : Held) (reading : Reading) (text : List ℕ) → AllTyped cases → Contains cases p → sent_by p ≡ Some text
    → typed_key reading.dialect reading text p.0 ≡ read_key reading p.0
typed_in cases p reading text test here sends = go reading.dialect
  where
    by_test : option_map (λ t. typed_key Extended reading t p.0) (Some text) ≡ Some (read_by Extended reading p.0)
    by_test = ap (option_map (λ t. typed_key Extended reading t p.0)) (sym sends)
        ∙ same_on (typed_of reading) (λ q. Some (read_by Extended reading q.0)) cases p (test reading) here

    same_key : (key : KeyCode) → key ≡ read_by Termwiz reading key
    same_key Backspace = refl
    same_key key = refl

    go : (dialect : Dialect) → typed_key dialect reading text p.0 ≡ read_by dialect reading p.0
    go Extended = cc (by_test)
    go Termwiz = same_key p.0
