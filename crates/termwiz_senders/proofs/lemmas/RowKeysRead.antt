-- A row that is read as a report has a key that the report may be.
use Rattle.std.proofs.Common.{◌≡◌, ◌≢◌, ℕ, Bool, true, false, List, [], ◌∷◌, ◌++◌, refl, sym, ap, ◌∙◌, subst, append-nil, Contains, map, Option, Some, None}
use Rattle.termwiz_keymap.specs.Bytes.{Occurs}
use Rattle.termwiz_keys.specs.Introducers.{START, END}
use Rattle.termwiz_keys.specs.declared.types.KeyCode.{KeyCode}
use Rattle.termwiz_keys.specs.declared.types.KeyEvent.{KeyEvent}
use Rattle.termwiz_grammar.specs.Grammar as port
use Rattle.termwiz_grammar.specs.Sequences.{IsSequence}
use Rattle.termwiz_grammar.specs.Sequences.Meaning.{Row}
use Rattle.termwiz_grammar.specs.Table.{TableRow, rows, written_out}
use Rattle.termwiz_grammar.proofs.lemmas.lists.ListMembers.{same_on}
use Rattle.termwiz_grammar.proofs.lemmas.items.OneHead.{longest_whole}
use Rattle.termwiz_grammar.proofs.lemmas.waiting.RestShape.{endless_rests}
use Rattle.termwiz_extended_events.specs.declared.types.Dialect.{Dialect}
use Rattle.termwiz_extended_events.specs.declared.types.Dialect.TheVariants.{Extended, Termwiz}
use Rattle.termwiz_extended_events.specs.declared.types.EraseByte.{EraseByte}
use Rattle.termwiz_extended_events.specs.declared.types.EraseByte.TheVariants as erase
use Rattle.termwiz_extended_events.specs.declared.types.NewlineByte.{NewlineByte}
use Rattle.termwiz_extended_events.specs.declared.types.NewlineByte.TheVariants as newline
use Rattle.termwiz_extended_events.specs.declared.types.Event.{Event}
use Rattle.termwiz_extended_events.specs.declared.types.Event.TheVariants.{Key}
use Rattle.termwiz_extended_events.specs.declared.types.KeyReport.{KeyReport}
use Rattle.termwiz_extended_events.specs.declared.types.Reading.{Reading}
use Rattle.termwiz_extended_events.specs.KeyReports.{manner_of, modifiers_of, kind_of, optional_scalar, codes_of, text_of, character_key, lettered_key, numbered_key, other_held, other_key, key_report, third_function_key, back_tab, short_key, middle_key, further_key, rxvt_key, console_key, keypad_key, modified_keypad_key}
use Rattle.termwiz_extended_events.specs.Meanings.{event_of, event_after, reported, keypad_reported, string_text}
use Rattle.termwiz_extended_events.specs.Numbers.{before_end, after_start, number_within, scalar}
use Rattle.termwiz_extended_events.specs.PortEvents.{pressed_key, typed_key, with_key}
use Rattle.termwiz_extended_events.specs.ReportedKeys.{functional_key, key_of, tilde_key, rxvt_key_at}
use Rattle.termwiz_extended_grammar.specs.ExtendedGrammar.{Stands}
use Rattle.termwiz_extended_grammar.specs.ExtendedGrammar.Stands.{extra, alt_key, lone_escape, string, usual}
use Rattle.termwiz_extended_grammar.specs.Readings.{is_asking}
use Rattle.termwiz_extended_grammar.proofs.lemmas.items.ExtendedItems.{apart_starts, starts_with}
use Rattle.termwiz_extended_events.specs.Replies.{focus, cursor_position, keyboard_flags, resize, urxvt_mouse, x10_mouse, sgr_side_button, urxvt_side_button, x10_side_button, side_button, mouse_report, reply}
use Rattle.termwiz_kitty.proofs.lemmas.legacy.ReadAsOne.{row_is}
use Rattle.termwiz_senders.specs.KeyTexts.{IsReadAsKey}
use Rattle.termwiz_senders.specs.RowKeys.{main_code, row_code, row_modifiers}
use Rattle.termwiz_senders.proofs.lemmas.ReadAlone.{means_once}
use Rattle.termwiz_senders.proofs.lemmas.RowsAlone.{told_key, behind_row, row_read}
use Rattle.termwiz_senders.proofs.lemmas.StringsAlone.{IsOfString, comes_of_string}

-- a report may be this key
pub record MayBeKey (r : KeyReport) (key : KeyEvent) : Type 0 where
  pub code : row_code r ≡ Some (main_code key.key)
  pub held : key.modifiers.0 ≡ row_modifiers r.modifiers

-- both of what is to be the same
abbrev Compared : Type 0
Compared = Option (Option KeyCode × ℕ)

abbrev of_event : Event → Compared
of_event (Key r) = Some (row_code r, row_modifiers r.modifiers)
of_event event = None

abbrev of_key : KeyEvent → Event → Compared
of_key k (Key r) = Some (Some (main_code k.key), k.modifiers.0)
of_key k event = None

-- the rows as extra sequences
extra_rows : (asks : Bool) → map (λ (row : TableRow). of_event (event_of asks row.0)) rows ≡ map (λ (row : TableRow). of_key row.1 (event_of asks row.0)) rows
unfolding written_out event_of event_after reported keypad_reported key_report character_key lettered_key numbered_key other_key other_held
    third_function_key further_key back_tab short_key middle_key rxvt_key console_key keypad_key modified_keypad_key manner_of modifiers_of
    optional_scalar codes_of text_of before_end number_within scalar functional_key key_of tilde_key rxvt_key_at kind_of
    focus cursor_position keyboard_flags resize reply urxvt_mouse x10_mouse sgr_side_button urxvt_side_button x10_side_button side_button
    mouse_report after_start string_text
extra_rows true = refl
extra_rows false = refl

extra_key : (asks : Bool) (text : List ℕ) (k : KeyEvent) (r : KeyReport) → Contains rows (text, k) → event_of asks text ≡ Key r → MayBeKey r k
extra_key asks text k r row e =
    let same : of_event (event_of asks text) ≡ of_key k (event_of asks text) =
    same_on (λ (row : TableRow). of_event (event_of asks row.0)) (λ (row : TableRow). of_key row.1 (event_of asks row.0)) rows (text, k)
    (extra_rows asks) row in
    let both : Some (row_code r, row_modifiers r.modifiers) ≡ Some (Some (main_code k.key), k.modifiers.0) =
    subst (λ d. of_event d ≡ of_key k d) e same in
    let told : Option KeyCode × ℕ = (row_code r, row_modifiers r.modifiers) in
    let had : Option KeyCode × ℕ = (Some (main_code k.key), k.modifiers.0) in
    let pair : told ≡ had = cc (both) in
    record { code = ap (λ p. p.0) pair; held = sym (ap (λ p. p.1) pair) }

-- the rows as they are told
abbrev reading_with : Dialect → EraseByte → NewlineByte → Reading
reading_with dialect erase_byte newline_byte =
    record { dialect = dialect; x10_mouse = false; questions = 0; erase = erase_byte; newline = newline_byte }

abbrev of_report : KeyReport → Option KeyCode × ℕ
of_report r = (row_code r, row_modifiers r.modifiers)

TellsRows : Dialect → EraseByte → NewlineByte → Type 0
TellsRows d e n = map (λ (row : TableRow). of_report (told_key (reading_with d e n) row.0 row.1)) rows
    ≡ map (λ (row : TableRow). (Some (main_code row.1.key), row.1.modifiers.0)) rows

told_rows : (d : Dialect) (e : EraseByte) (n : NewlineByte) → TellsRows d e n
unfolding TellsRows written_out
told_rows Termwiz e n = refl
told_rows Extended erase.Delete newline.CtrlJ = refl
told_rows Extended erase.Delete newline.Enter = refl
told_rows Extended erase.Backspace newline.CtrlJ = refl
told_rows Extended erase.Backspace newline.Enter = refl

told_alike : (reading : Reading) (text : List ℕ) (k : KeyEvent)
    → told_key (reading_with reading.dialect reading.erase reading.newline) text k ≡ told_key reading text k
told_alike reading text k = go reading.dialect
  where
    go : (d : Dialect) → pressed_key (with_key k (typed_key d (reading_with reading.dialect reading.erase reading.newline) text k.key))
        ≡ pressed_key (with_key k (typed_key d reading text k.key))
    go Termwiz = refl
    go Extended = refl

told_key_is : (reading : Reading) (text : List ℕ) (k : KeyEvent) → Contains rows (text, k) → MayBeKey (told_key reading text k) k
unfolding TellsRows
told_key_is reading text k row =
    let with = reading_with reading.dialect reading.erase reading.newline in
    let both : of_report (told_key with text k) ≡ (Some (main_code k.key), k.modifiers.0) =
    same_on (λ (row : TableRow). of_report (told_key with row.0 row.1)) (λ (row : TableRow). (Some (main_code row.1.key), row.1.modifiers.0)) rows
    (text, k) (told_rows reading.dialect reading.erase reading.newline) row in
    subst (λ r. MayBeKey r k) (told_alike reading text k) (record { code = ap (λ p. p.0) both; held = sym (ap (λ p. p.1) both) })

-- START begins a paste, and is no key
start_rests : (k : KeyEvent) → IsSequence START (Row k) → port.IsRest START false
start_rests k is = endless_rests START false k (longest_whole START (Row k) is) [] refl no_end
  where
    no_end : Occurs END [] → ⊥
    no_end ([], after, e) = cc (e)
    no_end (x ∷ before, after, e) = cc (e)

-- A row that is read as a report.
pub row_key_read : (reading : Reading) (r : KeyReport) (bytes : List ℕ) (k : KeyEvent) → Contains rows (bytes, k)
    → IsReadAsKey reading r bytes → MayBeKey r k
row_key_read reading r bytes k row read = by_stands read.steps.0 (Key r) read.steps.1 refl read.steps.2
  where
    is : IsSequence bytes (Row k)
    is = row_is bytes k row

    by_stands : (left : List ℕ) (event : Event) → Stands reading bytes false left event → event ≡ Key r → left ≡ [] → MayBeKey r k
    by_stands left event (extra text l d x split) e none =
        let whole : bytes ≡ text = split ∙ ap (λ z. text ++ z) none ∙ append-nil text in
        extra_key (is_asking reading) bytes k r row (ap (event_of (is_asking reading)) whole ∙ sym x.means ∙ e)
    by_stands left event (alt_key text l d x bare split) e none =
        absurd ((behind_row reading bytes (text ++ l) k is split).none (starts_with reading text l d x))
    by_stands left event (lone_escape l split apart) e none = absurd ((behind_row reading bytes l k is split).none (apart_starts reading l apart))
    by_stands left event (string kind head own after l d reads x comes) e none =
        absurd (subst IsOfString e (comes_of_string kind head own after l false d comes))
    by_stands left event (usual own l d stands split here after) e none =
        let other : bytes ≢ START = λ same. start_rests k (subst (λ t. IsSequence t (Row k)) same is) own d
        (subst (λ t. port.Stands t false own d) same stands) in
        let its = row_read reading bytes k is other here in
        let once : Key (told_key reading bytes k) ≡ Key r = means_once reading bytes false (Key (told_key reading bytes k)) (Key r) its read in
        subst (λ q. MayBeKey q k) (let same : told_key reading bytes k ≡ r = cc (once) in same) (told_key_is reading bytes k row)
