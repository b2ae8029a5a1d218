-- A text that is one event with no more to come is that event with more to come too, unless it may begin something longer.
use Rattle.std.proofs.Common.{IsTrue, ◌||◌, ◌≡◌, ◌≢◌, ◌∙◌, ◌⊎◌, inl, inr, ℕ, ◌≤◌, true, false, List, [], ◌∷◌, ◌++◌, length, refl, sym, ap, subst, arith, Some, Contains, lit<, append-nil}
use Rattle.std.specs.Char.{is_ascii_alphanumeric, is_ascii_punctuation}
use Rattle.termwiz_keys.specs.Encoding.{enc}
use Rattle.termwiz_keys.specs.Introducers.{ESC, CSI, SS3, START}
use Rattle.termwiz_keys.specs.Keys.{ALT, escape, plain, with_alt, key_with}
use Rattle.termwiz_keys.specs.declared.types.KeyCode.TheVariants.{Char}
use Rattle.termwiz_keys.specs.declared.types.KeyEvent.{KeyEvent}
use Rattle.termwiz_keys.specs.declared.types.InputEvent.TheVariants as input
use Rattle.termwiz_grammar.specs.Grammar as port
use Rattle.termwiz_grammar.specs.Grammar.{replacement}
use Rattle.termwiz_grammar.specs.Sequences.{IsSequence}
use Rattle.termwiz_grammar.proofs.lemmas.read_back.WholeTexts.{row_means}
use Rattle.termwiz_grammar.proofs.lemmas.waiting.RestKinds.{alone}
use Rattle.termwiz_laws.specs.FurtherKeys.ReadsBackToo.{alt_character}
use Rattle.termwiz_laws.specs.KeyStreams.{Press, MayGoOn}
use Rattle.termwiz_laws.proofs.lemmas.further_keys.ComputedReadings.{enc_written_out}
use Rattle.termwiz_laws.proofs.lemmas.further_keys.FurtherReadings.{bits, further_keys_read_back}
use Rattle.termwiz_laws.proofs.lemmas.further_keys.SingleKey.{single}
use Rattle.termwiz_laws.proofs.lemmas.key_streams.NoFlush.{means_at_once}
use Rattle.termwiz_laws.proofs.lemmas.key_streams.OneKeyTexts.{OneKey, one_key}
use Rattle.termwiz_laws.proofs.lemmas.key_streams.OneKeyTexts.OneKey.{itself, after_escape, broken_byte, broken_after_escape}
use Rattle.termwiz_laws.proofs.lemmas.shared_texts.TwinKeys.{read_once, sent_means}
use Rattle.termwiz_extended_events.specs.declared.types.Event.{Event}
use Rattle.termwiz_extended_events.specs.declared.types.Event.TheVariants.{Key, CursorPosition}
use Rattle.termwiz_extended_events.specs.declared.types.Reading.{Reading}
use Rattle.termwiz_extended_events.specs.Meanings.{IsKey, IsKeyOrPosition}
use Rattle.termwiz_extended_grammar.specs.ExtraSequences as extra
use Rattle.termwiz_extended_grammar.specs.ExtendedGrammar.{HasItem, IsRest, Means, escape_event}
use Rattle.termwiz_extended_events.specs.PortEvents.{told}
use Rattle.termwiz_extended_grammar.specs.ExtendedGrammar.Stands.{alt_key, lone_escape}
use Rattle.termwiz_extended_grammar.specs.Readings.{after_events, event_in}
use Rattle.termwiz_extended_grammar.proofs.lemmas.cuts.ExtendedCuts.{cut_independent}
use Rattle.termwiz_extended_grammar.proofs.lemmas.items.ExtendedRests.{one_meaning}
use Rattle.termwiz_kitty.proofs.lemmas.PortKeys.{xterm_modes, held_that_wait}
use Rattle.termwiz_kitty.proofs.lemmas.legacy.ReadAsOne.{IsReportText, IsRead, ReadAs, read_as, row_is}
use Rattle.termwiz_kitty.proofs.lemmas.legacy.ReadAsOne.ReadAs.{as_key, as_report, apart}
use Rattle.termwiz_kitty.proofs.lemmas.legacy.WaitingKeys.{text_waits, rest_waits}
use Rattle.termwiz_binding_laws.proofs.lemmas.RowReports.{behind_row}

abbrev IsKeyOf : List ℕ → KeyEvent → Type 0
IsKeyOf text k = port.Means text false (input.Key k ∷ []) []

-- a key whose text begins something longer
abbrev pub Waits : KeyEvent → Type 0
Waits k = Contains held_that_wait (k.key, k.modifiers.0)

sent_as : (c : ℕ) (text : List ℕ) → IsTrue (is_ascii_alphanumeric c || is_ascii_punctuation c)
    → enc (Char c) (bits ALT) xterm_modes ≡ Some text → IsKeyOf text (key_with (Char c) ALT)
sent_as c text is sends =
    let press : Press = record { key = Char c; modifiers = bits ALT; modes = xterm_modes } in
    sent_means press text (further_keys_read_back (Char c) (bits ALT) xterm_modes (alt_character c xterm_modes is)) sends

bracket_sent : IsKeyOf CSI (key_with (Char 91) ALT)
unfolding enc_written_out
bracket_sent = sent_as 91 CSI refl refl

letter_sent : IsKeyOf SS3 (key_with (Char 79) ALT)
unfolding enc_written_out
letter_sent = sent_as 79 SS3 refl refl

-- ESC, ESC [ and ESC O, each with its key
three_wait : (text : List ℕ) (k : KeyEvent) → IsKeyOf text k → (text ≡ ESC) ⊎ (text ≡ CSI) ⊎ (text ≡ SS3) → Waits k
three_wait text k means (inl e) = subst Waits (read_once ESC escape k alone (subst (λ t. IsKeyOf t k) e means)) (0, lit< tt, refl)
three_wait text k means (inr (inl e)) =
    subst Waits (read_once CSI (key_with (Char 91) ALT) k bracket_sent (subst (λ t. IsKeyOf t k) e means)) (2, lit< tt, refl)
three_wait text k means (inr (inr e)) =
    subst Waits (read_once SS3 (key_with (Char 79) ALT) k letter_sent (subst (λ t. IsKeyOf t k) e means)) (3, lit< tt, refl)

-- and after an ESC
row_waits : (s : List ℕ) (j : KeyEvent) → IsKeyOf s j → (s ≡ ESC) ⊎ (s ≡ CSI) ⊎ (s ≡ SS3) → Waits (with_alt j)
row_waits s j means (inl e) =
    subst (λ i. Waits (with_alt i)) (read_once ESC escape j alone (subst (λ t. IsKeyOf t j) e means)) (1, lit< tt, refl)
row_waits s j means (inr (inl e)) =
    subst (λ i. Waits (with_alt i)) (read_once CSI (key_with (Char 91) ALT) j bracket_sent (subst (λ t. IsKeyOf t j) e means))
    (2, lit< tt, refl)
row_waits s j means (inr (inr e)) =
    subst (λ i. Waits (with_alt i)) (read_once SS3 (key_with (Char 79) ALT) j letter_sent (subst (λ t. IsKeyOf t j) e means))
    (3, lit< tt, refl)

no_start : (s : List ℕ) → (s ≡ ESC) ⊎ (s ≡ CSI) ⊎ (s ≡ SS3) → s ≢ START
no_start s (inl e) start = cc (e, start)
no_start s (inr (inl e)) start = cc (e, start)
no_start s (inr (inr e)) start = cc (e, start)

-- the key isn't that of a broken byte
abbrev pub IsWhole : List ℕ → KeyEvent → Type 0
IsWhole text k = length text ≤ 2 → (k ≢ plain replacement) × (k ≢ with_alt (plain replacement))

module _ (text : List ℕ) (k : KeyEvent) (means : IsKeyOf text k) (other : ¬ Waits k) (whole : IsWhole text k) where
  never : ¬ MayGoOn text
  unfolding IsSequence
  never on = go (one_key text k means on)
    where
      go : OneKey text k → ⊥
      go (itself three) = other (three_wait text k means three)
      go (after_escape s j row three e) = other (subst Waits (sym e) (row_waits s j (row_means s j row (no_start s three)) three))
      go (broken_byte e l) = (whole (omega (arith, l))).0 e
      go (broken_after_escape e l) = (whole (omega (arith, l))).1 e

  read_at_once : (reading : Reading) → IsRead reading text k true
  read_at_once reading = record {
    flushed = means;
    means = means_at_once text (input.Key k) means never;
    closed = λ h. other (text_waits reading text k means h.some h.beginning never);
    closed_after = λ v split h. other (rest_waits reading text v k means split h.some h.beginning never);
  }

-- a report of a key or of the cursor's position is of a key, or it isn't
key_or_not : (e : Event) → IsKeyOrPosition e → IsKey e ⊎ (¬ IsKey e)
key_or_not (Key r) h = inl tt
key_or_not (CursorPosition row column) h = inr (λ no. no)
key_or_not e h = absurd h

first_item : (reading : Reading) (text : List ℕ) (event : Event) → Means reading text true (event ∷ []) [] → HasItem reading text true
first_item reading text event means = (means.steps.0, event, means.steps.1)

-- some item stands at such a text
item : (reading : Reading) (text : List ℕ) (k : KeyEvent) → IsRead reading text k true → HasItem reading text true
item reading text k is = go (read_as reading text k true is)
  where
    behind : (v : List ℕ) → text ≡ ESC ++ v → IsReportText reading v → IsKey (event_in reading v) ⊎ (¬ IsKey (event_in reading v)) → HasItem reading text true
    behind v split report (inl key) =
        let row = behind_row reading text v k split (single text k is.flushed) report in (
          [],
          extra.with_alt (event_in reading v),
          alt_key v [] (event_in reading v) report.is_extra (record { is_key = key; layout = inl (row.0, row_is v row.0 row.1) })
              (split ∙ ap (λ u. ESC ++ u) (sym (append-nil v))),
        )
    behind v split report (inr position) = (
      v,
      escape_event,
      lone_escape v split (inl (record {
        text = v;
        event = event_in reading v;
        is_extra = report.is_extra;
        not_bare = λ bare. position bare.is_key;
        begins = ([], sym (append-nil v));
      })),
    )

    go : ReadAs reading text k true → HasItem reading text true
    go (as_key means) = first_item reading text (told reading text (input.Key k)) means
    go (as_report report means) = first_item reading text (event_in reading text) means
    go (apart v split report) = behind v split report (key_or_not (event_in reading v) report.reports)

-- two lists that join to one event
record IsOneEvent (e event : Event) (E D : List Event) : Type 0 where
  same : e ≡ event
  first : E ≡ []
  later : D ≡ []

one_event : (e event : Event) (E D : List Event) → e ∷ E ++ D ≡ event ∷ [] → IsOneEvent e event E D
one_event e event [] [] joined = record { same = cc (joined); first = refl; later = refl }
one_event e event [] (d ∷ D) joined = cc (joined)
one_event e event (d ∷ E) D joined = cc (joined)

-- what a flush reads as one event is that event at once, where some item stands
at_once : (reading : Reading) (text : List ℕ) (event : Event) → HasItem reading text true → Means reading text false (event ∷ []) []
    → Means reading text true (event ∷ []) []
at_once reading text event stands means = (let it = one_meaning reading text true in go it.0 it.1 it.2)
  where
    go : (E : List Event) (W : List ℕ) → Means reading text true E W → Means reading text true (event ∷ []) []
    go [] W rests =
        absurd (subst (λ u. IsRest reading u true) (sym rests.steps) rests.rest stands.0 stands.1 stands.2)
    go (e ∷ E) W some =
        let later = one_meaning (after_events reading (e ∷ E)) (W ++ []) false in
        let joined : Means reading text false (e ∷ E ++ later.0) later.1 =
        subst (λ t. Means reading t false (e ∷ E ++ later.0) later.1) (append-nil text)
        (cut_independent reading text [] W later.1 (e ∷ E) later.0 false some later.2) in
        let one = one_meaning reading text false in
        let found = one.3 (e ∷ E ++ later.0) later.1 joined in
        let wanted = one.3 (event ∷ []) [] means in
        let is = one_event e event E later.0 (found.0 ∙ sym wanted.0) in
        let nothing : later.1 ≡ [] = found.1 ∙ sym wanted.1 in
        let flushed : Means (after_events reading (e ∷ E)) (W ++ []) false [] [] =
        subst (λ D. Means (after_events reading (e ∷ E)) (W ++ []) false D []) is.later
        (subst (λ V. Means (after_events reading (e ∷ E)) (W ++ []) false later.0 V) nothing later.2) in
        let left : W ≡ [] = sym (append-nil W) ∙ flushed.steps in
        subst (λ V. Means reading text true (event ∷ []) V) left
        (subst (λ d. Means reading text true (d ∷ []) W) is.same (subst (λ D. Means reading text true (e ∷ D) W) is.first some))

-- a text of one key that doesn't wait is its event at once
pub key_at_once : (reading : Reading) (text : List ℕ) (k : KeyEvent) (event : Event) → IsKeyOf text k → ¬ Waits k → IsWhole text k
    → Means reading text false (event ∷ []) [] → Means reading text true (event ∷ []) []
key_at_once reading text k event key other whole means =
    at_once reading text event (item reading text k (read_at_once text k key other whole reading)) means
