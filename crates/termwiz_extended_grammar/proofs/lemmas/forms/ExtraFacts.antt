-- What the laws use of the extra sequences, and nothing else.
use Rattle.std.proofs.Common.{◌≡◌, ◌≢◌, ◌⊎◌, inl, inr, ⊎_elim, ℕ, ◌≤◌, Bool, List, [], ◌∷◌, ◌++◌, length, refl, sym, ap, ◌∙◌, subst, arith, get_or}
use Rattle.std.specs.Prelude.{codes}
use Rattle.termwiz_keymap.proofs.lemmas.lists.CommonPrefixes.{append-some}
use Rattle.termwiz_keys.specs.Introducers.{CSI, START}
use Rattle.termwiz_grammar.specs.Sequences.{Meaning, IsSequence}
use Rattle.termwiz_grammar.specs.Sequences.Meaning.{Row, Report}
use Rattle.termwiz_grammar.proofs.lemmas.lists.Decidable.{Decision, decide_by, decide_both, decide_either, decide_eq, decide_parts}
use Rattle.termwiz_grammar.proofs.lemmas.table.SequenceFacts.{sequence_once, sequence_or_not}
use Rattle.termwiz_extended_events.specs.declared.types.Event.{Event}
use Rattle.termwiz_extended_events.specs.declared.types.Event.TheVariants.{Key, Mouse, Paste, FocusGained, FocusLost, CursorPosition, Resized, KeyboardFlags, Csi, Osc, Dcs, Apc, StringPart, StringCut}
use Rattle.termwiz_extended_events.specs.declared.types.Dialect.{Dialect}
use Rattle.termwiz_extended_events.specs.declared.types.Dialect.TheVariants.{Extended, Termwiz}
use Rattle.termwiz_extended_events.specs.declared.types.Reading.{Reading}
use Rattle.termwiz_extended_events.specs.Meanings.{IsKey, IsPosition, IsKeyOrPosition}
use Rattle.termwiz_extended_grammar.specs.Forms.{introducer, IsRxvtNumber, IsKeypadKey, IsForm, IsUnfinishedForm}
use Rattle.termwiz_extended_grammar.specs.Forms.IsForm.{control}
use Rattle.termwiz_extended_grammar.specs.ExtraSequences.{IsFree, IsExtra, StartsWithExtra, IsUnfinishedExtra, IsRow, EndsAsRxvt, IsLetteredKey, IsRxvtFunction, IsBareKey}
use Rattle.termwiz_extended_grammar.specs.Readings.{ReadsMore, event_in}
use Rattle.termwiz_extended_grammar.specs.ExtendedGrammar.{StartsExtended, BeginsExtended}
use Rattle.termwiz_extended_grammar.specs.Strings.{IsUnfinishedOpening}
use Rattle.termwiz_extended_grammar.proofs.lemmas.forms.FormBytes.{IsMark, form_shape, mark_shape, opening_mark}
use Rattle.termwiz_extended_grammar.proofs.lemmas.forms.FormOrNot.{IsUnfinishedMark, form_or_not, keypad_or_not, lettered_or_not, opening_starts_or_not, rxvt_function_or_not, unfinished_mark_or_not}
use Rattle.termwiz_extended_grammar.proofs.lemmas.forms.Unfinished.{free_completion, unfinished_form_short, unfinished_opening_short, last_of, one_last}

-- a text that the port doesn't read is free under every reading
pub free_from_none : (reading : Reading) (text : List ℕ) → ((m : Meaning) → ¬ IsSequence text m) → IsFree reading text
free_from_none reading text none = λ m is. absurd (none m is)

key_or_not : (event : Event) → Decision (IsKey event)
key_or_not (Mouse report) = inr (λ h. h)
key_or_not (Paste text) = inr (λ h. h)
key_or_not (Key report) = inl tt
key_or_not FocusGained = inr (λ h. h)
key_or_not FocusLost = inr (λ h. h)
key_or_not (CursorPosition row column) = inr (λ h. h)
key_or_not (Resized r c h w) = inr (λ h. h)
key_or_not (KeyboardFlags flags) = inr (λ h. h)
key_or_not (Csi bytes) = inr (λ h. h)
key_or_not (Osc bytes) = inr (λ h. h)
key_or_not (Dcs bytes) = inr (λ h. h)
key_or_not (Apc bytes) = inr (λ h. h)
key_or_not (StringPart kind bytes) = inr (λ h. h)
key_or_not (StringCut kind bytes) = inr (λ h. h)

position_or_not : (event : Event) → Decision (IsPosition event)
position_or_not (Mouse report) = inr (λ h. h)
position_or_not (Paste text) = inr (λ h. h)
position_or_not (Key report) = inr (λ h. h)
position_or_not FocusGained = inr (λ h. h)
position_or_not FocusLost = inr (λ h. h)
position_or_not (CursorPosition row column) = inl tt
position_or_not (Resized r c h w) = inr (λ h. h)
position_or_not (KeyboardFlags flags) = inr (λ h. h)
position_or_not (Csi bytes) = inr (λ h. h)
position_or_not (Osc bytes) = inr (λ h. h)
position_or_not (Dcs bytes) = inr (λ h. h)
position_or_not (Apc bytes) = inr (λ h. h)
position_or_not (StringPart kind bytes) = inr (λ h. h)
position_or_not (StringCut kind bytes) = inr (λ h. h)

either_told : (event : Event) → IsKey event ⊎ IsPosition event → IsKeyOrPosition event
either_told (Key report) h = tt
either_told (CursorPosition row column) h = tt
either_told (Mouse report) h = ⊎_elim (λ k. k) (λ k. k) h
either_told (Paste text) h = ⊎_elim (λ k. k) (λ k. k) h
either_told FocusGained h = ⊎_elim (λ k. k) (λ k. k) h
either_told FocusLost h = ⊎_elim (λ k. k) (λ k. k) h
either_told (Resized r c i w) h = ⊎_elim (λ k. k) (λ k. k) h
either_told (KeyboardFlags flags) h = ⊎_elim (λ k. k) (λ k. k) h
either_told (Csi bytes) h = ⊎_elim (λ k. k) (λ k. k) h
either_told (Osc bytes) h = ⊎_elim (λ k. k) (λ k. k) h
either_told (Dcs bytes) h = ⊎_elim (λ k. k) (λ k. k) h
either_told (Apc bytes) h = ⊎_elim (λ k. k) (λ k. k) h
either_told (StringPart kind bytes) h = ⊎_elim (λ k. k) (λ k. k) h
either_told (StringCut kind bytes) h = ⊎_elim (λ k. k) (λ k. k) h

told_either : (event : Event) → IsKeyOrPosition event → IsKey event ⊎ IsPosition event
told_either (Key report) h = inl tt
told_either (CursorPosition row column) h = inr tt
told_either (Mouse report) h = absurd h
told_either (Paste text) h = absurd h
told_either FocusGained h = absurd h
told_either FocusLost h = absurd h
told_either (Resized r c i w) h = absurd h
told_either (KeyboardFlags flags) h = absurd h
told_either (Csi bytes) h = absurd h
told_either (Osc bytes) h = absurd h
told_either (Dcs bytes) h = absurd h
told_either (Apc bytes) h = absurd h
told_either (StringPart kind bytes) h = absurd h
told_either (StringCut kind bytes) h = absurd h

told_or_not : (event : Event) → Decision (IsKeyOrPosition event)
told_or_not event = decide_by (either_told event) (told_either event) (decide_either (key_or_not event) (position_or_not event))

-- it can be told whether more than the port's sequences is read
pub reads_or_not : (reading : Reading) → Decision (ReadsMore reading)
reads_or_not reading = go reading.dialect
  where
    go : (dialect : Dialect) → Decision (dialect ≡ Extended)
    go Extended = inl refl
    go Termwiz = inr (λ h. cc (h))

free_or_not : (reading : Reading) (text : List ℕ) → Decision (IsFree reading text)
free_or_not reading text = ⊎_elim
    (λ (known : (m : Meaning) × IsSequence text m).
    by_meaning known.0 known.1 (told_or_not (event_in reading text)))
    (λ (none : ((m : Meaning) × IsSequence text m) → ⊥). inl (λ m is. absurd (none (m, is))))
    (sequence_or_not text)
  where
    by_meaning : (m : Meaning) → IsSequence text m → Decision (IsKeyOrPosition (event_in reading text))
        → Decision (IsFree reading text)
    by_meaning (Row key) is (inl its) = inl (λ n it. (key, sequence_once text n (Row key) it is, its))
    by_meaning (Row key) is (inr other) = inr (λ free. other (free (Row key) is).2)
    by_meaning (Report report) is its = inr (λ free. let same : Report report ≡ Row (free (Report report) is).0 = (free (Report report) is).1 in cc (same))

-- it can be told whether a text is an extra sequence
pub extra_or_not : (reading : Reading) (text : List ℕ) → Decision ((event : Event) × IsExtra reading text event)
extra_or_not reading text = go (reads_or_not reading) (form_or_not reading.x10_mouse text) (free_or_not reading text)
  where
    go : Decision (ReadsMore reading) → Decision (IsForm reading.x10_mouse text) → Decision (IsFree reading text)
        → Decision ((event : Event) × IsExtra reading text event)
    go (inl reads) (inl form) (inl free) =
        inl (event_in reading text, record { reads = reads; is_form = form; is_free = free; means = refl })
    go (inl reads) (inl form) (inr never) = inr (λ h. never h.1.is_free)
    go (inl reads) (inr never) free = inr (λ h. never h.1.is_form)
    go (inr never) form free = inr (λ h. never h.1.reads)

row_or_not : (text : List ℕ) → Decision (IsRow text)
row_or_not text = ⊎_elim
    (λ (known : (m : Meaning) × IsSequence text m). by_meaning known.0 known.1)
    (λ (none : ((m : Meaning) × IsSequence text m) → ⊥). inr (λ row. none (Row row.0, row.1)))
    (sequence_or_not text)
  where
    by_meaning : (m : Meaning) → IsSequence text m → Decision (IsRow text)
    by_meaning (Row key) is = inl (key, is)
    by_meaning (Report report) is = inr (λ row. cc (sequence_once text (Report report) (Row row.0) is row.1))

rxvt_end_or_not : (text : List ℕ) → Decision (EndsAsRxvt text)
rxvt_end_or_not [] = inr (λ h. append-some h.0 (h.1 ∷ []) (λ k. cc (k)) (sym h.2))
rxvt_end_or_not (x ∷ t) =
    let l = last_of (x ∷ t) (λ k. cc (k)) in
    decide_by
    (λ (is : (l.1 ≡ 94) ⊎ ((l.1 ≡ 64) ⊎ (l.1 ≡ 36))). (l.0, l.1, l.2, is))
    (λ (h : EndsAsRxvt (x ∷ t)).
    subst (λ z. (z ≡ 94) ⊎ ((z ≡ 64) ⊎ (z ≡ 36))) (one_last h.0 l.0 h.1 l.1 (sym h.2 ∙ l.2)).1 h.3)
    (decide_either (decide_eq l.1 94) (decide_either (decide_eq l.1 64) (decide_eq l.1 36)))

-- it can be told whether a text is a bare key
pub bare_or_not : (reading : Reading) (text : List ℕ) → Decision (IsBareKey reading text)
bare_or_not reading text = decide_by
    (λ (h : IsKey (event_in reading text)
    × (IsRow text ⊎ (IsKeypadKey text ⊎ (EndsAsRxvt text ⊎ (IsRxvtFunction text ⊎ IsLetteredKey text))))). record { is_key = h.0; layout = h.1 })
    (λ (b : IsBareKey reading text). (b.is_key, b.layout))
    (decide_both (key_or_not (event_in reading text)) (decide_either (row_or_not text) (decide_either (keypad_or_not text)
    (decide_either (rxvt_end_or_not text) (decide_either (rxvt_function_or_not text) (lettered_or_not text))))))

-- and whether one begins a text
pub starts_or_not : (reading : Reading) (u : List ℕ) → Decision (StartsWithExtra reading u)
starts_or_not reading u = decide_by
    (λ (h : (a : List ℕ) × (b : List ℕ) × (u ≡ a ++ b) × ((event : Event) × IsExtra reading a event)).
    record { text = h.0; event = h.3.0; is_extra = h.3.1; begins = (h.1, h.2) })
    (λ (h : StartsWithExtra reading u). (h.text, h.begins.0, h.begins.1, (h.event, h.is_extra)))
    (decide_parts (λ a b. (event : Event) × IsExtra reading a event) (λ a b. extra_or_not reading a) u)

-- what properly begins a form properly begins an extra sequence
pub unfinished_from_form : (reading : Reading) (u : List ℕ) → ReadsMore reading → IsUnfinishedForm reading.x10_mouse u
    → IsUnfinishedExtra reading u
unfinished_from_form reading u reads h =
    let c = free_completion u h in
    record {
      tail = c.tail;
      longer = c.longer;
      event = event_in reading (u ++ c.tail);
      is_extra = record { reads = reads; is_form = c.is_form; is_free = free_from_none reading (u ++ c.tail) c.free; means = refl };
    }

pub mark_from_unfinished : (reading : Reading) (u : List ℕ) → BeginsExtended reading u → IsUnfinishedMark reading.x10_mouse u
mark_from_unfinished reading u (inl h) = inl (record { tail = h.tail; longer = h.longer; is_form = h.is_extra.is_form })
mark_from_unfinished reading u (inr h) = inr h.1

-- a mark that is longer than u and begins with u
pub completed_mark : {x10_mouse : Bool} (u : List ℕ) → IsUnfinishedMark x10_mouse u → (tail : List ℕ) × (tail ≢ []) × IsMark x10_mouse (u ++ tail)
completed_mark u (inl h) = (h.tail, h.longer, inl h.is_form)
completed_mark u (inr h) = (h.tail, h.longer, inr (record { kind = h.kind; head = h.head; is_head = h.is_head; form = sym h.spells }))

pub mark_unfinished : {x10_mouse : Bool} (u tail : List ℕ) → tail ≢ [] → IsMark x10_mouse (u ++ tail) → IsUnfinishedMark x10_mouse u
mark_unfinished u tail longer (inl f) = inl (record { tail = tail; longer = longer; is_form = f })
mark_unfinished u tail longer (inr o) =
    inr (record { tail = tail; longer = longer; kind = o.kind; head = o.head; is_head = o.is_head; spells = sym o.form })

-- what properly begins a mark is short
pub unfinished_short : {x10_mouse : Bool} (u : List ℕ) → IsUnfinishedMark x10_mouse u → length u ≤ 255
unfinished_short u (inl h) = unfinished_form_short u h
unfinished_short u (inr h) = unfinished_opening_short u h

-- where something longer is begun, more than the port's sequences is read
pub unfinished_reads : (reading : Reading) (u : List ℕ) → BeginsExtended reading u → ReadsMore reading
unfinished_reads reading u (inl h) = h.is_extra.reads
unfinished_reads reading u (inr h) = h.0

-- and where something is there too
pub starts_reads : (reading : Reading) (u : List ℕ) → StartsExtended reading u → ReadsMore reading
starts_reads reading u (inl h) = h.is_extra.reads
starts_reads reading u (inr h) = h.0

pub unfinished_extended_or_not : (reading : Reading) (u : List ℕ) → Decision (BeginsExtended reading u)
unfinished_extended_or_not reading u = decide_by
    (λ (h : ReadsMore reading × IsUnfinishedMark reading.x10_mouse u). ⊎_elim
    (λ (f : IsUnfinishedForm reading.x10_mouse u). inl (unfinished_from_form reading u h.0 f))
    (λ (o : IsUnfinishedOpening u). inr (h.0, o))
    h.1)
    (λ (h : BeginsExtended reading u). (unfinished_reads reading u h, mark_from_unfinished reading u h))
    (decide_both (reads_or_not reading) (unfinished_mark_or_not reading.x10_mouse u))

-- and whether an extra sequence or an opening begins it
pub starts_extended_or_not : (reading : Reading) (u : List ℕ) → Decision (StartsExtended reading u)
starts_extended_or_not reading u =
    decide_either (starts_or_not reading u) (decide_both (reads_or_not reading) (opening_starts_or_not u))

-- what begins with an extra sequence or an opening begins with a mark
pub starts_mark : (reading : Reading) (u : List ℕ) → StartsExtended reading u → (text rest : List ℕ) × IsMark reading.x10_mouse text × (u ≡ text ++ rest)
starts_mark reading u (inl h) = (h.text, h.begins.0, inl h.is_extra.is_form, h.begins.1)
starts_mark reading u (inr (reads, o)) = (introducer o.kind ++ o.head, o.begins.0, inr (opening_mark u o), o.begins.1)

-- a text has one event
pub extra_once : (reading : Reading) (text : List ℕ) (d e : Event) → IsExtra reading text d → IsExtra reading text e → d ≡ e
extra_once reading text d e a b = a.means ∙ sym b.means

pub extra_some : (reading : Reading) (text : List ℕ) (e : Event) → IsExtra reading text e → text ≢ []
extra_some reading text e is = (let s = form_shape text is.is_form in λ none. cc (s.2, none))

-- the empty text begins with neither
pub none_at_end : (reading : Reading) → ¬ StartsExtended reading []
none_at_end reading h =
    let m = starts_mark reading [] h in
    let s = mark_shape m.0 m.2 in
    cc (m.3 ∙ ap (λ z. z ++ m.1) s.2)

-- START begins with no key of rxvt-unicode's
start_shifts_none : (number rest : List ℕ) → IsRxvtNumber number → START ≡ CSI ++ number ++ 36 ∷ [] ++ rest → ⊥
start_shifts_none [] rest is e = is
start_shifts_none (d ∷ []) rest is e = (let same : ◌≡◌ {A = ℕ} 48 36 = ap (λ t. get_or t 3 0) e in omega arith)
start_shifts_none (d ∷ c ∷ []) rest is e = (let same : ◌≡◌ {A = ℕ} 48 36 = ap (λ t. get_or t 4 0) e in omega arith)
start_shifts_none (d ∷ c ∷ b ∷ number) rest is e = is

-- START has the form of a control sequence
pub start_form : {x10_mouse : Bool} → IsForm x10_mouse START
start_form = control (record {
  inner = codes "200";
  last = 126;
  form = refl;
  each = ((omega arith, omega arith), ((omega arith, omega arith), ((omega arith, omega arith), tt)));
  last_is = (omega arith, omega arith);
  short = omega arith;
  no_mouse = λ on b. (let e : ◌≡◌ {A = ℕ} 50 77 = ap (λ t. get_or t 2 0) b.1 in omega arith);
  no_console = λ b. (let e : ◌≡◌ {A = ℕ} 50 91 = ap (λ t. get_or t 2 0) b.1 in omega arith);
  no_row = λ digit is b. (let e : ◌≡◌ {A = ℕ} 48 36 = ap (λ t. get_or t 3 0) b.1 in omega arith);
  no_shifted = λ number is b. start_shifts_none number b.0 is b.1;
})
