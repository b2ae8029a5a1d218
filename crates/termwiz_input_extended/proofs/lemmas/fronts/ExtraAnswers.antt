-- Whether a form is an extra sequence, and what extra sequence or opening begins a text by the form that does.
use Rattle.std.proofs.Common.{◌≡◌, inl, inr, ℕ, Bool, true, false, List, ◌++◌, take, drop, refl, sym, ap, ◌∙◌, subst, append_assoc, take-append-drop, Contains, Option, Some, None}
use Rattle.std.specs.Prelude.{IfSome}
use Rattle.termwiz_keymap.specs.Bytes.{Begins}
use Rattle.termwiz_keymap.proofs.lemmas.lists.CommonPrefixes.{append-some}
use Rattle.termwiz_keys.specs.declared.types.KeyEvent.{KeyEvent}
use Rattle.termwiz_keys.specs.declared.types.MouseEvent.{MouseEvent}
use Rattle.termwiz_grammar.specs.Table.{rows as table_rows}
use Rattle.termwiz_grammar.specs.MouseReports.{IsMouseReport}
use Rattle.termwiz_grammar.specs.Sequences.{Meaning, IsSequence}
use Rattle.termwiz_grammar.specs.Sequences.Meaning.{Row, Report}
use Rattle.termwiz_grammar.specs.Grammar.{IsUnfinishedSequence}
use Rattle.termwiz_extended_events.specs.declared.types.Event.{Event}
use Rattle.termwiz_extended_events.specs.declared.types.Event.TheVariants.{Key}
use Rattle.termwiz_extended_events.specs.declared.types.PlainReport.{PlainReport}
use Rattle.termwiz_extended_events.specs.KeyReports.{plain_report}
use Rattle.termwiz_extended_events.specs.declared.types.Reading.{Reading}
use Rattle.termwiz_extended_events.specs.Meanings.{event_of, IsKeyOrPosition}
use Rattle.termwiz_extended_grammar.specs.Forms.{introducer, IsForm}
use Rattle.termwiz_extended_grammar.specs.ExtraSequences.{IsFree, IsExtra, IsRow}
use Rattle.termwiz_extended_grammar.specs.Readings.{ReadsMore, event_in, is_asking}
use Rattle.termwiz_extended_grammar.specs.Strings.{IsUnfinishedOpening, StartsWithOpening}
use Rattle.termwiz_extended_grammar.specs.ExtendedGrammar.{BeginsExtended, StartsExtended}
use Rattle.termwiz_input_extended.specs.NextItems.{IsSomeExtra, IsUnfinishedFront}
use Rattle.termwiz_extended_grammar.proofs.lemmas.forms.FormBytes.{IsMark, opening_mark}
use Rattle.termwiz_extended_grammar.proofs.lemmas.forms.FormEnds.{form_no_opening, mark_ends, sequence_after_mark}
use Rattle.termwiz_extended_grammar.proofs.lemmas.forms.ExtraFacts.{completed_mark, free_from_none, mark_from_unfinished, unfinished_from_form}
use Rattle.termwiz_extended_grammar.proofs.lemmas.items.StringItems.{mark_once}

-- a mouse report is no extra sequence
pub report_not_extra : (reading : Reading) (text : List ℕ) (r : MouseEvent) (event : Event) → IsMouseReport text r
    → IsExtra reading text event → ⊥
unfolding IsSequence
report_not_extra reading text r event is extra = let same : Report r ≡ Row (extra.is_free (Report r) is).0 = (extra.is_free (Report r) is).1 in cc (same)

-- a form that is no mouse report and no row is an extra sequence
pub unknown_is_extra : (reading : Reading) (text : List ℕ) → ReadsMore reading → IsForm reading.x10_mouse text → (((r : MouseEvent) × IsMouseReport text r) → ⊥)
    → (((key : KeyEvent) × Contains table_rows (text, key)) → ⊥) → (event : Event) × IsExtra reading text event
unfolding IsSequence
unknown_is_extra reading text reads form no_report no_row =
    (event_in reading text, record { reads = reads; is_form = form; is_free = free_from_none reading text unknown; means = refl })
  where
    unknown : (m : Meaning) → IsSequence text m → ⊥
    unknown (Row key) is = no_row (key, is)
    unknown (Report r) is = no_report (r, is)

-- a row is one if its event is a report of a key or of the cursor's position
pub reported_is_extra : (reading : Reading) (text : List ℕ) → ReadsMore reading → IsForm reading.x10_mouse text → (((r : MouseEvent) × IsMouseReport text r) → ⊥)
    → IsKeyOrPosition (event_in reading text) → IsSomeExtra reading text
unfolding IsSequence
reported_is_extra reading text reads form no_report reported =
    (event_in reading text, record { reads = reads; is_form = form; is_free = free; means = refl })
  where
    free : IsFree reading text
    free (Row key) is = (key, refl, reported)
    free (Report r) is = absurd (no_report (r, is))

pub row_not_extra : (reading : Reading) (text : List ℕ) (key : KeyEvent) → Contains table_rows (text, key)
    → (IsKeyOrPosition (event_in reading text) → ⊥) → IsSomeExtra reading text → ⊥
unfolding IsSequence
row_not_extra reading text key row never h = never (h.1.is_free (Row key) row).2

-- a plain report is read the same whether a question is open or not
pub plain_in : (reading : Reading) (text : List ℕ) (found : Option PlainReport)
    → IfSome found (λ report. event_of true text ≡ Key (plain_report report))
    → IfSome found (λ report. event_of false text ≡ Key (plain_report report))
    → IfSome found (λ report. event_in reading text ≡ Key (plain_report report))
plain_in reading text None asked unasked = tt
plain_in reading text (Some report) asked unasked = go (is_asking reading)
  where
    go : (asks : Bool) → event_of asks text ≡ Key (plain_report report)
    go true = asked
    go false = unasked

-- a row, by the table and as a sequence
pub row_known : (text : List ℕ) → ((key : KeyEvent) × Contains table_rows (text, key)) → IsRow text
unfolding IsSequence
row_known text h = h

pub row_stored : (text : List ℕ) → IsRow text → (key : KeyEvent) × Contains table_rows (text, key)
unfolding IsSequence
row_stored text h = h

-- the event of an extra sequence is that of its bytes
pub event_is : (reading : Reading) (text : List ℕ) → IsSomeExtra reading text → IsExtra reading text (event_in reading text)
event_is reading text is = record { reads = is.1.reads; is_form = is.1.is_form; is_free = is.1.is_free; means = refl }

module _ (reading : Reading) (u : List ℕ) (len : ℕ) (form : IsForm reading.x10_mouse (take len u)) where
  begins : Begins (take len u) u
  begins = (drop len u, sym (take-append-drop len u))

  -- where the form isn't extra, no extra sequence and no opening begins the text, and the text begins none
  pub no_extra_starts : (((event : Event) × IsExtra reading (take len u) event) → ⊥) → StartsExtended reading u → ⊥
  no_extra_starts never (inl h) = never (
    h.event,
    subst (λ x. IsExtra reading x h.event) (mark_once u h.text (take len u) (inl h.is_extra.is_form) (inl form) h.begins begins)
        h.is_extra,
  )
  no_extra_starts never (inr (reads, o)) = form_no_opening (take len u) form (record {
    kind = o.kind;
    head = o.head;
    is_head = o.is_head;
    form = sym (mark_once u (introducer o.kind ++ o.head) (take len u) (inr (opening_mark u o)) (inl form) o.begins begins);
  })

  pub no_extra_unfinished : BeginsExtended reading u → ⊥
  no_extra_unfinished h =
      let m = completed_mark u (mark_from_unfinished reading u h) in
      append-some (drop len u) m.0 m.1 (mark_ends (take len u) (drop len u ++ m.0) (inl form)
      (subst (IsMark reading.x10_mouse) (ap (λ x. x ++ m.0) (sym (take-append-drop len u)) ∙ append_assoc (take len u) (drop len u) m.0) m.2))

-- no extra sequence begins where no form does
pub no_extra_without_form : (reading : Reading) (u : List ℕ) → ((text : List ℕ) → IsForm reading.x10_mouse text → Begins text u → ⊥)
    → (StartsWithOpening u → ⊥) → StartsExtended reading u → ⊥
no_extra_without_form reading u never none (inl h) = never h.text h.is_extra.is_form h.begins
no_extra_without_form reading u never none (inr o) = none o.1

-- no form begins a text that properly begins a sequence of the port
pub no_form_within : {x10_mouse : Bool} (u : List ℕ) → IsUnfinishedSequence u → (text : List ℕ) → IsForm x10_mouse text → Begins text u → ⊥
no_form_within u h text form b =
    append-some b.0 h.tail h.longer (sequence_after_mark text (b.0 ++ h.tail) h.meaning (inl form)
    (subst (λ t. IsSequence t h.meaning) (ap (λ t. t ++ h.tail) b.1 ∙ append_assoc text b.0 h.tail) h.is_sequence))

-- nor one that properly begins an opening
pub no_form_before : {x10_mouse : Bool} (u : List ℕ) → IsUnfinishedOpening u → (text : List ℕ) → IsForm x10_mouse text → Begins text u → ⊥
no_form_before {x10_mouse = x10_mouse} u h text form b =
    let m = completed_mark {x10_mouse = x10_mouse} u (inr h) in
    append-some b.0 m.0 m.1 (mark_ends text (b.0 ++ m.0) (inl form)
    (subst (IsMark x10_mouse) (ap (λ t. t ++ m.0) b.1 ∙ append_assoc text b.0 m.0) m.2))

-- what properly begins a form or an opening properly begins an extra sequence or an opening
pub unfinished_from_front : (reading : Reading) (u : List ℕ) → ReadsMore reading → IsUnfinishedFront reading.x10_mouse u
    → BeginsExtended reading u
unfinished_from_front reading u reads (inl h) = inl (unfinished_from_form reading u reads h)
unfinished_from_front reading u reads (inr o) = inr (reads, o)
