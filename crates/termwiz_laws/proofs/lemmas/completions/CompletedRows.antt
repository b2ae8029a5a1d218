-- A text that is completed to a row means the row's key.
use Rattle.std.proofs.Common.{◌≡◌, ◌≢◌, inl, inr, ⊎_elim, ℕ, ◌<◌, ◌≤◌, ◌⊎◌, false, List, [], ◌∷◌, ◌++◌, refl, sym, ap, ◌∙◌, subst, arith, Contains}
use Rattle.termwiz_keymap.specs.Bytes.{Occurs}
use Rattle.termwiz_keymap.proofs.lemmas.lists.CommonPrefixes.{append-some, append-some_left}
use Rattle.termwiz_keys.specs.declared.types.KeyEvent.{KeyEvent}
use Rattle.termwiz_keys.specs.declared.types.InputEvent.TheVariants.{Key}
use Rattle.termwiz_keys.specs.Introducers.{ESC, START, END}
use Rattle.termwiz_keys.specs.Keys.{escape, with_alt}
use Rattle.termwiz_grammar.specs.Table.{rows}
use Rattle.termwiz_grammar.specs.Sequences.{IsSequence}
use Rattle.termwiz_grammar.specs.Sequences.Meaning.{Row}
use Rattle.termwiz_grammar.specs.Grammar.{IsOpen, Means}
use Rattle.termwiz_grammar.specs.Grammar.Head.{Sequence}
use Rattle.termwiz_grammar.specs.Grammar.Item.{lone_escape}
use Rattle.termwiz_grammar.specs.RowsInOrder.{IsRowAt}
use Rattle.termwiz_grammar.proofs.lemmas.items.OneHead.{longest_whole}
use Rattle.termwiz_grammar.proofs.lemmas.read_back.WholeTexts.{row_means, escape_alone, alt_means}
use Rattle.termwiz_grammar.proofs.lemmas.table.RowShape.{Bytes}
use Rattle.termwiz_grammar.proofs.lemmas.table.RowShape.Bytes.{one, more}
use Rattle.termwiz_grammar.proofs.lemmas.table.SequenceFacts.{sequence_bytes, start, start_is_sequence}
use Rattle.termwiz_grammar.proofs.lemmas.table.TableAsMap.{rows_in_order}
use Rattle.termwiz_grammar.proofs.lemmas.waiting.RestShape.{endless_rests}
use Rattle.termwiz_laws.specs.Completions.{IsCompletedBy, IsCompletedAfterEscape, CompletionsAreRead}

flushed_is_closed : (u : List ℕ) → ¬ IsOpen u false
flushed_is_closed u h = cc (h.more_comes)

-- START opens a paste
start_opens : Means START false [] START
start_opens = record {
  steps = refl;
  rest = endless_rests START false start (longest_whole START (Row start) start_is_sequence) [] refl
      (λ (o : Occurs END []). append-some_left (o.0 ++ END) o.1 (append-some o.0 END (λ h. cc (h))) (sym o.2));
}

escape_then_start : Means (ESC ++ START) false (Key escape ∷ []) START
escape_then_start = record {
  steps = (
    ESC,
    START,
    record {
      closed = flushed_is_closed (ESC ++ START);
      item = lone_escape START (Sequence START (Row start)) (record {
        escape_head = escape_alone 27 (91 ∷ 50 ∷ 48 ∷ 48 ∷ 126 ∷ []) (inl (omega arith));
        splits = refl;
        some = λ e. cc (e);
        closed = flushed_is_closed START;
      }) (longest_whole START (Row start) start_is_sequence) refl;
    },
    refl,
    refl,
  );
  rest = start_opens.rest;
}

row_sequence : (row : List ℕ) (key : KeyEvent) → Contains rows (row, key) → IsSequence row (Row key)
unfolding IsSequence
row_sequence row key is = is

-- ESC and a row that isn't START mean the row's key with ALT
escape_then_row : (row : List ℕ) (key : KeyEvent) → Contains rows (row, key) → row ≢ START
    → Means (ESC ++ row) false (Key (with_alt key) ∷ []) []
escape_then_row row key is other = go row refl (sequence_bytes row (Row key) (row_sequence row key is))
  where
    means : (x : ℕ) (t : List ℕ) → row ≡ x ∷ t → (x ≤ 64) ⊎ (92 ≤ x) → Means (ESC ++ row) false (Key (with_alt key) ∷ []) []
    means x t e apart =
        subst (λ z. Means (ESC ++ z) false (Key (with_alt key) ∷ []) []) (sym e)
        (alt_means x t (Sequence (x ∷ t) (Row key)) key apart
        (longest_whole (x ∷ t) (Row key) (row_sequence (x ∷ t) key (subst (λ z. Contains rows (z, key)) e is)))
        (subst (λ z. z ≢ START) e other, refl) refl)

    go : (s : List ℕ) → row ≡ s → Bytes row → Means (ESC ++ row) false (Key (with_alt key) ∷ []) []
    go s e (one b l same) = means b [] same
        (⊎_elim (λ (low : b < 28). inl (omega arith)) (λ (last : b ≡ 127). inr (omega arith)) l)
    go s e (more t n same p) = means 27 t same (inl (omega arith))

at_its_place : (place : ℕ) (row : List ℕ) (key : KeyEvent) → IsRowAt place row key → Contains rows (row, key)
at_its_place place row key is = (rows_in_order.exactly row key).1 (place, is)

completed : (row tail text : List ℕ) (key : KeyEvent) → Contains rows (row, key) → tail ≢ [] → row ≡ text ++ tail
    → IsCompletedBy row key text
completed row tail text key is longer whole = record {
  tail = tail;
  longer = longer;
  whole = sym whole;
  is_key = λ other. subst (λ z. Means z false (Key key ∷ []) []) whole (row_means row key is other);
  is_start = λ e. subst (λ z. Means z false [] START) (sym e ∙ whole) start_opens;
}

completed_after_escape : (row tail text after : List ℕ) (key : KeyEvent) → Contains rows (row, key) → tail ≢ []
    → text ≡ ESC ++ after → row ≡ after ++ tail → IsCompletedAfterEscape row key text
completed_after_escape row tail text after key is longer held whole =
    let all : ESC ++ row ≡ text ++ tail = ap (λ z. ESC ++ z) whole ∙ ap (λ z. z ++ tail) (sym held) in
    record {
      tail = tail;
      longer = longer;
      whole = sym all;
      is_key = λ other. subst (λ z. Means z false (Key (with_alt key) ∷ []) []) all (escape_then_row row key is other);
      is_start = λ e. subst (λ z. Means z false (Key escape ∷ []) START) (ap (λ z. ESC ++ z) (sym e) ∙ all) escape_then_start;
    }

pub completions_are_read : CompletionsAreRead
completions_are_read text row key low high place alt are from_low below at = (
  λ whole.
      let goes = ((are.whole whole).those place row key at).1 (from_low, below) in
      completed row goes.0 text key (at_its_place place row key at) goes.1 goes.2,
  λ after.
      let held = (are.when.0 after).1 in
      let goes = ((are.after_escape after held.0 held.1).those place row key at).1 (from_low, below) in
      completed_after_escape row goes.0 text held.0 key (at_its_place place row key at) goes.1 held.1 goes.2,
)
