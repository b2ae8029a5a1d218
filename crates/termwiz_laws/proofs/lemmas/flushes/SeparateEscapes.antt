-- A flush of ESC or of ESC ESC is the key Escape, apart from what comes after it.
use Rattle.std.proofs.Common.{◌≡◌, inl, inr, ℕ, Bool, true, false, List, [], ◌∷◌, ◌++◌, refl, sym, ap, ◌∙◌, subst, append-nil, arith}
use Rattle.termwiz_keys.specs.declared.types.KeyEvent.{KeyEvent}
use Rattle.termwiz_keys.specs.declared.types.InputEvent.{InputEvent}
use Rattle.termwiz_keys.specs.declared.types.InputEvent.TheVariants.{Key}
use Rattle.termwiz_keys.specs.Introducers.{ESC}
use Rattle.termwiz_keys.specs.Keys.{escape}
use Rattle.termwiz_grammar.specs.Sequences.Meaning.{Row}
use Rattle.termwiz_grammar.specs.Grammar.{Means}
use Rattle.termwiz_grammar.specs.Grammar.Head.{Sequence}
use Rattle.termwiz_grammar.specs.Streams.{ReadInTurn}
use Rattle.termwiz_grammar.proofs.lemmas.items.OneHead.{longest_whole}
use Rattle.termwiz_grammar.proofs.lemmas.items.OneItem.{read_of, steps_once}
use Rattle.termwiz_grammar.proofs.lemmas.read_back.WholeTexts.{row_means, alt_means}
use Rattle.termwiz_grammar.proofs.lemmas.table.RowShape.{escape_row}
use Rattle.termwiz_grammar.proofs.lemmas.table.SequenceFacts.{escape_is_sequence}
use Rattle.termwiz_laws.specs.Flushes.{AreEscapes, FlushSeparatesEscape}

escapes_mean : (u : List ℕ) (key : KeyEvent) → AreEscapes u key → Means u false (Key key ∷ []) []
escapes_mean u key (inl is) =
    subst (λ z. Means z false (Key key ∷ []) []) (sym is.0)
    (subst (λ z. Means ESC false (Key z ∷ []) []) (sym is.1) (row_means ESC escape escape_row (λ e. cc (e))))
escapes_mean u key (inr is) =
    subst (λ z. Means z false (Key key ∷ []) []) (sym is.0)
    (subst (λ z. Means (ESC ++ ESC) false (Key z ∷ []) []) (sym is.1)
    (alt_means 27 [] (Sequence ESC (Row escape)) escape (inl (omega arith))
    (longest_whole ESC (Row escape) escape_is_sequence) ((λ e. cc (e)), refl) refl))

module _ (T u S W : List ℕ) (key : KeyEvent) (E events : List InputEvent) (f : Bool) (escapes : AreEscapes u key)
    (before : Means T true E u) where
  apart : ReadInTurn Means [] ((T, true) ∷ ([], false) ∷ (S, f) ∷ []) events W
      → (D : List InputEvent) × (events ≡ E ++ Key key ∷ D) × Means S f D W
  apart (first, later, between, is, means, (paused, last, left, is_paused, flushed, (D, none, end, is_last, after, (nothing, same)))) =
      let one = steps_once first E T between u true (read_of means) (read_of before) in
      let flush : Means u false paused left =
      subst (λ z. Means z false paused left) (append-nil between ∙ one.1) flushed in
      let two = steps_once paused (Key key ∷ []) u left [] false (read_of flush) (read_of (escapes_mean u key escapes)) in
      let own : Means S f D end = subst (λ z. Means (z ++ S) f D end) two.1 after in
      let ends : last ≡ D = is_last ∙ ap (λ z. D ++ z) nothing ∙ append-nil D in
      let then : later ≡ Key key ∷ D = is_paused ∙ ap (λ z. z ++ last) two.0 ∙ ap (λ z. Key key ∷ z) ends in
      (D, is ∙ ap (λ z. z ++ later) one.0 ∙ ap (λ z. E ++ z) then, subst (λ z. Means S f D z) same own)

  joined : (D : List InputEvent) × (events ≡ E ++ Key key ∷ D) × Means S f D W
      → ReadInTurn Means [] ((T, true) ∷ ([], false) ∷ (S, f) ∷ []) events W
  joined (D, is, after) = (
    E,
    Key key ∷ D,
    u,
    is,
    before,
    (
      Key key ∷ [],
      D,
      [],
      refl,
      subst (λ z. Means z false (Key key ∷ []) []) (sym (append-nil u)) (escapes_mean u key escapes),
      (D, [], W, sym (append-nil D), after, (refl, refl)),
    ),
  )

pub flush_separates_escape : FlushSeparatesEscape
flush_separates_escape T u S W key E events f escapes before =
    (apart T u S W key E events f escapes before, joined T u S W key E events f escapes before)
