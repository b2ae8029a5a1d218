-- A flush of ESC or of ESC ESC is the key Escape, apart from what comes after it.
use Rattle.std.proofs.Common.{◌≡◌, inl, inr, ℕ, Bool, true, false, List, [], ◌∷◌, ◌++◌, refl, sym, ap, ◌∙◌, subst, append-nil}
use Rattle.termwiz_keys.specs.Introducers.{ESC}
use Rattle.termwiz_keys.specs.Keys.{escape, with_alt}
use Rattle.termwiz_keys.specs.declared.types.KeyCode.TheVariants.{Escape}
use Rattle.termwiz_keys.specs.declared.types.KeyEvent.{KeyEvent}
use Rattle.termwiz_grammar.proofs.lemmas.waiting.RestKinds.{alone, twice}
use Rattle.termwiz_laws.specs.Flushes.{AreEscapes}
use Rattle.termwiz_extended_events.specs.declared.types.Dialect.{Dialect}
use Rattle.termwiz_extended_events.specs.declared.types.Dialect.TheVariants.{Extended, Termwiz}
use Rattle.termwiz_extended_events.specs.declared.types.Event.{Event}
use Rattle.termwiz_extended_events.specs.declared.types.Event.TheVariants.{Key}
use Rattle.termwiz_extended_events.specs.declared.types.Reading.{Reading}
use Rattle.termwiz_extended_events.specs.PortEvents.{pressed_key, typed_key, with_key}
use Rattle.termwiz_extended_grammar.specs.ExtendedGrammar.{IsUsual, Means}
use Rattle.termwiz_extended_grammar.specs.ExtendedStreams.{ReadInTurn}
use Rattle.termwiz_extended_grammar.specs.Readings.{after_events}
use Rattle.termwiz_extended_grammar.proofs.lemmas.items.ExtendedItems.{starts_shape}
use Rattle.termwiz_extended_grammar.proofs.lemmas.items.ExtendedRests.{read_of, steps_once}
use Rattle.termwiz_kitty.proofs.lemmas.legacy.ReadAsOne.{as_in_port}
use Rattle.termwiz_senders.proofs.lemmas.RowsAlone.{empty_usual, usual_from}
use Rattle.termwiz_event_laws.proofs.lemmas.KeysAlone.{starts_three}
use Rattle.termwiz_press_laws.specs.ExtendedFlushes.{FlushSeparatesEscape}

escape_usual : (reading : Reading) → IsUsual reading ESC false
escape_usual reading = usual_from reading ESC (λ h. let s = starts_shape reading ESC h in cc (s.2))

-- the bytes of the Escape key, alone or after an ESC, are decided by no reading
pub escape_typed : (dialect : Dialect) (reading : Reading) → typed_key dialect reading ESC Escape ≡ Escape
escape_typed Extended reading = refl
escape_typed Termwiz reading = refl

escapes_typed : (dialect : Dialect) (reading : Reading) → typed_key dialect reading (ESC ++ ESC) Escape ≡ Escape
escapes_typed Extended reading = refl
escapes_typed Termwiz reading = refl

pub escape_means : (reading : Reading) → Means reading ESC false (Key (pressed_key escape) ∷ []) []
escape_means reading =
    subst (λ k. Means reading ESC false (Key (pressed_key (with_key escape k)) ∷ []) []) (escape_typed reading.dialect reading)
    (as_in_port reading ESC escape false alone (escape_usual reading)
    (λ v e. subst (λ u. IsUsual reading u false) (let none : [] ≡ v = cc (e) in none) (empty_usual reading)))

escape_escape_means : (reading : Reading) → Means reading (ESC ++ ESC) false (Key (pressed_key (with_alt escape)) ∷ []) []
escape_escape_means reading =
    subst (λ k. Means reading (ESC ++ ESC) false (Key (pressed_key (with_key (with_alt escape) k)) ∷ []) [])
    (escapes_typed reading.dialect reading)
    (as_in_port reading (ESC ++ ESC) (with_alt escape) false twice (usual_from reading (ESC ++ ESC) (starts_three reading 27 27))
    (λ v e. subst (λ u. IsUsual reading u false) (let one : ESC ≡ v = cc (e) in one) (escape_usual reading)))

pub escapes_mean : (reading : Reading) (u : List ℕ) (key : KeyEvent) → AreEscapes u key
    → Means reading u false (Key (pressed_key key) ∷ []) []
escapes_mean reading u key (inl is) =
    subst (λ z. Means reading z false (Key (pressed_key key) ∷ []) []) (sym is.0)
    (subst (λ z. Means reading ESC false (Key (pressed_key z) ∷ []) []) (sym is.1) (escape_means reading))
escapes_mean reading u key (inr is) =
    subst (λ z. Means reading z false (Key (pressed_key key) ∷ []) []) (sym is.0)
    (subst (λ z. Means reading (ESC ++ ESC) false (Key (pressed_key z) ∷ []) []) (sym is.1) (escape_escape_means reading))

module _ (reading : Reading) (T u S W : List ℕ) (key : KeyEvent) (E events : List Event) (f : Bool) (escapes : AreEscapes u key)
    (before : Means reading T true E u) where
  event : Event
  event = Key (pressed_key key)

  apart : ReadInTurn Means reading [] ((T, true) ∷ ([], false) ∷ (S, f) ∷ []) events W
      → (D : List Event) × (events ≡ E ++ Key (pressed_key key) ∷ D) × Means (after_events reading E) S f D W
  apart (first, later, between, is, means, (paused, last, left, is_paused, flushed, (D, none, end, is_last, after, (nothing, same)))) =
      let one = steps_once reading first E T between u true (read_of means) (read_of before) in
      let flush : Means (after_events reading E) u false paused left =
      subst (λ r. Means r u false paused left) (ap (after_events reading) one.0)
      (subst (λ z. Means (after_events reading first) z false paused left) (append-nil between ∙ one.1) flushed) in
      let two = steps_once (after_events reading E) paused (Key (pressed_key key) ∷ []) u left [] false (read_of flush)
      (read_of (escapes_mean (after_events reading E) u key escapes)) in
      let here : after_events (after_events reading first) paused ≡ after_events reading E =
      ap (λ (d : List Event). after_events (after_events reading d) paused) one.0 ∙ ap (after_events (after_events reading E)) two.0 in
      let own : Means (after_events reading E) S f D end =
      subst (λ r. Means r S f D end) here
      (subst (λ z. Means (after_events (after_events reading first) paused) (z ++ S) f D end) two.1 after) in
      let ends : last ≡ D = is_last ∙ ap (λ z. D ++ z) nothing ∙ append-nil D in
      let then : later ≡ Key (pressed_key key) ∷ D =
      is_paused ∙ ap (λ z. z ++ last) two.0 ∙ ap (λ z. Key (pressed_key key) ∷ z) ends in
      (D, is ∙ ap (λ z. z ++ later) one.0 ∙ ap (λ z. E ++ z) then, subst (λ z. Means (after_events reading E) S f D z) same own)

  joined : (D : List Event) × (events ≡ E ++ Key (pressed_key key) ∷ D) × Means (after_events reading E) S f D W
      → ReadInTurn Means reading [] ((T, true) ∷ ([], false) ∷ (S, f) ∷ []) events W
  joined (D, is, after) = (
    E,
    Key (pressed_key key) ∷ D,
    u,
    is,
    before,
    (
      Key (pressed_key key) ∷ [],
      D,
      [],
      refl,
      subst (λ z. Means (after_events reading E) z false (Key (pressed_key key) ∷ []) []) (sym (append-nil u))
          (escapes_mean (after_events reading E) u key escapes),
      (D, [], W, sym (append-nil D), after, (refl, refl)),
    ),
  )

pub flush_separates_escape : FlushSeparatesEscape
flush_separates_escape reading T u S W key E events f escapes before =
    (apart reading T u S W key E events f escapes before, joined reading T u S W key E events f escapes before)
