-- What a flush of ESC changes before the bytes that come next, to the extended parser.
use Rattle.std.specs.Prelude.{◌≡◌, ◌↔◌, ℕ, Bool, true, false, List, [], ◌∷◌, ◌++◌}
use Rattle.termwiz_keys.specs.declared.types.KeyEvent.{KeyEvent}
use Rattle.termwiz_laws.specs.Flushes.{AreEscapes}
use Rattle.termwiz_extended_events.specs.declared.types.Event.{Event}
use Rattle.termwiz_extended_events.specs.declared.types.Event.TheVariants.{Key}
use Rattle.termwiz_extended_events.specs.declared.types.Reading.{Reading}
use Rattle.termwiz_extended_events.specs.PortEvents.{pressed_key}
use Rattle.termwiz_extended_grammar.specs.ExtendedGrammar.{Means}
use Rattle.termwiz_extended_grammar.specs.ExtendedStreams.{ReadInTurn}
use Rattle.termwiz_extended_grammar.specs.Readings.{after_events}

-- T leaves ESC or ESC ESC buffered, a flush comes, and then S: the events are those of T, the key Escape, and those that S has by itself.
abbrev pub FlushSeparatesEscape : Type 0
FlushSeparatesEscape = (reading : Reading) (T u S W : List ℕ) (key : KeyEvent) (E events : List Event) (f : Bool) → AreEscapes u key
    → Means reading T true E u
    → ReadInTurn Means reading [] ((T, true) ∷ ([], false) ∷ (S, f) ∷ []) events W
    ↔ ((D : List Event) × (events ≡ E ++ Key (pressed_key key) ∷ D) × Means (after_events reading E) S f D W)
