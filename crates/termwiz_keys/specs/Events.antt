-- Words on events.
use Rattle.std.specs.Prelude.{⊤}
use Rattle.termwiz_keys.specs.declared.types.InputEvent.{InputEvent}
use Rattle.termwiz_keys.specs.declared.types.InputEvent.TheVariants.{Paste}

-- the event is a paste
abbrev pub IsPaste : InputEvent → Type 0
IsPaste (Paste t) = ⊤
IsPaste _ = ⊥
