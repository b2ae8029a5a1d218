-- What is held once a `&mut` to it has ended.
use Rattle.std.specs.Prelude.{Option, Some, true, refl}
use Rattle.std.specs.Borrow.{Fml, LendsIf, MutBor}
use denote.RattleType.{RattleType}
use Rattle.hedrugal.specs.declared.bindings.Bindings.{Bindings}
use Rattle.hedrugal.specs.declared.chord_bindings.ChordBindings.{ChordBindings}
use Rattle.hedrugal.specs.declared.parser_and_text.ParserAndText.{ParserAndText}
use Rattle.hedrugal.specs.declared.holder.Holder.{Holder}
use Rattle.hedrugal.specs.declared.handles.BindingsHandle.{BindingsHandle}
use Rattle.hedrugal.specs.declared.handles.MapHandle.{MapHandle}
use Rattle.hedrugal.specs.declared.handles.ParserHandle.{ParserHandle}
use Rattle.hedrugal.specs.contracts.bindings.Bindings.{the_row as BindingsType}
use Rattle.hedrugal.specs.contracts.chord_bindings.ChordBindings.{the_row as ChordBindingsType}
use Rattle.hedrugal.specs.contracts.parser_and_text.ParserAndText.{the_row as ParserAndTextType}
use Rattle.hedrugal.specs.contracts.holder.Holder as holder
use Rattle.hedrugal.specs.contracts.handles.BindingsHandle.{the_row as BindingsHandleType}
use Rattle.hedrugal.specs.contracts.handles.MapHandle.{the_row as MapHandleType}
use Rattle.hedrugal.specs.contracts.handles.ParserHandle.{the_row as ParserHandleType}
use Rattle.hedrugal.specs.Lent.{with_held}

-- the holder, which has this value
abbrev pub holding : {T : Type 0} → Holder T → T → Holder T
holding whole held = record { live = true; slot = with_held whole.slot held; agrees = refl }

-- the holder has the lent value as it is at the end of the loan; without a loan it is as it was
abbrev pub lends_slot : (R : RattleType) → MutBor (Holder R.Denot) → Option (MutBor R.Denot) → Fml
lends_slot R whole lent = LendsIf (holder.the_row R) R whole lent (holding whole.now) whole.now

-- and of each kind in C
abbrev pub with_parser : ParserHandle → ParserAndText → ParserHandle
with_parser c held = record { live = true; state = record c.state { held = Some held }; agrees = refl }

abbrev pub lends_parser : MutBor ParserHandle → Option (MutBor ParserAndText) → Fml
lends_parser c lent = LendsIf ParserHandleType ParserAndTextType c lent (with_parser c.now) c.now

abbrev pub with_map : MapHandle → Bindings → MapHandle
with_map c held = record { live = true; state = record c.state { held = Some held }; agrees = refl }

abbrev pub lends_map : MutBor MapHandle → Option (MutBor Bindings) → Fml
lends_map c lent = LendsIf MapHandleType BindingsType c lent (with_map c.now) c.now

abbrev pub with_bindings : BindingsHandle → ChordBindings → BindingsHandle
with_bindings c held = record { live = true; state = record c.state { held = Some held }; agrees = refl }

abbrev pub lends_bindings : MutBor BindingsHandle → Option (MutBor ChordBindings) → Fml
lends_bindings c lent = LendsIf BindingsHandleType ChordBindingsType c lent (with_bindings c.now) c.now
