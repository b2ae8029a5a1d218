-- What C holds, as the generic types that own the same blocks. The fields are the same; only the pointer has another name.
use Rattle.std.specs.Borrow.{Fml, Lends, MutBor}
use Rattle.hedrugal.specs.declared.bindings.Bindings.{Bindings}
use Rattle.hedrugal.specs.declared.chord_bindings.ChordBindings.{ChordBindings}
use Rattle.hedrugal.specs.declared.parser_and_text.ParserAndText.{ParserAndText}
use Rattle.hedrugal.specs.declared.holder.Holder.{Holder}
use Rattle.hedrugal.specs.declared.handles.BindingsHandle.{BindingsHandle}
use Rattle.hedrugal.specs.declared.handles.MapHandle.{MapHandle}
use Rattle.hedrugal.specs.declared.handles.ParserHandle.{ParserHandle}
use Rattle.hedrugal.specs.contracts.bindings.Bindings.{the_row as BindingsType}
use Rattle.hedrugal.specs.contracts.chord_bindings.ChordBindings.{the_row as ChordBindingsType}
use Rattle.hedrugal.specs.contracts.parser_and_text.ParserAndText.{the_row as ParserAndTextType}
use Rattle.hedrugal.specs.contracts.holder.Holder as holder
use Rattle.hedrugal.specs.contracts.handles.BindingsHandle.{the_row as BindingsHandleType}
use Rattle.hedrugal.specs.contracts.handles.MapHandle.{the_row as MapHandleType}
use Rattle.hedrugal.specs.contracts.handles.ParserHandle.{the_row as ParserHandleType}

-- the parser's view, and what C holds of a view; so of the other two kinds
abbrev pub viewed_parser : ParserHandle → Holder ParserAndText
viewed_parser c = record { live = c.live; slot = record { pointer = c.state.pointer; held = c.state.held }; agrees = c.agrees }

abbrev pub parser_of : Holder ParserAndText → ParserHandle
parser_of view = record { live = view.live; state = record { pointer = view.slot.pointer; held = view.slot.held }; agrees = view.agrees }

abbrev pub viewed_map : MapHandle → Holder Bindings
viewed_map c = record { live = c.live; slot = record { pointer = c.state.pointer; held = c.state.held }; agrees = c.agrees }

abbrev pub map_of : Holder Bindings → MapHandle
map_of view = record { live = view.live; state = record { pointer = view.slot.pointer; held = view.slot.held }; agrees = view.agrees }

abbrev pub viewed_bindings : BindingsHandle → Holder ChordBindings
viewed_bindings c = record { live = c.live; slot = record { pointer = c.state.pointer; held = c.state.held }; agrees = c.agrees }

abbrev pub bindings_of : Holder ChordBindings → BindingsHandle
bindings_of view = record {
  live = view.live;
  state = record { pointer = view.slot.pointer; held = view.slot.held };
  agrees = view.agrees;
}

-- what C holds is the lent view as it is at the end of the loan
abbrev pub lends_parser : MutBor ParserHandle → MutBor (Holder ParserAndText) → Fml
lends_parser c lent = Lends ParserHandleType (holder.the_row ParserAndTextType) c lent parser_of

abbrev pub lends_map : MutBor MapHandle → MutBor (Holder Bindings) → Fml
lends_map c lent = Lends MapHandleType (holder.the_row BindingsType) c lent map_of

abbrev pub lends_bindings : MutBor BindingsHandle → MutBor (Holder ChordBindings) → Fml
lends_bindings c lent = Lends BindingsHandleType (holder.the_row ChordBindingsType) c lent bindings_of
