-- What a parser, a key map and bindings are made of may cross threads, and so may the block of one.
use Rattle.std.specs.Prelude.{List, [], ◌∷◌, Option, Some, None}
use base.Shift.{Keyless}
use mir.Raw.{raw}
use denote.RattleType.{RattleType}
use denote.RawPtr.{Ptr}
use denote.Builtin.{RawPtr}
use denote.Memory.{lone}
use denote.Enum.Declared.{shape}
use denote.Enum.Enum.{Enum}
use denote.Param.Send.{AllSend, AllSync, EachSend, EachSync, IsSend, IsSync, enum_send, enum_sync, sendable}
use Rattle.core.specs.declared.fmt.Debug.{Ghosts as Debug}
use Rattle.core.specs.declared.clone.Clone.{Ghosts as Clone}
use Rattle.std.proofs.Crossing.{crosses, frees}
use Rattle.std_alloc.proofs.SendSync.{lies}
use Rattle.termwiz_keys.specs.contracts.types.KeyCode as KeyCode
use Rattle.termwiz_keys.specs.contracts.types.KeyEvent as KeyEvent
use Rattle.termwiz_keymap.specs.contracts.keymap.KeyMap as KeyMap
use Rattle.termwiz_keymap.specs.contracts.keymap.blocks.Block as Block
use Rattle.termwiz_keymap.specs.contracts.keymap.blocks.Blocks as Blocks
use Rattle.termwiz_keymap.specs.contracts.keymap.remembered.Remembered as Remembered
use Rattle.termwiz_keymap.specs.contracts.keymap.row.Row as Row
use Rattle.termwiz_keymap.specs.contracts.readbuf.ReadBuffer as ReadBuffer
use Rattle.termwiz_input.specs.contracts.input.InputParser as InputParser
use Rattle.termwiz_input.specs.contracts.sequence_table.Places as Places
use Rattle.termwiz_input.specs.contracts.sequence_table.SequenceTable as SequenceTable
use Rattle.termwiz_input.specs.contracts.time.Policy as Policy
use Rattle.termwiz_bindings.specs.contracts.bindings.Bindings as ChordMap
use Rattle.termwiz_input_extended.specs.contracts.input.ExtendedParser as ExtendedParser
use Rattle.termwiz_timed.specs.contracts.ages.Ages as Ages
use Rattle.termwiz_timed.specs.contracts.parser.TimedParser as TimedParser
use Rattle.hedrugal.specs.contracts.bindings.Bindings as Bindings
use Rattle.hedrugal.specs.contracts.chord_bindings.ChordBindings as ChordBindings
use Rattle.hedrugal.specs.contracts.parser_and_text.ParserAndText as ParserAndText
use Rattle.hedrugal.specs.Owned.{heap, owned}

-- a fact of the fields of each variant that has some
abbrev OfFields : (List RattleType → Type 0) → List (List RattleType) → Type 0
OfFields P [] = Unit {0}
OfFields P ([] ∷ rest) = OfFields P rest
OfFields P ((R ∷ Ts) ∷ rest) = P (R ∷ Ts) × OfFields P rest

each_send : (variants : List (List RattleType)) → OfFields AllSend variants → EachSend variants
each_send [] s = tt
each_send ([] ∷ rest) s = (tt, each_send rest s)
each_send ((R ∷ Ts) ∷ rest) s = (s.0, each_send rest s.1)

each_sync : (variants : List (List RattleType)) → OfFields AllSync variants → EachSync variants
each_sync [] s = tt
each_sync ([] ∷ rest) s = (tt, each_sync rest s)
each_sync ((R ∷ Ts) ∷ rest) s = (s.0, each_sync rest s.1)

-- the keys of events: of the variants of a key code only a character and a function key have a field
code_send : IsSend (Enum (shape KeyCode.the_type))
code_send = enum_send (shape KeyCode.the_type)
    (each_send (shape KeyCode.the_type).variants ((search sendable, tt), ((search sendable, tt), tt)))

code_sync : IsSync (Enum (shape KeyCode.the_type))
code_sync = enum_sync (shape KeyCode.the_type)
    (each_sync (shape KeyCode.the_type).variants ((search sendable, tt), ((search sendable, tt), tt)))

event_send : IsSend KeyEvent.the_row
event_send = search (sendable, code_send) depth 10

event_sync : IsSync KeyEvent.the_row
event_sync = search (sendable, code_sync) depth 10

-- a key map, if its values may cross
row_send : (V : RattleType) → IsSend V → IsSend (Row.the_row V)
row_send V s = search (sendable, crosses) depth 10

row_sync : (V : RattleType) → IsSync V → IsSync (Row.the_row V)
row_sync V s = search (sendable, crosses) depth 10

block_send : (T : RattleType) → IsSend T → IsSend (Block.the_row T)
block_send T s = search (sendable, crosses) depth 10

block_sync : (T : RattleType) → IsSync T → IsSync (Block.the_row T)
block_sync T s = search (sendable, crosses) depth 10

blocks_send : (T : RattleType) → IsSend T → IsSend (Blocks.the_row T)
blocks_send T s = search (sendable, crosses, block_send) depth 20

blocks_sync : (T : RattleType) → IsSync T → IsSync (Blocks.the_row T)
blocks_sync T s = search (sendable, crosses, block_sync) depth 20

remembered_send : IsSend Remembered.the_row
remembered_send = search (sendable, crosses) depth 10

remembered_sync : IsSync Remembered.the_row
remembered_sync = search (sendable, crosses) depth 10

map_send : (V : RattleType) (d : Debug V.Denot) (c : Clone V.Denot) → IsSend V → IsSend (KeyMap.the_row V d c)
map_send V d c s = search (sendable, crosses, row_send, blocks_send, remembered_send) depth 12

map_sync : (V : RattleType) (d : Debug V.Denot) (c : Clone V.Denot) → IsSync V → IsSync (KeyMap.the_row V d c)
map_sync V d c s = search (sendable, crosses, row_sync, blocks_sync, remembered_sync) depth 12

chord_map_send : (V : RattleType) (d : Debug V.Denot) (c : Clone V.Denot) → IsSend V → IsSend (ChordMap.the_row V d c)
chord_map_send V d c s = search (sendable, crosses, map_send) depth 12

-- the sequence table
places_send : IsSend Places.the_row
places_send = search (sendable, crosses) depth 10

places_sync : IsSync Places.the_row
places_sync = search (sendable, crosses) depth 10

table_send : IsSend SequenceTable.the_row
table_send = search (sendable, crosses, event_send, map_send, places_send) depth 12

table_sync : IsSync SequenceTable.the_row
table_sync = search (sendable, crosses, event_sync, map_sync, places_sync) depth 12

-- the parsers, whose table is behind an `Arc`
buffer_send : IsSend ReadBuffer.the_row
buffer_send = search (sendable, crosses) depth 10

parser_send : IsSend InputParser.the_row
parser_send = search (sendable, crosses, table_send, table_sync, buffer_send) depth 12

extended_send : IsSend ExtendedParser.the_row
extended_send = search (sendable, crosses, parser_send) depth 20

-- the limits in time, and the ages
policy_send : IsSend (Policy.the_field).row
policy_send = search (sendable, crosses) depth 20

ages_send : IsSend (Ages.the_field).row
ages_send = search (sendable, crosses) depth 20

timed_send : IsSend TimedParser.the_row
timed_send = search (sendable, crosses, extended_send, policy_send, ages_send) depth 20

-- what a handle leads to
pub parser_and_text_send : IsSend ParserAndText.the_row
parser_and_text_send = search (sendable, crosses, timed_send) depth 12

pub bindings_send : IsSend Bindings.the_row
bindings_send = search (sendable, crosses, map_send) depth 12

pub chord_bindings_send : IsSend ChordBindings.the_row
chord_bindings_send = search (sendable, crosses, chord_map_send) depth 12

-- and the pointer to that: what it owns says the same to every thread
pub pointer_send : IsSend RawPtr
pointer_send = search sendable

pub owned_keyless : (R : RattleType) → IsSend R → (p : Ptr) (held : Option R.Denot) → Keyless (owned R p held)
owned_keyless R s p None = tt
owned_keyless R s p (Some held) = (lies R s p held, frees.frees heap (raw (lone R.mir)) p)
