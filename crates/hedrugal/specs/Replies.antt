-- What a reply says, as C has it.
use Rattle.std.specs.Prelude.{◌≡◌, ℕ, ◌==◌, List, [], false, length, Option, Some, None, if◌then◌else◌, unwrap_or}
use Rattle.termwiz_extended_events.specs.ReplyValues.{csi_reply, osc_reply, dcs_reply}
use Rattle.termwiz_extended_events.specs.declared.reply_types.Reply.{Reply}
use Rattle.termwiz_extended_events.specs.declared.reply_types.Reply.TheVariants.{DeviceAttributes, Mode, Version, WindowSize, Clipboard}
use Rattle.termwiz_extended_events.specs.declared.reply_types.Reply.TheVariants as reply
use Rattle.termwiz_extended_events.specs.declared.reply_types.DeviceAttributes.{DeviceAttributes as Report}
use Rattle.termwiz_extended_events.specs.declared.reply_types.DeviceAttributes.TheVariants.{Primary, Secondary, Tertiary}
use Rattle.termwiz_extended_events.specs.declared.reply_types.ModeState.{ModeState}
use Rattle.termwiz_extended_events.specs.declared.reply_types.ModeState.TheVariants.{NotRecognized, Set, Reset, PermanentlySet, PermanentlyReset}
use Rattle.termwiz_extended_events.specs.declared.reply_types.ColourName.{ColourName}
use Rattle.termwiz_extended_events.specs.declared.reply_types.ColourName.TheVariants.{Palette, Foreground, Background, Cursor}
use Rattle.termwiz_extended_events.specs.declared.reply_types.ColourScheme.{ColourScheme}
use Rattle.termwiz_extended_events.specs.declared.reply_types.ColourScheme.TheVariants.{Dark, Light}
use Rattle.hedrugal.specs.declared.replies.CReply.{CReply}
use Rattle.hedrugal.specs.Calls.{copied}

-- the reply that an event of this kind with these bytes is
abbrev pub reply_in : ℕ → List ℕ → Option Reply
reply_in kind bytes =
    if kind == 10 then csi_reply bytes
    else (if kind == 11 then osc_reply bytes else (if kind == 12 then dcs_reply bytes else None))

-- the number of a report of attributes
unfoldable pub report_number : Report → ℕ
report_number Primary = 1
report_number Secondary = 2
report_number Tertiary = 3

-- the number of a mode's state: that which the terminal sends
unfoldable pub state_number : ModeState → ℕ
state_number NotRecognized = 0
state_number Set = 1
state_number Reset = 2
state_number PermanentlySet = 3
state_number PermanentlyReset = 4

-- the number of a colour: that of its command
unfoldable pub name_number : ColourName → ℕ
name_number (Palette index) = 4
name_number Foreground = 10
name_number Background = 11
name_number Cursor = 12

-- the index of a colour of the palette
unfoldable pub palette_index : ColourName → ℕ
palette_index (Palette index) = index
palette_index _ = 0

-- the number of a colour scheme: that which the terminal sends
unfoldable pub scheme_number : ColourScheme → ℕ
scheme_number Dark = 1
scheme_number Light = 2

-- all zero
abbrev pub no_values : CReply
no_values = record {
  kind = 0;
  report = 0;
  state = 0;
  is_private = false;
  name = 0;
  scheme = 0;
  selection = 0;
  index = 0;
  red = 0;
  green = 0;
  blue = 0;
  rows = 0;
  columns = 0;
  mode = 0;
  len = 0;
}

-- what a reply says, in numbers
abbrev pub c_reply : Reply → CReply
c_reply (DeviceAttributes report numbers) =
    record no_values { kind = 1; report = report_number report; len = length numbers }
c_reply (Mode mode is_private state) =
    record no_values { kind = 2; state = state_number state; is_private = is_private; mode = mode }
c_reply (reply.Colour name colour) = record no_values {
  kind = 3;
  name = name_number name;
  index = palette_index name;
  red = colour.red;
  green = colour.green;
  blue = colour.blue;
}
c_reply (Version text) = record no_values { kind = 4; len = length text }
c_reply (WindowSize rows columns) = record no_values { kind = 5; rows = rows; columns = columns }
c_reply (reply.ColourScheme scheme) = record no_values { kind = 6; scheme = scheme_number scheme }
c_reply (Clipboard selection bytes) =
    record no_values { kind = 7; selection = unwrap_or selection 0; len = length bytes }

-- the numbers that a reply brings
abbrev pub numbers_of : Reply → List ℕ
numbers_of (DeviceAttributes report numbers) = numbers
numbers_of _ = []

-- the bytes that a reply brings
abbrev pub bytes_in : Reply → List ℕ
bytes_in (Version text) = text
bytes_in (Clipboard selection bytes) = bytes
bytes_in _ = []

-- The event is a reply that says this. Of its numbers and its bytes each place has as many as it has room for.
abbrev pub Says : ℕ → List ℕ → CReply → List ℕ → List ℕ → List ℕ → List ℕ → Type 0
Says kind bytes told numbers_before numbers_after before after =
    (found : Reply) × (reply_in kind bytes ≡ Some found) × (told ≡ c_reply found)
    × (numbers_after ≡ copied (numbers_of found) numbers_before) × (after ≡ copied (bytes_in found) before)
