-- Worked examples of press to press: a few things that are sent, and what the program is told of them.
use Rattle.std.specs.Prelude.{◌≡◌, ℕ, Bool, true, false, List, [], ◌∷◌, ◌++◌, codes, None}
use Rattle.std.specs.Char.{encode_utf8}
use Rattle.termwiz_keys.specs.Introducers.{ESC, START, END}
use Rattle.termwiz_keys.specs.Keys.{NONE}
use Rattle.termwiz_keys.specs.declared.types.KeyCode.{KeyCode}
use Rattle.termwiz_keys.specs.declared.types.KeyCode.TheVariants.{Char, Escape}
use Rattle.termwiz_keys.specs.declared.encode.KeyCodeEncodeModes.{KeyCodeEncodeModes}
use Rattle.termwiz_keys.specs.declared.encode.KeyboardEncoding.TheVariants.{Xterm}
use Rattle.termwiz_extended_events.specs.declared.types.Dialect.TheVariants.{Extended}
use Rattle.termwiz_extended_events.specs.declared.types.Event.{Event}
use Rattle.termwiz_extended_events.specs.declared.types.Event.TheVariants.{CursorPosition, Paste}
use Rattle.termwiz_extended_events.specs.declared.types.Reading.{Reading}
use Rattle.termwiz_extended_events.specs.declared.types.ReportedKey.TheVariants.{Named}
use Rattle.termwiz_extended_grammar.specs.Readings.{asking, first_reading}
use Rattle.termwiz_timed.specs.Segments.{Read, ReadsInTurn}
use Rattle.termwiz_binding_laws.specs.SentPresses.Sent.{by_port}
use Rattle.termwiz_press_laws.specs.PressRuns.{AreSent, Bring, Sending}
use Rattle.termwiz_press_laws.specs.Things.{Told, told_of_events}
use Rattle.termwiz_press_laws.specs.Things.Reply.{Position}
use Rattle.termwiz_press_laws.specs.Things.Thing.{SentKey, SentPaste, SentReply}
use Rattle.termwiz_press_laws.specs.Things.Told.{Pressed, Received}

-- The things may be sent so. In reads, whatever the cuts are, this is told of them, and nothing stays buffered.
pub record AreToldAs (reading : Reading) (sendings : List Sending) (told : List Told) : Type 0 where
  pub sent : AreSent reading sendings
  pub tells : (reads : List Read) → Bring reads sendings
      → (events : List Event) × ReadsInTurn reading [] reads events [] × (told_of_events events ≡ told)

-- how a new parser reads, while so many questions for the cursor's position are open
abbrev pub asked : ℕ → Reading
asked questions = asking (first_reading Extended) questions

-- xterm's modes, all off
abbrev pub plain_modes : KeyCodeEncodeModes
plain_modes = record {
  encoding = Xterm;
  application_cursor_keys = false;
  newline_mode = false;
  modify_other_keys = None;
}

-- a key without modifiers that is sent as these bytes, and as it is told
abbrev pub key : KeyCode → List ℕ → Bool → Sending
key k bytes paused = record { thing = SentKey (by_port k NONE plain_modes); bytes = bytes; paused = paused }

abbrev pub press : KeyCode → Told
press k = Pressed (record { key = Named k; held = 0 })

-- Two keys are told in their order.
abbrev pub two_keys : List Sending
two_keys = key (Char 97) (codes "a") false ∷ key (Char 98) (codes "b") false ∷ []

abbrev pub two_presses : List Told
two_presses = press (Char 97) ∷ press (Char 98) ∷ []

abbrev pub TwoInOrder : Type 0
TwoInOrder = AreToldAs (asked 0) two_keys two_presses

-- Escape, and after a pause what would be the up arrow behind its ESC: three keys.
abbrev pub cut_off : List Sending
cut_off = key Escape ESC true ∷ key (Char 91) (codes "[") false ∷ key (Char 65) (codes "A") false ∷ []

abbrev pub EscapeApart : Type 0
EscapeApart = AreToldAs (asked 0) cut_off (press Escape ∷ press (Char 91) ∷ press (Char 65) ∷ [])

-- A text that has END in it is one paste, with the picture of ESC in the place of ESC.
abbrev pub text_with_end : List ℕ
text_with_end = codes "a" ++ END ++ codes "b"

abbrev pub text_made_safe : List ℕ
text_made_safe = codes "a" ++ encode_utf8 0x241b ++ codes "[201~b"

abbrev pub pasted_end : List Sending
pasted_end = record { thing = SentPaste text_with_end; bytes = START ++ text_made_safe ++ END; paused = false } ∷ []

abbrev pub PasteWithEnd : Type 0
PasteWithEnd = AreToldAs (asked 0) pasted_end (Received (Paste text_made_safe) ∷ [])

-- While a question is open its reply is a position, though its bytes are also those of F3 with SHIFT.
abbrev pub with_question : Reading
with_question = asked 1

abbrev pub position : List Sending
position = record { thing = SentReply (Position 1 2 false); bytes = ESC ++ codes "[1;2R"; paused = false } ∷ []

abbrev pub AskedPosition : Type 0
AskedPosition = AreToldAs with_question position (Received (CursorPosition 1 2) ∷ [])
