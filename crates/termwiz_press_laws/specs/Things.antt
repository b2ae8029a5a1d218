-- What is sent to a program, one thing at a time, and what the program is told of it.
use Rattle.std.specs.Prelude.{◌≡◌, ◌⊎◌, ℕ, ◌≤◌, ◌==◌, ◌&&◌, Bool, true, false, List, [], ◌∷◌, length, drop, map, flat_map, Option, Some, None, Contains, if◌then◌else◌}
use Rattle.std.specs.List.{AllByRecursion}
use Rattle.std.specs.Str.{chars}
use Rattle.termwiz_base.specs.declared.mouse.MouseReport.{MouseReport}
use Rattle.termwiz_keys.specs.declared.types.KeyCode.TheVariants.{Char}
use Rattle.termwiz_keys.specs.Keys.{NONE, key_with}
use Rattle.termwiz_extended_events.specs.declared.types.Event.{Event}
use Rattle.termwiz_extended_events.specs.declared.types.Event.TheVariants.{Key, CursorPosition, Csi}
use Rattle.termwiz_extended_events.specs.declared.types.KeyReport.{KeyReport}
use Rattle.termwiz_extended_events.specs.declared.types.Reading.{Reading}
use Rattle.termwiz_extended_events.specs.PortEvents.{pressed_key}
use Rattle.termwiz_extended_grammar.specs.ExtendedGrammar.{Means}
use Rattle.termwiz_extended_grammar.specs.Forms.{most_control}
use Rattle.termwiz_extended_grammar.specs.Readings.{after_event, after_events, is_asking}
use Rattle.termwiz_kitty.specs.KittyLaws.{IsReport, IsWritable}
use Rattle.termwiz_kitty.specs.KittyTexts.{IsWithin}
use Rattle.termwiz_kitty.specs.Telling.{is_release, reported}
use Rattle.termwiz_senders.specs.declared.mouse.MouseEncoding.TheVariants.{Sgr}
use Rattle.termwiz_senders.specs.declared.mouse.MouseTracking.{MouseTracking}
use Rattle.termwiz_senders.specs.EventTexts.{IsEventText, IsReply, attributes_text, position_text, scheme_text}
use Rattle.termwiz_senders.specs.MouseLaws.{HasPlace, read_report}
use Rattle.termwiz_senders.specs.MouseTexts.{mouse_text, told_by}
use Rattle.termwiz_senders.specs.PasteLaws.{extended_paste}
use Rattle.termwiz_senders.specs.Pastes.{paste_text}
use Rattle.termwiz_event_laws.specs.EventLaws.{IsPlace, IsToldPlainly, IsTyped, IsWord, waiting_texts}
use Rattle.termwiz_bindings.specs.declared.press.KeyPress.{KeyPress}
use Rattle.termwiz_bindings.specs.Presses.{canonical, typed_text}
use Rattle.termwiz_binding_laws.specs.EncodedPresses.{HasFirstSettings, any_of_four, is_position}
use Rattle.termwiz_binding_laws.specs.KittyPresses.{is_in_tables, is_sent_as_text, kitty_twin, takes_text}
use Rattle.termwiz_binding_laws.specs.SentPresses.{IsSentKey, Sent, bytes_of, key_twins}
use Rattle.termwiz_binding_laws.specs.SentPresses.Sent.{by_port, by_kitty}

-- A reply, as a terminal writes it: its attributes, its colours, the position of its cursor, or another one that is an event by itself. So are the
-- focus and a new size, which it reports unasked.
pub data Reply : Type 0 where
  Attributes : (numbers : List ℕ) → Reply
  Scheme : (dark : Bool) → Reply
  Position : (row column : ℕ) (private : Bool) → Reply
  OtherReply : (event : Event) → Reply

-- A key, by either encoder; a paste in brackets; a mouse report in SGR's encoding; or a reply.
pub data Thing : Type 0 where
  SentKey : (what : Sent) → Thing
  SentPaste : (text : List ℕ) → Thing
  SentMouse : (report : MouseReport) (tracking : MouseTracking) → Thing
  SentReply : (what : Reply) → Thing

-- A key is pressed by the port's encoder, which any key but U+0000 may be, with SHIFT, ALT, CTRL and SUPER. It isn't F3 with a modifier while a
-- question for the cursor's position is open. By Kitty's, it is any report that a terminal can write and that isn't too long.
abbrev pub IsKeySent : Reading → Sent → List ℕ → Type 0
IsKeySent reading (by_port key held modes) bytes =
    IsSentKey key × Contains any_of_four held × ((is_position key held && is_asking reading) ≡ false)
IsKeySent reading (by_kitty r flags) bytes = IsReport r × IsWritable r × IsWithin r flags bytes

-- A reply is written so. A position without a mark is sent only where it isn't F3: while a question for it is open, or elsewhere than F3 can be.
abbrev pub IsReplySent : Reading → Reply → List ℕ → Type 0
IsReplySent reading (Attributes numbers) bytes =
    (bytes ≡ attributes_text numbers) × AllByRecursion IsWord numbers × (length bytes ≤ most_control)
IsReplySent reading (Scheme dark) bytes = bytes ≡ scheme_text dark
IsReplySent reading (Position row column private) bytes =
    (bytes ≡ position_text row column private) × IsPlace row × IsPlace column × ((private ≡ true) ⊎ IsToldPlainly reading row column)
IsReplySent reading (OtherReply event) bytes = IsReply event × IsTyped event × IsEventText reading event bytes

-- These bytes are sent for the thing, to a program that reads so.
abbrev pub IsSent : Reading → Thing → List ℕ → Type 0
IsSent reading (SentKey what) bytes = (bytes_of what ≡ Some bytes) × IsKeySent reading what bytes
IsSent reading (SentPaste text) bytes = bytes ≡ paste_text text true
IsSent reading (SentMouse report tracking) bytes = HasPlace (told_by report) × (mouse_text report tracking Sgr ≡ Some bytes)
IsSent reading (SentReply what) bytes = IsReplySent reading what bytes

-- What a program is told: the press of a key, a text of several characters that was typed, or anything else.
pub data Told : Type 0 where
  Pressed : (press : KeyPress) → Told
  Typed : (text : List ℕ) → Told
  Received : (event : Event) → Told

abbrev pub pressed_or_typed : Option KeyPress → List ℕ → List Told
pressed_or_typed (Some press) text = Pressed press ∷ []
pressed_or_typed None [] = []
pressed_or_typed None (b ∷ text) = Typed (b ∷ text) ∷ []

-- a report tells its press, or the text that it types, or nothing: so does a release
abbrev pub told_of_report : KeyReport → List Told
told_of_report r = pressed_or_typed (canonical r) (typed_text r)

abbrev pub told_of_event : Event → List Told
told_of_event (Key r) = told_of_report r
told_of_event event = Received event ∷ []

abbrev pub told_of_events : List Event → List Told
told_of_events events = flat_map told_of_event events

-- the report types no text, or one character by the key of a character or without a key
abbrev pub has_one_character : KeyReport → List ℕ → Bool
has_one_character r [] = true
has_one_character r text = takes_text r.key && (length (chars text) == 1)

-- the key of a character as it is pressed alone
abbrev pub typed_character : ℕ → KeyReport
typed_character c = pressed_key (key_with (Char c) NONE)

-- A report with a longer text is told as each character of the text, where that is sent as it is, or as what the sequence carries. A text from
-- before the protocol tells nothing of it.
abbrev pub long_twins : KeyReport → ℕ → List KeyReport
long_twins r flags =
    if is_sent_as_text r flags then map typed_character (chars r.text)
    else (if is_in_tables r flags then kitty_twin r flags ∷ []
    else reported r flags ∷ [])

-- The twins of a report under these flags: a release has none.
abbrev pub report_twins : KeyReport → ℕ → List KeyReport
report_twins r flags =
    if is_release r.kind then []
    else (if has_one_character r r.text then kitty_twin r flags ∷ [] else long_twins r flags)

-- what is read in place of a key
abbrev pub twins : Sent → List KeyReport
twins (by_port key held modes) = key_twins key held modes
twins (by_kitty r flags) = report_twins r flags

-- the event of a reply; a sequence is told by its bytes behind ESC and [
abbrev pub reply_event : Reply → Event
reply_event (Attributes numbers) = Csi (drop 2 (attributes_text numbers))
reply_event (Scheme dark) = Csi (drop 2 (scheme_text dark))
reply_event (Position row column private) = CursorPosition row column
reply_event (OtherReply event) = event

-- what the program is told of a thing: of a key what its twins tell, and anything else as it was sent
abbrev pub told_by_thing : Thing → List Told
told_by_thing (SentKey what) = flat_map told_of_report (twins what)
told_by_thing (SentPaste text) = Received (extended_paste text) ∷ []
told_by_thing (SentMouse report tracking) = Received (read_report Sgr tracking report) ∷ []
told_by_thing (SentReply what) = Received (reply_event what) ∷ []

-- nothing is told of what sends nothing
abbrev pub told_of_thing : Thing → List ℕ → List Told
told_of_thing thing [] = []
told_of_thing thing (b ∷ bytes) = told_by_thing thing

-- how the program reads after it: a position answers a question
abbrev pub after_thing : Reading → Thing → Reading
after_thing reading (SentReply what) = after_event reading (reply_event what)
after_thing reading thing = reading

-- The bytes are events by themselves, of which this is told, and nothing waits.
pub record IsToldAs (reading : Reading) (bytes : List ℕ) (more : Bool) (told : List Told) (after : Reading) : Type 0 where
  pub events : List Event
  pub means : Means reading bytes more events []
  pub tells : told_of_events events ≡ told
  pub leaves : after_events reading events ≡ after

-- One thing is told as what it is. With more to come that is so of all but seven texts, which wait: ESC, ESC ESC, and ESC with [ O P ] or _.
abbrev pub OneThing : Type 0
OneThing = (reading : Reading) (thing : Thing) (bytes : List ℕ) (more : Bool) → HasFirstSettings reading → IsSent reading thing bytes
    → (more ≡ true → ¬ Contains waiting_texts bytes)
    → IsToldAs reading bytes more (told_of_thing thing bytes) (after_thing reading thing)
