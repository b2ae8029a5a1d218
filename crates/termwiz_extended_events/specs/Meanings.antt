-- What a sequence means that the port doesn't know.
use Rattle.std.specs.Prelude.{◌≡◌, ◌≢◌, ◌≤◌, ◌⊎◌, ℕ, ◌==◌, Bool, List, [], ◌∷◌, Option, Some, None, if◌then◌else◌, option_map, unwrap_or}
use Rattle.termwiz_extended_events.specs.declared.types.KeyReport.{KeyReport}
use Rattle.termwiz_extended_events.specs.declared.types.Event.{Event}
use Rattle.termwiz_extended_events.specs.declared.types.Event.TheVariants.{Csi, Osc, Dcs, Apc, Key, Mouse, Paste, FocusGained, FocusLost, CursorPosition, Resized, KeyboardFlags, StringPart, StringCut}
use Rattle.termwiz_extended_events.specs.declared.types.StringKind.{StringKind}
use Rattle.termwiz_extended_events.specs.declared.types.StringKind.TheVariants as kinds
use Rattle.termwiz_extended_events.specs.declared.meanings.Meaning.{Meaning}
use Rattle.termwiz_extended_events.specs.declared.meanings.Meaning.TheVariants as meaning
use Rattle.termwiz_extended_events.specs.Numbers.{before_end, first_some}
use Rattle.termwiz_extended_events.specs.KeyReports.{key_report, third_function_key, further_key, rxvt_key, console_key, keypad_key, modified_keypad_key, spelled_report}
use Rattle.termwiz_extended_events.specs.Replies.{focus, reply, mouse_report, side_button}

-- F3, whose sequences can also be positions of the cursor: it comes first where no question for one is open
abbrev pub unasked_key : Bool → List ℕ → Option KeyReport
unasked_key asks t = if asks then None else third_function_key t

-- the event of what follows ESC [, by the first rule that fits; `asks` says that a question for the cursor's position is open
unfoldable pub reported : Bool → List ℕ → Option Event
reported asks t = first_some (
    focus t ∷ option_map Key (key_report t) ∷ option_map Key (unasked_key asks t) ∷ reply t ∷ option_map Key (third_function_key t)
    ∷ option_map Key (rxvt_key t) ∷ option_map Mouse (mouse_report t) ∷ option_map Mouse (side_button t)
    ∷ option_map Key (console_key t) ∷ option_map Key (further_key t) ∷ [])

-- A small letter but m, t and u. What ends so behind ESC [ is read by no rule, unless M comes first.
abbrev pub IsUnreadEnd : ℕ → Type 0
IsUnreadEnd b = ((97 ≤ b) × (b ≤ 108)) ⊎ (((110 ≤ b) × (b ≤ 115)) ⊎ ((118 ≤ b) × (b ≤ 122)))

-- the event of what follows ESC O, by the first rule that fits
unfoldable pub keypad_reported : List ℕ → Option Event
keypad_reported t = first_some (option_map Key (keypad_key t) ∷ option_map Key (modified_keypad_key t) ∷ [])

-- what ends a string: ESC and a backslash, or for commands the byte BEL
abbrev pub string_end : List ℕ
string_end = 27 ∷ 92 ∷ []

abbrev pub bell : List ℕ
bell = 7 ∷ []

-- a string without its end
unfoldable pub string_text : List ℕ → List ℕ
string_text t = unwrap_or (before_end string_end t) t

-- a command without its end
unfoldable pub command_text : List ℕ → List ℕ
command_text t = unwrap_or (before_end string_end t) (unwrap_or (before_end bell t) t)

-- the event of what follows ESC and a byte
unfoldable pub event_after : Bool → ℕ → List ℕ → Event
event_after asks b t =
    if b == 91 then unwrap_or (reported asks t) (Csi t)
    else (if b == 79 then unwrap_or (keypad_reported t) (Csi t)
    else (if b == 93 then Osc (command_text t)
    else (if b == 80 then Dcs (string_text t)
    else (if b == 95 then Apc (string_text t)
    else Csi t))))

-- the event of a sequence, while a question for the cursor's position is open or not
unfoldable pub event_of : Bool → List ℕ → Event
event_of asks (escape ∷ b ∷ t) = if escape == 27 then event_after asks b t else Csi t
event_of asks _ = Csi []

-- the event of a string that has its end: its bytes after its introducer, without the end
abbrev pub whole_string : StringKind → List ℕ → Event
whole_string kinds.Osc bytes = Osc bytes
whole_string kinds.Dcs bytes = Dcs bytes
whole_string kinds.Apc bytes = Apc bytes

-- a report of a key
abbrev pub IsKey : Event → Type 0
IsKey (Key report) = Unit {0}
IsKey _ = ⊥

-- a report of the cursor's position
abbrev pub IsPosition : Event → Type 0
IsPosition (CursorPosition row column) = Unit {0}
IsPosition _ = ⊥

-- a report of a key, or of the cursor's position
abbrev pub IsKeyOrPosition : Event → Type 0
IsKeyOrPosition (Key report) = Unit {0}
IsKeyOrPosition (CursorPosition row column) = Unit {0}
IsKeyOrPosition _ = ⊥

-- an event that has a text or bytes of its own
abbrev pub NeedsMemory : Event → Type 0
NeedsMemory (Paste text) = Unit {0}
NeedsMemory (Key report) = report.text ≢ []
NeedsMemory (Csi bytes) = Unit {0}
NeedsMemory (Osc bytes) = Unit {0}
NeedsMemory (Dcs bytes) = Unit {0}
NeedsMemory (Apc bytes) = Unit {0}
NeedsMemory (StringPart kind bytes) = Unit {0}
NeedsMemory (StringCut kind bytes) = Unit {0}
NeedsMemory _ = ⊥

-- the event of a meaning; none if a report in it spells no text
abbrev pub event_from : Meaning → Option Event
event_from meaning.FocusGained = Some FocusGained
event_from meaning.FocusLost = Some FocusLost
event_from (meaning.CursorPosition row column) = Some (CursorPosition row column)
event_from (meaning.Resized rows columns height width) = Some (Resized rows columns height width)
event_from (meaning.KeyboardFlags flags) = Some (KeyboardFlags flags)
event_from (meaning.Mouse report) = Some (Mouse report)
event_from (meaning.Key report) = option_map Key (spelled_report report)
event_from (meaning.Csi bytes) = Some (Csi bytes.now)
event_from (meaning.Osc bytes) = Some (Osc bytes.now)
event_from (meaning.Dcs bytes) = Some (Dcs bytes.now)
event_from (meaning.Apc bytes) = Some (Apc bytes.now)
event_from (meaning.StringPart kind bytes) = Some (StringPart kind bytes.now)
event_from (meaning.StringCut kind bytes) = Some (StringCut kind bytes.now)

-- a meaning is there exactly if the event is, and is its meaning
abbrev pub IsMeant : Option Meaning → Option Event → Type 0
IsMeant found event = option_map event_from found ≡ option_map (λ e. Some e) event
