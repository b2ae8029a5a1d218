-- What an event of the extended parser is written as.
use Rattle.std.specs.Prelude.{◌≡◌, ℕ, ◌+◌, ◌<◌, ◌≤◌, ◌==◌, ◌&&◌, ◌⊎◌, Bool, true, List, [], ◌∷◌, ◌++◌, length, codes, decimal, Option, Some, None, option_and_then, flat_map, if◌then◌else◌}
use Rattle.termwiz_base.specs.declared.mouse.MouseButton.{MouseButton}
use Rattle.termwiz_base.specs.declared.mouse.MouseButton.TheVariants as button
use Rattle.termwiz_base.specs.declared.mouse.MouseReport.TheVariants.{SGR1006}
use Rattle.termwiz_base.specs.declared.modifiers.Modifiers.{Modifiers}
use Rattle.termwiz_keymap.specs.Bytes.{Occurs}
use Rattle.termwiz_keys.specs.Buttons.{button_bits}
use Rattle.termwiz_keys.specs.Introducers.{CSI, END}
use Rattle.termwiz_keys.specs.Keys.{SHIFT, ALT, CTRL}
use Rattle.termwiz_laws.specs.PasteEvents.{pasted}
use Rattle.termwiz_extended_events.specs.declared.types.Event.{Event}
use Rattle.termwiz_extended_events.specs.declared.types.Event.TheVariants.{Key, Mouse, Paste, FocusGained, FocusLost, CursorPosition, Resized, KeyboardFlags, Csi, Osc, Dcs, Apc, StringPart, StringCut}
use Rattle.termwiz_extended_events.specs.declared.types.Reading.{Reading}
use Rattle.termwiz_extended_events.specs.declared.types.MouseReport.{MouseReport}
use Rattle.termwiz_extended_events.specs.declared.types.MouseKind.{MouseKind}
use Rattle.termwiz_extended_events.specs.declared.types.MouseKind.TheVariants.{Press, Release, Drag, Move, Wheel}
use Rattle.termwiz_extended_events.specs.declared.types.StringKind.{StringKind}
use Rattle.termwiz_extended_events.specs.declared.types.StringKind.TheVariants as kinds
use Rattle.termwiz_extended_events.specs.ReportedKeys.{entry_at}
use Rattle.termwiz_extended_grammar.specs.Forms.{introducer, ST, most_control, most_string}
use Rattle.termwiz_extended_grammar.specs.ExtendedGrammar.{Means}
use Rattle.termwiz_extended_grammar.specs.Readings.{ReadsMore}
use Rattle.termwiz_kitty.specs.KittyTexts.{most_bytes}
use Rattle.termwiz_senders.specs.declared.mouse.MouseEncoding.TheVariants.{Sgr, Urxvt}
use Rattle.termwiz_senders.specs.declared.mouse.MouseTracking.TheVariants.{Any}
use Rattle.termwiz_senders.specs.MouseTexts.{counted, mouse_text, sgr_text}
use Rattle.termwiz_senders.specs.KeyTexts.{IsKeyText}
use Rattle.termwiz_senders.specs.ReportTexts.{report_text}

-- no modifier but SHIFT, ALT and CTRL
abbrev pub tells_modifiers : Modifiers → Bool
tells_modifiers held = held.0 == counted SHIFT ALT CTRL Any held.0

-- The buttons by their numbers, of which one was pressed, dragged or released, or a wheel turned.
abbrev pub pressed_buttons : List (ℕ × MouseButton)
pressed_buttons = (1, button.Button1Press) ∷ (2, button.Button2Press) ∷ (3, button.Button3Press) ∷ []

abbrev pub dragged_buttons : List (ℕ × MouseButton)
dragged_buttons = (1, button.Button1Drag) ∷ (2, button.Button2Drag) ∷ (3, button.Button3Drag) ∷ []

abbrev pub released_buttons : List (ℕ × MouseButton)
released_buttons =
    (1, button.Button1Release) ∷ (2, button.Button2Release) ∷ (3, button.Button3Release) ∷ (4, button.Button4Release)
    ∷ (5, button.Button5Release) ∷ (6, button.Button6Release) ∷ (7, button.Button7Release) ∷ []

abbrev pub turned_wheels : List (ℕ × MouseButton)
turned_wheels =
    (4, button.Button4Press) ∷ (5, button.Button5Press) ∷ (6, button.Button6Press) ∷ (7, button.Button7Press) ∷ []

-- what is reported to the port too: of a button that is named, or that none is down
abbrev pub reported_button : MouseKind → Option ℕ → Option MouseButton
reported_button Press (Some number) = entry_at pressed_buttons number
reported_button Drag (Some number) = entry_at dragged_buttons number
reported_button Release (Some number) = entry_at released_buttons number
reported_button Wheel (Some number) = entry_at turned_wheels number
reported_button Move None = Some button.None
reported_button _ _ = None

-- a report of this button in SGR's encoding, if the same buttons are down
abbrev pub button_text : MouseReport → MouseButton → Option (List ℕ)
button_text e b = if e.buttons.0 == button_bits b then mouse_text (SGR1006 e.x e.y b e.modifiers) Any Sgr else None

-- the report that the port reads too, if there is one
unfoldable pub sgr_event_text : MouseReport → Option (List ℕ)
sgr_event_text e =
    if tells_modifiers e.modifiers then option_and_then (button_text e) (reported_button e.kind e.button) else None

-- the code of a side button without modifiers: 128 is button 8, and a drag has 32 more
abbrev pub side_codes : List (ℕ × ℕ)
side_codes = (8, 128) ∷ (9, 129) ∷ (10, 130) ∷ (11, 131) ∷ []

abbrev pub side_move : MouseKind → ℕ
side_move Drag = 32
side_move kind = 0

abbrev pub side_last : MouseKind → ℕ
side_last Release = 109
side_last kind = 77

-- the report of a side button in SGR's encoding
abbrev pub side_text : MouseReport → ℕ → List ℕ
side_text e code = sgr_text (code + side_move e.kind + counted 4 8 16 Any e.modifiers.0) e.x e.y (side_last e.kind)

abbrev pub side_event_text : MouseReport → ℕ → Option (List ℕ)
side_event_text e number = option_and_then (λ code. Some (side_text e code)) (entry_at side_codes number)

-- a release that names no button, as urxvt writes it, and what happened to a side button
abbrev pub further_event_text : MouseReport → MouseKind → Option ℕ → Option (List ℕ)
further_event_text e Release None = mouse_text (SGR1006 e.x e.y button.Button1Release e.modifiers) Any Urxvt
further_event_text e Press (Some number) = side_event_text e number
further_event_text e Drag (Some number) = side_event_text e number
further_event_text e Release (Some number) = side_event_text e number
further_event_text e _ _ = None

-- the report that the port doesn't read, if there is one: no button of the port's is down
unfoldable pub further_mouse_text : MouseReport → Option (List ℕ)
further_mouse_text e = if tells_modifiers e.modifiers && (e.buttons.0 == 0) then further_event_text e e.kind e.button else None

-- A mouse report is one that the port reads too. Where more is read, it may be another one.
abbrev pub IsMouseText : Reading → MouseReport → List ℕ → Type 0
IsMouseText reading e bytes = (sgr_event_text e ≡ Some bytes) ⊎ (ReadsMore reading × (further_mouse_text e ≡ Some bytes))

-- the terminal's reply to a question for the position of its cursor
unfoldable pub position_text : ℕ → ℕ → Bool → List ℕ
position_text row column private =
    CSI ++ (if private then codes "?" else []) ++ decimal row ++ codes ";" ++ decimal column ++ codes "R"

-- the report of a new size, in cells and in pixels
unfoldable pub size_text : ℕ → ℕ → ℕ → ℕ → List ℕ
size_text rows columns height width =
    CSI ++ codes "48;" ++ decimal rows ++ codes ";" ++ decimal columns ++ codes ";" ++ decimal height ++ codes ";" ++ decimal width ++ codes "t"

-- the reply to a question for the flags of Kitty's keyboard protocol
unfoldable pub flags_text : ℕ → List ℕ
flags_text flags = CSI ++ codes "?" ++ decimal flags ++ codes "u"

-- what a terminal sends of its colours: 1 for dark ones, and 2 for light ones
abbrev pub scheme_text : Bool → List ℕ
scheme_text dark = CSI ++ codes "?997;" ++ (if dark then codes "1" else codes "2") ++ codes "n"

-- a semicolon and a number
abbrev pub further_number : ℕ → List ℕ
further_number n = codes ";" ++ decimal n

-- numbers, parted by semicolons
abbrev pub numbers_parted : List ℕ → List ℕ
numbers_parted [] = []
numbers_parted (n ∷ ns) = decimal n ++ flat_map further_number ns

-- the terminal's reply to the question for its attributes
unfoldable pub attributes_text : List ℕ → List ℕ
attributes_text numbers = CSI ++ codes "?" ++ numbers_parted numbers ++ codes "c"

-- The bytes mean this event alone, whether or not more may come, and nothing stays buffered.
abbrev pub IsReadAtOnce : Reading → Event → List ℕ → Type 0
IsReadAtOnce reading event bytes = (more : Bool) → Means reading bytes more (event ∷ []) []

-- a string with its end
unfoldable pub string_sent : StringKind → List ℕ → List ℕ
string_sent kind t = introducer kind ++ t ++ ST

-- These are the bytes, and they are read as the event.
abbrev pub IsItself : Reading → Event → List ℕ → List ℕ → Type 0
IsItself reading event text bytes = (bytes ≡ text) × IsReadAtOnce reading event bytes

-- a reply, a new size, or the focus
abbrev pub IsReply : Event → Type 0
IsReply FocusGained = Unit {0}
IsReply FocusLost = Unit {0}
IsReply (CursorPosition row column) = Unit {0}
IsReply (Resized rows columns height width) = Unit {0}
IsReply (KeyboardFlags flags) = Unit {0}
IsReply event = ⊥

-- The event is written as these bytes. Replies, and the focus, are read only where more than the port's sequences is.
unfoldable pub IsEventText : Reading → Event → List ℕ → Type 0
IsEventText reading (Key r) bytes = IsKeyText reading r bytes
IsEventText reading (Mouse e) bytes = IsMouseText reading e bytes
IsEventText reading (Paste text) bytes = (bytes ≡ pasted text) × (¬ Occurs END text)
IsEventText reading FocusGained bytes = ReadsMore reading × (bytes ≡ CSI ++ codes "I")
IsEventText reading FocusLost bytes = ReadsMore reading × (bytes ≡ CSI ++ codes "O")
IsEventText reading (CursorPosition row column) bytes =
    ReadsMore reading × (0 < row) × (0 < column) × (bytes ≡ position_text row column true)
IsEventText reading (Resized rows columns height width) bytes = ReadsMore reading × (bytes ≡ size_text rows columns height width)
IsEventText reading (KeyboardFlags flags) bytes = ReadsMore reading × (bytes ≡ flags_text flags)
IsEventText reading (Csi t) bytes = IsItself reading (Csi t) (CSI ++ t) bytes
IsEventText reading (Osc t) bytes = IsItself reading (Osc t) (string_sent kinds.Osc t) bytes
IsEventText reading (Dcs t) bytes = IsItself reading (Dcs t) (string_sent kinds.Dcs t) bytes
IsEventText reading (Apc t) bytes = IsItself reading (Apc t) (string_sent kinds.Apc t) bytes
IsEventText reading (StringPart kind t) bytes = ⊥
IsEventText reading (StringCut kind t) bytes = ⊥

-- The event isn't written: no bytes are its text.
abbrev pub IsRefused : Reading → Event → Type 0
IsRefused reading event = (bytes : List ℕ) → ¬ IsEventText reading event bytes

-- The event would be a sequence of more than 256 bytes, or a string of which a part is read before it ends.
unfoldable pub IsTooLong : Event → Type 0
IsTooLong (Key r) = (text : List ℕ) × (report_text r ≡ Some text) × (most_bytes < length text)
IsTooLong (Csi t) = most_control < length (CSI ++ t)
IsTooLong (Osc t) = most_string ≤ length (introducer kinds.Osc ++ t)
IsTooLong (Dcs t) = most_string ≤ length (introducer kinds.Dcs ++ t)
IsTooLong (Apc t) = most_string ≤ length (introducer kinds.Apc ++ t)
IsTooLong event = ⊥
