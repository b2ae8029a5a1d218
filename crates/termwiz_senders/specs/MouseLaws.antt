-- The laws of mouse reports: what is sent is read back.
use Rattle.std.specs.Prelude.{◌≡◌, ℕ, ◌^◌, ◌<◌, Bool, true, false, List, [], ◌∷◌, Option, Some, None}
use Rattle.termwiz_base.specs.Mouse.{IsReport, report_of}
use Rattle.termwiz_base.specs.declared.mouse.MouseButton.{MouseButton}
use Rattle.termwiz_base.specs.declared.mouse.MouseButton.TheVariants as button
use Rattle.termwiz_base.specs.declared.mouse.MouseReport.{MouseReport}
use Rattle.termwiz_base.specs.declared.mouse.MouseReport.TheVariants.{SGR1006}
use Rattle.termwiz_keys.specs.Buttons.{buttons_of}
use Rattle.termwiz_keys.specs.declared.types.InputEvent.{InputEvent}
use Rattle.termwiz_keys.specs.declared.types.InputEvent.TheVariants as input
use Rattle.termwiz_grammar.specs.Grammar as port
use Rattle.termwiz_extended_events.specs.declared.types.Event.{Event}
use Rattle.termwiz_extended_events.specs.declared.types.Event.TheVariants.{Mouse}
use Rattle.termwiz_extended_events.specs.declared.types.MouseKind.{MouseKind}
use Rattle.termwiz_extended_events.specs.declared.types.MouseKind.TheVariants as kinds
use Rattle.termwiz_extended_events.specs.declared.types.Reading.{Reading}
use Rattle.termwiz_extended_grammar.specs.ExtendedGrammar as extended
use Rattle.termwiz_extended_grammar.specs.Readings.{ReadsMore}
use Rattle.termwiz_senders.specs.declared.mouse.Action.{Action}
use Rattle.termwiz_senders.specs.declared.mouse.Action.TheVariants as action
use Rattle.termwiz_senders.specs.declared.mouse.MouseEncoding.{MouseEncoding}
use Rattle.termwiz_senders.specs.declared.mouse.MouseEncoding.TheVariants.{Default, Urxvt, Sgr}
use Rattle.termwiz_senders.specs.declared.mouse.MouseTracking.{MouseTracking}
use Rattle.termwiz_senders.specs.declared.mouse.MouseTracking.TheVariants.{Any}
use Rattle.termwiz_senders.specs.declared.mouse.Told.{Told}
use Rattle.termwiz_senders.specs.MouseTexts.{told_by, action_of, is_reported, sent_modifiers, sgr_text, mouse_text}

-- what the type of a report says of its place
pub record HasPlace (t : Told) : Type 0 where
  pub x_fits : t.x < 2 ^ 16
  pub y_fits : t.y < 2 ^ 16

-- The program gets the report, and these bytes are sent for it.
pub record Sends (report : MouseReport) (tracking : MouseTracking) (encoding : MouseEncoding) (bytes : List ℕ) : Type 0 where
  pub place : HasPlace (told_by report)
  pub reported : is_reported tracking (action_of (told_by report).button) ≡ true
  pub bytes_are : mouse_text report tracking encoding ≡ Some bytes

-- the event that is read: the place and the buttons of the report, and those modifiers that were sent
abbrev pub event_told : MouseTracking → Told → InputEvent
event_told tracking t = input.Mouse (record {
  x = t.x;
  y = t.y;
  mouse_buttons = buttons_of t.button;
  modifiers = sent_modifiers tracking t.modifiers;
})

abbrev pub read_event : MouseTracking → MouseReport → InputEvent
read_event tracking report = event_told tracking (told_by report)

-- the number of a button, by which events name it
abbrev pub button_number : MouseButton → Option ℕ
button_number button.Button1Press = Some 1
button_number button.Button1Release = Some 1
button_number button.Button1Drag = Some 1
button_number button.Button2Press = Some 2
button_number button.Button2Release = Some 2
button_number button.Button2Drag = Some 2
button_number button.Button3Press = Some 3
button_number button.Button3Release = Some 3
button_number button.Button3Drag = Some 3
button_number button.Button4Press = Some 4
button_number button.Button4Release = Some 4
button_number button.Button5Press = Some 5
button_number button.Button5Release = Some 5
button_number button.Button6Press = Some 6
button_number button.Button6Release = Some 6
button_number button.Button7Press = Some 7
button_number button.Button7Release = Some 7
button_number button.None = None

-- the button that is told: of a release only SGR's encoding tells it
abbrev pub told_number : MouseEncoding → Action → MouseButton → Option ℕ
told_number Sgr _ b = button_number b
told_number _ action.Release b = None
told_number _ _ b = button_number b

-- a wheel
abbrev pub is_wheel : MouseButton → Bool
is_wheel button.Button4Press = true
is_wheel button.Button5Press = true
is_wheel button.Button6Press = true
is_wheel button.Button7Press = true
is_wheel b = false

-- what happened
abbrev pub told_kind : Action → Bool → MouseKind
told_kind action.Press true = kinds.Wheel
told_kind action.Press false = kinds.Press
told_kind action.Release _ = kinds.Release
told_kind action.Drag _ = kinds.Drag
told_kind action.Move _ = kinds.Move

-- the extended parser's event: the same, with what happened to which button
abbrev pub report_told : MouseEncoding → MouseTracking → Told → Event
report_told encoding tracking t = Mouse (record {
  x = t.x;
  y = t.y;
  modifiers = sent_modifiers tracking t.modifiers;
  buttons = buttons_of t.button;
  kind = told_kind (action_of t.button) (is_wheel t.button);
  button = told_number encoding (action_of t.button) t.button;
})

abbrev pub read_report : MouseEncoding → MouseTracking → MouseReport → Event
read_report encoding tracking report = report_told encoding tracking (told_by report)

-- What is sent in SGR's encoding is that event, to the port and under every reading.
abbrev pub SgrReadBack : Type 0
SgrReadBack = (report : MouseReport) (tracking : MouseTracking) (bytes : List ℕ) (more : Bool) → Sends report tracking Sgr bytes
    → port.Means bytes more (read_event tracking report ∷ []) []

abbrev pub SgrReadBackExtended : Type 0
SgrReadBackExtended = (reading : Reading) (report : MouseReport) (tracking : MouseTracking) (bytes : List ℕ) (more : Bool)
    → Sends report tracking Sgr bytes → extended.Means reading bytes more (read_report Sgr tracking report ∷ []) []

-- What is sent in urxvt's is that under every reading that reads more than the port's sequences.
abbrev pub UrxvtReadBack : Type 0
UrxvtReadBack = (reading : Reading) (report : MouseReport) (tracking : MouseTracking) (bytes : List ℕ) (more : Bool)
    → ReadsMore reading → Sends report tracking Urxvt bytes
    → extended.Means reading bytes more (read_report Urxvt tracking report ∷ []) []

-- What is sent in three bytes is that under every such reading that reads X10 mouse reports.
abbrev pub DefaultReadBack : Type 0
DefaultReadBack = (reading : Reading) (report : MouseReport) (tracking : MouseTracking) (bytes : List ℕ) (more : Bool)
    → ReadsMore reading → reading.x10_mouse ≡ true → Sends report tracking Default bytes
    → extended.Means reading bytes more (read_report Default tracking report ∷ []) []

-- These numbers and this last byte are sent at this place in SGR's encoding, and are a report, which is that one.
pub record SendsNumbers (sent : MouseReport) (tracking : MouseTracking) (x y : ℕ) (given : MouseReport) : Type 0 where
  pub code : ℕ
  pub last : ℕ
  pub bytes_are : mouse_text sent tracking Sgr ≡ Some (sgr_text code x y last)
  pub is_report : IsReport code last
  pub gives : report_of code x y last ≡ given

-- The numbers that are sent give the report, but for modifiers that aren't sent.
abbrev pub SgrInverse : Type 0
SgrInverse = (report : MouseReport) (tracking : MouseTracking) → is_reported tracking (action_of (told_by report).button) ≡ true
    → SendsNumbers report tracking (told_by report).x (told_by report).y
    (SGR1006 (told_by report).x (told_by report).y (told_by report).button (sent_modifiers tracking (told_by report).modifiers))

-- Where all reports are sent, each one that numbers give is sent by numbers that give it again.
abbrev pub SgrGivesAgain : Type 0
SgrGivesAgain = (code x y last : ℕ) → IsReport code last → SendsNumbers (report_of code x y last) Any x y (report_of code x y last)
