-- What numbers of an event stand for.
use Rattle.std.proofs.Common.{◌≡◌, ℕ, List, Option, None}
use Rattle.std.specs.Prelude.{IfNone}
use Rattle.termwiz_extended_events.specs.declared.types.Event.{Event}
use Rattle.termwiz_extended_events.specs.declared.types.Event.TheVariants.{Key, Mouse, Paste, FocusGained, FocusLost, CursorPosition, Resized, KeyboardFlags, Csi, Osc, Dcs, Apc, StringPart, StringCut}
use Rattle.termwiz_extended_events.specs.declared.types.MouseReport.{MouseReport}
use Rattle.hedrugal.specs.declared.events.CEvent.{CEvent}
use Rattle.hedrugal.specs.EventCalls.{StandForEvent, TellsMouse}
use Rattle.hedrugal.specs.Events.{kind_number}

pub told_none : {A P : Type 0} (o : Option A) → o ≡ None → IfNone o P → P
told_none o e h = rw e at h

-- numbers of the kind of a mouse event stand for that kind alone
pub mouse_only : (n : CEvent) (bytes : List ℕ) → n.kind ≡ 2 → ((report : MouseReport) → ¬ TellsMouse n report)
    → (event : Event) → ¬ StandForEvent n bytes event
unfolding kind_number
mouse_only n bytes is none (Mouse report) stands = none report stands.1
mouse_only n bytes is none (Paste text) stands = cc (is, stands.0)
mouse_only n bytes is none (Key report) stands = cc (is, stands.0)
mouse_only n bytes is none FocusGained stands = cc (is, stands.0)
mouse_only n bytes is none FocusLost stands = cc (is, stands.0)
mouse_only n bytes is none (CursorPosition row column) stands = cc (is, stands.0)
mouse_only n bytes is none (Resized r c h w) stands = cc (is, stands.0)
mouse_only n bytes is none (KeyboardFlags flags) stands = cc (is, stands.0)
mouse_only n bytes is none (Csi t) stands = cc (is, stands.0)
mouse_only n bytes is none (Osc t) stands = cc (is, stands.0)
mouse_only n bytes is none (Dcs t) stands = cc (is, stands.0)
mouse_only n bytes is none (Apc t) stands = cc (is, stands.0)
mouse_only n bytes is none (StringPart kind t) stands = cc (is, stands.0)
mouse_only n bytes is none (StringCut kind t) stands = cc (is, stands.0)
