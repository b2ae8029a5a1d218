-- One thing that is sent is told as what it is.
use Rattle.std.proofs.Common.{◌≡◌, ℕ, Bool, true, List, [], ◌∷◌, Contains}
use Rattle.termwiz_extended_events.specs.declared.types.Reading.{Reading}
use Rattle.termwiz_event_laws.specs.EventLaws.{waiting_texts}
use Rattle.termwiz_binding_laws.specs.EncodedPresses.{HasFirstSettings}
use Rattle.termwiz_binding_laws.specs.SentPresses.{Sent}
use Rattle.termwiz_binding_laws.specs.SentPresses.Sent.{by_port, by_kitty}
use Rattle.termwiz_press_laws.specs.Things.{IsSent, IsToldAs, OneThing, told_of_thing}
use Rattle.termwiz_press_laws.specs.Things.Thing.{SentKey, SentMouse, SentPaste, SentReply}
use Rattle.termwiz_press_laws.proofs.lemmas.KittyThings.{kitty_told}
use Rattle.termwiz_press_laws.proofs.lemmas.OtherThings.{mouse_told, nothing_told, paste_told, reply_told}
use Rattle.termwiz_press_laws.proofs.lemmas.PortThings.{port_told}

module _ (reading : Reading) (more : Bool) (first : HasFirstSettings reading) where
  abbrev IsKeyTold : Sent → List ℕ → Type 0
  IsKeyTold what bytes = IsToldAs reading bytes more (told_of_thing (SentKey what) bytes) reading

  key_told : (what : Sent) (bytes : List ℕ) → IsSent reading (SentKey what) bytes → (more ≡ true → ¬ Contains waiting_texts bytes) → IsKeyTold what bytes
  key_told what [] is waits = nothing_told reading more
  key_told (by_port k held modes) (b ∷ bytes) (sends, is) waits =
      port_told reading first k held modes (b ∷ bytes) more is.0 is.1 is.2 sends (λ e. cc (e)) waits
  key_told (by_kitty r flags) (b ∷ bytes) (sends, is) waits =
      kitty_told reading first flags (b ∷ bytes) more (λ e. cc (e)) waits r is.0 is.1 sends is.2

pub one_thing : OneThing
one_thing reading (SentKey what) bytes more first is waits = key_told reading more first what bytes is waits
one_thing reading (SentPaste text) bytes more first is waits = paste_told reading text bytes more is
one_thing reading (SentMouse report tracking) bytes more first is waits = mouse_told reading report tracking bytes more is
one_thing reading (SentReply what) bytes more first is waits = reply_told reading first bytes more waits what is
