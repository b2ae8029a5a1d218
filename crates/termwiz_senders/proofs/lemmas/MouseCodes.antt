-- The codes that are written for mouse reports, and what they say.
use Rattle.std.proofs.Common.{◌≡◌, ℕ, ◌+◌, ◌≤◌, Bool, true, false, refl, sym, ap, ap₂, ◌∙◌, subst, arith, nat_le}
use Rattle.std.specs.Prelude.{◌==◌, if◌then◌else◌}
use Rattle.std.proofs.lemmas.Bool.Decides.{nat_tests}
use Rattle.termwiz_base.specs.Mouse.{final_press, final_release, button_of, modifiers_of, row_of}
use Rattle.termwiz_base.specs.declared.mouse.MouseButton.{MouseButton}
use Rattle.termwiz_base.specs.declared.mouse.MouseButton.TheVariants as button
use Rattle.termwiz_keys.specs.Buttons.{buttons_of}
use Rattle.termwiz_keys.specs.KeyCodes.{holds}
use Rattle.termwiz_keys.specs.Keys.{SHIFT, ALT, CTRL}
use Rattle.termwiz_keys.specs.declared.types.MouseEvent.{MouseEvent}
use Rattle.termwiz_grammar.specs.MouseReports.{mouse_event}
use Rattle.termwiz_extended_events.specs.MouseReports.{byte_kind_of, byte_report, kind_of, named_button}
use Rattle.termwiz_extended_events.specs.declared.types.Event.TheVariants.{Mouse}
use Rattle.termwiz_senders.specs.declared.mouse.Action.{Action}
use Rattle.termwiz_senders.specs.declared.mouse.Action.TheVariants.{Press, Release, Drag, Move}
use Rattle.termwiz_senders.specs.declared.mouse.MouseEncoding.{MouseEncoding}
use Rattle.termwiz_senders.specs.declared.mouse.MouseEncoding.TheVariants.{Default, Urxvt, Sgr}
use Rattle.termwiz_senders.specs.declared.mouse.MouseTracking.{MouseTracking}
use Rattle.termwiz_senders.specs.declared.mouse.MouseTracking.TheVariants.{X10}
use Rattle.termwiz_senders.specs.declared.mouse.Told.{Told}
use Rattle.termwiz_senders.specs.MouseLaws.{is_wheel, report_told, told_kind, told_number}
use Rattle.termwiz_senders.specs.MouseTexts.{action_of, number_of, button_code, counted, sent_modifiers, code_of, last_byte}

-- the sum of what three modifiers count, as far as they are held
abbrev pub bits : ℕ → ℕ → ℕ → Bool → Bool → Bool → ℕ
bits shift alt ctrl s a c = (if s then shift else 0) + (if a then alt else 0) + (if c then ctrl else 0)

-- which of the three are sent
pub record Held (tracking : MouseTracking) (held : ℕ) : Type 0 where
  pub s : Bool
  pub a : Bool
  pub c : Bool
  pub counts : (shift alt ctrl : ℕ) → counted shift alt ctrl tracking held ≡ bits shift alt ctrl s a c

pub held_bits : (tracking : MouseTracking) (held : ℕ) → Held tracking held
held_bits X10 held = record { s = false; a = false; c = false; counts = λ shift alt ctrl. refl }
held_bits tracking held =
    record { s = holds held SHIFT; a = holds held ALT; c = holds held CTRL; counts = λ shift alt ctrl. refl }

-- the code of a button and three modifiers
abbrev pub written_code : MouseEncoding → MouseButton → Bool → Bool → Bool → ℕ
written_code encoding b s a c = button_code encoding (action_of b) (number_of b) + bits 4 8 16 s a c

-- in SGR's encoding it says the button and the modifiers
pub record Tells (code last : ℕ) (b : MouseButton) (s a c : Bool) : Type 0 where
  pub button : button_of code last ≡ b
  pub modifiers : modifiers_of code ≡ record { 0 = bits 2 4 8 s a c }
  pub small : nat_le code 95 ≡ true
  pub named : named_button code ≡ told_number Sgr (action_of b) b
  pub kind : kind_of (last == final_release) code (named_button code) ≡ told_kind (action_of b) (is_wheel b)

pub sgr_tells : (b : MouseButton) (s a c : Bool) → Tells (written_code Sgr b s a c) (last_byte (action_of b)) b s a c
unfolding button_of row_of modifiers_of
sgr_tells button.None true true true = record { button = refl; modifiers = refl; small = refl; named = refl; kind = refl }
sgr_tells button.None true true false = record { button = refl; modifiers = refl; small = refl; named = refl; kind = refl }
sgr_tells button.None true false true = record { button = refl; modifiers = refl; small = refl; named = refl; kind = refl }
sgr_tells button.None true false false = record { button = refl; modifiers = refl; small = refl; named = refl; kind = refl }
sgr_tells button.None false true true = record { button = refl; modifiers = refl; small = refl; named = refl; kind = refl }
sgr_tells button.None false true false = record { button = refl; modifiers = refl; small = refl; named = refl; kind = refl }
sgr_tells button.None false false true = record { button = refl; modifiers = refl; small = refl; named = refl; kind = refl }
sgr_tells button.None false false false = record { button = refl; modifiers = refl; small = refl; named = refl; kind = refl }
sgr_tells b true true true = record { button = refl; modifiers = refl; small = refl; named = refl; kind = refl }
sgr_tells b true true false = record { button = refl; modifiers = refl; small = refl; named = refl; kind = refl }
sgr_tells b true false true = record { button = refl; modifiers = refl; small = refl; named = refl; kind = refl }
sgr_tells b true false false = record { button = refl; modifiers = refl; small = refl; named = refl; kind = refl }
sgr_tells b false true true = record { button = refl; modifiers = refl; small = refl; named = refl; kind = refl }
sgr_tells b false true false = record { button = refl; modifiers = refl; small = refl; named = refl; kind = refl }
sgr_tells b false false true = record { button = refl; modifiers = refl; small = refl; named = refl; kind = refl }
sgr_tells b false false false = record { button = refl; modifiers = refl; small = refl; named = refl; kind = refl }

-- in the others it says which buttons are held, and the modifiers
pub record TellsHeld (code : ℕ) (b : MouseButton) (s a c : Bool) : Type 0 where
  pub buttons : buttons_of (button_of code final_press) ≡ buttons_of b
  pub modifiers : modifiers_of code ≡ record { 0 = bits 2 4 8 s a c }
  pub small : nat_le code 95 ≡ true
  pub named : named_button code ≡ told_number Default (action_of b) b
  pub kind : byte_kind_of code (named_button code) ≡ told_kind (action_of b) (is_wheel b)

pub default_tells : (b : MouseButton) (s a c : Bool) → TellsHeld (written_code Default b s a c) b s a c
unfolding button_of row_of modifiers_of
default_tells button.None true true true = record { buttons = refl; modifiers = refl; small = refl; named = refl; kind = refl }
default_tells button.None true true false = record { buttons = refl; modifiers = refl; small = refl; named = refl; kind = refl }
default_tells button.None true false true = record { buttons = refl; modifiers = refl; small = refl; named = refl; kind = refl }
default_tells button.None true false false = record { buttons = refl; modifiers = refl; small = refl; named = refl; kind = refl }
default_tells button.None false true true = record { buttons = refl; modifiers = refl; small = refl; named = refl; kind = refl }
default_tells button.None false true false = record { buttons = refl; modifiers = refl; small = refl; named = refl; kind = refl }
default_tells button.None false false true = record { buttons = refl; modifiers = refl; small = refl; named = refl; kind = refl }
default_tells button.None false false false = record { buttons = refl; modifiers = refl; small = refl; named = refl; kind = refl }
default_tells b true true true = record { buttons = refl; modifiers = refl; small = refl; named = refl; kind = refl }
default_tells b true true false = record { buttons = refl; modifiers = refl; small = refl; named = refl; kind = refl }
default_tells b true false true = record { buttons = refl; modifiers = refl; small = refl; named = refl; kind = refl }
default_tells b true false false = record { buttons = refl; modifiers = refl; small = refl; named = refl; kind = refl }
default_tells b false true true = record { buttons = refl; modifiers = refl; small = refl; named = refl; kind = refl }
default_tells b false true false = record { buttons = refl; modifiers = refl; small = refl; named = refl; kind = refl }
default_tells b false false true = record { buttons = refl; modifiers = refl; small = refl; named = refl; kind = refl }
default_tells b false false false = record { buttons = refl; modifiers = refl; small = refl; named = refl; kind = refl }

same_code : (action : Action) (number : ℕ) → button_code Default action number ≡ button_code Urxvt action number
same_code Press number = refl
same_code Release number = refl
same_code Drag number = refl
same_code Move number = refl

pub urxvt_tells : (b : MouseButton) (s a c : Bool) → TellsHeld (written_code Urxvt b s a c) b s a c
urxvt_tells b s a c =
    subst (λ n. TellsHeld (n + bits 4 8 16 s a c) b s a c) (same_code (action_of b) (number_of b)) (default_tells b s a c)

-- they name the same buttons
pub same_number : (action : Action) (b : MouseButton) → told_number Default action b ≡ told_number Urxvt action b
same_number Press b = refl
same_number Release b = refl
same_number Drag b = refl
same_number Move b = refl

-- the code of what a report tells is such a code
pub code_is : (tracking : MouseTracking) (encoding : MouseEncoding) (t : Told) (h : Held tracking t.modifiers.0)
    → code_of tracking encoding t ≡ written_code encoding t.button h.s h.a h.c
code_is tracking encoding t h = ap (λ n. button_code encoding (action_of t.button) (number_of t.button) + n) (h.counts 4 8 16)

-- its modifiers are those that are sent
pub modifiers_are : (tracking : MouseTracking) (encoding : MouseEncoding) (t : Told) (h : Held tracking t.modifiers.0)
    → modifiers_of (written_code encoding t.button h.s h.a h.c) ≡ record { 0 = bits 2 4 8 h.s h.a h.c }
    → modifiers_of (code_of tracking encoding t) ≡ sent_modifiers tracking t.modifiers
modifiers_are tracking encoding t h tells =
    ap modifiers_of (code_is tracking encoding t h) ∙ tells ∙ ap (λ n. record { 0 = n }) (sym (h.counts SHIFT ALT CTRL))

pub small_is : (code : ℕ) → nat_le code 95 ≡ true → code ≤ 95
small_is code e = grind (arith, nat_tests)

-- the event that is told of a report
abbrev pub told_event : MouseTracking → Told → MouseEvent
told_event tracking t = record {
  x = t.x;
  y = t.y;
  mouse_buttons = buttons_of t.button;
  modifiers = sent_modifiers tracking t.modifiers;
}

pub event_is : (tracking : MouseTracking) (t : Told) (code last : ℕ) → buttons_of (button_of code last) ≡ buttons_of t.button
    → modifiers_of code ≡ sent_modifiers tracking t.modifiers → mouse_event code t.x t.y last ≡ told_event tracking t
unfolding mouse_event
event_is tracking t code last buttons modifiers =
    ap₂ (λ b m. record { x = t.x; y = t.y; mouse_buttons = b; modifiers = m }) buttons modifiers

-- the extended parser's event of a report that names no button where it is released
pub report_is : (encoding : MouseEncoding) (tracking : MouseTracking) (t : Told) (code : ℕ)
    → mouse_event code t.x t.y final_press ≡ told_event tracking t
    → named_button code ≡ told_number encoding (action_of t.button) t.button
    → byte_kind_of code (named_button code) ≡ told_kind (action_of t.button) (is_wheel t.button)
    → Mouse (byte_report code t.x t.y) ≡ report_told encoding tracking t
report_is encoding tracking t code event named kind =
    ap (λ e. Mouse (record {
      x = e.x;
      y = e.y;
      modifiers = e.modifiers;
      buttons = e.mouse_buttons;
      kind = byte_kind_of code (named_button code);
      button = named_button code;
    })) event
    ∙ ap₂ (λ k n. Mouse (record {
      x = t.x;
      y = t.y;
      modifiers = sent_modifiers tracking t.modifiers;
      buttons = buttons_of t.button;
      kind = k;
      button = n;
    })) kind named
