-- Keys of the port that send, in xterm's encoding, what keys send before Kitty's protocol, and are read as their twins.
use Rattle.std.proofs.Common.{◌≡◌, ℕ, ◌+◌, ◌*◌, ◌<◌, Bool, true, false, not, List, [], ◌∷◌, map, filter, Option, None, refl, arith, Contains, ◌&&◌, ◌==◌, nat_le, nat_lt}
use Rattle.std.specs.Prelude.{option_map, if◌then◌else◌}
use Rattle.std.specs.List.{list_all}
use Rattle.std.specs.Fmt.{digits}
use Rattle.std.proofs.Math.Utf8.{low_scalar}
use Rattle.std.proofs.lemmas.Bool.{and_parts}
use Rattle.std.proofs.lemmas.Bool.Decides.{nat_tests}
use Rattle.termwiz_keys.specs.declared.types.KeyCode.{KeyCode}
use Rattle.termwiz_keys.specs.declared.types.KeyCode.TheVariants.{Char, Function, Tab, Enter, Escape, Backspace, Applications}
use Rattle.termwiz_keys.specs.Encoding.{enc}
use Rattle.termwiz_keys.specs.KeyCodes.{holds}
use Rattle.termwiz_keys.specs.Keys as port
use Rattle.termwiz_grammar.specs.Table.{numbers}
use Rattle.termwiz_grammar.proofs.lemmas.lists.ListMembers.{pairs}
use Rattle.termwiz_laws.proofs.lemmas.further_keys.ComputedReadings.{Held, enc_written_out}
use Rattle.termwiz_laws.proofs.lemmas.further_keys.FurtherReadings.{bits}
use Rattle.termwiz_laws.proofs.lemmas.further_keys.SingleKey.{among, among_contains}
use Rattle.termwiz_extended_events.specs.declared.types.ReportedKey.{ReportedKey}
use Rattle.termwiz_extended_events.specs.declared.types.ReportedKey.TheVariants.{Named}
use Rattle.termwiz_kitty.specs.LegacyTexts.{NONE, ALT, CTRL, SHIFT, CTRL_ALT, ctrl_mapped, is_text_key, legacy_text}
use Rattle.termwiz_kitty.specs.KittyTexts.{legacy_bytes, numbered_text, manner_text}
use Rattle.termwiz_kitty.proofs.lemmas.PortKeys.{xterm_modes}
use Rattle.termwiz_bindings.specs.declared.press.KeyPress.{KeyPress}
use Rattle.termwiz_bindings.specs.Presses.{canonical, uncontrolled}
use Rattle.termwiz_binding_laws.specs.Twins.{twin, port_twin, twin_in}
use Rattle.termwiz_binding_laws.specs.EncodedPresses.{any_of_four, IsCovered, is_newline, is_position, is_unknown_to_port, press_of_key}
use Rattle.termwiz_binding_laws.specs.LegacyTwins.{legacy_twin}
use Rattle.termwiz_binding_laws.proofs.lemmas.ComputedPresses.{canonical_written_out}
use Rattle.termwiz_binding_laws.proofs.lemmas.TextPresses.{is_replaced, if_waiting}

-- what a key sends
abbrev pub text_before : ReportedKey → ℕ → Option ℕ → Option (List ℕ)
text_before key held shifted = option_map legacy_bytes (legacy_text key held shifted)

-- a key of the port that sends a character in xterm's encoding, with this bit of ALT
abbrev sender : ℕ → ℕ → Held
sender c alt =
    if nat_lt c 32 then (Char (uncontrolled c), port.CTRL + alt) else (if c == 127 then (Backspace, alt) else (Char c, alt))

abbrev alt_of : ℕ → ℕ
alt_of held = if holds held ALT then port.ALT else port.NONE

-- A key of the port that sends what the key sends with these of kitty's modifiers. The port's bits of SHIFT, ALT and CTRL are twice kitty's.
abbrev pub source : Held → Held
source (Char c, held) = sender (if holds held CTRL then ctrl_mapped c else c) (alt_of held)
source (Enter, held) = sender 13 (alt_of held)
source (Escape, held) = sender 27 (alt_of held)
source (Backspace, held) = sender (if holds held CTRL then 8 else 127) (alt_of held)
source (Tab, held) = if holds held SHIFT then (Tab, port.SHIFT + alt_of held) else sender 9 (alt_of held)
source (Function n, held) = (Function n, held)
source (key, held) = (Function 16, 2 * held)

-- the keys of control characters and the space, in all columns of the tables
abbrev pub control_keys : List KeyCode
control_keys = Enter ∷ Escape ∷ Backspace ∷ Tab ∷ Char 32 ∷ []

abbrev pub controls : List Held
controls = pairs control_keys (numbers 0 7)

-- the text keys but the space, with ALT, CTRL or both
abbrev pub text_keys : List ℕ
text_keys = filter is_text_key (numbers 33 94)

abbrev pub texts : List Held
texts = pairs (map Char text_keys) (ALT ∷ CTRL ∷ CTRL_ALT ∷ [])

-- F1 to F4
abbrev pub functions : List Held
functions = pairs (map Function (numbers 1 4)) (NONE ∷ [])

-- Applications with SHIFT, ALT and CTRL
abbrev pub menus : List Held
menus = pairs (Applications ∷ []) (numbers 0 8)

-- the laws on the port's keys speak of the source
abbrev is_source_key : KeyCode → Bool
is_source_key (Char c) = nat_le 32 c && nat_lt c 127
is_source_key Backspace = true
is_source_key Tab = true
is_source_key (Function n) = true
is_source_key key = false

abbrev pub is_source : Held → Bool
is_source p =
    is_source_key p.0 && among any_of_four p.1 && not (is_newline p.0 p.1 xterm_modes) && not (is_position p.0 p.1)
    && not (is_unknown_to_port p.0 p.1 xterm_modes)

is_covered : (key : KeyCode) → is_source_key key ≡ true → IsCovered key
is_covered (Char c) e =
    let parts = and_parts (nat_le 32 c) (nat_lt c 127) e in
    let low : nat_le 32 c ≡ true = parts.0 in
    let high : nat_lt c 127 ≡ true = parts.1 in
    let below : c < 127 = grind (arith, nat_tests) in
    (low_scalar c (omega arith), grind (arith, nat_tests), λ same. omega arith)
is_covered Backspace e = tt
is_covered Tab e = tt
is_covered (Function n) e = tt
is_covered key e = cc

all_parts : (a b c d e : Bool) → (a && b && not c && not d && not e) ≡ true
    → (a ≡ true) × (b ≡ true) × (c ≡ false) × (d ≡ false) × (e ≡ false)
all_parts true true false false false h = (refl, refl, refl, refl, refl)
all_parts false b c d e h = cc (h)
all_parts true false c d e h = cc (h)
all_parts true true true d e h = cc (h)
all_parts true true false true e h = cc (h)
all_parts true true false false true h = cc (h)

pub record IsSource (p : Held) : Type 0 where
  pub covered : IsCovered p.0
  pub set : Contains any_of_four p.1
  pub newline : is_newline p.0 p.1 xterm_modes ≡ false
  pub apart : is_position p.0 p.1 ≡ false
  pub known : is_unknown_to_port p.0 p.1 xterm_modes ≡ false

pub sourced : (p : Held) → is_source p ≡ true → IsSource p
sourced p e =
    let parts = all_parts (is_source_key p.0) (among any_of_four p.1) (is_newline p.0 p.1 xterm_modes) (is_position p.0 p.1)
    (is_unknown_to_port p.0 p.1 xterm_modes) e in
    record {
      covered = is_covered p.0 parts.0;
      set = among_contains any_of_four p.1 parts.1;
      newline = parts.2;
      apart = parts.3;
      known = parts.4;
    }

abbrev pub sent_by_port : Held → Option (List ℕ)
sent_by_port p = enc p.0 (bits p.1) xterm_modes

-- the press of a source to the port, and that which is read of a key
abbrev pub port_press : Held → Option KeyPress
port_press p = press_of_key (port_twin (source p).0 (source p).1 xterm_modes)

abbrev pub read_press : Option ℕ → Held → Option KeyPress
read_press shifted p = canonical (legacy_twin (Named p.0) p.1 shifted)

-- Of all these keys: their sources send what they send, and their twins have the press of the keys' twins. To the port each has that press too, if
-- it waits, and none is that of a broken byte.
pub record AreSourced (cases : List Held) (shifted : Option ℕ) : Type 0 where
  pub sources : list_all (λ p. is_source (source p)) cases ≡ true
  pub sent : map (λ p. text_before (Named p.0) p.1 shifted) cases ≡ map (λ p. sent_by_port (source p)) cases
  pub pressed : map (λ p. press_of_key (twin (source p).0 (source p).1 xterm_modes)) cases ≡ map (read_press shifted) cases
  pub waits : map (λ p. if_waiting (port_press p) (read_press shifted p)) cases ≡ map (read_press shifted) cases
  pub unbroken : list_all (λ p. not (is_replaced (port_press p))) cases ≡ true

pub controls_sourced : (shifted : Option ℕ) → AreSourced controls shifted
unfolding enc_written_out canonical_written_out twin_in legacy_twin legacy_text legacy_bytes numbers
controls_sourced shifted =
    record { sources = refl; sent = refl; pressed = refl; waits = refl; unbroken = refl }

pub texts_sourced : (shifted : Option ℕ) → AreSourced texts shifted
unfolding enc_written_out canonical_written_out twin_in legacy_twin legacy_text legacy_bytes numbers
texts_sourced shifted =
    record { sources = refl; sent = refl; pressed = refl; waits = refl; unbroken = refl }

pub functions_sourced : (shifted : Option ℕ) → AreSourced functions shifted
unfolding enc_written_out canonical_written_out twin_in legacy_twin legacy_text legacy_bytes numbers
functions_sourced shifted =
    record { sources = refl; sent = refl; pressed = refl; waits = refl; unbroken = refl }

pub menus_sourced : (shifted : Option ℕ) → AreSourced menus shifted
unfolding enc_written_out canonical_written_out twin_in legacy_twin legacy_text legacy_bytes numbered_text manner_text numbers digits
menus_sourced shifted =
    record { sources = refl; sent = refl; pressed = refl; waits = refl; unbroken = refl }

-- With other modifiers the tables have no text.
pub controls_none : (shifted : Option ℕ) → map (λ p. text_before (Named p.0) p.1 shifted) (pairs control_keys (numbers 7 57))
    ≡ map (λ p. None) (pairs control_keys (numbers 7 57))
unfolding legacy_text numbers
controls_none shifted = refl
