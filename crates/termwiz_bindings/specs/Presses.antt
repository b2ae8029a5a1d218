-- The press of a key report. Rules 1 to 4 decide at once, the first that fits. Rules 5 to 10 are applied in turn to any other report.
use Rattle.std.specs.Prelude.{ℕ, ◌+◌, Bool, true, false, not, ◌==◌, ◌&&◌, ◌||◌, List, [], ◌∷◌, nat_le, bit_and, bit_or, Option, Some, None, option_and_then, is_some, if◌then◌else◌}
use Rattle.std.specs.Option.{option_or}
use Rattle.std.specs.Char.{is_control, is_ascii_control}
use Rattle.std.specs.List.{list_any}
use Rattle.std.specs.Str.{chars}
use Rattle.termwiz_keys.specs.declared.types.KeyCode.{KeyCode}
use Rattle.termwiz_keys.specs.declared.types.KeyCode.TheVariants.{Char, Backspace, Tab, Enter, Escape}
use Rattle.termwiz_keys.specs.declared.types.KeyEvent.{KeyEvent}
use Rattle.termwiz_extended_events.specs.declared.types.KeyReport.{KeyReport}
use Rattle.termwiz_extended_events.specs.declared.types.KeyEventKind.{KeyEventKind}
use Rattle.termwiz_extended_events.specs.declared.types.KeyEventKind.TheVariants.{Press, Release}
use Rattle.termwiz_extended_events.specs.declared.types.ReportedKey.{ReportedKey}
use Rattle.termwiz_extended_events.specs.declared.types.ReportedKey.TheVariants.{Named}
use Rattle.termwiz_extended_events.specs.ReportedKeys.{entry_at}
use Rattle.termwiz_extended_events.specs.KeyReports.{report_of}
use Rattle.termwiz_extended_events.specs.PortEvents.{pressed_key}
use Rattle.termwiz_bindings.specs.declared.press.KeyPress.{KeyPress}
use Rattle.termwiz_bindings.specs.Letters.{standard_shifted, shown_with_shift, letter_of}
use Rattle.termwiz_bindings.specs.MainKeys.{makes_no_press, is_no_key, main_key}

-- kitty's bits of the modifiers that a press may have
abbrev pub SHIFT : ℕ
SHIFT = 1

abbrev pub ALT : ℕ
ALT = 2

abbrev pub CTRL : ℕ
CTRL = 4

abbrev pub SUPER : ℕ
SUPER = 8

abbrev pub HYPER : ℕ
HYPER = 16

abbrev pub META : ℕ
META = 32

-- all of them: the locks aren't among them
abbrev pub all_but_locks : ℕ
all_but_locks = SHIFT + ALT + CTRL + SUPER + HYPER + META

-- those that make a shortcut of a character
abbrev pub all_but_shift : ℕ
all_but_shift = ALT + CTRL + SUPER + HYPER + META

-- the strong ones: with them a letter is told in lower case
abbrev pub strong : ℕ
strong = CTRL + SUPER + HYPER + META

-- some of these modifiers are held
abbrev pub has_any : ℕ → ℕ → Bool
has_any held flags = not (bit_and held flags == 0)

abbrev pub has_shift : ℕ → Bool
has_shift held = has_any held SHIFT

-- a shortcut: a modifier is held beside SHIFT and the locks
abbrev pub is_shortcut : ℕ → Bool
is_shortcut held = has_any held all_but_shift

abbrev pub is_strong : ℕ → Bool
is_strong held = has_any held strong

abbrev pub with_shift : ℕ → ℕ
with_shift held = bit_or held SHIFT

abbrev pub without_shift : ℕ → ℕ
without_shift held = bit_and held all_but_shift

-- the press of a character's key
abbrev pub character_press : ℕ → ℕ → KeyPress
character_press c held = record { key = Named (Char c); held = held }

-- the character of a key
abbrev pub character : ReportedKey → Option ℕ
character (Named (Char c)) = Some c
character key = None

-- a character that a report has beside its key: a control character counts as none
abbrev pub counted : Option ℕ → Option ℕ
counted (Some c) = if is_control c then None else Some c
counted None = None

abbrev pub has_control : List ℕ → Bool
has_control text = list_any is_control (chars text)

-- a text that counts: it has characters, and no control characters
abbrev pub is_counted_text : List ℕ → Bool
is_counted_text [] = false
is_counted_text text = not (has_control text)

-- 1: a release has no press
abbrev pub is_release : KeyEventKind → Bool
is_release Release = true
is_release kind = false

-- 2 to 4: a key may type if it makes a press. So may text that comes without a key.
abbrev pub may_type : ReportedKey → Bool
may_type key = is_no_key key || not (makes_no_press key)

-- 3 and 4: what is typed has a text, and no modifiers but SHIFT and the locks
abbrev pub is_typed : ℕ → List ℕ → Bool
is_typed modifiers text = is_counted_text text && not (is_shortcut modifiers)

abbrev pub types_text : KeyReport → Bool
types_text r = may_type r.key && is_typed r.modifiers r.text

-- 3: a typed character is its press. SHIFT stays with the space alone.
abbrev pub typed_character : ℕ → ℕ → KeyPress
typed_character c held = character_press c (if c == 32 then bit_and held SHIFT else 0)

-- 4: several typed characters are text to insert, and no press
unfoldable pub typed_press : List ℕ → ℕ → Option KeyPress
typed_press (c ∷ []) held = Some (typed_character c held)
typed_press cs held = None

-- 5: a key by its main name, without the locks
unfoldable pub main_press : KeyPress → KeyPress
main_press p = record { key = main_key p.key; held = bit_and p.held all_but_locks }

-- what a rule on characters makes of a press: that of any other key stays
abbrev pub by_character : (ℕ → ℕ → KeyPress) → KeyPress → Option ℕ → KeyPress
by_character rule p (Some c) = rule c p.held
by_character rule p None = p

-- 6: the keys of control characters
abbrev pub control_keys : List (ℕ × KeyCode)
control_keys = (9, Tab) ∷ (13, Enter) ∷ (27, Escape) ∷ []

-- the character that CTRL makes one of the others below the space of: the space, a letter, or one of \ ] ^ _
abbrev pub uncontrolled : ℕ → ℕ
uncontrolled c = if c == 0 then 32 else (if nat_le c 26 then 96 + c else 64 + c)

-- the key that one of the others is with CTRL: Backspace for U+007F, and a character for those below the space
abbrev pub key_with_control : ℕ → KeyCode
key_with_control c = if c == 127 then Backspace else Char (uncontrolled c)

abbrev pub control_character : ℕ → ℕ → Option KeyCode → KeyPress
control_character c held (Some key) = record { key = Named key; held = held }
control_character c held None = record { key = Named (key_with_control c); held = bit_or held CTRL }

-- 6: a control character is Tab, Enter or Escape, or another key with CTRL
unfoldable pub control_press : KeyPress → KeyPress
control_press p =
    by_character (λ c held. if is_ascii_control c then control_character c held (entry_at control_keys c)
    else character_press c held) p (character p.key)

-- 7: the character with SHIFT is told, of any character but the space
abbrev pub is_told : ℕ → ℕ → Bool
is_told c held = has_shift held && not (c == 32)

abbrev pub told_character : ℕ → ℕ → Option ℕ → KeyPress
told_character c held (Some shifted) =
    if is_told c held then character_press shifted (without_shift held) else character_press c held
told_character c held None = character_press c held

-- 7: with SHIFT a character is what it is told to be, without SHIFT
unfoldable pub told_press : Option ℕ → KeyPress → KeyPress
told_press shifted p = by_character (λ c held. told_character c held shifted) p (character p.key)

abbrev pub shown_character : ℕ → ℕ → Option ℕ → KeyPress
shown_character c held (Some shown) = character_press shown (without_shift held)
shown_character c held None = character_press c held

-- 8 and 9: with SHIFT a cased letter is its capital, and what shows SHIFT is itself, each without SHIFT. Any other character keeps SHIFT.
unfoldable pub shown_press : KeyPress → KeyPress
shown_press p =
    by_character (λ c held. if has_shift held then shown_character c held (shown_with_shift c) else character_press c held)
    p (character p.key)

abbrev pub lowered_character : ℕ → ℕ → Option ℕ → KeyPress
lowered_character c held (Some letter) =
    if is_strong held then character_press letter (with_shift held) else character_press c held
lowered_character c held None = character_press c held

-- 10: a capital with a strong modifier is its letter with SHIFT
unfoldable pub lowered_press : KeyPress → KeyPress
lowered_press p = by_character (λ c held. lowered_character c held (letter_of c)) p (character p.key)

-- 8 to 10: whether SHIFT or a capital tells that SHIFT is held
unfoldable pub cased_press : KeyPress → KeyPress
cased_press p = lowered_press (shown_press p)

-- 5 and 6: the key by its main name, before SHIFT is looked at
unfoldable pub plain_press : KeyPress → KeyPress
plain_press p = control_press (main_press p)

-- 5 to 10 in turn
unfoldable pub settled : Option ℕ → KeyPress → KeyPress
settled shifted p = cased_press (told_press (counted shifted) (plain_press p))

-- a report with another text in place of its own
abbrev pub with_text : KeyReport → List ℕ → KeyReport
with_text r text = record r { text = text }

-- the key and the modifiers of a report
abbrev pub reported : KeyReport → KeyPress
reported r = record { key = r.key; held = r.modifiers }

-- 5 to 10 for these
abbrev pub settled_report : KeyReport → KeyPress
settled_report r = settled r.shifted (reported r)

-- The press of a report, or none.
unfoldable pub canonical : KeyReport → Option KeyPress
canonical r =
    if is_release r.kind then None
    else (if types_text r then typed_press (chars r.text) r.modifiers
    else (if makes_no_press r.key then None
    else Some (settled_report r)))

-- the text of a report that has no press because it types several characters; any other text is empty
unfoldable pub typed_text : KeyReport → List ℕ
typed_text r =
    if is_release r.kind then []
    else (if types_text r && not (is_some (typed_press (chars r.text) r.modifiers)) then r.text else [])

-- the report of the press of a key with these modifiers
abbrev pub key_report : KeyCode → ℕ → KeyReport
key_report key modifiers = report_of (Named key) (record { modifiers = modifiers; kind = Press })

-- a key of the port counts as the report of a press with its SHIFT, ALT, CTRL and SUPER
abbrev pub event_report : KeyEvent → KeyReport
event_report k = pressed_key k

-- the report of the key of a PC-101 keyboard that types this character
abbrev pub standard_report : ℕ → ℕ → KeyReport
standard_report base modifiers = record {
  key = Named (Char base);
  modifiers = modifiers;
  kind = Press;
  shifted = entry_at standard_shifted base;
  base = None;
  text = [];
}

-- the key types a character that isn't of ASCII
abbrev pub is_beyond_ascii : ReportedKey → Bool
is_beyond_ascii (Named (Char c)) = nat_le 128 c
is_beyond_ascii key = false

-- The press of the key at the same place of a PC-101 keyboard: of a shortcut whose character isn't of ASCII, if that key is told.
unfoldable pub placed_second : KeyReport → Option KeyPress
placed_second r =
    if is_shortcut r.modifiers && is_beyond_ascii r.key
    then option_and_then (λ base. canonical (standard_report base r.modifiers)) (counted r.base) else None

-- rule 7 gave another character for this one, and rule 9 would have kept its SHIFT
abbrev pub lost_shift_of : ℕ → ℕ → Option ℕ → Bool
lost_shift_of c held (Some shifted) = is_told c held && not (c == shifted) && not (is_some (shown_with_shift c))
lost_shift_of c held None = false

abbrev pub lost_shift : Option ℕ → KeyPress → Bool
lost_shift shifted p = elim (character p.key) [ Some c ↦ lost_shift_of c p.held shifted | None ↦ false ]

-- the report of the press of the same key, with the same modifiers, that says no more
abbrev pub untold : KeyReport → KeyReport
untold r = report_of r.key (record { modifiers = r.modifiers; kind = Press })

-- The press with SHIFT: of a shortcut that lost SHIFT to the character that was told.
unfoldable pub untold_second : KeyReport → Option KeyPress
untold_second r =
    if is_shortcut r.modifiers && lost_shift (counted r.shifted) (plain_press (reported r)) then canonical (untold r) else None

-- the key that sends this control character on some terminals: Backspace with CTRL, and Enter
abbrev pub sent_by : ℕ → ℕ → Option KeyReport
sent_by c modifiers =
    if c == 8 then Some (key_report Backspace (bit_or modifiers CTRL))
    else (if c == 10 then Some (key_report Enter modifiers) else None)

-- The press of that key, with the other modifiers of the report.
unfoldable pub sending_second : KeyReport → Option KeyPress
sending_second r =
    option_and_then canonical (option_and_then (λ c. sent_by c r.modifiers) (character r.key))

-- A press that is tried if that of the report leads nowhere, the first that there is of these.
unfoldable pub second : KeyReport → Option KeyPress
second r =
    if is_release r.kind || makes_no_press r.key then None
    else option_or (placed_second r) (option_or (untold_second r) (sending_second r))

-- the character is typed while these modifiers are held: none, or SHIFT with the space alone
abbrev pub is_typed_with : ℕ → ℕ → Bool
is_typed_with held c = held == 0 || (held == SHIFT && c == 32)

-- The character that a press types. A control character is none.
unfoldable pub text_of_press : KeyPress → Option ℕ
text_of_press p = option_and_then (λ c. if is_typed_with p.held c then Some c else None) (counted (character p.key))
