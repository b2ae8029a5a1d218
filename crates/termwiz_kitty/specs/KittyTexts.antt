-- The bytes that a terminal writes for a key under kitty's keyboard protocol.
use Rattle.std.specs.Prelude.{◌≡◌, ◌<◌, ◌≤◌, length, ℕ, Bool, ◌+◌, ◌==◌, ◌&&◌, List, [], ◌∷◌, ◌++◌, flat_map, codes, decimal, Option, Some, None, option_map, unwrap_or, encode_utf8, if◌then◌else◌}
use Rattle.std.specs.Str.{chars}
use Rattle.termwiz_keys.specs.Introducers.{ESC, CSI, SS3}
use Rattle.termwiz_keys.specs.declared.types.KeyCode.TheVariants.{Char, Tab, Backspace}
use Rattle.termwiz_extended_events.specs.declared.types.KeyReport.{KeyReport}
use Rattle.termwiz_extended_events.specs.declared.types.KeyEventKind.{KeyEventKind}
use Rattle.termwiz_extended_events.specs.declared.types.KeyEventKind.TheVariants.{Press, Repeat, Release}
use Rattle.termwiz_extended_events.specs.declared.types.ReportedKey.{ReportedKey}
use Rattle.termwiz_extended_events.specs.declared.types.ReportedKey.TheVariants.{Named}
use Rattle.termwiz_kitty.specs.declared.telling.Telling.{Telling}
use Rattle.termwiz_kitty.specs.declared.telling.Telling.TheVariants.{Nothing, Typed, Legacy, Reported}
use Rattle.termwiz_kitty.specs.declared.key_forms.KeyForm.{KeyForm}
use Rattle.termwiz_kitty.specs.declared.key_forms.KeyForm.TheVariants.{Letter, Number, Code}
use Rattle.termwiz_kitty.specs.KeyForms.{form_of}
use Rattle.termwiz_kitty.specs.declared.legacy.LegacyText.{LegacyText}
use Rattle.termwiz_kitty.specs.declared.legacy.LegacyText.TheVariants.{Alone, AfterEscape, BackTab, EscapeAndBackTab, FunctionLetter, Menu}
use Rattle.termwiz_kitty.specs.LegacyTexts.{with_shift}
use Rattle.termwiz_kitty.specs.Telling.{telling, told_key, reported, is_press, is_shifted, is_typed_text}

-- what happened to the key, behind the number of the modifiers
abbrev pub kind_text : KeyEventKind → List ℕ
kind_text Press = []
kind_text Repeat = codes ":2"
kind_text Release = codes ":3"

-- the number of the modifiers, one more than their bits, and what happened to the key
unfoldable pub manner_text : ℕ → KeyEventKind → List ℕ
manner_text bits kind = decimal (1 + bits) ++ kind_text kind

-- a press with no modifier
abbrev pub is_plain : ℕ → KeyEventKind → Bool
is_plain bits kind = (bits == 0) && is_press kind

-- what goes between the front of a sequence and its end: nothing for a press with no modifier
abbrev pub manner_behind : List ℕ → ℕ → KeyEventKind → List ℕ
manner_behind front bits kind = if is_plain bits kind then [] else front ++ manner_text bits kind

-- 1 ; modifiers : kind and the letter
unfoldable pub lettered_text : ℕ → ℕ → KeyEventKind → List ℕ
lettered_text letter bits kind = CSI ++ manner_behind (codes "1;") bits kind ++ encode_utf8 letter

-- number ; modifiers : kind ~
unfoldable pub numbered_text : ℕ → ℕ → KeyEventKind → List ℕ
numbered_text n bits kind = CSI ++ decimal n ++ manner_behind (codes ";") bits kind ++ codes "~"

-- the number of the key, that of what it types with Shift, and that of what its place types
unfoldable pub codes_text : ℕ → Option ℕ → Option ℕ → List ℕ
codes_text n None None = decimal n
codes_text n (Some shifted) None = decimal n ++ codes ":" ++ decimal shifted
codes_text n None (Some base) = decimal n ++ codes "::" ++ decimal base
codes_text n (Some shifted) (Some base) = decimal n ++ codes ":" ++ decimal shifted ++ codes ":" ++ decimal base

-- a colon and the number of a character
abbrev pub further_character : ℕ → List ℕ
further_character c = codes ":" ++ decimal c

-- the numbers of characters, parted by colons
unfoldable pub characters_text : List ℕ → List ℕ
characters_text [] = []
characters_text (c ∷ cs) = decimal c ++ flat_map further_character cs

-- the field of the manner, which is empty for a press with no modifier, and the number of the first character of a text
abbrev pub first_text : ℕ → KeyEventKind → ℕ → List ℕ
first_text bits kind c = codes ";" ++ manner_behind [] bits kind ++ codes ";" ++ decimal c

-- the fields behind the first one: a field with nothing to say is empty before a text, and else left out
unfoldable pub fields_behind : ℕ → KeyEventKind → List ℕ → List ℕ
fields_behind bits kind [] = manner_behind (codes ";") bits kind
fields_behind bits kind (c ∷ cs) = codes ";" ++ manner_behind [] bits kind ++ codes ";" ++ characters_text (c ∷ cs)

-- number : shifted : base ; modifiers : kind ; text u
unfoldable pub coded_text : ℕ → Option ℕ → Option ℕ → ℕ → KeyEventKind → List ℕ → List ℕ
coded_text n shifted base bits kind text = CSI ++ codes_text n shifted base ++ fields_behind bits kind (chars text) ++ codes "u"

-- the sequence of a report whose key has this form
unfoldable pub sequence_text : KeyForm → KeyReport → List ℕ
sequence_text (Letter letter) r = lettered_text letter r.modifiers r.kind
sequence_text (Number n) r = numbered_text n r.modifiers r.kind
sequence_text (Code n) r = coded_text n r.shifted r.base r.modifiers r.kind r.text

-- how many bytes a sequence may have
abbrev pub most_bytes : ℕ
most_bytes = 256

-- the character that a key shows: what it types with Shift, if that is held and known, or else its own
abbrev pub shown : ℕ → ℕ → Option ℕ → ℕ
shown c bits shifted = if is_shifted bits then unwrap_or (with_shift c shifted) c else c

-- what a key types by itself: Enter, Tab and Backspace a control character
abbrev pub typed_by : ReportedKey → KeyReport → List ℕ
typed_by (Named (Char c)) r = encode_utf8 (shown c r.modifiers r.shifted)
typed_by (Named Tab) r = 9 ∷ []
typed_by (Named Backspace) r = 127 ∷ []
typed_by key r = 13 ∷ []

-- what a key types: the text of its report, or else what it types by itself
unfoldable pub typed_text : ReportedKey → KeyReport → List ℕ
typed_text key r = if is_typed_text r.text then r.text else typed_by key r

-- the bytes of what a key sends before the protocol
unfoldable pub legacy_bytes : LegacyText → List ℕ
legacy_bytes (Alone c) = encode_utf8 c
legacy_bytes (AfterEscape c) = ESC ++ encode_utf8 c
legacy_bytes BackTab = CSI ++ codes "Z"
legacy_bytes EscapeAndBackTab = ESC ++ CSI ++ codes "Z"
legacy_bytes (FunctionLetter letter) = SS3 ++ encode_utf8 letter
legacy_bytes (Menu held) = numbered_text 29 held Press

-- the sequence of what is sent of a report
abbrev pub report_text : KeyReport → ℕ → Option (List ℕ)
report_text r flags = option_map (λ form. sequence_text form (reported r flags)) (form_of (told_key r flags))

-- the bytes of a key that is sent so
abbrev pub text_as : Telling → KeyReport → ℕ → Option (List ℕ)
text_as Nothing r flags = Some []
text_as Typed r flags = Some (typed_text (told_key r flags) r)
text_as (Legacy text) r flags = Some (legacy_bytes text)
text_as Reported r flags = report_text r flags

-- The bytes that a terminal writes for a key under these flags; none where the key's report would be sent and the protocol has no number for it.
unfoldable pub kitty_text : KeyReport → ℕ → Option (List ℕ)
kitty_text r flags = text_as (telling r flags) r flags

-- a sequence isn't longer than it may be
abbrev pub IsWithin : KeyReport → ℕ → List ℕ → Type 0
IsWithin r flags text = telling r flags ≡ Reported → length text ≤ most_bytes

-- the sequence of what is sent of a report would be longer
abbrev pub IsTooLongReport : KeyReport → ℕ → Type 0
IsTooLongReport r flags = (text : List ℕ) × (report_text r flags ≡ Some text) × (most_bytes < length text)

-- the key is sent as such a report
abbrev pub IsTooLong : KeyReport → ℕ → Type 0
IsTooLong r flags = (telling r flags ≡ Reported) × IsTooLongReport r flags
