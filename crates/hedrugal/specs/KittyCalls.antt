-- What the numbers of a key report stand for, and what a terminal sends for it under Kitty's keyboard protocol.
use Rattle.std.specs.Prelude.{◌≡◌, ℕ, List, [], length, Option, Some, None}
use Rattle.std.specs.Char.{IsScalar}
use Rattle.termwiz_base.specs.Bits.{HasEvery}
use Rattle.termwiz_base.specs.Kitty as kitty
use Rattle.termwiz_extended_events.specs.declared.types.KeyReport.{KeyReport}
use Rattle.termwiz_kitty.specs.KittyTexts.{kitty_text, IsTooLong, IsWithin}
use Rattle.hedrugal.specs.declared.events.CEvent.{CEvent}
use Rattle.hedrugal.specs.Calls.{copied}
use Rattle.hedrugal.specs.Events.{key_event_kind_number, no_code}
use Rattle.termwiz_bindings.specs.Numbers.{StandForReported}

-- the number is this character, or says that there is none
abbrev pub IsCode : ℕ → Option ℕ → Type 0
IsCode number (Some character) = (character ≡ number) × IsScalar number
IsCode number None = number ≡ no_code

-- the numbers stand for this report, whatever its text is
abbrev pub StandForReport : CEvent → KeyReport → Type 0
StandForReport numbers report =
    (key_event_kind_number report.kind ≡ numbers.key_event_kind) × (report.modifiers ≡ numbers.modifiers)
    × StandForReported numbers.key numbers.detail report.key
    × IsCode numbers.shifted report.shifted × IsCode numbers.base report.base

-- a report without its text
abbrev pub without_text : KeyReport → KeyReport
without_text report = record report { text = [] }

-- the numbers are those of a key, and stand for this report
abbrev pub StandForKey : CEvent → KeyReport → Type 0
StandForKey numbers report = (numbers.kind ≡ 1) × StandForReport numbers report

-- the numbers and the text stand for this report, and each bit of the flags has a name
abbrev pub IsAskedFor : CEvent → List ℕ → ℕ → KeyReport → Type 0
IsAskedFor numbers text flags report =
    StandForKey numbers report × (report.text ≡ text) × HasEvery kitty.every_flag flags

-- one of the numbers stands for nothing, or a bit of the flags has no name
abbrev pub IsBadReport : CEvent → ℕ → Type 0
IsBadReport numbers flags = (report : KeyReport) → ¬ (StandForKey numbers report × HasEvery kitty.every_flag flags)

-- a key is sent so: `out` has as much of the bytes as it has room for, and `len` is how many they are
abbrev pub WroteReport : CEvent → List ℕ → ℕ → List ℕ → List ℕ → ℕ → Type 0
WroteReport numbers text flags before after len =
    (report : KeyReport) × (sent : List ℕ) × IsAskedFor numbers text flags report × (kitty_text report flags ≡ Some sent)
    × IsWithin report flags sent × (len ≡ length sent) × (after ≡ copied sent before)

-- the key's report would be sent, and the protocol has no number for the key
abbrev pub HasNoSequence : CEvent → List ℕ → ℕ → Type 0
HasNoSequence numbers text flags =
    (report : KeyReport) × IsAskedFor numbers text flags report × (kitty_text report flags ≡ None)

-- the key's sequence would be longer than one may be
abbrev pub HasLongSequence : CEvent → List ℕ → ℕ → Type 0
HasLongSequence numbers text flags =
    (report : KeyReport) × IsAskedFor numbers text flags report × IsTooLong report flags
