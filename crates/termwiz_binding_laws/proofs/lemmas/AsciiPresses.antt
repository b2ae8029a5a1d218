-- Characters of ASCII: their texts are read as the presses of their twins.
use Rattle.std.proofs.Common.{Bool, List, None, refl}
use Rattle.std.specs.Fmt.{digits}
use Rattle.termwiz_keys.specs.declared.encode.KeyboardEncoding.TheVariants.{Xterm, CsiU}
use Rattle.termwiz_grammar.specs.Table.{numbers, written_out}
use Rattle.termwiz_grammar.proofs.lemmas.lists.ListMembers.{pairs}
use Rattle.termwiz_laws.proofs.lemmas.further_keys.ComputedReadings.{mode, level, Held, enc_written_out, chars}
use Rattle.termwiz_extended_events.proofs.Examples.{written_out as events_written_out}
use Rattle.termwiz_binding_laws.specs.Twins.{twin_in}
use Rattle.termwiz_binding_laws.specs.EncodedPresses.{any_of_four}
use Rattle.termwiz_binding_laws.proofs.lemmas.ComputedPresses.{canonical_written_out, AllTold}

-- printable characters of ASCII with each set of modifiers
abbrev pub printable : List Held
printable = pairs (chars (numbers 32 95)) any_of_four

pub printable_xterm_off : (a n : Bool) → AllTold (mode Xterm a n None) printable
unfolding enc_written_out written_out events_written_out canonical_written_out twin_in digits
printable_xterm_off a n = refl

pub printable_xterm_zero : (a n : Bool) → AllTold (mode Xterm a n (level 0)) printable
unfolding enc_written_out written_out events_written_out canonical_written_out twin_in digits
printable_xterm_zero a n = refl

pub printable_xterm_one : (a n : Bool) → AllTold (mode Xterm a n (level 1)) printable
unfolding enc_written_out written_out events_written_out canonical_written_out twin_in digits
printable_xterm_one a n = refl

pub printable_xterm_two : (a n : Bool) → AllTold (mode Xterm a n (level 2)) printable
unfolding enc_written_out written_out events_written_out canonical_written_out twin_in digits
printable_xterm_two a n = refl

pub printable_csi_off : (a n : Bool) → AllTold (mode CsiU a n None) printable
unfolding enc_written_out written_out events_written_out canonical_written_out twin_in digits
printable_csi_off a n = refl

pub printable_csi_zero : (a n : Bool) → AllTold (mode CsiU a n (level 0)) printable
unfolding enc_written_out written_out events_written_out canonical_written_out twin_in digits
printable_csi_zero a n = refl

pub printable_csi_one : (a n : Bool) → AllTold (mode CsiU a n (level 1)) printable
unfolding enc_written_out written_out events_written_out canonical_written_out twin_in digits
printable_csi_one a n = refl

pub printable_csi_two : (a n : Bool) → AllTold (mode CsiU a n (level 2)) printable
unfolding enc_written_out written_out events_written_out canonical_written_out twin_in digits
printable_csi_two a n = refl
