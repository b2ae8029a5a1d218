-- Keys that have names: their texts are read as the presses of their twins.
use Rattle.std.proofs.Common.{ℕ, ℤ, ◌+◌, Bool, true, false, List, [], ◌∷◌, ◌++◌, map, Option, None, refl}
use Rattle.std.specs.Fmt.{digits}
use Rattle.termwiz_keys.specs.declared.types.KeyCode.{KeyCode}
use Rattle.termwiz_keys.specs.declared.types.KeyCode.TheVariants.{Backspace, Tab, Enter, Escape, End, Home, LeftArrow, RightArrow, UpArrow, DownArrow, Insert, Delete, PageUp, PageDown, KeyPadHome, KeyPadEnd, KeyPadPageUp, KeyPadPageDown, ApplicationLeftArrow, ApplicationRightArrow, ApplicationUpArrow, ApplicationDownArrow, Function}
use Rattle.termwiz_keys.specs.declared.encode.KeyboardEncoding.{KeyboardEncoding}
use Rattle.termwiz_keys.specs.declared.encode.KeyboardEncoding.TheVariants.{Xterm, CsiU}
use Rattle.termwiz_keys.specs.Keys.{NONE, ALT}
use Rattle.termwiz_grammar.specs.Table.{numbers, written_out}
use Rattle.termwiz_grammar.proofs.lemmas.lists.ListMembers.{pairs}
use Rattle.termwiz_laws.specs.FurtherKeys.{shift_or_ctrl}
use Rattle.termwiz_laws.proofs.lemmas.further_keys.ComputedReadings.{mode, level, Held, enc_written_out}
use Rattle.termwiz_extended_events.proofs.Examples.{written_out as events_written_out}
use Rattle.termwiz_binding_laws.specs.Twins.{SUPER, twin_in}
use Rattle.termwiz_binding_laws.specs.EncodedPresses.{any_of_four}
use Rattle.termwiz_binding_laws.proofs.lemmas.ComputedPresses.{canonical_written_out, AllTold, ToldIn, unasked}

-- F1 to F24 but F3, and F3 alone
abbrev pub function_keys : List KeyCode
function_keys = map (λ n. Function n) (1 ∷ 2 ∷ numbers 4 21)

abbrev pub functions : List Held
functions = pairs function_keys any_of_four ++ pairs (Function 3 ∷ []) (NONE ∷ [])

pub functions_told : (e : KeyboardEncoding) (a n : Bool) (l : Option ℤ) → AllTold (mode e a n l) functions
unfolding enc_written_out written_out events_written_out canonical_written_out twin_in digits
functions_told e a n l = refl

-- F3, whose text with a modifier is a report of the cursor's position while a question for it is open
abbrev pub thirds : List Held
thirds = pairs (Function 3 ∷ []) any_of_four

pub thirds_told : (e : KeyboardEncoding) (a n : Bool) (l : Option ℤ) → ToldIn unasked (mode e a n l) thirds
unfolding enc_written_out written_out events_written_out canonical_written_out twin_in digits
thirds_told e a n l = refl

-- keys that send the same text in all modes
abbrev pub steady_keys : List KeyCode
steady_keys =
    ApplicationLeftArrow ∷ ApplicationRightArrow ∷ ApplicationUpArrow ∷ ApplicationDownArrow ∷ Insert ∷ Delete ∷ PageUp ∷ PageDown
    ∷ KeyPadPageUp ∷ KeyPadPageDown ∷ []

abbrev pub steady : List Held
steady = pairs steady_keys any_of_four

pub steady_told : (e : KeyboardEncoding) (a n : Bool) (l : Option ℤ) → AllTold (mode e a n l) steady
unfolding enc_written_out written_out events_written_out canonical_written_out twin_in digits
steady_told e a n l = refl

-- those that application cursor keys change
abbrev pub cursor_keys : List KeyCode
cursor_keys = UpArrow ∷ DownArrow ∷ RightArrow ∷ LeftArrow ∷ Home ∷ End ∷ KeyPadHome ∷ KeyPadEnd ∷ []

abbrev pub cursor : List Held
cursor = pairs cursor_keys any_of_four

pub cursor_on_told : (e : KeyboardEncoding) (n : Bool) (l : Option ℤ) → AllTold (mode e true n l) cursor
unfolding enc_written_out written_out events_written_out canonical_written_out twin_in digits
cursor_on_told e n l = refl

pub cursor_off_told : (e : KeyboardEncoding) (n : Bool) (l : Option ℤ) → AllTold (mode e false n l) cursor
unfolding enc_written_out written_out events_written_out canonical_written_out twin_in digits
cursor_off_told e n l = refl

-- those that may be sent by their codes, in all modes
abbrev pub coded_keys : List KeyCode
coded_keys = Tab ∷ Escape ∷ Backspace ∷ []

-- the sets with SHIFT or CTRL, and the others
abbrev pub with_shift_or_ctrl : List ℕ
with_shift_or_ctrl = shift_or_ctrl ++ map (λ held. held + SUPER) shift_or_ctrl

abbrev pub without_shift_and_ctrl : List ℕ
without_shift_and_ctrl = NONE ∷ ALT ∷ SUPER ∷ (ALT + SUPER) ∷ []

abbrev pub coded : List Held
coded = pairs coded_keys any_of_four ++ pairs (Enter ∷ []) with_shift_or_ctrl

-- Enter without SHIFT and CTRL, outside of newline mode
abbrev pub enters : List Held
enters = pairs (Enter ∷ []) without_shift_and_ctrl

pub enters_xterm_off : (a : Bool) → AllTold (mode Xterm a false None) enters
unfolding enc_written_out written_out events_written_out canonical_written_out twin_in digits
enters_xterm_off a = refl

pub enters_xterm_zero : (a : Bool) → AllTold (mode Xterm a false (level 0)) enters
unfolding enc_written_out written_out events_written_out canonical_written_out twin_in digits
enters_xterm_zero a = refl

pub enters_xterm_one : (a : Bool) → AllTold (mode Xterm a false (level 1)) enters
unfolding enc_written_out written_out events_written_out canonical_written_out twin_in digits
enters_xterm_one a = refl

pub enters_xterm_two : (a : Bool) → AllTold (mode Xterm a false (level 2)) enters
unfolding enc_written_out written_out events_written_out canonical_written_out twin_in digits
enters_xterm_two a = refl

pub enters_csi_off : (a : Bool) → AllTold (mode CsiU a false None) enters
unfolding enc_written_out written_out events_written_out canonical_written_out twin_in digits
enters_csi_off a = refl

pub enters_csi_zero : (a : Bool) → AllTold (mode CsiU a false (level 0)) enters
unfolding enc_written_out written_out events_written_out canonical_written_out twin_in digits
enters_csi_zero a = refl

pub enters_csi_one : (a : Bool) → AllTold (mode CsiU a false (level 1)) enters
unfolding enc_written_out written_out events_written_out canonical_written_out twin_in digits
enters_csi_one a = refl

pub enters_csi_two : (a : Bool) → AllTold (mode CsiU a false (level 2)) enters
unfolding enc_written_out written_out events_written_out canonical_written_out twin_in digits
enters_csi_two a = refl

pub coded_xterm_off : (a n : Bool) → AllTold (mode Xterm a n None) coded
unfolding enc_written_out written_out events_written_out canonical_written_out twin_in digits
coded_xterm_off a n = refl

pub coded_xterm_zero : (a n : Bool) → AllTold (mode Xterm a n (level 0)) coded
unfolding enc_written_out written_out events_written_out canonical_written_out twin_in digits
coded_xterm_zero a n = refl

pub coded_xterm_one : (a n : Bool) → AllTold (mode Xterm a n (level 1)) coded
unfolding enc_written_out written_out events_written_out canonical_written_out twin_in digits
coded_xterm_one a n = refl

pub coded_xterm_two : (a n : Bool) → AllTold (mode Xterm a n (level 2)) coded
unfolding enc_written_out written_out events_written_out canonical_written_out twin_in digits
coded_xterm_two a n = refl

pub coded_csi_off : (a n : Bool) → AllTold (mode CsiU a n None) coded
unfolding enc_written_out written_out events_written_out canonical_written_out twin_in digits
coded_csi_off a n = refl

pub coded_csi_zero : (a n : Bool) → AllTold (mode CsiU a n (level 0)) coded
unfolding enc_written_out written_out events_written_out canonical_written_out twin_in digits
coded_csi_zero a n = refl

pub coded_csi_one : (a n : Bool) → AllTold (mode CsiU a n (level 1)) coded
unfolding enc_written_out written_out events_written_out canonical_written_out twin_in digits
coded_csi_one a n = refl

pub coded_csi_two : (a n : Bool) → AllTold (mode CsiU a n (level 2)) coded
unfolding enc_written_out written_out events_written_out canonical_written_out twin_in digits
coded_csi_two a n = refl
