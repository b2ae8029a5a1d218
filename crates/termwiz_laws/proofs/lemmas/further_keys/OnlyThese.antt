-- No other key reads back.
use Rattle.std.proofs.Common.{ℕ, refl, Contains, lit<}
use Rattle.termwiz_keys.specs.declared.types.KeyCode.{KeyCode}
use Rattle.termwiz_keys.specs.declared.types.KeyCode.TheVariants.{Char, Backspace, Tab, Enter, Escape, PageUp, PageDown, End, Home, LeftArrow, RightArrow, UpArrow, DownArrow, Insert, Delete, Function, ApplicationLeftArrow, ApplicationRightArrow, ApplicationUpArrow, ApplicationDownArrow}
use Rattle.termwiz_keys.specs.declared.types.KeyEvent.{KeyEvent}
use Rattle.termwiz_keys.specs.declared.encode.KeyCodeEncodeModes.{KeyCodeEncodeModes}
use Rattle.termwiz_keys.specs.KeyCodes.{shifted}
use Rattle.termwiz_keys.specs.Encoding.{enc, key_text, normal_key, named_key, keypad_text, keypad_number_text, keypad_letter_text}
use Rattle.termwiz_grammar.specs.Listed.{any_of_three, ReadsBack}
use Rattle.termwiz_grammar.proofs.lemmas.read_back.KeysReadBack.{read_back}
use Rattle.termwiz_laws.specs.FurtherKeys.{ReadsBackToo, OnlyTheseReadBack, ListedAreAmongThem}
use Rattle.termwiz_laws.specs.FurtherKeys.ReadsBackToo.{any_modifiers}
use Rattle.termwiz_laws.proofs.lemmas.further_keys.FurtherReadings.{bits}
use Rattle.termwiz_laws.proofs.lemmas.further_keys.SingleKey.{KeyFact, single, single_readable}
use Rattle.termwiz_laws.proofs.lemmas.further_keys.OtherKeys.{arrow_line, application_line, tab_line, enter_line, two_line, function_range, function_named, nothing_read}
use Rattle.termwiz_laws.proofs.lemmas.further_keys.CharacterKeys.{character_line}

by_key : (key : KeyCode) (held : ℕ) (modes : KeyCodeEncodeModes) → KeyFact key → Contains any_of_three held
    → ReadsBack key (bits held) modes → ReadsBackToo key held modes
unfolding enc key_text normal_key named_key shifted keypad_text keypad_number_text keypad_letter_text
by_key (Char c) held modes fact here back = character_line c held modes fact here back
by_key Home held modes fact here back = any_modifiers Home held modes (0, lit< tt, refl) here
by_key End held modes fact here back = any_modifiers End held modes (1, lit< tt, refl) here
by_key Insert held modes fact here back = any_modifiers Insert held modes (2, lit< tt, refl) here
by_key Delete held modes fact here back = any_modifiers Delete held modes (3, lit< tt, refl) here
by_key PageUp held modes fact here back = any_modifiers PageUp held modes (4, lit< tt, refl) here
by_key PageDown held modes fact here back = any_modifiers PageDown held modes (5, lit< tt, refl) here
by_key (Function n) held modes fact here back =
    let range = function_range n (bits held) modes back.0 back.1 in
    any_modifiers (Function n) held modes (function_named n range.0 range.1) here
by_key LeftArrow held modes fact here back = arrow_line LeftArrow held modes (0, lit< tt, refl) refl here back
by_key RightArrow held modes fact here back = arrow_line RightArrow held modes (1, lit< tt, refl) refl here back
by_key UpArrow held modes fact here back = arrow_line UpArrow held modes (2, lit< tt, refl) refl here back
by_key DownArrow held modes fact here back = arrow_line DownArrow held modes (3, lit< tt, refl) refl here back
by_key ApplicationLeftArrow held modes fact here back =
    application_line ApplicationLeftArrow held modes (0, lit< tt, refl) (0, lit< tt, refl) refl here back
by_key ApplicationRightArrow held modes fact here back =
    application_line ApplicationRightArrow held modes (1, lit< tt, refl) (1, lit< tt, refl) refl here back
by_key ApplicationUpArrow held modes fact here back =
    application_line ApplicationUpArrow held modes (2, lit< tt, refl) (2, lit< tt, refl) refl here back
by_key ApplicationDownArrow held modes fact here back =
    application_line ApplicationDownArrow held modes (3, lit< tt, refl) (3, lit< tt, refl) refl here back
by_key Tab held modes fact here back = tab_line held modes here back
by_key Enter held modes fact here back = enter_line held modes here back
by_key Escape held modes fact here back = two_line Escape held modes (0, lit< tt, refl) (1, lit< tt, refl) refl here back
by_key Backspace held modes fact here back =
    two_line Backspace held modes (1, lit< tt, refl) (2, lit< tt, refl) refl here back
-- Any other key is one that nothing is sent for, or one of the keypad that no row has.
by_key key held modes fact here back = absurd (nothing_read key held modes (cc) back)

pub only_these_read_back : OnlyTheseReadBack
only_these_read_back key modifiers modes back =
    let k : KeyEvent = record { key = key; modifiers = modifiers } in
    let fact = single_readable back.0 k (single back.0 k back.2) in
    by_key key modifiers.0 modes fact.key fact.held back

pub listed_are_among_them : ListedAreAmongThem
listed_are_among_them key modifiers modes is = only_these_read_back key modifiers modes (read_back key modifiers modes is)
