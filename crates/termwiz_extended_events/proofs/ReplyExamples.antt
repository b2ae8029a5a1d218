-- Replies and what they say, computed from the definitions.
use Rattle.std.specs.Prelude.{◌≡◌, ℕ, [], ◌∷◌, codes, Option, Some, None, true, false, refl}
use Rattle.termwiz_extended_events.specs.declared.types.Event.{Event}
use Rattle.termwiz_extended_events.specs.declared.types.Event.TheVariants.{Csi, Osc, Dcs, Apc, CursorPosition, StringPart, StringCut}
use Rattle.termwiz_extended_events.specs.declared.types.StringKind.TheVariants as kinds
use Rattle.termwiz_extended_events.specs.declared.reply_types.Reply.{Reply}
use Rattle.termwiz_extended_events.specs.declared.reply_types.Reply.TheVariants.{DeviceAttributes, Mode, Version, WindowSize, Clipboard}
use Rattle.termwiz_extended_events.specs.declared.reply_types.Reply.TheVariants as reply
use Rattle.termwiz_extended_events.specs.declared.reply_types.DeviceAttributes.TheVariants.{Primary, Secondary, Tertiary}
use Rattle.termwiz_extended_events.specs.declared.reply_types.ModeState.TheVariants.{NotRecognized, Set, Reset, PermanentlySet, PermanentlyReset}
use Rattle.termwiz_extended_events.specs.declared.reply_types.ColourName.{ColourName}
use Rattle.termwiz_extended_events.specs.declared.reply_types.ColourName.TheVariants.{Palette, Foreground, Background, Cursor}
use Rattle.termwiz_extended_events.specs.declared.reply_types.ColourScheme.TheVariants.{Dark, Light}
use Rattle.termwiz_extended_events.specs.Base64.{sextet, four}
use Rattle.termwiz_extended_events.specs.Numbers.{before_end, after_start, number_within}
use Rattle.termwiz_extended_events.specs.ReplyValues as values
use Rattle.termwiz_extended_events.specs.ReplyValues.{reply_of}

-- the reply that an event is: to unfold this is to unfold every rule
unfoldable pub replied : Event → Option Reply
unfolding values.csi_reply values.osc_reply values.dcs_reply values.mode_report values.window_size values.colour_scheme
    values.primary_attributes values.secondary_attributes values.tertiary_attributes values.optional_number values.hex_digit
    values.hex_byte values.colour values.colour_named values.colour_part values.rgb values.version values.clipboard
    values.selection_of sextet four before_end after_start number_within
replied event = reply_of event

-- a colour and its parts
abbrev coloured : ColourName → ℕ → ℕ → ℕ → Reply
coloured name red green blue = reply.Colour name (record { red = red; green = green; blue = blue })

primary : reply_of (Csi (codes "?62;4;22c")) ≡ Some (DeviceAttributes Primary (62 ∷ 4 ∷ 22 ∷ []))
unfolding replied
primary = refl

primary_one : reply_of (Csi (codes "?6c")) ≡ Some (DeviceAttributes Primary (6 ∷ []))
unfolding replied
primary_one = refl

primary_empty_end : reply_of (Csi (codes "?62;c")) ≡ Some (DeviceAttributes Primary (62 ∷ []))
unfolding replied
primary_empty_end = refl

primary_empty_between : reply_of (Csi (codes "?1;;2c")) ≡ Some (DeviceAttributes Primary (1 ∷ 2 ∷ []))
unfolding replied
primary_empty_between = refl

primary_without_class : reply_of (Csi (codes "?;2c")) ≡ None
unfolding replied
primary_without_class = refl

primary_none : reply_of (Csi (codes "?c")) ≡ None
unfolding replied
primary_none = refl

primary_of_eight_digits : reply_of (Csi (codes "?00000062c")) ≡ None
unfolding replied
primary_of_eight_digits = refl

primary_unmarked : reply_of (Csi (codes "62;4c")) ≡ None
unfolding replied
primary_unmarked = refl

primary_letter : reply_of (Csi (codes "?62;ac")) ≡ None
unfolding replied
primary_letter = refl

secondary : reply_of (Csi (codes ">41;379;0c")) ≡ Some (DeviceAttributes Secondary (41 ∷ 379 ∷ 0 ∷ []))
unfolding replied
secondary = refl

secondary_zeros_in_front : reply_of (Csi (codes ">1;011301;0c")) ≡ Some (DeviceAttributes Secondary (1 ∷ 11301 ∷ 0 ∷ []))
unfolding replied
secondary_zeros_in_front = refl

secondary_of_two : reply_of (Csi (codes ">1;95c")) ≡ None
unfolding replied
secondary_of_two = refl

secondary_of_four : reply_of (Csi (codes ">1;95;0;0c")) ≡ None
unfolding replied
secondary_of_four = refl

secondary_empty : reply_of (Csi (codes ">1;;0c")) ≡ None
unfolding replied
secondary_empty = refl

tertiary : reply_of (Dcs (codes "!|7E565445")) ≡ Some (DeviceAttributes Tertiary (126 ∷ 86 ∷ 84 ∷ 69 ∷ []))
unfolding replied
tertiary = refl

tertiary_small_letters : reply_of (Dcs (codes "!|464f4f54")) ≡ Some (DeviceAttributes Tertiary (70 ∷ 79 ∷ 79 ∷ 84 ∷ []))
unfolding replied
tertiary_small_letters = refl

tertiary_odd : reply_of (Dcs (codes "!|464")) ≡ None
unfolding replied
tertiary_odd = refl

tertiary_none : reply_of (Dcs (codes "!|")) ≡ None
unfolding replied
tertiary_none = refl

tertiary_letter : reply_of (Dcs (codes "!|4g")) ≡ None
unfolding replied
tertiary_letter = refl

mode_set : reply_of (Csi (codes "?2004;1$y")) ≡ Some (Mode 2004 true Set)
unfolding replied
mode_set = refl

mode_reset : reply_of (Csi (codes "?25;2$y")) ≡ Some (Mode 25 true Reset)
unfolding replied
mode_reset = refl

mode_not_recognized : reply_of (Csi (codes "?9001;0$y")) ≡ Some (Mode 9001 true NotRecognized)
unfolding replied
mode_not_recognized = refl

mode_permanently_set : reply_of (Csi (codes "?7;3$y")) ≡ Some (Mode 7 true PermanentlySet)
unfolding replied
mode_permanently_set = refl

mode_permanently_reset : reply_of (Csi (codes "?12;4$y")) ≡ Some (Mode 12 true PermanentlyReset)
unfolding replied
mode_permanently_reset = refl

mode_ansi : reply_of (Csi (codes "20;4$y")) ≡ Some (Mode 20 false PermanentlyReset)
unfolding replied
mode_ansi = refl

mode_other_state : reply_of (Csi (codes "?25;5$y")) ≡ None
unfolding replied
mode_other_state = refl

mode_without_state : reply_of (Csi (codes "?25$y")) ≡ None
unfolding replied
mode_without_state = refl

mode_three_numbers : reply_of (Csi (codes "?25;1;1$y")) ≡ None
unfolding replied
mode_three_numbers = refl

mode_without_dollar : reply_of (Csi (codes "?25;1y")) ≡ None
unfolding replied
mode_without_dollar = refl

size : reply_of (Csi (codes "8;24;80t")) ≡ Some (WindowSize 24 80)
unfolding replied
size = refl

size_in_pixels : reply_of (Csi (codes "4;456;800t")) ≡ None
unfolding replied
size_in_pixels = refl

size_largest : reply_of (Csi (codes "8;65535;65535t")) ≡ Some (WindowSize 65535 65535)
unfolding replied
size_largest = refl

size_too_large : reply_of (Csi (codes "8;65536;80t")) ≡ None
unfolding replied
size_too_large = refl

size_one_number : reply_of (Csi (codes "8;24t")) ≡ None
unfolding replied
size_one_number = refl

scheme_dark : reply_of (Csi (codes "?997;1n")) ≡ Some (reply.ColourScheme Dark)
unfolding replied
scheme_dark = refl

scheme_light : reply_of (Csi (codes "?997;2n")) ≡ Some (reply.ColourScheme Light)
unfolding replied
scheme_light = refl

scheme_other : reply_of (Csi (codes "?997;3n")) ≡ None
unfolding replied
scheme_other = refl

status : reply_of (Csi (codes "0n")) ≡ None
unfolding replied
status = refl

foreground : reply_of (Osc (codes "10;rgb:dcdc/dcdc/cccc")) ≡ Some (coloured Foreground 56540 56540 52428)
unfolding replied
foreground = refl

background : reply_of (Osc (codes "11;rgb:1d1d/1f1f/2121")) ≡ Some (coloured Background 7453 7967 8481)
unfolding replied
background = refl

cursor : reply_of (Osc (codes "12;rgb:00/80/ff")) ≡ Some (coloured Cursor 0 32896 65535)
unfolding replied
cursor = refl

colour_one_digit : reply_of (Osc (codes "11;rgb:0/8/f")) ≡ Some (coloured Background 0 34952 65535)
unfolding replied
colour_one_digit = refl

colour_three_digits : reply_of (Osc (codes "11;rgb:001/7ff/fff")) ≡ Some (coloured Background 16 32759 65535)
unfolding replied
colour_three_digits = refl

colour_mixed : reply_of (Osc (codes "11;rgb:F/ab/0000")) ≡ Some (coloured Background 65535 43947 0)
unfolding replied
colour_mixed = refl

palette : reply_of (Osc (codes "4;1;rgb:cdcd/0000/0000")) ≡ Some (coloured (Palette 1) 52685 0 0)
unfolding replied
palette = refl

palette_255 : reply_of (Osc (codes "4;255;rgb:eeee/eeee/eeee")) ≡ Some (coloured (Palette 255) 61166 61166 61166)
unfolding replied
palette_255 = refl

palette_without_index : reply_of (Osc (codes "4;rgb:cdcd/0000/0000")) ≡ None
unfolding replied
palette_without_index = refl

special_colour : reply_of (Osc (codes "5;0;rgb:0000/0000/0000")) ≡ None
unfolding replied
special_colour = refl

selection_colour : reply_of (Osc (codes "17;rgb:ffff/fafa/cdcd")) ≡ None
unfolding replied
selection_colour = refl

colour_with_alpha : reply_of (Osc (codes "11;rgba:ffff/ffff/ffff/ffff")) ≡ None
unfolding replied
colour_with_alpha = refl

colour_by_name : reply_of (Osc (codes "11;red")) ≡ None
unfolding replied
colour_by_name = refl

colour_by_hash : reply_of (Osc (codes "4;1;#ff0000")) ≡ None
unfolding replied
colour_by_hash = refl

colour_five_digits : reply_of (Osc (codes "11;rgb:00000/0/0")) ≡ None
unfolding replied
colour_five_digits = refl

colour_no_digit : reply_of (Osc (codes "11;rgb:/0/0")) ≡ None
unfolding replied
colour_no_digit = refl

colour_two_parts : reply_of (Osc (codes "11;rgb:00/00")) ≡ None
unfolding replied
colour_two_parts = refl

colour_four_parts : reply_of (Osc (codes "11;rgb:0/0/0/0")) ≡ None
unfolding replied
colour_four_parts = refl

colour_letter : reply_of (Osc (codes "11;rgb:0/g/0")) ≡ None
unfolding replied
colour_letter = refl

version : reply_of (Dcs (codes ">|XTerm(379)")) ≡ Some (Version (codes "XTerm(379)"))
unfolding replied
version = refl

version_empty : reply_of (Dcs (codes ">|")) ≡ Some (Version [])
unfolding replied
version_empty = refl

setting : reply_of (Dcs (codes "1$r0m")) ≡ None
unfolding replied
setting = refl

clipboard : reply_of (Osc (codes "52;c;Y2xpcA==")) ≡ Some (Clipboard (Some 99) (codes "clip"))
unfolding replied
clipboard = refl

clipboard_primary : reply_of (Osc (codes "52;p;Y2xpcCE=")) ≡ Some (Clipboard (Some 112) (codes "clip!"))
unfolding replied
clipboard_primary = refl

clipboard_digit : reply_of (Osc (codes "52;7;YWJj")) ≡ Some (Clipboard (Some 55) (codes "abc"))
unfolding replied
clipboard_digit = refl

clipboard_unnamed : reply_of (Osc (codes "52;;YWJjZGVm")) ≡ Some (Clipboard None (codes "abcdef"))
unfolding replied
clipboard_unnamed = refl

clipboard_empty : reply_of (Osc (codes "52;c;")) ≡ Some (Clipboard (Some 99) [])
unfolding replied
clipboard_empty = refl

clipboard_signs : reply_of (Osc (codes "52;c;+/+/")) ≡ Some (Clipboard (Some 99) (0xfb ∷ 0xff ∷ 0xbf ∷ []))
unfolding replied
clipboard_signs = refl

clipboard_other_letter : reply_of (Osc (codes "52;x;YWJj")) ≡ None
unfolding replied
clipboard_other_letter = refl

clipboard_two_letters : reply_of (Osc (codes "52;cp;YWJj")) ≡ None
unfolding replied
clipboard_two_letters = refl

clipboard_question : reply_of (Osc (codes "52;c;?")) ≡ None
unfolding replied
clipboard_question = refl

clipboard_short : reply_of (Osc (codes "52;c;YWJ")) ≡ None
unfolding replied
clipboard_short = refl

clipboard_unfilled : reply_of (Osc (codes "52;c;Y2xpcA")) ≡ None
unfolding replied
clipboard_unfilled = refl

clipboard_bits_behind : reply_of (Osc (codes "52;c;Y2xpcB==")) ≡ None
unfolding replied
clipboard_bits_behind = refl

clipboard_bits_behind_two : reply_of (Osc (codes "52;c;Y2xpcCF=")) ≡ None
unfolding replied
clipboard_bits_behind_two = refl

clipboard_filled_within : reply_of (Osc (codes "52;c;YQ==YWJj")) ≡ None
unfolding replied
clipboard_filled_within = refl

clipboard_filled_alone : reply_of (Osc (codes "52;c;====")) ≡ None
unfolding replied
clipboard_filled_alone = refl

clipboard_filled_third : reply_of (Osc (codes "52;c;YW=j")) ≡ None
unfolding replied
clipboard_filled_third = refl

clipboard_other_sign : reply_of (Osc (codes "52;c;YWJ-")) ≡ None
unfolding replied
clipboard_other_sign = refl

title : reply_of (Osc (codes "0;a")) ≡ None
unfolding replied
title = refl

application_command : reply_of (Apc (codes "!|464f")) ≡ None
unfolding replied
application_command = refl

part : reply_of (StringPart kinds.Osc (codes "11;rgb:0/0/0")) ≡ None
unfolding replied
part = refl

cut : reply_of (StringCut kinds.Osc (codes "11;rgb:0/0/0")) ≡ None
unfolding replied
cut = refl

position : reply_of (CursorPosition 24 80) ≡ None
unfolding replied
position = refl
