use Rattle.std.proofs.Common.{◌≡◌, ◌++◌, string_bytes, flat_map}
use Rattle.termwiz_kitty.specs.KittyTexts.{further_character}
use Rattle.termwiz_kitty.proofs.encode.sequences.push_further.Given as goal

abbrev pub invariant-loop-c : goal.invariant-loop-c
invariant-loop-c l = string_bytes l.text ≡ string_bytes l.initial.text ++ flat_map further_character l.yielded
