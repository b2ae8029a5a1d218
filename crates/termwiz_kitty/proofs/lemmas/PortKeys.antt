-- The port's encoding of the keys that it shares with kitty's protocol.
use Rattle.std.proofs.Common.{◌≡◌, ℕ, ◌+◌, ◌-◌, ◌<◌, ◌≤◌, false, List, [], ◌∷◌, ◌++◌, subst, arith, None, Contains}
use Rattle.termwiz_keys.specs.Keys.{ALT}
use Rattle.termwiz_keys.specs.declared.types.KeyCode.{KeyCode}
use Rattle.termwiz_keys.specs.declared.types.KeyCode.TheVariants.{Char}
use Rattle.termwiz_keys.specs.declared.encode.KeyCodeEncodeModes.{KeyCodeEncodeModes}
use Rattle.termwiz_keys.specs.declared.encode.KeyboardEncoding.TheVariants.{Xterm}
use Rattle.termwiz_laws.specs.KeyStreams.{keys_that_need_a_flush}
use Rattle.termwiz_grammar.specs.Table.{numbers}
use Rattle.termwiz_grammar.proofs.lemmas.lists.ListMembers.{in_numbers}

-- xterm's encoding, with every mode off
abbrev pub xterm_modes : KeyCodeEncodeModes
xterm_modes = record {
  encoding = Xterm;
  application_cursor_keys = false;
  newline_mode = false;
  modify_other_keys = None;
}

-- The keys whose texts begin sequences or strings, with the port's bits of their modifiers: those of the port, and P, ] and _ with ALT.
abbrev pub held_that_wait : List (KeyCode × ℕ)
held_that_wait = keys_that_need_a_flush ++ (Char 80, ALT) ∷ (Char 93, ALT) ∷ (Char 95, ALT) ∷ []

-- characters by their numbers
pub at_number : (from count c : ℕ) → from ≤ c → c < from + count → Contains (numbers from count) c
at_number from count c low high = subst (λ n. Contains (numbers from count) n)
    (let e : from + (c - from) ≡ c = omega arith in e) (in_numbers from count (c - from) (omega arith))
