-- What xterm's number says of the modifiers, and what the normal form keeps of a key.
use Rattle.std.proofs.Common.{◌≡◌, ◌+◌, ℕ, Bool, true, false, None, refl}
use Rattle.std.specs.Prelude.{◌==◌, ◌&&◌, ◌||◌, not, if◌then◌else◌}
use Rattle.std.specs.Char.{is_ascii_lowercase, to_ascii_uppercase}
use Rattle.termwiz_base.specs.Modifiers.{xterm_number}
use Rattle.termwiz_keys.specs.declared.types.KeyCode.{KeyCode}
use Rattle.termwiz_keys.specs.declared.types.KeyCode.TheVariants.{Char, Delete, Backspace}
use Rattle.termwiz_keys.specs.Keys.{SHIFT, ALT, CTRL}
use Rattle.termwiz_keys.specs.KeyCodes.{holds, shifted}
use Rattle.termwiz_keys.specs.Encoding.{is_modified, sideless, named_key, normal_key, unhandled}

sum_of_bits : (shift alt ctrl : Bool)
    → (shift || alt || ctrl) ≡ not ((if shift then 1 else 0) + (if alt then 2 else 0) + (if ctrl then 4 else 0) == 0)
sum_of_bits true true true = refl
sum_of_bits true true false = refl
sum_of_bits true false true = refl
sum_of_bits true false false = refl
sum_of_bits false true true = refl
sum_of_bits false true false = refl
sum_of_bits false false true = refl
sum_of_bits false false false = refl

-- Shift, Alt or Ctrl is held where xterm's number isn't 0
pub modified_by_number : (held : ℕ) → is_modified held ≡ not (xterm_number held == 0)
modified_by_number held = sum_of_bits (holds held SHIFT) (holds held ALT) (holds held CTRL)

handled_either : (b : Bool) (k l : KeyCode) → unhandled k ≡ None → unhandled l ≡ None
    → unhandled (if b then k else l) ≡ None
handled_either true k l p q = p
handled_either false k l p q = q

handled_named : (c : ℕ) → unhandled (named_key (Char c)) ≡ None
unfolding named_key
handled_named c = handled_either (c == 0x7f) Delete _ refl (handled_either (c == 8) Backspace (Char c) refl refl)

handled_shifted : (b : Bool) (c d : ℕ) → unhandled (named_key (if b then Char c else Char d)) ≡ None
handled_shifted true c d = handled_named c
handled_shifted false c d = handled_named d

-- the normal form of a key is refused where the key is
pub normal_key_unhandled : (key : KeyCode) (held : ℕ) → unhandled (normal_key key held) ≡ unhandled key
unfolding normal_key named_key shifted
normal_key_unhandled (Char c) held =
    handled_shifted (is_ascii_lowercase c && holds (sideless held) SHIFT) (to_ascii_uppercase c) c
normal_key_unhandled key held = refl
