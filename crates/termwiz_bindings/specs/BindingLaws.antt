-- The laws of bindings.
use Rattle.std.specs.Prelude.{◌≡◌, ◌≢◌, ◌↔◌, ◌<◌, ℕ, List, [], None, Some}
use Rattle.std.specs.Ordering.{nat_cmp}
use Rattle.std.specs.declared.cmp.Ordering.TheVariants.{Less}
use Rattle.std.specs.Cmp.Lexicographic.{slice_cmp}
use Rattle.std.specs.FinMap as map
use Rattle.termwiz_keymap.specs.Lookup.{ByteMap}
use Rattle.termwiz_bindings.specs.declared.press.KeyPress.{KeyPress}
use Rattle.termwiz_bindings.specs.Codes.{codes}
use Rattle.termwiz_bindings.specs.Chords.{IsChord}
use Rattle.termwiz_bindings.specs.Bindings.{AreBindings, IsBindingAt, bound, find, unbound}

-- What binding a chord changes, and what unbinding it does: the value of that chord alone.
pub record ChangeOneChord (V : Type 0) : Type 0 where
  pub bound_here : (m : ByteMap V) (chord : List KeyPress) (value : V) → find (bound m chord value) chord ≡ Some value
  pub bound_elsewhere : (m : ByteMap V) (chord other : List KeyPress) (value : V) → IsChord chord → IsChord other
      → other ≢ chord → find (bound m chord value) other ≡ find m other
  pub unbound_here : (m : ByteMap V) (chord : List KeyPress) → find (unbound m chord) chord ≡ None
  pub unbound_elsewhere : (m : ByteMap V) (chord other : List KeyPress) → IsChord chord → IsChord other
      → other ≢ chord → find (unbound m chord) other ≡ find m other

-- Each place has a chord, each chord is at one place, and those at higher places have greater codes.
pub record AreChordsInOrder (V : Type 0) : Type 0 where
  pub at_each_place : (m : ByteMap V) (place : ℕ) → AreBindings m → place < map.len m
      → (chord : List KeyPress) × (value : V) × IsChord chord × (chord ≢ []) × IsBindingAt m place chord value
  pub stored : (m : ByteMap V) (chord : List KeyPress) (value : V)
      → (find m chord ≡ Some value) ↔ ((place : ℕ) × IsBindingAt m place chord value)
  pub at_one_place : (m : ByteMap V) (i j : ℕ) (chord : List KeyPress) (value other : V)
      → IsBindingAt m i chord value → IsBindingAt m j chord other → i ≡ j
  pub ascending : (m : ByteMap V) (i j : ℕ) (chord later : List KeyPress) (value other : V) → IsBindingAt m i chord value
      → IsBindingAt m j later other → i < j → slice_cmp nat_cmp (codes chord) (codes later) ≡ Less
