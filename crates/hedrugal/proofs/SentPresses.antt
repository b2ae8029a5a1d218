-- What is sent for one press more, and where its name starts.
use Rattle.std.proofs.Common.{◌≡◌, ◌∙◌, ◌≢◌, ◌↔◌, ◌==◌, ℕ, ◌+◌, ◌-◌, ◌<◌, ◌≤◌, suc, zero, Bool, true, false, List, [], ◌∷◌, ◌++◌, length, take, drop, get_or, Some, None, add-one, refl, sym, ap, subst, arith, append-nil}
use Rattle.std.specs.List.{flat_map, slice_get}
use Rattle.std.proofs.lemmas.Bool.Decides.{nat_tests}
use Rattle.std.proofs.lemmas.List.{drop_all, take_all}
use Rattle.std.proofs.lemmas.List.Elements.{All-push}
use Rattle.std.proofs.lemmas.Grind.{flat_map-append}
use Rattle.std.proofs.Math.Seq.{drop-cons}
use Rattle.termwiz_input.specs.Encoding.{enc, unhandled}
use Rattle.termwiz_input.specs.KeyCode.{KeyCode}
use Rattle.termwiz_input.specs.KeyCodeEncodeModes.{KeyCodeEncodeModes}
use Rattle.termwiz_base.specs.declared.modifiers.Modifiers.{Modifiers}
use Rattle.termwiz_bindings.specs.declared.press.KeyPress.{KeyPress}
use Rattle.termwiz_bindings.specs.ChordNames.{is_blank}
use Rattle.hedrugal.specs.declared.modes.CModes.{CModes}
use Rattle.hedrugal.specs.Presses.{AreModes}
use Rattle.hedrugal.specs.SentNames.{AreNoModes, AreSent, name_start, press_sent}

not_zero : (n : ℕ) → n ≢ 0 → (n == 0) ≡ false
not_zero n some = grind (arith, nat_tests)

-- a key that is refused has no text
pub refused_has_none : (key : KeyCode) (held : Modifiers) (modes : KeyCodeEncodeModes) (n : ℕ) → unhandled key ≡ Some n → enc key held modes ≡ None
unfolding enc
refused_has_none key held modes n is = rw is refl

-- one press more is at its place
pub one_more_taken : (ps : List KeyPress) (i : ℕ) (p : KeyPress) → slice_get ps i ≡ Some p → take (suc i) ps ≡ take i ps ++ p ∷ []
one_more_taken [] i p is = absurd (cc (is))
one_more_taken (q ∷ ps) zero p is = let same : q ≡ p = cc (is) in ap (λ (x : KeyPress). x ∷ []) same
one_more_taken (q ∷ ps) (suc i) p is = ap (λ (more : List KeyPress). q ∷ more) (one_more_taken ps i p is)

-- one press more is sent
pub one_more_sent : (modes : KeyCodeEncodeModes) (ps : List KeyPress) (p : KeyPress) (before after : List ℕ) → AreSent modes ps before
    → press_sent modes p ≢ [] → after ≡ before ++ press_sent modes p → AreSent modes (ps ++ p ∷ []) after
one_more_sent modes ps p before after sent some is = record {
  each = All-push (λ p. press_sent modes p ≢ []) ps p sent.each some;
  joined = is ∙ ap (λ (bytes : List ℕ). bytes ++ press_sent modes p) sent.joined
      ∙ ap (λ (bytes : List ℕ). flat_map (press_sent modes) ps ++ bytes) (sym (append-nil (press_sent modes p)))
      ∙ sym (flat_map-append (press_sent modes) ps (p ∷ []));
}

-- all are sent once no place is left
pub all_are_sent : (modes : KeyCodeEncodeModes) (ps : List KeyPress) (i : ℕ) (bytes : List ℕ) → length ps ≤ i
    → AreSent modes (take i ps) bytes → AreSent modes ps bytes
all_are_sent modes ps i bytes past sent = subst (λ (ps : List KeyPress). AreSent modes ps bytes) (take_all i ps past) sent

-- no other answer is that for bad modes if the numbers stand for some
pub no_bad_modes : (answer : ℕ) (numbers : CModes) (modes : KeyCodeEncodeModes) → ¬ (answer ≡ 3) → AreModes modes numbers
    → (answer ≡ 3) ↔ AreNoModes numbers
no_bad_modes answer numbers modes other are = (λ is. absurd (other is), λ bad. absurd (bad modes are))

-- where a name starts, seen from a byte later
module _ (start place : ℕ) (text : List ℕ) (i : ℕ) (inside : i < length text) where
  abbrev b : ℕ
  b = get_or text i 0

  abbrev rest : List ℕ
  rest = drop (suc i) text

  -- by what the byte says of it
  passed : (apart next : Bool) (left : ℕ) → name_start apart place (b ∷ rest) ≡ name_start next left rest + 1
      → start ≡ i + name_start apart place (drop i text) → start ≡ (i + 1) + name_start next left (drop (i + 1) text)
  passed apart next left step is =
      let here = ap (λ (t : List ℕ). name_start apart place t) (drop-cons text i 0 inside) ∙ step in
      rw add-one (omega (arith, is, here))

  pub blank_passed : (apart : Bool) → is_blank b ≡ true → start ≡ i + name_start apart place (drop i text)
      → start ≡ (i + 1) + name_start true place (drop (i + 1) text)
  unfolding name_start
  blank_passed apart blank is = passed apart true place (rw blank refl) is

  pub byte_passed : (apart : Bool) → is_blank b ≡ false → apart ≡ false → start ≡ i + name_start apart place (drop i text)
      → start ≡ (i + 1) + name_start apart place (drop (i + 1) text)
  unfolding name_start
  byte_passed apart blank not_apart is = passed apart apart place (rw (blank, not_apart) refl) is

  pub name_passed : (apart : Bool) → is_blank b ≡ false → apart ≡ true → place ≢ 0 → start ≡ i + name_start apart place (drop i text)
      → start ≡ (i + 1) + name_start false (place - 1) (drop (i + 1) text)
  unfolding name_start
  name_passed apart blank is_apart some is =
      passed apart false (place - 1) (let e = not_zero place some in rw (blank, is_apart, e) refl) is

  pub name_found : (apart : Bool) → is_blank b ≡ false → apart ≡ true → place ≡ 0 → start ≡ i + name_start apart place (drop i text) → i ≡ start
  unfolding name_start
  name_found apart blank is_apart none is =
      let here : name_start apart place (drop i text) ≡ 0 =
      ap (λ (t : List ℕ). name_start apart place t) (drop-cons text i 0 inside) ∙ rw (blank, is_apart, none) refl in
      omega (arith, is, here)

pub no_name : (start place : ℕ) (text : List ℕ) (i : ℕ) (apart : Bool) → i ≤ length text → length text ≤ i
    → start ≡ i + name_start apart place (drop i text) → length text ≡ start
unfolding name_start
no_name start place text i apart few past is =
    let here : name_start apart place (drop i text) ≡ 0 = ap (λ (t : List ℕ). name_start apart place t) (drop_all i text past) in
    omega (arith, is, here)
