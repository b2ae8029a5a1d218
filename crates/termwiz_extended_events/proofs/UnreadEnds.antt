-- Sequences behind ESC [ that no rule reads, as their last byte tells.
use Rattle.std.proofs.Common.{◌≡◌, ◌≢◌, ◌≤◌, ◌-◌, ◌==◌, ℕ, suc, Bool, true, false, subst, List, [], ◌∷◌, length, take, nat_eq, refl, arith, inl, inr, codes, Option, Some, None}
use Rattle.std.specs.Prelude.{option_and_then, option_map, if◌then◌else◌}
use Rattle.std.specs.List.{slice_get}
use Rattle.std.specs.Cmp.Lexicographic.{pointwise}
use Rattle.std.proofs.lemmas.Bool.Decides.{nat_tests}
use Rattle.termwiz_extended_events.specs.declared.types.MouseReport.{MouseReport}
use Rattle.termwiz_extended_events.specs.declared.types.MouseKind.TheVariants.{Release}
use Rattle.termwiz_extended_events.specs.MouseReports.{side_report}
use Rattle.termwiz_extended_events.specs.Numbers.{after_start, before_end, fields, first_some}
use Rattle.termwiz_extended_events.specs.KeyReports.{back_tab, console_key, cursor_letter, further_key, key_report, lettered_key, middle_key, rxvt_key, short_key, third_function_key}
use Rattle.termwiz_extended_events.specs.ReportedKeys.{console_keys, entry_at, lettered_keys}
use Rattle.termwiz_extended_events.specs.Replies.{cursor_position, first_side_code, focus, keyboard_flags, mouse_report, reply, resize, sgr_side_button, side_button, side_held, side_of_fields, urxvt_mouse, urxvt_side_button, x10_mouse, x10_side_button}
use Rattle.termwiz_extended_events.specs.Meanings.{IsUnreadEnd, reported}
use Rattle.termwiz_extended_events.proofs.PlainReports.{none_of_more, none_of_none, none_otherwise}
use Rattle.termwiz_extended_events.proofs.ReportEnds.{ends_otherwise, other_end}

-- what such a byte is and isn't
record Ends (b : ℕ) : Type 0 where
  pub least : 97 ≤ b
  pub no_m : b ≢ 109
  pub no_t : b ≢ 116
  pub no_u : b ≢ 117
  pub no_tilde : b ≢ 126

ends_of : (b : ℕ) → IsUnreadEnd b → Ends b
ends_of b (inl (low, high)) = record {
  least = low;
  no_m = λ e. omega (arith, high, e);
  no_t = λ e. omega (arith, high, e);
  no_u = λ e. omega (arith, high, e);
  no_tilde = λ e. omega (arith, high, e);
}
ends_of b (inr (inl (low, high))) = record {
  least = omega (arith, low);
  no_m = λ e. omega (arith, low, e);
  no_t = λ e. omega (arith, high, e);
  no_u = λ e. omega (arith, high, e);
  no_tilde = λ e. omega (arith, high, e);
}
ends_of b (inr (inr (low, high))) = record {
  least = omega (arith, low);
  no_m = λ e. omega (arith, low, e);
  no_t = λ e. omega (arith, low, e);
  no_u = λ e. omega (arith, low, e);
  no_tilde = λ e. omega (arith, high, e);
}

-- no key has such a letter
no_entry : (b : ℕ) → 97 ≤ b → entry_at lettered_keys b ≡ None
no_entry b least =
    let a : (65 == b) ≡ false = grind (arith, nat_tests) in
    let b' : (66 == b) ≡ false = grind (arith, nat_tests) in
    let c : (67 == b) ≡ false = grind (arith, nat_tests) in
    let d : (68 == b) ≡ false = grind (arith, nat_tests) in
    let e : (69 == b) ≡ false = grind (arith, nat_tests) in
    let f : (70 == b) ≡ false = grind (arith, nat_tests) in
    let h : (72 == b) ≡ false = grind (arith, nat_tests) in
    let p : (80 == b) ≡ false = grind (arith, nat_tests) in
    let q : (81 == b) ≡ false = grind (arith, nat_tests) in
    let s : (83 == b) ≡ false = grind (arith, nat_tests) in
    rw (a, b', c, d, e, f, h, p, q, s) refl

no_console_entry : (b : ℕ) → 97 ≤ b → entry_at console_keys b ≡ None
no_console_entry b least =
    let a : (65 == b) ≡ false = grind (arith, nat_tests) in
    let b' : (66 == b) ≡ false = grind (arith, nat_tests) in
    let c : (67 == b) ≡ false = grind (arith, nat_tests) in
    let d : (68 == b) ≡ false = grind (arith, nat_tests) in
    let e : (69 == b) ≡ false = grind (arith, nat_tests) in
    rw (a, b', c, d, e) refl

-- what a test lets through is none, or the test lets nothing through
either_none : {A : Type 0} (test : Bool) (found : Option A) → found ≡ None → (if test then found else None) ≡ None
either_none true found e = e
either_none false found e = refl

map_none : {A B : Type 0} (f : A → B) (found : Option A) → found ≡ None → option_map f found ≡ None
map_none f None e = refl
map_none f (Some a) e = cc (e)

either_read_none : (test : Bool) (found : List ℕ) (read : List ℕ → Option MouseReport) → read found ≡ None
    → option_and_then read (if test then Some found else None) ≡ None
either_read_none true found read e = e
either_read_none false found read e = refl

no_focus : (t : List ℕ) (b : ℕ) → slice_get t (length t - 1) ≡ Some b → Ends b → focus t ≡ None
no_focus [] b last ends = none_of_none
no_focus (x ∷ []) b last ends =
    let is : x ≡ b = cc (last) in
    let i : (x == 73) ≡ false = let least = ends.least in grind (arith, nat_tests) in
    let o : (x == 79) ≡ false = let least = ends.least in grind (arith, nat_tests) in
    none_otherwise x i o
no_focus (x ∷ y ∷ t) b last ends = none_of_more x y t

no_letter : (t : List ℕ) (b : ℕ) → slice_get t (length t - 1) ≡ Some b → Ends b → lettered_key t ≡ None
unfolding lettered_key
no_letter t b last ends = rw (last, no_entry b ends.least) refl

no_key : (t : List ℕ) (b : ℕ) → slice_get t (length t - 1) ≡ Some b → Ends b → key_report t ≡ None
no_key t b last ends = rw (ends_otherwise t b last ends.no_u ends.no_tilde) (no_letter t b last ends)

no_third : (t : List ℕ) (b : ℕ) → slice_get t (length t - 1) ≡ Some b → Ends b → third_function_key t ≡ None
unfolding third_function_key
no_third t b last ends = let least = ends.least in rw (other_end t b 82 last (λ e. omega (arith, least, e))) refl

no_reply : (t : List ℕ) (b : ℕ) → slice_get t (length t - 1) ≡ Some b → Ends b → reply t ≡ None
unfolding reply cursor_position keyboard_flags resize
no_reply t b last ends =
    let least = ends.least in
    rw (other_end t b 82 last (λ e. omega (arith, least, e)), other_end t b 117 last ends.no_u, other_end t b 116 last ends.no_t) refl

no_rxvt : (t : List ℕ) (b : ℕ) → slice_get t (length t - 1) ≡ Some b → Ends b → rxvt_key t ≡ None
unfolding rxvt_key
no_rxvt t b last ends =
    let least = ends.least in
    rw (
      other_end t b 94 last (λ e. omega (arith, least, e)),
      other_end t b 64 last (λ e. omega (arith, least, e)),
      other_end t b 36 last (λ e. omega (arith, least, e)),
    ) refl

-- without M in front it is no X10 report
no_x10 : (t : List ℕ) → slice_get t 0 ≢ Some 77 → x10_mouse t ≡ None
unfolding x10_mouse
no_x10 [] front = refl
no_x10 (a ∷ []) front = refl
no_x10 (a ∷ b ∷ []) front = refl
no_x10 (a ∷ b ∷ c ∷ []) front = refl
no_x10 (a ∷ b ∷ c ∷ d ∷ []) front =
    let other : a ≢ 77 = λ e. front (cc (e)) in
    let is : (a == 77) ≡ false = grind (arith, nat_tests) in rw (is) refl
no_x10 (a ∷ b ∷ c ∷ d ∷ e ∷ t) front = refl

no_x10_side : (t : List ℕ) → slice_get t 0 ≢ Some 77 → x10_side_button t ≡ None
unfolding x10_side_button
no_x10_side [] front = refl
no_x10_side (a ∷ []) front = refl
no_x10_side (a ∷ b ∷ []) front = refl
no_x10_side (a ∷ b ∷ c ∷ []) front = refl
no_x10_side (a ∷ b ∷ c ∷ d ∷ []) front =
    let other : a ≢ 77 = λ e. front (cc (e)) in
    let is : (a == 77) ≡ false = grind (arith, nat_tests) in rw (is) refl
no_x10_side (a ∷ b ∷ c ∷ d ∷ e ∷ t) front = refl

no_mouse : (t : List ℕ) (b : ℕ) → slice_get t (length t - 1) ≡ Some b → Ends b → slice_get t 0 ≢ Some 77 → mouse_report t ≡ None
unfolding mouse_report urxvt_mouse
no_mouse t b last ends front =
    let least = ends.least in
    rw (other_end t b 77 last (λ e. omega (arith, least, e)), no_x10 t front) refl

-- a side button as the SGR mode writes it behind <
abbrev side_behind : List ℕ → Option MouseReport
side_behind t = first_some (
    option_and_then (λ body. side_of_fields side_held first_side_code (fields body)) (before_end (codes "M") t)
    ∷ option_and_then (λ body. side_of_fields (side_report Release) first_side_code (fields body)) (before_end (codes "m") t)
    ∷ [])

no_side_behind : (t : List ℕ) → before_end (codes "M") t ≡ None → before_end (codes "m") t ≡ None → side_behind t ≡ None
no_side_behind t held released = rw (held, released) refl

abbrev begins_private : List ℕ → Bool
begins_private t = pointwise nat_eq (take (length (codes "<")) t) (codes "<")

-- what the last byte is behind the first one
behind_first : (x y : ℕ) (t : List ℕ) (b : ℕ) → slice_get (x ∷ y ∷ t) (length (x ∷ y ∷ t) - 1) ≡ Some b
    → slice_get (y ∷ t) (length (y ∷ t) - 1) ≡ Some b
behind_first x y t b last =
    let one_less : length (x ∷ y ∷ t) - 1 ≡ suc (length (y ∷ t) - 1) = omega arith in
    subst (λ k. slice_get (x ∷ y ∷ t) k ≡ Some b) one_less last

no_sgr_side : (t : List ℕ) (b : ℕ) → slice_get t (length t - 1) ≡ Some b → Ends b → sgr_side_button t ≡ None
unfolding sgr_side_button after_start before_end
no_sgr_side [] b last ends = refl
no_sgr_side (x ∷ []) b last ends = either_read_none (begins_private (x ∷ [])) [] side_behind refl
no_sgr_side (x ∷ y ∷ t) b last ends =
    let least = ends.least in
    let next = behind_first x y t b last in
    either_read_none (begins_private (x ∷ y ∷ t)) (y ∷ t) side_behind (no_side_behind (y ∷ t) (other_end (y ∷ t) b 77 next (λ e. omega (arith, least, e)))
    (other_end (y ∷ t) b 109 next ends.no_m))

no_side : (t : List ℕ) (b : ℕ) → slice_get t (length t - 1) ≡ Some b → Ends b → slice_get t 0 ≢ Some 77 → side_button t ≡ None
unfolding side_button urxvt_side_button
no_side t b last ends front =
    let least = ends.least in
    rw (no_sgr_side t b last ends, other_end t b 77 last (λ e. omega (arith, least, e)), no_x10_side t front) refl

no_console : (t : List ℕ) (b : ℕ) → slice_get t (length t - 1) ≡ Some b → Ends b → console_key t ≡ None
unfolding console_key
no_console [] b last ends = refl
no_console (x ∷ []) b last ends = refl
no_console (x ∷ y ∷ []) b last ends =
    let is : y ≡ b = cc (last) in
    let none : entry_at console_keys y ≡ None = rw is (no_console_entry b ends.least) in
    either_none _ _ (map_none _ _ none)
no_console (x ∷ y ∷ z ∷ t) b last ends = refl

no_short : (t : List ℕ) (b : ℕ) → slice_get t (length t - 1) ≡ Some b → Ends b → short_key t ≡ None
unfolding short_key
no_short [] b last ends = refl
no_short (x ∷ []) b last ends = refl
no_short (x ∷ y ∷ []) b last ends =
    let is : y ≡ b = cc (last) in
    let other : (b == 82) ≡ false = let least = ends.least in grind (arith, nat_tests) in
    let none : cursor_letter y ≡ None = rw (is, other) (no_entry b ends.least) in
    either_none _ _ (map_none _ _ none)
no_short (x ∷ y ∷ z ∷ t) b last ends = refl

no_middle : (t : List ℕ) (b : ℕ) → slice_get t (length t - 1) ≡ Some b → Ends b → middle_key t ≡ None
unfolding middle_key
no_middle [] b last ends = refl
no_middle (x ∷ []) b last ends =
    let is : x ≡ b = cc (last) in
    let other : (x == 71) ≡ false = let least = ends.least in grind (arith, nat_tests) in rw (other) refl
no_middle (x ∷ y ∷ t) b last ends = refl

no_further : (t : List ℕ) (b : ℕ) → slice_get t (length t - 1) ≡ Some b → Ends b → further_key t ≡ None
unfolding further_key back_tab
no_further t b last ends =
    let least = ends.least in
    rw (other_end t b 90 last (λ e. omega (arith, least, e)), no_short t b last ends, no_middle t b last ends) refl

-- no rule reads it
pub unread : (t : List ℕ) (b : ℕ) → slice_get t (length t - 1) ≡ Some b → IsUnreadEnd b → slice_get t 0 ≢ Some 77 → (asks : Bool)
    → reported asks t ≡ None
unfolding reported
unread t b last unread_end front true =
    let e = ends_of b unread_end in
    rw (
      no_focus t b last e,
      no_key t b last e,
      no_reply t b last e,
      no_third t b last e,
      no_rxvt t b last e,
      no_mouse t b last e front,
      no_side t b last e front,
      no_console t b last e,
      no_further t b last e,
    ) refl
unread t b last unread_end front false =
    let e = ends_of b unread_end in
    rw (
      no_focus t b last e,
      no_key t b last e,
      no_third t b last e,
      no_reply t b last e,
      no_rxvt t b last e,
      no_mouse t b last e front,
      no_side t b last e front,
      no_console t b last e,
      no_further t b last e,
    ) refl
