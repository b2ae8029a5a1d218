-- Rules that read nothing of what follows ESC [, by its last byte, and which event comes then.
use Rattle.std.proofs.Common.{◌≡◌, ◌≢◌, ℕ, ◌&&◌, Bool, true, false, nat_lt, nat_le, List, [], ◌∷◌, ◌++◌, length, take, refl, ap, arith, Some, None}
use Rattle.std.specs.Prelude.{◌==◌, option_and_then}
use Rattle.std.specs.Char.{is_ascii_digit}
use Rattle.std.proofs.lemmas.Bool.Decides.{nat_tests}
use Rattle.termwiz_extended_events.specs.declared.types.Event.{Event}
use Rattle.termwiz_extended_events.specs.declared.types.Event.TheVariants.{Key, Mouse, Csi}
use Rattle.termwiz_extended_events.specs.declared.types.KeyReport.{KeyReport}
use Rattle.termwiz_extended_events.specs.declared.types.MouseReport.{MouseReport}
use Rattle.termwiz_extended_events.specs.Numbers.{fields, is_digits, number_within}
use Rattle.termwiz_extended_events.specs.ReportedKeys.{entry_at, lettered_keys}
use Rattle.termwiz_extended_events.specs.KeyReports.{character_key, lettered_of_fields, lettered_key, numbered_key, other_held, other_key, key_report, third_function_key, rxvt_key, console_key, back_tab, short_key, middle_key, further_key}
use Rattle.termwiz_extended_events.specs.Replies.{focus, cursor_position, keyboard_flags, resize, reply, x10_mouse, mouse_report, x10_side_button, side_button}
use Rattle.termwiz_extended_events.specs.Meanings.{unasked_key, reported, event_after, event_of}
use Rattle.termwiz_kitty.proofs.lemmas.read_back.FieldSplits.{without_last, before_other_end, last_byte}

-- what begins with no digit is no number
pub and_false : (a : Bool) → (a && false) ≡ false
and_false true = refl
and_false false = refl

pub no_number : (most least limit x : ℕ) (f : List ℕ) → is_ascii_digit x ≡ false → number_within most least limit (x ∷ f) ≡ None
unfolding number_within
no_number most least limit x f other =
    let none : is_digits most (x ∷ f) ≡ false = rw other (and_false (nat_lt 0 (length (x ∷ f)) && nat_le (length (x ∷ f)) most)) in rw none refl

module _ (body : List ℕ) (last : ℕ) where
  pub no_focus : last ≢ 73 → last ≢ 79 → focus (body ++ last ∷ []) ≡ None
  unfolding focus
  no_focus gained lost = go body
    where
      go : (s : List ℕ) → focus (s ++ last ∷ []) ≡ None
      go [] =
          let a : (last == 73) ≡ false = grind (arith, nat_tests) in
          let b : (last == 79) ≡ false = grind (arith, nat_tests) in
          rw (a, b) refl
      go (x ∷ []) = refl
      go (x ∷ y ∷ s) = refl

  pub no_lettered : entry_at lettered_keys last ≡ None → lettered_key (body ++ last ∷ []) ≡ None
  unfolding lettered_key
  no_lettered none = rw (without_last body last, last_byte body last)
      (ap (option_and_then (λ key. lettered_of_fields key (fields (take (length body) (body ++ last ∷ []))))) none)

  pub no_tilde : last ≢ 126 → (numbered_key (body ++ last ∷ []) ≡ None) × (other_key (body ++ last ∷ []) ≡ None)
  unfolding numbered_key other_held other_key
  no_tilde n = (rw (before_other_end body last 126 n) refl, rw (before_other_end body last 126 n) refl)

  pub no_character : last ≢ 117 → character_key (body ++ last ∷ []) ≡ None
  unfolding character_key
  no_character n = rw (before_other_end body last 117 n) refl

  pub no_key : character_key (body ++ last ∷ []) ≡ None → last ≢ 126 → entry_at lettered_keys last ≡ None
      → key_report (body ++ last ∷ []) ≡ None
  unfolding key_report
  no_key none n other = (let t = no_tilde n in rw (none, no_lettered other, t.0, t.1) refl)

  pub no_cursor : last ≢ 82 → cursor_position (body ++ last ∷ []) ≡ None
  unfolding cursor_position
  no_cursor n = rw (before_other_end body last 82 n) refl

  pub no_flags : last ≢ 117 → keyboard_flags (body ++ last ∷ []) ≡ None
  unfolding keyboard_flags
  no_flags n = rw (before_other_end body last 117 n) refl

  pub no_resize : last ≢ 116 → resize (body ++ last ∷ []) ≡ None
  unfolding resize
  no_resize n = rw (before_other_end body last 116 n) refl

  pub no_reply : last ≢ 82 → last ≢ 117 → last ≢ 116 → reply (body ++ last ∷ []) ≡ None
  unfolding reply
  no_reply r u t = rw (no_cursor r, no_flags u, no_resize t) refl

  pub no_third : last ≢ 82 → third_function_key (body ++ last ∷ []) ≡ None
  unfolding third_function_key
  no_third n = rw (before_other_end body last 82 n) refl

  pub no_back_tab : last ≢ 90 → back_tab (body ++ last ∷ []) ≡ None
  unfolding back_tab
  no_back_tab n = rw (before_other_end body last 90 n) refl

  pub no_rxvt : last ≢ 94 → last ≢ 64 → last ≢ 36 → rxvt_key (body ++ last ∷ []) ≡ None
  unfolding rxvt_key
  no_rxvt a b c = rw (before_other_end body last 94 a, before_other_end body last 64 b, before_other_end body last 36 c) refl

-- what has a fixed length, by its first byte

pub no_x10 : (x : ℕ) (t : List ℕ) → (x == 77) ≡ false → x10_mouse (x ∷ t) ≡ None
unfolding x10_mouse
no_x10 x [] other = refl
no_x10 x (a ∷ []) other = refl
no_x10 x (a ∷ b ∷ []) other = refl
no_x10 x (a ∷ b ∷ c ∷ []) other = rw other refl
no_x10 x (a ∷ b ∷ c ∷ d ∷ t) other = refl

pub no_x10_side : (x : ℕ) (t : List ℕ) → (x == 77) ≡ false → x10_side_button (x ∷ t) ≡ None
unfolding x10_side_button
no_x10_side x [] other = refl
no_x10_side x (a ∷ []) other = refl
no_x10_side x (a ∷ b ∷ []) other = refl
no_x10_side x (a ∷ b ∷ c ∷ []) other = rw other refl
no_x10_side x (a ∷ b ∷ c ∷ d ∷ t) other = refl

pub no_console : (x : ℕ) (t : List ℕ) → (x == 91) ≡ false → console_key (x ∷ t) ≡ None
unfolding console_key
no_console x [] other = refl
no_console x (a ∷ []) other = rw other refl
no_console x (a ∷ b ∷ t) other = refl

-- the keys of a few terminals

pub no_short : (x : ℕ) (t : List ℕ) → nat_le x 56 ≡ false → short_key (x ∷ t) ≡ None
unfolding short_key
no_short x [] other = refl
no_short x (a ∷ []) other = rw (other, and_false (nat_le 50 x)) refl
no_short x (a ∷ b ∷ t) other = refl

pub no_middle : (x : ℕ) (t : List ℕ) → t ≢ [] → middle_key (x ∷ t) ≡ None
unfolding middle_key
no_middle x [] some = absurd (some refl)
no_middle x (a ∷ t) some = refl

-- where F3 isn't read, it isn't either where no question is open
pub unasked_none : (asks : Bool) (s : List ℕ) → third_function_key s ≡ None → unasked_key asks s ≡ None
unasked_none true s none = refl
unasked_none false s none = none

-- a reply, where no key is read
pub event_by_reply : (asks : Bool) (s : List ℕ) (e : Event) → focus s ≡ None → key_report s ≡ None → unasked_key asks s ≡ None
    → reply s ≡ Some e → event_of asks (27 ∷ 91 ∷ s) ≡ e
unfolding event_of event_after reported
event_by_reply true s e a b none c = rw (a, b, c) refl
event_by_reply false s e a b none c = rw (a, b, none, c) refl

-- F3, where no question is open
pub event_by_third : (s : List ℕ) (r : KeyReport) → focus s ≡ None → key_report s ≡ None → third_function_key s ≡ Some r
    → event_of false (27 ∷ 91 ∷ s) ≡ Key r
unfolding event_of event_after reported
event_by_third s r a b c = rw (a, b, c) refl

-- no rule reads it as a key, or a reply, or a mouse report
pub record IsOther (s : List ℕ) : Type 0 where
  pub focus_is : focus s ≡ None
  pub key_is : key_report s ≡ None
  pub reply_is : reply s ≡ None
  pub third_is : third_function_key s ≡ None
  pub rxvt_is : rxvt_key s ≡ None
  pub mouse_is : mouse_report s ≡ None

pub event_by_side_button : (asks : Bool) (s : List ℕ) (b : MouseReport) → IsOther s → side_button s ≡ Some b
    → event_of asks (27 ∷ 91 ∷ s) ≡ Mouse b
unfolding event_of event_after reported
event_by_side_button true s b o e = rw (o.focus_is, o.key_is, o.reply_is, o.third_is, o.rxvt_is, o.mouse_is, e) refl
event_by_side_button false s b o e = rw (o.focus_is, o.key_is, o.third_is, o.reply_is, o.rxvt_is, o.mouse_is, e) refl

pub event_by_none : (asks : Bool) (s : List ℕ) → IsOther s → side_button s ≡ None → console_key s ≡ None → further_key s ≡ None
    → event_of asks (27 ∷ 91 ∷ s) ≡ Csi s
unfolding event_of event_after reported
event_by_none true s o e f g = rw (o.focus_is, o.key_is, o.reply_is, o.third_is, o.rxvt_is, o.mouse_is, e, f, g) refl
event_by_none false s o e f g = rw (o.focus_is, o.key_is, o.third_is, o.reply_is, o.rxvt_is, o.mouse_is, e, f, g) refl
