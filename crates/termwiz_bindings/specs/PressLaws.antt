-- The laws of presses.
use Rattle.std.specs.Prelude.{◌≡◌, ◌≢◌, ◌↔◌, ◌⊎◌, ◌<◌, ◌≤◌, ℕ, ◌+◌, true, false, List, [], Some, None, IsSome, bit_and}
use Rattle.std.specs.Char.{is_control}
use Rattle.termwiz_base.specs.declared.modifiers.Modifiers.{Modifiers}
use Rattle.termwiz_keys.specs.declared.types.KeyCode.TheVariants.{Char}
use Rattle.termwiz_keys.specs.declared.types.KeyEvent.{KeyEvent}
use Rattle.termwiz_extended_events.specs.declared.types.KeyReport.{KeyReport}
use Rattle.termwiz_extended_events.specs.declared.types.KeyEventKind.TheVariants.{Press, Release}
use Rattle.termwiz_extended_events.specs.declared.types.ReportedKey.TheVariants.{Named}
use Rattle.termwiz_extended_events.specs.KeyReports.{report_of}
use Rattle.termwiz_bindings.specs.declared.press.KeyPress.{KeyPress}
use Rattle.termwiz_bindings.specs.Letters.{capital_of, shown_with_shift}
use Rattle.termwiz_bindings.specs.Presses.{canonical, second, typed_text, with_text, all_but_locks, is_shortcut, has_shift, plain_press, reported, event_report}

-- a press as the report of a press that says no more
abbrev pub report_of_press : KeyPress → KeyReport
report_of_press p = report_of p.key (record { modifiers = p.held; kind = Press })

-- Each press that a report has is its own press.
abbrev pub PressesSettle : Type 0
PressesSettle = (r : KeyReport) (p : KeyPress) → canonical r ≡ Some p → canonical (report_of_press p) ≡ Some p

-- Its modifiers are the six of kitty's bits that aren't locks.
abbrev pub PressesHaveNoLocks : Type 0
PressesHaveNoLocks = (r : KeyReport) (p : KeyPress) → canonical r ≡ Some p → p.held < 64

-- a rule that changes nothing where it was applied before
abbrev pub IsSettled : (KeyPress → KeyPress) → Type 0
IsSettled rule = (p : KeyPress) → rule (rule p) ≡ rule p

-- Where a report tells the capital of a cased letter, its press is that without it: only what a keyboard does otherwise counts.
abbrev pub CapitalsTellNothing : Type 0
CapitalsTellNothing = (r : KeyReport) (c capital : ℕ) → r.key ≡ Named (Char c) → capital_of c ≡ Some capital
    → canonical (record r { shifted = Some capital }) ≡ canonical (record r { shifted = None })

-- A release has no press.
abbrev pub NoPressOfRelease : Type 0
NoPressOfRelease = (r : KeyReport) → r.kind ≡ Release → canonical r ≡ None

-- Two reports that differ in the locks alone have the same press.
abbrev pub LocksChangeNothing : Type 0
LocksChangeNothing = (r : KeyReport) (modifiers : ℕ)
    → bit_and modifiers all_but_locks ≡ bit_and r.modifiers all_but_locks
    → canonical (record r { modifiers = modifiers }) ≡ canonical r

-- the port's bits of SHIFT, ALT, CTRL and SUPER: all but LEADER and those that tell which of two keys is held
abbrev pub told_of_event : ℕ
told_of_event = 2 + 4 + 8 + 16

-- Two events of a key that differ in no other modifiers have the same press.
abbrev pub SidesChangeNothing : Type 0
SidesChangeNothing = (k : KeyEvent) (held : Modifiers)
    → bit_and held.0 told_of_event ≡ bit_and k.modifiers.0 told_of_event
    → canonical (event_report (record k { modifiers = held })) ≡ canonical (event_report k)

-- A report has a press or a text to insert, and never both.
abbrev pub NeverBoth : Type 0
NeverBoth = (r : KeyReport) → (canonical r ≡ None) ⊎ (typed_text r ≡ [])

-- the key is a character that isn't of ASCII, a modifier is held beside SHIFT, and what its place types on a PC-101 keyboard is told
pub record HasPlace (r : KeyReport) : Type 0 where
  pub shortcut : is_shortcut r.modifiers ≡ true
  pub beyond_ascii : (c : ℕ) × (r.key ≡ Named (Char c)) × (128 ≤ c)
  pub base : (b : ℕ) × (r.base ≡ Some b) × (is_control b ≡ false)

-- SHIFT and another modifier are held. By its main name the key is a character but the space, of which only the keyboard knows what it is
-- with SHIFT, and another character is told.
pub record LostShift (r : KeyReport) : Type 0 where
  pub shortcut : is_shortcut r.modifiers ≡ true
  pub shift : has_shift r.modifiers ≡ true
  pub key : (c : ℕ) × ((plain_press (reported r)).key ≡ Named (Char c)) × (c ≢ 32) × (shown_with_shift c ≡ None)
      × ((s : ℕ) × (r.shifted ≡ Some s) × (is_control s ≡ false) × (c ≢ s))

-- the key is U+0008 or U+000A
abbrev pub IsSentByAnother : KeyReport → Type 0
IsSentByAnother r = (r.key ≡ Named (Char 8)) ⊎ (r.key ≡ Named (Char 10))

-- the key makes a press, and there is another one to try
pub record IsTriedTwice (r : KeyReport) : Type 0 where
  pub press : IsSome (canonical (with_text r []))
  pub other : HasPlace r ⊎ (LostShift r ⊎ IsSentByAnother r)

-- Exactly such a report has a second press.
abbrev pub SecondOnlyOf : Type 0
SecondOnlyOf = (r : KeyReport) → IsSome (second r) ↔ IsTriedTwice r

-- The text of a report says nothing of its second press.
abbrev pub SecondWithoutText : Type 0
SecondWithoutText = (r : KeyReport) (text : List ℕ) → second (with_text r text) ≡ second r
