-- Times under the usual policy.
use Rattle.std.specs.Prelude.{◌≡◌, ℕ, true, false, Some, None, List, [], ◌∷◌}
use Rattle.termwiz_grammar.specs.declared.waiting.Waiting.TheVariants.{Escape, Sequence, Character, Paste}
use Rattle.termwiz_input.specs.declared.time.Limit.{Limit}
use Rattle.termwiz_input.specs.declared.time.Seen.{Seen}
use Rattle.termwiz_input.specs.Time.{limit_of_kind, limit_of_string, new_timer, time_left, usual, forever}
use Rattle.termwiz_input.specs.TimeLaws.{Note, all_noted}

-- bytes were fed that brought no event; what is buffered has this limit
abbrev pub fed : Limit → Seen
fed limit = record { limit = limit; fed = true; taken = false; empty = false }

-- bytes were fed that brought an event; what is buffered after it has this limit
abbrev pub fed_event : Limit → Seen
fed_event limit = record { limit = limit; fed = true; taken = true; empty = false }

-- bytes were fed that brought an event, and nothing is buffered after it
abbrev pub all_read : Seen
all_read = record { limit = forever; fed = true; taken = true; empty = true }

-- after these notes one millisecond is left at the first of these times, and none at the second
abbrev pub IsDueFrom : List Note → ℕ → ℕ → Type 0
IsDueFrom notes before due = (time_left (all_noted new_timer notes) before ≡ Some 1) × (time_left (all_noted new_timer notes) due ≡ Some 0)

pub record UsualTimes : Type 0 where
  -- ESC at 0 and ESC at 40 are flushed at 90
  pub escapes : IsDueFrom ((0, fed (limit_of_kind usual Escape 1)) ∷ (40, fed (limit_of_kind usual Escape 2)) ∷ []) 89 90
  -- ESC at 0, `[A` at 50 and ESC at 99: that is flushed at 149
  pub escape_after_arrow : IsDueFrom ((0, fed (limit_of_kind usual Escape 1)) ∷ (50, all_read) ∷ (99, fed (limit_of_kind usual Escape 1)) ∷ []) 148 149
  -- ESC `[` at 0 is flushed at 100
  pub alt_key : IsDueFrom ((0, fed (limit_of_kind usual Sequence 2)) ∷ []) 99 100
  -- ESC at 0 and `[` at 40 are flushed at 100
  pub alt_key_in_two : IsDueFrom ((0, fed (limit_of_kind usual Escape 1)) ∷ (40, fed (limit_of_kind usual Sequence 2)) ∷ []) 99 100
  -- ESC `[1` at 0 and `;5` at 900 are flushed at 1000
  pub sequence : IsDueFrom ((0, fed (limit_of_kind usual Sequence 3)) ∷ (900, fed (limit_of_kind usual Sequence 5)) ∷ []) 999 1000
  -- ESC ESC at 0, `]11;a` at 40 and `b` at 4000: the string of 7 bytes is cut at 5047
  pub string : IsDueFrom ((0, fed (limit_of_kind usual Escape 2)) ∷ (40, fed_event (limit_of_string usual 6)) ∷ (4000, fed (limit_of_string usual 7)) ∷ []) 5046 5047
  -- half a character and an open paste wait forever
  pub character : time_left (all_noted new_timer ((0, fed (limit_of_kind usual Character 1)) ∷ [])) 90000 ≡ None
  pub paste : time_left (all_noted new_timer ((0, fed (limit_of_kind usual Paste 7)) ∷ [])) 90000 ≡ None
  -- START `a` at 0, END ESC at 90000: that ESC is flushed at 90050
  pub escape_after_paste : IsDueFrom ((0, fed (limit_of_kind usual Paste 7)) ∷ (90000, fed_event (limit_of_kind usual Escape 1)) ∷ []) 90049 90050
