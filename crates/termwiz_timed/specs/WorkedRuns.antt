-- Runs that were worked out by hand: calls in order, with their answers.
use Rattle.std.specs.Prelude.{◌≡◌, ℕ, true, false, Some, List, [], ◌∷◌, ◌++◌, codes}
use Rattle.std.specs.Str.Lossy.{utf8_lossy}
use Rattle.termwiz_keys.specs.Introducers.{ESC, START, END}
use Rattle.termwiz_input.specs.declared.time.Policy.{Policy}
use Rattle.termwiz_input.specs.Time.{usual}
use Rattle.termwiz_extended_events.specs.declared.types.Dialect.TheVariants.{Extended}
use Rattle.termwiz_extended_events.specs.declared.types.Event.TheVariants.{Paste}
use Rattle.termwiz_extended_grammar.specs.ExtendedGrammar.{escape_event}
use Rattle.termwiz_timed.specs.declared.parser.TimedEvent.TheVariants.{Whole, PastePart}
use Rattle.termwiz_timed.specs.Timed.{Timed, new_timed}
use Rattle.termwiz_timed.specs.Runs.{IsRun, Moment}
use Rattle.termwiz_timed.specs.Steps.{Call, Step}
use Rattle.termwiz_timed.specs.Steps.Call.{AllTold, End, Feed, Flush, Idle, Interrupted, Refused, SetParts, SetPolicy, Told}

-- From a parser these calls follow, in this order, with these answers.
pub data Follow : Timed → List Call → Type 0 where
  nothing : (first : Timed) → Follow first []
  next : (first second : Timed) → (call : Call) → (calls : List Call) → Step first call second → Follow second calls → Follow first (call ∷ calls)

-- the calls of moments, in order
abbrev pub calls_of : List Moment → List Call
calls_of [] = []
calls_of (moment ∷ earlier) = calls_of earlier ++ moment.call ∷ []

-- Such calls are those of a run.
abbrev pub AreRuns : Type 0
AreRuns = (first : Timed) (calls : List Call) → Follow first calls
    → (moments : List Moment) × IsRun first moments × (calls_of moments ≡ calls)

-- the Escape key is told
abbrev pub escape : Call
escape = Told (Whole escape_event)

-- a paste of these bytes is told, and a part of one
abbrev pub paste : List ℕ → Call
paste body = Told (Whole (Paste (utf8_lossy body)))

abbrev pub paste_part : List ℕ → Call
paste_part body = Told (PastePart (utf8_lossy body))

-- the usual limits, but 300 ms for a paste
abbrev pub paste_300 : Policy
paste_300 = record usual { paste = Some 300 }

abbrev pub parser : Timed
parser = new_timed Extended

pub record WorkedRuns : Type 0 where
  -- ESC at 0 is the Escape key at 50
  pub escape_at_50 : Follow parser (Feed 0 ESC ∷ AllTold ∷ Idle 49 false ∷ Idle 50 true ∷ escape ∷ AllTold ∷ [])
  -- the clock steps back from 20 to 10: the steps forward are 20 and 30
  pub clock_back : Follow parser (Feed 0 ESC ∷ AllTold ∷ Idle 20 false ∷ Idle 10 false ∷ Idle 39 false ∷ Idle 40 true ∷ escape ∷ AllTold ∷ [])
  -- nothing is due before all is told
  pub idle_before_next : Follow parser (Feed 0 ESC ∷ Idle 50 false ∷ AllTold ∷ Idle 50 true ∷ escape ∷ AllTold ∷ [])
  -- bytes that come in a flush are refused until it is over
  pub feed_in_a_flush : Follow parser (Feed 0 ESC ∷ End ∷ Refused ∷ escape ∷ Feed 1 (codes "[A") ∷ [])
  -- a paste waits forever, also with an ESC at its end
  pub paste_waits : Follow parser (Feed 0 (START ++ codes "x") ∷ AllTold ∷ Idle 100000 false ∷ Feed 100001 ESC ∷ AllTold ∷ Idle 200000 false
      ∷ Feed 200001 (codes "[201~") ∷ paste (codes "x") ∷ AllTold ∷ [])
  -- a flush leaves it open
  pub paste_flushed : Follow parser (Feed 0 (START ++ codes "1234") ∷ AllTold ∷ Flush ∷ AllTold ∷ Feed 1 (codes "5678" ++ END)
      ∷ paste (codes "12345678") ∷ AllTold ∷ [])
  -- an end ends it
  pub paste_ended : Follow parser (Feed 0 (START ++ codes "a") ∷ AllTold ∷ End ∷ paste (codes "a") ∷ AllTold ∷ [])
  -- parts of 4
  pub paste_in_parts : Follow parser (SetParts (Some 4) ∷ AllTold ∷ Feed 0 (START ++ codes "abcdef") ∷ paste_part (codes "abcdef") ∷ AllTold
      ∷ Feed 1 (ESC ++ codes "[20") ∷ AllTold ∷ Feed 2 (codes "1~") ∷ paste [] ∷ AllTold ∷ [])
  -- interrupted at 5, a paste goes on with a byte at 900 and its end at 1800
  pub interrupted_paste : Follow parser (Feed 0 (START ++ codes "a") ∷ AllTold ∷ Interrupted 5 ∷ Feed 900 (13 ∷ []) ∷ AllTold
      ∷ Feed 1800 END ∷ paste (97 ∷ 13 ∷ []) ∷ AllTold ∷ [])
  -- and it ends where it is after a second without a byte
  pub interrupted_a_second : Follow parser (Feed 0 (START ++ codes "a") ∷ AllTold ∷ Interrupted 5 ∷ Idle 1004 false ∷ Idle 1005 true
      ∷ paste (codes "a") ∷ AllTold ∷ [])
  -- or after the policy's limit, since the interruption
  pub interrupted_by_policy : Follow parser (SetPolicy paste_300 ∷ Feed 0 (START ++ codes "a") ∷ AllTold ∷ Interrupted 5 ∷ Idle 304 false
      ∷ Idle 305 true ∷ paste (codes "a") ∷ AllTold ∷ [])
