-- What contracts see of a timed parser.
use Rattle.std.specs.Prelude.{◌≡◌, ◌≢◌, ◌⊎◌, ℕ, ◌+◌, ◌<◌, ◌≤◌, min, Bool, true, false, List, [], ◌∷◌, Option, Some, None}
use Rattle.termwiz_keymap.specs.Bytes.{Begins}
use Rattle.termwiz_keys.specs.Introducers.{START}
use Rattle.termwiz_input.specs.declared.time.Age.TheVariants.{Last}
use Rattle.termwiz_input.specs.declared.time.Limit.{Limit}
use Rattle.termwiz_input.specs.declared.time.Policy.{Policy}
use Rattle.termwiz_input.specs.Time.{usual}
use Rattle.termwiz_extended_events.specs.declared.types.Dialect.{Dialect}
use Rattle.termwiz_extended_events.specs.declared.types.Reading.{Reading}
use Rattle.termwiz_extended_grammar.specs.ExtendedGrammar.{ReadsOpening}
use Rattle.termwiz_extended_grammar.specs.Readings.{first_reading}
use Rattle.termwiz_input_extended.specs.ExtendedExpiry.{IsLimitOf}
use Rattle.termwiz_timed.specs.declared.ages.Ages.{Ages}
use Rattle.termwiz_timed.specs.declared.parser.Stage.{Stage}
use Rattle.termwiz_timed.specs.declared.parser.Stage.TheVariants.{AllTold, Untold, Flushing, Ending}
use Rattle.termwiz_timed.specs.AgesInTime.{IsReached, first_ages}

-- How it reads, and what is buffered; how far that is told; the limits in time, and that of parts; how old what is buffered is; and whether it
-- is a paste or a string that was open when another program had the terminal.
pub record Timed : Type 0 where
  pub reading : Reading
  pub text : List ℕ
  pub stage : Stage
  pub policy : Policy
  pub parts : Option ℕ
  pub ages : Ages
  pub interrupted : Bool

-- a new parser
abbrev pub new_timed : Dialect → Timed
new_timed dialect = record {
  reading = first_reading dialect;
  text = [];
  stage = AllTold;
  policy = usual;
  parts = None;
  ages = first_ages;
  interrupted = false;
}

-- a flush is being told: what is buffered is read with no more to come
abbrev pub IsFlushing : Stage → Type 0
IsFlushing stage = (stage ≡ Flushing) ⊎ (stage ≡ Ending)

-- whether more may come to what is buffered
abbrev pub more_comes : Stage → Bool
more_comes AllTold = true
more_comes Untold = true
more_comes Flushing = false
more_comes Ending = false

-- a flush is over once nothing is buffered
abbrev pub while_buffered : List ℕ → Stage → Stage
while_buffered [] stage = Untold
while_buffered (byte ∷ text) stage = stage

-- a flush that begins; an end that began stays one
abbrev pub flushed : Stage → Stage
flushed AllTold = Flushing
flushed Untold = Flushing
flushed Flushing = Flushing
flushed Ending = Ending

-- what is buffered may mean something else now; a flush that began goes on
abbrev pub read_again : Stage → Stage
read_again AllTold = Untold
read_again stage = stage

-- what was being flushed is gone
abbrev pub emptied : Stage → Stage
emptied AllTold = AllTold
emptied stage = Untold

-- the start of a paste or the opening of a string is at the front
abbrev pub IsPasteOrString : Reading → List ℕ → Type 0
IsPasteOrString reading text = Begins START text ⊎ ReadsOpening reading text

-- the sooner of two
abbrev pub sooner : Option ℕ → Option ℕ → Option ℕ
sooner None other = other
sooner (Some one) None = Some one
sooner (Some one) (Some other) = Some (min one other)

-- what another program may have read the end of waits no longer than this
abbrev pub a_second : Limit
a_second = record { millis = Some 1000; by = Last }

-- This limit of what is buffered has passed; or a second has, where it is a paste or a string that was open when another program had the terminal.
pub data HasPassed (parser : Timed) (limit : Limit) (now : ℕ) : Type 0 where
  by_policy : IsReached parser.ages limit now → HasPassed parser limit now
  by_interruption : parser.interrupted ≡ true → IsPasteOrString parser.reading parser.text → IsReached parser.ages a_second now
      → HasPassed parser limit now

-- the time of the last call that has one is no later than now
pub record IsNotedBy (ages : Ages) (now : ℕ) : Type 0 where
  pub time : ℕ
  pub last_call : ages.noted ≡ Some time
  pub no_later : time ≤ now

-- So much is left until it has passed. None: it never does.
abbrev pub IsLeft : Timed → Limit → ℕ → Option ℕ → Type 0
IsLeft parser limit now None = (time : ℕ) → ¬ HasPassed parser limit time
IsLeft parser limit now (Some left) = IsNotedBy parser.ages now
    → ((time : ℕ) → now + left ≤ time → HasPassed parser limit time)
    × (0 < left → (time : ℕ) → time < now + left → ¬ HasPassed parser limit time)

-- How long may be waited: no time until all is told, and then until what is buffered is due.
pub record IsTimeout (parser : Timed) (now : ℕ) (answer : Option ℕ) : Type 0 where
  pub untold : parser.stage ≢ AllTold → answer ≡ Some 0
  pub told : parser.stage ≡ AllTold
      → (limit : Limit) × IsLimitOf parser.policy parser.reading parser.text limit × IsLeft parser limit now answer
