-- What each call of a timed parser does: the steps of a run.
use Rattle.std.specs.Prelude.{◌≡◌, ◌↔◌, ℕ, ◌+◌, ◌≤◌, min, max, length, Bool, true, false, List, [], ◌∷◌, ◌++◌, Option, Some, IfSome, if◌then◌else◌}
use Rattle.termwiz_grammar.specs.PasteParts.{HasPart, IsSkipped, IsTaken}
use Rattle.termwiz_grammar.specs.WaitingKinds.{IsOpenPaste}
use Rattle.termwiz_input.specs.declared.time.Limit.{Limit}
use Rattle.termwiz_input.specs.declared.time.Policy.{Policy}
use Rattle.termwiz_extended_events.specs.declared.types.Event.{Event}
use Rattle.termwiz_extended_events.specs.declared.types.Event.TheVariants.{StringPart}
use Rattle.termwiz_extended_events.specs.declared.types.Reading.{Reading}
use Rattle.termwiz_extended_grammar.specs.ExtendedGrammar.{IsRest, Steps}
use Rattle.termwiz_extended_grammar.specs.Readings.{after_event, asking}
use Rattle.termwiz_input_extended.specs.ExtendedExpiry.{IsLimitOf}
use Rattle.termwiz_input_extended.specs.NextItems.{IsPasteEvent}
use Rattle.termwiz_timed.specs.declared.parser.Stage.TheVariants as stage
use Rattle.termwiz_timed.specs.declared.parser.TimedEvent.{TimedEvent}
use Rattle.termwiz_timed.specs.declared.parser.TimedEvent.TheVariants.{Whole, PastePart}
use Rattle.termwiz_timed.specs.AgesInTime.{at_time, came}
use Rattle.termwiz_timed.specs.Timed.{Timed, IsFlushing, IsPasteOrString, HasPassed, more_comes, while_buffered, flushed, read_again, emptied}

-- A call with its answer. Bytes are fed at a time. An event is told, or all is. Nothing more came up to a time, and what is buffered was due
-- then, or not. What is buffered is flushed, or ended. Another program had the terminal up to a time. Something is set. Or a call is refused:
-- memory was, or a flush isn't over.
pub data Call : Type 0 where
  Feed : (now : ℕ) → (bytes : List ℕ) → Call
  Told : (event : TimedEvent) → Call
  AllTold : Call
  Idle : (now : ℕ) → (due : Bool) → Call
  Flush : Call
  End : Call
  Interrupted : (now : ℕ) → Call
  SetPolicy : (policy : Policy) → Call
  SetReading : (reading : Reading) → Call
  ExpectPosition : Call
  ForgetPositions : Call
  SetParts : (limit : Option ℕ) → Call
  SkipPaste : Call
  Reset : Call
  Refused : Call

-- what was open when another program had the terminal goes on after a part of a string, and after no other event
abbrev pub goes_on : Event → Bool → Bool
goes_on (StringPart kind bytes) interrupted = interrupted
goes_on _ interrupted = false

-- The parser after an event, which leaves a text. What is at its front ages from the last call that has a time.
abbrev pub after_item : Timed → Event → List ℕ → Timed
after_item old event left = record old {
  reading = after_event old.reading event;
  text = left;
  stage = while_buffered left old.stage;
  ages = record old.ages { front = 0 };
  interrupted = goes_on event old.interrupted;
}

-- the parser after a part of a paste
abbrev pub after_part : Timed → List ℕ → Timed
after_part old left = record old { text = left; ages = record old.ages { front = 0 } }

-- no part is to be told: parts are off, or an open paste has no more than their limit
abbrev pub HasNoPart : Timed → Type 0
HasNoPart parser = IfSome parser.parts (λ limit. ¬ HasPart parser.text limit)

-- so little is buffered of an open paste: no more than the limit of parts, or no more than is held back, and START
abbrev pub HasFewBytes : Timed → Type 0
HasFewBytes parser = IfSome parser.parts (λ limit. IsOpenPaste parser.text → length parser.text ≤ 6 + max limit 5)

-- An event is told: that of the item at the front, read with more to come or, in a flush, with no more to come; a part of an open paste that
-- has more than the limit; or where all ends, an open paste where it is.
pub data Tells (old : Timed) : TimedEvent → Timed → Type 0 where
  item : (event : Event) (left : List ℕ) → Steps old.reading old.text (more_comes old.stage) (event ∷ []) left
      → Tells old (Whole event) (after_item old event left)
  part : (limit : ℕ) (text left : List ℕ) → old.parts ≡ Some limit → IsTaken old.text limit text left
      → Tells old (PastePart text) (after_part old left)
  paste_ended : (event : Event) → old.stage ≡ stage.Ending → HasNoPart old → IsPasteEvent old.text event
      → Tells old (Whole event) (after_item old event [])

-- No event is told: none is at the front, and no part. An open paste stays, but where all ends.
pub record TellsNone (old new : Timed) : Type 0 where
  pub rest : IsRest old.reading old.text (more_comes old.stage)
  pub no_part : HasNoPart old
  pub few : HasFewBytes old
  pub no_end : old.stage ≡ stage.Ending → ¬ IsOpenPaste old.text
  pub told : new ≡ record old { stage = stage.AllTold }

-- Nothing more came up to now. If all is told and what is buffered is due, it ends. Else only the time is noted.
pub record Idles (old : Timed) (now : ℕ) (due : Bool) (new : Timed) : Type 0 where
  pub limit : Limit
  pub limited : IsLimitOf old.policy old.reading old.text limit
  pub is_due : (due ≡ true) ↔ ((old.stage ≡ stage.AllTold) × HasPassed old limit now)
  pub noted : new ≡ record old { ages = at_time old.ages now; stage = (if due then stage.Ending else old.stage) }

-- what stays buffered, and whether it is a paste or a string
pub data Keeps (old : Timed) : List ℕ → Bool → Type 0 where
  stays : IsPasteOrString old.reading old.text → Keeps old old.text true
  forgotten : ¬ IsPasteOrString old.reading old.text → Keeps old [] false

-- Another program had the terminal up to now. A beginning that is buffered is forgotten, and so are open questions. A paste or a string stays,
-- and is as if bytes came now.
pub record IsInterrupted (old : Timed) (now : ℕ) (new : Timed) : Type 0 where
  pub text : List ℕ
  pub stays : Bool
  pub keeps : Keeps old text stays
  pub all_told : old.stage ≡ stage.AllTold
  pub noted : new ≡ record old {
    reading = asking old.reading 0;
    text = text;
    ages = record (at_time old.ages now) { last = 0 };
    interrupted = stays;
  }

-- text of an open paste is skipped, or no paste is open
pub data Skips (old : Timed) : Timed → Type 0 where
  skipped : (count : ℕ) (left : List ℕ) → IsSkipped old.text count left → Skips old (record old { text = left })
  nothing : ¬ IsOpenPaste old.text → Skips old old

-- From old, a call with its answer leads to new.
abbrev pub Step : Timed → Call → Timed → Type 0
Step old (Feed now bytes) new = (¬ IsFlushing old.stage)
    × (new ≡ record old { text = old.text ++ bytes; stage = stage.Untold; ages = came old.text bytes (at_time old.ages now) })
Step old (Told event) new = Tells old event new
Step old AllTold new = TellsNone old new
Step old (Idle now due) new = Idles old now due new
Step old Flush new = new ≡ record old { stage = while_buffered old.text (flushed old.stage) }
Step old End new = new ≡ record old { stage = while_buffered old.text stage.Ending }
Step old (Interrupted now) new = IsInterrupted old now new
Step old (SetPolicy policy) new = new ≡ record old { policy = policy }
Step old (SetReading reading) new = new ≡ record old { reading = reading; stage = read_again old.stage }
Step old ExpectPosition new = new ≡ record old { reading = asking old.reading (min (old.reading.questions + 1) 255) }
Step old ForgetPositions new = new ≡ record old { reading = asking old.reading 0 }
Step old (SetParts limit) new = new ≡ record old { parts = limit; stage = read_again old.stage }
Step old SkipPaste new = Skips old new
Step old Reset new = new ≡ record old {
  reading = asking old.reading 0;
  text = [];
  stage = emptied old.stage;
  interrupted = false;
}
Step old Refused new = new ≡ old
