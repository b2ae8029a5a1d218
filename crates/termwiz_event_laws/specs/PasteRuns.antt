-- The law of a written paste that comes in a run of a timed parser: no byte of it is a key.
use Rattle.std.specs.Prelude.{◌≡◌, ◌≢◌, ◌⊎◌, ℕ, true, None, List, [], ◌∷◌, ◌++◌}
use Rattle.std.specs.List.{AllByRecursion}
use Rattle.termwiz_keys.specs.Introducers.{START}
use Rattle.termwiz_grammar.specs.WaitingKinds.{IsOpenPaste}
use Rattle.termwiz_extended_events.specs.declared.types.Dialect.{Dialect}
use Rattle.termwiz_extended_events.specs.declared.types.Dialect.TheVariants.{Extended}
use Rattle.termwiz_extended_events.specs.declared.types.Event.TheVariants.{Paste}
use Rattle.termwiz_senders.specs.Pastes.{paste_text}
use Rattle.termwiz_timed.specs.declared.parser.Stage.TheVariants as stage
use Rattle.termwiz_timed.specs.declared.parser.TimedEvent.{TimedEvent}
use Rattle.termwiz_timed.specs.declared.parser.TimedEvent.TheVariants.{Whole}
use Rattle.termwiz_timed.specs.Timed.{Timed, new_timed}
use Rattle.termwiz_timed.specs.Steps.Call.{Told}
use Rattle.termwiz_timed.specs.Runs.{IsRun, Moment, bytes_of, last_of, told_of}
use Rattle.termwiz_timed.specs.RunLaws.{AreWithinASecond, LeavesPastes, OnlyParts}

-- In a run a written paste comes: at some moment START is at the front, with some bytes after it. Then come the bytes of the segment, and the
-- rest is still to come. All these are what is written for the text, and what follows it. No call of the segment ends or resets all, pastes have
-- no limit, and no second passes without a byte once the parser was interrupted.
pub record Comes (dialect : Dialect) (before segment : List Moment) (text body rest follows : List ℕ) : Type 0 where
  pub run : IsRun (new_timed dialect) (segment ++ before)
  pub at_front : (last_of (new_timed dialect) before).text ≡ START ++ body
  pub not_ending : (last_of (new_timed dialect) before).stage ≢ stage.Ending
  pub no_limit : (last_of (new_timed dialect) before).policy.paste ≡ None
  pub leaves : AllByRecursion (λ (moment : Moment). LeavesPastes moment.call) segment
  pub in_time : AreWithinASecond (new_timed dialect) before segment
  pub written : paste_text text true ++ follows ≡ START ++ (body ++ bytes_of segment ++ rest)

-- parts of a paste or none, then the paste, and nothing after it
pub record IsOnePaste (told : List TimedEvent) : Type 0 where
  pub parts : List TimedEvent
  pub text : List ℕ
  pub only : OnlyParts parts
  pub splits : told ≡ parts ++ Whole (Paste text) ∷ []

-- Where nothing follows, no byte is a key. Nothing is told but parts of the paste, or these and then the paste, with which nothing stays
-- buffered. While bytes are still to come only parts are told, and the paste is open. Once all came and all is told, the paste is.
pub record HasNoKey (rest : List ℕ) (segment : List Moment) (last : Timed) : Type 0 where
  pub told : OnlyParts (told_of segment) ⊎ (IsOnePaste (told_of segment) × (last.text ≡ []))
  pub endless : rest ≢ [] → OnlyParts (told_of segment) × IsOpenPaste last.text
  pub whole : rest ≡ [] → last.stage ≡ stage.AllTold → IsOnePaste (told_of segment)

-- It is so whatever the text is, however its bytes come, and whatever is idled, flushed, skipped, interrupted, set or refused.
abbrev pub WrittenPasteIsInert : Type 0
WrittenPasteIsInert = (dialect : Dialect) (before segment : List Moment) (text body rest : List ℕ)
    → Comes dialect before segment text body rest [] → HasNoKey rest segment (last_of (new_timed dialect) (segment ++ before))

-- At a moment of the segment the paste is told. Before it only parts are. After it no byte of what is written for the text is buffered: of all
-- that came, what is buffered is what follows that.
pub record IsToldWhole (text body : List ℕ) (segment : List Moment) : Type 0 where
  pub later : List Moment
  pub moment : Moment
  pub earlier : List Moment
  pub pasted : List ℕ
  pub splits : segment ≡ later ++ moment ∷ earlier
  pub only : OnlyParts (told_of earlier)
  pub tells : moment.call ≡ Told (Whole (Paste pasted))
  pub left : START ++ (body ++ bytes_of earlier) ≡ paste_text text true ++ moment.after.text

-- So no byte of what is written is a key, whatever follows it.
abbrev pub FollowedPasteIsInert : Type 0
FollowedPasteIsInert = (dialect : Dialect) (before segment : List Moment) (text body rest follows : List ℕ)
    → Comes dialect before segment text body rest follows → OnlyParts (told_of segment) ⊎ IsToldWhole text body segment

-- Such a paste comes in some run, as a whole, and all is told.
pub record SomePasteComes : Type 0 where
  pub before : List Moment
  pub segment : List Moment
  pub text : List ℕ
  pub body : List ℕ
  pub comes : Comes Extended before segment text body [] []
  pub all_told : (last_of (new_timed Extended) (segment ++ before)).stage ≡ stage.AllTold
