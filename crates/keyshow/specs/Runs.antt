-- What a run reads and writes.
use Rattle.std.specs.Prelude.{◌≤◌, ◌++◌, ℕ, List, Option, true, false, length}
use Rattle.std.specs.Io.KnownBytes.{Appends, Consumes, IsAtEnd}
use Rattle.termwiz_input.specs.InputEvent.{InputEvent}
use Rattle.termwiz_input.specs.Bytes.{Begins}
use Rattle.termwiz_input.specs.Grammar.{Means}
use Rattle.keyshow.specs.Lines.{lines, all_lines}

-- A reader gave all that it had, which took its bytes from `unread` to `left`, and a writer got the lines of what that
-- text means where no more comes, which took its bytes from `before` to `after`.
pub record ShowsAll (unread left before after : Option (List ℕ)) : Type 0 where
  pub text : List ℕ
  pub events : List InputEvent
  pub waiting : List ℕ
  pub read : Consumes unread left text
  pub at_end : IsAtEnd left
  pub means : Means text false events waiting
  pub written : Appends before after (all_lines events waiting)

-- A reader gave some text, which took its bytes from `unread` to `left`, and a writer got exactly the lines of the
-- events that this text decides while more may come, which took its bytes from `before` to `after`.
pub record ShowsDecided (unread left before after : Option (List ℕ)) : Type 0 where
  pub text : List ℕ
  pub events : List InputEvent
  pub waiting : List ℕ
  pub read : Consumes unread left text
  pub means : Means text true events waiting
  pub written : Appends before after (lines events)

-- A writer got a prefix of the lines of what the text means where no more comes,
-- which took its bytes from `before` to `after`.
pub record WritesPart (text : List ℕ) (before after : Option (List ℕ)) : Type 0 where
  pub events : List InputEvent
  pub waiting : List ℕ
  pub part : List ℕ
  pub means : Means text false events waiting
  pub begins : Begins part (all_lines events waiting)
  pub written : Appends before after part

-- A reader gave some text, which took its bytes from `unread` to `left`, and a writer got a prefix of the lines of what
-- this text means where no more comes, which took its bytes from `before` to `after`.
pub record ShowsPart (unread left before after : Option (List ℕ)) : Type 0 where
  pub text : List ℕ
  pub read : Consumes unread left text
  pub written : WritesPart text before after

-- A reader gave a text and then at most so many bytes, which took its bytes from `unread` to `left`. A writer got all
-- lines of the events that the first text decides while more may come, and then some more bytes,
-- which took its bytes from `before` to `after`.
pub record ReadsAhead (most : ℕ) (unread left before after : Option (List ℕ)) : Type 0 where
  pub text : List ℕ
  pub ahead : List ℕ
  pub events : List InputEvent
  pub waiting : List ℕ
  pub part : List ℕ
  pub few : length ahead ≤ most
  pub read : Consumes unread left (text ++ ahead)
  pub means : Means text true events waiting
  pub written : Appends before after (lines events ++ part)
