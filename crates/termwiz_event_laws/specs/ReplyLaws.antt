-- The laws of replies that are written: what is read is what was replied.
use Rattle.std.specs.Prelude.{◌≡◌, ℕ, ◌≤◌, Bool, true, false, List, [], ◌∷◌, ◌++◌, codes, length, Option, Some, None}
use Rattle.std.specs.List.{AllByRecursion}
use Rattle.termwiz_keys.specs.Introducers.{CSI}
use Rattle.termwiz_extended_events.specs.declared.types.Event.{Event}
use Rattle.termwiz_extended_events.specs.declared.types.Event.TheVariants.{CursorPosition}
use Rattle.termwiz_extended_events.specs.declared.types.Reading.{Reading}
use Rattle.termwiz_extended_events.specs.declared.reply_types.Reply.{Reply}
use Rattle.termwiz_extended_events.specs.declared.reply_types.Reply.TheVariants as reply
use Rattle.termwiz_extended_events.specs.declared.reply_types.ColourScheme.TheVariants.{Dark, Light}
use Rattle.termwiz_extended_events.specs.declared.reply_types.DeviceAttributes.TheVariants.{Primary}
use Rattle.termwiz_extended_events.specs.ReplyValues.{reply_of}
use Rattle.termwiz_extended_grammar.specs.Forms.{most_control}
use Rattle.termwiz_extended_grammar.specs.Readings.{ReadsMore}
use Rattle.termwiz_senders.specs.EventTexts.{IsReadAtOnce, attributes_text, position_text, scheme_text}
use Rattle.termwiz_event_laws.specs.EventLaws.{IsPlace, IsToldPlainly, IsWord}

-- The bytes are one event, at once, and the event says this reply, or says none.
abbrev pub IsSaidAtOnce : Reading → Option Reply → List ℕ → Type 0
IsSaidAtOnce reading said bytes = (event : Event) × IsReadAtOnce reading event bytes × (reply_of event ≡ said)

-- what attributes say: without a number they say nothing
abbrev pub said_of_attributes : List ℕ → Option Reply
said_of_attributes [] = None
said_of_attributes (first ∷ more) = Some (reply.DeviceAttributes Primary (first ∷ more))

-- what is said of the colours
abbrev pub said_of_colours : Bool → Option Reply
said_of_colours true = Some (reply.ColourScheme Dark)
said_of_colours false = Some (reply.ColourScheme Light)

-- Where more than the port's sequences is read, attributes say the numbers that were written.
abbrev pub AttributesUnderstood : Type 0
AttributesUnderstood = (reading : Reading) (numbers : List ℕ) → ReadsMore reading → AllByRecursion IsWord numbers
    → length (attributes_text numbers) ≤ most_control → IsSaidAtOnce reading (said_of_attributes numbers) (attributes_text numbers)

-- So ESC [?62;22c says 62 and 22.
abbrev pub SomeAttributes : Type 0
SomeAttributes = (reading : Reading) → ReadsMore reading → IsSaidAtOnce reading (said_of_attributes (62 ∷ 22 ∷ [])) (CSI ++ codes "?62;22c")

-- A report of the colours says whether they are dark.
abbrev pub SchemesUnderstood : Type 0
SchemesUnderstood = (reading : Reading) (dark : Bool) → ReadsMore reading → IsSaidAtOnce reading (said_of_colours dark) (scheme_text dark)

-- A position is its row and its column: with a question mark always, and without one where it may be told so.
abbrev pub PositionsUnderstood : Type 0
PositionsUnderstood = (reading : Reading) (row column : ℕ) (private : Bool) → ReadsMore reading → IsPlace row → IsPlace column
    → (private ≡ false → IsToldPlainly reading row column) → IsReadAtOnce reading (CursorPosition row column) (position_text row column private)
