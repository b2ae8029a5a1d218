-- Which texts stand apart from the bytes that come next.
use Rattle.std.specs.Prelude.{◌≡◌, ◌≢◌, ℕ, true, false, List, [], ◌∷◌, ◌++◌}
use Rattle.std.specs.Char.{IsScalar, encode_utf8}
use Rattle.termwiz_keys.specs.Introducers.{ESC}
use Rattle.termwiz_grammar.specs.Sequences.{Meaning, IsSequence}
use Rattle.termwiz_extended_events.specs.declared.types.Event.{Event}
use Rattle.termwiz_extended_events.specs.declared.types.Event.TheVariants.{Key}
use Rattle.termwiz_extended_events.specs.declared.types.KeyReport.{KeyReport}
use Rattle.termwiz_extended_events.specs.declared.types.Reading.{Reading}
use Rattle.termwiz_extended_events.specs.declared.types.StringKind.{StringKind}
use Rattle.termwiz_extended_grammar.specs.ExtendedGrammar.{Means, StartsApart, Steps}
use Rattle.termwiz_extended_grammar.specs.ExtraSequences.{IsExtra}
use Rattle.termwiz_extended_grammar.specs.Forms.{introducer}
use Rattle.termwiz_extended_grammar.specs.Readings.{ReadsMore}
use Rattle.termwiz_extended_grammar.specs.Strings.{IsHead}

-- A text stands apart from the bytes that come next: what a flush reads of it is read of it also where they come behind it, and they are left.
pub record IsApart (reading : Reading) (text next : List ℕ) : Type 0 where
  pub events : List Event
  pub flushed : Means reading text false events []
  pub stands : Steps reading (text ++ next) true events next

-- what is known: a sequence of the port, a character, an extra sequence, or the opening of a string
pub data IsKnown (reading : Reading) (text : List ℕ) : Type 0 where
  sequence : (m : Meaning) → IsSequence text m → IsKnown reading text
  character : (c : ℕ) → IsScalar c → encode_utf8 c ≡ text → IsKnown reading text
  extra : (event : Event) → IsExtra reading text event → IsKnown reading text
  opening : (kind : StringKind) (head : List ℕ) → ReadsMore reading → IsHead kind head → introducer kind ++ head ≡ text → IsKnown reading text

-- The byte goes on with the text: something known begins with the two.
pub record GoesOn (reading : Reading) (text : List ℕ) (b : ℕ) : Type 0 where
  pub tail : List ℕ
  pub known : IsKnown reading (text ++ b ∷ tail)

-- It goes on with neither the text nor what follows the ESC of that.
pub record EndsBefore (reading : Reading) (text : List ℕ) (b : ℕ) : Type 0 where
  pub whole : ¬ GoesOn reading text b
  pub behind : (v : List ℕ) → text ≡ ESC ++ v → ¬ GoesOn reading v b

-- Any text but ESC that a flush reads as one key stands apart from what comes next, if the first byte of that doesn't go on with it.
abbrev pub KeysStandApart : Type 0
KeysStandApart = (reading : Reading) (text next : List ℕ) (b : ℕ) (r : KeyReport) → Means reading text false (Key r ∷ []) [] → text ≢ ESC
    → EndsBefore reading text b → IsApart reading text (b ∷ next)

-- ESC stands apart from an extra sequence that is no bare key, and from the opening of a string.
abbrev pub EscapeStandsApart : Type 0
EscapeStandsApart = (reading : Reading) (next : List ℕ) → StartsApart reading next → IsApart reading ESC next

-- So it does from what is one event at once that is no key, such as a paste, a mouse report or a reply.
abbrev pub EscapeBeforeOthers : Type 0
EscapeBeforeOthers = (reading : Reading) (next : List ℕ) (event : Event) → Means reading next true (event ∷ []) []
    → ((r : KeyReport) → event ≢ Key r) → IsApart reading ESC next

-- What stands apart from some bytes does so whatever comes behind them.
abbrev pub ApartFromMore : Type 0
ApartFromMore = (reading : Reading) (text next more : List ℕ) → IsApart reading text next → IsApart reading text (next ++ more)
