-- What the code has of a reply before it is made.
use Rattle.std.specs.Prelude.{◌≡◌, ℕ, List, [], ◌∷◌, Option, Some, option_map}
use Rattle.termwiz_extended_events.specs.declared.base64.DecodedBytes.{DecodedBytes}
use Rattle.termwiz_extended_events.specs.declared.base64.DecodedBytes.TheVariants.{Three, Two, One}
use Rattle.termwiz_extended_events.specs.declared.reply.SpelledClipboard.{SpelledClipboard}
use Rattle.termwiz_extended_events.specs.declared.reply_types.Reply.{Reply}
use Rattle.termwiz_extended_events.specs.Base64.{decoded}
use Rattle.termwiz_extended_events.specs.ReplyValues.{clipboard_at}

-- the bytes of four letters
abbrev pub bytes_of : DecodedBytes → List ℕ
bytes_of (Three first second third) = first ∷ second ∷ third ∷ []
bytes_of (Two first second) = first ∷ second ∷ []
bytes_of (One first) = first ∷ []

-- the reply whose bytes are still spelled
abbrev pub clipboard_from : SpelledClipboard → Option Reply
clipboard_from spelled = clipboard_at (Some spelled.selection) (decoded spelled.text.now)

-- it is there exactly if the reply is, and spells it
abbrev pub IsSpelledClipboard : Option SpelledClipboard → Option Reply → Type 0
IsSpelledClipboard spelled reply = option_map clipboard_from spelled ≡ option_map (λ r. Some r) reply
