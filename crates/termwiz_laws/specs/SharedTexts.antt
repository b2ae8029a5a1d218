-- Keys that send the same text.
use Rattle.std.specs.Prelude.{◌≡◌, ℕ, false, List, [], ◌∷◌}
use Rattle.termwiz_grammar.specs.Grammar.{Means}
use Rattle.termwiz_laws.specs.KeyStreams.{Press, DoesReadBack, Sends, event_of}

-- the same key with the same modifiers, whatever the modes
pub record IsSameKey (one other : Press) : Type 0 where
  pub key : one.key ≡ other.key
  pub modifiers : one.modifiers ≡ other.modifiers

-- Such keys that send the same text are the same key with the same modifiers.
abbrev pub TextsDiffer : (Press → Type 0) → Type 0
TextsDiffer IsSuch = (one other : Press) (text : List ℕ) → IsSuch one → IsSuch other
    → Sends one text → Sends other text → IsSameKey one other

-- Any key that sends the text of such a key is read as that one, and so it reads back only if it is the same.
abbrev pub TwinsReadAsOne : (Press → Type 0) → Type 0
TwinsReadAsOne IsSuch = (one twin : Press) (text : List ℕ) → IsSuch one → Sends one text → Sends twin text
    → Means text false (event_of one ∷ []) [] × (DoesReadBack twin → IsSameKey twin one)
