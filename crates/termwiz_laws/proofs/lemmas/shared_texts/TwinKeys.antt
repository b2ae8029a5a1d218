-- A text is read as one key, so keys that read back and share a text are the same.
use Rattle.std.proofs.Common.{◌≡◌, ◌∙◌, ℕ, false, List, [], ◌∷◌, sym, subst, ap, Some}
use Rattle.termwiz_keys.specs.declared.types.KeyEvent.{KeyEvent}
use Rattle.termwiz_keys.specs.declared.types.InputEvent.TheVariants.{Key}
use Rattle.termwiz_grammar.specs.Grammar.{Means}
use Rattle.termwiz_grammar.proofs.lemmas.items.OneItem.{read_of, steps_once}
use Rattle.termwiz_laws.specs.KeyStreams.{Press, IsListedPress, DoesReadBack, Sends, event_of}
use Rattle.termwiz_laws.specs.SharedTexts.{IsSameKey, TextsDiffer, TwinsReadAsOne}
use Rattle.termwiz_laws.proofs.lemmas.key_streams.EachFlushed.{listed_reads_back}

-- one text is read as one key
pub read_once : (text : List ℕ) (j k : KeyEvent) → Means text false (Key j ∷ []) [] → Means text false (Key k ∷ []) []
    → j ≡ k
read_once text j k a b =
    let same : Key j ∷ [] ≡ Key k ∷ [] = (steps_once (Key j ∷ []) (Key k ∷ []) text [] [] false (read_of a) (read_of b)).0 in
    cc (same)

same_press : (one other : Press) (text : List ℕ) → Means text false (event_of one ∷ []) []
    → Means text false (event_of other ∷ []) [] → IsSameKey one other
same_press one other text a b =
    let same = read_once text (record { key = one.key; modifiers = one.modifiers })
    (record { key = other.key; modifiers = other.modifiers }) a b in
    record { key = ap (λ (k : KeyEvent). k.key) same; modifiers = ap (λ (k : KeyEvent). k.modifiers) same }

-- the text that is sent, in place of the one that the reading names
at_text : (press : Press) (text other : List ℕ) → Sends press text → Sends press other
    → Means other false (event_of press ∷ []) [] → Means text false (event_of press ∷ []) []
at_text press text other is was means =
    let same : other ≡ text = (let e : Some other ≡ Some text = sym was ∙ is in cc (e)) in
    subst (λ t. Means t false (event_of press ∷ []) []) same means

-- the text of a key that reads back is read as it
pub sent_means : (press : Press) (text : List ℕ) → DoesReadBack press → Sends press text
    → Means text false (event_of press ∷ []) []
sent_means press text back sends = at_text press text back.0 sends back.1 back.2

pub texts_differ : TextsDiffer DoesReadBack
texts_differ one other text a b sends sends_too =
    same_press one other text (sent_means one text a sends) (sent_means other text b sends_too)

pub listed_texts_differ : TextsDiffer IsListedPress
listed_texts_differ one other text a b sends sends_too =
    texts_differ one other text (listed_reads_back one a) (listed_reads_back other b) sends sends_too

pub twins_read_as_one : TwinsReadAsOne DoesReadBack
twins_read_as_one one twin text back sends sends_too =
    let means = sent_means one text back sends in
    (means, λ too. same_press twin one text (sent_means twin text too sends_too) means)

pub twins_read_as_listed : TwinsReadAsOne IsListedPress
twins_read_as_listed one twin text is sends sends_too =
    twins_read_as_one one twin text (listed_reads_back one is) sends sends_too
