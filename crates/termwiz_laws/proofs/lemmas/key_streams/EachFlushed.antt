-- The texts of keys that read back, each flushed before the next one, are read as the keys.
use Rattle.std.proofs.Common.{◌≡◌, ◌∙◌, ℕ, false, List, [], ◌∷◌, ◌++◌, map, refl, sym, ap, subst}
use Rattle.std.specs.Prelude.{◌↔◌}
use Rattle.std.specs.List.{AllByRecursion}
use Rattle.termwiz_keys.specs.declared.types.InputEvent.{InputEvent}
use Rattle.termwiz_grammar.specs.Grammar.{Means}
use Rattle.termwiz_grammar.specs.Streams.{ReadInTurn}
use Rattle.termwiz_grammar.proofs.lemmas.items.OneItem.{read_of, steps_once}
use Rattle.termwiz_grammar.proofs.lemmas.read_back.KeysReadBack.{read_back}
use Rattle.termwiz_laws.specs.KeyStreams.{Press, IsListedPress, DoesReadBack, event_of, each_flushed, StreamReadsBack}

-- a listed key reads back
pub listed_reads_back : (press : Press) → IsListedPress press → DoesReadBack press
listed_reads_back press is = read_back press.key press.modifiers press.modes is

-- what follows from what is true of each press is true of each press
pub true_of_each : (P Q : Press → Type 0) → ((press : Press) → P press → Q press) → (presses : List Press)
    → AllByRecursion P presses → AllByRecursion Q presses
true_of_each P Q follows [] are = tt
true_of_each P Q follows (press ∷ presses) are =
    (follows press are.0, true_of_each P Q follows presses are.1)

abbrev pub ReadsExactly : List (List ℕ) → List InputEvent → Type 0
ReadsExactly texts all = (events : List InputEvent) (waiting : List ℕ)
    → ReadInTurn Means [] (each_flushed texts) events waiting ↔ ((events ≡ all) × (waiting ≡ []))

-- one more text before the others
one_more : (text : List ℕ) (event : InputEvent) (texts : List (List ℕ)) (all : List InputEvent)
    → Means text false (event ∷ []) [] → ReadsExactly texts all → ReadsExactly (text ∷ texts) (event ∷ all)
one_more text event texts all means others events waiting = (
  λ (first, later, between, parts, is, rest).
      let same = steps_once first (event ∷ []) text between [] false (read_of is) (read_of means) in
      let after = (others later waiting).0
      (subst (λ b. ReadInTurn Means b (each_flushed texts) later waiting) same.1 rest) in
      (parts ∙ ap (λ e. e ++ later) same.0 ∙ ap (λ e. event ∷ e) after.0, after.1),
  λ (exactly, none). (event ∷ [], all, [], exactly, means, (others all waiting).1 (refl, none)),
)

pub stream_reads_back : StreamReadsBack DoesReadBack
stream_reads_back [] are = ([], refl, λ events waiting. (λ h. (h.0, sym h.1), λ h. (h.0, sym h.1)))
stream_reads_back (press ∷ presses) are =
    let first = are.0 in
    let later = stream_reads_back presses are.1 in (
      first.0 ∷ later.0,
      (first.1, later.1),
      one_more first.0 (event_of press) later.0 (map event_of presses) first.2 later.2,
    )

pub listed_stream_reads_back : StreamReadsBack IsListedPress
listed_stream_reads_back presses are =
    stream_reads_back presses (true_of_each IsListedPress DoesReadBack listed_reads_back presses are)
