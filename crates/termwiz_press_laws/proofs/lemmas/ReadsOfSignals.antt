-- What reads tell depends on what they bring alone: bytes, and pauses in which what is buffered is flushed.
use Rattle.std.proofs.Common.{◌≡◌, ℕ, true, false, List, [], ◌∷◌, ◌++◌, map, flat_map, refl, sym, ap, ◌∙◌, subst, append_assoc, append-nil}
use Rattle.termwiz_grammar.specs.WaitingKinds.{IsOpenPaste}
use Rattle.termwiz_extended_events.specs.declared.types.Event.{Event}
use Rattle.termwiz_extended_events.specs.declared.types.Reading.{Reading}
use Rattle.termwiz_extended_grammar.specs.ExtendedGrammar.{Means}
use Rattle.termwiz_extended_grammar.specs.Readings.{after_events}
use Rattle.termwiz_extended_grammar.proofs.lemmas.cuts.ExtendedCuts.{after_both, cut_independent}
use Rattle.termwiz_extended_grammar.proofs.lemmas.items.ExtendedRests.{empty_is_rest, one_meaning}
use Rattle.termwiz_timed.specs.Segments.{Read, ReadsInTurn}
use Rattle.termwiz_timed.specs.Segments.Ends.{closed}
use Rattle.termwiz_timed.specs.Segments.Read.{Bytes, NoMore, Over}
use Rattle.termwiz_timed.proofs.lemmas.ReadsCut.{means_once}
use Rattle.termwiz_press_laws.specs.PressRuns.{Signal, signals_read}
use Rattle.termwiz_press_laws.specs.PressRuns.Signal.{byte, pause}

-- Signals mean events: before each pause the bytes since the last one, with no more to come, and behind it the rest. Nothing waits. These bytes
-- came since then.
abbrev pub SignalsMean : Reading → List ℕ → List Signal → List Event → Type 0
SignalsMean reading came [] events = Means reading came true events []
SignalsMean reading came (byte b ∷ signals) events = SignalsMean reading (came ++ b ∷ []) signals events
SignalsMean reading came (pause ∷ signals) events =
    (first later : List Event) × (events ≡ first ++ later) × Means reading came false first []
    × SignalsMean (after_events reading first) [] signals later

pub bytes_came : (reading : Reading) (came bytes : List ℕ) (signals : List Signal) (events : List Event)
    → SignalsMean reading came (map byte bytes ++ signals) events → SignalsMean reading (came ++ bytes) signals events
bytes_came reading came [] signals events h = subst (λ t. SignalsMean reading t signals events) (sym (append-nil came)) h
bytes_came reading came (b ∷ bytes) signals events h =
    subst (λ t. SignalsMean reading t signals events) (append_assoc came (b ∷ []) bytes)
    (bytes_came reading (came ++ b ∷ []) bytes signals events h)

pub bytes_come : (reading : Reading) (came bytes : List ℕ) (signals : List Signal) (events : List Event)
    → SignalsMean reading (came ++ bytes) signals events → SignalsMean reading came (map byte bytes ++ signals) events
bytes_come reading came [] signals events h = subst (λ t. SignalsMean reading t signals events) (append-nil came) h
bytes_come reading came (b ∷ bytes) signals events h =
    bytes_come reading (came ++ b ∷ []) bytes signals events
    (subst (λ t. SignalsMean reading t signals events) (sym (append_assoc came (b ∷ []) bytes)) h)

pub nothing_means : (reading : Reading) → Means reading [] true [] []
nothing_means reading = record { steps = refl; rest = empty_is_rest reading true }

not_open : ¬ IsOpenPaste []
not_open is = cc (is.splits)

-- what waits of a text, flushed, is what the text is flushed
flushed : (reading : Reading) (text before left : List ℕ) (told first : List Event) → Means reading text true told before
    → Means (after_events reading told) before false first left → Means reading text false (told ++ first) left
flushed reading text before left told first means later =
    subst (λ t. Means reading t false (told ++ first) left) (append-nil text)
    (cut_independent reading text [] before left told first false means
    (subst (λ t. Means (after_events reading told) t false first left) (sym (append-nil before)) later))

-- Reads tell the events, but for those that were told.
abbrev pub Tell : Reading → List Read → List ℕ → List Event → List Event → Type 0
Tell reading reads before told events =
    (later : List Event) × (events ≡ told ++ later) × ReadsInTurn (after_events reading told) before reads later []

-- a pause flushes what is buffered, and then come the other reads
abbrev AfterPause : Reading → List Read → List ℕ → List Event → List Event → Type 0
AfterPause reading reads before told events =
    (first later : List Event) × (events ≡ told ++ (first ++ later)) × Means (after_events reading told) before false first []
    × ReadsInTurn (after_events (after_events reading told) first) [] reads later []

after_pause : (reading : Reading) (reads : List Read) (came before : List ℕ) (told events : List Event) → Means reading came true told before
    → SignalsMean reading came (pause ∷ flat_map signals_read reads) events
    → ((next : Reading) (rest : List Event) → SignalsMean next [] (flat_map signals_read reads) rest → Tell next reads [] [] rest)
    → AfterPause reading reads before told events
after_pause reading reads came before told events means (first, rest, is, read, signals) further =
    let m = one_meaning (after_events reading told) before false in
    let whole = flushed reading came before m.1 told m.0 means m.2 in
    let same = means_once reading came false first (told ++ m.0) [] m.1 read whole in
    let here : after_events reading first ≡ after_events (after_events reading told) m.0 =
    ap (after_events reading) same.0 ∙ after_both reading told m.0 in
    let next = further (after_events reading first) rest signals in (
      m.0,
      next.0,
      is ∙ ap (λ (e : List Event). e ++ rest) same.0 ∙ append_assoc told m.0 rest ∙ ap (λ (e : List Event). told ++ (m.0 ++ e)) next.1,
      subst (λ w. Means (after_events reading told) before false m.0 w) (sym same.1) m.2,
      subst (λ r. ReadsInTurn r [] reads next.0 []) here next.2,
    )

-- Reads that bring the signals tell their events.
pub reads_tell : (reading : Reading) (reads : List Read) (came before : List ℕ) (told events : List Event) → Means reading came true told before
    → SignalsMean reading came (flat_map signals_read reads) events → Tell reading reads before told events
reads_tell reading [] came before told events means signals =
    let same = means_once reading came true events told [] before signals means in
    ([], same.0 ∙ sym (append-nil told), (refl, sym same.1))
reads_tell reading (Bytes bytes ∷ reads) came before told events means signals =
    let m = one_meaning (after_events reading told) (before ++ bytes) true in
    let joined = cut_independent reading came bytes before m.1 told m.0 true means m.2 in
    let next = reads_tell reading reads (came ++ bytes) m.1 (told ++ m.0) events joined
    (bytes_came reading came bytes (flat_map signals_read reads) events signals) in (
      m.0 ++ next.0,
      next.1 ∙ append_assoc told m.0 next.0,
      (m.0, next.0, m.1, refl, m.2, subst (λ r. ReadsInTurn r m.1 reads next.0 []) (after_both reading told m.0) next.2),
    )
reads_tell reading (NoMore ∷ reads) came before told events means signals =
    let next = after_pause reading reads came before told events means signals
    (λ r rest h. reads_tell r reads [] [] [] rest (nothing_means r) h) in
    (next.0 ++ next.1, next.2, (next.0, next.1, [], refl, next.3, next.4))
reads_tell reading (Over ∷ reads) came before told events means signals =
    let next = after_pause reading reads came before told events means signals
    (λ r rest h. reads_tell r reads [] [] [] rest (nothing_means r) h) in
    (next.0 ++ next.1, next.2, (next.0, next.1, [], refl, closed next.0 [] next.3 not_open, next.4))
