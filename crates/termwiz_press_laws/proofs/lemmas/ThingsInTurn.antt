-- Things that are sent one after another, through any cuts and pauses, are told one after another.
use Rattle.std.proofs.Common.{◌≡◌, ℕ, Bool, true, false, List, [], ◌∷◌, ◌++◌, map, flat_map, refl, sym, ap, ap₂, ◌∙◌, subst, append_assoc, append-nil, Contains}
use Rattle.std.specs.Prelude.{if◌then◌else◌}
use Rattle.std.proofs.lemmas.List.Concat.{flat_map-append}
use Rattle.termwiz_extended_events.specs.declared.types.Event.{Event}
use Rattle.termwiz_extended_events.specs.declared.types.Event.TheVariants.{CursorPosition}
use Rattle.termwiz_extended_events.specs.declared.types.Reading.{Reading}
use Rattle.termwiz_extended_grammar.specs.ExtendedGrammar.{Means, Steps}
use Rattle.termwiz_extended_grammar.specs.Readings.{after_event, after_events}
use Rattle.termwiz_extended_grammar.proofs.lemmas.cuts.ExtendedCuts.{after_both, resumes, steps_stay}
use Rattle.termwiz_timed.proofs.lemmas.ReadsCut.{means_once}
use Rattle.termwiz_event_laws.specs.EventLaws.{waiting_texts}
use Rattle.termwiz_binding_laws.specs.EncodedPresses.{HasFirstSettings}
use Rattle.termwiz_press_laws.specs.PressRuns.{AreSent, IsFollowed, ReadsTellWhatWasSent, Sending, Signal, bytes_to_pause, signals_of, told_of_all}
use Rattle.termwiz_press_laws.specs.PressRuns.IsFollowed.{apart, at_once, by_pause}
use Rattle.termwiz_press_laws.specs.PressRuns.Signal.{byte, pause}
use Rattle.termwiz_press_laws.specs.Things.{IsToldAs, OneThing, Thing, after_thing, reply_event, told_of_event, told_of_events, told_of_thing}
use Rattle.termwiz_press_laws.specs.Things.Thing.{SentKey, SentMouse, SentPaste, SentReply}
use Rattle.termwiz_press_laws.proofs.lemmas.ReadsOfSignals.{SignalsMean, bytes_come, nothing_means, reads_tell}

-- a reading keeps its first settings
event_keeps : (reading : Reading) (event : Event) → HasFirstSettings reading → HasFirstSettings (after_event reading event)
event_keeps reading (CursorPosition row column) first =
    record { reads = first.reads; erase = first.erase; newline = first.newline }
event_keeps reading event first = first

thing_keeps : (reading : Reading) (thing : Thing) → HasFirstSettings reading → HasFirstSettings (after_thing reading thing)
thing_keeps reading (SentReply what) first = event_keeps reading (reply_event what) first
thing_keeps reading (SentKey what) first = first
thing_keeps reading (SentPaste text) first = first
thing_keeps reading (SentMouse report tracking) first = first

-- Signals that come behind a text which stands apart from their bytes.
behind : (reading : Reading) (text came : List ℕ) (told : List Event) (signals : List Signal) (events : List Event)
    → Steps reading (text ++ (came ++ bytes_to_pause signals)) true told (came ++ bytes_to_pause signals)
    → SignalsMean (after_events reading told) came signals events → SignalsMean reading (text ++ came) signals (told ++ events)
behind reading text came told [] events steps means =
    (resumes reading (text ++ came) [] came [] told events true).1
    (subst (λ u. Steps reading (text ++ u) true told u) (append-nil came) steps) means
behind reading text came told (byte b ∷ signals) events steps means =
    subst (λ u. SignalsMean reading u signals (told ++ events)) (sym (append_assoc text came (b ∷ [])))
    (behind reading text (came ++ b ∷ []) told signals events
    (subst (λ u. Steps reading (text ++ u) true told u) (sym (append_assoc came (b ∷ []) (bytes_to_pause signals))) steps) means)
behind reading text came told (pause ∷ signals) events steps (first, later, splits, means, further) = (
  told ++ first,
  later,
  ap (λ (e : List Event). told ++ e) splits ∙ sym (append_assoc told first later),
  subst (λ u. Means reading u false (told ++ first) []) (append-nil (text ++ came))
      ((resumes reading (text ++ came) [] came [] told first false).0
      (subst (λ u. Steps reading (text ++ u) true told u) (append-nil came) steps)
      (subst (λ u. Means (after_events reading told) u false first []) (sym (append-nil came)) means)),
  subst (λ r. SignalsMean r [] signals later) (sym (after_both reading told first)) further,
)

module _ (one_thing : OneThing) where
  -- What is signalled, where nothing is buffered.
  record AreSignalled (reading : Reading) (sendings : List Sending) : Type 0 where
    events : List Event
    mean : SignalsMean reading [] (flat_map signals_of sendings) events
    tell : told_of_events events ≡ told_of_all sendings

  abbrev Signalled : List Sending → Type 0
  Signalled sendings = (reading : Reading) → HasFirstSettings reading → AreSent reading sendings → AreSignalled reading sendings

  module _ (sending : Sending) (later : List Sending) (further : Signalled later) (reading : Reading) (first : HasFirstSettings reading)
      (are : AreSent reading (sending ∷ later)) where
    abbrev bytes : List ℕ
    bytes = sending.bytes

    abbrev rest : List Signal
    rest = flat_map signals_of later

    abbrev IsTold : Bool → Type 0
    IsTold more = IsToldAs reading bytes more (told_of_thing sending.thing bytes) (after_thing reading sending.thing)

    -- the thing is told, and then the others
    next_signalled : (more : Bool) (is : IsTold more) → AreSignalled (after_events reading is.events) later
    next_signalled more is =
        further (after_events reading is.events) (subst HasFirstSettings (sym is.leaves) (thing_keeps reading sending.thing first))
        (subst (λ r. AreSent r later) (sym is.leaves) are.2)

    tells_both : (more : Bool) (is : IsTold more)
        → told_of_events (is.events ++ (next_signalled more is).events) ≡ told_of_all (sending ∷ later)
    tells_both more is =
        flat_map-append told_of_event is.events (next_signalled more is).events
        ∙ ap₂ (λ a b. a ++ b) is.tells (next_signalled more is).tell

    -- with a pause behind it
    paused : IsTold false → sending.paused ≡ true → AreSignalled reading (sending ∷ later)
    paused is pauses =
        let next = next_signalled false is in
        let flushed : SignalsMean reading bytes (pause ∷ rest) (is.events ++ next.events) =
        (is.events, next.events, refl, is.means, next.mean) in
        record {
          events = is.events ++ next.events;
          mean = subst (λ s. SignalsMean reading [] s (is.events ++ next.events))
              (sym (append_assoc (map byte bytes) (pause ∷ []) rest)
              ∙ ap (λ b. (map byte bytes ++ (if b then pause ∷ [] else [])) ++ rest) (sym pauses))
              (bytes_come reading [] bytes (pause ∷ rest) (is.events ++ next.events) flushed);
          tell = tells_both false is;
        }

    -- without one, where it stands apart from what comes next
    unpaused : (more : Bool) (is : IsTold more) → sending.paused ≡ false
        → Steps reading (bytes ++ bytes_to_pause rest) true is.events (bytes_to_pause rest) → AreSignalled reading (sending ∷ later)
    unpaused more is none stands =
        let next = next_signalled more is in
        let whole : SignalsMean reading bytes rest (is.events ++ next.events) =
        subst (λ u. SignalsMean reading u rest (is.events ++ next.events)) (append-nil bytes)
        (behind reading bytes [] is.events rest next.events stands next.mean) in
        record {
          events = is.events ++ next.events;
          mean = subst (λ s. SignalsMean reading [] s (is.events ++ next.events))
              (ap (λ s. s ++ rest) (sym (append-nil (map byte bytes)))
              ∙ ap (λ b. (map byte bytes ++ (if b then pause ∷ [] else [])) ++ rest) (sym none))
              (bytes_come reading [] bytes rest (is.events ++ next.events) whole);
          tell = tells_both more is;
        }

    told : (more : Bool) → (more ≡ true → ¬ Contains waiting_texts bytes) → IsTold more
    told more waits = one_thing reading sending.thing bytes more first are.0 waits

    flushed : IsTold false
    flushed = told false (λ e. absurd (cc (e)))

    followed : IsFollowed reading sending (bytes_to_pause rest) → sending.paused ≡ false → AreSignalled reading (sending ∷ later)
    followed (by_pause pauses) none = absurd (cc (pauses, none))
    followed (at_once never) none =
        let is : IsTold true = told true (λ e. never) in
        unpaused true is none (steps_stay reading is.events bytes (bytes_to_pause rest) [] true is.means.steps)
    followed (apart is) none =
        let same = means_once reading bytes false is.events flushed.events [] [] is.flushed flushed.means in
        unpaused false flushed none
        (subst (λ e. Steps reading (bytes ++ bytes_to_pause rest) true e (bytes_to_pause rest)) same.0 is.stands)

    signalled_next : AreSignalled reading (sending ∷ later)
    signalled_next = go sending.paused refl
      where
        go : (b : Bool) → sending.paused ≡ b → AreSignalled reading (sending ∷ later)
        go true pauses = paused flushed pauses
        go false none = followed are.1 none

  signalled : (sendings : List Sending) → Signalled sendings
  signalled [] reading first are = record { events = []; mean = nothing_means reading; tell = refl }
  signalled (sending ∷ later) reading first are = signalled_next sending later (signalled later) reading first are

  pub reads_tell_what_was_sent : ReadsTellWhatWasSent
  reads_tell_what_was_sent reading reads sendings first are bring =
      let s = signalled sendings reading first are in
      let r = reads_tell reading reads [] [] [] s.events (nothing_means reading)
      (subst (λ t. SignalsMean reading [] t s.events) (sym bring) s.mean) in
      (r.0, r.2, ap told_of_events (sym r.1) ∙ s.tell)
