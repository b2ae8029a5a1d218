-- Events that are written to an array one after another, with their bytes.
use Rattle.std.proofs.Common.{◌≡◌, ◌∙◌, ℕ, ◌+◌, ◌-◌, ◌<◌, ◌≤◌, List, [], ◌∷◌, ◌++◌, length, take, drop, get_or, map, inl, inr, refl, sym, ap, subst, arith}
use Rattle.std.specs.List.{slice_set}
use Rattle.std.proofs.lemmas.List.{append-nil, append_assoc, drop_all, drop_at, length-append, length-drop, length-map, set-get_or, take-append-drop, take_all, take_at}
use borrow.Rule.Slice.PartMut.{mid_of, put_mid}
use Rattle.termwiz_extended_events.specs.declared.types.Event.{Event}
use Rattle.termwiz_extended_events.specs.Meanings.{NeedsMemory}
use Rattle.termwiz_extended_events.specs.declared.types.Event.TheVariants.{Key, Mouse, Paste, FocusGained, FocusLost, CursorPosition, Resized, KeyboardFlags, Csi, Osc, Dcs, Apc, StringPart, StringCut}
use Rattle.termwiz_timed.specs.declared.parser.TimedEvent.{TimedEvent}
use Rattle.termwiz_timed.specs.declared.parser.TimedEvent.TheVariants.{Whole, PastePart}
use Rattle.termwiz_timed.specs.Steps.{Step}
use Rattle.termwiz_timed.specs.Steps.Call.{AllTold, Told}
use Rattle.termwiz_timed.specs.Timed.{Timed}
use Rattle.hedrugal.specs.declared.events.CEvent.{CEvent}
use Rattle.hedrugal.specs.declared.parser_and_text.ParserAndText.{ParserAndText}
use Rattle.hedrugal.specs.Calls.{MeetsMemory, Took, copied}
use Rattle.hedrugal.specs.EventArrays.{AreWhole, AreWritten, Stops, TellsAll, TookAll, TookWithBytes, WritesOn, WroteEvents, WroteWhole, joined_bytes, text_after_all}
use Rattle.hedrugal.specs.EventArrays.Stops.{all_told, full, refused}
use Rattle.hedrugal.specs.Events.{brought, c_event, c_told, own_bytes}

-- a copy of no bytes changes nothing
nothing_copied : (bytes room : List ℕ) → length bytes ≤ 0 → room ≡ copied bytes room
nothing_copied [] room none = sym (ap (λ (front : List ℕ). front ++ room) (take_all (length room) [] (omega arith)))
nothing_copied (byte ∷ bytes) room none = let no : ⊥ = omega arith in absurd no

-- an event in numbers tells how many bytes it brings
told_len : (event : TimedEvent) → (c_told event).text_len ≡ length (brought event)
unfolding c_event own_bytes
told_len (PastePart text) = refl
told_len (Whole (Mouse report)) = refl
told_len (Whole (Paste text)) = refl
told_len (Whole (Key report)) = refl
told_len (Whole FocusGained) = refl
told_len (Whole FocusLost) = refl
told_len (Whole (CursorPosition row column)) = refl
told_len (Whole (Resized rows columns height width)) = refl
told_len (Whole (KeyboardFlags flags)) = refl
told_len (Whole (Csi bytes)) = refl
told_len (Whole (Osc bytes)) = refl
told_len (Whole (Dcs bytes)) = refl
told_len (Whole (Apc bytes)) = refl
told_len (Whole (StringPart kind bytes)) = refl
told_len (Whole (StringCut kind bytes)) = refl

-- the same of numbers that are the event's
shown_len : (event : TimedEvent) (c : CEvent) → c ≡ c_told event → c.text_len ≡ length (brought event)
shown_len event c is = ap (λ (e : CEvent). e.text_len) is ∙ told_len event

no_text : (text : List ℕ) → ((text ≡ [] → ⊥) → ⊥) → text ≡ []
no_text [] light = refl
no_text (b ∷ text) light = absurd (light (λ e. cc (e)))

-- an event that needs no memory brings no bytes
pub brings_none : (event : Event) → (NeedsMemory event → ⊥) → brought (Whole event) ≡ []
unfolding own_bytes
brings_none (Mouse report) light = refl
brings_none (Paste text) light = absurd (light tt)
brings_none (Key report) light = no_text report.text light
brings_none FocusGained light = refl
brings_none FocusLost light = refl
brings_none (CursorPosition row column) light = refl
brings_none (Resized rows columns height width) light = refl
brings_none (KeyboardFlags flags) light = refl
brings_none (Csi bytes) light = absurd (light tt)
brings_none (Osc bytes) light = absurd (light tt)
brings_none (Dcs bytes) light = absurd (light tt)
brings_none (Apc bytes) light = absurd (light tt)
brings_none (StringPart kind bytes) light = absurd (light tt)
brings_none (StringCut kind bytes) light = absurd (light tt)

-- nor do its numbers say so
pub bare_len : (event : Event) (c : CEvent) → c ≡ c_told (Whole event) → (NeedsMemory event → ⊥) → c.text_len ≡ 0
bare_len event c is light = shown_len (Whole event) c is ∙ ap length (brings_none event light)

-- an event was told, and it brings no bytes
pub no_bytes_copied : (before after : ParserAndText) (c : CEvent) (room : List ℕ) → Took before c after → c.text_len ≤ 0
    → TookWithBytes before c room room after
no_bytes_copied before after c room (event, step, is, text) none =
    (event, step, is, text, nothing_copied (brought event) room (omega (arith, shown_len event c is)))

-- the end of a list, from a place on, and a list with another end
rest_at : (front rest : List ℕ) (at k : ℕ) → length front ≡ at → length rest ≤ k → mid_of at k (front ++ rest) ≡ rest
rest_at front rest at k is many = ap (λ (l : List ℕ). take k l) (drop_at front rest at is) ∙ take_all k rest many

with_rest : (front rest more : List ℕ) (at k : ℕ) → length front ≡ at → length rest ≤ k → put_mid at k (front ++ rest) more ≡ front ++ more
with_rest front rest more at k is many =
    rw (take_at front rest at is, drop_at front rest at is, drop_all k rest many, append-nil {A = ℕ} more) refl

-- a copy behind other bytes
copied_behind : (front bytes room : List ℕ) → length front ≤ length room
    → front ++ copied bytes (drop (length front) room) ≡ copied (front ++ bytes) room
copied_behind [] bytes room fits = refl
copied_behind (byte ∷ front) bytes [] fits = let no : ⊥ = omega arith in absurd no
copied_behind (byte ∷ front) bytes (first ∷ room) fits =
    ap (λ (more : List ℕ). byte ∷ more) (copied_behind front bytes room (omega arith))

-- a copy of what there is room for is whole
copied_whole : (bytes room : List ℕ) → length bytes ≤ length room → bytes ++ drop (length bytes) room ≡ copied bytes room
copied_whole bytes room fits = ap (λ (front : List ℕ). front ++ drop (length bytes) room) (sym (take_all (length room) bytes fits))

-- one more event is written to the array
one_more_shown : (events : List TimedEvent) (event : TimedEvent) (array : List CEvent) → length events < length array
    → slice_set (map c_told events ++ drop (length events) array) (length events) (c_told event)
    ≡ map c_told (events ++ event ∷ []) ++ drop (length (events ++ event ∷ [])) array
one_more_shown events event [] inside = let no : ⊥ = omega arith in absurd no
one_more_shown [] event (first ∷ array) inside = refl
one_more_shown (e ∷ events) event (first ∷ array) inside =
    ap (λ (more : List CEvent). c_told e ∷ more) (one_more_shown events event array (omega arith))

-- the bytes of two lists of events
joined_both : (events more : List TimedEvent) → joined_bytes (events ++ more) ≡ joined_bytes events ++ joined_bytes more
joined_both [] more = refl
joined_both (event ∷ events) more =
    ap (λ (rest : List ℕ). brought event ++ rest) (joined_both events more) ∙ sym (append_assoc (brought event) _ _)

-- what is kept after one event more
text_after_more : (events : List TimedEvent) (event : TimedEvent) (before : List ℕ) → text_after_all (events ++ event ∷ []) before ≡ brought event
text_after_more [] event before = refl
text_after_more (first ∷ events) event before = text_after_more events event (brought first)

-- one event more is told
one_more_told : (before here next : Timed) (events : List TimedEvent) (event : TimedEvent) → TellsAll before events here
    → Step here (Told event) next → TellsAll before (events ++ event ∷ []) next
one_more_told before here next [] event same step = (next, subst (λ (p : Timed). Step p (Told event) next) same step, refl)
one_more_told before here next (first ∷ events) event (between, told, rest) step =
    (between, told, one_more_told between here next events event rest step)

one_more_taken : (before here next : ParserAndText) (events : List TimedEvent) (event : TimedEvent) → TookAll before events here
    → Step here.parser (Told event) next.parser → next.text.items ≡ brought event → TookAll before (events ++ event ∷ []) next
one_more_taken before here next events event taken step text = record {
  steps = one_more_told before.parser here.parser next.parser events event taken.steps step;
  text = text ∙ sym (text_after_more events event before.text.items);
}

-- the bytes of the first events are no more than those of all
few_bytes : (events : List TimedEvent) (count : ℕ) → length (joined_bytes (take count events)) ≤ length (joined_bytes events)
few_bytes events count =
    let all : joined_bytes events ≡ joined_bytes (take count events) ++ joined_bytes (drop count events) =
    ap (λ (es : List TimedEvent). joined_bytes es) (sym (take-append-drop count events)) ∙ joined_both (take count events) (drop count events) in
    omega (arith, ap length all, length-append {A = ℕ})

-- what is written whole is written
whole_are_written : (events : List TimedEvent) (count used : ℕ) (array array' : List CEvent) (room room' : List ℕ)
    → AreWhole events count used array array' room room' → AreWritten events array array' room room'
whole_are_written events count used array array' room room' whole = record {
  inside = whole.inside;
  shown_there = whole.shown_there;
  bytes = whole.bytes ∙ copied_whole (joined_bytes events) room whole.fits;
  whole = let few = few_bytes events (length events - 1) in omega (arith, few, whole.fits);
}

-- the bytes of one event more
joined_more : (events : List TimedEvent) (event : TimedEvent) → joined_bytes (events ++ event ∷ []) ≡ joined_bytes events ++ brought event
joined_more events event =
    joined_both events (event ∷ []) ∙ ap (λ (bytes : List ℕ). joined_bytes events ++ bytes) (append-nil {A = ℕ} (brought event))

-- a copy behind other bytes, in a list that has a room behind them
bytes_behind : (front bytes room : List ℕ) (now : List ℕ) (used k : ℕ) → used ≡ length front → length front ≤ length room
    → now ≡ front ++ drop (length front) room → length now ≤ used + k
    → put_mid used k now (copied bytes (mid_of used k now)) ≡ copied (front ++ bytes) room
bytes_behind front bytes room now used k measured fits is many =
    let rest = drop (length front) room in
    let lens : length rest ≤ k = omega (arith, ap length is, length-append front rest) in
    rw (is, rest_at front rest used k (sym measured) lens, with_rest front rest (copied bytes rest) used k (sym measured) lens)
    (copied_behind front bytes room fits)

-- one more event is written, and as many of its bytes as there is room for
one_more_written : (events : List TimedEvent) (count used : ℕ) (array array' : List CEvent) (room room' : List ℕ)
    (event : TimedEvent) (c : CEvent) (part : List ℕ) → AreWhole events count used array array' room room'
    → count < length array → c ≡ c_told event → part ≡ copied (brought event) (mid_of used (length room' - used) room')
    → AreWritten (events ++ event ∷ []) array (slice_set array' count c) room (put_mid used (length room' - used) room' part)
one_more_written events count used array array' room room' event c part whole more is copy = record {
  inside = omega (arith, length-append events (event ∷ []), whole.counted);
  shown_there = let one = one_more_shown events event array (omega (arith, whole.counted)) in
      let counted = whole.counted in let before = whole.shown_there in cc (one, counted, before);
  bytes = rw (copy, joined_more events event)
      (bytes_behind (joined_bytes events) (brought event) room room' used (length room' - used) whole.measured whole.fits whole.bytes (omega arith));
  whole = let count_now : length (events ++ event ∷ []) - 1 ≡ length events = omega (arith, length-append events (event ∷ [])) in
      rw (count_now, take_at events (event ∷ []) (length events) refl) whole.fits;
}

-- there is one event more
one_more_counted : (events : List TimedEvent) (event : TimedEvent) (count : ℕ) → count ≡ length events → count + 1 ≡ length (events ++ event ∷ [])
one_more_counted events event count is = omega (arith, is, length-append events (event ∷ []))

-- so many bytes there was room for
room_len : (events : List TimedEvent) (count used : ℕ) (array array' : List CEvent) (room room' : List ℕ)
    → AreWhole events count used array array' room room' → length room' ≡ length room
room_len events count used array array' room room' whole =
    omega (arith, ap length whole.bytes, whole.fits, length-append (joined_bytes events) (drop (length (joined_bytes events)) room), length-drop (length (joined_bytes events)) room)

-- and so many places
array_len : (events : List TimedEvent) (count used : ℕ) (array array' : List CEvent) (room room' : List ℕ)
    → AreWhole events count used array array' room room' → length array' ≡ length array
array_len events count used array array' room room' whole =
    omega (arith, ap length whole.shown_there, whole.inside, length-append (map c_told events) (drop (length events) array), length-drop (length events) array, length-map events c_told)

-- the bytes of one event more are so many
more_bytes : (events : List TimedEvent) (event : TimedEvent) (used : ℕ) (c : CEvent) → used ≡ length (joined_bytes events)
    → c ≡ c_told event → length (joined_bytes (events ++ event ∷ [])) ≡ used + c.text_len
more_bytes events event used c measured is =
    let len : c.text_len ≡ length (brought event) = ap (λ (e : CEvent). e.text_len) is ∙ told_len event in
    omega (arith, ap length (joined_more events event), length-append (joined_bytes events) (brought event), len, measured)

-- the bytes that have no room are more than there is room for
many_bytes : (events : List TimedEvent) (count used : ℕ) (array array' : List CEvent) (room room' : List ℕ)
    (event : TimedEvent) (c : CEvent) → AreWhole events count used array array' room room' → c ≡ c_told event
    → length room' - used < c.text_len → length room < length (joined_bytes (events ++ event ∷ []))
many_bytes events count used array array' room room' event c whole is many =
    omega (arith, more_bytes events event used c whole.measured is, room_len events count used array array' room room' whole, many)

-- the end of a list that is put back
put_back : (used : ℕ) (room : List ℕ) → put_mid used (length room - used) room (mid_of used (length room - used) room) ≡ room
put_back used room =
    ap (λ (l : List ℕ). take used room ++ l) (take-append-drop (length room - used) (drop used room)) ∙ take-append-drop used room

-- a place that is set to what it has
unset : (array : List CEvent) (place : ℕ) (c d : CEvent) → c ≡ get_or array place d → slice_set array place c ≡ array
unset array place c d is = ap (λ (e : CEvent). slice_set array place e) is ∙ set-get_or array place d

-- if there is room for all of them, all are written
one_more_whole : (events : List TimedEvent) (count used : ℕ) (array array' : List CEvent) (room room' : List ℕ)
    (event : TimedEvent) (c : CEvent) (array'' : List CEvent) (room'' : List ℕ)
    → AreWhole events count used array array' room room' → AreWritten (events ++ event ∷ []) array array'' room room''
    → c ≡ c_told event → c.text_len ≤ length room' - used
    → AreWhole (events ++ event ∷ []) (count + 1) (used + c.text_len) array array'' room room''
one_more_whole events count used array array' room room' event c array'' room'' whole written is few =
    let all = more_bytes events event used c whole.measured is in
    let fits : length (joined_bytes (events ++ event ∷ [])) ≤ length room =
    omega (arith, all, room_len events count used array array' room room' whole, whole.measured, whole.fits, few) in
    record {
      counted = one_more_counted events event count whole.counted;
      measured = sym all;
      inside = written.inside;
      fits = fits;
      shown_there = written.shown_there;
      bytes = written.bytes ∙ sym (copied_whole (joined_bytes (events ++ event ∷ [])) room fits);
    }

module _ (before : ParserAndText) (array : List CEvent) (room : List ℕ) where
  module _ (count used : ℕ) (array' : List CEvent) (room' : List ℕ) (here : ParserAndText) (wrote : WroteWhole before array room count used array' room' here) where
    -- it stops there
    stopped : (answer : ℕ) (after : ParserAndText) → ((events : List TimedEvent) → count ≡ length events → length events ≤ length array
        → Stops events array room here answer after) → WroteEvents before array array' room room' count answer after
    stopped answer after stops =
        let (events, took, whole) = wrote in (
          events,
          here,
          took,
          whole.counted,
          whole_are_written events count used array array' room room' whole,
          stops events whole.counted whole.inside,
        )

    -- since the array is full
    pub stopped_full : length array ≤ count → WroteEvents before array array' room room' count 0 here
    stopped_full no_more = stopped 0 here (λ events counted inside. full (inl (omega arith)))

    -- the next place has what it had
    module _ (c d : CEvent) (next : ParserAndText) (part : List ℕ) (kept : c ≡ get_or array' count d)
        (same : part ≡ mid_of used (length room' - used) room') where
      stopped_there : (answer : ℕ) → WroteEvents before array array' room room' count answer next
          → WroteEvents before array (slice_set array' count c) room (put_mid used (length room' - used) room' part) count answer next
      stopped_there answer wrote_all = rw (same, put_back used room', unset array' count c d kept) wrote_all

      -- since all is told
      pub stopped_told : Step here.parser AllTold next.parser → next.text ≡ here.text
          → WroteEvents before array (slice_set array' count c) room (put_mid used (length room' - used) room' part) count 1 next
      stopped_told told text =
          stopped_there 1 (stopped 1 next (λ events counted inside. all_told next told (ap (λ t. t.items) text)))

      -- since memory is refused
      pub stopped_refused : MeetsMemory here.parser → next ≡ here
          → WroteEvents before array (slice_set array' count c) room (put_mid used (length room' - used) room' part) count 2 next
      stopped_refused meets still = stopped_there 2 (rw still (stopped 2 here (λ events counted inside. refused meets)))

    module _ (c : CEvent) (next : ParserAndText) (part : List ℕ) (inside : count < length array)
        (took : TookWithBytes here c (mid_of used (length room' - used) room') part next) where
      -- one more event
      pub one_more_wrote : c.text_len ≤ length room' - used
          → WroteWhole before array room (count + 1) (used + c.text_len) (slice_set array' count c) (put_mid used (length room' - used) room' part) next
      one_more_wrote few =
          let (events, taken, whole) = wrote in
          let (event, step, is, text, copy) = took in
          let written = one_more_written events count used array array' room room' event c part whole inside is copy in (
            events ++ event ∷ [],
            one_more_taken before here next events event taken step text,
            one_more_whole events count used array array' room room' event c _ _ whole written is few,
          )

      -- the same of an event that brings no bytes
      pub one_more_empty : c.text_len ≤ 0
          → WroteWhole before array room (count + 1) used (slice_set array' count c) (put_mid used (length room' - used) room' part) next
      one_more_empty none =
          let len : used + c.text_len ≡ used = omega (arith, none) in
          subst (λ n. WroteWhole before array room (count + 1) n (slice_set array' count c) (put_mid used (length room' - used) room' part) next)
          len (one_more_wrote (omega (arith, none)))

      -- the last event, whose bytes are cut off
      pub last_wrote : length room' - used < c.text_len
          → WroteEvents before array (slice_set array' count c) room (put_mid used (length room' - used) room' part) (count + 1) 0 next
      last_wrote many =
          let (events, taken, whole) = wrote in
          let (event, step, is, text, copy) = took in (
            events ++ event ∷ [],
            next,
            one_more_taken before here next events event taken step text,
            one_more_counted events event count whole.counted,
            one_more_written events count used array array' room room' event c part whole inside is copy,
            full (inr (many_bytes events count used array array' room room' event c whole is many)),
          )

-- one event more, which brings no bytes
pub one_more_bare : (here next : ParserAndText) (count : ℕ) (array' : List CEvent) (c : CEvent) → count < length array'
    → Took here c next → c.text_len ≡ 0 → WritesOn here count array' next (count + 1) (slice_set array' count c)
one_more_bare here next count array' c inside took none = λ before array room room' used wrote.
    let part = mid_of used (length room' - used) room' in
    let within : count < length array = omega (arith, inside, array_len wrote.0 count used array array' room room' wrote.2) in
    let more = one_more_empty before array room count used array' room' here wrote c next part within
    (no_bytes_copied here next c part took (omega (arith, none))) (omega (arith, none)) in
    subst (λ r. WroteWhole before array room (count + 1) used (slice_set array' count c) r next) (put_back used room') more

-- no event more
pub none_more : (here next : ParserAndText) (count : ℕ) (array' : List CEvent) (c d : CEvent) → next ≡ here → c ≡ get_or array' count d
    → WritesOn here count array' next count (slice_set array' count c)
none_more here next count array' c d same kept = λ before array room room' used wrote. rw (same, unset array' count c d kept) wrote

-- events behind others
pub written_on : (here between next : ParserAndText) (count count' count'' : ℕ) (array array' array'' : List CEvent)
    → WritesOn here count array between count' array' → WritesOn between count' array' next count'' array''
    → WritesOn here count array next count'' array''
written_on here between next count count' count'' array array' array'' one more = λ before all room room' used wrote.
    more before all room room' used (one before all room room' used wrote)
