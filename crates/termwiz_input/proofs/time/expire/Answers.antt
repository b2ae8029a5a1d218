use Rattle.std.proofs.Common.{◌≡◌, ◌∷◌, ◌∙◌, [], List, ℕ, true, false, sym, refl, subst}
use Rattle.termwiz_keys.specs.declared.types.InputEvent.{InputEvent as Event}
use Rattle.termwiz_grammar.specs.Grammar.{Means, Steps}
use Rattle.termwiz_grammar.specs.WaitingKinds.{IsOpenPaste}
use Rattle.termwiz_input.specs.Callbacks.{WasCalledOn}
use Rattle.termwiz_input.specs.Expiry.{Flushes}
use Rattle.termwiz_input.specs.Expiry.Flushes.{ends_paste, reads_all}
use Rattle.termwiz_input.specs.PasteSearch.{IsPasteSoFar}
use Rattle.termwiz_input.proofs.lemmas.time.ExpirySteps.{OnErr-of_any, stays_noted, flushed_noted, refused_noted}
use Rattle.termwiz_input.proofs.time.expire.Goals as goal
use Rattle.termwiz_input.proofs.time.expire.Goals.{in-Some, in-None+in_ok-for_each_event-in-None}

pub returns-then-not-is_due-clause-ok : goal.returns-then-not-is_due-clause-ok
returns-then-not-is_due-clause-ok g c = (
  true,
  [],
  stays_noted c.args.policy.now c.args.parser.now c.args.timer.now c.args.now c.seen_of.result c.note.new.self
      c.seen_of.ensures c.note.ensures c.is_due.result c.is_due.ensures c.if-not-is_due.true,
  refl,
)

pub returns-clause-ok : goal.returns-clause-ok
returns-clause-ok g c =
    let text : List ℕ = c.args.parser.now in
    let left : List ℕ = c.match-branch-2.parser in
    let expired = λ (events : List Event) (flush : Flushes text events left).
    flushed_noted c.args.policy.now text c.args.timer.now c.args.now c.seen_of.result c.note.new.self
    c.seen_of.ensures c.note.ensures c.is_due.result c.is_due.ensures
    c.seen_of-2.result c.note-2.new.self events left c.if-not-is_due.false flush c.seen_of-2.ensures c.note-2.ensures in
    elim c.match-branch-2.branch [
      | in-Some w ↦
          let event : Event = w.in-Some.event in
          let so_far : IsPasteSoFar text event = rw w.in-Some.is at c.in_ok-event.ensures.event in
          let nothing = rw w.in-Some.is at c.in_ok-event.ensures.nothing in
          let all : left ≡ [] = w.parser-is ∙ nothing in
          let P : List ℕ → Type 0 = λ u. Flushes text (event ∷ []) u in
          (false, event ∷ [], expired (event ∷ []) (subst P (sym all) (ends_paste event so_far)), (w.callback.new.self, w.callback.ensures, sym w.callback-is))
      | in-None+in_ok-for_each_event-in-None w ↦
          let no_paste : ¬ IsOpenPaste text = rw w.in-None.is at c.in_ok-event.ensures.none in
          let same : c.end_paste.new.self ≡ text = rw w.in-None.is at c.in_ok-event.ensures.none_same in
          let (events, means, calls) = w.in_ok-for_each_event-in-None.ensures.ok in
          let meaning : Means text false events left =
          subst (λ (u : List ℕ). Means text false events u) (sym w.parser-is)
          (subst (λ (u : List ℕ). Means u false events w.for_each_event.new.self) same means) in (
            false,
            events,
            expired events (reads_all events left no_paste meaning),
            subst (λ last. WasCalledOn (goal.F-step g) c.args.callback.now events last) (sym w.callback-is) calls,
          )
    ]

pub returns-in_err-for_each_event-in-None-clause-refused : goal.returns-in_err-for_each_event-in-None-clause-refused
returns-in_err-for_each_event-in-None-clause-refused g c =
    let text : List ℕ = c.args.parser.now in
    let same : c.end_paste.new.self ≡ text = rw c.in-None.is at c.in_ok-event.ensures.none_same in
    let (events, steps, calls) = c.in_err-for_each_event-in-None.ensures.refused in
    let steps_of_text : Steps text false events c.for_each_event.new.self =
    subst (λ (u : List ℕ). Steps u false events c.for_each_event.new.self) same steps in
    let given : (given : List Event) × Steps text false given c.for_each_event.new.self
    × WasCalledOn (goal.F-step g) c.args.callback.now given c.for_each_event.new.callback = (events, steps_of_text, calls) in
    OnErr-of_any _ given

pub returns-in_err-event-clause-refused_timer : goal.returns-in_err-event-clause-refused_timer
returns-in_err-event-clause-refused_timer g c =
    refused_noted _ c.args.policy.now c.args.parser.now c.args.timer.now c.args.now c.seen_of.result c.note.new.self c.seen_of.ensures
    c.note.ensures

pub returns-in_err-for_each_event-in-None-clause-refused_timer : goal.returns-in_err-for_each_event-in-None-clause-refused_timer
returns-in_err-for_each_event-in-None-clause-refused_timer g c =
    refused_noted _ c.args.policy.now c.args.parser.now c.args.timer.now c.args.now c.seen_of.result c.note.new.self c.seen_of.ensures
    c.note.ensures
