-- Calls of a callback, one after another: a text's events are given one by one.
use Rattle.std.proofs.Common.{◌≡◌, ◌∙◌, ℕ, Bool, List, [], ◌∷◌, ◌++◌, refl, sym, ap, subst}
use Rattle.std.specs.Fn.{Mut}
use denote.Param.Members.{Called}
use Rattle.termwiz_extended_events.specs.declared.types.Event.{Event}
use Rattle.termwiz_extended_events.specs.declared.types.Reading.{Reading}
use Rattle.termwiz_extended_grammar.specs.ExtendedGrammar.{Steps}
use Rattle.termwiz_extended_grammar.specs.Readings.{after_event, after_events}
use Rattle.termwiz_extended_grammar.proofs.lemmas.cuts.ExtendedCuts.{after_both, join_steps}
use Rattle.termwiz_input.proofs.lemmas.pieces.CallSequence.{FoldsTo-append}
use Rattle.termwiz_input_extended.specs.Buffered.{Buffered}
use Rattle.termwiz_input_extended.specs.EventCallbacks.{MayBeCalledOn, WasCalledOn}

module _ {F : Type 0} (g : Mut F (Event × Unit {0}) (Unit {0})) (more : Bool) where
  -- the callback was called on the events between two states of a parser
  abbrev pub WasGiven : Buffered → F → Buffered → F → Type 0
  WasGiven start first here now = (events : List Event) × Steps start.reading start.text more events here.text
      × (here.reading ≡ after_events start.reading events)
      × WasCalledOn (λ before event done after. Called g before (event, done) tt after) first events now

  -- the callback may be called on all events of a text
  abbrev pub MayBeGiven : Buffered → F → Type 0
  MayBeGiven here now = (events : List Event) (rest : List ℕ) → Steps here.reading here.text more events rest
      → MayBeCalledOn g now events

  pub given_one_more : (start : Buffered) (first : F) (here : Buffered) (now : F) (event : Event) (left : Buffered) (next : F)
      → WasGiven start first here now → Steps here.reading here.text more (event ∷ []) left.text
      → left.reading ≡ after_event here.reading event → Called g now (event, tt) tt next → WasGiven start first left next
  given_one_more start first here now event left next (events, steps, read, calls) step reading called = (
    events ++ event ∷ [],
    join_steps start.reading events (event ∷ []) start.text here.text left.text more steps
        (subst (λ (r : Reading). Steps r here.text more (event ∷ []) left.text) read step),
    reading ∙ ap (λ (r : Reading). after_event r event) read ∙ sym (after_both start.reading events (event ∷ [])),
    FoldsTo-append _ first events now (event ∷ []) next calls (next, called, refl),
  )

  pub may_give_more : (here : Buffered) (now : F) (event : Event) (left : Buffered) (next : F)
      → MayBeGiven here now → Steps here.reading here.text more (event ∷ []) left.text
      → left.reading ≡ after_event here.reading event → Called g now (event, tt) tt next → MayBeGiven left next
  may_give_more here now event left next may step reading called events rest steps =
      (may (event ∷ events) rest (join_steps here.reading (event ∷ []) events here.text left.text rest more step
      (subst (λ (r : Reading). Steps r left.text more events rest) reading steps))).1 tt next called
