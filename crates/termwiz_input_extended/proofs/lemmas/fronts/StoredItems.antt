-- What a call answers that moves the event of the item at the front to a list.
use Rattle.std.proofs.Common.{◌≡◌, ◌∙◌, Bool, true, List, [], ◌∷◌, ◌++◌, sym, ap, subst, arith, Ok}
use Rattle.termwiz_extended_events.specs.declared.types.Event.{Event}
use Rattle.termwiz_extended_events.specs.declared.types.Reading.{Reading}
use Rattle.termwiz_extended_grammar.specs.ExtendedGrammar.{Steps}
use Rattle.termwiz_extended_grammar.specs.Readings.{after_event, after_events}
use Rattle.termwiz_extended_grammar.proofs.lemmas.cuts.ExtendedCuts.{after_both, few_events, join_steps}
use Rattle.termwiz_input_extended.specs.Buffered.{Buffered}
use Rattle.termwiz_input_extended.specs.NextItems.{Stores}

module _ {F : Type 0} (old new : Buffered) (more : Bool) (before after : List Event) where
  pub stores_event : (event : Event) → Steps old.reading old.text more (event ∷ []) new.text
      → new.reading ≡ after_event old.reading event → after ≡ before ++ event ∷ [] → Stores {F = F} old more before new after (Ok true)
  stores_event event step reading is = record {
    stored = λ first text steps read. (
      subst (λ l. Steps first text more l new.text) (sym is)
          (join_steps first before (event ∷ []) text old.text new.text more steps
          (subst (λ (r : Reading). Steps r old.text more (event ∷ []) new.text) read step)),
      reading ∙ ap (λ (r : Reading). after_event r event) read ∙ sym (after_both first before (event ∷ []))
          ∙ ap (after_events first) (sym is),
    );
    fewer = λ found. omega (arith, few_events old.reading old.text new.text (event ∷ []) more step);
    rest = λ found. absurd (cc (found));
    refused = tt;
  }
