-- What is left if no item is there.
use Rattle.std.proofs.Common.{◌≡◌, ◌⊎◌, Bool, false, [], ap, subst, sym, Result, Ok}
use Rattle.termwiz_keymap.specs.Bytes.{Begins}
use Rattle.termwiz_keys.specs.Introducers.{START}
use Rattle.termwiz_extended_events.specs.declared.types.Event.{Event}
use Rattle.termwiz_extended_grammar.specs.ExtendedLaws.{Waits}
use Rattle.termwiz_extended_grammar.proofs.lemmas.items.ExtendedRests.{waiting_shape}
use Rattle.termwiz_extended_grammar.proofs.lemmas.waiting.FlushesLeave.{rest_flushed}
use Rattle.termwiz_input_extended.specs.Buffered.{Buffered}
use Rattle.termwiz_input_extended.specs.NextItems.{Emits}

module _ {S F : Type 0} (takes : S → Event → S → Type 0) (old new : Buffered) (before after : S) (more : Bool) (result : Result Bool F)
    (emits : Emits takes old before more new after result) where
  pub left_waits : result ≡ Ok false → Waits new.reading new.text more
  left_waits none = subst (λ (b : Buffered). Waits b.reading b.text more) (sym (emits.none_same none))
      (waiting_shape old.reading old.text more (emits.none none))

  pub left_flushed : more ≡ false → result ≡ Ok false → (new.text ≡ []) ⊎ Begins START new.text
  left_flushed last none = subst (λ t. (t ≡ []) ⊎ Begins START t)
      (sym (ap (λ (b : Buffered). b.text) (emits.none_same none))) (rest_flushed old.reading old.text more (emits.none none) last)
