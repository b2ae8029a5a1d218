-- A paste is one event, alone and in a stream.
use Rattle.std.proofs.Common.{◌≡◌, ℕ, Bool, true, false, List, [], ◌∷◌, ◌++◌, refl, sym, subst, append_assoc, append-nil}
use Rattle.termwiz_keys.specs.declared.types.InputEvent.{InputEvent}
use Rattle.termwiz_keys.specs.declared.types.InputEvent.TheVariants.{Key}
use Rattle.termwiz_keymap.specs.Bytes.{Occurs}
use Rattle.termwiz_keys.specs.Introducers.{ESC, START, END}
use Rattle.termwiz_keys.specs.Keys.{escape}
use Rattle.termwiz_grammar.specs.Grammar.{EndsFirst, Stands, Steps, Means}
use Rattle.termwiz_grammar.specs.Grammar.Item.{paste}
use Rattle.termwiz_grammar.proofs.lemmas.cuts.ChunkInvariance.{steps_join, cut_independent}
use Rattle.termwiz_grammar.proofs.lemmas.waiting.RestShape.{empty_is_rest}
use Rattle.termwiz_grammar.proofs.lemmas.waiting.RestKinds.{alone}
use Rattle.termwiz_laws.specs.PasteEvents.{pasted, paste_of, PasteAlone, PasteAfterEscape, PasteInStream, PasteInOpenPaste, PasteAfterNothing, PasteAfterHeldEscape}
use Rattle.termwiz_laws.proofs.lemmas.paste_events.NoBorder.{free_of_end, end_in_one, end_after_start}
use Rattle.termwiz_laws.proofs.lemmas.paste_events.FlushedByStart.{start_closed, steps_before}

stands_at_front : (body S : List ℕ) (f : Bool) → EndsFirst body
    → Stands (pasted body ++ S) f (pasted body) (paste_of body)
stands_at_front body S f first = record {
  closed = start_closed (pasted body ++ S) f (body ++ END ++ S, refl);
  item = paste body (S, refl) first;
}

-- a paste before S
paste_then : (body S W : List ℕ) (D : List InputEvent) (f : Bool) → EndsFirst body → Means S f D W
    → Means (pasted body ++ S) f (paste_of body ∷ D) W
paste_then body S W D f first m = record {
  steps = (pasted body, S, stands_at_front body S f first, refl, m.steps);
  rest = m.rest;
}

nothing_means : (f : Bool) → Means [] f [] []
nothing_means f = record { steps = refl; rest = empty_is_rest f }

pub paste_alone : PasteAlone
paste_alone body f first = subst (λ x. Means x f (paste_of body ∷ []) []) (append-nil (pasted body))
    (paste_then body [] [] [] f first (nothing_means f))

pub paste_in_stream : PasteInStream
paste_in_stream T body S W E D f first before after =
    let then = paste_then body S W D f first after in
    subst (λ x. Means x f (E ++ paste_of body ∷ D) W) (sym (append_assoc T (pasted body) S)) (record {
      steps = steps_join E (paste_of body ∷ D) (T ++ (pasted body ++ S)) (pasted body ++ S) W f
          (steps_before E T (pasted body ++ S) [] f (body ++ END ++ S, refl) before.steps) then.steps;
      rest = then.rest;
    })

-- the text of a paste with a START in it
with_start : (text body : List ℕ) → (Occurs END text → ⊥) → EndsFirst body → EndsFirst (text ++ START ++ body)
with_start text body free first =
    (free_of_end (text ++ START ++ body)).1
    (subst (λ x. Occurs END x → ⊥) (sym (append_assoc text START body))
    (end_in_one text (91 ∷ 50 ∷ 48 ∷ 48 ∷ 126 ∷ body) free (end_after_start body ((free_of_end body).0 first))))

pub paste_in_open_paste : PasteInOpenPaste
paste_in_open_paste T text body S W E D f free first before after =
    let inner : List ℕ = text ++ START ++ body in
    let then = paste_then inner S W D f (with_start text body free first) after in
    let same : pasted inner ++ S ≡ (START ++ text) ++ (pasted body ++ S) = simp append_assoc in
    let steps = steps_before E T (pasted body ++ S) (START ++ text) f (body ++ END ++ S, refl) before.steps in
    subst (λ x. Means x f (E ++ paste_of inner ∷ D) W) (sym (append_assoc T (pasted body) S)) (record {
      steps = steps_join E (paste_of inner ∷ D) (T ++ (pasted body ++ S)) ((START ++ text) ++ (pasted body ++ S)) W f steps
          (subst (λ x. Steps x f (paste_of inner ∷ D) W) same then.steps);
      rest = then.rest;
    })

pub paste_after_escape : PasteAfterEscape
paste_after_escape body f first = subst (λ x. Means x f (Key escape ∷ paste_of body ∷ []) []) (append-nil (ESC ++ pasted body))
    (paste_in_stream ESC body [] [] (Key escape ∷ []) [] f first alone (nothing_means f))

-- a flush after the reading of T
flushed_after : (T V W : List ℕ) (E D : List InputEvent) → Means T true E V → Means V false D W → Means T false (E ++ D) W
flushed_after T V W E D h k = subst (λ x. Means x false (E ++ D) W) (append-nil T)
    (cut_independent T [] V W E D false h (subst (λ x. Means x false D W) (sym (append-nil V)) k))

pub paste_after_nothing : PasteAfterNothing
paste_after_nothing T body S W E D f first before after =
    paste_in_stream T body S W E D f first
    (subst (λ x. Means T false x []) (append-nil E) (flushed_after T [] [] E [] before (nothing_means false))) after

pub paste_after_held_escape : PasteAfterHeldEscape
paste_after_held_escape T body S W E D f first before after =
    subst (λ x. Means (T ++ pasted body ++ S) f x W) (append_assoc E (Key escape ∷ []) (paste_of body ∷ D))
    (paste_in_stream T body S W (E ++ Key escape ∷ []) D f first
    (flushed_after T ESC [] E (Key escape ∷ []) before alone) after)
