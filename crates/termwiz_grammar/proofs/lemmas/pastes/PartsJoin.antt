-- What is decided of an open paste may be taken before more comes.
use Rattle.std.proofs.Common.{◌≡◌, ⊎_elim, ℕ, Bool, List, [], ◌∷◌, ◌++◌, refl, sym, ap, ◌∙◌, subst}
use Rattle.std.specs.Str.Lossy.{utf8_lossy}
use Rattle.std.proofs.lemmas.List.{append_cancel_left}
use Rattle.termwiz_keymap.specs.Bytes.{Begins, Occurs}
use Rattle.termwiz_keys.specs.Introducers.{START, END}
use Rattle.termwiz_keys.specs.declared.types.InputEvent.{InputEvent}
use Rattle.termwiz_keys.specs.declared.types.InputEvent.TheVariants.{Paste}
use Rattle.termwiz_grammar.specs.Sequences.{IsSequence}
use Rattle.termwiz_grammar.specs.Sequences.Meaning.{Row}
use Rattle.termwiz_grammar.specs.Grammar.{EndsFirst, IsOpen, IsUnfinishedSequence, IsUnfinishedCharacter, Means, Stands, Steps}
use Rattle.termwiz_grammar.specs.Grammar.Item.{paste}
use Rattle.termwiz_grammar.specs.PasteParts.{JoinsAtEnd, PartsJoin, StayOpen}
use Rattle.termwiz_keymap.proofs.lemmas.lists.CommonPrefixes.{append-some}
use Rattle.termwiz_grammar.proofs.lemmas.table.SequenceFacts.{start, start_is_sequence, start_ends}
use Rattle.termwiz_grammar.proofs.lemmas.characters.CharacterPrefixes.{sequence_finished}
use Rattle.termwiz_grammar.proofs.lemmas.items.OneItem.{item_once, start_head}
use Rattle.termwiz_grammar.proofs.lemmas.waiting.RestShape.{endless_rests, one_meaning}
use Rattle.termwiz_grammar.proofs.lemmas.pastes.HeldBytes.{ComesAfter, comes_after, no_end_left}

-- a text that START begins isn't open
pub start_closed : (s : List ℕ) (f : Bool) → Begins START s → IsOpen s f → ⊥
start_closed s f (rest, e) opens = ⊎_elim
    (λ (h : IsUnfinishedSequence s). append-some rest h.tail h.longer
    (start_ends (rest ++ h.tail) h.meaning (subst (λ x. IsSequence (x ++ h.tail) h.meaning) e h.is_sequence)))
    (λ (h : IsUnfinishedCharacter s). sequence_finished START s (Row start) start_is_sequence (rest, e)
    (λ none. cc (none, e)) h)
    opens.beginning

-- a paste with its end stands
pub paste_stands : (body rest : List ℕ) (f : Bool) → EndsFirst body
    → Stands (START ++ (body ++ END ++ rest)) f (START ++ body ++ END) (Paste (utf8_lossy body))
paste_stands body rest f first = record {
  closed = start_closed (START ++ (body ++ END ++ rest)) f (body ++ END ++ rest, refl);
  item = paste body (rest, refl) first;
}

paste_then : (body rest W : List ℕ) (E : List InputEvent) (f : Bool) → EndsFirst body → Means rest f E W
    → Means (START ++ (body ++ END ++ rest)) f (Paste (utf8_lossy body) ∷ E) W
paste_then body rest W E f first means = record {
  steps = (START ++ body ++ END, rest, paste_stands body rest f first, refl, means.steps);
  rest = means.rest;
}

-- and is the first event
paste_first : (body rest W : List ℕ) (e : InputEvent) (E : List InputEvent) (f : Bool) → EndsFirst body
    → Means (START ++ (body ++ END ++ rest)) f (e ∷ E) W → (e ≡ Paste (utf8_lossy body)) × Means rest f E W
paste_first body rest W e E f first means = go means.steps
  where
    go : (bytes left : List ℕ) × Stands (START ++ (body ++ END ++ rest)) f bytes e × (START ++ (body ++ END ++ rest) ≡ bytes ++ left)
        × Steps left f E W → (e ≡ Paste (utf8_lossy body)) × Means rest f E W
    go (bytes, left, stands, splits, steps) =
        let one = item_once (START ++ (body ++ END ++ rest)) f bytes (START ++ body ++ END) e (Paste (utf8_lossy body)) stands.item
        (paste_stands body rest f first).item in
        let same : left ≡ rest = append_cancel_left (START ++ body ++ END) left rest
        (ap (λ x. x ++ left) (sym one.0) ∙ sym splits) in
        (one.1, record { steps = subst (λ x. Steps x f E W) same steps; rest = means.rest })

-- nothing stands at an open paste
open_means : (body : List ℕ) (f : Bool) → ¬ Occurs END body → Means (START ++ body) f [] (START ++ body)
open_means body f free = record {
  steps = refl;
  rest = endless_rests (START ++ body) f start (start_head (START ++ body) (body, refl)) body refl free;
}

pub parts_join : PartsJoin
parts_join u decided held c f parted =
    (λ there. at_end (comes_after decided held c parted.endless parted.is_held there), λ free. none free)
  where
    whole : u ++ c ≡ START ++ (decided ++ held ++ c)
    whole = ap (λ x. x ++ c) parted.splits

    none : ¬ Occurs END (decided ++ held ++ c) → StayOpen (u ++ c) (START ++ held ++ c) f
    none free = record {
      whole_waits = subst (λ x. Means x f [] x) (sym whole) (open_means (decided ++ held ++ c) f free);
      left_waits = open_means (held ++ c) f (no_end_left decided held c free);
      whole_open = record { body = decided ++ held ++ c; splits = whole; endless = free };
      left_open = record { body = held ++ c; splits = refl; endless = no_end_left decided held c free };
    }

    at_end : ComesAfter decided held c → JoinsAtEnd (u ++ c) (START ++ held ++ c) (utf8_lossy decided) f
    at_end at = (λ s E R. (forth s E R, back s E R), some)
      where
        here : u ++ c ≡ START ++ (decided ++ at.inner ++ END ++ at.rest)
        here = whole ∙ ap (λ x. START ++ x) at.whole_splits

        left : START ++ held ++ c ≡ START ++ (at.inner ++ END ++ at.rest)
        left = ap (λ x. START ++ x) at.left_splits

        then : (R : List ℕ) (E : List InputEvent) → Means at.rest f E R
            → Means (START ++ held ++ c) f (Paste (utf8_lossy at.inner) ∷ E) R
        then R E means = subst (λ x. Means x f (Paste (utf8_lossy at.inner) ∷ E) R) (sym left)
            (paste_then at.inner at.rest R E f at.left_first means)

        forth : (s : List ℕ) (E : List InputEvent) (R : List ℕ) → Means (u ++ c) f (Paste s ∷ E) R
            → (later : List ℕ) × (s ≡ utf8_lossy decided ++ later) × Means (START ++ held ++ c) f (Paste later ∷ E) R
        forth s E R means =
            let got = paste_first (decided ++ at.inner) at.rest R (Paste s) E f at.whole_first
            (subst (λ x. Means x f (Paste s ∷ E) R) here means) in
            let text : s ≡ utf8_lossy (decided ++ at.inner) = cc (got.0) in
            (utf8_lossy at.inner, text ∙ at.text, then R E got.1)

        back : (s : List ℕ) (E : List InputEvent) (R : List ℕ)
            → ((later : List ℕ) × (s ≡ utf8_lossy decided ++ later) × Means (START ++ held ++ c) f (Paste later ∷ E) R)
            → Means (u ++ c) f (Paste s ∷ E) R
        back s E R (later, text, means) =
            let got = paste_first at.inner at.rest R (Paste later) E f at.left_first
            (subst (λ x. Means x f (Paste later ∷ E) R) left means) in
            let same : later ≡ utf8_lossy at.inner = cc (got.0) in
            let all : s ≡ utf8_lossy (decided ++ at.inner) = text ∙ ap (λ x. utf8_lossy decided ++ x) same ∙ sym at.text in
            subst (λ x. Means x f (Paste s ∷ E) R) (sym here)
            (subst (λ x. Means (START ++ (decided ++ at.inner ++ END ++ at.rest)) f (Paste x ∷ E) R) (sym all)
            (paste_then (decided ++ at.inner) at.rest R E f at.whole_first got.1))

        some : (later : List ℕ) × (E : List InputEvent) × (R : List ℕ) × Means (START ++ held ++ c) f (Paste later ∷ E) R
        some = (let m = one_meaning at.rest f in (utf8_lossy at.inner, m.0, m.1, then m.1 m.0 m.2))
