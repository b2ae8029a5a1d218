-- Reads in turn are one text.
use Rattle.std.proofs.Common.{◌≡◌, ℕ, Bool, true, List, [], ◌∷◌, ◌++◌, refl, sym, ap, ◌∙◌, subst, append_assoc, append-nil}
use Rattle.termwiz_keys.specs.declared.types.InputEvent.{InputEvent}
use Rattle.termwiz_grammar.specs.Grammar.{Means}
use Rattle.termwiz_grammar.specs.Pauses.{joined}
use Rattle.termwiz_grammar.specs.Streams.{ReadInTurn}
use Rattle.termwiz_grammar.proofs.lemmas.cuts.ChunkInvariance.{cut_independent}
use Rattle.termwiz_grammar.proofs.lemmas.items.OneItem.{read_of, steps_once}
use Rattle.termwiz_grammar.proofs.lemmas.waiting.RestShape.{one_meaning}
use Rattle.termwiz_laws.specs.ManyReads.{reads_of, ReadsAreOneText}

pub means_whole : (parts : List (List ℕ)) (before last W : List ℕ) (E : List InputEvent) (f : Bool)
    → ReadInTurn Means before (reads_of parts last f) E W → Means (before ++ joined parts ++ last) f E W
means_whole [] before last W E f (first, later, between, is, means, (none, same)) =
    let events : E ≡ first = is ∙ ap (λ x. first ++ x) none ∙ append-nil first in
    subst (λ x. Means (x ++ last) f E W) (sym (append-nil before))
    (subst (λ x. Means (before ++ last) f x W) (sym events)
    (subst (λ x. Means (before ++ last) f first x) same means))
means_whole (part ∷ parts) before last W E f (first, later, between, is, means, rest) =
    let then = subst (λ x. Means x f later W) (append_assoc between (joined parts) last)
    (means_whole parts between last W later f rest) in
    let whole = cut_independent (before ++ part) (joined parts ++ last) between W first later f means then in
    let same : (before ++ part) ++ (joined parts ++ last) ≡ before ++ (part ++ joined parts) ++ last =
    simp append_assoc in
    subst (λ x. Means x f E W) same
    (subst (λ x. Means ((before ++ part) ++ (joined parts ++ last)) f x W) (sym is) whole)

-- each read means something
some_reading : (parts : List (List ℕ)) (before last : List ℕ) (f : Bool)
    → (E : List InputEvent) × (W : List ℕ) × ReadInTurn Means before (reads_of parts last f) E W
some_reading [] before last f =
    let m = one_meaning (before ++ last) f in
    (m.0, m.1, (m.0, [], m.1, sym (append-nil m.0), m.2, (refl, refl)))
some_reading (part ∷ parts) before last f =
    let m = one_meaning (before ++ part) true in
    let r = some_reading parts m.1 last f in
    (m.0 ++ r.0, r.1, (m.0, r.0, m.1, refl, m.2, r.2))

pub reads_are_one_text : ReadsAreOneText
reads_are_one_text parts before last W E f = (
  λ h. means_whole parts before last W E f h,
  λ h.
      let r = some_reading parts before last f in
      let once = steps_once E r.0 (before ++ joined parts ++ last) W r.1 f (read_of h)
      (read_of (means_whole parts before last r.1 r.0 f r.2)) in
      subst (λ x. ReadInTurn Means before (reads_of parts last f) x W) (sym once.0)
      (subst (λ x. ReadInTurn Means before (reads_of parts last f) r.0 x) (sym once.1) r.2),
)
