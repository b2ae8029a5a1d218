-- The calls of a callback that appends lines.
use Rattle.std.proofs.Common.{◌≡◌, ◌∙◌, ℕ, List, [], ◌∷◌, ◌++◌, Bool, false, map, sym, ap, append_assoc, append-nil}
use Rattle.std.specs.List.{FoldsTo}
use Rattle.termwiz_input.specs.InputEvent.{InputEvent}
use Rattle.keyshow.specs.Lines.{line, lines}
use Rattle.keyshow.specs.Callback.{AppendsLine}

-- calls that end without a refusal appended the lines of all the events
module _ {P : Type 0} (text : P → List ℕ) (refused : P → Bool) (S : P → ℕ × InputEvent → P → Type 0)
    (appends : (p : P) (x : ℕ × InputEvent) (q : P) → S p x q
    → AppendsLine (text p) (refused p) x.1 (text q) (refused q)) where
  pub appended : (a : P) (xs : List (ℕ × InputEvent)) (b : P) → FoldsTo S a xs b → refused b ≡ false
      → (refused a ≡ false) × (text b ≡ text a ++ lines (map (λ e. e.1) xs))
  appended a [] b h e = (ap refused h ∙ e, ap text (sym h) ∙ sym (append-nil (text a)))
  appended a (x ∷ xs) b h e =
      let rest = appended h.0 xs b h.2 e in
      let here = appends a x h.0 h.1 rest.0 in (
        here.0,
        rest.1 ∙ ap (λ l. l ++ lines (map (λ e. e.1) xs)) here.1
            ∙ append_assoc (text a) (line x.1) (lines (map (λ e. e.1) xs)),
      )

-- what each step keeps, all of them keep
pub kept : {P A X : Type 0} (view : P → X) (S : P → A → P → Type 0)
    → ((p : P) (x : A) (q : P) → S p x q → view q ≡ view p) → (a : P) (xs : List A) (b : P) → FoldsTo S a xs b
    → view b ≡ view a
kept view S keeps a [] b h = ap view (sym h)
kept view S keeps a (x ∷ xs) b h = kept view S keeps h.0 xs b h.2 ∙ keeps a x h.0 h.1
