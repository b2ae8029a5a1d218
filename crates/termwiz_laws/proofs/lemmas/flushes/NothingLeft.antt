-- A flush leaves nothing of a text in which no paste begins.
use Rattle.std.proofs.Common.{◌≡◌, ◌≢◌, ◌∙◌, ⊎_elim, ℕ, Bool, false, List, [], ◌∷◌, ◌++◌, refl, sym, ap, subst, append_assoc}
use Rattle.std.specs.List.{AllByRecursion}
use Rattle.termwiz_keymap.specs.Bytes.{Begins}
use Rattle.termwiz_keymap.proofs.lemmas.lists.CommonPrefixes.{append-some_left, true_at_end}
use Rattle.termwiz_keys.specs.declared.types.InputEvent.{InputEvent}
use Rattle.termwiz_keys.specs.Introducers.{START}
use Rattle.termwiz_grammar.specs.Grammar.{Steps}
use Rattle.termwiz_grammar.proofs.lemmas.items.ItemStable.{item_some}
use Rattle.termwiz_grammar.proofs.lemmas.items.OneItem.{Read}
use Rattle.termwiz_grammar.proofs.lemmas.waiting.RestShape.{flushed}

-- what is left after steps ends the text
left_ends : (E : List InputEvent) (T W : List ℕ) (f : Bool) → Steps T f E W → (front : List ℕ) × (T ≡ front ++ W)
left_ends [] T W f h = ([], h)
left_ends (e ∷ E) T W f (bytes, rest, stands, splits, steps) =
    let p = left_ends E rest W f steps in
    (bytes ++ p.0, splits ∙ ap (λ x. bytes ++ x) p.1 ∙ sym (append_assoc bytes p.0 W))

-- START begins at no place in the text
abbrev pub HasNoStart : List ℕ → Type 0
HasNoStart T = (front W : List ℕ) → T ≡ front ++ W → Begins START W → ⊥

pub no_start_cons : (x : ℕ) (T : List ℕ) → (Begins START (x ∷ T) → ⊥) → HasNoStart T → HasNoStart (x ∷ T)
no_start_cons x T here after [] W e b = here (b.0, e ∙ b.1)
no_start_cons x T here after (y ∷ front) W e b = after front W (cc (e)) b

-- it begins nowhere among bytes of which none is ESC
pub no_start_among : (P : ℕ → Type 0) → (P 27 → ⊥) → (T : List ℕ) → AllByRecursion P T → HasNoStart T
no_start_among P no_escape T a front W e b =
    let rest : AllByRecursion P (START ++ b.0) =
    subst (AllByRecursion P) b.1 (true_at_end P front W (subst (AllByRecursion P) e a)) in
    no_escape rest.0

pub flush_leaves : (T W : List ℕ) (E : List InputEvent) → HasNoStart T → Read T false E W → W ≡ []
flush_leaves T W E none (steps, rest) =
    let end = left_ends E T W false steps in
    ⊎_elim
    (λ (e : W ≡ []). e)
    (λ (b : Begins START W). absurd (none end.0 W end.1 b))
    (flushed W rest)

-- so it gives an event
pub flush_gives : (T W : List ℕ) (E : List InputEvent) → T ≢ [] → HasNoStart T → Read T false E W → E ≢ []
flush_gives T W [] some none (h, rest) e = some (h ∙ flush_leaves T W [] none (h, rest))
flush_gives T W (x ∷ E) some none m e = cc (e)

pub nothing_steps : (E : List InputEvent) (W : List ℕ) (f : Bool) → Steps [] f E W → E ≡ []
nothing_steps [] W f h = refl
nothing_steps (e ∷ E) W f (bytes, rest, stands, splits, steps) =
    absurd (append-some_left bytes rest (item_some [] bytes e f stands.item) (sym splits))
