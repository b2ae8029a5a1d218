-- Calls of a callback, one after another, and the numbers of their events.
use Rattle.std.proofs.Common.{◌≡◌, ◌∙◌, ℕ, Bool, List, [], ◌∷◌, ◌++◌, refl, sym, subst, Bor, MutBor}
use Rattle.std.specs.List.{FoldsTo}
use Rattle.std.specs.Fn.{Mut}
use denote.Param.Members.{Called}
use Rattle.termwiz_keys.specs.declared.types.InputEvent.{InputEvent}
use Rattle.termwiz_grammar.specs.Grammar.{Steps}
use Rattle.termwiz_input.specs.Pieces.{NumberedEvent, numbered}
use Rattle.termwiz_input.specs.Callbacks.{MayBeCalledOn, MayBeCalledOnNumbered, WasCalledOn, WasCalledOnNumbered}
use Rattle.termwiz_grammar.proofs.lemmas.cuts.ChunkInvariance.{steps_join}

module _ {P A : Type 0} (R : P → A → P → Type 0) where
  -- runs one after another
  pub FoldsTo-append : (a : P) (xs : List A) (b : P) (ys : List A) (c : P) → FoldsTo R a xs b → FoldsTo R b ys c
      → FoldsTo R a (xs ++ ys) c
  FoldsTo-append a [] b ys c h k = let Q : P → Type 0 = λ v. FoldsTo R v ys c in subst Q (sym h) k
  FoldsTo-append a (x ∷ xs) b ys c h k = (h.0, h.1, FoldsTo-append h.0 xs b ys c h.2 k)

-- what may be called on a list may, after its first part, be called on the rest
module _ {F : Type 0} (g : Mut F (ℕ × (InputEvent × Unit {0})) (Unit {0})) where
  pub may_go_on : (first : F) (xs ys : List NumberedEvent) (now : F) → MayBeCalledOnNumbered g first (xs ++ ys)
      → FoldsTo (λ before event after. Called g before (event.0, (event.1, tt)) tt after) first xs now
      → MayBeCalledOnNumbered g now ys
  may_go_on first [] ys now may is = subst (λ f. MayBeCalledOnNumbered g f ys) is may
  may_go_on first (x ∷ xs) ys now may (next, called, later) = may_go_on next xs ys now (may.1 tt next called) later

-- a text's events are given one by one
module _ {F : Type 0} (g : Mut F (InputEvent × Unit {0}) (Unit {0})) (more : Bool) where
  -- the callback was called on the events from one text to another
  abbrev pub WasGiven : List ℕ → F → List ℕ → F → Type 0
  WasGiven T first U now = (events : List InputEvent) × Steps T more events U
      × WasCalledOn (λ before event done after. Called g before (event, done) tt after) first events now

  -- the callback may be called on all events of a text
  abbrev pub MayBeGiven : List ℕ → F → Type 0
  MayBeGiven U now = (events : List InputEvent) (rest : List ℕ) → Steps U more events rest → MayBeCalledOn g now events

  pub given_one_more : (T : List ℕ) (first : F) (U : List ℕ) (now : F) (event : InputEvent) (V : List ℕ) (next : F)
      → WasGiven T first U now → Steps U more (event ∷ []) V → Called g now (event, tt) tt next
      → WasGiven T first V next
  given_one_more T first U now event V next (events, steps, calls) step called = (
    events ++ event ∷ [],
    steps_join events (event ∷ []) T U V more steps step,
    FoldsTo-append _ first events now (event ∷ []) next calls (next, called, refl),
  )

  pub may_give_more : (U : List ℕ) (now : F) (event : InputEvent) (V : List ℕ) (next : F)
      → MayBeGiven U now → Steps U more (event ∷ []) V → Called g now (event, tt) tt next → MayBeGiven V next
  may_give_more U now event V next may step called events rest steps =
      (may (event ∷ events) rest (steps_join (event ∷ []) events U V rest more step steps)).1 tt next called

-- a callback that passes each event on with a number: it holds references to the callback that gets them, and to the number
module _ {F : Type 0} (f : Mut F (ℕ × (InputEvent × Unit {0})) (Unit {0}))
    (g : Mut (MutBor F × Bor ℕ) (InputEvent × Unit {0}) (Unit {0})) where
  -- it may be called where that callback may
  abbrev pub MayPassOn : Type 0
  MayPassOn = (s : MutBor F × Bor ℕ) (event : InputEvent) → f.pre s.0.now (s.1.now, (event, tt)) → g.pre s (event, tt)

  -- a call of it is one of that callback, and changes neither the number nor where the reference leads
  abbrev pub PassesOn : Type 0
  PassesOn = (s : MutBor F × Bor ℕ) (event : InputEvent) (t : MutBor F × Bor ℕ) → Called g s (event, tt) tt t
      → Called f s.0.now (s.1.now, (event, tt)) tt t.0.now × (s.1.now ≡ t.1.now) × (s.0.ghost_name ≡ t.0.ghost_name)

  pub may_pass_on : MayPassOn → PassesOn → (s : MutBor F × Bor ℕ) (events : List InputEvent)
      → MayBeCalledOnNumbered f s.0.now (numbered s.1.now events) → MayBeCalledOn g s events
  may_pass_on asks calls s [] may = tt
  may_pass_on asks calls s (event ∷ events) may = (
    asks s event may.0,
    λ done t called. let passed = calls s event t called in
        may_pass_on asks calls t events
        (subst (λ n. MayBeCalledOnNumbered f t.0.now (numbered n events)) passed.1 (may.1 tt t.0.now passed.0)),
  )

  pub passed_on : PassesOn → (s : MutBor F × Bor ℕ) (events : List InputEvent) (last : MutBor F × Bor ℕ)
      → WasCalledOn (λ before event done after. Called g before (event, done) tt after) s events last
      → WasCalledOnNumbered (λ before n event done after. Called f before (n, (event, done)) tt after) s.0.now
      (numbered s.1.now events) last.0.now
      × (s.0.ghost_name ≡ last.0.ghost_name)
  passed_on calls s [] last is =
      let Q : MutBor F × Bor ℕ → Type 0 = λ t. (s.0.now ≡ t.0.now) × (s.0.ghost_name ≡ t.0.ghost_name) in
      subst Q is (refl, refl)
  passed_on calls s (event ∷ events) last (t, called, later) =
      let passed = calls s event t called in
      let rest = passed_on calls t events last later in (
        (
          t.0.now,
          passed.0,
          subst (λ n. WasCalledOnNumbered (λ before n event done after. Called f before (n, (event, done)) tt after)
              t.0.now (numbered n events) last.0.now) (sym passed.1) rest.0,
        ),
        passed.2 ∙ rest.1,
      )
