-- What stands at the front of the pending presses, and which of two presses is taken.
use Rattle.std.proofs.Common.{◌≡◌, inl, inr, ℕ, ◌≤◌, Bool, true, false, List, [], ◌∷◌, length, take, drop, Option, Some, None, refl, sym, ap, subst, length-take, length-take-le, take-append-drop, arith}
use Rattle.std.specs.Prelude.{MatchOption, unwrap_or}
use denote.Ref.{Bor}
use Rattle.termwiz_bindings.specs.declared.press.KeyPress.{KeyPress}
use Rattle.termwiz_bindings.specs.declared.matcher.Outcome.{Outcome}
use Rattle.termwiz_bindings.specs.declared.matcher.Outcome.TheVariants.{Bound, Unbound}
use Rattle.termwiz_bindings.specs.Matching.{Chords, BeginWithNone, HasLongest, IsContinued, IsOpen, Steps}
use Rattle.termwiz_bindings.specs.Matchers.{DecidesFirst, outcome_copied, keys_of, first_unbound, IsPreferred, TakesSecond, IsTaken}

module _ {V : Type 0} where
  never_open : (find : Chords V) (u : List KeyPress) → ¬ IsOpen find false u
  never_open find u h = let e : false ≡ true = h.more_come in absurd (cc (e))

  -- the longest chord is decided first
  pub chord_first : (find : Chords V) (u : List KeyPress) (keys : ℕ) (value : Bor V) → HasLongest find u keys value.now
      → DecidesFirst find u (Some (Bound keys value))
  chord_first find u keys value is = record {
    closed = never_open find u;
    some = λ none. let l : length u ≡ 0 = ap length none in absurd (omega (arith, is.some, is.within));
    item = (length-take-le keys u is.within, is.chord);
  }

  -- the first press is, where there is no chord
  pub press_first : (find : Chords V) (u : List KeyPress) (first : Option (Outcome (Bor V))) → first ≡ first_unbound u
      → BeginWithNone find u → DecidesFirst find u first
  press_first find u first is none = subst (DecidesFirst find u) (sym is) (decided u none)
    where
      decided : (u : List KeyPress) → BeginWithNone find u → DecidesFirst find u (first_unbound u)
      decided [] none = refl
      decided (x ∷ u) none = record {
        closed = never_open find (x ∷ u);
        some = λ e. cc (e);
        item = (refl, record { first = (u, refl); unbound = none });
      }

  -- its presses are among them
  pub decided_within : (find : Chords V) (u : List KeyPress) (o : Outcome (Bor V)) → DecidesFirst find u (Some o) → keys_of o ≤ length u
  decided_within find u (Bound keys value) first =
      let taken = length-take keys u in
      omega (arith, taken, first.item.0)
  decided_within find [] (Unbound press) first = absurd (first.some refl)
  decided_within find (x ∷ u) (Unbound press) first = omega arith

  -- what is decided first is a step where presses aren't open
  closed_step : (find : Chords V) (more : Bool) (u left : List KeyPress) (o : Outcome (Bor V)) → ¬ IsOpen find more u
      → DecidesFirst find u (Some o) → left ≡ drop (keys_of o) u → Steps find more u (outcome_copied o ∷ []) left
  closed_step find more u left o closed first is = (
    take (keys_of o) u,
    drop (keys_of o) u,
    record { closed = closed; some = first.some; item = first.item },
    sym (take-append-drop (keys_of o) u),
    sym is,
  )

  -- so it is if no more come, and where no chord goes on
  pub last_step : (find : Chords V) (more : Bool) (u left : List KeyPress) (o : Outcome (Bor V)) → more ≡ false
      → DecidesFirst find u (Some o) → left ≡ drop (keys_of o) u → Steps find more u (outcome_copied o ∷ []) left
  last_step find more u left o none = closed_step find more u left o (subst (λ m. ¬ IsOpen find m u) (sym none) (never_open find u))

  pub ended_step : (find : Chords V) (more : Bool) (u left : List KeyPress) (o : Outcome (Bor V)) → ¬ IsContinued find u
      → DecidesFirst find u (Some o) → left ≡ drop (keys_of o) u → Steps find more u (outcome_copied o ∷ []) left
  ended_step find more u left o ends = closed_step find more u left o (λ h. ends h.continued)

  -- what giving up decides first
  pub given_up_first : (find : Chords V) (u : List KeyPress) (r : Option (Outcome (Bor V))) → DecidesFirst find u r
      → MatchOption r (u ≡ []) (λ o. (left : List KeyPress) × Steps find false u (outcome_copied o ∷ []) left)
  given_up_first find u None none = none
  given_up_first find u (Some o) first =
      (drop (keys_of o) u, closed_step find false u (drop (keys_of o) u) o (never_open find u) first refl)

  -- which of two presses is taken where neither leads on behind the pending ones
  pub taken_of_none : (find : Chords V) (u : List KeyPress) (a b : KeyPress) (found : Option KeyPress)
      → IsPreferred find u a b None → IsPreferred find [] a b found → IsTaken find u a (Some b) (unwrap_or found a)
  taken_of_none find u a b None none other = inr (never, refl)
    where
      never : ¬ TakesSecond find u a b
      never (inl h) = none.1 h.second_leads
      never (inr h) = other.1 h.2.second_leads
  taken_of_none find u a b (Some chosen) none (inl (leads, is)) = inr (never, is)
    where
      never : ¬ TakesSecond find u a b
      never (inl h) = none.1 h.second_leads
      never (inr h) = h.2.first_ends leads
  taken_of_none find u a b (Some chosen) none (inr (ends, leads, is)) =
      inl (inr (none.0, none.1, record { first_ends = ends; second_leads = leads }), is)
