-- The item of what is at the front of a text, and what is left if there is none.
use Rattle.std.proofs.Common.{◌≡◌, ℕ, Bool, List, [], ◌∷◌, ◌++◌, length-take-le, take, drop, sym, refl, arith, take-append-drop, Option, Some, None, Result, Ok, Err, IfOk, IfNone, IsErr, subst}
use Rattle.termwiz_keys.specs.declared.types.InputEvent.{InputEvent}
use Rattle.termwiz_grammar.specs.Grammar.{HasItem, Steps}
use Rattle.termwiz_grammar.specs.WaitingKinds.{IsShortOrOpenPaste}
use Rattle.termwiz_grammar.proofs.lemmas.cuts.ChunkInvariance.{steps_join}
use Rattle.termwiz_grammar.proofs.lemmas.items.ItemStable.{item_some}
use Rattle.termwiz_grammar.proofs.lemmas.waiting.RestShape.{rest_short}
use Rattle.termwiz_keymap.proofs.lemmas.lists.CommonPrefixes.{length-some}
use Rattle.termwiz_input.specs.Matches.{IsItemAt}
use Rattle.termwiz_input.specs.Fronts.{Emits, IsRun, IsStored, Stores}

pub run_there : (u run : List ℕ) (more : Bool) → IsRun u run → HasItem u more
run_there u run more is = (take 1 u, _, (is.first more).1)

pub item_stored : (u : List ℕ) (more : Bool) (event : InputEvent) (n : ℕ) (before after : List InputEvent)
    → IsItemAt u more event n → after ≡ before ++ event ∷ [] → IsStored u more before after n
item_stored u more event n before after is stored = record {
  some = omega (arith, length-some (take n u) (item_some u (take n u) event more is.1.item), length-take-le n u is.0);
  within = is.0;
  events = event ∷ [];
  steps = (take n u, drop n u, is.1, sym (take-append-drop n u), refl);
  stored = stored;
}

-- the steps of a loop, with what was appended
pub stored_steps : (T : List ℕ) {u : List ℕ} {more : Bool} {before after : List InputEvent} {n : ℕ}
    → IsStored u more before after n → Steps T more before u → Steps T more after (drop n u)
stored_steps T {u} {more} {before} {after} {n} is steps =
    rw is.stored (steps_join before is.events T u (drop n u) more steps is.steps)

-- a store that was refused memory
pub refused_store : {F : Type 0} (u : List ℕ) (more : Bool) (before after : List InputEvent) (result : Result (Option ℕ) F)
    → IsErr result → HasItem u more → after ≡ before → Stores u more before after result
refused_store u more before after (Ok found) is item same = absurd (cc (is))
refused_store u more before after (Err fault) is item same = grind arith

-- what is left if no item is there
pub left_short : {F : Type 0} (u left : List ℕ) (more : Bool) (result : Result (Option InputEvent) F)
    → Emits u more left result → IfOk result (λ found. IfNone found (IsShortOrOpenPaste left))
left_short u left more (Ok None) emits =
    subst IsShortOrOpenPaste (sym emits.none_same) (rest_short u more emits.none)
left_short u left more (Ok (Some event)) emits = tt
left_short u left more (Err fault) emits = tt
