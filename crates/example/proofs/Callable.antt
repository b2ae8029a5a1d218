-- A callback that may always be called, after some calls.
use Rattle.std.proofs.Common.{List, [], ◌∷◌, ◌++◌, refl, sym, subst}
use Rattle.std.specs.List.{FoldsTo}
use Rattle.std.specs.Fn.{Mut}
use denote.Param.Members.{Called}
use denote.Param.Always.{always_mut, mut_next}
use Rattle.termwiz_input.specs.InputEvent.{InputEvent}

module _ {F : Type 0} (callback : Mut F (InputEvent × Unit {0}) (Unit {0})) where
  abbrev pub Calls : F → List InputEvent → F → Type 0
  Calls first events last =
      FoldsTo (λ before event after. Called callback before (event, tt) tt after) first events last

  -- it still may
  pub still_callable : (first : F) (events : List InputEvent) (last : F) → always_mut callback first
      → Calls first events last → always_mut callback last
  still_callable first [] last always is = subst (always_mut callback) is always
  still_callable first (event ∷ events) last always (next, called, later) =
      still_callable next events last (mut_next callback first (event, tt) tt next next called refl always) later

  -- calls after calls
  pub calls_after : (first : F) (events : List InputEvent) (now : F) (more : List InputEvent) (last : F)
      → Calls first events now → Calls now more last → Calls first (events ++ more) last
  calls_after first [] now more last is calls = subst (λ f. Calls f more last) (sym is) calls
  calls_after first (event ∷ events) now more last (next, called, later) calls =
      (next, called, calls_after next events now more last later calls)
