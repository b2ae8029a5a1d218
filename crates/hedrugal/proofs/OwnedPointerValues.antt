-- The machine value of a struct of one pointer, which owns a box or nothing. Steps of walks that take such a value apart
-- and make it.
use Rattle.std.proofs.Common.{◌≡◌, ℕ, List, [], ◌∷◌, ◌++◌, refl, ap, ◌∙◌}
use Rattle.std.specs.Prelude.{Option, Some, None, is_some, true}
use seplogic.Ra.Ura.{Ura}
use mir.Raw.{raw as bare}
use mir.Val.{Val, vstruct, vcons, vnil, of_list}
use base.Logic.{never, id⊢, fst∗}
use base.Fml.{Fml, fsep}
use types.Logic.{Logic, sem}
use types.Kit.{Item, Goal, Seq, Step, step, ‵, ◌$◌, drop, fsplit, fjoin, fpick, fpack, feq_i, feq_l, use1, rewrite}
use denote.RattleType.{RattleType, Valss}
use denote.Builtin.{RawPtr}
use denote.Memory.{lone}
use denote.RawPtr.{Ptr, block_ptr, null_ptr, ptr_val, in_a_block}
use denote.Steps.{nothing}
use denote.Struct.Struct.{Shape, Struct, within}
use Rattle.std.specs.contracts.impls.GlobalAllocator.TheImpl.{ghosts}
use Rattle.std.specs.Box.Ownership.{box_owns}
use Rattle.hedrugal.specs.Owned.{heap, owned}

-- a struct of a pointer
abbrev pub one_word : Ptr → Val
one_word pointer = vstruct (vcons (ptr_val pointer) vnil)

-- the value of an option that has one
pub value_of : {X : Type 0} (o : Option X) → is_some o ≡ true → (x : X) × (o ≡ Some x)
value_of (Some x) e = (x, refl)
value_of None e = absurd (cc (e))

-- its fields, whatever its name
abbrev one_pointer : Shape
one_pointer = record { name = []; args = []; types = []; fields = RawPtr ∷ [] }

-- what such a struct owns: its word, and what its pointer owns
abbrev pub owning_word : (R : RattleType) → Ptr → Option R.Denot → List Val → Fml
owning_word R pointer held vs = fsep ((Struct one_pointer).own_val (pointer, tt) vs) (owned R pointer held)

module _ (R : RattleType) {M : Type 1} {𝓤 : Ura M} {𝓛 : Logic 𝓤} {K : Type 0} {Γ : List (Item 𝓤)} {G : Goal 𝓤 𝓛.H} where
  -- takes the value apart: what its pointer owns
  pub open_owned : K → (pointer : Ptr) (held : Option R.Denot) (vs : List Val)
      → (vs ≡ one_word pointer ∷ [] → Seq K 𝓛 (‵ (owned R pointer held) ∷ Γ) G)
      → Seq K 𝓛 (‵ (owning_word R pointer held vs) ∷ Γ) G
  open_owned t pointer held vs next =
      fsplit t $ fpick t (λ words. fsplit t $ feq_l t (λ is. fsplit t $ feq_l t (λ pointer_is. drop t $
      next (is ∙ ap (λ (ps : List Val). vstruct (of_list (ps ++ [])) ∷ []) pointer_is))))

  -- takes the value of a pointer that owns a box apart: the box, at a place in a block
  pub open_held : K → (pointer : Ptr) (held : Option R.Denot) (vs : List Val) → is_some held ≡ true
      → ((block offset : ℕ) (value : R.Denot) → held ≡ Some value → pointer ≡ block_ptr block offset
      → vs ≡ one_word (block_ptr block offset) ∷ []
      → Seq K 𝓛 (‵ (box_owns (ghosts.dealloc_token heap) R (block_ptr block offset) value) ∷ Γ) G)
      → Seq K 𝓛 (‵ (owning_word R pointer held vs) ∷ Γ) G
  open_held t pointer held vs some next =
      let value = (value_of held some).0 in let value_is = (value_of held some).1 in
      let token = ghosts.dealloc_token heap in
      open_owned t pointer held vs (λ words.
      rewrite t 0 (λ (o : Option R.Denot). ‵ (owned R pointer o)) value_is refl $
      use1 𝓛 (‵ (box_owns token R pointer value)) (id⊢ 𝓤 _) $
      in_a_block t pointer (λ at. box_owns token R at value)
      (fst∗ 𝓤 (never 𝓤) (sem 𝓛 (token (bare (lone R.mir)) null_ptr))) (λ block offset lies.
      next block offset value value_is lies (words ∙ ap (λ (at : Ptr). one_word at ∷ []) lies)))

  -- makes it again
  pub close_owned : K → (pointer : Ptr) (held : Option R.Denot)
      → Step K 𝓛 (‵ (owning_word R pointer held (one_word pointer ∷ [])) ∷ Γ) G (‵ (owned R pointer held) ∷ Γ) G
  close_owned t pointer held = step (λ next. let whole : Val = one_word pointer in
      nothing t $ feq_i t (List Val) (ptr_val pointer ∷ []) (ptr_val pointer ∷ []) refl $ fjoin t $
      feq_i t (List Val) (whole ∷ []) (whole ∷ []) refl $ fjoin t $
      fpack t (Valss (RawPtr ∷ [])) (within one_pointer (pointer, tt) (whole ∷ []))
      (ptr_val pointer ∷ [], tt) $ fjoin t $ next)
