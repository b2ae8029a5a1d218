-- The machine value of a `RawBox`: a struct of two words, the pointer and the allocator. Steps of walks that take such
-- a value apart and make it.
use Rattle.std.proofs.Common.{◌≡◌, ℕ, List, [], ◌∷◌, ◌++◌, refl, subst}
use mathlib.Core.Bool.{true, ◌&&◌}
use lib.Dec.{T}
use seplogic.Ra.Ura.{Ura}
use mir.Syntax.{impl, tnil, dnil}
use mir.Raw.{raw as bare}
use mir.Val.{Val, vptr, vstruct, vcons, vnil, of_list, has_ty, WT}
use base.Logic.{never, fst∗}
use types.Logic.{Logic, sem}
use types.Kit.{Item, Goal, Seq, Step, step, ‵, ◌$◌, move, drop, fsplit, fjoin, fpick, fpack, feq_i, feq_l}
use denote.RattleType.{RattleType, Valss}
use denote.Builtin.{RawPtr}
use denote.Memory.{lone}
use denote.RawPtr.{Ptr, block_ptr, null_ptr, ptr_val, in_a_block}
use denote.Steps.{nothing}
use denote.Param.{layout}
use denote.Param.Laws.{Laws}
use denote.Struct.Struct.{within}
use denote.Struct.Owning.{shape}
use Rattle.core.specs.declared.alloc.Allocator.{Ghosts}
use Rattle.core.proofs.alloc.Calls.{Al, handle_tells}
use Rattle.core.proofs.cell.Inside.{Good}
use Rattle.std_alloc.specs.Box.Ownership.{box_owns}
use Rattle.std_alloc.proofs.ResultValues.{and_tt}
use Rattle.hedrugal.specs.contracts.raw_box.RawBox as parts

-- a struct of two words
abbrev pub two_words : Val → Val → Val
two_words first second = vstruct (vcons first (vcons second vnil))

-- `T` at the value's type, the allocator's type `A` with its laws, and its ghost members
module _ (T' A : RattleType) (laws : Laws A) (g : Ghosts A.Denot) where
  abbrev pub PartsType : RattleType
  PartsType = parts.the_row T' A g

  abbrev pub allocator : Al
  allocator = record { row = A; laws = laws; g = g; d = impl [] tnil dnil; drops = impl [] tnil dnil }

  -- such a value fits its type, if the allocator's word does
  pub parts_fit : (block offset : ℕ) (handle : Val) → Good (layout A) handle
      → T (has_ty (layout A) handle && true) × WT (two_words (vptr block offset) handle)
  parts_fit block offset handle fits = (and_tt (has_ty (layout A) handle) fits.0, (tt, (fits.1, tt)))

  module _ {M : Type 1} {𝓤 : Ura M} {𝓛 : Logic 𝓤} {K : Type 0} {Γ : List (Item 𝓤)} {G : Goal 𝓤 𝓛.H} where
    -- takes the value apart: the box that its pointer owns, and the allocator
    pub open_parts : K → (p : PartsType.Denot) (vs : List Val)
        → ((block offset : ℕ) (handle : Val) → p.pointer ≡ block_ptr block offset
        → vs ≡ two_words (vptr block offset) handle ∷ [] → Good (layout A) handle
        → Seq K 𝓛 (‵ (box_owns (g.dealloc_token p.alloc) T' (block_ptr block offset) p.value)
        ∷ ‵ (A.own_val p.alloc (handle ∷ [])) ∷ Γ) G)
        → Seq K 𝓛 (‵ (PartsType.own_val p vs) ∷ Γ) G
    open_parts t p vs next =
        fsplit t $ fpick t (λ words. fsplit t $ feq_l t (λ is. fsplit t $ feq_l t (λ pointer_is. fsplit t $
        handle_tells allocator t p.alloc words.1.0
        (λ handle handle_is fits. move t (1 ∷ []) $ drop t $ move t (1 ∷ []) $
        in_a_block t p.pointer (λ at. box_owns (g.dealloc_token p.alloc) T' at p.value)
        (fst∗ 𝓤 (never 𝓤) (sem 𝓛 (g.dealloc_token p.alloc (bare (lone T'.mir)) null_ptr))) (λ block offset lies.
        next block offset handle lies
        (subst (λ (at : Ptr). vs ≡ vstruct (of_list (ptr_val at ∷ handle ∷ [])) ∷ []) lies
        (subst (λ (ws : List Val). vs ≡ vstruct (of_list (ptr_val p.pointer ∷ (ws ++ []))) ∷ []) handle_is
        (subst (λ (ps : List Val). vs ≡ vstruct (of_list (ps ++ (words.1.0 ++ []))) ∷ []) pointer_is is)))
        fits)))))

    -- makes it again
    pub close_parts : K → (block offset : ℕ) (handle : Val) (a : A.Denot) (x : T'.Denot)
        → Step K 𝓛 (‵ (PartsType.own_val (record { pointer = block_ptr block offset; alloc = a; value = x })
        (two_words (vptr block offset) handle ∷ [])) ∷ Γ) G
        (‵ (box_owns (g.dealloc_token a) T' (block_ptr block offset) x) ∷ ‵ (A.own_val a (handle ∷ [])) ∷ Γ) G
    close_parts t block offset handle a x =
        step (λ next. let word : Val = vptr block offset in let whole : Val = two_words word handle in
        nothing t $ move t (2 ∷ 0 ∷ []) $ fjoin t $ feq_i t (List Val) (word ∷ []) (word ∷ []) refl $ fjoin t $
        feq_i t (List Val) (whole ∷ []) (whole ∷ []) refl $ fjoin t $
        fpack t (Valss (RawPtr ∷ A ∷ []))
        (within (shape (parts.the_type T' A g)) (block_ptr block offset, (a, tt)) (whole ∷ []))
        (word ∷ [], (handle ∷ [], tt)) $ fjoin t $ next)
