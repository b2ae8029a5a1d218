-- `of_box` calls `Box::into_raw_with_allocator`, and makes a struct of the pair that it returns.
use Rattle.std.proofs.Common.{◌≡◌, List, [], ◌∷◌, ◌++◌, refl, sym, ap, ◌∙◌, subst}
use mir.Syntax.{a_type, dcons, dnil}
use mir.Raw.{raw as bare}
use mir.Val.{Val, vptr, vstruct, of_list}
use mir.MapTy.{inst_fn}
use base.Logic.{SProp, ent, emp, never, id⊢, fst∗}
use base.Fml.{ftrue, fsep, flft}
use prog.Wp.{WpFn}
use types.Logic.{sem}
use types.Kit.{‵, raw, ◌⊛◌, some, later, ◌$◌, ◌∵◌, !, qed, by, move, keep, drop, split, split3, join, fsplit, fjoin, fpick, pick, suffices, use0, use1, await, rewrite, feq_l}
use types.Run.{stop, fld, of_opd, no_more, and_then, returns, enter}
use types.ByLocal.{alloc_all, pass_all, free_all, look_at, get, get_in, sets, lands_as}
use types.Part.{agg, sub, whole}
use contract.Monad.{fact, fact_i}
use contract.Running.{tables}
use denote.Exit.{no}
use denote.RattleType.{RattleType, owns}
use denote.Signature.{types_at, plain}
use denote.Builtin.{RawPtr}
use denote.RawPtr.{Ptr, block_ptr, null_ptr, ptr_val, in_a_block}
use denote.Steps.{nothing, only, heard}
use denote.Param.{param, layout, bounded}
use denote.Param.Laws.{param_laws}
use denote.Struct.Tuple.{Tuple}
use denote.Triple.Spec.{triple_of}
use denote.Triple.Call.{calls_at}
use denote.Triple.Walked.{Stays, stay_dropped, walk_of}
use Rattle.core.proofs.alloc.Calls.{Goes-blank, handle_tells}
use Rattle.core.proofs.atomic.Steps.{fm}
use Rattle.std_alloc.specs.Box.Ownership.{box_owns}
use Rattle.std_alloc.proofs.BoxSteps.Form as box
use Rattle.std_alloc.proofs.BoxSteps.Steps.{box_out, box_in}
use Rattle.std.proofs.raw_atomic.Walks.{proved_at, leaves}
use Rattle.hedrugal.proofs.RawBoxValues.{two_words, parts_fit, close_parts}
use Rattle.std_alloc.specs.contracts.boxed.Box.into_raw_with_allocator as callee
use Rattle.std_alloc.proofs.boxed.Box.into_raw_with_allocator.Met.{met}
use Rattle.hedrugal.specs.contracts.raw_box.RawBox.of_box as it
use Rattle.hedrugal.proofs.raw_box.RawBox.of_box.Statement.{statement}
use Rattle.hedrugal.proofs.raw_box.RawBox.of_box.Code as code

pub of_box_spec : {M : Type 1} → statement M
of_box_spec 𝓤 𝓛 𝓜 𝓡 wired T A laws_T laws_A g d drop_T drop_A allocator glue glued =
    let 𝓣 = tables 𝓤 𝓛.H 𝓜 𝓡 𝓡.env in
    let Value : RattleType = param 0 T in let Alloc : RattleType = param 1 A in let laws = param_laws 1 A laws_A in
    let ended = it.ended T A g d drop_T drop_A in
    let clauses = it.clauses T A g d drop_T drop_A 𝓛 𝓜.mem 𝓡.returns in
    let form : box.Bx =
    record { row = T; laws = laws_T; al = record { row = A; laws = laws_A; g = g; d = d; drops = drop_A } } in
    let at_types = bounded (a_type ∷ a_type ∷ []) (T, (A, tt)) (dcons d (dcons drop_T (dcons drop_A dnil))) in
    let function = inst_fn at_types code.function in
    let stays : Stays ended.signature.params ended.kept = (stay_dropped (plain (λ _. box.B form)) no, tt) in
    proved_at 𝓛 ended stays clauses 𝓜 𝓡 (Goes-blank 𝓛 2 (plain (λ _. box.B form)) no (λ κs x f. tt), tt)
    (it.Key.name at_types) function (code.unfolded 𝓤 𝓛.H 𝓜 𝓡 wired (T, (A, tt)) d drop_T drop_A) (λ z are.
    let κs = z.0.0 in let qs = z.0.1 in let whole_box = z.0.3.0 in let alloc = whole_box.alloc in
    let post : Val → SProp 𝓤 = (walk_of 𝓛 ended stays clauses).post z in
    let run : List Val → SProp 𝓤 = λ ws. WpFn 𝓤 𝓛.H 𝓣.C 𝓣.Λ function ws post in
    let alive = ‵ (flft κs.0 qs.0) ⊛ ‵ (flft κs.1.0 qs.1.0) ⊛ ‵ ftrue in
    -- the parameter is one word, a box
    qed 𝓛
    ((alive ⊛ ‵ (owns (types_at ended.signature.params κs) z.0.3 z.0.4)) ∷ raw ((clauses κs z.0.3).requires z.1) ∷ []) ∵
    split ! $ move ! (1 ∷ []) $ fsplit ! $
    box_out form ! whole_box z.0.4.0
    (λ block offset handle lies is_word fits. box_in form ! whole_box block offset whole_box.value lies refl $
    let word : Val = box.word form handle block offset in
    let fits_box = parts_fit Value Alloc laws g block offset handle fits in
    let call =
    triple_of 𝓛 (callee.signature T A g d drop_A drop_T) (callee.spec T A g d drop_A drop_T 𝓛 𝓜.mem 𝓡.returns) in
    let given : call.Ghost = ((κs, qs, tt, (whole_box, tt), (word ∷ [], tt)), tt) in
    -- what the callee is given
    fjoin ! $ move ! (1 ∷ 0 ∷ []) $ join ! $ join ! $ use1 𝓛 (raw (call.pre given)) (id⊢ 𝓤 _) $
    suffices ! (run (word ∷ [])) (subst (λ (ws : List Val). ent 𝓤 (run (word ∷ [])) (run ws))
    (sym (λ i. is_word i ++ [])) (id⊢ 𝓤 (run (word ∷ [])))) $
    enter ! 𝓣.C 𝓣.Λ function (word ∷ []) post $
    alloc_all ! (λ l. pass_all ! refl (fits_box, tt) $ sets ! (of_opd ! (get ! refl)) refl fits_box $
    calls_at ! (fm 𝓛 𝓜 𝓡) call (met 𝓤 𝓛 𝓜 𝓡 (code.calls-std_alloc::boxed::Box::into_raw_with_allocator 𝓡.env wired) T A
    laws_T laws_A g d drop_A drop_T allocator glued glue) given (and_then ! (get ! refl) (no_more !)) (λ answer.
    -- it returns the pointer, which owns the box, and the allocator
    use1 𝓛
    (later (some (λ (pair : Ptr × A.Denot). (alive ⊛ ‵ ((Tuple (RawPtr ∷ Alloc ∷ [])).own_val pair (answer ∷ [])))
    ⊛ some (λ (_ : (Unit {0} × (Unit {0} × Unit {0})) × Unit {0}). ‵ (fsep (fsep ftrue (fsep ftrue ftrue)) ftrue)
    ⊛ (raw (fact 𝓤 (pair.1 ≡ alloc)) ⊛ ‵ (box_owns (g.dealloc_token alloc) Value pair.0 whole_box.value))))))
    (id⊢ 𝓤 _) $
    await ! tt $
    pick ! (λ pair. split ! $ move ! (1 ∷ []) $ pick ! (λ _. split3 ! $ drop ! $ heard ! (pair.1 ≡ alloc) (λ same_alloc.
    in_a_block ! pair.0 (λ at. box_owns (g.dealloc_token alloc) Value at whole_box.value)
    (fst∗ 𝓤 (never 𝓤) (sem 𝓛 (g.dealloc_token alloc (bare (layout T)) null_ptr))) (λ block' offset' lies'.
    move ! (1 ∷ []) $ split ! $ move ! (1 ∷ []) $
    fpick ! (λ words. fsplit ! $ feq_l ! (λ answer_is. fsplit ! $ feq_l ! (λ pointer_is. fsplit ! $
    rewrite ! 0 (λ (a : A.Denot). ‵ (A.own_val a words.1.0)) same_alloc refl $
    handle_tells form.al ! alloc words.1.0 (λ handle' handle_is fits'.
    let pointer = block_ptr block' offset' in
    let fits_parts = parts_fit Value Alloc laws g block' offset' handle' fits' in
    lands_as ! (ap only (answer_is
    ∙ (λ i. vstruct (of_list ((pointer_is ∙ ap (λ (at : Ptr). ptr_val at ∷ []) lies') i ++ (handle_is i ++ []))) ∷ [])))
    refl fits_parts $
    -- both fields of the pair, and the struct of them
    sets ! (of_opd ! (get_in ! (fld ! refl (stop !)) (sub ! 0 refl (whole !)))) refl (tt, tt) $
    sets ! (of_opd ! (get_in ! (fld ! refl (stop !)) (sub ! 1 refl (whole !)))) refl fits' $
    sets ! (of_opd ! (get ! refl)) refl fits' $
    sets ! (agg ! (and_then ! (get ! refl) (and_then ! (get ! refl) (no_more !)))) refl fits_parts $
    -- what the result owns, and the `ensures`
    move ! (3 ∷ 0 ∷ []) $ close_parts Value Alloc laws g ! block' offset' handle' alloc whole_box.value $
    use0 𝓛 (raw (fact 𝓤 (whole_box.value ≡ whole_box.value)))
    (fact_i 𝓤 (whole_box.value ≡ whole_box.value) (emp 𝓤) refl) $ nothing ! $ nothing ! $ fjoin ! $
    returns ! (look_at ! 0 refl) $ free_all ! refl $ keep ! (4 ∷ 0 ∷ 2 ∷ 1 ∷ []) $
    by ! (leaves 𝓛 ended stays clauses z (two_words (vptr block' offset') handle')
    (record { pointer = pointer; alloc = alloc; value = whole_box.value }) ((tt, (tt, tt)), tt) (tt, tt))))))))))))))
