-- `into_box` calls `Box::from_raw` with both parts.
use Rattle.std.proofs.Common.{◌≡◌, List, [], ◌∷◌, ◌++◌, refl, sym, ap, subst}
use mir.Syntax.{a_type, dcons, dnil}
use mir.Val.{Val, vptr}
use mir.MapTy.{inst_fn}
use base.Logic.{SProp, ent, id⊢}
use base.Fml.{ftrue, flft}
use prog.Wp.{WpFn}
use types.Kit.{‵, raw, ◌⊛◌, some, later, at_ret, ◌$◌, ◌∵◌, !, qed, by, move, keep, drop, split, split3, join, fsplit, fjoin, pick, suffices, use1, await, rewrite, feq_i}
use types.Run.{stop, fld, of_opd, no_more, and_then, first, blocks, exec, returns, enter}
use types.ByLocal.{alloc_all, pass_all, free_all, look_at, get, get_in, sets, lands_last, env}
use types.Part.{sub, whole}
use contract.Monad.{fact}
use contract.BorrowLft.{◌⊑◌}
use contract.Running.{tables}
use denote.Exit.{no}
use denote.RattleType.{RattleType, owns}
use denote.Signature.{types_at, plain}
use denote.RawPtr.{block_ptr}
use denote.Steps.{nothing, only}
use denote.Param.{param, layout, bounded}
use denote.Param.Laws.{param_laws}
use denote.Triple.Clauses.{Lasts, lasts}
use denote.Triple.Spec.{triple_of}
use denote.Triple.Call.{calls_at_last}
use denote.Triple.Walked.{Stays, stay_dropped, walk_of}
use Rattle.core.proofs.alloc.Calls.{Goes-blank}
use Rattle.core.proofs.alloc.Shapes.{after}
use Rattle.core.proofs.atomic.Steps.{fm}
use Rattle.core.proofs.cell.Inside.{Good}
use Rattle.std_alloc.proofs.BoxSteps.Form as box
use Rattle.std_alloc.proofs.BoxSteps.Steps.{box_out, box_in}
use Rattle.std.proofs.raw_atomic.Walks.{proved_at, leaves}
use Rattle.hedrugal.proofs.RawBoxValues.{PartsType, two_words, parts_fit, open_parts}
use Rattle.std_alloc.specs.contracts.boxed.Box.from_raw as callee
use Rattle.std_alloc.proofs.boxed.Box.from_raw.Met.{met}
use Rattle.hedrugal.specs.contracts.raw_box.RawBox.into_box as it
use Rattle.hedrugal.proofs.raw_box.RawBox.into_box.Statement.{statement}
use Rattle.hedrugal.proofs.raw_box.RawBox.into_box.Code as code

pub into_box_spec : {M : Type 1} → statement M
into_box_spec 𝓤 𝓛 𝓜 𝓡 wired T A laws_T laws_A g d drop_T drop_A allocator glue glued =
    let 𝓣 = tables 𝓤 𝓛.H 𝓜 𝓡 𝓡.env in
    let Value : RattleType = param 0 T in let Alloc : RattleType = param 1 A in let laws = param_laws 1 A laws_A in
    let ended = it.ended T A g d drop_T drop_A in
    let clauses = it.clauses T A g d drop_T drop_A 𝓛 𝓜.mem 𝓡.returns in
    let form : box.Bx =
    record { row = T; laws = laws_T; al = record { row = A; laws = laws_A; g = g; d = d; drops = drop_A } } in
    let at_types = bounded (a_type ∷ a_type ∷ []) (T, (A, tt)) (dcons d (dcons drop_T (dcons drop_A dnil))) in
    let function = inst_fn at_types code.function in
    let Input : RattleType = PartsType Value Alloc laws g in let Output : RattleType = box.B form in
    let stays : Stays ended.signature.params ended.kept = (stay_dropped (plain (λ _. Input)) no, tt) in
    proved_at 𝓛 ended stays clauses 𝓜 𝓡 (Goes-blank 𝓛 2 (plain (λ _. Input)) no (λ κs x f. tt), tt)
    (it.Key.name at_types) function (code.unfolded 𝓤 𝓛.H 𝓜 𝓡 wired (T, (A, tt)) d drop_T drop_A) (λ z are.
    let κs = z.0.0 in let qs = z.0.1 in let self = z.0.3.0 in let alloc = self.alloc in
    let post : Val → SProp 𝓤 = (walk_of 𝓛 ended stays clauses).post z in
    let run : List Val → SProp 𝓤 = λ ws. WpFn 𝓤 𝓛.H 𝓣.C 𝓣.Λ function ws post in
    let alive = ‵ (flft κs.0 qs.0) ⊛ ‵ (flft κs.1.0 qs.1.0) ⊛ ‵ ftrue in
    -- the parameter is two words, of which the first owns the box
    qed 𝓛
    ((alive ⊛ ‵ (owns (types_at ended.signature.params κs) z.0.3 z.0.4)) ∷ raw ((clauses κs z.0.3).requires z.1) ∷ []) ∵
    split ! $ move ! (1 ∷ []) $ fsplit ! $
    open_parts Value Alloc laws g ! self z.0.4.0 (λ block offset handle lies is_words fits.
    let word : Val = two_words (vptr block offset) handle in
    let fits_parts = parts_fit Value Alloc laws g block offset handle fits in
    let call = triple_of 𝓛 (callee.signature T A g d drop_A) (callee.spec T A g d drop_A 𝓛 𝓜.mem 𝓡.returns) in
    let given : call.Ghost =
    ((κs, qs, tt, (alloc, (block_ptr block offset, tt)), (handle ∷ [], (vptr block offset ∷ [], tt))), self.value) in
    -- what the callee is given
    move ! (4 ∷ []) $ use1 𝓛 (raw (fact 𝓤 (κs.0 ⊑ T.lives)) ⊛ raw (fact 𝓤 (κs.1.0 ⊑ A.lives)) ⊛ ‵ ftrue) (id⊢ 𝓤 _) $
    split3 ! $ move ! (2 ∷ []) $ drop ! $ move ! (1 ∷ 2 ∷ []) $ join ! $ move ! (1 ∷ 0 ∷ []) $ join ! $
    move ! (2 ∷ []) $ feq_i ! (List Val) (vptr block offset ∷ []) (vptr block offset ∷ []) refl $ fjoin ! $
    move ! (2 ∷ 0 ∷ []) $ fjoin ! $ move ! (2 ∷ 0 ∷ []) $ join ! $ join ! $
    use1 𝓛 (raw (call.pre given)) (id⊢ 𝓤 _) $
    suffices ! (run (word ∷ [])) (subst (λ (ws : List Val). ent 𝓤 (run (word ∷ [])) (run ws))
    (sym (λ i. is_words i ++ [])) (id⊢ 𝓤 (run (word ∷ [])))) $
    enter ! 𝓣.C 𝓣.Λ function (word ∷ []) post $
    alloc_all ! (λ l. pass_all ! refl (fits_parts, tt) $ let locals = env function.locals l in
    -- both fields
    sets ! (of_opd ! (get_in ! (fld ! refl (stop !)) (sub ! 0 refl (whole !)))) refl (tt, tt) $
    sets ! (of_opd ! (get_in ! (fld ! refl (stop !)) (sub ! 1 refl (whole !)))) refl fits $
    first ! $ blocks ! $ sets ! (of_opd ! (get ! refl)) refl fits $
    calls_at_last ! (fm 𝓛 𝓜 𝓡) call
    (met 𝓤 𝓛 𝓜 𝓡 (code.calls-std_alloc::boxed::Box::from_raw 𝓡.env wired) T A laws_T laws_A g d drop_A allocator glued)
    given (and_then ! (get ! refl) (and_then ! (get ! refl) (no_more !))) (λ answer.
    -- it returns the box of the same value
    use1 𝓛 (later (some (λ (made : Output.Denot). (alive ⊛ ‵ (Output.own_val made (answer ∷ []))) ⊛ some
    (λ (ls : Lasts (callee.ended T A g d drop_A) κs given.0.3). ‵ (lasts (callee.ended T A g d drop_A) κs given.0.3 ls)
    ⊛ (raw (fact 𝓤 (made.value ≡ self.value)) ⊛ raw (fact 𝓤 (made.alloc ≡ alloc)))))))
    (id⊢ 𝓤 (call.post given answer)) $
    await ! tt $ pick !
    (λ made. split ! $ move ! (1 ∷ []) $ pick ! (λ _. split3 ! $ drop ! $ move ! (2 ∷ []) $ split ! $ move ! (1 ∷ []) $
    box_out form ! made (answer ∷ [])
    (λ block' offset' handle' lies' is_word fits'. box_in form ! made block' offset' made.value lies' refl $
    rewrite ! 0 (λ (ws : List Val). ‵ (Output.own_val made ws)) (sym is_word) refl $
    let fits_box : Good (layout Output) answer =
    subst (Good (layout Output)) (sym (ap only is_word)) (parts_fit Value Alloc laws g block' offset' handle' fits') in
    lands_last ! refl fits_box $ exec ! 𝓣.C 𝓣.Λ locals (after 3 function.body) (at_ret locals post) $
    sets ! (of_opd ! (get ! refl)) refl fits_box $ nothing ! $ nothing ! $ fjoin ! $
    returns ! (look_at ! 0 refl) $ free_all ! refl $ keep ! (2 ∷ 0 ∷ 1 ∷ 3 ∷ []) $
    by ! (leaves 𝓛 ended stays clauses z answer made ((tt, (tt, tt)), tt) (tt, tt)))))))))
