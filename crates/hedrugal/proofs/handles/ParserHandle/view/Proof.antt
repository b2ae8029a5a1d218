-- `view` lends the same words under another type, which owns the same blocks.
use Rattle.hedrugal.proofs.Walks.{fst∗, ◌≡◌, List, [], ◌∷◌, refl, named, Val, vptr, full_share, SProp, emp, id⊢, GName, ftrue, fsep, flft, sem, ‵, raw, ◌⊛◌, some, later, at_ret, ◌$◌, ◌∵◌, !, qed, done, move, keep, drop, split, split3, join, fsplit, fsplit3, fjoin, fpack, pick, use0, use1, await, suffices, frame, group, stop, addr, of_opd, first, blocks, exec, returns, enter, alloc_all, pass_all, free_all, look_at, get, through, sets, sets_last, env, fact, fact_i, tables, no, follows, Part, lends_Part, cell_at, mem, RattleType, owns, MutRef, mut_vals, mut_Tells, plain, mut_ref_to, nothing, opens, Stays, stay_dropped, walk_of, ends_at, Goes-spent_ref, tail, proved}
use denote.Memory.{part_of}
use Rattle.hedrugal.specs.Views.{parser_of, viewed_parser}
use Rattle.hedrugal.specs.contracts.parser_and_text.ParserAndText.{the_row as HeldType}
use Rattle.hedrugal.specs.contracts.handles.ParserHandle.{the_row as CType}
use Rattle.hedrugal.specs.contracts.holder.Holder as generic
use Rattle.hedrugal.specs.contracts.handles.ParserHandle.view as it
use Rattle.hedrugal.proofs.handles.ParserHandle.view.Statement.{statement}
use Rattle.hedrugal.proofs.handles.ParserHandle.view.Code as code

abbrev ViewType : RattleType
ViewType = generic.the_row HeldType

abbrev stays : Stays it.ended.signature.params it.ended.kept
stays = (stay_dropped (mut_ref_to (0 ∷ []) tt (plain (λ _. CType))) no, tt)

pub view_spec : {M : Type 1} → statement M
unfolding part_of
view_spec 𝓤 𝓛 𝓜 𝓡 wired =
    let 𝓣 = tables 𝓤 𝓛.H 𝓜 𝓡 𝓡.env in
    let clauses = it.clauses 𝓛 𝓜.mem 𝓡.returns in
    proved 𝓛 it.ended stays clauses 𝓜 𝓡 (Goes-spent_ref 𝓛 1 (0 ∷ []) tt (plain (λ _. CType)), tt) it.Key.name
    code.function (code.unfolded 𝓤 𝓛.H 𝓜 𝓡 wired)
    (λ κs. (mut_vals, tt)) (λ κs. (mut_Tells (named 0) κs.0 CType, tt)) (λ κs qs bounds a ghost are.
    let self = a.0.now in let b = a.0.ref_ptr.0 in let o = a.0.ref_ptr.1 in let vs = mut_vals a.0 in
    let y : (walk_of 𝓛 it.ended stays clauses).Ghost = ((κs, qs, bounds, a, (vs, tt)), ghost) in
    let post : Val → SProp 𝓤 = (walk_of 𝓛 it.ended stays clauses).post y in
    let x : ViewType.Denot = viewed_parser self in
    let back = λ (w : ViewType.Denot). fst∗ 𝓤 (sem 𝓛 ((mem ViewType).own_at w b o)) (sem 𝓛 ftrue) in
    qed 𝓛 (((‵ (flft κs.0 qs.0) ⊛ ‵ ftrue) ⊛ ‵ (owns (MutRef (named 0) κs.0 CType ∷ []) a (vs, tt)))
    ∷ raw ((clauses κs a).requires ghost) ∷ []) ∵
    keep ! (0 ∷ []) $
    enter ! 𝓣.C 𝓣.Λ code.function (vptr b o ∷ []) post $ alloc_all ! (λ l. pass_all ! refl ((tt, tt), tt) $
    -- the borrow is open
    split ! $ move ! (1 ∷ []) $ fsplit ! $ fsplit3 ! $ drop ! $ move ! (3 ∷ []) $ split ! $ move ! (2 ∷ 3 ∷ 0 ∷ []) $
    opens ! tt CType {h = self} b o (λ us.
    first ! $ blocks ! $
    sets ! (addr ! (through ! refl (stop !))) refl (tt, tt) $
    sets ! (of_opd ! (get ! refl)) refl (tt, tt) $
    sets_last ! (addr ! (through ! refl (stop !))) refl (tt, tt) $
    exec ! 𝓣.C 𝓣.Λ (env code.function.locals l) (tail code.function.body) (at_ret (env code.function.locals l) post) $
    sets ! (of_opd ! (get ! refl)) refl (tt, tt) $
    -- the loan begins
    fjoin ! $ fpack ! (List Val) (λ us. fsep (cell_at full_share ViewType.mir us b o) (ViewType.own_val x us)) us $
    nothing ! $ move ! (2 ∷ 3 ∷ 4 ∷ 1 ∷ 0 ∷ []) $ group ! 5 $
    use1 𝓛 (later (some (λ (γ : GName). raw (Part 𝓛 CType ViewType parser_of (named 0) κs.0 qs.0
    b o b o a.0.ghost_name (sem 𝓛 ftrue) back x γ))))
    (lends_Part 𝓛 CType ViewType parser_of (named 0) κs.0 qs.0 b o b o a.0.ghost_name
    (sem 𝓛 ftrue) back (CType.coded.code self) (CType.coded.code self) x) $
    await ! tt $ pick ! (λ γ.
    returns ! (look_at ! 0 refl) $ free_all ! refl $ keep ! (0 ∷ []) $
    let lent : (MutRef (named 0) κs.0 ViewType).Denot = record { ref_ptr = (b, o); ghost_name = γ; now = x } in
    use1 𝓛 (‵ ((MutRef (named 0) κs.0 ViewType).own_val lent (vptr b o ∷ []))
    ⊛ ‵ (flft κs.0 qs.0) ⊛ ‵ (follows CType ViewType a.0.ghost_name γ parser_of)) (id⊢ 𝓤 _) $ split3 ! $
    suffices ! _ (ends_at 𝓛 it.ended stays clauses y (vptr b o) lent (tt, tt) (tt, tt)) $
    nothing ! $ nothing ! $ fjoin ! $ join ! $ nothing ! $ move ! (2 ∷ 0 ∷ []) $ join ! $ join ! $ frame ! $ frame ! $
    use0 𝓛 (raw (fact 𝓤 (x ≡ viewed_parser self))) (fact_i 𝓤 (x ≡ viewed_parser self) (emp 𝓤) refl) $ done !))))
