-- `of_raw_box` keeps the pointer, and lets go of the allocator, which takes no bytes.
use Rattle.hedrugal.proofs.Walks.{◌≡◌, List, [], ◌∷◌, ◌++◌, refl, sym, subst, Some, Val, vptr, SProp, ent, emp, id⊢, ftrue, WpFn, ‵, raw, ◌⊛◌, ◌$◌, ◌∵◌, !, qed, by, move, keep, split, fsplit, fjoin, suffices, use0, use1, stop, fld, of_opd, no_more, and_then, returns, enter, alloc_all, pass_all, free_all, look_at, get, get_in, sets, agg, sub, whole, fact, fact_i, tables, RattleType, owns, types_at, plain, block_ptr, nothing, Stays, stay_dropped, walk_of, Heap, heap_laws, ghosts, proved_at, leaves, owned, PartsType, two_words, parts_fit, open_parts, one_word, close_owned, a_type, dcons, dnil, inst_fn, flft, no, param, bounded, Goes-blank}
use Rattle.hedrugal.specs.contracts.slot.Slot.of_raw_box as it
use Rattle.hedrugal.proofs.slot.Slot.of_raw_box.Statement.{statement}
use Rattle.hedrugal.proofs.slot.Slot.of_raw_box.Code as code

pub of_raw_box_spec : {M : Type 1} → statement M
of_raw_box_spec 𝓤 𝓛 𝓜 𝓡 wired T laws d glue =
    let 𝓣 = tables 𝓤 𝓛.H 𝓜 𝓡 𝓡.env in
    let Value : RattleType = param 0 T in
    let Input : RattleType = PartsType Value Heap heap_laws ghosts in
    let ended = it.ended T d in
    let clauses = it.clauses T d 𝓛 𝓜.mem 𝓡.returns in
    let at_types = bounded (a_type ∷ []) (T, tt) (dcons d dnil) in
    let function = inst_fn at_types code.function in
    let stays : Stays ended.signature.params ended.kept = (stay_dropped (plain (λ _. Input)) no, tt) in
    proved_at 𝓛 ended stays clauses 𝓜 𝓡 (Goes-blank 𝓛 1 (plain (λ _. Input)) no (λ κs x f. tt), tt)
    (it.Key.name at_types) function (code.unfolded 𝓤 𝓛.H 𝓜 𝓡 wired (T, tt) d) (λ z are.
    let parts = z.0.3.0 in
    let post : Val → SProp 𝓤 = (walk_of 𝓛 ended stays clauses).post z in
    let run : List Val → SProp 𝓤 = λ ws. WpFn 𝓤 𝓛.H 𝓣.C 𝓣.Λ function ws post in
    let alive = ‵ (flft z.0.0.0 z.0.1.0) ⊛ ‵ ftrue in
    -- the parameter is two words, of which the first owns the box
    qed 𝓛 ((alive ⊛ ‵ (owns (types_at ended.signature.params z.0.0) z.0.3 z.0.4))
    ∷ raw ((clauses z.0.0 z.0.3).requires z.1) ∷ []) ∵ split ! $ move ! (1 ∷ []) $ fsplit ! $
    open_parts Value Heap heap_laws ghosts ! parts z.0.4.0 (λ block offset handle lies are_words fits.
    let pointer = block_ptr block offset in
    let word : Val = two_words (vptr block offset) handle in
    suffices ! (run (word ∷ [])) (subst (λ (ws : List Val). ent 𝓤 (run (word ∷ [])) (run ws))
    (sym (λ i. are_words i ++ [])) (id⊢ 𝓤 (run (word ∷ [])))) $
    enter ! 𝓣.C 𝓣.Λ function (word ∷ []) post $
    alloc_all ! (λ l. pass_all ! refl (parts_fit Value Heap heap_laws ghosts block offset handle fits, tt) $
    -- its first field, and the struct of it
    sets ! (of_opd ! (get_in ! (fld ! refl (stop !)) (sub ! 0 refl (whole !)))) refl (tt, tt) $
    sets ! (agg ! (and_then ! (get ! refl) (no_more !))) refl (tt, (tt, tt)) $
    returns ! (look_at ! 0 refl) $ free_all ! refl $ keep ! (0 ∷ 3 ∷ []) $
    -- what the result owns, and the `ensures`
    use1 𝓛 (‵ (owned Value pointer (Some parts.value))) (id⊢ 𝓤 _) $
    close_owned Value ! pointer (Some parts.value) $
    use0 𝓛 (raw (fact 𝓤 (Some parts.value ≡ Some parts.value)))
    (fact_i 𝓤 (Some parts.value ≡ Some parts.value) (emp 𝓤) refl) $
    nothing ! $ nothing ! $ fjoin ! $ move ! (3 ∷ 0 ∷ 2 ∷ 1 ∷ []) $
    by ! (leaves 𝓛 ended stays clauses z (one_word pointer) (record { pointer = pointer; held = Some parts.value })
    (tt, tt) (tt, tt)))))
