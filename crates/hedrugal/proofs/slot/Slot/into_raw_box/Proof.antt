-- `into_raw_box` puts the pointer beside the allocator.
use Rattle.hedrugal.proofs.Walks.{◌≡◌, List, [], ◌∷◌, ◌++◌, refl, sym, subst, Some, is_some, true, Val, vptr, SProp, ent, emp, id⊢, ftrue, WpFn, ‵, raw, ◌⊛◌, ◌$◌, ◌∵◌, !, qed, by, move, keep, split, fsplit, fjoin, suffices, use0, use1, drop, stop, fld, of_opd, no_more, and_then, returns, enter, alloc_all, pass_all, free_all, look_at, get, get_in, sets, agg, sub, whole, fact, fact_i, tables, yes, RattleType, owns, types_at, plain, block_ptr, nothing, heard, Stays, stay_dropped, walk_of, Goes-dropped, handle_tells, Heap, heap_laws, ghosts, proved_at, leaves, allocator, two_words, parts_fit, close_parts, one_word, open_held, a_type, dcons, dnil, inst_fn, flft, ◌⊑◌, no, param, bounded, Goes-blank}
use Rattle.hedrugal.specs.contracts.slot.Slot as slot
use Rattle.hedrugal.specs.contracts.slot.Slot.into_raw_box as it
use Rattle.hedrugal.proofs.slot.Slot.into_raw_box.Statement.{statement}
use Rattle.hedrugal.proofs.slot.Slot.into_raw_box.Code as code

pub into_raw_box_spec : {M : Type 1} → statement M
into_raw_box_spec 𝓤 𝓛 𝓜 𝓡 wired T laws d glue =
    let 𝓣 = tables 𝓤 𝓛.H 𝓜 𝓡 𝓡.env in
    let Value : RattleType = param 0 T in
    let Input : RattleType = slot.the_row Value in
    let ended = it.ended T d in
    let clauses = it.clauses T d 𝓛 𝓜.mem 𝓡.returns in
    let at_types = bounded (a_type ∷ []) (T, tt) (dcons d dnil) in
    let function = inst_fn at_types code.function in
    let stays : Stays ended.signature.params ended.kept =
    (stay_dropped (plain (λ _. Input)) no, (stay_dropped (plain (λ _. Heap)) yes, tt)) in
    proved_at 𝓛 ended stays clauses 𝓜 𝓡 (
      Goes-blank 𝓛 1 (plain (λ _. Input)) no (λ κs x f. tt),
      (Goes-dropped 𝓛 1 (plain (λ _. Heap)) yes (λ κs x w. refl), tt),
    )
    (it.Key.name at_types) function (code.unfolded 𝓤 𝓛.H 𝓜 𝓡 wired (T, tt) d) (λ z are.
    let self = z.0.3.0 in let alloc = z.0.3.1.0 in
    let post : Val → SProp 𝓤 = (walk_of 𝓛 ended stays clauses).post z in
    let run : List Val → SProp 𝓤 = λ ws. WpFn 𝓤 𝓛.H 𝓣.C 𝓣.Λ function ws post in
    let alive = ‵ (flft z.0.0.0 z.0.1.0) ⊛ ‵ ftrue in
    -- by the `requires` the pointer owns a box
    qed 𝓛 ((alive ⊛ ‵ (owns (types_at ended.signature.params z.0.0) z.0.3 z.0.4))
    ∷ raw ((clauses z.0.0 z.0.3).requires z.1) ∷ []) ∵ split ! $ move ! (2 ∷ []) $
    use1 𝓛 (raw (fact 𝓤 (z.0.0.0 ⊑ T.lives)) ⊛ raw (fact 𝓤 (is_some self.held ≡ true))) (id⊢ 𝓤 _) $ split ! $ drop ! $
    heard ! (is_some self.held ≡ true) (λ some. move ! (1 ∷ []) $ fsplit ! $
    open_held Value ! self.pointer self.held z.0.4.0 some (λ block offset held held_is lies is_word.
    -- the allocator's word
    move ! (1 ∷ []) $ fsplit ! $
    handle_tells (allocator Value Heap heap_laws ghosts) ! alloc z.0.4.1.0 (λ handle handle_is fits.
    let word : Val = one_word (block_ptr block offset) in
    suffices ! (run (word ∷ handle ∷ [])) (subst (λ (ws : List Val). ent 𝓤 (run (word ∷ handle ∷ [])) (run ws))
    (sym (λ i. is_word i ++ (handle_is i ++ []))) (id⊢ 𝓤 (run (word ∷ handle ∷ [])))) $
    enter ! 𝓣.C 𝓣.Λ function (word ∷ handle ∷ []) post $
    alloc_all ! (λ l. pass_all ! refl ((tt, (tt, tt)), (fits, tt)) $
    -- the pointer's field, and the struct of both
    sets ! (of_opd ! (get_in ! (fld ! refl (stop !)) (sub ! 0 refl (whole !)))) refl (tt, tt) $
    sets ! (agg ! (and_then ! (get ! refl) (and_then ! (get ! refl) (no_more !)))) refl
    (parts_fit Value Heap heap_laws ghosts block offset handle fits) $
    returns ! (look_at ! 0 refl) $ free_all ! refl $ keep ! (2 ∷ 0 ∷ 3 ∷ []) $
    -- what the result owns, and the `ensures`
    close_parts Value Heap heap_laws ghosts ! block offset handle alloc held $
    use0 𝓛 (raw (fact 𝓤 (self.held ≡ Some held))) (fact_i 𝓤 (self.held ≡ Some held) (emp 𝓤) held_is) $
    nothing ! $ nothing ! $ fjoin ! $ nothing ! $ fjoin ! $ move ! (3 ∷ 0 ∷ 2 ∷ 1 ∷ []) $
    by ! (leaves 𝓛 ended stays clauses z (two_words (vptr block offset) handle)
    (record { pointer = block_ptr block offset; alloc = alloc; value = held }) (tt, (tt, tt)) (tt, (tt, tt))))))))
