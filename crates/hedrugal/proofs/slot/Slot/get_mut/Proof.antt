-- `get_mut` lends the value in its block. The rest of the box stays with the pointer until the loan ends.
use Rattle.hedrugal.proofs.Walks.{◌≡◌, ℕ, List, [], ◌∷◌, refl, sym, Some, is_some, true, bare, a_type, dcons, dnil, named, inst_fn, Val, vptr, full_share, SProp, emp, ent, sep, id⊢, Fml, GName, ftrue, fsep, flft, Ura, Logic, sem, ‵, raw, ◌⊛◌, some, later, at_ret, ◌$◌, ◌∵◌, !, qed, done, move, keep, drop, split, split3, join, fsplit, fsplit3, fjoin, fpack, pick, use0, use1, await, rewrite, suffices, frame, group, stop, fld, load, addr, of_opd, first, blocks, exec, returns, enter, alloc_all, pass_all, free_all, look_at, get, through, sets, sets_last, env, whole, sub, look_in, fact, fact_i, tables, no, follows, Part, lends_Part, part_at, cell_at, lone, mem, RattleType, owns, Ptr, block_ptr, MutRef, mut_vals, mut_Tells, plain, mut_ref_to, nothing, heard, opens, says, Stays, stay_dropped, walk_of, ends_at, Goes-spent_ref, after, proved, ghosts, heap, owned, ◌⊑◌, param, bounded, one_word, open_held, close_owned}
use denote.Memory.{part_of}
use Rattle.hedrugal.specs.Lent.{with_held}
use Rattle.hedrugal.specs.contracts.slot.Slot as slot
use Rattle.hedrugal.specs.contracts.slot.Slot.get_mut as it
use Rattle.hedrugal.proofs.slot.Slot.get_mut.Statement.{statement}
use Rattle.hedrugal.proofs.slot.Slot.get_mut.Code as code

-- what stays with the pointer during the loan: the right to free the block at (b', o'), and its own word at (b, o)
abbrev Kept : RattleType → ℕ → ℕ → ℕ → ℕ → Fml
Kept R b o b' o' = fsep (ghosts.dealloc_token heap (bare (lone R.mir)) (block_ptr b' o'))
    (cell_at full_share (slot.the_row R).mir (one_word (block_ptr b' o') ∷ []) b o)

-- that and the value of the block at the loan's end are a pointer that owns this value
whole_again : {M : Type 1} {𝓤 : Ura M} (𝓛 : Logic 𝓤) (R : RattleType) (self : (slot.the_row R).Denot) (b o b' o' : ℕ)
    → self.pointer ≡ block_ptr b' o' → (x : R.Denot)
    → ent 𝓤 (sep 𝓤 (sem 𝓛 ((mem R).own_at x b' o')) (sem 𝓛 (Kept R b o b' o')))
    (sem 𝓛 ((mem (slot.the_row R)).own_at (with_held self x) b o))
unfolding part_of
whole_again {𝓤 = 𝓤} 𝓛 R self b o b' o' lies x = let at = block_ptr b' o' in let Place = slot.the_row R in
    let made : Ptr → Place.Denot = λ p. record { pointer = p; held = Some x } in
    qed 𝓛 (‵ (part_at R full_share x b' o') ∷ ‵ (Kept R b o b' o') ∷ []) ∵ move ! (1 ∷ []) $ fsplit ! $
    move ! (2 ∷ 0 ∷ []) $ fjoin ! $ use1 𝓛 (‵ (owned R at (Some x))) (id⊢ 𝓤 _) $ close_owned R ! at (Some x) $
    move ! (1 ∷ 0 ∷ []) $ fjoin ! $
    fpack ! (List Val) (λ us. fsep (cell_at full_share Place.mir us b o) (Place.own_val (made at) us)) (one_word at ∷ []) $
    rewrite ! 0 (λ (p : Ptr). ‵ ((mem Place).own_at (made p) b o)) (sym lies) refl $ done !

pub get_mut_spec : {M : Type 1} → statement M
get_mut_spec 𝓤 𝓛 𝓜 𝓡 wired T laws d glue =
    let 𝓣 = tables 𝓤 𝓛.H 𝓜 𝓡 𝓡.env in
    let Value : RattleType = param 0 T in
    let Place : RattleType = slot.the_row Value in
    let ended = it.ended T d in
    let clauses = it.clauses T d 𝓛 𝓜.mem 𝓡.returns in
    let at_types = bounded (a_type ∷ []) (T, tt) (dcons d dnil) in
    let function = inst_fn at_types code.function in
    let stays : Stays ended.signature.params ended.kept =
    (stay_dropped (mut_ref_to (0 ∷ []) tt (plain (λ _. Place))) no, tt) in
    proved 𝓛 ended stays clauses 𝓜 𝓡 (Goes-spent_ref 𝓛 2 (0 ∷ []) tt (plain (λ _. Place)), tt) (it.Key.name at_types)
    function (code.unfolded 𝓤 𝓛.H 𝓜 𝓡 wired (T, tt) d)
    (λ κs. (mut_vals, tt)) (λ κs. (mut_Tells (named 0) κs.0 Place, tt)) (λ κs qs bounds a ghost are.
    let self = a.0.now in let b = a.0.ref_ptr.0 in let o = a.0.ref_ptr.1 in let vs = mut_vals a.0 in
    let y : (walk_of 𝓛 ended stays clauses).Ghost = ((κs, qs, bounds, a, (vs, tt)), ghost) in
    let post : Val → SProp 𝓤 = (walk_of 𝓛 ended stays clauses).post y in
    let alive = ‵ (flft κs.0 qs.0) ⊛ ‵ (flft κs.1.0 qs.1.0) ⊛ ‵ ftrue in
    qed 𝓛 ((alive ⊛ ‵ (owns (MutRef (named 0) κs.0 Place ∷ []) a (vs, tt))) ∷ raw ((clauses κs a).requires ghost) ∷ []) ∵
    move ! (1 ∷ []) $
    use1 𝓛 (raw (fact 𝓤 (κs.1.0 ⊑ T.lives)) ⊛ raw (fact 𝓤 (is_some self.held ≡ true))) (id⊢ 𝓤 _) $ split ! $ drop ! $
    heard ! (is_some self.held ≡ true) (λ has_one.
    enter ! 𝓣.C 𝓣.Λ function (vptr b o ∷ []) post $ alloc_all ! (λ l. pass_all ! refl ((tt, tt), tt) $
    -- the borrow is open: what the pointer owns, and its word in memory
    split ! $ move ! (1 ∷ []) $ fsplit ! $ fsplit3 ! $ drop ! $ move ! (3 ∷ []) $ split ! $ move ! (2 ∷ 3 ∷ 0 ∷ []) $
    opens ! tt Place b o (λ us. move ! (1 ∷ []) $ open_held Value ! self.pointer self.held us has_one
    (λ b' o' x held_is lies word_is.
    fsplit ! $ rewrite ! 2 (λ (ws : List Val). ‵ (cell_at full_share Place.mir ws b o)) word_is refl $
    sets ! (of_opd ! (load ! (through ! refl (fld ! refl (stop !))) (look_in ! 2 (sub ! 0 refl (whole !))))) refl (tt, tt) $
    first ! $ blocks ! $ sets_last ! (addr ! (through ! refl (stop !))) refl (tt, tt) $
    exec ! 𝓣.C 𝓣.Λ (env function.locals l) (after 2 function.body) (at_ret (env function.locals l) post) $
    sets ! (of_opd ! (get ! refl)) refl (tt, tt) $
    -- the loan of the block begins
    move ! (1 ∷ 2 ∷ []) $ fjoin ! $ move ! (2 ∷ 3 ∷ 4 ∷ 1 ∷ 0 ∷ []) $ group ! 5 $
    use1 𝓛 (later (some (λ (γ : GName). raw (Part 𝓛 Place Value (with_held self) (named 0) κs.0 qs.0
    b o b' o' a.0.ghost_name (sem 𝓛 (Kept Value b o b' o')) (whole_again 𝓛 Value self b o b' o' lies) x γ))))
    (lends_Part 𝓛 Place Value (with_held self) (named 0) κs.0 qs.0 b o b' o' a.0.ghost_name
    (sem 𝓛 (Kept Value b o b' o')) (whole_again 𝓛 Value self b o b' o' lies) (Place.coded.code self)
    (Place.coded.code self) x) $ await ! tt $ pick ! (λ γ.
    returns ! (look_at ! 0 refl) $ free_all ! refl $ keep ! (0 ∷ 1 ∷ []) $
    let lent : (MutRef (named 0) κs.0 Value).Denot = record { ref_ptr = (b', o'); ghost_name = γ; now = x } in
    use1 𝓛 (‵ ((MutRef (named 0) κs.0 Value).own_val lent (vptr b' o' ∷ []))
    ⊛ ‵ (flft κs.0 qs.0) ⊛ ‵ (follows Place Value a.0.ghost_name γ (with_held self))) (id⊢ 𝓤 _) $ split3 ! $
    suffices ! _ (ends_at 𝓛 ended stays clauses y (vptr b' o') lent (tt, tt) (tt, tt)) $
    nothing ! $ nothing ! $ fjoin ! $ join ! $ move ! (1 ∷ 3 ∷ 0 ∷ []) $ join ! $ join ! $ frame ! $ frame ! $
    says ! (λ i. record self { held = sym held_is i }) $
    use0 𝓛 (raw (fact 𝓤 (self.held ≡ Some x))) (fact_i 𝓤 (self.held ≡ Some x) (emp 𝓤) held_is) $ done !))))))
