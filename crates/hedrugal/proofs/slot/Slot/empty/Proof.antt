-- `empty` makes a struct of the null pointer, which owns nothing.
use Rattle.hedrugal.proofs.Walks.{◌≡◌, [], ◌∷◌, refl, None, Val, SProp, emp, ftrue, ‵, raw, ◌⊛◌, ◌$◌, ◌∵◌, !, qed, by, keep, split, move, use0, lit, no_more, and_then, returns, enter, alloc_all, pass_all, free_all, look_at, sets, agg, fact, fact_i, tables, owns, types_at, null_ptr, nothing, Stays, walk_of, Ptr-Good, proved_at, leaves, one_word, close_owned, a_type, dcons, dnil, inst_fn, flft, RattleType, param, bounded}
use Rattle.hedrugal.specs.contracts.slot.Slot.empty as it
use Rattle.hedrugal.proofs.slot.Slot.empty.Statement.{statement}
use Rattle.hedrugal.proofs.slot.Slot.empty.Code as code

pub empty_spec : {M : Type 1} → statement M
empty_spec 𝓤 𝓛 𝓜 𝓡 wired T laws d glue =
    let 𝓣 = tables 𝓤 𝓛.H 𝓜 𝓡 𝓡.env in
    let Value : RattleType = param 0 T in
    let ended = it.ended T d in
    let clauses = it.clauses T d 𝓛 𝓜.mem 𝓡.returns in
    let at_types = bounded (a_type ∷ []) (T, tt) (dcons d dnil) in
    let function = inst_fn at_types code.function in
    let stays : Stays ended.signature.params ended.kept = tt in
    proved_at 𝓛 ended stays clauses 𝓜 𝓡 tt (it.Key.name at_types) function
    (code.unfolded 𝓤 𝓛.H 𝓜 𝓡 wired (T, tt) d) (λ z are.
    let post : Val → SProp 𝓤 = (walk_of 𝓛 ended stays clauses).post z in
    let alive = ‵ (flft z.0.0.0 z.0.1.0) ⊛ ‵ ftrue in
    -- there is no parameter
    qed 𝓛 ((alive ⊛ ‵ (owns (types_at ended.signature.params z.0.0) z.0.3 z.0.4))
    ∷ raw ((clauses z.0.0 z.0.3).requires z.1) ∷ []) ∵ split ! $ keep ! (0 ∷ []) $
    enter ! 𝓣.C 𝓣.Λ function [] post $ alloc_all ! (λ l. pass_all ! refl tt $
    -- the result is the struct of the null pointer
    sets ! (agg ! (and_then ! (lit ! tt) (no_more !))) refl (tt, ((Ptr-Good null_ptr).1, tt)) $
    returns ! (look_at ! 0 refl) $ free_all ! refl $
    -- the `ensures`, and what the result owns
    use0 𝓛 (raw (fact 𝓤 (None ≡ None))) (fact_i 𝓤 (None ≡ None) (emp 𝓤) refl) $
    nothing ! $ close_owned Value ! null_ptr None $ nothing ! $ move ! (3 ∷ 0 ∷ 1 ∷ 2 ∷ []) $
    by ! (leaves 𝓛 ended stays clauses z (one_word null_ptr) (record { pointer = null_ptr; held = None }) tt tt)))
