use Rattle.keyshow.proofs.Numerals.{one_piece}
use Rattle.keyshow.proofs.show.Goals as goal

pub returns-in_default-clause-ahead : goal.returns-in_default-clause-ahead
returns-in_default-clause-ahead g c = λ piece h.
    let e = one_piece _ _ _ c.piece_of.ensures.piece h in
    absurd (cc)
