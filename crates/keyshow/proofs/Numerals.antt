-- Words that are numbers.
use Rattle.std.proofs.Common.{◌≡◌, ◌∙◌, ℕ, ◌<◌, ◌^◌, List, [], ◌∷◌, length, get_or, Option, Some, None, Err, refl, sym, ap, arith}
use Rattle.std.specs.Prelude.{Result}
use Rattle.std.specs.Int.{IsInRange}
use Rattle.std.specs.Str.Parse.{ParsesUnsigned, digits_value}
use Rattle.std.proofs.lemmas.Str.Parse.{IsNumeralModel, numerals_by_value, tells_by_index, parse_gives}
use Rattle.keyshow.specs.Words.{IsPiece, PieceOf}

digits_numeral : IsNumeralModel (λ ds. (i : ℕ) → i < length ds → IsInRange 48 57 (get_or ds i 0)) (digits_value 10)
digits_numeral = numerals_by_value (λ ds. (i : ℕ) → i < length ds → IsInRange 48 57 (get_or ds i 0)) tells_by_index

-- no word that is a piece is refused
pub piece-parses : {E : Type 0} (word : List ℕ) (r : Result ℕ E) (e : E) → ParsesUnsigned 64 10 word r → r ≡ Err e
    → ¬ IsPiece word
piece-parses word r e parses refused piece =
    let small : digits_value 10 word < 2 ^ 64 = omega (arith, piece.most) in
    let parsed = parse_gives digits_numeral 64 word r parses (λ i l. piece.digits i 0 l) piece.some small in
    absurd (cc)

-- the words give one piece
pub one_piece : (words : List (List ℕ)) (a b : Option ℕ) → PieceOf words a → PieceOf words b → a ≡ b
one_piece [] a b one other = one ∙ sym other
one_piece (word ∷ []) None None one other = refl
one_piece (word ∷ []) None (Some n) one other = absurd (one other.0)
one_piece (word ∷ []) (Some m) None one other = absurd (other one.0)
one_piece (word ∷ []) (Some m) (Some n) one other = ap Some (one.1 ∙ sym other.1)
one_piece (first ∷ second ∷ others) a b one other = one ∙ sym other
