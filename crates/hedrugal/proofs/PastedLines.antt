-- The lines of a paste, a byte later.
use Rattle.std.proofs.Common.{◌≡◌, ◌∙◌, ℕ, ◌<◌, ◌≤◌, suc, Bool, ◌==◌, List, [], ◌∷◌, ◌++◌, length, drop, get_or, Option, Some, None, refl, sym, ap, append-nil, append_assoc}
use Rattle.std.proofs.lemmas.List.{drop_all}
use Rattle.std.proofs.Math.Seq.{drop-cons}
use Rattle.hedrugal.specs.PasteLines.{line_byte, lines, with_byte}

-- the lines from a byte on
lines_from : (behind_cr : Bool) (text : List ℕ) (i d : ℕ) → i < length text
    → lines behind_cr (drop i text) ≡ with_byte (line_byte behind_cr (get_or text i d)) (lines (get_or text i d == 13) (drop (suc i) text))
unfolding lines
lines_from behind_cr text i d inside = rw (drop-cons text i d inside) refl

pub byte_written : (all written text : List ℕ) (behind_cr : Bool) (i d b : ℕ) → i < length text → all ≡ written ++ lines behind_cr (drop i text)
    → line_byte behind_cr (get_or text i d) ≡ Some b → all ≡ (written ++ b ∷ []) ++ lines (get_or text i d == 13) (drop (suc i) text)
byte_written all written text behind_cr i d b inside is one =
    let rest = lines (get_or text i d == 13) (drop (suc i) text) in
    is ∙ ap (λ (more : List ℕ). written ++ more) (lines_from behind_cr text i d inside ∙ ap (λ (o : Option ℕ). with_byte o rest) one)
    ∙ sym (append_assoc written (b ∷ []) rest)

pub byte_left_out : (all written text : List ℕ) (behind_cr : Bool) (i d : ℕ) → i < length text → all ≡ written ++ lines behind_cr (drop i text)
    → line_byte behind_cr (get_or text i d) ≡ None → all ≡ written ++ lines (get_or text i d == 13) (drop (suc i) text)
byte_left_out all written text behind_cr i d inside is none =
    let rest = lines (get_or text i d == 13) (drop (suc i) text) in
    is ∙ ap (λ (more : List ℕ). written ++ more) (lines_from behind_cr text i d inside ∙ ap (λ (o : Option ℕ). with_byte o rest) none)

pub all_written : (all written text : List ℕ) (behind_cr : Bool) (i : ℕ) → length text ≤ i → all ≡ written ++ lines behind_cr (drop i text) → all ≡ written
unfolding lines
all_written all written text behind_cr i past is =
    is ∙ ap (λ (rest : List ℕ). written ++ lines behind_cr rest) (drop_all i text past) ∙ append-nil written
