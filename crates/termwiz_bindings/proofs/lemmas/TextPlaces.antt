-- A part of a text between two places, and the byte behind it.
use Rattle.std.proofs.Common.{◌≡◌, ◌∙◌, ℕ, ◌+◌, ◌-◌, ◌<◌, ◌≤◌, suc, List, [], ◌∷◌, ◌++◌, length, take, drop, get_or, drop-cons, length-drop, sym, ap, arith}
use Rattle.std.proofs.lemmas.List.{take-append-drop, take_all, take_more, length-take-le, get_or-drop}
use Rattle.std.proofs.Math.Seq.{drop-drop}

-- what is behind a place
pub rest_of : (text : List ℕ) (n : ℕ) → take (length text - n) (drop n text) ≡ drop n text
rest_of text n = take_all (length text - n) (drop n text) (omega (arith, length-drop n text))

module _ (text : List ℕ) (start i : ℕ) (behind : start ≤ i) where
  abbrev part : List ℕ
  part = take (i - start) (drop start text)

  -- the part, and what follows it
  pub part_and_rest : part ++ drop i text ≡ drop start text
  part_and_rest =
      let place : start + (i - start) ≡ i = omega arith in
      ap (λ n. part ++ drop n text) (sym place) ∙ ap (λ l. part ++ l) (sym (drop-drop (i - start) start text))
      ∙ take-append-drop (i - start) (drop start text)

  -- up to the end
  pub part_to_end : length text ≤ i → part ≡ drop start text
  part_to_end past = take_all (i - start) (drop start text) (omega (arith, length-drop start text))

  module _ (b : ℕ) (inside : i < length text) (byte : b ≡ get_or text i 0) where
    pub byte_and_rest : drop i text ≡ b ∷ drop (i + 1) text
    byte_and_rest =
        drop-cons text i 0 inside ∙ ap (λ c. c ∷ drop (suc i) text) (sym byte)
        ∙ ap (λ n. b ∷ drop n text) {x = suc i} {y = i + 1} (omega arith)

    pub part_length : length part ≡ i - start
    part_length = length-take-le (i - start) (drop start text) (omega (arith, length-drop start text))

    pub part_grown : part ++ b ∷ [] ≡ take (i + 1 - start) (drop start text)
    part_grown =
        let place : start + (i - start) ≡ i = omega arith in
        let last : get_or (drop start text) (i - start) 0 ≡ b =
        get_or-drop start text (i - start) 0 ∙ ap (λ n. get_or text n 0) place ∙ sym byte in
        let more : i + 1 - start ≡ (i - start) + 1 = omega arith in
        ap (λ c. part ++ c ∷ []) (sym last)
        ∙ sym (take_more (drop start text) (i - start) 0 (omega (arith, length-drop start text)))
        ∙ ap (λ n. take n (drop start text)) (sym more)
