-- Steps of the loops over questions, and over a text that asks.
use Rattle.std.proofs.Common.{◌≡◌, ◌∙◌, ℕ, ◌+◌, ◌-◌, ◌<◌, ◌≤◌, true, false, List, ◌∷◌, ◌++◌, [], length, take, drop, get_or, set, nat_eq, refl, sym, ap, subst, add-one, zero-add, arith, le-ltb, lt-ltb}
use Rattle.std.specs.List.{starts_with}
use Rattle.std.proofs.lemmas.List.{at_drop_more, drop_more, get_or_default, set_split, take_more_set}
use Rattle.std.proofs.lemmas.List.Filters.{FiltersInPlace, FiltersInPlace-more_no, FiltersInPlace-more_set}
use Rattle.hedrugal.specs.declared.questions.CQuestion.{CQuestion}
use Rattle.hedrugal.specs.Questions.{after_position, is_open_at, position_question, position_questions}

-- the oldest question with positions to come is this one, and it has one less
pub one_position_less : (questions : List CQuestion) (i : ℕ) (d : CQuestion) → i < length questions
    → 0 < (get_or questions i d).positions → after_position questions ≡ take i questions ++ after_position (drop i questions)
    → set questions i (record (get_or questions i d) { positions = (get_or questions i d).positions - 1 }) ≡ after_position questions
one_position_less questions i d inside some rest =
    let one : CQuestion = get_or questions i d in
    let less : CQuestion = record one { positions = one.positions - 1 } in
    let positive = lt-ltb 0 one.positions some in
    let head : after_position (one ∷ drop (i + 1) questions) ≡ less ∷ drop (i + 1) questions = rw positive refl in
    let at : after_position (drop i questions) ≡ less ∷ drop (i + 1) questions = at_drop_more after_position questions i d inside ∙ head in
    let split : set questions i less ≡ take i questions ++ less ∷ drop (i + 1) questions = rw add-one (set_split questions i less inside) in
    split ∙ sym (rest ∙ ap (λ (more : List CQuestion). take i questions ++ more) at)

-- one more place of a text is looked at
pub asked_here : (text : List ℕ) (i n : ℕ) → i < length text → starts_with nat_eq (drop i text) position_question ≡ true
    → n + position_questions (drop i text) ≡ position_questions text → n + 1 + position_questions (drop (i + 1) text) ≡ position_questions text
asked_here text i n inside here before =
    let all = drop_more text i 0 inside in
    let starts : starts_with nat_eq (get_or text i 0 ∷ drop (i + 1) text) position_question ≡ true =
    subst (λ (more : List ℕ). starts_with nat_eq more position_question ≡ true) all here in
    let step : position_questions (get_or text i 0 ∷ drop (i + 1) text) ≡ 1 + position_questions (drop (i + 1) text) = rw starts refl in
    let same : position_questions (drop i text) ≡ 1 + position_questions (drop (i + 1) text) = ap position_questions all ∙ step in
    omega (arith, same, before)

pub not_asked_here : (text : List ℕ) (i n : ℕ) → i < length text → starts_with nat_eq (drop i text) position_question ≡ false
    → n + position_questions (drop i text) ≡ position_questions text → n + position_questions (drop (i + 1) text) ≡ position_questions text
not_asked_here text i n inside none before =
    let all = drop_more text i 0 inside in
    let starts : starts_with nat_eq (get_or text i 0 ∷ drop (i + 1) text) position_question ≡ false =
    subst (λ (more : List ℕ). starts_with nat_eq more position_question ≡ false) all none in
    let step : position_questions (get_or text i 0 ∷ drop (i + 1) text) ≡ position_questions (drop (i + 1) text) = rw starts (zero-add _) in
    let same : position_questions (drop i text) ≡ position_questions (drop (i + 1) text) = ap position_questions all ∙ step in
    omega (arith, same, before)

-- one more question is looked at: it stays, or is overdue
pub kept_here : (now : ℕ) (before questions : List CQuestion) (k i : ℕ) (d : CQuestion)
    → FiltersInPlace (is_open_at now) before questions k i → i < length questions → now < (get_or questions i d).until
    → FiltersInPlace (is_open_at now) before (set questions k (get_or questions i d)) (k + 1) (i + 1)
kept_here now before questions k i d kept inside is_open =
    let one : CQuestion = get_or questions i d in
    FiltersInPlace-more_set kept inside (lt-ltb now one.until is_open) (get_or_default questions i d one inside)

pub not_kept_here : (now : ℕ) (before questions : List CQuestion) (k i : ℕ) (d : CQuestion)
    → FiltersInPlace (is_open_at now) before questions k i → i < length questions → (get_or questions i d).until ≤ now
    → FiltersInPlace (is_open_at now) before questions k (i + 1)
not_kept_here now before questions k i d kept inside overdue =
    let one : CQuestion = get_or questions i d in
    FiltersInPlace-more_no {x = one} kept inside (le-ltb now one.until overdue) (get_or_default questions i d one inside)

-- one more question is held
pub one_more_held : (questions : List CQuestion) (count : ℕ) (one : CQuestion) → count < length questions
    → take (count + 1) (set questions count one) ≡ take count questions ++ one ∷ []
one_more_held questions count one inside = take_more_set questions count one inside
