-- The questions that a program has asked its terminal: which are open, what ends them, and what a text asks for.
use Rattle.std.specs.Prelude.{◌≡◌, ◌⊎◌, ℕ, ◌+◌, ◌-◌, ◌==◌, ◌&&◌, ◌||◌, ◌<◌, ◌≤◌, min, max, length, take, Bool, List, [], ◌∷◌, ◌++◌, nat_eq, nat_lt, sum_by, filter, map, slice_index, slice_range, Option, if◌then◌else◌}
use Rattle.std.specs.Char.{is_ascii_digit}
use Rattle.std.specs.List.{list_all, reduce, starts_with}
use Rattle.hedrugal.specs.declared.questions.CQuestion.{CQuestion}
use Rattle.hedrugal.specs.declared.questions.CQuestions.{CQuestions}
use Rattle.hedrugal.specs.declared.questions.TheConstants.{MOST}

-- the questions that are held, the oldest first
abbrev pub held_by : CQuestions → List CQuestion
held_by questions = take questions.count questions.open

-- no more are counted than may be held
abbrev pub IsWithinMost : CQuestions → Type 0
IsWithinMost questions = questions.count ≤ MOST

-- more are
abbrev pub HasTooMany : CQuestions → Type 0
HasTooMany questions = MOST < questions.count

-- it isn't overdue
abbrev pub is_open_at : ℕ → CQuestion → Bool
is_open_at now question = nat_lt now question.until

-- those that aren't overdue, in their order
abbrev pub open_at : ℕ → List CQuestion → List CQuestion
open_at now questions = filter (is_open_at now) questions

-- nothing but the questions that are held changed
abbrev pub HasOthersOf : CQuestions → CQuestions → Type 0
HasOthersOf before after = (after.asked ≡ before.asked) × (after.answered ≡ before.answered) × (after.slowest ≡ before.slowest)

-- how many positions of the cursor are still to come for them, of which a parser expects at most 255
abbrev pub positions_to_come : List CQuestion → ℕ
positions_to_come questions = min (sum_by (λ question. question.positions) questions) 255

-- ESC [6n, which asks for the position of the cursor
abbrev pub position_question : List ℕ
position_question = 27 ∷ 91 ∷ 54 ∷ 110 ∷ []

-- how often ESC [6n stands in a text
abbrev pub position_questions : List ℕ → ℕ
position_questions [] = 0
position_questions (b ∷ text) =
    (if starts_with nat_eq (b ∷ text) position_question then 1 else 0) + position_questions text

-- how many positions a text asks for, at most what 32 bits hold
abbrev pub positions_asked : List ℕ → ℕ
positions_asked text = min (position_questions text) 0xFFFF_FFFF

-- from when on a question is overdue: after so many milliseconds, at least 2000, or at the last time that there is
abbrev pub end_after : ℕ → ℕ → ℕ
end_after now milliseconds = min (now + max milliseconds 2000) 0xFFFF_FFFF_FFFF_FFFF

-- events of these kinds are replies: the position of the cursor, keyboard flags, sequences, strings, and their parts and cuts
abbrev pub is_reply_kind : ℕ → Bool
is_reply_kind kind =
    kind == 7 || (kind == 9 || (kind == 10 || (kind == 11 || (kind == 12 || (kind == 13 || (kind == 15 || kind == 16))))))

-- a digit or ;
abbrev pub is_of_numbers : ℕ → Bool
is_of_numbers b = is_ascii_digit b || b == 59

-- what the reply to DA1 brings: ? and a digit, then digits and ; up to c
abbrev pub is_da1_reply : List ℕ → Bool
is_da1_reply bytes =
    nat_lt 2 (length bytes) && (slice_index bytes 0 == 63 && (slice_index bytes (length bytes - 1) == 99
    && (is_ascii_digit (slice_index bytes 1) && list_all is_of_numbers (slice_range bytes 1 (length bytes - 1)))))

-- A position came: the oldest question with positions to come has one less.
abbrev pub after_position : List CQuestion → List CQuestion
after_position [] = []
after_position (question ∷ questions) =
    if nat_lt 0 question.positions then record question { positions = question.positions - 1 } ∷ questions
    else question ∷ after_position questions

-- how many milliseconds are left until it is overdue
abbrev pub left_of : ℕ → CQuestion → ℕ
left_of now question = question.until - now

-- how many are left until the first of them is overdue; none if there are no questions
abbrev pub time_left : ℕ → List CQuestion → Option ℕ
time_left now questions = reduce min (map (left_of now) questions)

-- a question that is asked now
abbrev pub question_asked : CQuestions → ℕ → ℕ → List ℕ → CQuestion
question_asked before now milliseconds text = record {
  number = before.asked + 1;
  asked = now;
  until = end_after now milliseconds;
  positions = positions_asked text;
}

-- as many questions are open as may be, or there is no further number
abbrev pub IsFull : CQuestions → ℕ → Type 0
IsFull questions now = (MOST ≤ length (open_at now (held_by questions))) ⊎ (questions.asked ≡ 0xFFFF_FFFF_FFFF_FFFF)

-- a question is asked: it has the next number, and is behind those that aren't overdue
abbrev pub Asks : CQuestions → ℕ → ℕ → List ℕ → CQuestions → Type 0
Asks before now milliseconds text after =
    (held_by after ≡ open_at now (held_by before) ++ question_asked before now milliseconds text ∷ [])
    × (after.asked ≡ before.asked + 1) × (after.answered ≡ before.answered) × (after.slowest ≡ before.slowest) × IsWithinMost after

-- the event answers a question: one is open, and it is the reply to DA1
abbrev pub is_answer : CQuestions → ℕ → List ℕ → Bool
is_answer questions kind bytes = nat_lt 0 questions.count && (kind == 10 && is_da1_reply bytes)

-- the oldest question is answered now, and isn't open any more
abbrev pub Answers : CQuestions → ℕ → CQuestions → Type 0
Answers before now after = (oldest : CQuestion)
    × (held_by before ≡ oldest ∷ held_by after) × (after.asked ≡ before.asked) × (after.answered ≡ oldest.number)
    × (after.slowest ≡ max before.slowest (now - oldest.asked)) × IsWithinMost after

-- those that are open after an event that answers none
abbrev pub after_event : ℕ → List CQuestion → List CQuestion
after_event kind questions = if kind == 7 then after_position questions else questions

-- which question an event of a kind is a reply to: the oldest that is open; 0 if it is none
abbrev pub replied_to : List CQuestion → ℕ → ℕ
replied_to (oldest ∷ questions) kind = if is_reply_kind kind then oldest.number else 0
replied_to [] kind = 0
