use Rattle.std.proofs.Common.{◌≡◌, Bool, true, false, refl, rules}
use Rattle.termwiz_timed.specs.Timed.{more_comes}
use Rattle.termwiz_timed.proofs.lemmas.StepsTaken.{told_item}
use Rattle.termwiz_timed.proofs.parser.TimedParser.emit_character.Goals as goal

by_answer : {P : Type 0} (answer : Bool) → (answer ≡ true → P) → (answer ≡ false → P) → P
by_answer true told none = told refl
by_answer false told none = none refl

pub shape_of-self-inside : goal.shape_of-self-inside
shape_of-self-inside g c = by_answer c.emit_character.result
    (λ is. let taken = (c.emit_character.ensures.emitted (search rules) (more_comes c.args.self.now.stage)).0.taken in search rules)
    (λ is. let none = c.emit_character.ensures.none_sink is in search rules)

pub returns-then-emit_character-clause-told : goal.returns-then-emit_character-clause-told
returns-then-emit_character-clause-told g c = λ done.
    let light = c.emit_character.ensures.emitted (search rules) (more_comes c.args.self.now.stage) in
    let emitted = light.0 in
    let steps = emitted.steps in
    let reading = emitted.reading in
    let taken = emitted.taken in (
      emitted.event,
      search rules,
      told_item c.args.self.now c.note_gone.new.self emitted.event (search rules) (search rules),
      light.1,
    )
