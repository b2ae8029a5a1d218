use Rattle.std.proofs.Common.{◌≡◌, ◌-◌, ◌≤◌, ◌∙◌, List, ℕ, length, drop, refl, subst, sym}
use Rattle.std.proofs.lemmas.List.{take_rest}
use Rattle.termwiz_grammar.specs.WaitingKinds.{IsOpenPaste}
use Rattle.termwiz_grammar.specs.PasteParts.{IsHeld}
use Rattle.termwiz_input.specs.HeldLengths.{IsDecidedTo}
use Rattle.termwiz_input.proofs.lemmas.pastes.HeldBack.{decided}
use Rattle.termwiz_input.proofs.input.InputParser.decided_end.Goals as goal

pub returns-clause-decided : goal.returns-clause-decided
returns-clause-decided c =
    let text : List ℕ = c.waiting_text-text.result.now in
    let same : text ≡ c.args.self.now = c.waiting_text-text.ensures ∙ c.awaits_paste_end.ensures.same in
    let n : ℕ = c.held_len.result in
    let rest = take_rest text 6 in
    let few : n ≤ length (drop 6 text) = subst (λ t. n ≤ length t) rest c.held_len.ensures.within in
    let held : IsHeld (drop 6 text) (drop (length (drop 6 text) - n) (drop 6 text)) =
    subst (λ t. IsHeld t (drop (length t - n) t)) rest c.held_len.ensures.held in
    let paste : IsOpenPaste text = subst IsOpenPaste (sym same) (c.awaits_paste_end.ensures.open.0 c.if-not-awaits_paste_end.false) in
    subst (λ u. IsDecidedTo u (length text - n)) same (decided text n (length text - n) paste few refl held)
