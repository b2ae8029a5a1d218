use Rattle.termwiz_bindings.proofs.lemmas.KeyNumbers.{stands}
use Rattle.termwiz_bindings.proofs.numbers.key_of.Goals as goal

pub returns-in_err-key_at : goal.returns-in_err-key_at
returns-in_err-key_at c = λ key. (
  λ is. absurd (cc (is, c.from_residual.ensures)),
  λ stands. absurd (cc (c.in_err-key_at.ensures.every key stands.0)),
)

pub returns : goal.returns
returns c = λ key.
    let both = stands c.args.number c.args.detail c.in_ok-key_at.field-0 c.in_ok-key_at.ensures.number
    c.in_ok-key_at.ensures.every key in
    let made = c.with_detail.ensures key in (
      λ is. both.0 (made.0 is),
      λ stands. made.1 (both.1 stands),
    )
