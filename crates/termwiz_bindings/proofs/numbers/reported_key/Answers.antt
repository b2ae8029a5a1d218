use Rattle.std.proofs.Common.{◌≡◌, ℕ, ◌≤◌, Option, Some, refl, sym, ap, arith}
use Rattle.termwiz_keys.specs.declared.types.KeyCode.{KeyCode}
use Rattle.termwiz_extended_events.specs.declared.types.ReportedKey.{ReportedKey}
use Rattle.termwiz_extended_events.specs.declared.types.ReportedKey.TheVariants.{Named, Functional}
use Rattle.termwiz_bindings.specs.Numbers.{StandFor, key_number}
use Rattle.termwiz_bindings.specs.Numbers.{StandForReported}
use Rattle.termwiz_bindings.proofs.lemmas.KeyNumbers.{number_within}
use Rattle.termwiz_bindings.proofs.numbers.reported_key.Goals as goal

pub returns-in-Some-clause-some : goal.returns-in-Some-clause-some
returns-in-Some-clause-some c = (c.in-Some.ensures c.in-Some.key).0 refl

-- a number that isn't 0, and stands for no key that has a name, stands for none
no_key : (number detail : ℕ) → ¬ (number ≡ 0) → ((named : KeyCode) → ¬ StandFor number detail named)
    → (key : ReportedKey) → ¬ StandForReported number detail key
no_key number detail other none (Named named) = none named
no_key number detail other none (Functional functional) = λ stands. other stands.0

pub returns-in-None-clause-none : goal.returns-in-None-clause-none
returns-in-None-clause-none c =
    no_key c.args.number c.args.detail c.if-number-eq0.false
    (λ named stands. absurd (cc ((c.in-None.ensures named).1 stands)))

-- 0 stands for the key without a name alone
only_functional : (number detail : ℕ) → number ≡ 0 → (key : ReportedKey) → StandForReported number detail key
    → ◌≡◌ {A = Option ReportedKey} (Some (Functional detail)) (Some key)
only_functional number detail zero (Named named) stands =
    let above : 1 ≤ key_number named = (number_within named).0 in
    let same : key_number named ≡ number = stands.0 in
    absurd (omega arith)
only_functional number detail zero (Functional functional) stands = ap (λ n. Some (Functional n)) (sym stands.1)

pub returns-then-number-eq0-clause-only : goal.returns-then-number-eq0-clause-only
returns-then-number-eq0-clause-only c = only_functional c.args.number c.args.detail c.if-number-eq0.true
