use Rattle.std.proofs.Common.{◌≡◌, ◌||◌, ℕ, not, Option, Some, None, is_some, unwrap_or, refl, arith, rules, if◌then◌else◌}
use Rattle.termwiz_input.specs.declared.time.Age.TheVariants.{Last, Front}
use Rattle.termwiz_input.specs.Time.{age_at}
use Rattle.hedrugal.specs.Limits.{limit_in}
use Rattle.hedrugal.specs.TimerCalls.{number_if, timer_by}
use Rattle.hedrugal.proofs.timer_calls.CTimer.noted.Goals.{then-seen, else-seen, then-not-self, else-not-self, then-seen-2, else-seen-2}
use Rattle.hedrugal.proofs.timer_calls.CTimer.noted.Goals as goal

-- a number that is kept as a flag and a number
number_again : (number : Option ℕ) → number_if (is_some number) (unwrap_or number 0) ≡ number
number_again None = refl
number_again (Some number) = refl

pub returns-clause-noted : goal.returns-clause-noted
returns-clause-noted c = λ limited by.
    let last : c.if-seen.result ≡ (if c.args.seen.now.fed then 0 else age_at (timer_by c.args.self.now limited) Last c.args.now) =
    elim c.if-seen.branch [
      | then-seen w ↦ rw w.if-seen.true w.result-is
      | else-seen w ↦ rw w.if-seen.false (cc (w.result-is, c.age-last.ensures limited))
    ] in
    let value : c.if-seen-2.value ≡ (c.args.seen.now.taken || not c.args.self.now.holds) =
    elim c.if-seen-2.branch [
      | then-seen-2 w ↦ rw w.if-seen-2.true (cc (w.value-is, w.if-seen-2.true))
      | else-seen-2 w ↦ rw w.if-seen-2.false w.value-is
    ] in
    let front : c.if-not-self.result ≡ (if c.args.seen.now.taken || not c.args.self.now.holds then 0 else age_at (timer_by c.args.self.now limited) Front c.args.now) =
    rw (← value) (elim c.if-not-self.branch [
      | then-not-self w ↦ rw w.if-not-self.true w.result-is
      | else-not-self w ↦ rw w.if-not-self.false (cc (w.result-is, c.age-front.ensures limited))
    ]) in
    let limit : c.limit_in-limit.result ≡ limit_in c.args.seen.now.limit = search rules in
    let millis : number_if c.is_some.result c.from.result ≡ limit_in c.args.seen.now.limit =
    simp (c.is_some.ensures, c.from.ensures, c.unwrap_or.ensures, limit) (number_again _) in
    let empty : not (not c.args.seen.now.empty) ≡ c.args.seen.now.empty = grind arith in
    λ i. record {
      last = last i;
      front = front i;
      noted = Some c.args.now;
      limit = record { millis = millis i; by = by };
      empty = empty i;
    }
