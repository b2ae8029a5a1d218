use Rattle.std.proofs.Common.{◌≡◌, ℕ, ◌+◌, ◌*◌, ◌^◌, ◌<◌, ◌≤◌, true, take, get_or, zero, suc, add-one, lit≤, sym, ap, ◌∙◌, arith}
use Rattle.std.specs.Char.{is_digit, digit_value}
use Rattle.std.specs.Str.Parse.{digits_value}
use Rattle.std.proofs.Math.Nat.{mul-le-mul_left, pow-suc}
use Rattle.std.proofs.lemmas.Bool.Decides.{nat_tests}
use Rattle.std.proofs.lemmas.Int.Digits.{digits_value_more}
use Rattle.std.proofs.lemmas.List.Folds.{list_all_more}
use Rattle.termwiz_bindings.proofs.names.numbers.value_in.Goals as goal

-- the powers of sixteen that stand for at most five digits
sixteen_power : (i : ℕ) → i < 6 → 16 ^ i ≤ 1048576
sixteen_power zero few = lit≤ tt
sixteen_power (suc zero) few = lit≤ tt
sixteen_power (suc (suc zero)) few = lit≤ tt
sixteen_power (suc (suc (suc zero))) few = lit≤ tt
sixteen_power (suc (suc (suc (suc zero)))) few = lit≤ tt
sixteen_power (suc (suc (suc (suc (suc zero))))) few = lit≤ tt
sixteen_power (suc (suc (suc (suc (suc (suc n)))))) few = absurd (omega arith)

passes_test : (d base : ℕ) → digit_value d < base → is_digit d base ≡ true
passes_test d base small = grind (arith, nat_tests)

-- one digit more
grown : (value base digit power : ℕ) → value < power → base ≤ 16 → digit < base → value * base + digit < power * 16
grown value base digit power below low small = omega (arith, mul-le-mul_left (value + 1) low)

pub overflow_mul-value : goal.overflow_mul-value
overflow_mul-value c =
    omega (arith, sixteen_power c.loop-byte.byte-index (omega arith), mul-le-mul_left c.loop-byte.value c.requires.most_base)

pub overflow_add-value : goal.overflow_add-value
overflow_add-value c =
    let digit : c.in_ok-digit.digit < c.args.base = grind (arith, c.in_ok-digit.ensures.value) in
    let more = grown c.loop-byte.value c.args.base c.in_ok-digit.digit (16 ^ c.loop-byte.byte-index) c.loop-byte.invariant.small
    c.requires.most_base digit in
    omega (arith, more, sixteen_power c.loop-byte.byte-index (omega arith))

pub loop-byte-preserved : goal.loop-byte-preserved
loop-byte-preserved c =
    let l = c.loop-byte in
    let inside = c.loop-byte-test.true in
    let digit : c.in_ok-digit.digit < c.args.base = grind (arith, c.in_ok-digit.ensures.value) in
    let told = c.in_ok-digit.ensures.value in
    let passes : is_digit (get_or c.args.digits.now l.byte-index 0) c.args.base ≡ true =
    passes_test (get_or c.args.digits.now l.byte-index 0) c.args.base (rw c.from.ensures at told.0) in
    record {
      digits = rw (list_all_more (λ d. is_digit d c.args.base) c.args.digits.now l.byte-index 0 inside, l.invariant.digits) passes;
      value_is = ap (λ n. n * c.args.base + c.in_ok-digit.digit) l.invariant.value_is
          ∙ ap (λ d. digits_value c.args.base (take l.byte-index c.args.digits.now) * c.args.base + d) (told.1 ∙ ap digit_value c.from.ensures)
          ∙ sym (digits_value_more c.args.base c.args.digits.now l.byte-index inside);
      small = rw (add-one l.byte-index, pow-suc 16 l.byte-index) (
          grown l.value c.args.base c.in_ok-digit.digit (16 ^ l.byte-index) l.invariant.small c.requires.most_base digit);
    }
