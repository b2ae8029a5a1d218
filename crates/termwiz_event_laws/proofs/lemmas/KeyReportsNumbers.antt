-- A number that digits write has no more digits in decimal than these.
use Rattle.std.proofs.Common.{◌≡◌, ℕ, ◌+◌, ◌-◌, ◌*◌, ◌^◌, ◌<◌, ◌≤◌, true, ◌&&◌, List, [], ◌∷◌, length, sym, subst, arith, nat_lt, nat_le, decimal, lit<, lt_trans, Some, None}
use Rattle.std.specs.Prelude.{if◌then◌else◌, fold}
use Rattle.std.specs.List.{list_all}
use Rattle.std.specs.Char.{IsScalar, is_ascii_digit}
use Rattle.std.proofs.Math.Nat.{pow-suc}
use Rattle.std.proofs.lemmas.Nat.{mul-le}
use Rattle.std.proofs.lemmas.Bool.{and_parts}
use Rattle.std.proofs.lemmas.Bool.Decides.{nat_tests}
use Rattle.std.proofs.lemmas.Fmt.{length-decimal-le}
use Rattle.std.proofs.lemmas.Option.{cond_some, option_and_then_some}
use Rattle.termwiz_grammar.specs.MouseReports.{value_of}
use Rattle.termwiz_extended_events.specs.declared.types.KeyEventKind.{KeyEventKind}
use Rattle.termwiz_extended_events.specs.declared.types.KeyEventKind.TheVariants.{Press, Repeat, Release}
use Rattle.termwiz_extended_events.specs.Numbers.{is_digits, number, number_within, is_scalar, scalar}
use Rattle.termwiz_kitty.proofs.lemmas.read_back.Decimals.{in_word, scalar_small}
use Rattle.termwiz_senders.specs.ReportTexts.{kind_number}

-- one digit more
one_more : (x m d power : ℕ) → d ≤ 57 → x < (m * 10 + (d - 48) + 1) * power → x < (m + 1) * (power * 10)
one_more x m d power h below =
    let wider : (m * 10 + (d - 48) + 1) * power ≤ (m * 10 + 10) * power = mul-le _ _ _ _ (omega arith) (omega arith) in
    omega (arith, below, wider)

-- how large a number is with digits behind it
grown : (m : ℕ) (ds : List ℕ) → list_all is_ascii_digit ds ≡ true
    → fold (λ n b. n * 10 + (b - 48)) m ds < (m + 1) * 10 ^ length ds
grown m [] e = omega arith
grown m (d ∷ ds) e =
    let both = and_parts (is_ascii_digit d) (list_all is_ascii_digit ds) e in
    let digit : is_ascii_digit d ≡ true = both.0 in
    let high : d ≤ 57 = grind (arith, nat_tests) in
    subst (λ z. fold (λ n b. n * 10 + (b - 48)) (m * 10 + (d - 48)) ds < (m + 1) * z) (sym (pow-suc 10 (length ds)))
    (one_more _ m d (10 ^ length ds) high (grown (m * 10 + (d - 48)) ds both.1))

pub below_power : (ds : List ℕ) → list_all is_ascii_digit ds ≡ true → value_of ds < 10 ^ length ds
below_power ds e = omega (arith, grown 0 ds e)

-- what digits of a number within limits are
pub record IsNumberOf (least limit n : ℕ) (ds : List ℕ) : Type 0 where
  pub value : value_of ds ≡ n
  pub some : 0 < length ds
  pub low : least ≤ n
  pub high : n ≤ limit
  pub digits : list_all is_ascii_digit ds ≡ true

pub number_parts : (most least limit : ℕ) (ds : List ℕ) (n : ℕ) → number_within most least limit ds ≡ Some n
    → IsNumberOf least limit n ds
unfolding number_within
number_parts most least limit ds n e =
    let found = cond_some (is_digits most ds && nat_le least (value_of ds) && nat_le (value_of ds) limit) (value_of ds) n e in
    let a = and_parts (is_digits most ds && nat_le least (value_of ds)) (nat_le (value_of ds) limit) found.0 in
    let b = and_parts (is_digits most ds) (nat_le least (value_of ds)) a.0 in
    let c = and_parts (nat_lt 0 (length ds) && nat_le (length ds) most) (list_all is_ascii_digit ds) b.0 in
    let d = and_parts (nat_lt 0 (length ds)) (nat_le (length ds) most) c.0 in
    let within : nat_le (value_of ds) limit ≡ true = a.1 in
    let above : nat_le least (value_of ds) ≡ true = b.1 in
    let some : nat_lt 0 (length ds) ≡ true = d.0 in
    let same : value_of ds ≡ n = found.1 in
    record {
      value = same;
      some = grind (arith, nat_tests);
      low = subst (λ v. least ≤ v) same (grind (arith, nat_tests));
      high = subst (λ v. v ≤ limit) same (grind (arith, nat_tests));
      digits = c.1;
    }

-- so the number in decimal is no longer
pub no_longer : (least limit n : ℕ) (ds : List ℕ) → IsNumberOf least limit n ds → n < 2000000 → length (decimal n) ≤ length ds
no_longer least limit n ds is small =
    length-decimal-le (length ds) n is.some (subst (λ v. v < 10 ^ length ds) is.value (below_power ds is.digits)) (in_word n small)

-- a number here has at most seven digits
pub at_most_seven : (n : ℕ) → n < 2000000 → length (decimal n) ≤ 7
at_most_seven n small = length-decimal-le 7 n (lit< tt) (lt_trans small (lit< tt)) (in_word n small)

-- the number of what happened to a key
pub kind_small : (kind : KeyEventKind) → kind_number kind < 2000000
kind_small Press = omega arith
kind_small Repeat = omega arith
kind_small Release = omega arith

-- the number of a character

pub record IsScalarOf (c : ℕ) (ds : List ℕ) : Type 0 where
  pub is : is_scalar c ≡ true
  pub short : length (decimal c) ≤ length ds

pub scalar_parts : (ds : List ℕ) (c : ℕ) → scalar ds ≡ Some c → IsScalarOf c ds
unfolding scalar
scalar_parts ds c e = option_and_then_some (λ n. if is_scalar n then Some n else None) (number 0 0x10ffff ds) c e
    (λ (n : ℕ) (read : number 0 0x10ffff ds ≡ Some n) (told : (if is_scalar n then Some n else None) ≡ Some c).
    let found = cond_some (is_scalar n) n c told in
    let whole = number_parts 7 0 0x10ffff ds n read in
    subst (λ k. IsScalarOf k ds) found.1
    (record { is = found.0; short = no_longer 0 0x10ffff n ds whole (omega (arith, whole.high)) }))

pub few_digits : (c : ℕ) → is_scalar c ≡ true → length (decimal c) ≤ 7
few_digits c e = at_most_seven c (omega (arith, scalar_small c e))

-- the characters of the protocol are those of std
pub scalar_from : (c : ℕ) → is_scalar c ≡ true → IsScalar c
scalar_from c e = grind (arith, nat_tests)
