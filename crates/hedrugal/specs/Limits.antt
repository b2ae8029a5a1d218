-- Limits in time, and that of parts, as C has them.
use Rattle.std.specs.Ordering.{int_eq}
use Rattle.std.specs.Prelude.{ℕ, ℤ, ◌==◌, ◌||◌, pos, negsuc, min, int_lt, unsigned_abs, Bool, Option, Some, None, if◌then◌else◌}
use Rattle.termwiz_input.specs.declared.time.Policy.{Policy}
use Rattle.termwiz_input.specs.Time.{usual}
use Rattle.hedrugal.specs.declared.policy.CPolicy.{CPolicy}

-- a limit in milliseconds; none for a negative number
abbrev pub limit_in : ℤ → Option ℕ
limit_in millis = if int_lt millis (pos 0) then None else Some (unsigned_abs millis)

-- the same of a policy, where 0 stands for the usual limit
abbrev pub limit_or_usual : ℤ → Option ℕ → Option ℕ
limit_or_usual millis ordinary = if int_eq millis (pos 0) then ordinary else limit_in millis

-- the limits that numbers of C stand for
abbrev pub limits_in : CPolicy → Policy
limits_in numbers = record {
  escape = limit_or_usual numbers.escape usual.escape;
  alt_key = limit_or_usual numbers.alt_key usual.alt_key;
  sequence = limit_or_usual numbers.sequence usual.sequence;
  string = limit_or_usual numbers.string usual.string;
  character = limit_or_usual numbers.character usual.character;
  paste = limit_or_usual numbers.paste usual.paste;
}

-- the limit, with a millisecond for each byte of a string, may have more than 31 bits
abbrev pub is_long : ℤ → Bool
is_long millis = int_lt (pos 2147418111) millis

abbrev pub has_long_limit : CPolicy → Bool
has_long_limit numbers = is_long numbers.escape || (is_long numbers.alt_key || (is_long numbers.sequence || (is_long numbers.string
    || (is_long numbers.character || is_long numbers.paste))))

-- milliseconds for poll: at most those of 31 bits, and -1 for ever
abbrev pub c_millis : Option ℕ → ℤ
c_millis (Some millis) = pos (min millis 0x7FFF_FFFF)
c_millis None = negsuc 0

-- the limit of parts with this number; none for the largest
abbrev pub parts_in : ℕ → Option ℕ
parts_in limit = if limit == 0xFFFF_FFFF_FFFF_FFFF then None else Some limit
