-- Presses and their codes.
use Rattle.std.proofs.Common.{◌≡◌, ◌∙◌, ⊎_elim, ℕ, ◌+◌, ◌*◌, ◌/◌, ◌%◌, ◌<◌, ◌≤◌, List, [], ◌∷◌, ◌++◌, length, take, drop, get_or, Bool, true, false, ◌&&◌, Some, None, refl, sym, ap, ap₂, subst, append_assoc, arith}
use Rattle.std.specs.Char.{IsScalar}
use Rattle.std.specs.List.{All}
use Rattle.std.proofs.Math.Utf8.{scalar_cases}
use Rattle.std.proofs.lemmas.Bool.Decides.{nat_tests}
use Rattle.std.proofs.lemmas.List.{length-append, length-take-le, take-append-drop, take_at, drop_at}
use Rattle.std.proofs.lemmas.List.Elements.{All-cons, All-head, All-nil, All-tail, All-take}
use Rattle.termwiz_keys.specs.declared.types.KeyCode.TheVariants.{Char, Function}
use Rattle.termwiz_extended_events.specs.declared.types.ReportedKey.{ReportedKey}
use Rattle.termwiz_extended_events.specs.declared.types.ReportedKey.TheVariants.{Named, Functional}
use Rattle.termwiz_extended_events.specs.declared.types.KeyEventKind.TheVariants.{Press}
use Rattle.termwiz_extended_events.specs.KeyReports.{report_of}
use Rattle.termwiz_bindings.specs.declared.press.KeyPress.{KeyPress}
use Rattle.termwiz_bindings.specs.Codes.{IsKeyInRange, IsPress, code, code_len, codes, key_with, press_with, presses_with}
use Rattle.termwiz_bindings.specs.Chords.{AreCodes, IsChord}
use Rattle.termwiz_bindings.specs.CodeLaws.{BeginPresses, CodesBeginAsPresses, CodesHaveOneWidth, CodesTellPresses}
use Rattle.termwiz_bindings.specs.MainKeys.{makes_no_press}
use Rattle.termwiz_bindings.specs.Numbers.{StandForReported, key_detail, reported_detail, reported_number}
use Rattle.termwiz_bindings.specs.Presses.{canonical, may_type}
use Rattle.termwiz_bindings.specs.PressLaws.{report_of_press}
use Rattle.termwiz_bindings.proofs.lemmas.KeyNumbers.{own_key, stands_for_itself}

-- a press makes one
no_text : (b : Bool) → (b && false) ≡ false
no_text true = refl
no_text false = refl

none_made : (p : KeyPress) → makes_no_press p.key ≡ true → canonical (report_of_press p) ≡ None
unfolding canonical
none_made p is = rw (no_text (may_type p.key), is) refl

makes_one : (p : KeyPress) → canonical (report_of_press p) ≡ Some p → makes_no_press p.key ≡ false
makes_one p own = go (makes_no_press p.key) refl
  where
    go : (b : Bool) → makes_no_press p.key ≡ b → b ≡ false
    go false is = refl
    go true is = let none : None ≡ Some p = sym (none_made p is) ∙ own in cc

functional_below : (n : ℕ) → makes_no_press (Functional n) ≡ false → n < 0x1000000
unfolding makes_no_press
functional_below n is = grind (arith, nat_tests)

scalar_below : (c : ℕ) → IsScalar c → c < 0x1000000
scalar_below c is = ⊎_elim (λ (low : c < 0xD800). omega arith) (λ (high : (0xE000 ≤ c) × (c < 0x110000)). omega (arith, high.1)) (scalar_cases c is)

-- what the key of a press carries fits three bytes
detail_below : (key : ReportedKey) → IsKeyInRange key → makes_no_press key ≡ false → reported_detail key < 0x1000000
unfolding reported_detail key_detail
detail_below (Named (Char c)) inside makes = scalar_below c inside
detail_below (Named (Function n)) inside makes = omega arith
detail_below (Named key) inside makes = omega arith
detail_below (Functional n) inside makes = functional_below n makes

pub press_detail_below : (p : KeyPress) → IsPress p → reported_detail p.key < 0x1000000
press_detail_below p is = detail_below p.key is.in_range (makes_one p is.own)

-- a number by its three bytes
from_bytes : (n : ℕ) → n < 0x1000000 → n / 0x10000 % 256 * 0x10000 + n / 0x100 % 256 * 0x100 + n % 256 ≡ n
from_bytes n below = omega arith

-- a press is the one with its code
pub own_press : (p : KeyPress) → IsPress p
    → press_with (reported_number p.key) (reported_detail p.key / 0x10000 % 256) (reported_detail p.key / 0x100 % 256) (reported_detail p.key % 256) p.held ≡ p
own_press p is =
    ap (λ detail. record { key = key_with (reported_number p.key) detail; held = p.held })
    (from_bytes (reported_detail p.key) (press_detail_below p is))
    ∙ ap (λ key. record { key = key; held = p.held }) (own_key p.key)

-- presses are those with their codes
pub presses_of : (ps : List KeyPress) → All IsPress ps → presses_with (codes ps) ≡ ps
unfolding code
presses_of [] are = refl
presses_of (p ∷ ps) are = ap₂ (λ (q : KeyPress) qs. q ∷ qs) (own_press p (All-head IsPress p ps are)) (presses_of ps (All-tail IsPress p ps are))

pub code_length : CodesHaveOneWidth
unfolding code
code_length p = refl

pub codes_length : (ps : List KeyPress) → length (codes ps) ≡ length ps * code_len
codes_length [] = refl
codes_length (p ∷ ps) = length-append (code p) (codes ps) ∙ omega (arith, code_length p, codes_length ps)

pub codes_append : (ps qs : List KeyPress) → codes (ps ++ qs) ≡ codes ps ++ codes qs
codes_append [] qs = refl
codes_append (p ∷ ps) qs = ap (λ bytes. code p ++ bytes) (codes_append ps qs) ∙ sym (append_assoc (code p) (codes ps) (codes qs))

-- equal codes are those of equal presses
pub same_presses : (ps qs : List KeyPress) → All IsPress ps → All IsPress qs → codes ps ≡ codes qs → ps ≡ qs
same_presses ps qs are ours same = sym (presses_of ps are) ∙ ap presses_with same ∙ presses_of qs ours

-- the codes of the first presses, and of those behind them
codes_parted : (ps : List KeyPress) (n : ℕ) → codes ps ≡ codes (take n ps) ++ codes (drop n ps)
codes_parted ps n = ap codes (sym (take-append-drop n ps)) ∙ codes_append (take n ps) (drop n ps)

front_length : (ps : List KeyPress) (n : ℕ) → n ≤ length ps → length (codes (take n ps)) ≡ n * code_len
front_length ps n few = codes_length (take n ps) ∙ ap (λ k. k * code_len) (length-take-le n ps few)

pub codes_take : (ps : List KeyPress) (n : ℕ) → n ≤ length ps → take (n * code_len) (codes ps) ≡ codes (take n ps)
codes_take ps n few =
    ap (take (n * code_len)) (codes_parted ps n)
    ∙ take_at (codes (take n ps)) (codes (drop n ps)) (n * code_len) (front_length ps n few)

pub codes_drop : (ps : List KeyPress) (n : ℕ) → n ≤ length ps → drop (n * code_len) (codes ps) ≡ codes (drop n ps)
codes_drop ps n few =
    ap (drop (n * code_len)) (codes_parted ps n)
    ∙ drop_at (codes (take n ps)) (codes (drop n ps)) (n * code_len) (front_length ps n few)

-- one code tells its press
pub codes_tell : CodesTellPresses
codes_tell p q is other same =
    let one : (r : KeyPress) → IsPress r → All IsPress (r ∷ []) = λ r is_one. All-cons IsPress r [] is_one (All-nil IsPress) in
    let both : p ∷ [] ≡ q ∷ [] = same_presses (p ∷ []) (q ∷ []) (one p is) (one q other) (ap (λ bytes. bytes ++ []) same) in
    cc (both)

-- where the codes of presses begin those of others, the presses begin them
pub begun : (ps qs : List KeyPress) → All IsPress ps → All IsPress qs → (rest : List ℕ) → codes qs ≡ codes ps ++ rest
    → BeginPresses ps qs
begun ps qs are ours rest is =
    let n : ℕ = length ps in
    let lengths : length qs * code_len ≡ length ps * code_len + length rest =
    sym (codes_length qs) ∙ ap length is ∙ length-append (codes ps) rest ∙ ap (λ k. k + length rest) (codes_length ps) in
    let few : n ≤ length qs = omega (arith, lengths) in
    let front : codes (take n qs) ≡ codes ps =
    sym (codes_take qs n few) ∙ ap (take (n * code_len)) is ∙ take_at (codes ps) rest (n * code_len) (codes_length ps) in
    let same : take n qs ≡ ps = same_presses (take n qs) ps (All-take IsPress n qs ours) are front in
    (drop n qs, sym (take-append-drop n qs) ∙ ap (λ first. first ++ drop n qs) same)

pub codes_begin : CodesBeginAsPresses
codes_begin ps qs are ours = (
  λ (rest, is). (codes rest, ap codes is ∙ codes_append ps rest),
  λ (rest, is). begun ps qs are ours rest is,
)

-- the parts of a code
pub record IsReadFrom (bytes : List ℕ) (p : KeyPress) : Type 0 where
  pub number : get_or bytes 0 0 ≡ reported_number p.key
  pub detail : get_or bytes 1 0 * 0x10000 + get_or bytes 2 0 * 0x100 + get_or bytes 3 0 ≡ reported_detail p.key
  pub held : get_or bytes 4 0 ≡ p.held

pub read_from : (bytes : List ℕ) (p : KeyPress) → IsPress p → bytes ≡ code p → IsReadFrom bytes p
unfolding code
read_from bytes p is same = record {
  number = ap (λ xs. get_or xs 0 0) same;
  detail = ap (λ xs. get_or xs 1 0 * 0x10000 + get_or xs 2 0 * 0x100 + get_or xs 3 0) same
      ∙ from_bytes (reported_detail p.key) (press_detail_below p is);
  held = ap (λ xs. get_or xs 4 0) same;
}

-- the number and the detail that are read stand for the key
pub stands_read : (bytes : List ℕ) (p : KeyPress) (number detail : ℕ) → IsPress p → bytes ≡ code p → number ≡ get_or bytes 0 0
    → detail ≡ get_or bytes 1 0 * 0x10000 + get_or bytes 2 0 * 0x100 + get_or bytes 3 0 → StandForReported number detail p.key
stands_read bytes p number detail is same number_is detail_is =
    let read : IsReadFrom bytes p = read_from bytes p is same in
    rw (number_is ∙ read.number, detail_is ∙ read.detail) (stands_for_itself p.key is.in_range)

-- the key and the modifiers that are read have that press
pub press_read : (bytes : List ℕ) (p : KeyPress) (key : ReportedKey) (held : ℕ) → IsPress p → bytes ≡ code p → key ≡ p.key
    → held ≡ get_or bytes 4 0 → canonical (report_of key (record { modifiers = held; kind = Press })) ≡ Some p
press_read bytes p key held is same key_is held_is =
    let read : IsReadFrom bytes p = read_from bytes p is same in
    ap₂ (λ k (h : ℕ). canonical (report_of k (record { modifiers = h; kind = Press }))) key_is (held_is ∙ read.held) ∙ is.own

-- the presses with the codes of a chord
pub read_chord : (bytes : List ℕ) → AreCodes bytes → IsChord (presses_with bytes)
read_chord bytes (ps, is, same) = subst IsChord (sym (ap presses_with same ∙ presses_of ps is.presses)) is

pub read_codes : (bytes : List ℕ) → AreCodes bytes → bytes ≡ codes (presses_with bytes)
read_codes bytes (ps, is, same) = same ∙ ap codes (sym (ap presses_with same ∙ presses_of ps is.presses))

pub read_as : (bytes : List ℕ) (ps : List KeyPress) → bytes ≡ codes ps → IsChord ps → presses_with bytes ≡ ps
read_as bytes ps same is = ap presses_with same ∙ presses_of ps is.presses

-- the first of them: its code comes first
pub record IsFirstPress (bytes : List ℕ) (p : KeyPress) : Type 0 where
  pub is : IsPress p
  pub its_code : take code_len bytes ≡ code p
  pub rest : List KeyPress
  pub first : presses_with bytes ≡ p ∷ rest

pub first_press : (bytes : List ℕ) → AreCodes bytes → code_len ≤ length bytes → (p : KeyPress) × IsFirstPress bytes p
first_press bytes (ps, is, same) some = go ps is.presses same
  where
    go : (ps : List KeyPress) → All IsPress ps → bytes ≡ codes ps → (p : KeyPress) × IsFirstPress bytes p
    go [] are same =
        let none : length bytes ≡ 0 = ap length same in
        absurd (omega (arith, none, some))
    go (p ∷ ps) are same = (
      p,
      record {
        is = All-head IsPress p ps are;
        its_code = ap (take code_len) same ∙ take_at (code p) (codes ps) code_len (code_length p);
        rest = ps;
        first = ap presses_with same ∙ presses_of (p ∷ ps) are;
      },
    )
