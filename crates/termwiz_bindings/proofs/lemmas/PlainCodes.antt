-- Codes of presses that are known without the rules.
use Rattle.std.proofs.Common.{◌≡◌, ◌∙◌, ℕ, ◌*◌, ◌/◌, ◌%◌, ◌<◌, ◌≤◌, Bool, true, false, not, ◌==◌, ◌||◌, List, [], ◌∷◌, ◌++◌, length, get_or, bit_and, None, refl, sym, ap, ap₂, subst, arith}
use Rattle.std.specs.Prelude.{is_some, ◌↔◌}
use Rattle.std.specs.Char.{IsScalar, is_ascii_control, is_ascii_uppercase}
use Rattle.std.specs.List.{All}
use Rattle.std.proofs.lemmas.Bool.Decides.{nat_tests}
use Rattle.std.proofs.lemmas.List.{append_cancel_left, length-append}
use Rattle.std.proofs.lemmas.List.Elements.{All-cons, All-head, All-nil, All-tail}
use Rattle.termwiz_keys.specs.declared.types.KeyCode.TheVariants.{Function}
use Rattle.termwiz_extended_events.specs.declared.types.ReportedKey.TheVariants.{Named}
use Rattle.termwiz_bindings.specs.declared.chord.TheConstants.{MAX_KEYS}
use Rattle.termwiz_bindings.specs.declared.press.KeyPress.{KeyPress}
use Rattle.termwiz_bindings.specs.Chords.{AreCodes}
use Rattle.termwiz_bindings.specs.Codes.{IsCode, IsPress, code, code_len, codes}
use Rattle.termwiz_bindings.specs.Letters.{has_far_capital, has_near_capital, letter_of}
use Rattle.termwiz_bindings.specs.MainKeys.{main_code, main_of_named, makes_no_press}
use Rattle.termwiz_bindings.specs.Numbers.{key_detail, key_number, reported_detail, reported_number}
use Rattle.termwiz_bindings.specs.Presses.{cased_press, character_press, has_shift, lowered_press, shown_press}
use Rattle.termwiz_bindings.proofs.lemmas.CasedLetters.{none_is}
use Rattle.termwiz_bindings.proofs.lemmas.CharacterRules.{character_is_main, no_capital_stays, plain_character as no_control, plain_other, unshifted_stays}
use Rattle.termwiz_bindings.proofs.lemmas.CodedPresses.{code_length, codes_length}
use Rattle.termwiz_bindings.proofs.lemmas.HeldBits.{held_from_below}
use Rattle.termwiz_bindings.proofs.lemmas.ModifiersRead.{below_passes}
use Rattle.termwiz_bindings.proofs.lemmas.SettledPresses.{IsUnchanged, own_press}
use Rattle.termwiz_bindings.proofs.lemmas.SharedBeginnings.{same_from_length}

-- of the characters of ASCII only the capitals are capitals of letters
abbrev passes : ℕ → Bool
passes c = is_ascii_uppercase c || not (is_some (letter_of c))

all_pass : (c : ℕ) → c < 127 → passes c ≡ true
unfolding letter_of has_near_capital has_far_capital
all_pass c low = below_passes passes 127 c refl low

or_right : (a b : Bool) → (a || b) ≡ true → a ≡ false → b ≡ true
or_right false b is none = is
or_right true b is none = cc

no_letter_of : (c : ℕ) → c < 127 → is_ascii_uppercase c ≡ false → letter_of c ≡ None
no_letter_of c low other =
    none_is (letter_of c) (or_right (is_ascii_uppercase c) (not (is_some (letter_of c))) (all_pass c low) other)

-- a character of ASCII without SHIFT that is no control character and no capital is its own press
pub character_own : (c held : ℕ) → 32 ≤ c → c ≤ 126 → is_ascii_uppercase c ≡ false → held < 64 → bit_and held 1 ≡ 0
    → IsPress (character_press c held)
unfolding cased_press
character_own c held low high other few shift =
    let none : has_shift held ≡ false = ap (λ n. not (n == 0)) shift in
    let control : is_ascii_control c ≡ false = grind (arith, nat_tests) in
    let scalar : IsScalar c = grind (arith, nat_tests) in
    let unchanged : IsUnchanged (character_press c held) = record {
      main = character_is_main c held (held_from_below held few);
      plain = no_control c control;
      cased = ap lowered_press (unshifted_stays c held none) ∙ no_capital_stays c held (no_letter_of c (omega arith) other);
    } in
    record { own = own_press (character_press c held) unchanged; in_range = scalar }

-- so is a function key
abbrev function_press : ℕ → ℕ → KeyPress
function_press n held = record { key = Named (Function n); held = held }

function_unchanged : (n held : ℕ) → held < 64 → IsUnchanged (function_press n held)
unfolding cased_press shown_press lowered_press main_of_named main_code makes_no_press
function_unchanged n held few = record {
  main = record { key = refl; held = held_from_below held few; makes = refl };
  plain = plain_other (Named (Function n)) refl;
  cased = refl;
}

function_own : (n held : ℕ) → n ≤ 255 → held < 64 → IsPress (function_press n held)
function_own n held inside few =
    record { own = own_press (function_press n held) (function_unchanged n held few); in_range = inside }

-- five bytes
five : (bytes : List ℕ) (a b c d e : ℕ) → length bytes ≡ code_len → get_or bytes 0 0 ≡ a → get_or bytes 1 0 ≡ b → get_or bytes 2 0 ≡ c
    → get_or bytes 3 0 ≡ d → get_or bytes 4 0 ≡ e → bytes ≡ a ∷ b ∷ c ∷ d ∷ e ∷ []
five (v ∷ w ∷ x ∷ y ∷ z ∷ []) a b c d e len i j k l m = cc
five [] a b c d e len i j k l m = absurd (omega (arith, len))
five (v ∷ []) a b c d e len i j k l m = absurd (omega (arith, len))
five (v ∷ w ∷ []) a b c d e len i j k l m = absurd (omega (arith, len))
five (v ∷ w ∷ x ∷ []) a b c d e len i j k l m = absurd (omega (arith, len))
five (v ∷ w ∷ x ∷ y ∷ []) a b c d e len i j k l m = absurd (omega (arith, len))
five (v ∷ w ∷ x ∷ y ∷ z ∷ u ∷ rest) a b c d e len i j k l m = absurd (omega (arith, len))

low_detail : (n : ℕ) → n ≤ 255 → (n / 0x10000 % 256 ≡ 0) × (n / 0x100 % 256 ≡ 0) × (n % 256 ≡ n)
low_detail n low = (omega arith, omega arith, omega arith)

-- their codes
character_code : (c held : ℕ) → c ≤ 255 → code (character_press c held) ≡ 1 ∷ 0 ∷ 0 ∷ c ∷ held ∷ []
unfolding code reported_number reported_detail key_number key_detail
character_code c held low = let parts = low_detail c low in rw (parts.0, parts.1, parts.2) refl

function_code : (n held : ℕ) → n ≤ 255 → code (function_press n held) ≡ 60 ∷ 0 ∷ 0 ∷ n ∷ held ∷ []
unfolding code reported_number reported_detail key_number key_detail
function_code n held low = let parts = low_detail n low in rw (parts.0, parts.1, parts.2) refl

pub plain_character : (bytes : List ℕ) → length bytes ≡ code_len → get_or bytes 0 0 ≡ 1 → get_or bytes 1 0 ≡ 0 → get_or bytes 2 0 ≡ 0
    → get_or bytes 3 0 ≤ 255 → IsPress (character_press (get_or bytes 3 0) (get_or bytes 4 0)) → IsCode bytes
plain_character bytes len key high middle low is = record {
  press = character_press (get_or bytes 3 0) (get_or bytes 4 0);
  is = is;
  same = five bytes 1 0 0 (get_or bytes 3 0) (get_or bytes 4 0) len key high middle refl refl
      ∙ sym (character_code (get_or bytes 3 0) (get_or bytes 4 0) low);
}

pub plain_function : (bytes : List ℕ) → length bytes ≡ code_len → get_or bytes 0 0 ≡ 60 → get_or bytes 1 0 ≡ 0 → get_or bytes 2 0 ≡ 0
    → get_or bytes 3 0 ≤ 255 → get_or bytes 4 0 < 64 → IsCode bytes
plain_function bytes len key high middle low few = record {
  press = function_press (get_or bytes 3 0) (get_or bytes 4 0);
  is = function_own (get_or bytes 3 0) (get_or bytes 4 0) low few;
  same = five bytes 60 0 0 (get_or bytes 3 0) (get_or bytes 4 0) len key high middle refl refl
      ∙ sym (function_code (get_or bytes 3 0) (get_or bytes 4 0) low);
}

-- the bytes are the codes of presses, however many
pub record AreOfPresses (bytes : List ℕ) : Type 0 where
  pub presses : List KeyPress
  pub are : All IsPress presses
  pub same : bytes ≡ codes presses

-- they begin with a code
first_of : (front rest : List ℕ) → length front ≡ code_len → AreOfPresses (front ++ rest) → IsCode front × AreOfPresses rest
first_of front rest len are = go are.presses are.are are.same
  where
    go : (ps : List KeyPress) → All IsPress ps → front ++ rest ≡ codes ps → IsCode front × AreOfPresses rest
    go [] all same =
        let none : length (front ++ rest) ≡ 0 = ap length same in
        absurd (omega (arith, none, len, length-append front rest))
    go (p ∷ ps) all same =
        let first : front ≡ code p = same_from_length front (code p) rest (codes ps) same (len ∙ sym (code_length p)) in
        let behind : rest ≡ codes ps =
        append_cancel_left front rest (codes ps) (same ∙ ap (λ (xs : List ℕ). xs ++ codes ps) (sym first)) in (
          record { press = p; is = All-head IsPress p ps all; same = first },
          record { presses = ps; are = All-tail IsPress p ps all; same = behind },
        )

with_first : (front rest : List ℕ) → IsCode front → AreOfPresses rest → AreOfPresses (front ++ rest)
with_first front rest first are = record {
  presses = first.press ∷ are.presses;
  are = All-cons IsPress first.press are.presses first.is are.are;
  same = ap₂ (λ (xs ys : List ℕ). xs ++ ys) first.same are.same;
}

-- where they begin with one, the others are such exactly if all are
pub behind_first : (bytes front rest : List ℕ) → bytes ≡ front ++ rest → length front ≡ code_len → IsCode front
    → AreOfPresses bytes ↔ AreOfPresses rest
behind_first bytes front rest parts len first = (
  λ are. (first_of front rest len (subst AreOfPresses parts are)).1,
  λ are. subst AreOfPresses (sym parts) (with_first front rest first are),
)

-- where they don't, they aren't such
pub no_first : (bytes front rest : List ℕ) → bytes ≡ front ++ rest → length front ≡ code_len → ¬ IsCode front → ¬ AreOfPresses bytes
no_first bytes front rest parts len none are = none (first_of front rest len (subst AreOfPresses parts are)).0

-- fewer bytes than a code has are such only where there are none
pub ended : (bytes : List ℕ) → length bytes < code_len → AreOfPresses bytes → length bytes ≡ 0
ended bytes few are = go are.presses are.same
  where
    go : (ps : List KeyPress) → bytes ≡ codes ps → length bytes ≡ 0
    go [] same = ap length same
    go (p ∷ ps) same =
        let wide : length bytes ≡ length (codes (p ∷ ps)) = ap length same in
        absurd (omega (arith, wide, few, length-append (code p) (codes ps), code_length p))

pub no_bytes : (bytes : List ℕ) → length bytes ≡ 0 → AreOfPresses bytes
no_bytes [] none = record { presses = []; are = All-nil IsPress; same = refl }
no_bytes (b ∷ bytes) none = absurd (omega (arith, none))

-- of so few bytes they are those of a chord
pub of_chord : (bytes : List ℕ) → length bytes ≤ MAX_KEYS * code_len → AreOfPresses bytes ↔ AreCodes bytes
of_chord bytes few = (
  λ are.
      let wide : length bytes ≡ length are.presses * code_len = ap length are.same ∙ codes_length are.presses in
      (are.presses, record { few = omega (arith, wide, few); presses = are.are }, are.same),
  λ (ps, is, same). record { presses = ps; are = is.presses; same = same },
)
