-- One step of the reading of a chord.
use Rattle.std.proofs.Common.{◌≡◌, ◌∙◌, ℕ, ◌+◌, ◌-◌, ◌<◌, ◌≤◌, zero, suc, true, false, List, [], ◌∷◌, ◌++◌, length, take, drop, get_or, map, nat_lt, refl, sym, ap, arith, append_assoc, Some, None, Result, Ok, Err}
use Rattle.std.specs.Prelude.{if◌then◌else◌, slice_get}
use Rattle.std.specs.List.{join_with_byte}
use Rattle.std.specs.Char.{len_utf8}
use Rattle.std.proofs.lemmas.Bool.Decides.{nat_tests}
use Rattle.std.proofs.lemmas.List.{drop_all, take_all, take_more, map_push, length-map, length-take-le}
use Rattle.termwiz_bindings.specs.declared.press.KeyPress.{KeyPress}
use Rattle.termwiz_bindings.specs.declared.names.ReadError.{ReadError}
use Rattle.termwiz_bindings.specs.Names.{printed}
use Rattle.termwiz_bindings.specs.ChordNames.{is_blank, is_refused, control_at, with_key, read_keys, printed_chord}
use Rattle.termwiz_bindings.proofs.lemmas.TextPlaces.{part_to_end, byte_and_rest, part_length, part_grown}

-- control characters
pub no_more_refused : (at : ℕ) (cs : List ℕ) → cs ≡ [] → control_at at cs ≡ None
unfolding control_at
no_more_refused at cs is = rw is refl

pub refused_here : (at c : ℕ) (all cs : List ℕ) → all ≡ c ∷ cs → is_refused c ≡ true → control_at at all ≡ Some at
unfolding control_at
refused_here at c all cs is refused = rw (is, refused) refl

pub refused_later : (at c : ℕ) (all cs : List ℕ) → all ≡ c ∷ cs → is_refused c ≡ false
    → control_at at all ≡ control_at (at + len_utf8 c) cs
unfolding control_at
refused_later at c all cs is fine = rw (is, fine) refl

-- a byte of a key, and a blank behind one
pub same_key : (presses : List KeyPress) (at b : ℕ) (key rest : List ℕ) → is_blank b ≡ false
    → read_keys presses at key (b ∷ rest) ≡ read_keys presses at (key ++ b ∷ []) rest
unfolding read_keys
same_key presses at b key rest is = rw is refl

pub behind_key : (presses more : List KeyPress) (at b : ℕ) (key rest : List ℕ) → is_blank b ≡ true → with_key presses at key ≡ Ok more
    → read_keys presses at key (b ∷ rest) ≡ read_keys more (at + length key + 1) [] rest
unfolding read_keys
behind_key presses more at b key rest is keyed = rw (is, keyed) refl

pub behind_wrong : (presses : List KeyPress) (error : ReadError) (at b : ℕ) (key rest : List ℕ) → is_blank b ≡ true
    → with_key presses at key ≡ Err error → read_keys presses at key (b ∷ rest) ≡ Err error
unfolding read_keys
behind_wrong presses error at b key rest is wrong = rw (is, wrong) refl

pub at_end : (presses : List KeyPress) (at : ℕ) (key : List ℕ) → read_keys presses at key [] ≡ with_key presses at key
unfolding read_keys
at_end presses at key = refl

-- the same by places of a text: the key starts at `start`, and i is the byte
module _ (text : List ℕ) (presses : List KeyPress) (start i : ℕ) (behind : start ≤ i) where
  abbrev key : List ℕ
  key = take (i - start) (drop start text)

  abbrev here : Result (List KeyPress) ReadError
  here = read_keys presses start key (drop i text)

  pub ended : length text ≤ i → here ≡ with_key presses start (drop start text)
  ended past =
      ap (read_keys presses start key) (drop_all i text past) ∙ at_end presses start key
      ∙ ap (with_key presses start) (part_to_end text start i behind past)

  module _ (b : ℕ) (inside : i < length text) (byte : b ≡ get_or text i 0) where
    to_next : here ≡ read_keys presses start key (b ∷ drop (i + 1) text)
    to_next = ap (read_keys presses start key) (byte_and_rest text start i behind b inside byte)

    pub key_goes_on : is_blank b ≡ false
        → here ≡ read_keys presses start (take (i + 1 - start) (drop start text)) (drop (i + 1) text)
    key_goes_on is =
        to_next ∙ same_key presses start b key (drop (i + 1) text) is
        ∙ ap (λ k. read_keys presses start k (drop (i + 1) text)) (part_grown text start i behind b inside byte)

    pub key_ends : (more : List KeyPress) → is_blank b ≡ true → with_key presses start key ≡ Ok more
        → here ≡ read_keys more (i + 1) [] (drop (i + 1) text)
    key_ends more is keyed =
        to_next ∙ behind_key presses more start b key (drop (i + 1) text) is keyed
        ∙ ap (λ n. read_keys more n [] (drop (i + 1) text)) {x = start + length key + 1} {y = i + 1}
        (omega (arith, part_length text start i behind b inside byte))

    pub key_fails : (error : ReadError) → is_blank b ≡ true → with_key presses start key ≡ Err error → here ≡ Err error
    key_fails error is wrong = to_next ∙ behind_wrong presses error start b key (drop (i + 1) text) is wrong

-- the names of the first presses, and one more
join-push : (first : List ℕ) (others : List (List ℕ)) (name : List ℕ)
    → join_with_byte 32 (first ∷ (others ++ name ∷ [])) ≡ join_with_byte 32 (first ∷ others) ++ (32 ∷ name)
join-push first [] name = refl
join-push first (next ∷ others) name =
    ap (λ l. first ++ (32 ∷ l)) (join-push next others name)
    ∙ sym (append_assoc first (32 ∷ join_with_byte 32 (next ∷ others)) (32 ∷ name))

join-more : (names : List (List ℕ)) (name : List ℕ) → join_with_byte 32 (names ++ name ∷ [])
    ≡ join_with_byte 32 names ++ ((if nat_lt 0 (length names) then 32 ∷ [] else []) ++ name)
join-more [] name = refl
join-more (first ∷ others) name =
    let some : nat_lt 0 (length (first ∷ others)) ≡ true = grind (arith, nat_tests) in
    rw some (join-push first others name)

pub more_printed : (presses : List KeyPress) (n : ℕ) (p : KeyPress) → n < length presses → p ≡ get_or presses n p
    → printed_chord (take (n + 1) presses)
    ≡ printed_chord (take n presses) ++ ((if nat_lt 0 n then 32 ∷ [] else []) ++ printed p)
unfolding printed_chord
more_printed presses n p inside is =
    let count : length (map printed (take n presses)) ≡ n =
    length-map (take n presses) printed ∙ length-take-le n presses (omega arith) in
    ap (λ l. join_with_byte 32 (map printed l)) (take_more presses n p inside)
    ∙ ap (λ q. join_with_byte 32 (map printed (take n presses ++ q ∷ []))) (sym is)
    ∙ ap (join_with_byte 32) (map_push printed (take n presses) p)
    ∙ join-more (map printed (take n presses)) (printed p)
    ∙ ap (λ m. join_with_byte 32 (map printed (take n presses)) ++ ((if nat_lt 0 m then 32 ∷ [] else []) ++ printed p)) count

-- what a place of a chord has
pub press_at : (presses : List KeyPress) (n : ℕ) (p : KeyPress) → Some p ≡ slice_get presses n
    → (n < length presses) × (p ≡ get_or presses n p)
press_at [] n p is = cc
press_at (q ∷ presses) zero p is = (omega arith, cc)
press_at (q ∷ presses) (suc n) p is =
    let later = press_at presses n p is in (omega (arith, later.0), later.1)

pub none_at : (presses : List KeyPress) (n : ℕ) → None ≡ slice_get presses n → length presses ≤ n
none_at [] n is = omega arith
none_at (q ∷ presses) zero is = cc
none_at (q ∷ presses) (suc n) is = omega (arith, none_at presses n is)

pub all_printed : (presses : List KeyPress) (n : ℕ) → length presses ≤ n → printed_chord (take n presses) ≡ printed_chord presses
all_printed presses n past = ap printed_chord (take_all n presses past)
