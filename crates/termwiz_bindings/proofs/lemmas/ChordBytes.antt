-- The bytes in which a chord is held.
use Rattle.std.proofs.Common.{⊎_elim, ◌≡◌, ◌∙◌, ℕ, suc, ◌+◌, ◌*◌, ◌-◌, ◌/◌, ◌<◌, ◌≤◌, ◌≢◌, List, [], ◌∷◌, ◌++◌, length, take, drop, replicate, get_or, sym, ap, ap₂, subst, append_assoc, drop-cons, arith}
use Rattle.std.specs.Prelude.{None, Some, slice_get}
use Rattle.std.specs.List.{between}
use Rattle.std.proofs.lemmas.List.{append-nil, drop-append-le, drop-drop, drop-replicate, drop_at, length-append, length-drop, take_all, take_at}
use Rattle.std.proofs.lemmas.Option.{slice_get_cases, slice_get_past}
use Rattle.std.proofs.lemmas.List.Elements.{All-drop, All-get_or, All-push}
use Rattle.termwiz_bindings.specs.declared.chord.TheConstants.{MAX_KEYS}
use Rattle.termwiz_bindings.specs.declared.press.KeyPress.{KeyPress}
use Rattle.termwiz_bindings.specs.Codes.{IsPress, code, code_len, codes, presses_with}
use Rattle.termwiz_bindings.specs.Chords.{HoldChord, IsChord, held_presses, padded}
use Rattle.termwiz_bindings.proofs.lemmas.CodedPresses.{code_length, codes_append, codes_drop, codes_length, presses_of}

-- a chord is held by its codes with zeros after them
pub held_by : (ps : List KeyPress) → IsChord ps → held_presses (padded ps) (length ps) ≡ ps
held_by ps is =
    ap presses_with (take_at (codes ps) _ (length ps * code_len) (codes_length ps)) ∙ presses_of ps is.presses

-- the presses that these bytes hold
pub held_as : (bytes : List ℕ) (len : ℕ) (ps : List KeyPress) → bytes ≡ padded ps → len ≡ length ps → IsChord ps
    → held_presses bytes len ≡ ps
held_as bytes len ps same count is = ap₂ held_presses same count ∙ held_by ps is

pub holds_as : (bytes : List ℕ) (len : ℕ) (ps : List KeyPress) → bytes ≡ padded ps → len ≡ length ps → IsChord ps
    → HoldChord bytes len
holds_as bytes len ps same count is =
    let held : held_presses bytes len ≡ ps = held_as bytes len ps same count is in
    record {
      chord = subst IsChord (sym held) is;
      count = ap length held ∙ sym count;
      padding = ap padded held ∙ sym same;
    }

-- one press more
pub one_more : (ps : List KeyPress) (press : KeyPress) → IsChord ps → IsPress press → length ps < MAX_KEYS → IsChord (ps ++ press ∷ [])
one_more ps press is one room = record {
  few = omega (arith, length-append ps (press ∷ []));
  presses = All-push IsPress ps press is.presses one;
}

pub codes_push : (ps : List KeyPress) (press : KeyPress) → codes (ps ++ press ∷ []) ≡ codes ps ++ code press
codes_push ps press = codes_append ps (press ∷ []) ∙ ap (λ bytes. codes ps ++ bytes) (append-nil (code press))

-- its code is written behind the others
pub pushed_bytes : (ps : List KeyPress) (press : KeyPress) (start : ℕ) → start ≡ length ps * code_len → length ps < MAX_KEYS
    → take start (padded ps) ++ (code press ++ drop (start + code_len) (padded ps)) ≡ padded (ps ++ press ∷ [])
pushed_bytes ps press start same room =
    let zeros : List ℕ = replicate (MAX_KEYS * code_len - length ps * code_len) 0 in
    let len : length (codes ps) ≡ start = codes_length ps ∙ sym same in
    let longer : length (ps ++ press ∷ []) ≡ length ps + 1 = length-append ps (press ∷ []) in
    let fewer : MAX_KEYS * code_len - length ps * code_len - code_len ≡ MAX_KEYS * code_len - length (ps ++ press ∷ []) * code_len =
    omega (arith, longer) in
    ap₂ (λ before after. before ++ (code press ++ after)) (take_at (codes ps) zeros start len)
    (sym (drop-drop code_len start (padded ps)) ∙ ap (drop code_len) (drop_at (codes ps) zeros start len)
    ∙ drop-replicate code_len (MAX_KEYS * code_len - length ps * code_len) 0 ∙ ap (λ n. replicate n 0) fewer)
    ∙ sym (append_assoc (codes ps) (code press) (replicate (MAX_KEYS * code_len - length (ps ++ press ∷ []) * code_len) 0))
    ∙ ap (λ bytes. bytes ++ replicate (MAX_KEYS * code_len - length (ps ++ press ∷ []) * code_len) 0) (sym (codes_push ps press))

-- and those of one press
pub held_code : (ps : List KeyPress) (index start end : ℕ) (d : KeyPress) → index < length ps → start ≡ index * code_len
    → end ≡ start + code_len → between start end (padded ps) ≡ code (get_or ps index d)
held_code ps index start end d inside same ends =
    let zeros : List ℕ = replicate (MAX_KEYS * code_len - length ps * code_len) 0 in
    let all : length (codes ps) ≡ length ps * code_len = codes_length ps in
    let press : KeyPress = get_or ps index d in
    let width : end - start ≡ code_len = omega arith in
    let rest : drop start (codes ps) ≡ codes (press ∷ drop (suc index) ps) =
    ap (λ n. drop n (codes ps)) same ∙ codes_drop ps index (omega arith) ∙ ap codes (drop-cons ps index d inside) in
    ap₂ take width (drop-append-le start (codes ps) zeros (omega arith) ∙ ap (λ bytes. bytes ++ zeros) rest)
    ∙ ap (take code_len) (append_assoc (code press) (codes (drop (suc index) ps)) zeros)
    ∙ take_at (code press) (codes (drop (suc index) ps) ++ zeros) code_len (code_length press)

-- codes with zeros after them
pub padded_codes : (bytes : List ℕ) (ps : List KeyPress) → bytes ≡ codes ps
    → bytes ++ replicate (MAX_KEYS * code_len - length bytes) 0 ≡ padded ps
padded_codes bytes ps same =
    let len : length bytes ≡ length ps * code_len = ap length same ∙ codes_length ps in
    ap₂ (λ front behind. front ++ behind) same (ap (λ n. replicate (MAX_KEYS * code_len - n) 0) len)

-- how many presses have these codes
pub counted_presses : (bytes : List ℕ) (ps : List KeyPress) → bytes ≡ codes ps → length bytes / code_len ≡ length ps
counted_presses bytes ps same =
    let len : length bytes ≡ length ps * code_len = ap length same ∙ codes_length ps in
    omega arith

-- the codes of a chord fit
pub codes_fit : (bytes : List ℕ) (ps : List KeyPress) → bytes ≡ codes ps → IsChord ps → length bytes ≤ MAX_KEYS * code_len
codes_fit bytes ps same is =
    let len : length bytes ≡ length ps * code_len = ap length same ∙ codes_length ps in
    omega (arith, is.few)

-- what is known of the bytes of a chord
pub record IsHeldIn (bytes : List ℕ) (len : ℕ) (ps : List KeyPress) : Type 0 where
  pub chord : IsChord ps
  pub padding : bytes ≡ padded ps
  pub count : len ≡ length ps

pub held_in : (bytes : List ℕ) (len : ℕ) (ps : List KeyPress) → HoldChord bytes len → held_presses bytes len ≡ ps
    → IsHeldIn bytes len ps
held_in bytes len ps is same = record {
  chord = subst IsChord same is.chord;
  padding = sym is.padding ∙ ap padded same;
  count = sym is.count ∙ ap length same;
}

-- the same with one press more
pub pushed_in : (bytes : List ℕ) (len : ℕ) (ps : List KeyPress) (press : KeyPress) (new : List ℕ)
    → IsHeldIn bytes len ps → IsPress press → len ≢ MAX_KEYS
    → new ≡ take (len * code_len) bytes ++ (code press ++ drop (len * code_len + code_len) bytes)
    → IsHeldIn new (len + 1) (ps ++ press ∷ [])
pushed_in bytes len ps press new is one room new_is =
    let few : length ps ≤ MAX_KEYS = is.chord.few in
    let count : len ≡ length ps = is.count in
    let less : length ps < MAX_KEYS = omega (arith, room) in
    record {
      chord = one_more ps press is.chord one less;
      padding =
          new_is
          ∙ ap (λ (xs : List ℕ). take (len * code_len) xs ++ (code press ++ drop (len * code_len + code_len) xs)) is.padding
          ∙ pushed_bytes ps press (len * code_len) (ap (λ n. n * code_len) count) less;
      count = omega (arith, length-append ps (press ∷ []));
    }

-- the bytes hold these presses
pub holds_in : (bytes : List ℕ) (len : ℕ) (ps : List KeyPress) → IsHeldIn bytes len ps → HoldChord bytes len
holds_in bytes len ps is = holds_as bytes len ps is.padding is.count is.chord

pub view_in : (bytes : List ℕ) (len : ℕ) (ps : List KeyPress) → IsHeldIn bytes len ps → held_presses bytes len ≡ ps
view_in bytes len ps is = held_as bytes len ps is.padding is.count is.chord

-- the chord with these codes
pub codes_in : (bytes all : List ℕ) (len : ℕ) (ps : List KeyPress) → IsChord ps → bytes ≡ codes ps
    → all ≡ bytes ++ replicate (MAX_KEYS * code_len - length bytes) 0 → len ≡ length bytes / code_len → IsHeldIn all len ps
codes_in bytes all len ps is same all_is len_is = record {
  chord = is;
  padding = all_is ∙ padded_codes bytes ps same;
  count = len_is ∙ counted_presses bytes ps same;
}

-- the presses behind the first ones
pub rest_chord : (ps : List KeyPress) (count : ℕ) → IsChord ps → IsChord (drop count ps)
rest_chord ps count is = record {
  few = omega (arith, is.few, length-drop count ps);
  presses = All-drop IsPress count ps is.presses;
}

pub rest_codes : (bytes : List ℕ) (ps : List KeyPress) (count start width : ℕ) → bytes ≡ codes ps → count ≤ length ps
    → start ≡ count * code_len → width ≡ length bytes - start → take width (drop start bytes) ≡ codes (drop count ps)
rest_codes bytes ps count start width same few start_is width_is =
    take_all width (drop start bytes) (omega (arith, width_is, length-drop start bytes))
    ∙ ap₂ (λ (n : ℕ) (xs : List ℕ). drop n xs) start_is same ∙ codes_drop ps count few

-- a press and its code among the bytes of a chord
pub record IsPressAt (bytes : List ℕ) (ps : List KeyPress) (index start end : ℕ) (p : KeyPress) : Type 0 where
  pub there : slice_get ps index ≡ Some p
  pub is : IsPress p
  pub its_code : between start end bytes ≡ code p

pub press_at : (bytes : List ℕ) (len : ℕ) (ps : List KeyPress) (index start end : ℕ) → IsHeldIn bytes len ps → index < len
    → start ≡ index * code_len → end ≡ start + code_len → (p : KeyPress) × IsPressAt bytes ps index start end p
press_at bytes len ps index start end is inside starts ends =
    let count : len ≡ length ps = is.count in
    let within : index < length ps = omega arith in
    ⊎_elim
    (λ (found : (p : KeyPress) × (index < length ps) × (slice_get ps index ≡ Some p) × (get_or ps index p ≡ p)). (
      found.0,
      record {
        there = found.2;
        is = subst IsPress found.3 (All-get_or IsPress ps index found.0 within is.chord.presses);
        its_code = ap (λ xs. between start end xs) is.padding
            ∙ held_code ps index start end found.0 within starts ends ∙ ap code found.3;
      },
    ))
    (λ (past : (length ps ≤ index) × (slice_get ps index ≡ None)). absurd (omega (arith, past.0)))
    (slice_get_cases ps index).1

pub none_past : (bytes : List ℕ) (len : ℕ) (ps : List KeyPress) (index : ℕ) → IsHeldIn bytes len ps → len ≤ index
    → slice_get ps index ≡ None
none_past bytes len ps index is past = let count : len ≡ length ps = is.count in slice_get_past ps index (omega arith)
