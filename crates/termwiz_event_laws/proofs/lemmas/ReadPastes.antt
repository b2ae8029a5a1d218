-- END stands in the text of a paste only where it stands in the bytes: no ASCII byte is put in, and none that stand next to each other are parted.
use Rattle.std.proofs.Common.{◌≡◌, ℕ, zero, suc, ◌<◌, ◌≤◌, List, [], ◌∷◌, ◌++◌, length, take, drop, get_or, refl, sym, ap, ◌∙◌, arith, append_assoc, append-nil, length-append, length-drop, take-append-drop, Option, Some, None, encode_utf8, encode_utf8_all}
use Rattle.std.specs.List.{AllByRecursion}
use Rattle.std.specs.Str.Lossy.{utf8_lossy}
use Rattle.std.proofs.lemmas.Str.{char_from_byte, encode_ascii, inside_one, utf8_lossy_empty}
use Rattle.bstr.specs.Utf8.{decoded, or_replacement}
use Rattle.bstr.proofs.lemmas.LossyLemmas.{lossy_chars-utf8_lossy}
use Rattle.bstr.proofs.lemmas.PieceLemmas.{lossy_chars-step, piece-bounds}
use Rattle.bstr.proofs.lemmas.SoundLemmas.{SpellsChar-decoded}
use Rattle.termwiz_keymap.specs.Bytes.{Begins, Occurs}
use Rattle.termwiz_keymap.proofs.lemmas.lists.CommonPrefixes.{Overlaps, overlap, append-some}
use Rattle.termwiz_keymap.proofs.lemmas.lists.CommonPrefixes.Overlaps.{within, past}
use Rattle.termwiz_keys.specs.Introducers.{END}

-- the character that is read first of some bytes
abbrev first_character : List ℕ → ℕ
first_character bs = or_replacement (decoded bs).char

-- what follows it
abbrev further : List ℕ → List ℕ
further bs = drop (decoded bs).size bs

first_read : (bs : List ℕ) → 0 < length bs → utf8_lossy bs ≡ encode_utf8 (first_character bs) ++ utf8_lossy (further bs)
first_read bs some =
    sym (lossy_chars-utf8_lossy bs) ∙ ap encode_utf8_all (lossy_chars-step bs some)
    ∙ ap (λ t. encode_utf8 (first_character bs) ++ t) (lossy_chars-utf8_lossy (further bs))

-- a byte that stands first, and what is read of the others
record StandsFirst (bs : List ℕ) (x : ℕ) (t : List ℕ) : Type 0 where
  rest : List ℕ
  splits : bs ≡ x ∷ rest
  reads : utf8_lossy rest ≡ t

-- an ASCII byte that is read first stands first
ascii_first : (bs t : List ℕ) (x : ℕ) → x < 128 → utf8_lossy bs ≡ x ∷ t → StandsFirst bs x t
ascii_first [] t x low e = absurd (let none : [] ≡ x ∷ t = sym (utf8_lossy_empty [] refl) ∙ e in cc (none))
ascii_first (b ∷ bs) t x low e = go (decoded (b ∷ bs)).char refl
  where
    step : encode_utf8 (first_character (b ∷ bs)) ++ utf8_lossy (further (b ∷ bs)) ≡ x ∷ t
    step = sym (first_read (b ∷ bs) (omega arith)) ∙ e

    same : first_character (b ∷ bs) ≡ x
    same = char_from_byte (x ∷ t) (utf8_lossy (further (b ∷ bs))) (first_character (b ∷ bs)) (sym step) low (omega arith)

    go : (o : Option ℕ) → (decoded (b ∷ bs)).char ≡ o → StandsFirst (b ∷ bs) x t
    go None none = absurd (let far : 0xFFFD ≡ x = sym (ap or_replacement none) ∙ same in omega arith)
    go (Some y) is =
        let its : y ≡ x = sym (ap or_replacement is) ∙ same in
        let one : encode_utf8 y ≡ x ∷ [] = encode_ascii y (omega arith) ∙ ap (λ c. c ∷ []) its in
        let other : encode_utf8 (first_character (b ∷ bs)) ≡ x ∷ [] = ap encode_utf8 (ap or_replacement is) ∙ one in
        let rest : x ∷ utf8_lossy (further (b ∷ bs)) ≡ x ∷ t = sym (ap (λ z. z ++ utf8_lossy (further (b ∷ bs))) other) ∙ step in
        record {
          rest = further (b ∷ bs);
          splits = (SpellsChar-decoded (b ∷ bs) y is).bytes ∙ ap (λ z. z ++ further (b ∷ bs)) one;
          reads = cc (rest);
        }

-- a byte that stands somewhere, and what is read of the bytes behind it
record StandsWithin (bs : List ℕ) (x : ℕ) (t : List ℕ) : Type 0 where
  before : List ℕ
  rest : List ℕ
  splits : bs ≡ before ++ x ∷ rest
  reads : utf8_lossy rest ≡ t

-- no encoding of more than one byte has an ASCII byte
not_inside : (c z y : ℕ) (p w : List ℕ) → y < 128 → encode_utf8 c ≡ z ∷ (p ++ y ∷ w) → ⊥
not_inside c z y p w low e =
    let place : get_or (encode_utf8 c) (suc (length p)) 0 ≡ y =
    ap (λ u. get_or u (suc (length p)) 0) e ∙ at_seam p in
    let size : length (encode_utf8 c) ≡ suc (length (p ++ y ∷ w)) = ap length e in
    let its : c ≡ get_or (encode_utf8 c) (suc (length p)) 0 = inside_one c [] (encode_utf8 c) (suc (length p)) (sym (append-nil (encode_utf8 c)))
    (omega (arith, size, length-append p (y ∷ w))) (omega (arith, place)) in
    let one : length (encode_utf8 c) ≡ 1 = ap length (encode_ascii c (omega (arith, its, place))) in
    omega (arith, size, one, length-append p (y ∷ w))
  where
    at_seam : (q : List ℕ) → get_or (q ++ y ∷ w) (length q) 0 ≡ y
    at_seam [] = refl
    at_seam (v ∷ q) = at_seam q

-- an ASCII byte that is read stands there
ascii_within : (n : ℕ) (bs p t : List ℕ) (x : ℕ) → length bs ≤ n → x < 128 → utf8_lossy bs ≡ p ++ x ∷ t → StandsWithin bs x t
ascii_within n [] p t x le low e = absurd (append-some p (x ∷ t) (λ h. cc (h)) (sym e ∙ utf8_lossy_empty [] refl))
ascii_within zero (b ∷ bs) p t x le low e = absurd (omega arith)
ascii_within (suc n) (b ∷ bs) [] t x le low e =
    let f = ascii_first (b ∷ bs) t x low e in record { before = []; rest = f.rest; splits = f.splits; reads = f.reads }
ascii_within (suc n) (b ∷ bs) (z ∷ p) t x le low e =
    go (λ q h. ascii_within n (further (b ∷ bs)) q t x shorter low h)
    (overlap (z ∷ p) (x ∷ t) (encode_utf8 (first_character (b ∷ bs))) (utf8_lossy (further (b ∷ bs)))
    (sym (first_read (b ∷ bs) (omega arith)) ∙ e))
  where
    shorter : length (further (b ∷ bs)) ≤ n
    shorter = omega (arith, length-drop (decoded (b ∷ bs)).size (b ∷ bs), (piece-bounds (b ∷ bs) (omega arith)).0)

    further_on : StandsWithin (further (b ∷ bs)) x t → StandsWithin (b ∷ bs) x t
    further_on s = record {
      before = take (decoded (b ∷ bs)).size (b ∷ bs) ++ s.before;
      rest = s.rest;
      splits = sym (take-append-drop (decoded (b ∷ bs)).size (b ∷ bs)) ∙ ap (λ u. take (decoded (b ∷ bs)).size (b ∷ bs) ++ u) s.splits
          ∙ sym (append_assoc (take (decoded (b ∷ bs)).size (b ∷ bs)) s.before (x ∷ s.rest));
      reads = s.reads;
    }

    go : ((q : List ℕ) → utf8_lossy (further (b ∷ bs)) ≡ q ++ x ∷ t → StandsWithin (further (b ∷ bs)) x t)
        → Overlaps (z ∷ p) (x ∷ t) (encode_utf8 (first_character (b ∷ bs))) (utf8_lossy (further (b ∷ bs))) → StandsWithin (b ∷ bs) x t
    go below (within [] f g) = further_on (below [] (sym g))
    go below (within (y ∷ w) f g) =
        absurd (let same : y ≡ x = cc (g) in not_inside (first_character (b ∷ bs)) z y p w (omega arith) f)
    go below (past w n f g) = further_on (below w g)

-- ASCII bytes that are read first stand first
ascii_front : (front bs t : List ℕ) → AllByRecursion (λ b. b < 128) front → utf8_lossy bs ≡ front ++ t → Begins front bs
ascii_front [] bs t low e = (bs, refl)
ascii_front (x ∷ front) bs t low e =
    let f = ascii_first bs (front ++ t) x low.0 e in
    let more = ascii_front front f.rest t low.1 f.reads in
    (more.0, f.splits ∙ ap (λ u. x ∷ u) more.1)

-- END stands in the bytes if it stands in the text that is read of them
pub end_within : (body : List ℕ) → Occurs END (utf8_lossy body) → Occurs END body
end_within body o =
    let front : List ℕ = 91 ∷ 50 ∷ 48 ∷ 49 ∷ 126 ∷ [] in
    let s = ascii_within (length body) body o.0 (front ++ o.1) 27 (omega arith) (omega arith) (o.2 ∙ append_assoc o.0 END o.1) in
    let low : AllByRecursion (λ b. b < 128) front = (omega arith, (omega arith, (omega arith, (omega arith, (omega arith, tt))))) in
    let more = ascii_front front s.rest o.1 low s.reads in
    (s.before, more.0, s.splits ∙ ap (λ u. s.before ++ 27 ∷ u) more.1 ∙ sym (append_assoc s.before END more.0))
