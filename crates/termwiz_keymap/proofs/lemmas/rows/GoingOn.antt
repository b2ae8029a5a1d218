-- Keys that begin a text, go on after it, or part from it.
use Rattle.std.proofs.Common.{◌≡◌, ◌≢◌, ◌∙◌, ◌<◌, ◌≤◌, ◌⊎◌, ⊎_elim, inl, inr, ℕ, zero, suc, List, [], ◌∷◌, ◌++◌, length, take, drop, get_or, refl, sym, ap, ap₂, subst, arith, append_assoc, length-append, take-append-drop}
use Rattle.std.proofs.Math.Seq.{get_or-append_seam}
use Rattle.std.proofs.Math.ListN.{get_or-append}
use Rattle.std.proofs.lemmas.List.{get_or-take, length-take-le}
use Rattle.termwiz_keymap.specs.Bytes.{Begins}
use Rattle.termwiz_keymap.specs.KeyRows.{AgreeFor, ShareFirst}
use Rattle.termwiz_keymap.specs.KeyRanges.{GoesOn}
use Rattle.termwiz_keymap.proofs.lemmas.lists.CommonPrefixes.{Overlaps, within, past, overlap, append-some, length-some}
use Rattle.termwiz_keymap.proofs.lemmas.rows.KeyOrder.{Before, first_bytes, rests_before}

pub length-GoesOn : (front key : List ℕ) → GoesOn front key → length front < length key
length-GoesOn front key (rest, some, is) = omega (arith, ap length is, length-append front rest, length-some rest some)

-- the byte of a key after its first bytes
pub byte_after : (front rest key : List ℕ) (b : ℕ) → key ≡ front ++ b ∷ rest → get_or key (length front) 0 ≡ b
byte_after front rest key b is = ap (λ k. get_or k (length front) 0) is ∙ get_or-append_seam front b rest 0

pub next_byte : (front key : List ℕ) → GoesOn front key
    → (rest : List ℕ) × (key ≡ front ++ get_or key (length front) 0 ∷ rest)
next_byte front key ([], some, is) = absurd (some refl)
next_byte front key (b ∷ rest, some, is) =
    (rest, is ∙ ap (λ c. front ++ c ∷ rest) (sym (byte_after front rest key b is)))

-- of two keys that go on after the same bytes, the first has no greater byte there
pub bytes_rise : (front x y : List ℕ) → GoesOn front x → GoesOn front y → Before x y
    → get_or x (length front) 0 ≤ get_or y (length front) 0
bytes_rise front x y gx gy before =
    let p = next_byte front x gx in
    let q = next_byte front y gy in
    let a = get_or x (length front) 0 in
    let b = get_or y (length front) 0 in
    let moved : Before (front ++ a ∷ p.0) (front ++ b ∷ q.0) =
    subst (λ k. Before k (front ++ b ∷ q.0)) p.1 (subst (λ k. Before x k) q.1 before) in
    ⊎_elim (λ (less : a < b). omega arith) (λ e. omega (arith, e.0))
    (first_bytes a b p.0 q.0 (rests_before front (a ∷ p.0) (b ∷ q.0) moved))

parted_by : (a r u s : List ℕ) → Overlaps a r u s → Begins a u ⊎ GoesOn u a
parted_by a r u s (within t e f) = inl (t, e)
parted_by a r u s (past t some e f) = inr (t, some, e)

-- a key that begins a text begins its first bytes, or goes on after them
pub parted : (key front x : List ℕ) → Begins key (front ++ x) → Begins key front ⊎ GoesOn front key
parted key front x (rest, e) = parted_by key rest front x (overlap key rest front x e)

-- what goes on after a text goes on after its first bytes
pub goes_front : (key front x : List ℕ) → GoesOn (front ++ x) key → GoesOn front key
goes_front key front x (rest, some, is) = (x ++ rest, append-some x rest some, is ∙ append_assoc front x rest)

agree_rest : (x y : ℕ) (key text : List ℕ) (n : ℕ) → AgreeFor (x ∷ key) (y ∷ text) (suc n) → AgreeFor key text n
agree_rest x y key text n is = record {
  in_key = omega (arith, is.in_key);
  in_text = omega (arith, is.in_text);
  same = λ i below. is.same (suc i) (omega arith);
  differ = λ k t. is.differ (omega arith) (omega arith);
}

turned : (key text : List ℕ) (n : ℕ) → AgreeFor key text n → AgreeFor text key n
turned key text n is = record {
  in_key = is.in_text;
  in_text = is.in_key;
  same = λ i below. sym (is.same i below);
  differ = λ k t e. is.differ t k (sym e);
}

same_front : (key text : List ℕ) → length key ≤ length text
    → ((i : ℕ) → i < length key → get_or key i 0 ≡ get_or text i 0) → key ≡ take (length key) text
same_front [] text inside same = refl
same_front (a ∷ key) [] inside same = absurd (omega arith)
same_front (a ∷ key) (b ∷ text) inside same =
    ap₂ (λ c l. c ∷ l) (same 0 (omega arith)) (same_front key text (omega arith) (λ i below. same (suc i) (omega arith)))

-- a key that agrees with a text for its whole length begins it
pub agreed_begins : (key text : List ℕ) (n : ℕ) → AgreeFor key text n → n ≡ length key → Begins key text
agreed_begins key text n is whole =
    let same : key ≡ take (length key) text =
    same_front key text (omega (arith, is.in_text)) (λ i below. is.same i (omega arith)) in (
      drop (length key) text,
      sym (take-append-drop (length key) text) ∙ ap (λ x. x ++ drop (length key) text) (sym same),
    )

-- a longer key that agrees with a text for the text's whole length goes on after it
pub agreed_goes_on : (key text : List ℕ) (n : ℕ) → AgreeFor key text n → n ≡ length text → n ≢ length key
    → GoesOn text key
agreed_goes_on key text n is whole longer =
    let begins = agreed_begins text key n (turned key text n is) whole in (
      begins.0,
      (λ none. longer (omega (arith, ap length begins.1, length-append text begins.0, ap length none))),
      begins.1,
    )

agrees_whole : (key x : List ℕ) (n : ℕ) → AgreeFor key (key ++ x) n → length key ≤ n
agrees_whole [] x n is = omega arith
agrees_whole (a ∷ key) x zero is = absurd (is.differ (omega arith) (omega arith) refl)
agrees_whole (a ∷ key) x (suc n) is = omega (arith, agrees_whole key x n (agree_rest a a key (key ++ x) n is))

-- a key that agrees with a text for less than its length doesn't begin it
pub agreed_not_begins : (key text : List ℕ) (n : ℕ) → AgreeFor key text n → n ≢ length key → Begins key text → ⊥
agreed_not_begins key text n is less (rest, e) =
    less (omega (arith, agrees_whole key rest n (subst (λ t. AgreeFor key t n) e is), is.in_key))

-- nor does it go on after the text, if it agrees with it for less than the text's length
pub agreed_not_goes_on : (key text : List ℕ) (n : ℕ) → AgreeFor key text n → n ≢ length text → GoesOn text key → ⊥
agreed_not_goes_on key text n is less (rest, some, e) =
    agreed_not_begins text key n (turned key text n is) less (rest, e)

-- a key that goes on after the first bytes of a text shares them with it
pub goes_on_shares : (key text : List ℕ) (n : ℕ) → n ≤ length text → GoesOn (take n text) key → ShareFirst key text n
goes_on_shares key text n inside goes =
    let len : length (take n text) ≡ n = length-take-le n text inside in
    record {
      in_key = omega (arith, length-GoesOn (take n text) key goes);
      in_text = inside;
      same = λ i below.
          ap (λ k. get_or k i 0) goes.2 ∙ get_or-append (take n text) goes.0 0 i (omega arith)
          ∙ get_or-take n text i 0 below;
    }
