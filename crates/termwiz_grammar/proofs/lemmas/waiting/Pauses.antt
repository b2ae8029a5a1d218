-- Flushing an Escape at which an item ends changes nothing.
use Rattle.std.proofs.Common.{◌≡◌, inl, inr, ⊎_elim, ℕ, Bool, true, false, List, [], ◌∷◌, ◌++◌, refl, sym, ap, ◌∙◌, subst, append_assoc, append-nil, arith}
use Rattle.std.proofs.lemmas.List.{append_cancel_left}
use Rattle.termwiz_keys.specs.Introducers.{ESC}
use Rattle.termwiz_keymap.specs.Bytes.{Begins}
use Rattle.termwiz_keys.specs.Keys.{escape, with_alt}
use Rattle.termwiz_keys.specs.declared.types.KeyEvent.{KeyEvent}
use Rattle.termwiz_keys.specs.declared.types.InputEvent.{InputEvent}
use Rattle.termwiz_keys.specs.declared.types.InputEvent.TheVariants.{Key}
use Rattle.termwiz_grammar.specs.Sequences.{Meaning, IsSequence}
use Rattle.termwiz_grammar.specs.Sequences.Meaning.{Row, Report}
use Rattle.termwiz_grammar.specs.Grammar.{Head, IsHead, IsLongest, IsKey, bytes_of, Item, Stands, Steps, Means}
use Rattle.termwiz_grammar.specs.Grammar.Head.{Sequence, Character, Broken}
use Rattle.termwiz_grammar.specs.WaitingKinds.{IsOneOrTwoEscapes}
use Rattle.termwiz_grammar.specs.Pauses.{EndsAt, PausedAt, ReadWithPauses, PausesChangeNothing, joined}
use Rattle.termwiz_grammar.proofs.lemmas.table.RowShape.Bytes.{one, more}
use Rattle.termwiz_grammar.proofs.lemmas.table.RowShape.{Bytes}
use Rattle.termwiz_grammar.proofs.lemmas.table.SequenceFacts.{escape_is_sequence, sequence_bytes}
use Rattle.termwiz_grammar.proofs.lemmas.items.ItemStable.{encode_some}
use Rattle.termwiz_grammar.proofs.lemmas.items.OneHead.{longest_once}
use Rattle.termwiz_grammar.proofs.lemmas.items.OneItem.{RowGives, Gives, reads, read_of, steps_once}
use Rattle.termwiz_grammar.proofs.lemmas.items.OneItem.RowGives.{its_key, its_paste, apart, joined as with_escape}
use Rattle.termwiz_grammar.proofs.lemmas.cuts.ChunkInvariance.{cut_independent, steps_join, steps_stay}
use Rattle.termwiz_grammar.proofs.lemmas.waiting.RestKinds.{alone, twice}

-- if ESC is the longest sequence, its meaning is the Escape key
meaning_of_escape : (u text : List ℕ) (m : Meaning) → IsLongest u text m → text ≡ ESC → m ≡ Row escape
meaning_of_escape u text m is same = (longest_once u text text m (Row escape) is (record {
  is_sequence = subst (λ t. IsSequence t (Row escape)) (sym same) escape_is_sequence;
  begins = is.begins;
  longest = is.longest;
})).1

sequence_some : (text : List ℕ) (m : Meaning) → IsSequence text m → text ≡ [] → ⊥
sequence_some text m is none = go (sequence_bytes text m is)
  where
    go : Bytes text → ⊥
    go (one b l e) = cc (none, e)
    go (more t n e p) = cc (none, e)

no_two_escapes : (text : List ℕ) (m : Meaning) → IsSequence text m → text ≡ ESC ++ ESC → ⊥
no_two_escapes text m is same = go (sequence_bytes text m is)
  where
    go : Bytes text → ⊥
    go (one b l e) = cc (same, e)
    go (more [] n e p) = cc (same, e)
    go (more (x ∷ t) n e p) = (let byte : 27 ≡ x = cc (same, e) in omega (arith, byte, p.0.0))

head_some : (u : List ℕ) (h : Head) → IsHead u h → bytes_of h ≡ [] → ⊥
head_some u (Sequence text m) is none = sequence_some text m is.is_sequence none
head_some u (Character c) is none = encode_some c none
head_some u (Broken byte) is none = cc (none)

-- the key of a head that is ESC
key_of_escape : (v : List ℕ) (h : Head) (k : KeyEvent) → Begins ESC v → IsHead v h → IsKey h k → bytes_of h ≡ ESC
    → k ≡ escape
key_of_escape v (Sequence text (Row j)) k begins is near same =
    near.1 ∙ (let row : Row j ≡ Row escape = meaning_of_escape v text (Row j) is same in cc (row))
key_of_escape v (Sequence text (Report r)) k begins is near same = absurd near
key_of_escape v (Character c) k begins is near same =
    absurd (is.no_sequence ESC (Row escape) escape_is_sequence begins)
key_of_escape v (Broken byte) k begins is near same =
    absurd (is.no_sequence ESC (Row escape) escape_is_sequence begins)

-- an item that is ESC is the Escape key
one_escape : (u : List ℕ) (f : Bool) (event : InputEvent) → Begins ESC u → Item u f ESC event → event ≡ Key escape
one_escape u f event begins item = (let r = reads u ESC event f item in go r.0 r.1 r.2)
  where
    row : (text : List ℕ) (k : KeyEvent) → IsLongest u text (Row k) → RowGives u f text k ESC event
        → event ≡ Key escape
    row text k is (its_key usual only bytes gives) =
        gives ∙ (let same : Row k ≡ Row escape = meaning_of_escape u text (Row k) is (sym bytes) in cc (same))
    row text k is (its_paste at body rest splits first bytes gives) = absurd (cc (bytes))
    row text k is (apart at v h splits some closed head far bytes gives) = gives
    row text k is (with_escape at v h j splits some closed head near bytes gives) =
        absurd (head_some v h head (sym (append_cancel_left ESC [] (bytes_of h) bytes)))

    go : (h : Head) → IsHead u h → Gives u f h ESC event → event ≡ Key escape
    go (Sequence text (Row k)) is gives = row text k is gives
    go (Sequence text (Report r)) is gives =
        absurd (let same : Report r ≡ Row escape = meaning_of_escape u text (Report r) is (sym gives.0) in cc (same))
    go (Character c) is gives = absurd (is.no_sequence ESC (Row escape) escape_is_sequence begins)
    go (Broken byte) is gives = absurd (is.no_sequence ESC (Row escape) escape_is_sequence begins)

-- an item that is ESC ESC is the Escape key with Alt
two_escapes : (s : List ℕ) (f : Bool) (event : InputEvent) → Item ((ESC ++ ESC) ++ s) f (ESC ++ ESC) event
    → event ≡ Key (with_alt escape)
two_escapes s f event item = (let r = reads ((ESC ++ ESC) ++ s) (ESC ++ ESC) event f item in go r.0 r.1 r.2)
  where
    row : (text : List ℕ) (k : KeyEvent) → IsLongest ((ESC ++ ESC) ++ s) text (Row k) → RowGives ((ESC ++ ESC) ++ s) f text k (ESC ++ ESC) event
        → event ≡ Key (with_alt escape)
    row text k is (its_key usual only bytes gives) =
        absurd (no_two_escapes text (Row k) is.is_sequence (sym bytes))
    row text k is (its_paste at body rest splits first bytes gives) = absurd (cc (bytes))
    row text k is (apart at v h splits some closed head far bytes gives) = absurd (cc (bytes))
    row text k is (with_escape at v h j splits some closed head near bytes gives) =
        let begins : Begins ESC v = (s, sym (append_cancel_left ESC (ESC ++ s) v splits)) in
        gives ∙ ap (λ x. Key (with_alt x))
        (key_of_escape v h j begins head near (sym (append_cancel_left ESC ESC (bytes_of h) bytes)))

    go : (h : Head) → IsHead ((ESC ++ ESC) ++ s) h → Gives ((ESC ++ ESC) ++ s) f h (ESC ++ ESC) event → event ≡ Key (with_alt escape)
    go (Sequence text (Row k)) is gives = row text k is gives
    go (Sequence text (Report r)) is gives =
        absurd (no_two_escapes text (Report r) is.is_sequence (sym gives.0))
    go (Character c) is gives = absurd (is.no_sequence ESC (Row escape) escape_is_sequence (ESC ++ s, refl))
    go (Broken byte) is gives = absurd (is.no_sequence ESC (Row escape) escape_is_sequence (ESC ++ s, refl))

-- what a flush makes of ESC and of ESC ESC is the item of the whole text
flushed_item : (w rest after : List ℕ) (f : Bool) (events : List InputEvent) → IsOneOrTwoEscapes w → EndsAt w rest f
    → Means w false events after → Steps (w ++ rest) f events rest × (after ≡ [])
flushed_item w rest after f events escapes ends flushed = ⊎_elim
    (λ (a : w ≡ ESC).
    let here : Stands (ESC ++ rest) f ESC ends.0 = subst (λ x. Stands (x ++ rest) f x ends.0) a ends.1 in
    step ESC a (Key escape) alone
    (subst (λ e. Stands (ESC ++ rest) f ESC e) (one_escape (ESC ++ rest) f ends.0 (rest, refl) here.item) here))
    (λ (b : w ≡ ESC ++ ESC).
    let here : Stands ((ESC ++ ESC) ++ rest) f (ESC ++ ESC) ends.0 =
    subst (λ x. Stands (x ++ rest) f x ends.0) b ends.1 in
    step (ESC ++ ESC) b (Key (with_alt escape)) twice
    (subst (λ e. Stands ((ESC ++ ESC) ++ rest) f (ESC ++ ESC) e) (two_escapes rest f ends.0 here.item) here))
    escapes
  where
    step : (v : List ℕ) → w ≡ v → (event : InputEvent) → Means v false (event ∷ []) []
        → Stands (v ++ rest) f v event → Steps (w ++ rest) f events rest × (after ≡ [])
    step v same event means here =
        let once = steps_once events (event ∷ []) v after [] false
        (read_of (subst (λ x. Means x false events after) same flushed)) (read_of means) in (
          subst (λ x. Steps (x ++ rest) f events rest) (sym same)
              (subst (λ e. Steps (v ++ rest) f e rest) (sym once.0) (v, rest, here, refl, refl)),
          once.1,
        )

-- one pause
paused : (T W R V A : List ℕ) (E P D : List InputEvent) (f : Bool) → Means T true E W → PausedAt W R f P A
    → Means (A ++ R) f D V → Means (T ++ R) f (E ++ (P ++ D)) V
paused T W R V A E P D f read (inl (none, same)) later =
    subst (λ x. Means (T ++ R) f (E ++ (x ++ D)) V) (sym none)
    (cut_independent T R W V E D f read (subst (λ x. Means (x ++ R) f D V) same later))
paused T W R V A E P D f read (inr (escapes, ends, flushed)) later =
    let it = flushed_item W R A f P escapes ends flushed in
    let means : Means R f D V = subst (λ x. Means (x ++ R) f D V) it.1 later in record {
      steps = steps_join E (P ++ D) (T ++ R) (W ++ R) V f (steps_stay E T R W f read.steps)
          (steps_join P D (W ++ R) R V f it.0 means.steps);
      rest = means.rest;
    }

pauses_from : (reads : List (List ℕ)) (before : List ℕ) (f : Bool) (events : List InputEvent) (waiting : List ℕ)
    → ReadWithPauses before reads f events waiting → Means (before ++ joined reads) f events waiting
pauses_from [] before f events waiting h = subst (λ x. Means x f events waiting) (sym (append-nil before)) h
pauses_from (read ∷ reads) before f events waiting (first, pause, later, between, after, is, means, at, rest) =
    subst (λ x. Means x f events waiting) (append_assoc before read (joined reads))
    (subst (λ x. Means ((before ++ read) ++ joined reads) f x waiting) (sym is)
    (paused (before ++ read) between (joined reads) waiting after first pause later f means at
    (pauses_from reads after f later waiting rest)))

pub pauses_change_nothing : PausesChangeNothing
pauses_change_nothing reads f events waiting h = pauses_from reads [] f events waiting h
