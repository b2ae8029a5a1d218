-- A text that a flush reads as one key is that key at once, but for the seven texts that wait.
use Rattle.std.proofs.Common.{◌≡◌, ◌≢◌, ◌⊎◌, inl, inr, ⊎_elim, ℕ, zero, ◌<◌, ◌≤◌, true, false, List, [], ◌∷◌, ◌++◌, refl, sym, ap, ◌∙◌, subst, arith, append-nil, Contains, lit<, codes}
use Rattle.std.specs.Char.{encode_utf8}
use Rattle.std.proofs.Math.Utf8.{low_scalar}
use Rattle.std.proofs.lemmas.Str.{encode_ascii}
use Rattle.termwiz_keymap.proofs.lemmas.lists.CommonPrefixes.{append-some}
use Rattle.termwiz_keys.specs.Introducers.{ESC, CSI, SS3}
use Rattle.termwiz_keys.specs.Keys.{escape}
use Rattle.termwiz_keys.specs.declared.types.KeyEvent.{KeyEvent}
use Rattle.termwiz_keys.specs.declared.types.InputEvent.{InputEvent}
use Rattle.termwiz_grammar.specs.Grammar as port
use Rattle.termwiz_grammar.specs.Grammar.{Head, IsHead, IsCharacter, IsBroken}
use Rattle.termwiz_grammar.specs.Grammar.Head.{Sequence, Character, Broken}
use Rattle.termwiz_grammar.specs.Grammar.Item.{key, char, broken, mouse, paste, lone_escape, alt}
use Rattle.termwiz_grammar.specs.Sequences.{Meaning, IsSequence}
use Rattle.termwiz_grammar.specs.Sequences.Meaning.{Row, Report}
use Rattle.termwiz_grammar.specs.Table.{rows}
use Rattle.termwiz_grammar.proofs.lemmas.characters.CharacterPrefixes.{sequence_finished, unfinished_high}
use Rattle.termwiz_grammar.proofs.lemmas.mouse.OneReport.{report_plain}
use Rattle.termwiz_grammar.proofs.lemmas.table.RowShape.{Bytes, no_report_shape, row_shaped, three_beginnings}
use Rattle.termwiz_grammar.proofs.lemmas.table.RowShape.Bytes.{one, more}
use Rattle.termwiz_grammar.proofs.lemmas.table.SequenceFacts.{escape_is_sequence, sequence_bytes}
use Rattle.termwiz_laws.proofs.lemmas.first_bytes.EncodedBytes.{IsSeveral, encode_forms}
use Rattle.termwiz_laws.proofs.lemmas.further_keys.SingleKey.{Plainly}
use Rattle.termwiz_laws.proofs.lemmas.further_keys.SingleKey.Plainly.{by_row as as_row, by_character as as_character, by_broken_byte}
use Rattle.termwiz_laws.proofs.lemmas.key_streams.NoFlush.{first_byte}
use Rattle.termwiz_laws.proofs.lemmas.plain_texts.CharactersInTurn.{text_character_stands}
use Rattle.termwiz_extended_events.specs.declared.types.Event.{Event}
use Rattle.termwiz_extended_events.specs.declared.types.Event.TheVariants.{Key as KeyOf}
use Rattle.termwiz_extended_events.specs.declared.types.KeyReport.{KeyReport}
use Rattle.termwiz_extended_events.specs.declared.types.Reading.{Reading}
use Rattle.termwiz_extended_events.specs.PortEvents.{told}
use Rattle.termwiz_extended_grammar.specs.ExtendedGrammar.{BeginsExtended, BeginsKnown, IsOpen, IsUsual, Means, Stands, StartsExtended}
use Rattle.termwiz_extended_grammar.specs.ExtendedGrammar.Stands.{usual, extra, alt_key, lone_escape as lone, string}
use Rattle.termwiz_extended_grammar.proofs.lemmas.forms.FormBytes.{IsSecond, mark_shape}
use Rattle.termwiz_extended_grammar.proofs.lemmas.forms.ExtraFacts.{completed_mark, mark_from_unfinished, unfinished_reads}
use Rattle.termwiz_extended_grammar.proofs.lemmas.forms.PortLayouts.{Layout, Past, sequence_layout}
use Rattle.termwiz_extended_grammar.proofs.lemmas.forms.PortLayouts.Layout.{alone as single_byte, paired, longer}
use Rattle.termwiz_extended_grammar.proofs.lemmas.forms.PortLayouts.Past.{lettered, with_dollar}
use Rattle.termwiz_extended_grammar.proofs.lemmas.items.ExtendedItems.{starts_shape}
use Rattle.termwiz_extended_grammar.proofs.lemmas.items.ExtendedRests.{empty_is_rest}
use Rattle.termwiz_extended_grammar.proofs.lemmas.items.ExtraHeads.{four_beginnings}
use Rattle.termwiz_kitty.proofs.lemmas.legacy.ReadAsOne.{second_byte}
use Rattle.termwiz_senders.proofs.lemmas.RowsAlone.{row_of}
use Rattle.termwiz_senders.proofs.lemmas.StringsAlone.{IsOfString, comes_of_string}
use Rattle.termwiz_event_laws.specs.EventLaws.{waiting_texts}
use Rattle.termwiz_event_laws.proofs.lemmas.KeysAfterEscape.{starts_from_apart}

-- The seven texts.
escape_waits : Contains waiting_texts ESC
escape_waits = (zero, lit< tt, refl)

escapes_wait : Contains waiting_texts (27 ∷ 27 ∷ [])
escapes_wait = (1, lit< tt, refl)

second_waits : (b : ℕ) → IsSecond b → Contains waiting_texts (27 ∷ b ∷ [])
second_waits b (inl e) = subst (λ c. Contains waiting_texts (27 ∷ c ∷ [])) (sym e) (2, lit< tt, refl)
second_waits b (inr (inl e)) = subst (λ c. Contains waiting_texts (27 ∷ c ∷ [])) (sym e) (3, lit< tt, refl)
second_waits b (inr (inr (inl e))) = subst (λ c. Contains waiting_texts (27 ∷ c ∷ [])) (sym e) (5, lit< tt, refl)
second_waits b (inr (inr (inr (inl e)))) = subst (λ c. Contains waiting_texts (27 ∷ c ∷ [])) (sym e) (4, lit< tt, refl)
second_waits b (inr (inr (inr (inr e)))) = subst (λ c. Contains waiting_texts (27 ∷ c ∷ [])) (sym e) (6, lit< tt, refl)

-- ESC, or ESC and the second byte of a mark
data IsFront (text : List ℕ) : Type 0 where
  escape_only : text ≡ ESC → IsFront text
  with_second : (b : ℕ) → IsSecond b → text ≡ 27 ∷ b ∷ [] → IsFront text

front_waits : (text : List ℕ) → IsFront text → Contains waiting_texts text
front_waits text (escape_only e) = subst (Contains waiting_texts) (sym e) escape_waits
front_waits text (with_second b is e) = subst (Contains waiting_texts) (sym e) (second_waits b is)

-- what properly begins one of the extended grammar's begins with ESC and such a byte
begins_mark : (reading : Reading) (u : List ℕ) → BeginsExtended reading u
    → (b : ℕ) × (r : List ℕ) × (tail : List ℕ) × (u ++ tail ≡ 27 ∷ b ∷ r) × IsSecond b
begins_mark reading u h =
    let mark = completed_mark u (mark_from_unfinished reading u h) in
    let shape = mark_shape (u ++ mark.0) mark.2 in
    (shape.0, shape.1, mark.0, shape.2, shape.4)

known_first : (reading : Reading) (y : ℕ) (v : List ℕ) → BeginsKnown reading (y ∷ v) → (y ≡ 27) ⊎ (128 ≤ y)
known_first reading y v (inl b) = first_byte y v b
known_first reading y v (inr x) = (let m = begins_mark reading (y ∷ v) x in inl (cc (m.3)))

no_past : {r : List ℕ} → Past r → r ≡ [] → ⊥
no_past (lettered middle last f a l m n) none = append-some middle (last ∷ []) (λ h. cc (h)) (sym f ∙ none)
no_past (with_dollar digit f d) none = cc (f, none)

-- A row that properly begins something known.
row_begins : (reading : Reading) (x : List ℕ) (k : KeyEvent) → IsSequence x (Row k) → x ≢ [] → BeginsKnown reading x → IsFront x
unfolding IsSequence
row_begins reading x k is some (inl (inr h)) =
    absurd (sequence_finished x x (Row k) is ([], sym (append-nil x)) some h)
row_begins reading x k is some (inr h) = ⊎_elim
    (λ (e : x ≡ ESC). escape_only e)
    (λ (rest : (x ≡ CSI) ⊎ ((x ≡ SS3) ⊎ (x ≡ ESC ++ codes "P"))). ⊎_elim
    (λ (e : x ≡ CSI). with_second 91 (inl refl) e)
    (λ (last : (x ≡ SS3) ⊎ (x ≡ ESC ++ codes "P")). ⊎_elim
    (λ (e : x ≡ SS3). with_second 79 (inr (inl refl)) e)
    (λ (e : x ≡ ESC ++ codes "P"). with_second 80 (inr (inr (inr (inl refl)))) e)
    last)
    rest)
    ((four_beginnings reading x (Row k) (unfinished_reads reading x h) is).0 h)
row_begins reading x k is some (inl (inl h)) = go h.meaning h.is_sequence
  where
    by_layout : (rest : List ℕ) → x ++ h.tail ≡ 27 ∷ 91 ∷ 60 ∷ rest → Layout x → IsFront x
    by_layout rest f (single_byte b e) = escape_only (e ∙ ap (λ c. c ∷ []) (cc (e, f)))
    by_layout rest f (paired b e l) = let same : b ≡ 91 = cc (e, f) in with_second 91 (inl refl) (e ∙ ap (λ c. 27 ∷ c ∷ []) same)
    by_layout rest f (longer b [] e second past) = absurd (no_past past refl)
    by_layout rest f (longer b (y ∷ r) e second past) =
        let whole : x ≡ 27 ∷ 91 ∷ 60 ∷ r = cc (e, f) in
        absurd (no_report_shape r (row_shaped (27 ∷ 91 ∷ 60 ∷ r) k (subst (λ t. Contains rows (t, k)) whole is)).shape)

    go : (m : Meaning) → IsSequence (x ++ h.tail) m → IsFront x
    go (Row j) s = ⊎_elim
        (λ (e : x ≡ ESC). escape_only e)
        (λ (rest : (x ≡ CSI) ⊎ (x ≡ SS3)). ⊎_elim
        (λ (e : x ≡ CSI). with_second 91 (inl refl) e) (λ (e : x ≡ SS3). with_second 79 (inr (inl refl)) e) rest)
        ((three_beginnings x).0 (k, j, h.tail, is, h.longer, s))
    go (Report m) s = let shape = report_plain (x ++ h.tail) m s in by_layout shape.0 shape.1 (sequence_layout x (Row k) is)

-- A character that begins no sequence properly begins nothing.
char_no_escape : (c : ℕ) (r : List ℕ) → IsCharacter (encode_utf8 c) c → encode_utf8 c ≡ 27 ∷ r → ⊥
char_no_escape c r is e = is.no_sequence ESC (Row escape) escape_is_sequence (r, e)

low_or_high : (b : ℕ) → (b < 128) ⊎ (128 ≤ b)
low_or_high b = grind arith

char_begins : (reading : Reading) (c : ℕ) → IsCharacter (encode_utf8 c) c → BeginsKnown reading (encode_utf8 c) → ⊥
char_begins reading c is begins = ⊎_elim low high (encode_forms c is.scalar)
  where
    low : (c < 128) × (encode_utf8 c ≡ c ∷ []) → ⊥
    low first = ⊎_elim
        (λ (e : c ≡ 27). char_no_escape c [] is (first.1 ∙ ap (λ b. b ∷ []) e))
        (λ (h : 128 ≤ c). omega (arith, first.0, h))
        (known_first reading c [] (subst (BeginsKnown reading) first.1 begins))

    high : IsSeveral (encode_utf8 c) → ⊥
    high several = ⊎_elim
        (λ (l : c < 128). is_low l)
        (λ (h : 128 ≤ c). by_kind h begins)
        (low_or_high c)
      where
        is_low : c < 128 → ⊥
        is_low l = (let s = subst IsSeveral (encode_ascii c l) several in s.2 refl)

        by_kind : 128 ≤ c → BeginsKnown reading (encode_utf8 c) → ⊥
        by_kind h (inl b) =
            let stands = text_character_stands c [] true (is.scalar, inr (omega (arith, h)), (λ e. omega (arith, h, e))) in
            stands.closed (subst (λ t. port.IsOpen t true) (sym (append-nil (encode_utf8 c)))
            (record { more_comes = refl; some = λ none. (let s = subst IsSeveral none several in s); beginning = b }))
        by_kind h (inr x) = by_first (encode_utf8 c) refl several (begins_mark reading (encode_utf8 c) x)
          where
            by_first : (u : List ℕ) → encode_utf8 c ≡ u → IsSeveral u
                → (b : ℕ) × (r : List ℕ) × (tail : List ℕ) × (encode_utf8 c ++ tail ≡ 27 ∷ b ∷ r) × IsSecond b → ⊥
            by_first [] e s m = s
            by_first (y ∷ v) e s m = let same : y ≡ 27 = cc (e, m.3) in omega (arith, same, s.0)

-- what begins something with an ESC first has one of the five bytes second
pub second_known : (reading : Reading) (w : List ℕ) → w ≢ [] → BeginsKnown reading (27 ∷ w) → (b : ℕ) × (u : List ℕ) × (w ≡ b ∷ u) × IsSecond b
second_known reading [] some begins = absurd (some refl)
second_known reading (b ∷ u) some (inl (inl h)) = (b, u, refl, go (sequence_layout (27 ∷ b ∷ (u ++ h.tail)) h.meaning h.is_sequence))
  where
    go : Layout (27 ∷ b ∷ (u ++ h.tail)) → IsSecond b
    go (single_byte c e) = absurd (cc (e))
    go (paired c e l) = absurd (append-some u h.tail h.longer (cc (e)))
    go (longer c t e second past) =
        let same : c ≡ b = cc (e) in ⊎_elim (λ (m : c ≡ 91). inl (sym same ∙ m)) (λ (m : c ≡ 79). inr (inl (sym same ∙ m))) second
second_known reading (b ∷ u) some (inl (inr h)) = absurd (omega (arith, (unfinished_high (27 ∷ b ∷ u) (λ e. cc (e)) h).0))
second_known reading (b ∷ u) some (inr x) =
    let m = begins_mark reading (27 ∷ b ∷ u) x in
    (b, u, refl, subst IsSecond (let same : m.0 ≡ b = cc (m.3) in same) m.4)

-- The text is no byte that begins no character, alone or after an ESC, and not ESC before an introducer.
pub record IsWhole (text : List ℕ) : Type 0 where
  pub no_byte : (b : ℕ) → text ≡ b ∷ [] → b < 128
  pub no_pair : (b : ℕ) → text ≡ 27 ∷ b ∷ [] → b < 128
  pub no_triple : (b : ℕ) → IsSecond b → text ≢ 27 ∷ 27 ∷ b ∷ []

module _ (reading : Reading) (bytes : List ℕ) (r : KeyReport) (is_whole : IsWhole bytes) (read : Means reading bytes false (KeyOf r ∷ []) [])
    (waits : ¬ Contains waiting_texts bytes) where
  abbrev AtOnce : Type 0
  AtOnce = Means reading bytes true (KeyOf r ∷ []) []

  not_open : (u : List ℕ) → ¬ BeginsKnown reading u → ¬ IsOpen reading u true
  not_open u never h = never h.beginning

  usual_more : (u : List ℕ) → IsUsual reading u false → ¬ BeginsKnown reading u → IsUsual reading u true
  usual_more u here never = record { none = here.none; closed = not_open u never }

  closed_port : (u : List ℕ) → ¬ BeginsKnown reading u → ¬ port.IsOpen u true
  closed_port u never h = never (inl h.beginning)

  -- an item that is the whole text
  whole_item : (b : List ℕ) (event : InputEvent) → port.Item bytes true b event → told reading b event ≡ KeyOf r → bytes ≡ b
      → ¬ BeginsKnown reading bytes → ((v : List ℕ) → bytes ≡ ESC ++ v → v ≢ [] → ¬ BeginsKnown reading v) → IsUsual reading bytes false
      → ((v : List ℕ) → bytes ≡ ESC ++ v → IsUsual reading v false) → AtOnce
  whole_item b event item e all never behind here after = record {
    steps = (
      [],
      subst (Stands reading bytes true []) e
          (usual b [] event (record { closed = closed_port bytes never; item = item }) (all ∙ sym (append-nil b)) (usual_more bytes here never)
          (λ v split. record { none = (after v split).none; closed = λ h. behind v split h.some h.beginning })),
      refl,
    );
    rest = empty_is_rest reading true;
  }

  -- what is behind the ESC of a row, or of a character, begins nothing
  row_behind : (x v : List ℕ) (k : KeyEvent) → IsSequence x (Row k) → x ≡ ESC ++ v → v ≢ [] → ¬ BeginsKnown reading v
  row_behind x [] k is e some begins = some refl
  row_behind x (y ∷ v) k is e some begins = go (sequence_bytes x (Row k) is)
    where
      plain_first : Bytes x → (32 ≤ y) × (y < 127)
      plain_first (one c l f) = absurd (cc (e, f))
      plain_first (more [] n f all) = absurd (n refl)
      plain_first (more (z ∷ t) n f all) = let same : z ≡ y = cc (e, f) in subst (λ n. (32 ≤ n) × (n < 127)) same all.0

      go : Bytes x → ⊥
      go shape =
          let range = plain_first shape in
          ⊎_elim (λ (c : y ≡ 27). omega (arith, c, range.0)) (λ (h : 128 ≤ y). omega (arith, h, range.1)) (known_first reading y v begins)

  head_plainly : (v : List ℕ) (h : Head) (j : KeyEvent) → IsHead v h → port.IsKey h j → Plainly (port.bytes_of h) j
  head_plainly v (Sequence x (Row i)) j is near = as_row (subst (λ k. Contains rows (x, k)) (sym near.1) (row_of x i is.is_sequence))
  head_plainly v (Sequence x (Report m)) j is near = absurd near
  head_plainly v (Character c) j is near = as_character c is.scalar refl near
  head_plainly v (Broken b) j is near = by_broken_byte b refl near

  high_byte : (b : ℕ) → IsBroken (b ∷ []) b → 128 ≤ b
  high_byte b is = ⊎_elim
      (λ (low : b < 128). absurd (is.unspelled b (low_scalar b (omega arith)) ([], sym (ap (λ t. t ++ []) (encode_ascii b low)))))
      (λ (high : 128 ≤ b). high) (low_or_high b)

  no_broken : (b : ℕ) → bytes ≡ b ∷ [] → 128 ≤ b → ⊥
  no_broken b e high = omega (arith, is_whole.no_byte b e, high)

  no_broken_pair : (b : ℕ) → bytes ≡ 27 ∷ b ∷ [] → 128 ≤ b → ⊥
  no_broken_pair b e high = omega (arith, is_whole.no_pair b e, high)

  -- behind an ESC a head that is a key begins nothing, but for the texts that wait
  head_begins : (v : List ℕ) (h : Head) (j : KeyEvent) → IsHead v h → port.IsKey h j → v ≡ port.bytes_of h → bytes ≡ ESC ++ port.bytes_of h
      → port.bytes_of h ≢ [] → ¬ BeginsKnown reading (port.bytes_of h)
  head_begins v (Sequence x (Row i)) j is near e all some begins = go (row_begins reading x i is.is_sequence some begins)
    where
      go : IsFront x → ⊥
      go (escape_only f) = waits (subst (Contains waiting_texts) (sym (all ∙ ap (λ z. 27 ∷ z) f)) escapes_wait)
      go (with_second b second f) = is_whole.no_triple b second (all ∙ ap (λ z. 27 ∷ z) f)
  head_begins v (Sequence x (Report m)) j is near e all some begins = near
  head_begins v (Character c) j is near e all some begins = char_begins reading c (subst (λ u. IsCharacter u c) e is) begins
  head_begins v (Broken b) j is near e all some begins = no_broken_pair b all (high_byte b (subst (λ u. IsBroken u b) e is))

  of_item : (b : List ℕ) (event : InputEvent) → port.Item bytes false b event → told reading b event ≡ KeyOf r → bytes ≡ b
      → IsUsual reading bytes false → ((v : List ℕ) → bytes ≡ ESC ++ v → IsUsual reading v false) → AtOnce
  of_item b event (key x i is other single) e all here after = whole_item x event (key x i is other single) e all
      (λ begins. waits (front_waits bytes (row_begins reading bytes i row (λ none. no_bytes (sequence_bytes bytes (Row i) row) none) begins)))
      (λ v split. row_behind bytes v i row split) here after
    where
      row : IsSequence bytes (Row i)
      row = subst (λ t. IsSequence t (Row i)) (sym all) is.is_sequence

      no_bytes : Bytes bytes → bytes ≡ [] → ⊥
      no_bytes (one c l f) none = cc (f, none)
      no_bytes (more t n f a) none = cc (f, none)
  of_item b event (char c is) e all here after = whole_item (encode_utf8 c) event (char c is) e all
      (λ begins. char_begins reading c whole (subst (BeginsKnown reading) all begins))
      (λ v split some begins. char_no_escape c v whole (sym all ∙ split)) here after
    where
      whole : IsCharacter (encode_utf8 c) c
      whole = subst (λ u. IsCharacter u c) all is
  of_item b event (broken x is) e all here after = absurd (no_broken x all (high_byte x (subst (λ u. IsBroken u x) all is)))
  of_item b event (mouse x report is) e all here after = absurd (cc (e))
  of_item b event (paste body begins first) e all here after = absurd (cc (e))
  of_item b event (lone_escape v h after_it is apart) e all here after = absurd (after_it.some (cc (after_it.splits, all)))
  of_item b event (alt v h j after_it is near) e all here after =
      whole_item (ESC ++ port.bytes_of h) event (alt v h j (record {
        escape_head = after_it.escape_head;
        splits = after_it.splits;
        some = after_it.some;
        closed = λ opens. behind (inl (subst port.IsBeginning whole opens.beginning));
      }) is near) e all in_front (λ w split some begins. behind (subst (BeginsKnown reading) (cc (sym split ∙ all)) begins)) here after
    where
      whole : v ≡ port.bytes_of h
      whole = cc (sym after_it.splits ∙ all)

      some : port.bytes_of h ≢ []
      some none = after_it.some (whole ∙ none)

      behind : BeginsKnown reading (port.bytes_of h) → ⊥
      behind begins = head_begins v h j is near whole all some begins

      in_front : BeginsKnown reading bytes → ⊥
      in_front begins =
          let second = second_known reading (port.bytes_of h) some (subst (BeginsKnown reading) all begins) in by_rest second.0 second.1 second.2 second.3
        where
          by_rest : (x : ℕ) (u : List ℕ) → port.bytes_of h ≡ x ∷ u → IsSecond x → ⊥
          by_rest x [] f second = waits (subst (Contains waiting_texts) (sym (all ∙ ap (λ z. 27 ∷ z) f)) (second_waits x second))
          by_rest x (y ∷ u) f second = second_byte x (y ∷ u) (port.bytes_of h) j second (λ n. cc (n)) f (head_plainly v h j is near)

  by_stands : (left : List ℕ) (event : Event) → Stands reading bytes false left event → event ≡ KeyOf r → left ≡ [] → AtOnce
  by_stands left event (extra t l d is split) e none = record {
    steps = ([], subst (λ d. Stands reading bytes true [] d) e (extra t [] d is (split ∙ ap (λ z. t ++ z) none)), refl);
    rest = empty_is_rest reading true;
  }
  by_stands left event (alt_key t l d is bare split) e none = record {
    steps = ([], subst (λ d. Stands reading bytes true [] d) e (alt_key t [] d is bare (split ∙ ap (λ z. ESC ++ (t ++ z)) none)), refl);
    rest = empty_is_rest reading true;
  }
  by_stands left event (lone l split apart) e none =
      absurd (let s = starts_shape reading [] (subst (λ u. StartsExtended reading u) none (starts_from_apart reading left apart)) in cc (s.2))
  by_stands left event (string kind head own after l d reads is comes) e none =
      absurd (subst IsOfString e (comes_of_string kind head own after l false d comes))
  by_stands left event (usual b l d stands split here after) e none =
      of_item b d stands.item e (split ∙ ap (λ z. b ++ z) none ∙ append-nil b) here after

  at_once : AtOnce
  at_once = by_stands read.steps.0 (KeyOf r) read.steps.1 refl read.steps.2

pub key_at_once : (reading : Reading) (bytes : List ℕ) (r : KeyReport) → IsWhole bytes → Means reading bytes false (KeyOf r ∷ []) []
    → ¬ Contains waiting_texts bytes → Means reading bytes true (KeyOf r ∷ []) []
key_at_once reading bytes r whole read waits = at_once reading bytes r whole read waits
