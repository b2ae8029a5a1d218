-- After an ESC the text of a key is read as that key with ALT.
use Rattle.std.proofs.Common.{◌≡◌, ◌≢◌, ◌⊎◌, inl, inr, ⊎_elim, ℕ, ◌<◌, ◌≤◌, Bool, true, false, ◌&&◌, List, [], ◌∷◌, ◌++◌, refl, sym, ap, ap₂, ◌∙◌, subst, arith, append-nil, Contains, nat_le, bit_and, bit_or, None}
use Rattle.std.specs.Prelude.{◌==◌, map, bytes_eq, Some, if◌then◌else◌, option_and_then, unwrap_or}
use Rattle.std.specs.Map.{lookup}
use Rattle.std.specs.Char.{encode_utf8}
use Rattle.std.specs.List.{list_all}
use Rattle.std.proofs.lemmas.Bool.{and_parts}
use Rattle.std.proofs.lemmas.Bool.Decides.{nat_tests}
use Rattle.std.proofs.lemmas.List.Elements.{All-contains}
use Rattle.std.proofs.lemmas.List.Sums.{AllPass-from_list_all}
use Rattle.std.proofs.lemmas.Map.Views.{Contains-from_lookup}
use Rattle.std.proofs.Math.Utf8.{low_scalar}
use Rattle.std.proofs.lemmas.Nat.{and_or_self}
use Rattle.std.proofs.lemmas.Slice.Eq.{bytes_eq-Decides}
use Rattle.std.proofs.lemmas.Str.{encode_ascii}
use Rattle.termwiz_keys.specs.Introducers.{ESC, START}
use Rattle.termwiz_keys.specs.KeyCodes.{holds}
use Rattle.termwiz_keys.specs.Keys.{ALT, key_with, plain, escape, with_alt}
use Rattle.termwiz_keys.specs.declared.types.KeyCode.{KeyCode}
use Rattle.termwiz_keys.specs.declared.types.KeyCode.TheVariants.{Char}
use Rattle.termwiz_keys.specs.declared.types.KeyEvent.{KeyEvent}
use Rattle.termwiz_keys.specs.declared.types.InputEvent.{InputEvent}
use Rattle.termwiz_keys.specs.declared.types.InputEvent.TheVariants.{Key}
use Rattle.termwiz_grammar.specs.Grammar as port
use Rattle.termwiz_grammar.specs.Grammar.{Head, IsHead, IsCharacter, IsBroken, IsLongest, replacement}
use Rattle.termwiz_grammar.specs.Grammar.Head.{Sequence, Character, Broken}
use Rattle.termwiz_grammar.specs.Grammar.Item.{key, char, broken, mouse, paste, lone_escape, alt}
use Rattle.termwiz_grammar.specs.Sequences.{IsSequence}
use Rattle.termwiz_grammar.specs.Sequences.Meaning.{Row, Report}
use Rattle.termwiz_grammar.specs.Table.{TableRow, rows, written_out, numbers}
use Rattle.termwiz_grammar.proofs.lemmas.items.OneHead.{longest_whole}
use Rattle.termwiz_grammar.proofs.lemmas.lists.Decidable.{Decision}
use Rattle.termwiz_grammar.proofs.lemmas.lists.ListMembers.{same_on}
use Rattle.termwiz_grammar.proofs.lemmas.read_back.WholeTexts.{escape_alone}
use Rattle.termwiz_grammar.proofs.lemmas.table.RowShape.{Bytes}
use Rattle.termwiz_grammar.proofs.lemmas.table.RowShape.Bytes.{one, more}
use Rattle.termwiz_grammar.proofs.lemmas.table.SequenceFacts.{sequence_bytes}
use Rattle.termwiz_laws.proofs.lemmas.first_bytes.EncodedBytes.{IsSeveral, encode_forms}
use Rattle.termwiz_extended_events.specs.declared.types.Dialect.{Dialect}
use Rattle.termwiz_extended_events.specs.declared.types.Dialect.TheVariants.{Extended, Termwiz}
use Rattle.termwiz_extended_events.specs.declared.types.Event.{Event}
use Rattle.termwiz_extended_events.specs.declared.types.Event.TheVariants.{Key as KeyOf, Mouse as MouseOf, Paste as PasteOf, FocusGained, FocusLost, CursorPosition, Resized, KeyboardFlags, Csi, Osc, Dcs, Apc, StringPart, StringCut}
use Rattle.termwiz_extended_events.specs.declared.types.KeyEventKind.TheVariants.{Press}
use Rattle.termwiz_extended_events.specs.declared.types.KeyReport.{KeyReport}
use Rattle.termwiz_extended_events.specs.declared.types.Reading.{Reading}
use Rattle.termwiz_extended_events.specs.declared.types.ReportedKey.TheVariants.{Named}
use Rattle.termwiz_extended_events.specs.KeyReports.{report_of}
use Rattle.termwiz_extended_events.specs.PortEvents.{decided_key, kitty_bits, told, typed_byte, typed_key}
use Rattle.termwiz_extended_grammar.specs.ExtendedGrammar.{IsUsual, Stands, StartsApart, StartsExtended}
use Rattle.termwiz_extended_grammar.specs.ExtendedGrammar.Stands.{usual, extra, alt_key, lone_escape as lone, string}
use Rattle.termwiz_extended_grammar.specs.ExtraSequences.{IsBareKey, with_alt as event_with_alt}
use Rattle.termwiz_extended_grammar.specs.Readings.{ReadsMore}
use Rattle.termwiz_extended_grammar.proofs.lemmas.forms.ExtraFacts.{bare_or_not}
use Rattle.termwiz_extended_grammar.proofs.lemmas.items.ExtendedItems.{starts_shape}
use Rattle.termwiz_extended_grammar.proofs.lemmas.items.ExtendedRests.{empty_is_rest}
use Rattle.termwiz_kitty.proofs.lemmas.PortKeys.{at_number}
use Rattle.termwiz_kitty.proofs.lemmas.legacy.ReadAsOne.{row_is}
use Rattle.termwiz_senders.specs.KeyTexts.{IsReadAsKey, HasRow, IsPlainKeyText}
use Rattle.termwiz_senders.specs.ReportTexts.{says_no_more}
use Rattle.termwiz_senders.proofs.lemmas.RowsAlone.{told_key, never_open, usual_from, row_of, row_read}
use Rattle.termwiz_senders.proofs.lemmas.StringsAlone.{IsOfString, comes_of_string}
use Rattle.termwiz_event_laws.proofs.lemmas.KeyReportsWhole.{alt_report, plain_alt_written}
use Rattle.termwiz_event_laws.proofs.lemmas.KeyReportsWritten.{IsWritten}
use Rattle.termwiz_event_laws.proofs.lemmas.KeysAlone.{starts_three, usual_behind, character_usual, pair_undecided, no_row}
use Rattle.termwiz_event_laws.proofs.lemmas.Origins.{FromForm, extra_event}

-- The modifiers of a row, with ALT and without it, as the port has them and as they are told.
rows_small : list_all (λ r. nat_le r.1.modifiers.0 15) rows ≡ true
unfolding written_out
rows_small = refl

abbrev is_joined : ℕ → Bool
is_joined m = kitty_bits (bit_or m ALT) == bit_or (kitty_bits m) 2

abbrev is_parted : ℕ → Bool
is_parted m = bit_and (bit_or (kitty_bits m) 2) 253 == kitty_bits m

abbrev is_bare : ℕ → Bool
is_bare m = bit_and (kitty_bits m) 2 == 0

abbrev tells_alt : ℕ → Bool
tells_alt m = is_joined m && (if holds m ALT then (bit_or m ALT == m) else (is_parted m && is_bare m))

all_told : list_all tells_alt (numbers 0 16) ≡ true
unfolding numbers
all_told = refl

abbrev pub IsSmall : KeyEvent → Type 0
IsSmall k = k.modifiers.0 ≤ 15

tells : (k : KeyEvent) → IsSmall k → tells_alt k.modifiers.0 ≡ true
tells k small = All-contains (λ m. tells_alt m ≡ true) (numbers 0 16) k.modifiers.0 (AllPass-from_list_all tells_alt (numbers 0 16) all_told)
    (at_number 0 16 k.modifiers.0 (omega arith) (omega (arith, small)))

same_number : (a b : ℕ) → (a == b) ≡ true → a ≡ b
same_number a b e = grind (arith, nat_tests)

joined : (k : KeyEvent) → IsSmall k → kitty_bits (bit_or k.modifiers.0 ALT) ≡ bit_or (kitty_bits k.modifiers.0) 2
joined k small = same_number _ _ (and_parts (is_joined k.modifiers.0) _ (tells k small)).0

-- with ALT nothing is added
pub alt_added : (k : KeyEvent) → IsSmall k → holds k.modifiers.0 ALT ≡ true → with_alt k ≡ k
alt_added k small held =
    let same : (bit_or k.modifiers.0 ALT == k.modifiers.0) ≡ true = rw held at (and_parts (is_joined k.modifiers.0) _ (tells k small)).1 in
    ap (λ n. key_with k.key n) (same_number _ _ same)

-- without it nothing is lost
pub alt_parted : (k : KeyEvent) → IsSmall k → holds k.modifiers.0 ALT ≡ false
    → (bit_and (bit_or (kitty_bits k.modifiers.0) 2) 253 ≡ kitty_bits k.modifiers.0) × (bit_and (kitty_bits k.modifiers.0) 2 ≡ 0)
alt_parted k small none = go (holds k.modifiers.0 ALT) none (and_parts (is_joined k.modifiers.0) _ (tells k small)).1
  where
    go : (b : Bool) → b ≡ false
        → (if b then (bit_or k.modifiers.0 ALT == k.modifiers.0) else (is_parted k.modifiers.0 && is_bare k.modifiers.0)) ≡ true
        → (bit_and (bit_or (kitty_bits k.modifiers.0) 2) 253 ≡ kitty_bits k.modifiers.0) × (bit_and (kitty_bits k.modifiers.0) 2 ≡ 0)
    go true e h = absurd (cc (e))
    go false e h =
        let parts = and_parts (is_parted k.modifiers.0) (is_bare k.modifiers.0) h in
        (same_number _ _ parts.0, same_number _ _ parts.1)

row_small : (text : List ℕ) (k : KeyEvent) → IsSequence text (Row k) → IsSmall k
row_small text k is =
    let small : nat_le k.modifiers.0 15 ≡ true =
    All-contains (λ (r : TableRow). nat_le r.1.modifiers.0 15 ≡ true) rows (text, k)
    (AllPass-from_list_all (λ (r : TableRow). nat_le r.1.modifiers.0 15) rows rows_small) (row_of text k is) in
    grind (arith, nat_tests)

pub head_small : (v : List ℕ) (h : Head) (k : KeyEvent) → IsHead v h → port.IsKey h k → IsSmall k
head_small v (Sequence x (Row i)) k is near = subst IsSmall (sym near.1) (row_small x i is.is_sequence)
head_small v (Sequence x (Report m)) k is near = absurd near
head_small v (Character c) k is near = subst IsSmall (sym near) (omega arith)
head_small v (Broken b) k is near = subst IsSmall (sym near) (omega arith)

-- A key is told so after an ESC as it is told alone, but for ALT.
pub typed_behind : (reading : Reading) (t : List ℕ) (k : KeyCode) → ((b : ℕ) → t ≡ 27 ∷ b ∷ [] → decided_key reading b ≡ None)
    → typed_key reading.dialect reading (27 ∷ t) k ≡ typed_key reading.dialect reading t k
typed_behind reading t k pair = go reading.dialect
  where
    by_bytes : (u : List ℕ) → ((b : ℕ) → u ≡ 27 ∷ b ∷ [] → decided_key reading b ≡ None)
        → option_and_then (decided_key reading) (typed_byte (27 ∷ u)) ≡ option_and_then (decided_key reading) (typed_byte u)
    by_bytes [] h = refl
    by_bytes (b ∷ []) h = refl
    by_bytes (x ∷ y ∷ []) h = second (x == 27) refl
      where
        second : (v : Bool) → (x == 27) ≡ v
            → option_and_then (decided_key reading) (typed_byte (27 ∷ x ∷ y ∷ [])) ≡ option_and_then (decided_key reading) (typed_byte (x ∷ y ∷ []))
        second true e = let same : x ≡ 27 = grind (arith, nat_tests) in rw e (sym (h y (ap (λ z. z ∷ y ∷ []) same)))
        second false e = rw e refl
    by_bytes (x ∷ y ∷ z ∷ u) h = refl

    go : (d : Dialect) → typed_key d reading (27 ∷ t) k ≡ typed_key d reading t k
    go Termwiz = refl
    go Extended = ap (λ o. unwrap_or o k) (by_bytes t pair)

pub told_behind : (reading : Reading) (t : List ℕ) (j : KeyEvent) → IsSmall j → ((b : ℕ) → t ≡ 27 ∷ b ∷ [] → decided_key reading b ≡ None)
    → told_key reading (27 ∷ t) (with_alt j) ≡ alt_report (told_key reading t j)
told_behind reading t j small pair =
    ap₂ (λ c n. report_of (Named c) (record { modifiers = n; kind = Press })) (typed_behind reading t j.key pair) (joined j small)

-- the bytes of a head that is a key
pub head_pair : (reading : Reading) (v : List ℕ) (h : Head) (k : KeyEvent) → IsHead v h → port.IsKey h k → (b : ℕ)
    → port.bytes_of h ≡ 27 ∷ b ∷ [] → decided_key reading b ≡ None
head_pair reading v (Sequence x (Row i)) k is near b e = pair_undecided reading x i is.is_sequence b e
head_pair reading v (Sequence x (Report m)) k is near b e = absurd near
head_pair reading v (Character c) k is near b e = absurd (⊎_elim
    (λ (first : (c < 128) × (encode_utf8 c ≡ c ∷ [])). cc (first.1, e))
    (λ (several : IsSeveral (encode_utf8 c)). (let s = subst IsSeveral e several in omega (arith, s.0)))
    (encode_forms c is.scalar))
head_pair reading v (Broken x) k is near b e = cc (e)

-- ESC and an upper case letter, or [, is a row: that character with ALT.
alt_rows : map (λ c. lookup (bytes_eq (27 ∷ c ∷ [])) rows) (numbers 65 27) ≡ map (λ c. Some (key_with (Char c) ALT)) (numbers 65 27)
unfolding written_out numbers
alt_rows = refl

pub alt_row : (c : ℕ) → 65 ≤ c → c ≤ 91 → Contains rows (27 ∷ c ∷ [], key_with (Char c) ALT)
alt_row c low high =
    Contains-from_lookup (λ (s t : List ℕ) (e : bytes_eq s t ≡ true). (bytes_eq-Decides s t).0 e) (27 ∷ c ∷ []) (key_with (Char c) ALT) rows
    (same_on (λ d. lookup (bytes_eq (27 ∷ d ∷ [])) rows) (λ d. Some (key_with (Char d) ALT)) (numbers 65 27) c alt_rows
    (at_number 65 27 c low (omega (arith, high))))

apart_or_inside : (c : ℕ) → ((c ≤ 64) ⊎ (92 ≤ c)) ⊎ ((65 ≤ c) × (c ≤ 91))
apart_or_inside c = grind arith

low_or_high : (b : ℕ) → (b < 128) ⊎ (128 ≤ b)
low_or_high b = grind arith

-- The event of a bare key with ALT has ALT.
alt_held : (d : Event) (r : KeyReport) → event_with_alt d ≡ KeyOf r → bit_and r.modifiers 2 ≡ 2
alt_held (KeyOf q) r e =
    let same : alt_report q ≡ r = cc (e) in subst (λ (s : KeyReport). bit_and s.modifiers 2 ≡ 2) same (and_or_self 2 q.modifiers)
alt_held (MouseOf m) r e = absurd (cc (e))
alt_held (PasteOf t) r e = absurd (cc (e))
alt_held FocusGained r e = absurd (cc (e))
alt_held FocusLost r e = absurd (cc (e))
alt_held (CursorPosition row column) r e = absurd (cc (e))
alt_held (Resized a b c d) r e = absurd (cc (e))
alt_held (KeyboardFlags f) r e = absurd (cc (e))
alt_held (Csi t) r e = absurd (cc (e))
alt_held (Osc t) r e = absurd (cc (e))
alt_held (Dcs t) r e = absurd (cc (e))
alt_held (Apc t) r e = absurd (cc (e))
alt_held (StringPart k t) r e = absurd (cc (e))
alt_held (StringCut k t) r e = absurd (cc (e))

pub starts_from_apart : (reading : Reading) (u : List ℕ) → StartsApart reading u → StartsExtended reading u
starts_from_apart reading u (inl o) = inl (record { text = o.text; event = o.event; is_extra = o.is_extra; begins = o.begins })
starts_from_apart reading u (inr o) = inr o

-- A key without ALT, where the key with ALT has no text without an ESC before it. Then ESC and each text of the key without ALT is read as the key
-- with it, or the key with it is written as a report.
module _ (reading : Reading) (r0 : KeyReport) (bare : bit_and r0.modifiers 2 ≡ 0) (none_more : says_no_more r0 ≡ true)
    (refused : (bytes : List ℕ) → ¬ IsPlainKeyText reading (alt_report r0) bytes) where
  abbrev AltText : List ℕ → Type 0
  AltText text = IsReadAsKey reading (alt_report r0) (ESC ++ text)

  abbrev pub AltTold : List ℕ → Type 0
  AltTold text = AltText text ⊎ (ReadsMore reading × IsWritten (alt_report r0))

  open_after : (text : List ℕ) (h : Head) (b : ℕ) (u : List ℕ) (j : KeyEvent) → text ≡ b ∷ u → (b ≤ 64) ⊎ (92 ≤ b) → IsHead text h
      → port.IsKey h j → port.bytes_of h ≡ text → told_key reading text j ≡ r0 → IsUsual reading (ESC ++ text) false → IsUsual reading text false
      → AltText text
  open_after text h b u j e away is near whole same here after =
      let pair : (x : ℕ) → text ≡ 27 ∷ x ∷ [] → decided_key reading x ≡ None = λ x f. head_pair reading text h j is near x (whole ∙ f) in
      let event : told_key reading (ESC ++ port.bytes_of h) (with_alt j) ≡ alt_report r0 =
      ap (λ t. told_key reading (27 ∷ t) (with_alt j)) whole ∙ told_behind reading text j (head_small text h j is near) pair ∙ ap alt_report same in
      subst (λ r. IsReadAsKey reading r (ESC ++ text)) event (record {
        steps = (
          [],
          usual (ESC ++ port.bytes_of h) [] (Key (with_alt j)) (record {
            closed = never_open;
            item = alt text h j (record {
              escape_head = subst (λ t. IsLongest (ESC ++ t) ESC (Row escape)) (sym e) (escape_alone b u away);
              splits = refl;
              some = λ none. cc (e, none);
              closed = never_open;
            }) is near;
          }) (ap (λ z. 27 ∷ z) (sym whole ∙ sym (append-nil (port.bytes_of h)))) here
              (λ v split. subst (λ w. IsUsual reading w false) (cc (split)) after),
          refl,
        );
        rest = empty_is_rest reading false;
      })

  -- a row
  row_escaped : (text : List ℕ) (k : KeyEvent) → IsSequence text (Row k) → text ≢ START → told_key reading text k ≡ r0
      → IsUsual reading text false → AltText text
  row_escaped text k is other same here = go (sequence_bytes text (Row k) is)
    where
      by_first : (b : ℕ) (u : List ℕ) → text ≡ b ∷ u → b ≤ 27 ⊎ (b ≡ 127) → AltText text
      by_first b u e low =
          open_after text (Sequence text (Row k)) b u k e (⊎_elim (λ (l : b ≤ 27). inl (omega arith)) (λ (h : b ≡ 127). inr (omega arith)) low)
          (longest_whole text (Row k) is) (other, refl) refl same
          (subst (λ t. IsUsual reading (ESC ++ t) false) (sym e)
          (usual_behind reading b u (⊎_elim (λ (l : b ≤ 27). inl (omega arith)) (λ (h : b ≡ 127). inr (omega arith)) low)))
          here

      go : Bytes text → AltText text
      go (one b low e) = by_first b [] e (⊎_elim (λ (l : b < 28). inl (omega arith)) (λ (h : b ≡ 127). inr h) low)
      go (more t some e all) = by_first 27 t e (inl (omega arith))

  -- a character
  character_escaped : (c : ℕ) → IsCharacter (encode_utf8 c) c → told_key reading (encode_utf8 c) (plain c) ≡ r0 → AltText (encode_utf8 c)
  character_escaped c is same = go (encode_forms c is.scalar)
    where
      by_first : (b : ℕ) (u : List ℕ) → encode_utf8 c ≡ b ∷ u → (b ≤ 64) ⊎ (92 ≤ b) → IsUsual reading (27 ∷ b ∷ u) false
          → AltText (encode_utf8 c)
      by_first b u f away here =
          open_after (encode_utf8 c) (Character c) b u (plain c) f away is refl refl same
          (subst (λ t. IsUsual reading (ESC ++ t) false) (sym f) here) (character_usual reading c is.scalar)

      has_row : encode_utf8 c ≡ c ∷ [] → 65 ≤ c → c ≤ 91 → HasRow reading (alt_report r0)
      has_row first low high =
          let k = key_with (Char c) ALT in
          let row : IsSequence (27 ∷ c ∷ []) (Row k) = row_is (27 ∷ c ∷ []) k (alt_row c low high) in
          let event : told_key reading (27 ∷ c ∷ []) k ≡ alt_report r0 =
          told_behind reading (c ∷ []) (plain c) (omega arith) (λ b e. cc (e)) ∙ ap alt_report (ap (λ t. told_key reading t (plain c)) (sym first) ∙ same) in (
            27 ∷ c ∷ [],
            record {
              key = k;
              row = row_of (27 ∷ c ∷ []) k row;
              read = subst (λ r. IsReadAsKey reading r (27 ∷ c ∷ [])) event
                  (row_read reading (27 ∷ c ∷ []) k row (λ h. cc (h)) (usual_from reading (27 ∷ c ∷ []) (starts_three reading 27 c)));
            },
          )

      small : (c < 128) × (encode_utf8 c ≡ c ∷ []) → AltText (encode_utf8 c)
      small first = ⊎_elim
          (λ (away : (c ≤ 64) ⊎ (92 ≤ c)). by_first c [] first.1 away (usual_from reading (27 ∷ c ∷ []) (starts_three reading 27 c)))
          (λ (inside : (65 ≤ c) × (c ≤ 91)). absurd (no_row reading (alt_report r0) refused (has_row first.1 inside.0 inside.1)))
          (apart_or_inside c)

      several : (u : List ℕ) → encode_utf8 c ≡ u → IsSeveral u → AltText (encode_utf8 c)
      several [] f is = absurd is
      several (b ∷ u) f is = by_first b u f (inr (omega (arith, is.0))) (usual_behind reading b u (inr (omega (arith, is.0))))

      go : ((c < 128) × (encode_utf8 c ≡ c ∷ [])) ⊎ IsSeveral (encode_utf8 c) → AltText (encode_utf8 c)
      go (inl first) = small first
      go (inr many) = several (encode_utf8 c) refl many

  -- a byte that counts as a character
  broken_escaped : (b : ℕ) → IsBroken (b ∷ []) b → told_key reading (b ∷ []) (plain replacement) ≡ r0 → IsUsual reading (b ∷ []) false
      → AltText (b ∷ [])
  broken_escaped b is same here = ⊎_elim
      (λ (low : b < 128). absurd (is.unspelled b (low_scalar b (omega arith)) ([], sym (ap (λ t. t ++ []) (encode_ascii b low)))))
      (λ (high : 128 ≤ b). open_after (b ∷ []) (Broken b) b [] (plain replacement) refl (inr (omega arith)) is refl refl same
      (usual_behind reading b [] (inr (omega arith))) here)
      (low_or_high b)

  of_item : (t bytes : List ℕ) (event : InputEvent) → port.Item t false bytes event → told reading bytes event ≡ KeyOf r0 → t ≡ bytes
      → IsUsual reading t false → AltText t
  of_item t bytes event (key text i is other single) e whole here =
      subst AltText (sym whole) (row_escaped text i is.is_sequence other (cc (e)) (subst (λ u. IsUsual reading u false) whole here))
  of_item t bytes event (char c is) e whole here =
      subst AltText (sym whole) (character_escaped c (subst (λ u. IsCharacter u c) whole is) (cc (e)))
  of_item t bytes event (broken b is) e whole here =
      subst AltText (sym whole) (broken_escaped b (subst (λ u. IsBroken u b) whole is) (cc (e)) (subst (λ u. IsUsual reading u false) whole here))
  of_item t bytes event (mouse text report is) e whole here = absurd (cc (e))
  of_item t bytes event (paste body begins first) e whole here = absurd (cc (e))
  of_item t bytes event (lone_escape v h after is apart) e whole here = absurd (after.some (cc (after.splits, whole)))
  of_item t bytes event (alt v h j after is near) e whole here =
      let same : told_key reading (ESC ++ port.bytes_of h) (with_alt j) ≡ r0 = cc (e) in
      let held : bit_or (kitty_bits j.modifiers.0) 2 ≡ r0.modifiers =
      sym (joined j (head_small v h j is near)) ∙ ap (λ (r : KeyReport). r.modifiers) same in
      absurd (omega (arith, bare, ap (λ n. bit_and n 2) (sym held), and_or_self 2 (kitty_bits j.modifiers.0)))

  pub alt_told : (t : List ℕ) → IsReadAsKey reading r0 t → AltTold t
  alt_told t read = by_stands read.steps.0 (KeyOf r0) read.steps.1 refl read.steps.2
    where
      by_stands : (left : List ℕ) (event : Event) → Stands reading t false left event → event ≡ KeyOf r0 → left ≡ [] → AltTold t
      by_stands left event (extra text l d is split) e none = by_bare (bare_or_not reading text)
        where
          by_bare : Decision (IsBareKey reading text) → AltTold t
          by_bare (inl is_bare) = inl (record {
            steps = (
              [],
              subst (Stands reading (ESC ++ t) false []) (ap event_with_alt e)
                  (alt_key text [] d is is_bare (ap (λ z. 27 ∷ z) (split ∙ ap (λ z. text ++ z) none))),
              refl,
            );
            rest = empty_is_rest reading false;
          })
          by_bare (inr never) =
              inr (is.reads, plain_alt_written text r0 (subst (FromForm text) e (extra_event reading text d is)) none_more)
      by_stands left event (alt_key text l d is is_bare split) e none = absurd (omega (arith, bare, alt_held d r0 e))
      by_stands left event (lone l split apart) e none =
          absurd (let s = starts_shape reading [] (subst (StartsExtended reading) none (starts_from_apart reading left apart)) in cc (s.2))
      by_stands left event (string kind head bytes after l d reads is comes) e none =
          absurd (subst IsOfString e (comes_of_string kind head bytes after l false d comes))
      by_stands left event (usual bytes l d stands split here after) e none =
          inl (of_item t bytes d stands.item e (split ∙ ap (λ z. bytes ++ z) none ∙ append-nil bytes) here)
