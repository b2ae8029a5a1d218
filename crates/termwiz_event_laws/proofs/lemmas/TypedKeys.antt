-- Keys that are typed: what is written for one is read as it, and none that a reading emits is refused.
use Rattle.std.proofs.Common.{◌≡◌, ◌≢◌, ◌⊎◌, inl, inr, ℕ, Bool, true, false, List, [], ◌++◌, refl, sym, ap, ◌∙◌, subst, arith, bit_and, ◌∷◌}
use Rattle.std.specs.Char.{encode_utf8}
use Rattle.std.proofs.lemmas.Nat.{and_or_self}
use Rattle.termwiz_keys.specs.Introducers.{ESC}
use Rattle.termwiz_keys.specs.KeyCodes.{holds}
use Rattle.termwiz_keys.specs.Keys.{ALT, plain, escape, with_alt}
use Rattle.termwiz_keys.specs.declared.types.KeyEvent.{KeyEvent}
use Rattle.termwiz_keys.specs.declared.types.InputEvent.{InputEvent}
use Rattle.termwiz_grammar.specs.Grammar as port
use Rattle.termwiz_grammar.specs.Grammar.{Head, IsHead, replacement}
use Rattle.termwiz_grammar.specs.Grammar.Head.{Sequence, Character, Broken}
use Rattle.termwiz_grammar.specs.Grammar.Item.{key, char, broken, mouse, paste, lone_escape, alt}
use Rattle.termwiz_grammar.specs.Sequences.Meaning.{Row, Report}
use Rattle.termwiz_grammar.proofs.lemmas.table.SequenceFacts.{escape_is_sequence}
use Rattle.termwiz_extended_events.specs.declared.types.Event.{Event}
use Rattle.termwiz_extended_events.specs.declared.types.Event.TheVariants.{Key as KeyOf}
use Rattle.termwiz_extended_events.specs.declared.types.KeyReport.{KeyReport}
use Rattle.termwiz_extended_events.specs.declared.types.Reading.{Reading}
use Rattle.termwiz_extended_events.specs.PortEvents.{pressed_key, told}
use Rattle.termwiz_extended_grammar.specs.ExtendedGrammar.{IsUsual, Stands}
use Rattle.termwiz_extended_grammar.specs.ExtendedGrammar.Stands.{usual, extra, alt_key, lone_escape as lone, string}
use Rattle.termwiz_extended_grammar.specs.Readings.{ReadsMore}
use Rattle.termwiz_extended_grammar.proofs.lemmas.items.ExtendedItems.{starts_shape}
use Rattle.termwiz_senders.specs.KeyTexts.{IsReadAsKey, IsPlainKeyText, IsTypedText, IsKeyText, without_alt}
use Rattle.termwiz_senders.specs.KeyTexts.IsPlainKeyText.{by_sending, by_row, by_character}
use Rattle.termwiz_senders.specs.KeyTexts.IsTypedText.{alone, after_escape}
use Rattle.termwiz_senders.specs.KeyTexts.IsKeyText.{typed, reported}
use Rattle.termwiz_senders.specs.ReportTexts.{says_no_more}
use Rattle.termwiz_senders.proofs.lemmas.RowsAlone.{told_key, usual_from}
use Rattle.termwiz_senders.proofs.lemmas.StringsAlone.{IsOfString, comes_of_string}
use Rattle.termwiz_event_laws.proofs.lemmas.KeyReportsWhole.{alt_report, alt_written, extra_written}
use Rattle.termwiz_event_laws.proofs.lemmas.KeyReportsWritten.{IsWritten}
use Rattle.termwiz_event_laws.proofs.lemmas.KeysAlone.{HasPlain, usual_alone, character_alone, replacement_is, undecided_told, row_plain, character_plain, character_undecided, broken_undecided}
use Rattle.termwiz_event_laws.proofs.lemmas.KeysAfterEscape.{IsSmall, alt_added, alt_parted, head_small, head_pair, typed_behind, told_behind, alt_told}
use Rattle.termwiz_event_laws.proofs.lemmas.Origins.{FromForm, extra_event}

-- What is written is read as the key.
pub plain_read : (reading : Reading) (r : KeyReport) (bytes : List ℕ) → IsPlainKeyText reading r bytes → IsReadAsKey reading r bytes
plain_read reading r bytes (by_sending is) = is.read
plain_read reading r bytes (by_character none is) = is.read
plain_read reading r bytes (by_row none never is) = is.read

pub typed_read_back : (reading : Reading) (r : KeyReport) (bytes : List ℕ) → IsTypedText reading r bytes → IsReadAsKey reading r bytes
typed_read_back reading r bytes (alone is) = plain_read reading r bytes is
typed_read_back reading r bytes (after_escape none is) = is.read

-- no text is the key's
abbrev pub IsUnwritten : Reading → KeyReport → Type 0
IsUnwritten reading r = (bytes : List ℕ) → ¬ IsKeyText reading r bytes

by_report : (reading : Reading) (r : KeyReport) → ReadsMore reading → IsWritten r → IsUnwritten reading r → ⊥
by_report reading r reads is refused =
    refused is.0 (reported (λ other text. refused other (typed text)) (record { reads = reads; is_text = is.1; short = is.2 }))

by_plain : (reading : Reading) (r : KeyReport) → HasPlain reading r → IsUnwritten reading r → ⊥
by_plain reading r has refused = has (λ bytes is. refused bytes (typed (alone is)))

-- A key without ALT that has a text has one with ALT too.
joined_text : (reading : Reading) (r0 : KeyReport) → bit_and r0.modifiers 2 ≡ 0 → without_alt (alt_report r0) ≡ r0
    → says_no_more r0 ≡ true → HasPlain reading r0 → IsUnwritten reading (alt_report r0) → ⊥
joined_text reading r0 bare back none has refused = has (λ text is. go text is (alt_told reading r0 bare none no_plain text (plain_read reading r0 text is)))
  where
    no_plain : (bytes : List ℕ) → ¬ IsPlainKeyText reading (alt_report r0) bytes
    no_plain bytes is = refused bytes (typed (alone is))

    held : bit_and (alt_report r0).modifiers 2 ≢ 0
    held e = omega (arith, e, and_or_self 2 r0.modifiers)

    go : (text : List ℕ) → IsPlainKeyText reading r0 text
        → (IsReadAsKey reading (alt_report r0) (ESC ++ text)) ⊎ (ReadsMore reading × IsWritten (alt_report r0)) → ⊥
    go text is (inl read) = refused (ESC ++ text) (typed (after_escape no_plain (record {
      held = held;
      text = text;
      is_text = subst (λ r. IsPlainKeyText reading r text) (sym back) is;
      bytes_are = refl;
      read = read;
    })))
    go text is (inr report) = by_report reading (alt_report r0) report.0 report.1 refused

-- The Escape key is written as ESC.
escape_plain : (reading : Reading) → HasPlain reading (pressed_key escape)
escape_plain reading = subst (HasPlain reading) (undecided_told reading ESC escape refl)
    (row_plain reading ESC escape escape_is_sequence (λ h. cc (h))
    (usual_from reading ESC (λ h. let s = starts_shape reading ESC h in cc (s.2))))

-- A head that is a key has a text as that key.
head_plain : (reading : Reading) (v left : List ℕ) (f : Bool) (h : Head) (j : KeyEvent) → IsHead v h → port.IsKey h j
    → v ≡ port.bytes_of h ++ left → IsUsual reading v f → HasPlain reading (told_key reading (port.bytes_of h) j)
head_plain reading v left f (Sequence x (Row i)) j is near e here =
    subst (λ k. HasPlain reading (told_key reading x k)) (sym near.1)
    (row_plain reading x i is.is_sequence near.0 (usual_alone reading x left f (subst (λ t. IsUsual reading t f) e here)))
head_plain reading v left f (Sequence x (Report m)) j is near e here = absurd near
head_plain reading v left f (Character c) j is near e here =
    let whole = character_alone v left c is e in
    subst (λ k. HasPlain reading (told_key reading (encode_utf8 c) k)) (sym near)
    (subst (HasPlain reading) (sym (undecided_told reading (encode_utf8 c) (plain c) (character_undecided reading c whole)))
    (character_plain reading c whole))
head_plain reading v left f (Broken b) j is near e here =
    subst (λ k. HasPlain reading (told_key reading (b ∷ []) k)) (sym near)
    (subst (HasPlain reading) (sym (undecided_told reading (b ∷ []) (plain replacement) (broken_undecided reading b v is)))
    (character_plain reading replacement replacement_is))

of_alt : (reading : Reading) (v left : List ℕ) (f : Bool) (h : Head) (j : KeyEvent) → IsHead v h → port.IsKey h j
    → v ≡ port.bytes_of h ++ left → IsUsual reading v f → IsUnwritten reading (told_key reading (ESC ++ port.bytes_of h) (with_alt j)) → ⊥
of_alt reading v left f h j is near e here refused = go (holds j.modifiers.0 ALT) refl
  where
    small : IsSmall j
    small = head_small v h j is near

    has : HasPlain reading (told_key reading (port.bytes_of h) j)
    has = head_plain reading v left f h j is near e here

    go : (b : Bool) → holds j.modifiers.0 ALT ≡ b → ⊥
    go true held =
        let same : told_key reading (ESC ++ port.bytes_of h) (with_alt j) ≡ told_key reading (port.bytes_of h) j =
        ap (told_key reading (ESC ++ port.bytes_of h)) (alt_added j small held)
        ∙ ap (λ c. pressed_key (record j { key = c })) (typed_behind reading (port.bytes_of h) j.key (head_pair reading v h j is near)) in
        by_plain reading (told_key reading (port.bytes_of h) j) has (subst (IsUnwritten reading) same refused)
    go false none =
        let parts = alt_parted j small none in
        let r0 = told_key reading (port.bytes_of h) j in
        let back : without_alt (alt_report r0) ≡ r0 = ap (λ n. record r0 { modifiers = n }) parts.0 in
        joined_text reading r0 parts.1 back refl has
        (subst (IsUnwritten reading) (told_behind reading (port.bytes_of h) j small (head_pair reading v h j is near)) refused)

of_item : (reading : Reading) (u bytes left : List ℕ) (f : Bool) (event : InputEvent) (r : KeyReport) → port.Item u f bytes event
    → told reading bytes event ≡ KeyOf r → u ≡ bytes ++ left → IsUsual reading u f → ((v : List ℕ) → u ≡ ESC ++ v → IsUsual reading v f)
    → IsUnwritten reading r → ⊥
of_item reading u bytes left f event r (key text i is other single) e split here after refused =
    by_plain reading (told_key reading text i)
    (row_plain reading text i is.is_sequence other (usual_alone reading text left f (subst (λ t. IsUsual reading t f) split here)))
    (subst (IsUnwritten reading) (let same : r ≡ told_key reading text i = cc (e) in same) refused)
of_item reading u bytes left f event r (char c is) e split here after refused =
    by_plain reading (told_key reading (encode_utf8 c) (plain c)) (head_plain reading u left f (Character c) (plain c) is refl split here)
    (subst (IsUnwritten reading) (let same : r ≡ told_key reading (encode_utf8 c) (plain c) = cc (e) in same) refused)
of_item reading u bytes left f event r (broken b is) e split here after refused =
    by_plain reading (told_key reading (b ∷ []) (plain replacement)) (head_plain reading u left f (Broken b) (plain replacement) is refl split here)
    (subst (IsUnwritten reading) (let same : r ≡ told_key reading (b ∷ []) (plain replacement) = cc (e) in same) refused)
of_item reading u bytes left f event r (mouse text report is) e split here after refused = cc (e)
of_item reading u bytes left f event r (paste body begins ends) e split here after refused = cc (e)
of_item reading u bytes left f event r (lone_escape v h is head apart) e split here after refused =
    let same : r ≡ pressed_key escape = sym (let its : told_key reading ESC escape ≡ r = cc (e) in its) ∙ undecided_told reading ESC escape refl in
    by_plain reading (pressed_key escape) (escape_plain reading) (subst (IsUnwritten reading) same refused)
of_item reading u bytes left f event r (alt v h j is head near) e split here after refused =
    of_alt reading v left f h j head near (cc (sym is.splits ∙ split)) (after v is.splits)
    (subst (IsUnwritten reading) (let same : r ≡ told_key reading (ESC ++ port.bytes_of h) (with_alt j) = cc (e) in same) refused)

-- each key that a reading emits
of_stands : (reading : Reading) (u left : List ℕ) (f : Bool) (event : Event) (r : KeyReport) → Stands reading u f left event
    → event ≡ KeyOf r → IsUnwritten reading r → ⊥
of_stands reading u left f event r (extra text rest d is split) e refused =
    by_report reading r is.reads (extra_written text r is.is_form (subst (FromForm text) e (extra_event reading text d is))) refused
of_stands reading u left f event r (alt_key text rest d is bare split) e refused =
    by_report reading r is.reads (alt_written reading text d r bare (extra_event reading text d is) e) refused
of_stands reading u left f event r (lone rest split starts) e refused =
    by_plain reading (pressed_key escape) (escape_plain reading)
    (subst (IsUnwritten reading) (let same : r ≡ pressed_key escape = cc (e) in same) refused)
of_stands reading u left f event r (string kind head bytes after rest d reads is comes) e refused =
    subst IsOfString e (comes_of_string kind head bytes after rest f d comes)
of_stands reading u left f event r (usual bytes rest d stands split here after) e refused =
    of_item reading u bytes rest f d r stands.item e split here after refused

pub key_whole : (reading : Reading) (r : KeyReport) (u left : List ℕ) (f : Bool) → Stands reading u f left (KeyOf r)
    → IsUnwritten reading r → ⊥
key_whole reading r u left f stands refused = of_stands reading u left f (KeyOf r) r stands refl refused
