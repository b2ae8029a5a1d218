-- What a lookup in the table, and a test for a mouse report, say of the head of a text.
use Rattle.std.proofs.Common.{◌≡◌, ◌≢◌, inr, ⊎_elim, ℕ, ◌<◌, ◌≤◌, Bool, true, false, List, [], ◌∷◌, ◌++◌, length, take, drop, refl, sym, ap, ◌∙◌, subst, arith, append_assoc, length-append, length-take-le, take-append-drop, append-nil, encode_utf8, Option, Some, None, is_some, not, IsSome, IsTrue, ◌↔◌, option_map}
use Rattle.std.specs.Char.{IsScalar}
use Rattle.std.specs.Str.{IsUtf8, IsValidUpTo}
use Rattle.std.specs.Str.Lossy.{utf8_error_len}
use Rattle.std.proofs.lemmas.Str.{encode_same}
use Rattle.std.specs.FinMap.{get}
use Rattle.std.proofs.Math.Seq.{take-append_seam}
use Rattle.std.proofs.lemmas.Bool.{cases_lt}
use Rattle.bstr.specs.Utf8.{decoded}
use Rattle.bstr.proofs.lemmas.SoundLemmas.{SpellsChar-decoded}
use Rattle.termwiz_keys.specs.declared.types.KeyEvent.{KeyEvent}
use Rattle.termwiz_keys.specs.declared.types.MouseEvent.{MouseEvent}
use Rattle.termwiz_input.specs.declared.head.MatchedHead.TheVariants.{Report as mouse_report, Character as character, Broken as broken}
use Rattle.termwiz_keymap.specs.Bytes.{Begins}
use Rattle.termwiz_keymap.specs.Lookup.{IsLongestKey, IsExtended, NoKeyBegins}
use Rattle.termwiz_grammar.specs.Table.{table}
use Rattle.termwiz_grammar.specs.MouseReports.{IsMouseReport}
use Rattle.termwiz_input.specs.MouseReportAnswers.{IsBegun}
use Rattle.termwiz_grammar.specs.Sequences.{Meaning, IsSequence}
use Rattle.termwiz_grammar.specs.Sequences.Meaning.{Row, Report}
use Rattle.termwiz_grammar.specs.Grammar.{IsOpen, IsUnfinishedSequence, IsUnfinishedCharacter}
use Rattle.termwiz_input.specs.Matches.{HasHead, HasRow, NoMouseReportBegins, NoSequenceBegins, HasNoHeadYet, character_of}
use Rattle.termwiz_keymap.proofs.lemmas.lists.CommonPrefixes.{append-some, length-some, length-Begins, Overlaps, overlap}
use Rattle.termwiz_keymap.proofs.lemmas.lists.CommonPrefixes.Overlaps.{within, past}
use Rattle.termwiz_grammar.proofs.lemmas.table.SequenceFacts.{report_ends}
use Rattle.termwiz_grammar.proofs.lemmas.characters.CharacterPrefixes.{sequence_finished, begins_decoded}
use Rattle.termwiz_grammar.proofs.lemmas.characters.EndsWithinCharacter.{unfinished_told, unfinished_from, no_utf8, valid_nowhere}
use Rattle.termwiz_grammar.proofs.lemmas.table.TableAsMap.{row_from_table, table_from_row}

-- what a beginning of a text is
begins_take : (u : List ℕ) (n : ℕ) → Begins (take n u) u
begins_take u n = (drop n u, sym (take-append-drop n u))

begins_is : (other u : List ℕ) → Begins other u → take (length other) u ≡ other
begins_is other u b = ap (take (length other)) b.1 ∙ take-append_seam other b.0

row_is_sequence : (text : List ℕ) (k : KeyEvent) → get table text ≡ Some k → IsSequence text (Row k)
unfolding IsSequence
row_is_sequence text k e = row_from_table text k e

row_in_table : (text : List ℕ) (k : KeyEvent) → IsSequence text (Row k) → get table text ≡ Some k
unfolding IsSequence
row_in_table text k c = table_from_row text k c

report_is_sequence : (text : List ℕ) (event : MouseEvent) → IsMouseReport text event → IsSequence text (Report event)
unfolding IsSequence
report_is_sequence text event f = f

report_of_sequence : (text : List ℕ) (event : MouseEvent) → IsSequence text (Report event) → IsMouseReport text event
unfolding IsSequence
report_of_sequence text event f = f

-- the key that the map answers for a beginning of the text
stored_at : (u other : List ℕ) (k : KeyEvent) → Begins other u → IsSequence other (Row k)
    → get table (take (length other) u) ≡ Some k
stored_at u other k b is_sequence = ap (get table) (begins_is other u b) ∙ row_in_table other k is_sequence

-- the longest key of the map is the longest sequence, where no mouse report begins the text
pub longest_from_key : (u : List ℕ) (n : ℕ) (k : KeyEvent) → NoMouseReportBegins u → IsLongestKey table u n k
    → HasRow u k n
longest_from_key u n k none is = (
  is.within,
  record {
    is_sequence = row_is_sequence (take n u) k is.stored;
    begins = begins_take u n;
    longest = λ other m is_sequence b. at_most other m is_sequence b;
  },
)
  where
    at_most : (other : List ℕ) (m : Meaning) → IsSequence other m → Begins other u → length other ≤ length (take n u)
    at_most other (Row j) is_sequence b = ⊎_elim
        (λ (l : n < length other). absurd
        (cc (stored_at u other j b is_sequence, is.longest (length other) l (length-Begins other u b))))
        (λ (l : length other ≤ n). omega (arith, length-take-le n u is.within))
        (cases_lt n (length other))
    at_most other (Report event) is_sequence b = absurd (none other event (report_of_sequence other event is_sequence) b)

-- where a text properly begins a sequence, the map has a longer key that begins with it,
-- or the text begins a mouse report
pub extended_from_unfinished : (u : List ℕ) → IsUnfinishedSequence u → ¬ IsBegun u → IsExtended table u
extended_from_unfinished u h never = go h.tail h.meaning h.longer h.is_sequence
  where
    go : (tail : List ℕ) (m : Meaning) → tail ≢ [] → IsSequence (u ++ tail) m → IsExtended table u
    go tail (Row k) longer is_sequence =
        (tail, length-some tail longer, ap is_some (row_in_table (u ++ tail) k is_sequence))
    go tail (Report event) longer is_sequence =
        absurd (never (tail, event, longer, report_of_sequence (u ++ tail) event is_sequence))

stored_key : (o : Option KeyEvent) → IsSome o → (k : KeyEvent) × (o ≡ Some k)
stored_key (Some k) h = (k, refl)
stored_key None h = absurd (cc)

-- a text that properly begins a sequence has no head yet
begun_sequence : (u tail : List ℕ) (m : Meaning) → tail ≢ [] → IsSequence (u ++ tail) m → HasNoHeadYet u true
begun_sequence [] tail m longer is_sequence = inr refl
begun_sequence (x ∷ u) tail m longer is_sequence = grind arith

pub extended_waits : (u : List ℕ) → IsExtended table u → HasNoHeadYet u true
extended_waits u (tail, longer, stored) =
    let k = stored_key (get table (u ++ tail)) stored in
    begun_sequence u tail (Row k.0) (λ none. omega (arith, ap length none)) (row_is_sequence (u ++ tail) k.0 k.1)

pub begun_waits : (u : List ℕ) → IsBegun u → HasNoHeadYet u true
begun_waits u (tail, event, longer, f) =
    begun_sequence u tail (Report event) longer (report_is_sequence (u ++ tail) event f)

-- no sequence begins the text, where no key and no mouse report does
pub no_sequence : (u : List ℕ) → NoMouseReportBegins u → NoKeyBegins table u → NoSequenceBegins u
no_sequence u none no_key text (Row k) is_sequence b =
    cc (stored_at u text k b is_sequence, no_key (length text) (length-Begins text u b))
no_sequence u none no_key text (Report event) is_sequence b = none text event (report_of_sequence text event is_sequence) b

spelled : (u : List ℕ) (c n : ℕ) → character_of u ≡ Some (c, n)
    → IsScalar c × (n ≡ length (encode_utf8 c)) × Begins (encode_utf8 c) u
unfolding character_of
spelled u c n e = go (decoded u).char refl e
  where
    go : (o : Option ℕ) → (decoded u).char ≡ o → option_map {U = ℕ × ℕ} (λ d. (d, (decoded u).size)) o ≡ Some (c, n)
        → IsScalar c × (n ≡ length (encode_utf8 c)) × Begins (encode_utf8 c) u
    go (Some d) f h =
        let pair : ◌≡◌ {A = ℕ × ℕ} (d, (decoded u).size) (c, n) = cc (h) in
        let spells = SpellsChar-decoded u d f in
        subst (λ (p : ℕ × ℕ). IsScalar p.0 × (p.1 ≡ length (encode_utf8 p.0)) × Begins (encode_utf8 p.0) u) pair
        (spells.scalar, sym spells.width, (drop (decoded u).size u, spells.bytes))
    go None f h = absurd (cc (h))

pub character_front : (u : List ℕ) (c n : ℕ) → NoSequenceBegins u → character_of u ≡ Some (c, n)
    → HasHead u (character c n)
character_front u c n no_sequence e =
    let s = spelled u c n e in
    (s.1, record { no_sequence = no_sequence; scalar = s.0; begins = s.2 })

unspelled : (u : List ℕ) → character_of u ≡ None → (c : ℕ) → IsScalar c → Begins (encode_utf8 c) u → ⊥
unfolding character_of
unspelled u e c scalar b =
    let none = rw (begins_decoded u c scalar b) at e in cc (none)

-- what a character begins doesn't properly begin another
character_finished : (u : List ℕ) (c : ℕ) → Begins (encode_utf8 c) u → IsUnfinishedCharacter u → ⊥
character_finished u c b h =
    let whole : encode_utf8 c ++ (b.0 ++ h.tail) ≡ encode_utf8 h.char ++ [] =
    sym (append_assoc (encode_utf8 c) b.0 h.tail) ∙ ap (λ x. x ++ h.tail) (sym b.1) ∙ sym h.spells
    ∙ sym (append-nil (encode_utf8 h.char)) in
    append-some b.0 h.tail h.longer (encode_same c h.char (b.0 ++ h.tail) [] whole).1

-- so where a character is found, the text properly begins none
pub found_finished : (u : List ℕ) (found : Option (ℕ × ℕ)) → is_some found ≡ true → found ≡ character_of u → ¬ IsUnfinishedCharacter u
found_finished u None some e h = absurd (cc (some))
found_finished u (Some c) some e h = character_finished u c.0 (spelled u c.0 c.1 (sym e)).2 h

-- a text isn't open that properly begins neither a sequence nor a character
closed_by : (u : List ℕ) (more : Bool) → (more ≡ true → ¬ IsUnfinishedSequence u)
    → (more ≡ true → ¬ IsUnfinishedCharacter u) → ¬ IsOpen u more
closed_by u more is_sequence char opens = ⊎_elim (is_sequence opens.more_comes) (char opens.more_comes) opens.beginning

pub character_closed : (u : List ℕ) (more : Bool) (c n : ℕ) → (more ≡ true → ¬ IsUnfinishedSequence u)
    → character_of u ≡ Some (c, n) → ¬ IsOpen u more
character_closed u more c n finished e = closed_by u more finished (λ m. character_finished u c (spelled u c n e).2)

-- the first byte of a text that no sequence and no character begins
pub broken_front : (u : List ℕ) → u ≢ [] → NoSequenceBegins u → character_of u ≡ None → HasHead u broken
broken_front [] some no_sequence e = absurd (some refl)
broken_front (x ∷ u) some no_sequence e =
    (x, record { no_sequence = no_sequence; unspelled = unspelled (x ∷ u) e; begins = (u, refl) })

-- what std says of bytes that no character begins
not_decoded : (u : List ℕ) → character_of u ≡ None → (decoded u).char ≡ None
unfolding character_of
not_decoded u e = grind arith

pub not_text : (u : List ℕ) → u ≢ [] → character_of u ≡ None → IsUtf8 u → ⊥
not_text u some e is = no_utf8 u some (not_decoded u e) is

-- where std finds no length of the fault, the text ends within a character
pub fault_tells : (u : List ℕ) (n : ℕ) (len : Option ℕ) (none : Bool) → u ≢ [] → character_of u ≡ None → IsValidUpTo u n
    → len ≡ utf8_error_len (drop n u)
    → is_some len ≡ not none → IsTrue none ↔ IsUnfinishedCharacter u
fault_tells u n len none some e valid is test =
    let missing = not_decoded u e in
    let at : len ≡ utf8_error_len u = is ∙ ap (λ k. utf8_error_len (drop k u)) (valid_nowhere u n missing valid) in (
      λ h. unfinished_from u some missing (sym at ∙ told len none test h),
      λ h. tells len none test (at ∙ unfinished_told u some h),
    )
  where
    told : (o : Option ℕ) (b : Bool) → is_some o ≡ not b → IsTrue b → o ≡ None
    told o b same h = grind arith

    tells : (o : Option ℕ) (b : Bool) → is_some o ≡ not b → o ≡ None → IsTrue b
    tells o b same h = grind arith

-- a mouse report at the front is the head, and nothing that comes changes it
pub mouse_report_front : (u : List ℕ) (n : ℕ) (event : MouseEvent) → n ≤ length u → IsMouseReport (take n u) event
    → HasHead u (mouse_report event n)
mouse_report_front u n event inside f = (
  inside,
  record {
    is_sequence = report_is_sequence (take n u) event f;
    begins = begins_take u n;
    longest = λ other m is_sequence b. at_most other m is_sequence
        (overlap other b.0 (take n u) (drop n u) (take-append-drop n u ∙ b.1));
  },
)
  where
    at_most : {r s : List ℕ} (other : List ℕ) (m : Meaning) → IsSequence other m → Overlaps other r (take n u) s
        → length other ≤ length (take n u)
    at_most other m is_sequence (within t e g) = omega (arith, length-append other t, ap length e)
    at_most other m is_sequence (past t longer e g) =
        absurd (longer (report_ends (take n u) t event m (report_is_sequence (take n u) event f)
        (subst (λ x. IsSequence x m) e is_sequence)))

pub report_closed : (u : List ℕ) (n : ℕ) (more : Bool) (event : MouseEvent) → IsMouseReport (take n u) event
    → IsOpen u more → ⊥
report_closed u n more event f opens = ⊎_elim
    (λ (h : IsUnfinishedSequence u).
    let whole : u ++ h.tail ≡ take n u ++ (drop n u ++ h.tail) =
    ap (λ x. x ++ h.tail) (sym (take-append-drop n u)) ∙ append_assoc (take n u) (drop n u) h.tail in
    append-some (drop n u) h.tail h.longer
    (report_ends (take n u) (drop n u ++ h.tail) event h.meaning (report_is_sequence (take n u) event f)
    (subst (λ x. IsSequence x h.meaning) whole h.is_sequence)))
    (λ (h : IsUnfinishedCharacter u). sequence_finished (take n u) u (Report event)
    (report_is_sequence (take n u) event f) (begins_take u n) opens.some h)
    opens.beginning

-- where a text properly begins a mouse report, no mouse report begins it
pub begun_no_report : (u : List ℕ) → IsBegun u → NoMouseReportBegins u
begun_no_report u (tail, event, longer, f) word other g b =
    let whole : u ++ tail ≡ word ++ (b.0 ++ tail) = ap (λ x. x ++ tail) b.1 ∙ append_assoc word b.0 tail in
    append-some b.0 tail longer
    (report_ends word (b.0 ++ tail) other (Report event) (report_is_sequence word other g)
    (subst (λ x. IsSequence x (Report event)) whole (report_is_sequence (u ++ tail) event f)))

-- where nothing longer that is stored may come, and a key begins the text, the text isn't open
pub exact_closed : (u : List ℕ) (more : Bool) (n : ℕ) (k : KeyEvent) → (more ≡ true → IsBegun u → ⊥)
    → IsLongestKey table u n k
    → (IsExtended table u → more ≡ false) → IsOpen u more → ⊥
exact_closed u more n k never is stops opens =
    let one : more ≡ true = opens.more_comes in ⊎_elim
    (λ (h : IsUnfinishedSequence u). let two : more ≡ false = stops (extended_from_unfinished u h (never one)) in
    cc (one, two))
    (λ (h : IsUnfinishedCharacter u). sequence_finished (take n u) u (Row k) (row_is_sequence (take n u) k is.stored)
    (begins_take u n) opens.some h)
    opens.beginning
