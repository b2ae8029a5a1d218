-- A text that the port reads as one key is that key to the extended parser, or one extra sequence, or ESC before one.
use Rattle.std.proofs.Common.{◌≡◌, ◌≢◌, inl, inr, ⊎_elim, ℕ, ◌<◌, ◌≤◌, Bool, false, List, [], ◌∷◌, ◌++◌, length, refl, sym, ap, ◌∙◌, subst, arith, Contains, append-nil, length-append}
use Rattle.std.specs.Char.{IsScalar, encode_utf8}
use Rattle.termwiz_keymap.proofs.lemmas.lists.CommonPrefixes.{append-some_left}
use Rattle.termwiz_keys.specs.Introducers.{ESC}
use Rattle.termwiz_keys.specs.declared.types.KeyEvent.{KeyEvent}
use Rattle.termwiz_keys.specs.declared.types.InputEvent.TheVariants as input
use Rattle.termwiz_grammar.specs.Grammar as port
use Rattle.termwiz_grammar.specs.Sequences.{IsSequence}
use Rattle.termwiz_grammar.specs.Sequences.Meaning.{Row}
use Rattle.termwiz_grammar.specs.Table.{rows}
use Rattle.termwiz_grammar.proofs.lemmas.lists.Decidable.{Decision}
use Rattle.termwiz_grammar.proofs.lemmas.table.RowShape.{Bytes}
use Rattle.termwiz_grammar.proofs.lemmas.table.RowShape.Bytes.{one, more}
use Rattle.termwiz_grammar.proofs.lemmas.table.SequenceFacts.{sequence_bytes}
use Rattle.termwiz_laws.proofs.lemmas.first_bytes.EncodedBytes.{IsSeveral, encode_forms}
use Rattle.termwiz_laws.proofs.lemmas.first_bytes.NoSequence.{first_byte}
use Rattle.termwiz_laws.proofs.lemmas.further_keys.SingleKey.{Plainly, Single, single}
use Rattle.termwiz_laws.proofs.lemmas.further_keys.SingleKey.Plainly.{by_row, by_character, by_broken_byte}
use Rattle.termwiz_laws.proofs.lemmas.further_keys.SingleKey.Single.{plainly, after_escape}
use Rattle.termwiz_extended_events.specs.declared.types.Reading.{Reading}
use Rattle.termwiz_extended_events.specs.Meanings.{IsKeyOrPosition}
use Rattle.termwiz_extended_grammar.specs.Forms.{introducer}
use Rattle.termwiz_extended_grammar.specs.ExtraSequences.{IsExtra}
use Rattle.termwiz_extended_grammar.specs.Readings.{event_in}
use Rattle.termwiz_extended_events.specs.PortEvents.{told}
use Rattle.termwiz_extended_grammar.specs.Strings.{StartsWithOpening}
use Rattle.termwiz_extended_grammar.specs.ExtendedGrammar.{StartsExtended, IsOpen, IsUsual, Stands, Steps, Means}
use Rattle.termwiz_extended_grammar.specs.ExtendedGrammar.Stands.{usual}
use Rattle.termwiz_extended_grammar.proofs.lemmas.forms.FormBytes.{IsSecond, IsStringIntroducer, head_some, introducer_shape, mark_shape}
use Rattle.termwiz_extended_grammar.proofs.lemmas.forms.ExtraFacts.{starts_extended_or_not, starts_mark}
use Rattle.termwiz_extended_grammar.proofs.lemmas.forms.PortLayouts.{Layout, sequence_layout}
use Rattle.termwiz_extended_grammar.proofs.lemmas.forms.PortLayouts.Layout.{alone, paired, longer}
use Rattle.termwiz_extended_grammar.proofs.lemmas.items.ExtendedItems.{starts_shape}
use Rattle.termwiz_extended_grammar.proofs.lemmas.items.ExtendedRests.{empty_is_rest}
use Rattle.termwiz_extended_grammar.proofs.lemmas.items.ExtraHeads.{extra_is_longest}
use Rattle.termwiz_kitty.proofs.lemmas.read_back.SequencesMean.{means_alone}

-- the whole text is one extra sequence, a row that reports a key or the cursor's position
pub record IsReportText (reading : Reading) (text : List ℕ) : Type 0 where
  pub is_extra : IsExtra reading text (event_in reading text)
  pub reports : IsKeyOrPosition (event_in reading text)

pub row_is : (s : List ℕ) (k : KeyEvent) → Contains rows (s, k) → IsSequence s (Row k)
unfolding IsSequence
row_is s k is = is

-- a text that begins a row, and is at least as long, is all of it
same_length : (x rest v : List ℕ) → v ≡ x ++ rest → length v ≤ length x → v ≡ x
same_length x [] v e short = e ∙ append-nil x
same_length x (y ∷ rest) v e short = absurd (omega (arith, ap length e, length-append x (y ∷ rest)))

-- an encoding has no ESC before its end
pub no_escape_before : (c b : ℕ) (r : List ℕ) → IsScalar c → encode_utf8 c ≡ 27 ∷ b ∷ r → ⊥
no_escape_before c b r scalar e = ⊎_elim
    (λ (first : (c < 128) × (encode_utf8 c ≡ c ∷ [])). cc (first.1, e))
    (λ (several : IsSeveral (encode_utf8 c)). (let s = subst IsSeveral e several in omega (arith, s.0)))
    (encode_forms c scalar)

-- a row begins with no opening
row_no_opening : (v : List ℕ) (j : KeyEvent) → IsSequence v (Row j) → StartsWithOpening v → ⊥
row_no_opening v j is o = go (sequence_layout v (Row j) is)
  where
    i : (b : ℕ) × (introducer o.kind ≡ 27 ∷ b ∷ []) × IsStringIntroducer b
    i = introducer_shape o.kind

    all : v ≡ 27 ∷ i.0 ∷ (o.head ++ o.begins.0)
    all = o.begins.1 ∙ ap (λ z. z ++ o.head ++ o.begins.0) i.1

    go : Layout v → ⊥
    go (alone b e) = cc (all, e)
    go (paired b e l) = append-some_left o.head o.begins.0 (head_some o.kind o.head o.is_head) (cc (all, e))
    go (longer b r e k p) = let same : b ≡ i.0 = cc (all, e) in omega (arith, i.2)

-- an extra sequence that begins what is read as one key is all of it, and no opening begins that
whole : (reading : Reading) (v : List ℕ) (j : KeyEvent) → Plainly v j → StartsExtended reading v → IsReportText reading v
whole reading v j (by_row c) (inl s) =
    let is = row_is v j c in
    let longest = (extra_is_longest reading v s.text s.event s.is_extra s.begins).0 v (Row j) is ([], sym (append-nil v)) in
    let same : v ≡ s.text = same_length s.text s.begins.0 v s.begins.1 longest in
    let extra : IsExtra reading v s.event = subst (λ t. IsExtra reading t s.event) (sym same) s.is_extra in
    record {
      is_extra = record { reads = extra.reads; is_form = extra.is_form; is_free = extra.is_free; means = refl };
      reports = (extra.is_free (Row j) is).2;
    }
whole reading v j (by_row c) (inr o) = absurd (row_no_opening v j (row_is v j c) o.1)
whole reading v j (by_character c scalar e k) s =
    let shape = starts_shape reading v s in absurd (no_escape_before c shape.0 shape.1 scalar (sym e ∙ shape.2))
whole reading v j (by_broken_byte b e k) s = (let shape = starts_shape reading v s in absurd (cc (e, shape.2)))

pub second_range : (b : ℕ) → IsSecond b → (79 ≤ b) × (b ≤ 95)
second_range b h = (omega arith, omega arith)

-- the byte after its ESC begins no key
pub second_byte : (b : ℕ) (r t : List ℕ) (j : KeyEvent) → IsSecond b → r ≢ [] → t ≡ b ∷ r → Plainly t j → ⊥
second_byte b r t j second some e (by_row c) =
    let range = second_range b second in
    ⊎_elim (λ (low : (0 < b) × (b < 28)). omega (arith, low.1, range.0)) (λ (last : b ≡ 127). omega (arith, range.1))
    (first_byte b r (Row j) (subst (λ s. IsSequence s (Row j)) e (row_is t j c)))
second_byte b r t j second some e (by_character c scalar spells k) =
    let range = second_range b second in
    ⊎_elim
    (λ (first : (c < 128) × (encode_utf8 c ≡ c ∷ [])). some (cc (first.1, e, spells)))
    (λ (several : IsSeveral (encode_utf8 c)).
    (let s = subst IsSeveral (sym spells ∙ e) several in omega (arith, s.0, range.1)))
    (encode_forms c scalar)
second_byte b r t j second some e (by_broken_byte x is k) = some (cc (is, e))

not_behind : (reading : Reading) (t : List ℕ) (j : KeyEvent) → Plainly t j → StartsExtended reading (27 ∷ t) → ⊥
not_behind reading t j p s =
    let mark = starts_mark reading (27 ∷ t) s in
    let shape = mark_shape mark.0 mark.2 in
    let text : 27 ∷ t ≡ 27 ∷ shape.0 ∷ (shape.1 ++ mark.1) = mark.3 ∙ ap (λ x. x ++ mark.1) shape.2 in
    second_byte shape.0 (shape.1 ++ mark.1) t j shape.4 (append-some_left shape.1 mark.1 shape.3) (cc (text)) p

starts_whole : (reading : Reading) (text : List ℕ) (k : KeyEvent) → Single text k → StartsExtended reading text → IsReportText reading text
starts_whole reading text k (plainly p) s = whole reading text k p s
starts_whole reading text k (after_escape t j e p g) s = absurd (not_behind reading t j p (subst (StartsExtended reading) e s))

-- an extra sequence after the first byte: that is ESC, and the sequence is the rest
record AfterEscape (reading : Reading) (c : ℕ) (v : List ℕ) : Type 0 where
  escape : c ≡ 27
  report : IsReportText reading v

no_second_escape : (c b : ℕ) (r : List ℕ) → Bytes (c ∷ 27 ∷ b ∷ r) → ⊥
no_second_escape c b r (one y l e) = cc (e)
no_second_escape c b r (more [] n e p) = n refl
no_second_escape c b r (more (x ∷ t) n e p) = (let same : x ≡ 27 = cc (e) in omega (arith, p.0.0))

several_on : (c b : ℕ) (r : List ℕ) → IsSeveral (c ∷ 27 ∷ b ∷ r) → ⊥
several_on c b r h = omega (arith, h.3.0.0)

after_first : (reading : Reading) (c : ℕ) (v text : List ℕ) (k : KeyEvent) → text ≡ c ∷ v → Single text k → StartsExtended reading v
    → AfterEscape reading c v
after_first reading c v text k e (after_escape t j split p g) s =
    let same : t ≡ v = cc (split, e) in
    record { escape = cc (split, e); report = whole reading v j (subst (λ x. Plainly x j) same p) s }
after_first reading c v text k e (plainly p) s = absurd (go p)
  where
    shape : (b : ℕ) × (r : List ℕ) × (v ≡ 27 ∷ b ∷ r) × IsSecond b
    shape = starts_shape reading v s

    all : text ≡ c ∷ 27 ∷ shape.0 ∷ shape.1
    all = e ∙ ap (λ x. c ∷ x) shape.2

    go : Plainly text k → ⊥
    go (by_row r) = no_second_escape c shape.0 shape.1 (subst Bytes all (sequence_bytes text (Row k) (row_is text k r)))
    go (by_character d scalar spells g) = ⊎_elim
        (λ (first : (d < 128) × (encode_utf8 d ≡ d ∷ [])). cc (first.1, spells, all))
        (λ (several : IsSeveral (encode_utf8 d)). several_on c shape.0 shape.1 (subst IsSeveral (sym spells ∙ all) several))
        (encode_forms d scalar)
    go (by_broken_byte b is g) = cc (is, all)

-- where no extra sequence and no opening begins the text, nor what follows its ESC, and neither is open, the event is the port's key as it is told
pub as_in_port : (reading : Reading) (text : List ℕ) (k : KeyEvent) (f : Bool) → port.Means text f (input.Key k ∷ []) []
    → IsUsual reading text f
    → ((v : List ℕ) → text ≡ ESC ++ v → IsUsual reading v f) → Means reading text f (told reading text (input.Key k) ∷ []) []
as_in_port reading text k f means whole' after = record { steps = from means.steps; rest = empty_is_rest reading f }
  where
    from : port.Steps text f (input.Key k ∷ []) [] → Steps reading text f (told reading text (input.Key k) ∷ []) []
    from (bytes, rest, stands, splits, nothing) =
        let all : bytes ≡ text = sym (splits ∙ ap (λ r. bytes ++ r) nothing ∙ append-nil bytes) in (
          rest,
          subst (λ t. Stands reading text f rest (told reading t (input.Key k))) all
              (usual bytes rest (input.Key k) stands splits whole' after),
          nothing,
        )

-- what a text that the port reads as one key is read as
pub data ReadAs (reading : Reading) (text : List ℕ) (k : KeyEvent) (f : Bool) : Type 0 where
  as_key : Means reading text f (told reading text (input.Key k) ∷ []) [] → ReadAs reading text k f
  as_report : IsReportText reading text → Means reading text f (event_in reading text ∷ []) [] → ReadAs reading text k f
  apart : (v : List ℕ) → text ≡ ESC ++ v → IsReportText reading v → ReadAs reading text k f

-- The port reads the text as the key, also if more may come; and neither the text nor what follows its ESC is open.
pub record IsRead (reading : Reading) (text : List ℕ) (k : KeyEvent) (f : Bool) : Type 0 where
  pub flushed : port.Means text false (input.Key k ∷ []) []
  pub means : port.Means text f (input.Key k ∷ []) []
  pub closed : ¬ IsOpen reading text f
  pub closed_after : (v : List ℕ) → text ≡ ESC ++ v → ¬ IsOpen reading v f

pub read_as : (reading : Reading) (text : List ℕ) (k : KeyEvent) (f : Bool) → IsRead reading text k f → ReadAs reading text k f
read_as reading text k f is = go (starts_extended_or_not reading text)
  where
    is_single : Single text k
    is_single = single text k is.flushed

    key_where : ¬ StartsExtended reading text → ((v : List ℕ) → text ≡ ESC ++ v → ¬ StartsExtended reading v) → ReadAs reading text k f
    key_where none after = as_key (as_in_port reading text k f is.means (record { none = none; closed = is.closed })
        (λ v split. record { none = after v split; closed = is.closed_after v split }))

    behind : ¬ StartsExtended reading text → (u : List ℕ) → text ≡ u → ReadAs reading text k f
    behind none [] e = key_where none (λ v split. absurd (cc (e, split)))
    behind none (c ∷ v) e = at (starts_extended_or_not reading v)
      where
        at : Decision (StartsExtended reading v) → ReadAs reading text k f
        at (inl s) =
            let it = after_first reading c v text k e is_single s in
            apart v (e ∙ ap (λ x. x ∷ v) it.escape) it.report
        at (inr never) = key_where none
            (λ w split s. never (subst (StartsExtended reading) (let same : w ≡ v = cc (split, e) in same) s))

    go : Decision (StartsExtended reading text) → ReadAs reading text k f
    go (inl s) =
        let report = starts_whole reading text k is_single s in
        as_report report (means_alone reading text f (event_in reading text) report.is_extra)
    go (inr none) = behind none text refl
