-- What stands at a text that isn't open stands there whatever comes after it, and nothing else stands there.
use Rattle.std.proofs.Common.{◌≡◌, ◌⊎◌, ◌≢◌, inl, inr, ⊎_elim, ℕ, ◌<◌, Bool, true, List, [], ◌∷◌, ◌++◌, length, refl, sym, ap, ◌∙◌, subst, append_assoc, arith, length-append}
use Rattle.std.specs.List.{AllByRecursion}
use Rattle.std.proofs.lemmas.List.{append_cancel_left}
use Rattle.termwiz_keymap.specs.Bytes.{Begins}
use Rattle.termwiz_keymap.proofs.lemmas.lists.CommonPrefixes.{Overlaps, overlap, append-some, append-some_left, length-some}
use Rattle.termwiz_keymap.proofs.lemmas.lists.CommonPrefixes.Overlaps.{within, past}
use Rattle.termwiz_keys.specs.Introducers.{ESC}
use Rattle.termwiz_keys.specs.declared.types.InputEvent.{InputEvent}
use Rattle.termwiz_grammar.specs.Grammar as port
use Rattle.termwiz_grammar.proofs.lemmas.items.ItemStable.{stands_stays, item_some, escape_open}
use Rattle.termwiz_grammar.proofs.lemmas.items.OneItem.{item_once}
use Rattle.termwiz_grammar.specs.Sequences.{IsSequence}
use Rattle.termwiz_extended_events.specs.declared.types.Event.{Event}
use Rattle.termwiz_extended_events.specs.PortEvents.{told}
use Rattle.termwiz_extended_events.specs.declared.types.Reading.{Reading}
use Rattle.termwiz_extended_events.specs.declared.types.StringKind.{StringKind}
use Rattle.termwiz_extended_grammar.specs.Forms.{introducer, IsData}
use Rattle.termwiz_extended_grammar.specs.Strings.{Comes, StartsWithOpening}
use Rattle.termwiz_extended_grammar.specs.ExtraSequences.{IsExtra, StartsWithExtra, IsBareKey, with_alt}
use Rattle.termwiz_extended_grammar.specs.ExtendedGrammar.{StartsExtended, StartsApart, BeginsKnown, IsOpen, IsUsual, Stands}
use Rattle.termwiz_extended_grammar.specs.ExtendedGrammar.Stands.{extra, alt_key, lone_escape, string, usual}
use Rattle.termwiz_extended_grammar.proofs.lemmas.forms.FormBytes.{IsSecond, IsStringIntroducer, mark_shape, opening_mark}
use Rattle.termwiz_extended_grammar.proofs.lemmas.forms.FormEnds.{form_no_opening}
use Rattle.termwiz_extended_grammar.proofs.lemmas.forms.ExtraFacts.{extra_once, extra_some, starts_mark}
use Rattle.termwiz_extended_grammar.proofs.lemmas.items.StringItems.{mark_once, string_opening, string_once, string_append, comes_once, comes_stay, comes_less}

-- what begins with an extra sequence or an opening begins with ESC and a byte that isn't ESC
pub starts_shape : (reading : Reading) (u : List ℕ) → StartsExtended reading u → (b : ℕ) × (r : List ℕ) × (u ≡ 27 ∷ b ∷ r) × IsSecond b
starts_shape reading u h =
    let m = starts_mark reading u h in
    let s = mark_shape m.0 m.2 in
    (s.0, s.1 ++ m.1, m.3 ∙ ap (λ x. x ++ m.1) s.2, s.4)

pub second_not_escape : (b : ℕ) → IsSecond b → b ≡ 27 → ⊥
second_not_escape b is e = ⊎_elim
    (λ (h : b ≡ 91). omega arith)
    (λ (h : (b ≡ 79) ⊎ IsStringIntroducer b). ⊎_elim
    (λ (k : b ≡ 79). omega arith)
    (λ (k : IsStringIntroducer b). ⊎_elim
    (λ (l : b ≡ 93). omega arith)
    (λ (l : (b ≡ 80) ⊎ (b ≡ 95)). ⊎_elim (λ (m : b ≡ 80). omega arith) (λ (m : b ≡ 95). omega arith) l)
    k)
    h)
    is

-- an extra sequence that begins a text is the only one that does
pub starts_once : (reading : Reading) (u a b : List ℕ) (d e : Event) → IsExtra reading a d → IsExtra reading b e
    → Begins a u → Begins b u → (a ≡ b) × (d ≡ e)
starts_once reading u a b d e is_a is_b p q =
    let same : a ≡ b = mark_once u a b (inl is_a.is_form) (inl is_b.is_form) p q in
    (same, extra_once reading b d e (subst (λ x. IsExtra reading x d) same is_a) is_b)

-- where one begins a text, no opening does
pub extra_or_opening : (reading : Reading) (u : List ℕ) → StartsWithExtra reading u → StartsWithOpening u → ⊥
extra_or_opening reading u h o =
    let same : h.text ≡ introducer o.kind ++ o.head =
    mark_once u h.text (introducer o.kind ++ o.head) (inl h.is_extra.is_form) (inr (opening_mark u o)) h.begins o.begins in
    form_no_opening h.text h.is_extra.is_form (record { kind = o.kind; head = o.head; is_head = o.is_head; form = same })

-- where one begins, none begins after the ESC
pub one_starts : (reading : Reading) (u v : List ℕ) → StartsExtended reading u → u ≡ ESC ++ v → StartsExtended reading v → ⊥
one_starts reading u v here e after =
    let s = starts_shape reading u here in
    let t = starts_shape reading v after in
    let same : s.0 ≡ 27 = cc (s.2, e, t.2) in
    second_not_escape s.0 s.3 same

-- what begins the longer text begins the shorter one, if that isn't open
pub starts_shorter : (reading : Reading) (u s : List ℕ) → u ≢ [] → ¬ IsOpen reading u true → StartsExtended reading (u ++ s)
    → StartsExtended reading u
starts_shorter reading u s some closed (inl h) = go (overlap h.text h.begins.0 u s h.begins.1)
  where
    go : Overlaps h.text h.begins.0 u s → StartsExtended reading u
    go (within t e f) = inl (record { text = h.text; event = h.event; is_extra = h.is_extra; begins = (t, e) })
    go (past t longer e f) = absurd (closed (record {
      more_comes = refl;
      some = some;
      beginning = inr (inl (record {
        tail = t;
        longer = longer;
        event = h.event;
        is_extra = subst (λ x. IsExtra reading x h.event) e h.is_extra;
      }));
    }))
starts_shorter reading u s some closed (inr (reads, o)) = go (overlap (introducer o.kind ++ o.head) o.begins.0 u s o.begins.1)
  where
    go : Overlaps (introducer o.kind ++ o.head) o.begins.0 u s → StartsExtended reading u
    go (within t e f) = inr (reads, record { kind = o.kind; head = o.head; is_head = o.is_head; begins = (t, e) })
    go (past t longer e f) = absurd (closed (record {
      more_comes = refl;
      some = some;
      beginning = inr (inr (
        reads,
        record {
          tail = t;
          longer = longer;
          kind = o.kind;
          head = o.head;
          is_head = o.is_head;
          spells = e;
        },
      ));
    }))

-- what begins with an extra sequence or an opening begins so whatever follows
pub starts_longer : (reading : Reading) (u s : List ℕ) → StartsExtended reading u → StartsExtended reading (u ++ s)
starts_longer reading u s (inl h) = inl (record {
  text = h.text;
  event = h.event;
  is_extra = h.is_extra;
  begins = (h.begins.0 ++ s, ap (λ x. x ++ s) h.begins.1 ∙ append_assoc h.text h.begins.0 s);
})
starts_longer reading u s (inr (reads, o)) = inr (
  reads,
  record {
    kind = o.kind;
    head = o.head;
    is_head = o.is_head;
    begins = (o.begins.0 ++ s, ap (λ x. x ++ s) o.begins.1 ∙ append_assoc (introducer o.kind ++ o.head) o.begins.0 s);
  },
)

-- what ESC isn't joined to is an extra sequence or an opening
pub apart_starts : (reading : Reading) (u : List ℕ) → StartsApart reading u → StartsExtended reading u
apart_starts reading u (inl h) = inl (record { text = h.text; event = h.event; is_extra = h.is_extra; begins = h.begins })
apart_starts reading u (inr o) = inr o

-- and stays so whatever follows
pub apart_longer : (reading : Reading) (u s : List ℕ) → StartsApart reading u → StartsApart reading (u ++ s)
apart_longer reading u s (inl h) = inl (record {
  text = h.text;
  event = h.event;
  is_extra = h.is_extra;
  not_bare = h.not_bare;
  begins = (h.begins.0 ++ s, ap (λ x. x ++ s) h.begins.1 ∙ append_assoc h.text h.begins.0 s);
})
apart_longer reading u s (inr (reads, o)) = inr (
  reads,
  record {
    kind = o.kind;
    head = o.head;
    is_head = o.is_head;
    begins = (o.begins.0 ++ s, ap (λ x. x ++ s) o.begins.1 ∙ append_assoc (introducer o.kind ++ o.head) o.begins.0 s);
  },
)

-- a bare key isn't that
pub joined_not_apart : (reading : Reading) (v text left : List ℕ) (event : Event) → IsExtra reading text event → IsBareKey reading text
    → v ≡ text ++ left → StartsApart reading v → ⊥
joined_not_apart reading v text left event is bare e (inl h) =
    let same = starts_once reading v h.text text h.event event h.is_extra is h.begins (left, e) in
    h.not_bare (subst (IsBareKey reading) (sym same.0) bare)
joined_not_apart reading v text left event is bare e (inr (reads, o)) =
    extra_or_opening reading v (record { text = text; event = event; is_extra = is; begins = (left, e) }) o

-- what begins a text, as such
pub starts_with : (reading : Reading) (text left : List ℕ) (event : Event) → IsExtra reading text event
    → StartsExtended reading (text ++ left)
starts_with reading text left event is = inl (record { text = text; event = event; is_extra = is; begins = (left, refl) })

-- what properly begins a sequence, a character or an opening properly begins it from an earlier place on too
shorter_beginning : (reading : Reading) (u s : List ℕ) → BeginsKnown reading (u ++ s) → BeginsKnown reading u
shorter_beginning reading u s (inl (inl h)) = inl (inl (record {
  tail = s ++ h.tail;
  longer = append-some s h.tail h.longer;
  meaning = h.meaning;
  is_sequence = subst (λ x. IsSequence x h.meaning) (append_assoc u s h.tail) h.is_sequence;
}))
shorter_beginning reading u s (inl (inr h)) = inl (inr (record {
  tail = s ++ h.tail;
  longer = append-some s h.tail h.longer;
  char = h.char;
  scalar = h.scalar;
  spells = h.spells ∙ append_assoc u s h.tail;
}))
shorter_beginning reading u s (inr (inl h)) = inr (inl (record {
  tail = s ++ h.tail;
  longer = append-some s h.tail h.longer;
  event = h.event;
  is_extra = subst (λ x. IsExtra reading x h.event) (append_assoc u s h.tail) h.is_extra;
}))
shorter_beginning reading u s (inr (inr (reads, h))) = inr (inr (
  reads,
  record {
    tail = s ++ h.tail;
    longer = append-some s h.tail h.longer;
    kind = h.kind;
    head = h.head;
    is_head = h.is_head;
    spells = h.spells ∙ append_assoc u s h.tail;
  },
))

-- what is usual stays so
pub usual_stays : (reading : Reading) (u s : List ℕ) (f : Bool) → u ≢ [] → IsUsual reading u true → IsUsual reading (u ++ s) f
usual_stays reading u s f some is = record {
  none = λ h. is.none (starts_shorter reading u s some is.closed h);
  closed = λ h. is.closed (record { more_comes = refl; some = some; beginning = shorter_beginning reading u s h.beginning });
}

-- the text after the ESC of a longer text is that of the shorter one, made longer
pub longer_after : (u s w : List ℕ) → u ≢ [] → (u ≡ ESC → ⊥) → u ++ s ≡ ESC ++ w
    → (v : List ℕ) × (u ≡ ESC ++ v) × (w ≡ v ++ s) × (v ≢ [])
longer_after [] s w some more e = absurd (some refl)
longer_after (x ∷ []) s w some more e = absurd (more (let h : x ≡ 27 = cc (e) in ap (λ z. z ∷ []) h))
longer_after (x ∷ y ∷ u) s w some more e = (y ∷ u, (let h : x ≡ 27 = cc (e) in ap (λ z. z ∷ y ∷ u) h), cc (e), (λ h. cc (h)))

-- the port's item isn't at the empty text
pub port_some : (u bytes left : List ℕ) (f : Bool) (event : InputEvent) → port.Stands u f bytes event → u ≡ bytes ++ left → u ≢ []
port_some u bytes left f event stands e none = append-some_left bytes left (item_some u bytes event f stands.item) (sym e ∙ none)

-- what an item leaves of a text with more to come, it leaves of every longer one, with what is longer
pub stands_stays_extended : (reading : Reading) (u s left : List ℕ) (event : Event) (f : Bool)
    → Stands reading u true left event → Stands reading (u ++ s) f (left ++ s) event
stands_stays_extended reading u s left event f (extra text left2 e is split) =
    extra text (left2 ++ s) e is (ap (λ x. x ++ s) split ∙ append_assoc text left2 s)
stands_stays_extended reading u s left event f (alt_key text left2 e is bare split) =
    alt_key text (left2 ++ s) e is bare (ap (λ x. x ++ s) split ∙ ap (λ x. 27 ∷ x) (append_assoc text left2 s))
stands_stays_extended reading u s left event f (lone_escape v split after) =
    lone_escape (v ++ s) (ap (λ x. x ++ s) split) (apart_longer reading v s after)
stands_stays_extended reading u s left event f (string kind head bytes after left2 e reads is comes) =
    string kind head bytes (after ++ s) (left2 ++ s) e reads (string_append u s kind head bytes after is)
    (comes_stay kind head bytes after left2 s f e comes)
stands_stays_extended reading u s left event f (usual bytes left2 e stands split is after) =
    usual bytes (left2 ++ s) e (stands_stays u s bytes e f stands) (ap (λ x. x ++ s) split ∙ append_assoc bytes left2 s)
    (usual_stays reading u s f some is) (λ w split2.
    let l = longer_after u s w some not_escape split2 in
    subst (λ x. IsUsual reading x f) (sym l.2) (usual_stays reading l.0 s f l.3 (after l.0 l.1)))
  where
    some : u ≢ []
    some = port_some u bytes left2 true e stands split

    not_escape : u ≡ ESC → ⊥
    not_escape alone = stands.closed (escape_open u alone)

-- at most one item stands at a text
pub stands_once : (reading : Reading) (u : List ℕ) (f : Bool) (l m : List ℕ) (d e : Event)
    → Stands reading u f l d → Stands reading u f m e → (l ≡ m) × (d ≡ e)
stands_once reading u f l m d e (extra s l2 p is at) (extra t m2 q it there) =
    let one = starts_once reading u s t p q is it (l2, at) (m2, there) in
    (append_cancel_left t l2 m2 (sym (ap (λ z. z ++ l2) one.0) ∙ sym at ∙ there), one.1)
stands_once reading u f l m d e (extra s l2 p is at) (alt_key t m2 q it bare split) = absurd (one_starts reading u (t ++ m2)
    (inl (record { text = s; event = p; is_extra = is; begins = (l2, at) })) split (starts_with reading t m2 q it))
stands_once reading u f l m d e (extra s l2 p is at) (lone_escape v split after) = absurd (one_starts reading u v
    (inl (record { text = s; event = p; is_extra = is; begins = (l2, at) })) split (apart_starts reading v after))
stands_once reading u f l m d e (extra s l2 p is at) (string kind head bytes after m2 q reads it comes) =
    absurd (extra_or_opening reading u (record { text = s; event = p; is_extra = is; begins = (l2, at) })
    (string_opening u kind head bytes after it))
stands_once reading u f l m d e (extra s l2 p is at) (usual t m2 q stands split it after) =
    absurd (it.none (inl (record { text = s; event = p; is_extra = is; begins = (l2, at) })))
stands_once reading u f l m d e (alt_key s l2 p is bare split) (extra t m2 q it there) = absurd (one_starts reading u (s ++ l2)
    (inl (record { text = t; event = q; is_extra = it; begins = (m2, there) })) split (starts_with reading s l2 p is))
stands_once reading u f l m d e (alt_key s l2 p is bare split) (alt_key t m2 q it bare2 split2) =
    let same : s ++ l2 ≡ t ++ m2 = cc (split, split2) in
    let one = starts_once reading (s ++ l2) s t p q is it (l2, refl) (m2, same) in
    (append_cancel_left t l2 m2 (sym (ap (λ z. z ++ l2) one.0) ∙ same), ap with_alt one.1)
stands_once reading u f l m d e (alt_key s l2 p is bare split) (lone_escape w split2 after) =
    absurd (joined_not_apart reading w s l2 p is bare (cc (split, split2)) after)
stands_once reading u f l m d e (alt_key s l2 p is bare split) (string kind head bytes rest m2 q reads it comes) =
    absurd (one_starts reading u (s ++ l2) (inr (reads, string_opening u kind head bytes rest it)) split (starts_with reading s l2 p is))
stands_once reading u f l m d e (alt_key s l2 p is bare split) (usual t m2 q stands split2 it gap) =
    absurd ((gap (s ++ l2) split).none (starts_with reading s l2 p is))
stands_once reading u f l m d e (lone_escape v split after) (extra t m2 q it there) = absurd (one_starts reading u v
    (inl (record { text = t; event = q; is_extra = it; begins = (m2, there) })) split (apart_starts reading v after))
stands_once reading u f l m d e (lone_escape v split after) (alt_key t m2 q it bare split2) =
    absurd (joined_not_apart reading v t m2 q it bare (cc (split, split2)) after)
stands_once reading u f l m d e (lone_escape v split after) (lone_escape w split2 after2) = (cc (split, split2), refl)
stands_once reading u f l m d e (lone_escape v split after) (string kind head bytes rest m2 q reads it comes) =
    absurd (one_starts reading u v (inr (reads, string_opening u kind head bytes rest it)) split (apart_starts reading v after))
stands_once reading u f l m d e (lone_escape v split after) (usual t m2 q stands split2 it gap) =
    absurd ((gap v split).none (apart_starts reading v after))
stands_once reading u f l m d e (string kind head bytes after l2 p reads is comes) (extra t m2 q it there) =
    absurd (extra_or_opening reading u (record { text = t; event = q; is_extra = it; begins = (m2, there) })
    (string_opening u kind head bytes after is))
stands_once reading u f l m d e (string kind head bytes rest l2 p reads is comes) (alt_key t m2 q it bare split) =
    absurd (one_starts reading u (t ++ m2) (inr (reads, string_opening u kind head bytes rest is)) split (starts_with reading t m2 q it))
stands_once reading u f l m d e (string kind head bytes rest l2 p reads is comes) (lone_escape v split after) =
    absurd (one_starts reading u v (inr (reads, string_opening u kind head bytes rest is)) split (apart_starts reading v after))
stands_once reading u f l m d e (string k h a r l2 p reads is comes) (string j g b s m2 q reads2 it comes2) =
    let one = string_once u k j h g a b r s is it in
    comes_once j g a b r s l2 m2 f p q (subst (λ z. All z a) one.0 is.each) it.each one.2
    (subst (λ z. Comes z g a r f l2 p) one.0 (subst (λ z. Comes k z a r f l2 p) one.1 comes)) comes2
  where
    All : StringKind → List ℕ → Type 0
    All kind bytes = AllByRecursion (IsData kind) bytes
stands_once reading u f l m d e (string kind head bytes after l2 p reads is comes) (usual t m2 q stands split it gap) =
    absurd (it.none (inr (reads, string_opening u kind head bytes after is)))
stands_once reading u f l m d e (usual s l2 p stands split is gap) (extra t m2 q it there) =
    absurd (is.none (inl (record { text = t; event = q; is_extra = it; begins = (m2, there) })))
stands_once reading u f l m d e (usual s l2 p stands split is gap) (alt_key t m2 q it bare split2) =
    absurd ((gap (t ++ m2) split2).none (starts_with reading t m2 q it))
stands_once reading u f l m d e (usual s l2 p stands split is gap) (lone_escape w split2 after) =
    absurd ((gap w split2).none (apart_starts reading w after))
stands_once reading u f l m d e (usual s l2 p stands split is gap) (string kind head bytes after m2 q reads it comes) =
    absurd (is.none (inr (reads, string_opening u kind head bytes after it)))
stands_once reading u f l m d e (usual s l2 p stands split is gap) (usual t m2 q stands2 split2 it gap2) =
    let one = item_once u f s t p q stands.item stands2.item in
    (append_cancel_left t l2 m2 (sym (ap (λ z. z ++ l2) one.0) ∙ sym split ∙ split2), ap (λ x. told reading x p) one.0 ∙ ap (told reading t) one.1)

taken : (u text left : List ℕ) → u ≡ text ++ left → text ≢ [] → length left < length u
taken u text left e some = omega (arith, ap length e, length-append text left, length-some text some)

-- what an item leaves is shorter than the text
pub stands_less : (reading : Reading) (u left : List ℕ) (event : Event) (f : Bool) → Stands reading u f left event
    → length left < length u
stands_less reading u left event f (extra text left2 e is split) = taken u text left2 split (extra_some reading text e is)
stands_less reading u left event f (alt_key text left2 e is bare split) = taken u (ESC ++ text) left2 split (λ h. cc (h))
stands_less reading u left event f (lone_escape v split after) = taken u ESC v split (λ h. cc (h))
stands_less reading u left event f (string kind head bytes after left2 e reads is comes) =
    comes_less u kind head bytes after left2 f e is comes
stands_less reading u left event f (usual bytes left2 e stands split is gap) =
    taken u bytes left2 split (item_some u bytes e f stands.item)
