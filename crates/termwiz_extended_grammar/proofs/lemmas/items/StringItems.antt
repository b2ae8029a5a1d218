-- What comes of a string: it is one thing, stays whatever follows, and leaves less than there was.
use Rattle.std.proofs.Common.{◌≡◌, ◌≢◌, ◌⊎◌, inl, inr, ⊎_elim, ℕ, ◌<◌, ◌≤◌, Bool, true, false, List, [], ◌∷◌, ◌++◌, length, refl, sym, ap, ap₂, ◌∙◌, subst, append_assoc, append-nil, arith, length-append}
use Rattle.std.specs.List.{AllByRecursion}
use Rattle.std.proofs.lemmas.List.{append_cancel_left}
use Rattle.termwiz_keymap.specs.Bytes.{Begins}
use Rattle.termwiz_keymap.proofs.lemmas.lists.CommonPrefixes.{Overlaps, overlap, true_at_end}
use Rattle.termwiz_keymap.proofs.lemmas.lists.CommonPrefixes.Overlaps.{within, past}
use Rattle.termwiz_keys.specs.Introducers.{ESC}
use Rattle.termwiz_grammar.specs.Laws.{IsHeldEscape}
use Rattle.termwiz_extended_events.specs.declared.types.Event.{Event}
use Rattle.termwiz_extended_events.specs.declared.types.Event.TheVariants.{StringPart}
use Rattle.termwiz_extended_events.specs.declared.types.StringKind.{StringKind}
use Rattle.termwiz_extended_events.specs.declared.types.StringKind.TheVariants.{Osc, Dcs, Apc}
use Rattle.termwiz_extended_grammar.specs.Forms.{ST, BEL, introducer, IsData, IsStringEnd, most_string}
use Rattle.termwiz_extended_grammar.specs.Strings.{IsString, string_length, Ends, Comes, StartsWithOpening}
use Rattle.termwiz_extended_grammar.specs.Strings.Ends.{ended, cut, cut_by_two, flushed}
use Rattle.termwiz_extended_grammar.specs.Strings.Comes.{part, last}
use Rattle.termwiz_extended_grammar.proofs.lemmas.forms.FormBytes.{IsMark}
use Rattle.termwiz_extended_grammar.proofs.lemmas.forms.FormEnds.{mark_ends, opening_once}
use Rattle.termwiz_extended_grammar.proofs.lemmas.forms.FormOrNot.{opening_length}

-- two marks that begin one text are the same
pub mark_once : {x10_mouse : Bool} (u a b : List ℕ) → IsMark x10_mouse a → IsMark x10_mouse b → Begins a u → Begins b u → a ≡ b
mark_once {x10_mouse = x10_mouse} u a b is_a is_b (r, p) (s, q) = go (overlap a r b s (sym q ∙ p))
  where
    go : Overlaps a r b s → a ≡ b
    go (within t f g) =
        let none : t ≡ [] = mark_ends a t is_a (subst (λ x. IsMark x10_mouse x) f is_b) in
        sym (f ∙ ap (λ x. a ++ x) none ∙ append-nil a)
    go (past t n f g) = absurd (n (mark_ends b t is_b (subst (λ x. IsMark x10_mouse x) f is_a)))

pub string_opening : (u : List ℕ) (kind : StringKind) (head bytes after : List ℕ) → IsString u kind head bytes after → StartsWithOpening u
string_opening u kind head bytes after s =
    record { kind = kind; head = head; is_head = s.is_head; begins = (bytes ++ after, s.splits) }

-- a string has one kind and one head
pub string_once : (u : List ℕ) (k j : StringKind) (h g bytes other after rest : List ℕ) → IsString u k h bytes after
    → IsString u j g other rest → (k ≡ j) × (h ≡ g) × (bytes ++ after ≡ other ++ rest)
string_once u k j h g bytes other after rest a b =
    let same : introducer k ++ h ≡ introducer j ++ g = mark_once {x10_mouse = false} u (introducer k ++ h) (introducer j ++ g)
    (inr (record { kind = k; head = h; is_head = a.is_head; form = refl }))
    (inr (record { kind = j; head = g; is_head = b.is_head; form = refl })) (bytes ++ after, a.splits) (other ++ rest, b.splits) in
    let one = opening_once k j h g same in (
      one.0,
      one.1,
      append_cancel_left (introducer j ++ g) (bytes ++ after) (other ++ rest)
          (sym (ap (λ z. z ++ (bytes ++ after)) same) ∙ sym a.splits ∙ b.splits),
    )

-- an ESC is no data
pub escape_no_data : (kind : StringKind) → ¬ IsData kind 27
escape_no_data Osc d = d.0 refl
escape_no_data Dcs d = d refl
escape_no_data Apc d = d refl

-- an end is ST, or BEL, which is no data then
pub end_cases : (kind : StringKind) (end : List ℕ) → IsStringEnd kind end → (end ≡ ST) ⊎ ((end ≡ BEL) × ¬ IsData kind 7)
end_cases Osc end (inl e) = inl e
end_cases Osc end (inr e) = inr (e, λ d. d.1 refl)
end_cases Dcs end e = inl e
end_cases Apc end e = inl e

-- nothing, or no data
abbrev pub Stopped : StringKind → List ℕ → Type 0
Stopped kind after = (after ≡ []) ⊎ ((x : ℕ) × (r : List ℕ) × (after ≡ x ∷ r) × ¬ IsData kind x)

pub ends_stopped : (kind : StringKind) (bytes after left : List ℕ) (f : Bool) (event : Event) → Ends kind bytes after f left event
    → Stopped kind after
ends_stopped kind bytes after left f event (ended end left2 is e) = ⊎_elim
    (λ (st : end ≡ ST). inr (27, 92 ∷ left2, e ∙ ap (λ z. z ++ left2) st, escape_no_data kind))
    (λ (bell : (end ≡ BEL) × ¬ IsData kind 7). inr (7, left2, e ∙ ap (λ z. z ++ left2) bell.0, bell.1))
    (end_cases kind end is)
ends_stopped kind bytes after left f event (cut b rest e n m) = inr (27, b ∷ rest, e, escape_no_data kind)
ends_stopped kind bytes after left f event (cut_by_two rest e) = inr (27, 27 ∷ rest, e, escape_no_data kind)
ends_stopped kind bytes after left f event (flushed held m) = ⊎_elim
    (λ (none : after ≡ []). inl none)
    (λ (one : after ≡ ESC). inr (27, [], one, escape_no_data kind))
    held

-- data, more data, and what stops it: what stops isn't more data
pub not_stopped : (kind : StringKind) (t after other bytes front : List ℕ) → t ≢ [] → bytes ≡ front ++ t → AllByRecursion (IsData kind) bytes
    → other ≡ t ++ after → Stopped kind other → ⊥
not_stopped kind [] after other bytes front some e all same stop = some refl
not_stopped kind (y ∷ t) after other bytes front some e all same (inl none) = cc (same, none)
not_stopped kind (y ∷ t) after other bytes front some e all same (inr (x, r, f, never)) =
    let parts : AllByRecursion (IsData kind) (y ∷ t) =
    true_at_end (IsData kind) front (y ∷ t) (subst (AllByRecursion (IsData kind)) e all) in
    let first : y ≡ x = cc (same, f) in
    never (subst (IsData kind) first parts.0)

-- data up to what stops it is told once
pub stopped_once : (kind : StringKind) (a b r s : List ℕ) → AllByRecursion (IsData kind) a → AllByRecursion (IsData kind) b → Stopped kind r
    → Stopped kind s → a ++ r ≡ b ++ s → (a ≡ b) × (r ≡ s)
stopped_once kind a b r s da db sr ss e = go (overlap a r b s (sym e))
  where
    go : Overlaps a r b s → (a ≡ b) × (r ≡ s)
    go (within [] f g) = (sym (f ∙ append-nil a), g)
    go (within (x ∷ t) f g) = absurd (not_stopped kind (x ∷ t) s r b a (λ h. cc (h)) f db g sr)
    go (past t n f g) = absurd (not_stopped kind t r s a b n f da g ss)

-- as many bytes of one text are the same
pub parted_once : (a b r s : List ℕ) → length a ≡ length b → a ++ r ≡ b ++ s → (a ≡ b) × (r ≡ s)
parted_once [] [] r s l e = (refl, e)
parted_once [] (y ∷ b) r s l e = absurd (omega arith)
parted_once (x ∷ a) [] r s l e = absurd (omega arith)
parted_once (x ∷ a) (y ∷ b) r s l e =
    let rest = parted_once a b r s (omega arith) (cc (e)) in
    let first : x ≡ y = cc (e) in
    (ap₂ (λ c t. c ∷ t) first rest.0, rest.1)

no_end_cut : (kind : StringKind) (end left : List ℕ) (b : ℕ) (r after : List ℕ) → IsStringEnd kind end → after ≡ end ++ left
    → after ≡ 27 ∷ b ∷ r → b ≢ 92 → ⊥
no_end_cut kind end left b r after is p q o = ⊎_elim
    (λ (st : end ≡ ST). o (cc (p, q, ap (λ z. z ++ left) st)))
    (λ (bell : (end ≡ BEL) × ¬ IsData kind 7).
    let same : ◌≡◌ {A = ℕ} 7 27 = cc (p, q, ap (λ z. z ++ left) bell.0) in omega arith)
    (end_cases kind end is)

pub no_end_flushed : (kind : StringKind) (end left after : List ℕ) → IsStringEnd kind end → after ≡ end ++ left → IsHeldEscape after → ⊥
no_end_flushed kind end left after is p held = ⊎_elim
    (λ (st : end ≡ ST). ⊎_elim
    (λ (none : after ≡ []). cc (p, none, ap (λ z. z ++ left) st))
    (λ (one : after ≡ ESC). cc (p, one, ap (λ z. z ++ left) st))
    held)
    (λ (bell : (end ≡ BEL) × ¬ IsData kind 7). ⊎_elim
    (λ (none : after ≡ []). cc (p, none, ap (λ z. z ++ left) bell.0))
    (λ (one : after ≡ ESC). let same : ◌≡◌ {A = ℕ} 7 27 = cc (p, one, ap (λ z. z ++ left) bell.0) in omega arith)
    held)
    (end_cases kind end is)

pub no_cut_flushed : (b : ℕ) (r after : List ℕ) → after ≡ 27 ∷ b ∷ r → IsHeldEscape after → ⊥
no_cut_flushed b r after p held = ⊎_elim (λ (none : after ≡ []). cc (p, none)) (λ (one : after ≡ ESC). cc (p, one)) held

-- a string has one end
ends_once : (kind : StringKind) (bytes after l m : List ℕ) (f : Bool) (d e : Event) → Ends kind bytes after f l d
    → Ends kind bytes after f m e → (l ≡ m) × (d ≡ e)
ends_once kind bytes after l m f d e (ended end l2 is p) (ended other m2 it q) = (go (end_cases kind end is) (end_cases kind other it), refl)
  where
    go : (end ≡ ST) ⊎ ((end ≡ BEL) × ¬ IsData kind 7) → (other ≡ ST) ⊎ ((other ≡ BEL) × ¬ IsData kind 7) → l2 ≡ m2
    go (inl a) (inl b) = cc (p ∙ ap (λ z. z ++ l2) a, q ∙ ap (λ z. z ++ m2) b)
    go (inl a) (inr b) = absurd (
        let same : ◌≡◌ {A = ℕ} 27 7 = cc (p, q, ap (λ z. z ++ l2) a, ap (λ z. z ++ m2) b.0) in omega arith
        )
    go (inr a) (inl b) = absurd (
        let same : ◌≡◌ {A = ℕ} 7 27 = cc (p, q, ap (λ z. z ++ l2) a.0, ap (λ z. z ++ m2) b) in omega arith
        )
    go (inr a) (inr b) = cc (p, q, ap (λ z. z ++ l2) a.0, ap (λ z. z ++ m2) b.0)
ends_once kind bytes after l m f d e (ended end l2 is p) (cut b r q n o) = absurd (no_end_cut kind end l2 b r after is p q o)
ends_once kind bytes after l m f d e (ended end l2 is p) (cut_by_two r q) =
    absurd (no_end_cut kind end l2 27 r after is p q (λ z. omega arith))
ends_once kind bytes after l m f d e (ended end l2 is p) (flushed held o) = absurd (no_end_flushed kind end l2 after is p held)
ends_once kind bytes after l m f d e (cut b r p n o) (ended end m2 is q) = absurd (no_end_cut kind end m2 b r after is q p o)
ends_once kind bytes after l m f d e (cut b r p n o) (cut c s q n2 o2) = (sym p ∙ q, refl)
ends_once kind bytes after l m f d e (cut b r p n o) (cut_by_two s q) = absurd (n (cc (p, q)))
ends_once kind bytes after l m f d e (cut b r p n o) (flushed held h) = absurd (no_cut_flushed b r after p held)
ends_once kind bytes after l m f d e (cut_by_two r p) (ended end m2 is q) =
    absurd (no_end_cut kind end m2 27 r after is q p (λ z. omega arith))
ends_once kind bytes after l m f d e (cut_by_two r p) (cut c s q n2 o2) = absurd (n2 (cc (p, q)))
ends_once kind bytes after l m f d e (cut_by_two r p) (cut_by_two s q) = (cc (p, q), refl)
ends_once kind bytes after l m f d e (cut_by_two r p) (flushed held h) = absurd (no_cut_flushed 27 r after p held)
ends_once kind bytes after l m f d e (flushed held o) (ended end m2 is q) = absurd (no_end_flushed kind end m2 after is q held)
ends_once kind bytes after l m f d e (flushed held o) (cut c s q n2 o2) = absurd (no_cut_flushed c s after q held)
ends_once kind bytes after l m f d e (flushed held o) (cut_by_two s q) = absurd (no_cut_flushed 27 s after q held)
ends_once kind bytes after l m f d e (flushed held o) (flushed held2 o2) = (refl, refl)

-- what fills a part has more data than what stops
pub longer_data : (kind : StringKind) (head a b r s : List ℕ) → AllByRecursion (IsData kind) a → a ++ r ≡ b ++ s
    → string_length kind head a ≡ most_string → string_length kind head b < most_string → Stopped kind s → ⊥
longer_data kind head a b r s da same full short stop = go (overlap a r b s (sym same))
  where
    go : Overlaps a r b s → ⊥
    go (within t f g) = omega (
      arith,
      full,
      short,
      ap length f,
      length-append a t,
      length-append (introducer kind ++ head) a,
      length-append (introducer kind ++ head) b,
    )
    go (past t n f g) = not_stopped kind t r s a b n f da g stop

-- what comes of a string is told once
pub comes_once : (kind : StringKind) (head a b r s l m : List ℕ) (f : Bool) (d e : Event) → AllByRecursion (IsData kind) a
    → AllByRecursion (IsData kind) b → a ++ r ≡ b ++ s → Comes kind head a r f l d → Comes kind head b s f m e → (l ≡ m) × (d ≡ e)
comes_once kind head a b r s l m f d e da db same (part p) (part q) =
    let one = parted_once a b r s
    (omega (arith, p, q, length-append (introducer kind ++ head) a, length-append (introducer kind ++ head) b)) same in
    (ap (λ z. introducer kind ++ head ++ z) one.1, ap (λ z. StringPart kind (head ++ z)) one.0)
comes_once kind head a b r s l m f d e da db same (part p) (last m2 e2 q it) =
    absurd (longer_data kind head a b r s da same p q (ends_stopped kind (head ++ b) s m2 f e2 it))
comes_once kind head a b r s l m f d e da db same (last l2 d2 p is) (part q) =
    absurd (longer_data kind head b a s r db (sym same) q p (ends_stopped kind (head ++ a) r l2 f d2 is))
comes_once kind head a b r s l m f d e da db same (last l2 d2 p is) (last m2 e2 q it) =
    let one = stopped_once kind a b r s da db (ends_stopped kind (head ++ a) r l2 f d2 is) (ends_stopped kind (head ++ b) s m2 f e2 it) same in
    ends_once kind (head ++ b) s l2 m2 f d2 e2
    (subst (λ z. Ends kind (head ++ z) s f l2 d2) one.0 (subst (λ z. Ends kind (head ++ a) z f l2 d2) one.1 is)) it

-- the opening, and data, are a longer text made longer
string_longer : (kind : StringKind) (head bytes after s : List ℕ) → (introducer kind ++ head ++ (bytes ++ after)) ++ s
    ≡ introducer kind ++ head ++ (bytes ++ (after ++ s))
string_longer kind head bytes after s =
    append_assoc (introducer kind ++ head) (bytes ++ after) s ∙ ap (λ z. introducer kind ++ head ++ z) (append_assoc bytes after s)

pub string_append : (u s : List ℕ) (kind : StringKind) (head bytes after : List ℕ) → IsString u kind head bytes after
    → IsString (u ++ s) kind head bytes (after ++ s)
string_append u s kind head bytes after is = record {
  is_head = is.is_head;
  each = is.each;
  splits = ap (λ z. z ++ s) is.splits ∙ string_longer kind head bytes after s;
}

-- an end with more to come is one whatever follows
ends_stay : (kind : StringKind) (bytes after left s : List ℕ) (f : Bool) (event : Event) → Ends kind bytes after true left event
    → Ends kind bytes (after ++ s) f (left ++ s) event
ends_stay kind bytes after left s f event (ended end left2 is e) =
    ended end (left2 ++ s) is (ap (λ z. z ++ s) e ∙ append_assoc end left2 s)
ends_stay kind bytes after left s f event (cut b rest e n m) = cut b (rest ++ s) (ap (λ z. z ++ s) e) n m
ends_stay kind bytes after left s f event (cut_by_two rest e) = cut_by_two (rest ++ s) (ap (λ z. z ++ s) e)
ends_stay kind bytes after left s f event (flushed held m) = absurd (cc (m))

part_longer : (kind : StringKind) (head bytes after s : List ℕ) (f : Bool) → string_length kind head bytes ≡ most_string
    → Comes kind head bytes (after ++ s) f ((introducer kind ++ head ++ after) ++ s) (StringPart kind (head ++ bytes))
part_longer kind head bytes after s f p =
    let it : Comes kind head bytes (after ++ s) f (introducer kind ++ head ++ (after ++ s)) (StringPart kind (head ++ bytes)) = part p in
    subst (λ z. Comes kind head bytes (after ++ s) f z (StringPart kind (head ++ bytes)))
    (sym (append_assoc (introducer kind ++ head) after s)) it

pub comes_stay : (kind : StringKind) (head bytes after left s : List ℕ) (f : Bool) (event : Event)
    → Comes kind head bytes after true left event → Comes kind head bytes (after ++ s) f (left ++ s) event
comes_stay kind head bytes after left s f event (part p) = part_longer kind head bytes after s f p
comes_stay kind head bytes after left s f event (last left2 e p is) =
    last (left2 ++ s) e p (ends_stay kind (head ++ bytes) after left2 s f e is)

-- before ESC and such a byte a flush reads what it reads without them
ends_before : (kind : StringKind) (bytes after left : List ℕ) (b : ℕ) (r : List ℕ) (f : Bool) (event : Event) → b ≢ 27 → b ≢ 92
    → Ends kind bytes after false left event → Ends kind bytes (after ++ 27 ∷ b ∷ r) f (left ++ 27 ∷ b ∷ r) event
ends_before kind bytes after left b r f event n m (ended end left2 is e) =
    ended end (left2 ++ 27 ∷ b ∷ r) is (ap (λ z. z ++ 27 ∷ b ∷ r) e ∙ append_assoc end left2 (27 ∷ b ∷ r))
ends_before kind bytes after left b r f event n m (cut c rest e n2 m2) =
    cut c (rest ++ 27 ∷ b ∷ r) (ap (λ z. z ++ 27 ∷ b ∷ r) e) n2 m2
ends_before kind bytes after left b r f event n m (cut_by_two rest e) =
    cut_by_two (rest ++ 27 ∷ b ∷ r) (ap (λ z. z ++ 27 ∷ b ∷ r) e)
ends_before kind bytes after left b r f event n m (flushed held o) = ⊎_elim
    (λ (none : after ≡ []). cut b r (ap (λ z. z ++ 27 ∷ b ∷ r) none) n m)
    (λ (one : after ≡ ESC). cut_by_two (b ∷ r) (ap (λ z. z ++ 27 ∷ b ∷ r) one))
    held

pub comes_before : (kind : StringKind) (head bytes after left : List ℕ) (b : ℕ) (r : List ℕ) (f : Bool) (event : Event) → b ≢ 27
    → b ≢ 92 → Comes kind head bytes after false left event
    → Comes kind head bytes (after ++ 27 ∷ b ∷ r) f (left ++ 27 ∷ b ∷ r) event
comes_before kind head bytes after left b r f event n m (part p) = part_longer kind head bytes after (27 ∷ b ∷ r) f p
comes_before kind head bytes after left b r f event n m (last left2 e p is) =
    last (left2 ++ 27 ∷ b ∷ r) e p (ends_before kind (head ++ bytes) after left2 b r f e n m is)

-- what is left is no longer than what follows the data
ends_left : (kind : StringKind) (bytes after left : List ℕ) (f : Bool) (event : Event) → Ends kind bytes after f left event
    → length left ≤ length after
ends_left kind bytes after left f event (ended end left2 is e) = omega (arith, ap length e, length-append end left2)
ends_left kind bytes after left f event (cut b rest e n m) = omega (arith, ap length e)
ends_left kind bytes after left f event (cut_by_two rest e) = omega (arith, ap length e)
ends_left kind bytes after left f event (flushed held m) = omega arith

opening_some : (kind : StringKind) (head : List ℕ) → 0 < length (introducer kind ++ head)
opening_some Osc head = omega arith
opening_some Dcs head = omega arith
opening_some Apc head = omega arith

-- what comes of a string leaves less than the string
pub comes_less : (u : List ℕ) (kind : StringKind) (head bytes after left : List ℕ) (f : Bool) (event : Event)
    → IsString u kind head bytes after → Comes kind head bytes after f left event → length left < length u
comes_less u kind head bytes after left f event is (part p) =
    let short : length (introducer kind ++ head) ≤ 255 = opening_length kind head is.is_head in
    omega (
      arith,
      p,
      ap length is.splits,
      length-append (introducer kind ++ head) bytes,
      length-append (introducer kind ++ head) after,
      length-append (introducer kind ++ head) (bytes ++ after),
      length-append bytes after,
    )
comes_less u kind head bytes after left f event is (last left2 e p it) =
    omega (
      arith,
      ends_left kind (head ++ bytes) after left2 f e it,
      opening_some kind head,
      ap length is.splits,
      length-append (introducer kind ++ head) (bytes ++ after),
      length-append bytes after,
    )
