-- What a flush leaves, and which events it gives.
use Rattle.std.proofs.Common.{◌≡◌, ◌≢◌, ◌⊎◌, inl, inr, ⊎_elim, ℕ, ◌≤◌, Bool, false, List, [], ◌∷◌, ◌++◌, length, refl, sym, ap, ◌∙◌, subst, append_assoc, append-nil, arith, length-append}
use Rattle.termwiz_keymap.specs.Bytes.{Begins}
use Rattle.termwiz_keymap.proofs.lemmas.lists.CommonPrefixes.{Overlaps, overlap}
use Rattle.termwiz_keymap.proofs.lemmas.lists.CommonPrefixes.Overlaps.{within, past}
use Rattle.termwiz_keys.specs.Introducers.{ESC, START}
use Rattle.termwiz_extended_events.specs.declared.types.Event.{Event}
use Rattle.termwiz_extended_events.specs.declared.types.Reading.{Reading}
use Rattle.termwiz_extended_events.specs.declared.types.StringKind.{StringKind}
use Rattle.termwiz_extended_grammar.specs.Forms.{introducer}
use Rattle.termwiz_extended_grammar.specs.Strings.{IsHead, IsString, Ends, Comes}
use Rattle.termwiz_extended_grammar.specs.Strings.Ends.{ended, cut, cut_by_two, flushed}
use Rattle.termwiz_extended_grammar.specs.Strings.Comes.{part, last}
use Rattle.termwiz_extended_grammar.specs.Readings.{after_event, after_events}
use Rattle.termwiz_extended_grammar.specs.ExtendedGrammar.{Stands, Steps, IsRest}
use Rattle.termwiz_extended_grammar.specs.ExtendedGrammar.Stands.{extra, alt_key, lone_escape, string, usual}
use Rattle.termwiz_extended_grammar.specs.ExtendedLaws.{Waits}
use Rattle.termwiz_extended_grammar.specs.ExtendedLaws.Waits.{nothing, open_paste, undecided, open_string}
use Rattle.termwiz_extended_grammar.proofs.lemmas.forms.FormBytes.{IsMark, introducer_shape, escape_within}
use Rattle.termwiz_extended_grammar.proofs.lemmas.items.ExtendedItems.{stands_less}
use Rattle.termwiz_extended_grammar.proofs.lemmas.items.ExtendedRests.{Read, waiting_shape}

-- nothing waits under a flush but an open paste
pub rest_flushed : (reading : Reading) (W : List ℕ) (more : Bool) → IsRest reading W more → more ≡ false → (W ≡ []) ⊎ Begins START W
rest_flushed reading W more rest ends = go (waiting_shape reading W more rest)
  where
    go : Waits reading W more → (W ≡ []) ⊎ Begins START W
    go (nothing e) = inl e
    go (open_paste body e never) = inr (body, e)
    go (undecided held bytes is e n b short m) = absurd (cc (m, ends))
    go (open_string is short m reads) = absurd (cc (m, ends))

-- START begins at no place in the text
abbrev pub HasNoStart : List ℕ → Type 0
HasNoStart T = (front W : List ℕ) → T ≡ front ++ W → Begins START W → ⊥

pub no_start_cons : (x : ℕ) (T : List ℕ) → (Begins START (x ∷ T) → ⊥) → HasNoStart T → HasNoStart (x ∷ T)
no_start_cons x T here after [] W e b = here (b.0, e ∙ b.1)
no_start_cons x T here after (y ∷ front) W e b = after front W (cc (e)) b

-- nor at a place in its end
no_start_after : (T front W : List ℕ) → T ≡ front ++ W → HasNoStart T → HasNoStart W
no_start_after T front W e none before V f b =
    none (front ++ before) V (e ∙ ap (λ z. front ++ z) f ∙ sym (append_assoc front before V)) b

-- START doesn't begin within an opening
pub no_start_opening : (kind : StringKind) (head after : List ℕ) → IsHead kind head → HasNoStart after → HasNoStart (introducer kind ++ head ++ after)
no_start_opening kind head after is none front W e b = go front e (overlap (introducer kind ++ head) after front W (sym e))
  where
    i : (x : ℕ) × (introducer kind ≡ 27 ∷ x ∷ []) × ((x ≡ 93) ⊎ ((x ≡ 80) ⊎ (x ≡ 95)))
    i = introducer_shape kind

    mark : IsMark false (introducer kind ++ head)
    mark = inr (record { kind = kind; head = head; is_head = is; form = refl })

    -- START at the front isn't an opening
    not_first : introducer kind ++ head ++ after ≡ W → ⊥
    not_first same =
        let all : 27 ∷ i.0 ∷ (head ++ after) ≡ START ++ b.0 = ap (λ z. z ++ head ++ after) (sym i.1) ∙ same ∙ b.1 in
        let second : i.0 ≡ 91 = cc (all) in omega (arith, i.2)

    go : (front : List ℕ) → introducer kind ++ head ++ after ≡ front ++ W → Overlaps (introducer kind ++ head) after front W → ⊥
    go front same (within t f g) = none t W g b
    go [] same (past t n f g) = not_first same
    go (y ∷ front) same (past [] n f g) = n refl
    go (y ∷ front) same (past (x ∷ t) n f g) =
        let first : x ≡ 27 = cc (g, b.1) in
        let last : t ≡ 92 ∷ [] = escape_within (y ∷ front) t (λ h. cc (h))
        (subst (λ z. IsMark false (y ∷ front ++ z ∷ t)) first (subst (IsMark false) f mark)) in
        let second : ◌≡◌ {A = ℕ} 92 91 = cc (g, b.1, last) in omega arith

ends_after : (kind : StringKind) (bytes after left : List ℕ) (f : Bool) (event : Event) → Ends kind bytes after f left event
    → HasNoStart after → HasNoStart left
ends_after kind bytes after left f event (ended end left2 is e) none = no_start_after after end left2 e none
ends_after kind bytes after left f event (cut b rest e n m) none = no_start_after after [] (27 ∷ b ∷ rest) e none
ends_after kind bytes after left f event (cut_by_two rest e) none = no_start_after after ESC (27 ∷ rest) e none
ends_after kind bytes after left f event (flushed held m) none =
    no_start_after after after [] (⊎_elim (λ (e : after ≡ []). at_end e) (λ (e : after ≡ ESC). at_end e) held) none
  where
    at_end : {t : List ℕ} → after ≡ t → after ≡ after ++ []
    at_end e = sym (append-nil after)

-- nor in what follows the data of a string
after_data : (u : List ℕ) (kind : StringKind) (head bytes after : List ℕ) → IsString u kind head bytes after → HasNoStart u → HasNoStart after
after_data u kind head bytes after is none = no_start_after u (introducer kind ++ head ++ bytes) after
    (is.splits ∙ sym (append_assoc (introducer kind ++ head) bytes after)) none

comes_after : (u : List ℕ) (kind : StringKind) (head bytes after left : List ℕ) (f : Bool) (event : Event)
    → IsString u kind head bytes after → Comes kind head bytes after f left event → HasNoStart u → HasNoStart left
comes_after u kind head bytes after left f event is (part p) none =
    no_start_opening kind head after is.is_head (after_data u kind head bytes after is none)
comes_after u kind head bytes after left f event is (last left2 e p it) none =
    ends_after kind (head ++ bytes) after left2 f e it (after_data u kind head bytes after is none)

-- so at no place in what an item leaves
left_no_start : (reading : Reading) (u left : List ℕ) (f : Bool) (event : Event) → Stands reading u f left event → HasNoStart u
    → HasNoStart left
left_no_start reading u left f event (extra text left2 e is split) none = no_start_after u text left2 split none
left_no_start reading u left f event (alt_key text left2 e is bare split) none = no_start_after u (ESC ++ text) left2 split none
left_no_start reading u left f event (lone_escape v split after) none = no_start_after u ESC v split none
left_no_start reading u left f event (string kind head bytes after left2 e reads is comes) none =
    comes_after u kind head bytes after left2 f e is comes none
left_no_start reading u left f event (usual bytes left2 e stands split is gap) none = no_start_after u bytes left2 split none

pub steps_no_start : (reading : Reading) (E : List Event) (T W : List ℕ) (f : Bool) → Steps reading T f E W → HasNoStart T → HasNoStart W
steps_no_start reading [] T W f h none = subst HasNoStart h none
steps_no_start reading (e ∷ E) T W f (left, stands, steps) none =
    steps_no_start (after_event reading e) E left W f steps (left_no_start reading T left f e stands none)

-- a flush leaves nothing of such a text, so it gives an event
pub flush_leaves : (reading : Reading) (T W : List ℕ) (E : List Event) → HasNoStart T → Read reading T false E W → W ≡ []
flush_leaves reading T W E none (steps, rest) = ⊎_elim
    (λ (e : W ≡ []). e)
    (λ (b : Begins START W). absurd (steps_no_start reading E T W false steps none [] W refl b))
    (rest_flushed (after_events reading E) W false rest refl)

pub flush_gives : (reading : Reading) (T W : List ℕ) (E : List Event) → T ≢ [] → HasNoStart T → Read reading T false E W → E ≢ []
flush_gives reading T W [] some none (h, rest) e = some (h ∙ flush_leaves reading T W [] none (h, rest))
flush_gives reading T W (x ∷ E) some none m e = cc (e)

pub nothing_steps : (reading : Reading) (E : List Event) (W : List ℕ) (f : Bool) → Steps reading [] f E W → E ≡ []
nothing_steps reading [] W f h = refl
nothing_steps reading (e ∷ E) W f (left, stands, steps) = absurd (omega (arith, stands_less reading [] left e f stands))

-- an item that leaves nothing is the last
pub nothing_after : (reading : Reading) (left W : List ℕ) (E : List Event) → left ≡ [] → Steps reading left false E W → E ≡ []
nothing_after reading left W E none steps = nothing_steps reading E W false (subst (λ x. Steps reading x false E W) none steps)

pub two_long : (E D : List Event) → E ≢ [] → D ≢ [] → 2 ≤ length (E ++ D)
two_long [] D a b = absurd (a refl)
two_long (x ∷ E) [] a b = absurd (b refl)
two_long (x ∷ E) (y ∷ D) a b = omega (arith, length-append E (y ∷ D))
