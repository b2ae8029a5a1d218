-- Where an opening begins a text, something comes of the string, or it is open; and it can be told which.
use Rattle.std.proofs.Common.{◌≡◌, ◌≢◌, ◌⊎◌, inl, inr, ⊎_elim, ℕ, zero, suc, ◌-◌, ◌<◌, ◌≤◌, Bool, true, false, List, [], ◌∷◌, ◌++◌, length, refl, sym, ap, ◌∙◌, subst, append_assoc, arith, length-append}
use Rattle.std.specs.List.{AllByRecursion}
use Rattle.std.proofs.lemmas.Bool.{cases_lt}
use Rattle.termwiz_grammar.specs.Laws.{IsHeldEscape}
use Rattle.termwiz_grammar.proofs.lemmas.lists.Decidable.{Decision, decide_both, decide_eq}
use Rattle.termwiz_extended_events.specs.Meanings.{whole_string}
use Rattle.termwiz_extended_events.specs.declared.types.Event.{Event}
use Rattle.termwiz_extended_events.specs.declared.types.Event.TheVariants.{StringPart, StringCut}
use Rattle.termwiz_extended_events.specs.declared.types.StringKind.{StringKind}
use Rattle.termwiz_extended_events.specs.declared.types.StringKind.TheVariants.{Osc, Dcs, Apc}
use Rattle.termwiz_extended_grammar.specs.Forms.{ST, BEL, introducer, IsData, IsStringEnd, most_string}
use Rattle.termwiz_extended_grammar.specs.Strings.{IsString, string_length, Ends, Comes, StartsWithOpening, IsOpenString}
use Rattle.termwiz_extended_grammar.specs.Strings.Ends.{ended, cut, cut_by_two, flushed}
use Rattle.termwiz_extended_grammar.specs.Strings.Comes.{part, last}
use Rattle.termwiz_extended_grammar.proofs.lemmas.forms.FormOrNot.{opening_length}
use Rattle.termwiz_extended_grammar.proofs.lemmas.items.StringItems.{Stopped, escape_no_data, ends_stopped, stopped_once, longer_data, no_end_flushed, no_cut_flushed}

decide_other : (b x : ℕ) → Decision (b ≢ x)
decide_other b x = ⊎_elim (λ (e : b ≡ x). inr (λ n. n e)) (λ (n : b ≡ x → ⊥). inl n) (decide_eq b x)

data_or_not : (kind : StringKind) (b : ℕ) → Decision (IsData kind b)
data_or_not Osc b = decide_both (decide_other b 27) (decide_other b 7)
data_or_not Dcs b = decide_other b 27
data_or_not Apc b = decide_other b 27

-- the data that begin a text, and what stops them
pub scan : (kind : StringKind) (t : List ℕ)
    → (bytes after : List ℕ) × (t ≡ bytes ++ after) × AllByRecursion (IsData kind) bytes × Stopped kind after
scan kind [] = ([], [], refl, tt, inl refl)
scan kind (x ∷ t) = go (data_or_not kind x) (scan kind t)
  where
    go : Decision (IsData kind x) → (bytes after : List ℕ) × (t ≡ bytes ++ after) × AllByRecursion (IsData kind) bytes × Stopped kind after
        → (bytes after : List ℕ) × (x ∷ t ≡ bytes ++ after) × AllByRecursion (IsData kind) bytes × Stopped kind after
    go (inl d) (bytes, after, e, each, stop) = (x ∷ bytes, after, ap (λ z. x ∷ z) e, (d, each), stop)
    go (inr never) rest = ([], x ∷ t, refl, tt, inr (x, t, refl, never))

-- the first n bytes of a text, and the others
pub parted : (n : ℕ) (t : List ℕ) → n ≤ length t → (a b : List ℕ) × (t ≡ a ++ b) × (length a ≡ n)
parted zero t l = ([], t, refl, refl)
parted (suc n) [] l = absurd (omega arith)
parted (suc n) (x ∷ t) l = (let p = parted n t (omega arith) in (x ∷ p.0, p.1, ap (λ z. x ∷ z) p.2, omega (arith, p.3)))

-- what is no data is ESC, or BEL that ends the string
stop_byte : (kind : StringKind) (x : ℕ) → ¬ IsData kind x → (x ≡ 27) ⊎ ((x ≡ 7) × IsStringEnd kind BEL)
stop_byte Osc x never = ⊎_elim
    (λ (e : x ≡ 27). inl e)
    (λ (n : x ≡ 27 → ⊥). ⊎_elim (λ (b : x ≡ 7). inr (b, inr refl)) (λ (m : x ≡ 7 → ⊥). absurd (never (n, m))) (decide_eq x 7))
    (decide_eq x 27)
stop_byte Dcs x never = ⊎_elim (λ (e : x ≡ 27). inl e) (λ (n : x ≡ 27 → ⊥). absurd (never n)) (decide_eq x 27)
stop_byte Apc x never = ⊎_elim (λ (e : x ≡ 27). inl e) (λ (n : x ≡ 27 → ⊥). absurd (never n)) (decide_eq x 27)

-- ST ends every string
pub st_ends : (kind : StringKind) → IsStringEnd kind ST
st_ends Osc = inl refl
st_ends Dcs = refl
st_ends Apc = refl

-- something ends the string, or what follows its data is nothing or ESC, with more to come
pub data Ended (kind : StringKind) (bytes after : List ℕ) (f : Bool) : Type 0 where
  by : (left : List ℕ) (event : Event) → Ends kind bytes after f left event → Ended kind bytes after f
  not_yet : IsHeldEscape after → f ≡ true → Ended kind bytes after f

held_ended : (kind : StringKind) (bytes after : List ℕ) (f : Bool) → IsHeldEscape after → Ended kind bytes after f
held_ended kind bytes after true held = not_yet held refl
held_ended kind bytes after false held = by [] (StringCut kind bytes) (flushed held refl)

escape_ended : (kind : StringKind) (bytes after r : List ℕ) (f : Bool) → after ≡ 27 ∷ r → Ended kind bytes after f
escape_ended kind bytes after [] f e = held_ended kind bytes after f (inr e)
escape_ended kind bytes after (y ∷ t) f e = ⊎_elim
    (λ (s : y ≡ 92). by t (whole_string kind bytes) (ended ST t (st_ends kind) (e ∙ ap (λ z. 27 ∷ z ∷ t) s)))
    (λ (n : y ≡ 92 → ⊥). ⊎_elim
    (λ (two : y ≡ 27). by (27 ∷ t) (StringCut kind bytes) (cut_by_two t (e ∙ ap (λ z. 27 ∷ z ∷ t) two)))
    (λ (m : y ≡ 27 → ⊥). by (27 ∷ y ∷ t) (StringCut kind bytes) (cut y t e m n))
    (decide_eq y 27))
    (decide_eq y 92)

pub ended_or_not : (kind : StringKind) (bytes after : List ℕ) (f : Bool) → Stopped kind after → Ended kind bytes after f
ended_or_not kind bytes after f (inl none) = held_ended kind bytes after f (inl none)
ended_or_not kind bytes after f (inr (x, r, e, never)) = ⊎_elim
    (λ (esc : x ≡ 27). escape_ended kind bytes after r f (e ∙ ap (λ z. z ∷ r) esc))
    (λ (bell : (x ≡ 7) × IsStringEnd kind BEL).
    by r (whole_string kind bytes) (ended BEL r bell.1 (e ∙ ap (λ z. z ∷ r) bell.0)))
    (stop_byte kind x never)

-- what comes of the string, or that it is open
pub data SettledString (u : List ℕ) (f : Bool) : Type 0 where
  given : (kind : StringKind) (head bytes after left : List ℕ) (event : Event) → IsString u kind head bytes after
      → Comes kind head bytes after f left event → SettledString u f
  stays_open : IsOpenString u → f ≡ true → SettledString u f

pub settle_string : (u : List ℕ) (f : Bool) → StartsWithOpening u → SettledString u f
settle_string u f o = go (scan o.kind o.begins.0)
  where
    opening : List ℕ
    opening = introducer o.kind ++ o.head

    -- of long data a part is read
    long : (bytes after : List ℕ) → o.begins.0 ≡ bytes ++ after → AllByRecursion (IsData o.kind) bytes
        → most_string ≤ string_length o.kind o.head bytes → SettledString u f
    long bytes after e each l =
        let short : length opening ≤ 255 = opening_length o.kind o.head o.is_head in
        let p = parted (most_string - length opening) bytes (omega (arith, length-append opening bytes)) in
        let front = true_front p.0 p.1 (subst (AllByRecursion (IsData o.kind)) p.2 each) in
        given o.kind o.head p.0 (p.1 ++ after) (opening ++ (p.1 ++ after)) (StringPart o.kind (o.head ++ p.0))
        (record {
          is_head = o.is_head;
          each = front;
          splits = o.begins.1 ∙ ap (λ z. opening ++ z) (e ∙ ap (λ z. z ++ after) p.2 ∙ append_assoc p.0 p.1 after);
        })
        (part (omega (arith, p.3, length-append opening p.0)))
      where
        true_front : (a b : List ℕ) → AllByRecursion (IsData o.kind) (a ++ b) → AllByRecursion (IsData o.kind) a
        true_front [] b h = tt
        true_front (x ∷ a) b h = (h.0, true_front a b h.1)

    go : (bytes after : List ℕ) × (o.begins.0 ≡ bytes ++ after) × AllByRecursion (IsData o.kind) bytes × Stopped o.kind after
        → SettledString u f
    go (bytes, after, e, each, stop) = ⊎_elim
        (λ (short : string_length o.kind o.head bytes < most_string). closed short (ended_or_not o.kind (o.head ++ bytes) after f stop))
        (λ (l : most_string ≤ string_length o.kind o.head bytes). long bytes after e each l)
        (cases_lt (string_length o.kind o.head bytes) most_string)
      where
        is : IsString u o.kind o.head bytes after
        is = record { is_head = o.is_head; each = each; splits = o.begins.1 ∙ ap (λ z. opening ++ z) e }

        closed : string_length o.kind o.head bytes < most_string → Ended o.kind (o.head ++ bytes) after f → SettledString u f
        closed short (by left event it) = given o.kind o.head bytes after left event is (last left event short it)
        closed short (not_yet held more) = stays_open
            (record { kind = o.kind; head = o.head; bytes = bytes; held = after; is_string = is; short = short; is_held = held }) more

-- nothing ends an open string
no_end_yet : (kind : StringKind) (bytes after left : List ℕ) (f : Bool) (event : Event) → IsHeldEscape after → f ≡ true
    → Ends kind bytes after f left event → ⊥
no_end_yet kind bytes after left f event held more (ended end l is e) = no_end_flushed kind end l after is e held
no_end_yet kind bytes after left f event held more (cut b r e n m) = no_cut_flushed b r after e held
no_end_yet kind bytes after left f event held more (cut_by_two r e) = no_cut_flushed 27 r after e held
no_end_yet kind bytes after left f event held more (flushed h none) = cc (more, none)

held_stopped : (kind : StringKind) (after : List ℕ) → IsHeldEscape after → Stopped kind after
held_stopped kind after (inl none) = inl none
held_stopped kind after (inr one) = inr (27, [], one, escape_no_data kind)

-- so nothing comes of it, however its bytes are parted
pub nothing_comes : (kind : StringKind) (head a b r s left : List ℕ) (f : Bool) (event : Event) → AllByRecursion (IsData kind) a
    → AllByRecursion (IsData kind) b → a ++ r ≡ b ++ s → string_length kind head b < most_string → IsHeldEscape s → f ≡ true
    → Comes kind head a r f left event → ⊥
nothing_comes kind head a b r s left f event da db same short held more (part p) =
    longer_data kind head a b r s da same p short (held_stopped kind s held)
nothing_comes kind head a b r s left f event da db same short held more (last l e p is) =
    let one = stopped_once kind a b r s da db (ends_stopped kind (head ++ a) r l f e is) (held_stopped kind s held) same in
    no_end_yet kind (head ++ a) r l f e (subst IsHeldEscape (sym one.1) held) more is
