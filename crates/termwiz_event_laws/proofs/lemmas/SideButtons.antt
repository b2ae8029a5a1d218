-- Side buttons: what is written is read back, and each one that is emitted is written.
use Rattle.std.proofs.Common.{◌≡◌, ℕ, ◌+◌, ◌-◌, ◌%◌, ◌^◌, ◌<◌, ◌≤◌, Bool, true, false, ◌&&◌, nat_le, List, [], ◌∷◌, zero, suc, refl, sym, ap, ap₂, ◌∙◌, subst, arith, Option, Some, None, inl, inr}
use Rattle.std.specs.Prelude.{◌==◌, option_and_then, if◌then◌else◌}
use Rattle.std.proofs.lemmas.Bool.Decides.{nat_tests}
use Rattle.std.proofs.lemmas.Option.{option_and_then_some}
use Rattle.termwiz_base.specs.Mouse.{modifiers_of}
use Rattle.termwiz_extended_events.specs.declared.types.Event.TheVariants.{Mouse}
use Rattle.termwiz_extended_events.specs.declared.types.Reading.{Reading}
use Rattle.termwiz_extended_events.specs.declared.types.MouseReport.{MouseReport}
use Rattle.termwiz_extended_events.specs.declared.types.MouseKind.{MouseKind}
use Rattle.termwiz_extended_events.specs.declared.types.MouseKind.TheVariants.{Press, Release, Drag}
use Rattle.termwiz_extended_events.specs.MouseReports.{side_report}
use Rattle.termwiz_extended_grammar.specs.Readings.{ReadsMore}
use Rattle.termwiz_extended_events.specs.Numbers.{fields, after_start, before_end, first_some, number_within, short_number}
use Rattle.termwiz_extended_events.specs.ReportedKeys.{entry_at}
use Rattle.termwiz_extended_events.specs.Replies.{side_held, side_at, side_of_fields, sgr_side_button, urxvt_side_button, x10_side_button, side_button}
use Rattle.termwiz_senders.specs.declared.mouse.MouseTracking.TheVariants.{Any}
use Rattle.termwiz_senders.specs.EventTexts.{tells_modifiers, side_codes, side_move, side_last, side_text, side_event_text, further_mouse_text, IsReadAtOnce}
use Rattle.termwiz_senders.specs.MouseTexts.{sgr_text}
use Rattle.termwiz_senders.proofs.lemmas.MouseCodes.{bits, held_bits}
use Rattle.termwiz_event_laws.proofs.lemmas.SideReports.{told_by, side_report_means}
use Rattle.termwiz_event_laws.proofs.lemmas.SomeOptions.{IsAmong, among}
use Rattle.termwiz_senders.proofs.lemmas.TableEntries.{entry_holds}
use Rattle.termwiz_event_laws.proofs.lemmas.ToldModifiers.{told_again, code_tells}

-- the four side buttons
data Side : Type 0 where
  eight : Side
  nine : Side
  ten : Side
  eleven : Side

abbrev number_of : Side → ℕ
number_of eight = 8
number_of nine = 9
number_of ten = 10
number_of eleven = 11

abbrev first_code : Side → ℕ
first_code eight = 128
first_code nine = 129
first_code ten = 130
first_code eleven = 131

record IsSide (n code : ℕ) : Type 0 where
  side : Side
  number : number_of side ≡ n
  coded : first_code side ≡ code

side_of : (n code : ℕ) → entry_at side_codes n ≡ Some code → IsSide n code
side_of n code e =
    entry_holds IsSide side_codes n code (
      record { side = eight; number = refl; coded = refl },
      (
        record { side = nine; number = refl; coded = refl },
        (record { side = ten; number = refl; coded = refl }, (record { side = eleven; number = refl; coded = refl }, tt)),
      ),
    ) e

-- what happens to them
pub data Happens : Type 0 where
  pressed : Happens
  released : Happens
  dragged : Happens

abbrev pub kind_at : Happens → MouseKind
kind_at pressed = Press
kind_at released = Release
kind_at dragged = Drag

-- the code of a report
abbrev code_of : Side → MouseKind → Bool → Bool → Bool → ℕ
code_of b kind s a c = first_code b + side_move kind + bits 4 8 16 s a c

-- whether a code is within its limits, and what it tells
abbrev Said : Type 0
Said = Bool × Bool × (ℕ → ℕ → MouseReport)

abbrev said : MouseKind → ℕ → Said
said kind code = (nat_le 128 code, nat_le code 191, told_by kind (code - 128))

-- it tells the button, what happened, and the modifiers
abbrev Tells : Side → MouseKind → Bool → Bool → Bool → Type 0
Tells b kind s a c = said kind (code_of b kind s a c)
    ≡ (
      true,
      true,
      λ x y. record {
        x = x;
        y = y;
        modifiers = record { 0 = bits 2 4 8 s a c };
        buttons = record { 0 = 0 };
        kind = kind;
        button = Some (number_of b);
      },
    )

each_bit : (P : Bool → Bool → Bool → Type 0) → P true true true → P true true false → P true false true → P true false false
    → P false true true → P false true false → P false false true → P false false false → (s a c : Bool) → P s a c
each_bit P p q r t u v w x true true true = p
each_bit P p q r t u v w x true true false = q
each_bit P p q r t u v w x true false true = r
each_bit P p q r t u v w x true false false = t
each_bit P p q r t u v w x false true true = u
each_bit P p q r t u v w x false true false = v
each_bit P p q r t u v w x false false true = w
each_bit P p q r t u v w x false false false = x

tells : (b : Side) (h : Happens) (s a c : Bool) → Tells b (kind_at h) s a c
unfolding modifiers_of
tells eight pressed = each_bit (Tells eight Press) refl refl refl refl refl refl refl refl
tells eight released = each_bit (Tells eight Release) refl refl refl refl refl refl refl refl
tells eight dragged = each_bit (Tells eight Drag) refl refl refl refl refl refl refl refl
tells nine pressed = each_bit (Tells nine Press) refl refl refl refl refl refl refl refl
tells nine released = each_bit (Tells nine Release) refl refl refl refl refl refl refl refl
tells nine dragged = each_bit (Tells nine Drag) refl refl refl refl refl refl refl refl
tells ten pressed = each_bit (Tells ten Press) refl refl refl refl refl refl refl refl
tells ten released = each_bit (Tells ten Release) refl refl refl refl refl refl refl refl
tells ten dragged = each_bit (Tells ten Drag) refl refl refl refl refl refl refl refl
tells eleven pressed = each_bit (Tells eleven Press) refl refl refl refl refl refl refl refl
tells eleven released = each_bit (Tells eleven Release) refl refl refl refl refl refl refl refl
tells eleven dragged = each_bit (Tells eleven Drag) refl refl refl refl refl refl refl refl

-- what is written of a side button is read back
pub side_read_back : (reading : Reading) (e : MouseReport) (n : ℕ) (h : Happens) (bytes : List ℕ) → ReadsMore reading → e.x < 2 ^ 16
    → e.y < 2 ^ 16 → tells_modifiers e.modifiers ≡ true → e.buttons.0 ≡ 0 → e.kind ≡ kind_at h → e.button ≡ Some n
    → side_event_text e n ≡ Some bytes → IsReadAtOnce reading (Mouse e) bytes
side_read_back reading e n h bytes reads f g modifiers down kind named is =
    option_and_then_some (λ code. Some (side_text e code)) (entry_at side_codes n) bytes is by_code
  where
    at_least : (n : ℕ) → nat_le 128 n ≡ true → 128 ≤ n
    at_least n k = grind (arith, nat_tests)

    at_most : (n : ℕ) → nat_le n 191 ≡ true → n ≤ 191
    at_most n k = grind (arith, nat_tests)

    by_code : (code : ℕ) → entry_at side_codes n ≡ Some code → Some (side_text e code) ≡ Some bytes → IsReadAtOnce reading (Mouse e) bytes
    by_code coded found sent =
        let side = side_of n coded found in
        let held = held_bits Any e.modifiers.0 in
        let t = tells side.side h held.s held.a held.c in
        let code = code_of side.side (kind_at h) held.s held.a held.c in
        let low : 128 ≤ code = at_least code (ap (λ v. v.0) t) in
        let high : code ≤ 191 = at_most code (ap (λ v. v.1) t) in
        let its : record { 0 = bits 2 4 8 held.s held.a held.c } ≡ e.modifiers =
        ap (λ n. record { 0 = n }) (sym (held.counts 2 4 8) ∙ told_again e.modifiers modifiers) in
        let number : Some (number_of side.side) ≡ e.button = ap (λ n. Some n) side.number ∙ sym named in
        let same : told_by (kind_at h) (code - 128) e.x e.y ≡ e =
        ap (λ v. v.2 e.x e.y) t
        ∙ ap₂ (λ m b. record { x = e.x; y = e.y; modifiers = m; buttons = record { 0 = 0 }; kind = kind_at h; button = b }) its number
        ∙ ap₂ (λ n k. record { x = e.x; y = e.y; modifiers = e.modifiers; buttons = record { 0 = n }; kind = k; button = e.button }) (sym down) (sym kind) in
        let text : sgr_text code e.x e.y (side_last (kind_at h)) ≡ bytes =
        ap₂ (λ n k. sgr_text n e.x e.y (side_last k)) (same_code side.coded (sym (held.counts 4 8 16))) (sym kind) ∙ cc (sent) in
        subst (IsReadAtOnce reading (Mouse e)) text
        (subst (λ d. IsReadAtOnce reading (Mouse d) (sgr_text code e.x e.y (side_last (kind_at h)))) same
        (side_report_means reading (kind_at h) code e.x e.y reads low high f g))
      where
        same_code : {n m k l : ℕ} → n ≡ m → k ≡ l → n + side_move (kind_at h) + k ≡ m + side_move e.kind + l
        same_code p q = cc (p, q, kind)

-- what a report of a side button tells
abbrev pub IsOfSide : MouseReport → Type 0
IsOfSide e = (h : Happens) × (low : ℕ) × (x : ℕ) × (y : ℕ) × (e ≡ side_report (kind_at h) low x y)

-- one of four numbers
number_there : (low : ℕ) → (code : ℕ) × (entry_at side_codes (8 + low % 4) ≡ Some code)
number_there low = go (low % 4) (omega arith)
  where
    go : (n : ℕ) → n < 4 → (code : ℕ) × (entry_at side_codes (8 + n) ≡ Some code)
    go zero h = (128, refl)
    go (suc zero) h = (129, refl)
    go (suc (suc zero)) h = (130, refl)
    go (suc (suc (suc zero))) h = (131, refl)
    go (suc (suc (suc (suc n)))) h = absurd (omega arith)

pub side_whole : (e : MouseReport) → IsOfSide e → (bytes : List ℕ) × (further_mouse_text e ≡ Some bytes)
unfolding further_mouse_text
side_whole e (h, low, x, y, is) =
    let n = number_there low in
    let report = side_report (kind_at h) low x y in
    (side_text report n.0, ap further_mouse_text is ∙ by_kind h n.0 n.1)
  where
    by_kind : (h : Happens) (code : ℕ) → entry_at side_codes (8 + low % 4) ≡ Some code
        → further_mouse_text (side_report (kind_at h) low x y) ≡ Some (side_text (side_report (kind_at h) low x y) code)
    by_kind pressed code found = rw (code_tells low, found) refl
    by_kind released code found = rw (code_tells low, found) refl
    by_kind dragged code found = rw (code_tells low, found) refl

-- each rule tells a side button

at_side : (told : ℕ → ℕ → ℕ → MouseReport) (first : ℕ) (code x y : Option ℕ) (e : MouseReport)
    → ((low x y : ℕ) → IsOfSide (told low x y)) → side_at told first code x y ≡ Some e → IsOfSide e
at_side told first (Some code) (Some x) (Some y) e each is =
    subst IsOfSide (let same : told (code - first) x y ≡ e = cc (is) in same) (each (code - first) x y)
at_side told first None x y e each is = absurd (cc (is))
at_side told first (Some code) None y e each is = absurd (cc (is))
at_side told first (Some code) (Some x) None e each is = absurd (cc (is))

fields_side : (told : ℕ → ℕ → ℕ → MouseReport) (first : ℕ) (fs : List (List ℕ)) (e : MouseReport)
    → ((low x y : ℕ) → IsOfSide (told low x y)) → side_of_fields told first fs ≡ Some e → IsOfSide e
fields_side told first [] e each is = absurd (cc (is))
fields_side told first (a ∷ []) e each is = absurd (cc (is))
fields_side told first (a ∷ b ∷ []) e each is = absurd (cc (is))
fields_side told first (a ∷ b ∷ c ∷ []) e each is =
    at_side told first (number_within 5 first (first + 63) a) (short_number b) (short_number c) e each is
fields_side told first (a ∷ b ∷ c ∷ d ∷ fs) e each is = absurd (cc (is))

held_each : (low x y : ℕ) → IsOfSide (side_held low x y)
held_each low x y = go (nat_le 32 low) refl
  where
    go : (b : Bool) → nat_le 32 low ≡ b → IsOfSide (side_held low x y)
    go true e = (dragged, low, x, y, rw e refl)
    go false e = (pressed, low, x, y, rw e refl)

released_each : (low x y : ℕ) → IsOfSide (side_report Release low x y)
released_each low x y = (released, low, x, y, refl)

before_side : (told : ℕ → ℕ → ℕ → MouseReport) (first : ℕ) (o : Option (List ℕ)) (e : MouseReport)
    → ((low x y : ℕ) → IsOfSide (told low x y)) → option_and_then (λ body. side_of_fields told first (fields body)) o ≡ Some e → IsOfSide e
before_side told first o e each is =
    option_and_then_some (λ body. side_of_fields told first (fields body)) o e is (λ body found side. fields_side told first (fields body) e each side)

-- the two ends of SGR's form
abbrev by_end : List ℕ → List (Option MouseReport)
by_end t =
    option_and_then (λ body. side_of_fields side_held 128 (fields body)) (before_end (77 ∷ []) t)
    ∷ option_and_then (λ body. side_of_fields (side_report Release) 128 (fields body)) (before_end (109 ∷ []) t) ∷ []

ended_side : (t : List ℕ) (e : MouseReport) → IsAmong (by_end t) e → IsOfSide e
ended_side t e (inl f) = before_side side_held 128 (before_end (77 ∷ []) t) e held_each f
ended_side t e (inr (inl f)) = before_side (side_report Release) 128 (before_end (109 ∷ []) t) e released_each f
ended_side t e (inr (inr f)) = absurd f

sgr_side : (s : List ℕ) (e : MouseReport) → sgr_side_button s ≡ Some e → IsOfSide e
unfolding sgr_side_button
sgr_side s e is =
    option_and_then_some (λ t. first_some (by_end t)) (after_start (60 ∷ []) s) e is (λ t found side. ended_side t e (among (by_end t) e side))

urxvt_side : (s : List ℕ) (e : MouseReport) → urxvt_side_button s ≡ Some e → IsOfSide e
unfolding urxvt_side_button
urxvt_side s e is = before_side side_held 160 (before_end (77 ∷ []) s) e held_each is

x10_side : (s : List ℕ) (e : MouseReport) → x10_side_button s ≡ Some e → IsOfSide e
unfolding x10_side_button
x10_side [] e is = absurd (cc (is))
x10_side (a ∷ []) e is = absurd (cc (is))
x10_side (a ∷ b ∷ []) e is = absurd (cc (is))
x10_side (a ∷ b ∷ x ∷ []) e is = absurd (cc (is))
x10_side (a ∷ b ∷ x ∷ y ∷ []) e is = go ((a == 77) && nat_le 160 b && nat_le b 223 && nat_le 32 x && nat_le 32 y) is
  where
    go : (v : Bool) → (if v then Some (side_held (b - 160) (x - 32) (y - 32)) else None) ≡ Some e → IsOfSide e
    go true h = subst IsOfSide (let same : side_held (b - 160) (x - 32) (y - 32) ≡ e = cc (h) in same) (held_each (b - 160) (x - 32) (y - 32))
    go false h = absurd (cc (h))
x10_side (a ∷ b ∷ x ∷ y ∷ z ∷ s) e is = absurd (cc (is))

pub side_told : (s : List ℕ) (e : MouseReport) → side_button s ≡ Some e → IsOfSide e
unfolding side_button
side_told s e is = go (among (sgr_side_button s ∷ urxvt_side_button s ∷ x10_side_button s ∷ []) e is)
  where
    go : IsAmong (sgr_side_button s ∷ urxvt_side_button s ∷ x10_side_button s ∷ []) e → IsOfSide e
    go (inl f) = sgr_side s e f
    go (inr (inl f)) = urxvt_side s e f
    go (inr (inr (inl f))) = x10_side s e f
    go (inr (inr (inr f))) = absurd f
