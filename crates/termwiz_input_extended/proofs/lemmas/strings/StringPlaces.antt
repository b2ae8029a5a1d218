-- Places in a string: its opening, where its data stop, and what is consumed.
use Rattle.std.proofs.Common.{◌≡◌, ◌≢◌, ◌⊎◌, inl, inr, ⊎_elim, ℕ, ◌+◌, ◌-◌, ◌<◌, ◌≤◌, Bool, true, false, List, [], ◌∷◌, ◌++◌, length, take, drop, get_or, refl, sym, ap, ◌∙◌, subst, arith, length-append, length-take-le, length-drop, take-append-drop, get_or-drop, min, max}
use Rattle.std.specs.List.{AllByRecursion}
use Rattle.std.proofs.lemmas.List.{take_rest, take_at, drop_at, drop-drop, take-take, take-append-le, drop_all, get_or-take}
use Rattle.std.proofs.lemmas.Bool.{cases_lt}
use Rattle.std.proofs.Math.Seq.{take-add}
use Rattle.termwiz_keys.specs.Introducers.{ESC}
use Rattle.termwiz_grammar.specs.Laws.{IsHeldEscape}
use Rattle.termwiz_extended_events.specs.declared.types.Event.TheVariants.{StringCut}
use Rattle.termwiz_extended_events.specs.declared.types.StringKind.{StringKind}
use Rattle.termwiz_extended_events.specs.declared.types.StringKind.TheVariants.{Osc, Dcs, Apc}
use Rattle.termwiz_extended_grammar.specs.Forms.{introducer, IsData, IsStringEnd}
use Rattle.termwiz_extended_grammar.specs.Strings.{IsString, string_length, Ends, Comes}
use Rattle.termwiz_extended_grammar.specs.Strings.Ends.{ended, cut, cut_by_two, flushed}
use Rattle.termwiz_extended_grammar.specs.Strings.Comes.{part, last}
use Rattle.termwiz_extended_grammar.proofs.lemmas.forms.FormBytes.{all_append, introducer_shape, head_some}
use Rattle.termwiz_extended_grammar.proofs.lemmas.forms.FormOrNot.{opening_length}
use Rattle.termwiz_extended_grammar.proofs.lemmas.items.StringItems.{string_once}
use Rattle.termwiz_keymap.proofs.lemmas.lists.CommonPrefixes.{length-some}
use Rattle.termwiz_input_extended.specs.declared.string.StringAt.TheVariants.{Item, Open}
use Rattle.termwiz_input_extended.specs.declared.string.StringManner.{StringManner}
use Rattle.termwiz_input_extended.specs.declared.string.StringManner.TheVariants.{Whole, Part, Cut}
use Rattle.termwiz_input_extended.specs.FormAnswers.{IsScanned}
use Rattle.termwiz_input_extended.specs.FormAnswers.IsScanned.{at_start, in_control, in_string}
use Rattle.termwiz_input_extended.specs.StringAnswers.{IsOpeningOf, IsStringAt, string_event}
use Rattle.termwiz_input_extended.proofs.lemmas.forms.FrontAnswers.{true_of_first}

-- what comes before an opening's end, and after it
before_end : (u : List ℕ) (kind : StringKind) (o : ℕ) (op : IsOpeningOf u kind o) → take o u ≡ introducer kind ++ op.head
before_end u kind o op = ap (take o) op.begins.1 ∙ take_at (introducer kind ++ op.head) op.begins.0 o (sym op.len_is)

after_end : (u : List ℕ) (kind : StringKind) (o : ℕ) (op : IsOpeningOf u kind o) → drop o u ≡ op.begins.0
after_end u kind o op = ap (drop o) op.begins.1 ∙ drop_at (introducer kind ++ op.head) op.begins.0 o (sym op.len_is)

whole_is : (u : List ℕ) (kind : StringKind) (o : ℕ) (op : IsOpeningOf u kind o) → u ≡ introducer kind ++ op.head ++ drop o u
whole_is u kind o op = op.begins.1 ∙ ap (λ z. introducer kind ++ op.head ++ z) (sym (after_end u kind o op))

pub opening_fits : (u : List ℕ) (kind : StringKind) (o : ℕ) → IsOpeningOf u kind o → (3 ≤ o) × (o ≤ 255) × (o ≤ length u)
opening_fits u kind o op = (
  omega (arith, op.len_is, two_more kind op.head, length-some op.head (head_some kind op.head op.is_head)),
  omega (arith, op.len_is, opening_length kind op.head op.is_head),
  omega (arith, op.len_is, ap length op.begins.1, length-append (introducer kind ++ op.head) op.begins.0),
)
  where
    two_more : (kind : StringKind) (head : List ℕ) → length (introducer kind ++ head) ≡ 2 + length head
    two_more Osc head = omega arith
    two_more Dcs head = omega arith
    two_more Apc head = omega arith

-- the data up to a place
pub record Reaches (u : List ℕ) (kind : StringKind) (o e : ℕ) : Type 0 where
  pub opening : IsOpeningOf u kind o
  pub from : o ≤ e
  pub upto : e ≤ length u
  pub each : AllByRecursion (IsData kind) (take (e - o) (drop o u))

string_here : (u : List ℕ) (kind : StringKind) (o e : ℕ) (s : Reaches u kind o e)
    → IsString u kind s.opening.head (take (e - o) (drop o u)) (drop e u)
string_here u kind o e s = record {
  is_head = s.opening.is_head;
  each = s.each;
  splits = whole_is u kind o s.opening ∙ ap (λ z. introducer kind ++ s.opening.head ++ z)
      (sym (take-append-drop (e - o) (drop o u)) ∙ ap (λ z. take (e - o) (drop o u) ++ z)
      (drop-drop (e - o) o u ∙ ap (λ k. drop k u) (omega (arith, s.from))));
}

string_size : (u : List ℕ) (kind : StringKind) (o e : ℕ) (s : Reaches u kind o e)
    → string_length kind s.opening.head (take (e - o) (drop o u)) ≡ e
string_size u kind o e s = omega (
  arith,
  s.opening.len_is,
  s.from,
  s.upto,
  length-append (introducer kind ++ s.opening.head) (take (e - o) (drop o u)),
  length-take-le (e - o) (drop o u) (omega (arith, s.from, s.upto, length-drop o u)),
)

-- the bytes after the introducer and before that place
string_bytes_are : (u : List ℕ) (kind : StringKind) (o e : ℕ) (s : Reaches u kind o e)
    → drop 2 (take e u) ≡ s.opening.head ++ take (e - o) (drop o u)
string_bytes_are u kind o e s = ap (drop 2) front ∙ introduced kind s.opening.head (take (e - o) (drop o u))
  where
    front : take e u ≡ introducer kind ++ s.opening.head ++ take (e - o) (drop o u)
    front = ap (λ k. take k u) (omega (arith, s.from)) ∙ take-add o (e - o) u
        ∙ ap (λ z. z ++ take (e - o) (drop o u)) (before_end u kind o s.opening)

    introduced : (kind : StringKind) (head bytes : List ℕ) → drop 2 (introducer kind ++ head ++ bytes) ≡ head ++ bytes
    introduced Osc head bytes = refl
    introduced Dcs head bytes = refl
    introduced Apc head bytes = refl

item_here : (u : List ℕ) (more : Bool) (kind : StringKind) (manner : StringManner) (o e kept taken : ℕ) (left : List ℕ)
    → (s : Reaches u kind o e) → kept ≤ taken → taken ≤ length u → take kept u ++ drop taken u ≡ left
    → Comes kind s.opening.head (take (e - o) (drop o u)) (drop e u) more left
    (string_event manner kind (s.opening.head ++ take (e - o) (drop o u)))
    → IsStringAt u more (Item (record { kind = kind; manner = manner; end = e; kept = kept; taken = taken }))
item_here u more kind manner o e kept taken left s order within is comes = record {
  head = s.opening.head;
  bytes = take (e - o) (drop o u);
  after = drop e u;
  is_string = string_here u kind o e s;
  introduced = omega (arith, (opening_fits u kind o s.opening).0, s.from);
  ends = s.upto;
  in_order = order;
  within = within;
  bytes_are = string_bytes_are u kind o e s;
  comes = subst (λ z. Comes kind s.opening.head (take (e - o) (drop o u)) (drop e u) more z
      (string_event manner kind (s.opening.head ++ take (e - o) (drop o u)))) (sym is) comes;
}

pub part_here : (u : List ℕ) (more : Bool) (kind : StringKind) (o e : ℕ) → Reaches u kind o e → e ≡ 65535
    → IsStringAt u more (Item (record { kind = kind; manner = Part; end = e; kept = o; taken = e }))
part_here u more kind o e s full = item_here u more kind Part o e o e (introducer kind ++ s.opening.head ++ drop e u) s s.from s.upto
    (ap (λ z. z ++ drop e u) (before_end u kind o s.opening)) (part (string_size u kind o e s ∙ full))

-- the end of a string
ends_here : (u : List ℕ) (more : Bool) (kind : StringKind) (manner : StringManner) (o e taken : ℕ) → (s : Reaches u kind o e)
    → e < 65535 → taken ≤ length u
    → ((bytes : List ℕ) → Ends kind bytes (drop e u) more (drop taken u) (string_event manner kind bytes))
    → IsStringAt u more (Item (record { kind = kind; manner = manner; end = e; kept = 0; taken = taken }))
ends_here u more kind manner o e taken s short within ends =
    item_here u more kind manner o e 0 taken (drop taken u) s (omega arith) within refl
    (last (drop taken u) (string_event manner kind (s.opening.head ++ take (e - o) (drop o u))) (omega (arith, string_size u kind o e s))
    (ends (s.opening.head ++ take (e - o) (drop o u))))

pub whole_here : (u : List ℕ) (more : Bool) (kind : StringKind) (o e n : ℕ) → Reaches u kind o e → e < 65535
    → n ≤ length (take (length u - e) (drop e u)) → IsStringEnd kind (take n (take (length u - e) (drop e u)))
    → IsStringAt u more (Item (record { kind = kind; manner = Whole; end = e; kept = 0; taken = e + n }))
whole_here u more kind o e n s short fits end_is = ends_here u more kind Whole o e (e + n) s short
    (omega (arith, s.upto, ap length (take_rest u e), length-drop e u))
    (λ bytes. ended (take n (drop e u)) (drop (e + n) u) (subst (λ z. IsStringEnd kind (take n z)) (take_rest u e) end_is)
    (sym (take-append-drop n (drop e u)) ∙ ap (λ z. take n (drop e u) ++ z) (drop-drop n e u)))

pub cut_here : (u left : List ℕ) (more : Bool) (kind : StringKind) (o e b : ℕ) → Reaches u kind o e → e < 65535
    → take (length u - e) (drop e u) ≡ ESC ++ b ∷ left → b ≢ 27 → b ≢ 92
    → IsStringAt u more (Item (record { kind = kind; manner = Cut; end = e; kept = 0; taken = e }))
cut_here u left more kind o e b s short is n m =
    let rest : drop e u ≡ ESC ++ b ∷ left = sym (take_rest u e) ∙ is in
    ends_here u more kind Cut o e e s short s.upto
    (λ bytes. subst (λ z. Ends kind bytes (drop e u) more z (StringCut kind bytes)) (sym rest) (cut b left rest n m))

pub cut_by_two_here : (u left : List ℕ) (more : Bool) (kind : StringKind) (o e : ℕ) → Reaches u kind o e → e < 65535
    → take (length u - e) (drop e u) ≡ ESC ++ ESC ++ left
    → IsStringAt u more (Item (record { kind = kind; manner = Cut; end = e; kept = 0; taken = e + 1 }))
cut_by_two_here u left more kind o e s short is =
    let rest : drop e u ≡ ESC ++ ESC ++ left = sym (take_rest u e) ∙ is in
    let later : drop (e + 1) u ≡ ESC ++ left = sym (drop-drop 1 e u) ∙ ap (drop 1) rest in
    ends_here u more kind Cut o e (e + 1) s short (omega (arith, ap length rest, length-drop e u))
    (λ bytes. subst (λ z. Ends kind bytes (drop e u) more z (StringCut kind bytes)) (sym later) (cut_by_two left rest))

pub flushed_here : (u : List ℕ) (more : Bool) (kind : StringKind) (o e : ℕ) → Reaches u kind o e → e < 65535
    → IsHeldEscape (take (length u - e) (drop e u)) → more ≡ false
    → IsStringAt u more (Item (record { kind = kind; manner = Cut; end = e; kept = 0; taken = length u }))
flushed_here u more kind o e s short held none =
    ends_here u more kind Cut o e (length u) s short (omega arith)
    (λ bytes. subst (λ z. Ends kind bytes (drop e u) more z (StringCut kind bytes)) (sym (drop_all (length u) u (omega arith)))
    (flushed (subst IsHeldEscape (take_rest u e) held) none))

pub open_here : (u : List ℕ) (more : Bool) (kind : StringKind) (o e : ℕ) → Reaches u kind o e → e < 65535
    → IsHeldEscape (take (length u - e) (drop e u)) → more ≡ true → IsStringAt u more (Open e)
open_here u more kind o e s short held more_comes = (
  record {
    kind = kind;
    head = s.opening.head;
    bytes = take (e - o) (drop o u);
    held = drop e u;
    is_string = string_here u kind o e s;
    short = omega (arith, string_size u kind o e s);
    is_held = subst IsHeldEscape (take_rest u e) held;
  },
  more_comes,
  in_string kind s.opening.head (take (e - o) (drop o u)) (drop e u) (string_here u kind o e s) (omega (arith, string_size u kind o e s)),
  s.upto,
)

-- what was looked at before is data
seen : (u : List ℕ) (kind : StringKind) (o scanned f : ℕ) → IsOpeningOf u kind o → IsScanned u scanned → o ≤ f → (f ≤ scanned) ⊎ (f ≡ o)
    → AllByRecursion (IsData kind) (take (f - o) (drop o u))
seen u kind o scanned f op is from (inr e) = (
    let none : 0 ≡ f - o = omega arith in subst (λ n. AllByRecursion (IsData kind) (take n (drop o u))) none tt
    )
seen u kind o scanned f op (at_start l) from (inl below) = absurd (omega (arith, (opening_fits u kind o op).0))
seen u kind o scanned f op (in_control inner rest e each l) from (inl below) = absurd (
    let i = introducer_shape kind in
    let all : 27 ∷ 91 ∷ (inner ++ rest) ≡ 27 ∷ i.0 ∷ (op.head ++ op.begins.0) =
    sym e ∙ op.begins.1 ∙ ap (λ z. z ++ op.head ++ op.begins.0) i.1 in
    let same : i.0 ≡ 91 = cc (all) in
    omega (arith, i.2)
    )
seen u kind o scanned f op (in_string k head bytes after is l) from (inl below) =
    let here : IsString u kind op.head [] op.begins.0 = record { is_head = op.is_head; each = tt; splits = op.begins.1 } in
    let one = string_once u k kind head op.head bytes [] after op.begins.0 is here in
    let size : string_length k head bytes ≡ o + length bytes =
    length-append (introducer k ++ head) bytes ∙ ap (λ n. n + length bytes) (same_length one.0 one.1 ∙ sym op.len_is) in
    subst (λ z. AllByRecursion (IsData kind) (take (f - o) z)) (one.2 ∙ sym (after_end u kind o op))
    (subst (AllByRecursion (IsData kind)) (sym (take-append-le (f - o) bytes after (omega arith)))
    (true_of_first (IsData kind) bytes (f - o) (subst (λ z. AllByRecursion (IsData z) bytes) one.0 is.each)))
  where
    same_length : {k j : StringKind} {h g : List ℕ} → k ≡ j → h ≡ g → length (introducer k ++ h) ≡ length (introducer j ++ g)
    same_length {k} {j} {h} {g} e p = ap (λ z. length (introducer z ++ h)) e ∙ ap (λ z. length (introducer j ++ z)) p

-- and so are the bytes after it up to where data stop
pub reaches : (u : List ℕ) (kind : StringKind) (o scanned f m n : ℕ) → IsOpeningOf u kind o → IsScanned u scanned → o ≤ f
    → (f ≤ scanned) ⊎ (f ≡ o) → f + n ≤ m → m ≤ length u → AllByRecursion (IsData kind) (take n (take (m - f) (drop f u)))
    → Reaches u kind o (f + n)
reaches u kind o scanned f m n op is from before fits inside each = record {
  opening = op;
  from = omega arith;
  upto = omega arith;
  each = subst (AllByRecursion (IsData kind)) (sym joined) (all_append (IsData kind) (take (f - o) (drop o u)) (take n (drop f u))
      (seen u kind o scanned f op is from before)
      (subst (AllByRecursion (IsData kind)) (take-take n (m - f) (drop f u) (omega arith)) each));
}
  where
    joined : take (f + n - o) (drop o u) ≡ take (f - o) (drop o u) ++ take n (drop f u)
    joined = ap (λ k. take k (drop o u)) (omega arith) ∙ take-add (f - o) n (drop o u)
        ∙ ap (λ z. take (f - o) (drop o u) ++ take n z) (drop-drop (f - o) o u ∙ ap (λ k. drop k u) (omega arith))

-- The places of the search: it starts at `f`, the larger of the opening's length and `scanned`, ends at `m`, and meets data up to `n` on.
pub record Search (u : List ℕ) (o scanned m g f n : ℕ) : Type 0 where
  pub most : m ≡ min (length u) 65535
  pub larger : g ≡ max o scanned
  pub from : f ≡ min g m
  pub within : n ≤ length (take (m - f) (drop f u))

pub search_size : (u : List ℕ) (kind : StringKind) (o scanned m g f n : ℕ) → IsOpeningOf u kind o → Search u o scanned m g f n
    → (o ≤ f) × (f + n ≤ m) × (m ≤ length u) × (f ≤ m) × ((f ≤ scanned) ⊎ (f ≡ o)) × (length (take (m - f) (drop f u)) ≡ m - f)
search_size u kind o scanned m g f n op p =
    let fits = opening_fits u kind o op in
    let size : length (take (m - f) (drop f u)) ≡ m - f =
    length-take-le (m - f) (drop f u) (omega (arith, p.most, length-drop f u)) in (
      omega (arith, p.most, p.larger, p.from, fits),
      omega (arith, p.most, p.from, p.within, size),
      omega (arith, p.most),
      omega (arith, p.from),
      ⊎_elim (λ (l : o < scanned). inl (omega (arith, p.larger, p.from)))
          (λ (l : scanned ≤ o). inr (omega (arith, p.most, p.larger, p.from, fits)))
          (cases_lt o scanned),
      size,
    )

pub scanned_up_to : (u : List ℕ) (kind : StringKind) (o scanned m g f n : ℕ) → IsOpeningOf u kind o → IsScanned u scanned
    → Search u o scanned m g f n → AllByRecursion (IsData kind) (take n (take (m - f) (drop f u))) → Reaches u kind o (f + n)
scanned_up_to u kind o scanned m g f n op is p each =
    let z = search_size u kind o scanned m g f n op p in
    reaches u kind o scanned f m n op is z.0 z.4 z.1 z.2 each

pub below_limit : (u : List ℕ) (kind : StringKind) (o scanned m g f n : ℕ) → IsOpeningOf u kind o → Search u o scanned m g f n
    → f + n ≢ 65535 → f + n < 65535
below_limit u kind o scanned m g f n op p other =
    let z = search_size u kind o scanned m g f n op p in omega (arith, z.1, p.most, other)

-- where data stop before the limit, the rest begins with no data
pub stops_here : (u : List ℕ) (kind : StringKind) (o scanned m g f n : ℕ) → IsOpeningOf u kind o → Search u o scanned m g f n
    → (n < length (take (m - f) (drop f u)) → ¬ IsData kind (get_or (take (m - f) (drop f u)) n 0)) → f + n ≢ 65535
    → take (length u - (f + n)) (drop (f + n) u) ≢ [] → ¬ IsData kind (get_or (take (length u - (f + n)) (drop (f + n) u)) 0 0)
stops_here u kind o scanned m g f n op p stops other some d =
    let z = search_size u kind o scanned m g f n op p in
    let longer : 0 < length (drop (f + n) u) = length-some (drop (f + n) u) (λ h. some (take_rest u (f + n) ∙ h)) in
    let below : n < m - f = omega (arith, z.1, z.3, p.most, longer, other, length-drop (f + n) u) in
    let here : get_or (take (m - f) (drop f u)) n 0 ≡ get_or (drop (f + n) u) 0 0 =
    get_or-take (m - f) (drop f u) n 0 below ∙ get_or-drop f u n 0 ∙ ap (λ k. get_or u k 0) (omega arith)
    ∙ sym (get_or-drop (f + n) u 0 0) in
    stops (omega (arith, z.5, below)) (subst (IsData kind) (ap (λ t. get_or t 0 0) (take_rest u (f + n)) ∙ sym here) d)
