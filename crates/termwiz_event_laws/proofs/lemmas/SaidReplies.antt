-- Replies that are written say what was replied.
use Rattle.std.proofs.Common.{◌≡◌, ◌≢◌, ℕ, ◌-◌, ◌<◌, Bool, true, false, List, [], ◌∷◌, ◌++◌, length, refl, sym, ap, ◌∙◌, arith, append_assoc, append-nil, length-append, decimal, Some, None}
use Rattle.std.specs.Prelude.{◌==◌, bytes_eq, codes, flat_map, option_map}
use Rattle.std.specs.Fmt.{digits}
use Rattle.std.specs.List.{AllByRecursion}
use Rattle.std.proofs.Math.Seq.{drop-append_seam}
use Rattle.std.proofs.lemmas.Bool.Decides.{nat_tests}
use Rattle.std.proofs.lemmas.Slice.Eq.{bytes_eq-Decides}
use Rattle.termwiz_extended_events.specs.declared.types.Event.TheVariants.{Csi}
use Rattle.termwiz_extended_events.specs.declared.reply_types.Reply.TheVariants as reply
use Rattle.termwiz_extended_events.specs.declared.reply_types.DeviceAttributes.TheVariants.{Primary}
use Rattle.termwiz_extended_events.specs.Numbers.{after_start, before_end, fields, number_within}
use Rattle.termwiz_extended_events.specs.ReplyValues.{reply_number, optional_number, numbers_there, primary_numbers, primary_attributes, secondary_attributes, mode_report, window_size, colour_scheme, csi_reply}
use Rattle.termwiz_kitty.proofs.lemmas.read_back.Decimals.{number_decimal}
use Rattle.termwiz_kitty.proofs.lemmas.read_back.FieldSplits.{before_end_here, before_other_end, more_fields, one_field}
use Rattle.termwiz_senders.specs.EventTexts.{attributes_text, further_number, numbers_parted}
use Rattle.termwiz_senders.proofs.lemmas.WrittenNumbers.{digits_of, field_of}
use Rattle.termwiz_event_laws.specs.EventLaws.{IsWord}
use Rattle.termwiz_event_laws.specs.ReplyLaws.{AttributesUnderstood, PositionsUnderstood, SchemesUnderstood, SomeAttributes, said_of_attributes}
use Rattle.termwiz_event_laws.proofs.lemmas.OtherReplies.{attributes_read_back, schemes_read_back}
use Rattle.termwiz_event_laws.proofs.lemmas.RepliesReadBack.{positions_read_back}
use Rattle.termwiz_event_laws.proofs.lemmas.UnreadEnds.{and_false}

-- The numbers that semicolons part are fields, each a number.
abbrev written_fields : List ℕ → List (List ℕ)
written_fields [] = []
written_fields (n ∷ ns) = decimal n ∷ written_fields ns

parted_fields : (n : ℕ) (ns : List ℕ) → IsWord n → AllByRecursion IsWord ns
    → fields (decimal n ++ flat_map further_number ns) ≡ decimal n ∷ written_fields ns
parted_fields n [] h a = ap fields (append-nil (decimal n)) ∙ one_field (decimal n) (field_of n h)
parted_fields n (m ∷ ms) h a =
    more_fields (decimal n) (decimal m ++ flat_map further_number ms) (field_of n h) ∙ ap (λ t. decimal n ∷ t) (parted_fields m ms a.0 a.1)

number_said : (n : ℕ) → IsWord n → reply_number (decimal n) ≡ Some n
number_said n h = number_decimal 0 9999999 n (omega arith) (omega arith) (omega arith)

-- digits aren't missing
there : (ds : List ℕ) → 0 < length ds → optional_number ds ≡ option_map (λ n. Some n) (reply_number ds)
unfolding optional_number
there [] some = absurd (omega arith)
there (d ∷ ds) some = refl

optional_said : (n : ℕ) → IsWord n → optional_number (decimal n) ≡ Some (Some n)
optional_said n h = there (decimal n) (digits_of n h).some ∙ ap (option_map (λ m. Some m)) (number_said n h)

numbers_said : (ns : List ℕ) → AllByRecursion IsWord ns → numbers_there (written_fields ns) ≡ Some ns
numbers_said [] a = refl
numbers_said (n ∷ ns) a = rw (optional_said n a.0, numbers_said ns a.1) refl

primary_said : (n : ℕ) (ns : List ℕ) → IsWord n → AllByRecursion IsWord ns → primary_numbers (fields (numbers_parted (n ∷ ns))) ≡ Some (n ∷ ns)
primary_said n ns h a = rw (parted_fields n ns h a, number_said n h, numbers_said ns a) refl

-- What ends with c isn't the state of a mode, which ends with $y, nor the colours, which end with n.
no_pair : (front : List ℕ) (y last : ℕ) → last ≢ 121 → before_end (36 ∷ 121 ∷ []) (front ++ y ∷ last ∷ []) ≡ None
unfolding before_end
no_pair front y last other =
    let n : length (front ++ y ∷ last ∷ []) - 2 ≡ length front = omega (arith, length-append front (y ∷ last ∷ [])) in
    let differs : (last == 121) ≡ false = grind (arith, nat_tests) in
    rw (n, drop-append_seam front (y ∷ last ∷ []), differs, and_false (y == 36)) refl

no_mode : (front : List ℕ) (x last : ℕ) (body : List ℕ) → last ≢ 121
    → before_end (36 ∷ 121 ∷ []) (front ++ (x ∷ body ++ last ∷ [])) ≡ None
no_mode front x last [] other = no_pair front x last other
no_mode front x last (y ∷ body) other =
    ap (before_end (36 ∷ 121 ∷ [])) (sym (append_assoc front (x ∷ []) (y ∷ body ++ last ∷ []))) ∙ no_mode (front ++ x ∷ []) y last body other

other_text : (body text : List ℕ) → before_end (99 ∷ []) text ≡ None → bytes_eq (body ++ 99 ∷ []) text ≡ false
other_text body text none = go (bytes_eq (body ++ 99 ∷ []) text) refl
  where
    go : (b : Bool) → bytes_eq (body ++ 99 ∷ []) text ≡ b → b ≡ false
    go false e = refl
    go true e =
        let same : body ++ 99 ∷ [] ≡ text = (bytes_eq-Decides (body ++ 99 ∷ []) text).0 e in
        absurd (cc (sym (before_end_here body 99) ∙ ap (before_end (99 ∷ [])) same ∙ none))

module _ (body : List ℕ) where
  abbrev marked : List ℕ
  marked = 63 ∷ body ++ 99 ∷ []

  mode_not : mode_report marked ≡ None
  unfolding mode_report
  mode_not = rw (no_mode [] 63 99 body (λ h. omega (arith, h))) refl

  size_not : window_size marked ≡ None
  unfolding window_size
  size_not = rw (before_other_end (63 ∷ body) 99 116 (λ h. omega (arith, h))) refl

  colours_not : colour_scheme marked ≡ None
  unfolding colour_scheme before_end
  colours_not = rw (other_text (63 ∷ body) (codes "?997;1n") refl, other_text (63 ∷ body) (codes "?997;2n") refl) refl

  primary_is : primary_attributes marked ≡ option_map (reply.DeviceAttributes Primary) (primary_numbers (fields body))
  unfolding primary_attributes after_start
  primary_is = rw (before_end_here (63 ∷ body) 99) refl

-- so only the attributes read it
said_by_numbers : (n : ℕ) (ns : List ℕ) → IsWord n → AllByRecursion IsWord ns
    → csi_reply (marked (numbers_parted (n ∷ ns))) ≡ Some (reply.DeviceAttributes Primary (n ∷ ns))
unfolding csi_reply
said_by_numbers n ns h a =
    let body = numbers_parted (n ∷ ns) in rw (mode_not body, size_not body, colours_not body, primary_is body, primary_said n ns h a) refl

no_number_said : csi_reply (marked []) ≡ None
unfolding csi_reply mode_report window_size colour_scheme primary_attributes secondary_attributes before_end after_start number_within
no_number_said = refl

attributes_said : (ns : List ℕ) → AllByRecursion IsWord ns → csi_reply (marked (numbers_parted ns)) ≡ said_of_attributes ns
attributes_said [] a = no_number_said
attributes_said (n ∷ ns) a = said_by_numbers n ns a.0 a.1

pub attributes_understood : AttributesUnderstood
unfolding attributes_text
attributes_understood reading ns reads a short = (
  Csi (marked (numbers_parted ns)),
  attributes_read_back reading ns (marked (numbers_parted ns)) reads a refl short,
  attributes_said ns a,
)

pub some_attributes : SomeAttributes
unfolding attributes_text digits
some_attributes reading reads =
    let short : length (attributes_text (62 ∷ 22 ∷ [])) ≡ 9 = refl in
    attributes_understood reading (62 ∷ 22 ∷ []) reads (omega arith, (omega arith, tt)) (omega (arith, short))

pub schemes_understood : SchemesUnderstood
unfolding csi_reply mode_report window_size colour_scheme before_end
schemes_understood reading true reads = (Csi (codes "?997;1n"), schemes_read_back reading true (codes "?997;1n") reads refl, refl)
schemes_understood reading false reads = (Csi (codes "?997;2n"), schemes_read_back reading false (codes "?997;2n") reads refl, refl)

pub positions_understood : PositionsUnderstood
positions_understood reading row column true reads above beside may = (positions_read_back reading row column reads above beside).0
positions_understood reading row column false reads above beside may = (positions_read_back reading row column reads above beside).1.0 (may refl)
