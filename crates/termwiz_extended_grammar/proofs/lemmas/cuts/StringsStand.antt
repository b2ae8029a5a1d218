-- A string is its events, whatever stands before it and however long it is.
use Rattle.std.proofs.Common.{◌≡◌, inr, ⊎_elim, ℕ, zero, suc, ◌-◌, ◌<◌, ◌≤◌, Bool, List, [], ◌∷◌, ◌++◌, length, map, refl, sym, ap, ◌∙◌, subst, append_assoc, append-nil, arith, length-append}
use Rattle.std.specs.List.{AllByRecursion, concat}
use Rattle.std.proofs.lemmas.Bool.{cases_lt}
use Rattle.termwiz_keymap.proofs.lemmas.lists.CommonPrefixes.{true_at_front, true_at_end}
use Rattle.termwiz_keys.specs.Introducers.{ESC}
use Rattle.termwiz_grammar.specs.Laws.{IsHeldEscape}
use Rattle.termwiz_extended_events.specs.declared.types.Event.{Event}
use Rattle.termwiz_extended_events.specs.declared.types.Event.TheVariants.{Key, Mouse, Paste, FocusGained, FocusLost, CursorPosition, Resized, KeyboardFlags, Csi, Osc as OscEvent, Dcs as DcsEvent, Apc as ApcEvent, StringPart, StringCut}
use Rattle.termwiz_extended_events.specs.declared.types.Reading.{Reading}
use Rattle.termwiz_extended_events.specs.declared.types.StringKind.{StringKind}
use Rattle.termwiz_extended_events.specs.declared.types.StringKind.TheVariants.{Osc, Dcs, Apc}
use Rattle.termwiz_extended_events.specs.Meanings.{whole_string}
use Rattle.termwiz_extended_grammar.specs.Forms.{introducer, IsData, most_string}
use Rattle.termwiz_extended_grammar.specs.Readings.{ReadsMore, after_event, after_events}
use Rattle.termwiz_extended_grammar.specs.Strings.{IsHead, IsString, string_length, Ends, StartsWithOpening}
use Rattle.termwiz_extended_grammar.specs.Strings.Ends.{ended, cut, cut_by_two, flushed}
use Rattle.termwiz_extended_grammar.specs.Strings.Comes.{part, last}
use Rattle.termwiz_extended_grammar.specs.ExtendedGrammar.{IsRest, Steps}
use Rattle.termwiz_extended_grammar.specs.ExtendedGrammar.Stands.{string}
use Rattle.termwiz_extended_grammar.specs.ExtendedLaws.{StringStands, Closes}
use Rattle.termwiz_extended_grammar.specs.ExtendedLaws.Closes.{by_end, by_cut, by_two, by_flush}
use Rattle.termwiz_extended_grammar.proofs.lemmas.forms.FormOrNot.{opening_length}
use Rattle.termwiz_extended_grammar.proofs.lemmas.items.StringRests.{parted}
use Rattle.termwiz_extended_grammar.proofs.lemmas.cuts.ExtendedCuts.{after_both, join_steps}
use Rattle.termwiz_extended_grammar.proofs.lemmas.cuts.SequencesStand.{flushed_before}

-- data that are parted, before what closes them
parted_text : (d a b z S : List ℕ) → d ≡ a ++ b → d ++ z ++ S ≡ a ++ (b ++ z ++ S)
parted_text d a b z S e = ap (λ y. y ++ z ++ S) e ∙ ap (λ y. y ++ S) (append_assoc a b z) ∙ append_assoc a (b ++ z) S

one_more_part : (d a b parts end : List ℕ) → parts ++ end ≡ b → d ≡ a ++ b → a ++ parts ++ end ≡ d
one_more_part d a b parts end e f = append_assoc a parts end ∙ ap (λ y. a ++ y) e ∙ sym f

-- what closes a string ends it
closes_ends : (kind : StringKind) (bytes z S : List ℕ) (event : List ℕ → Event) (f : Bool) → Closes kind z S f event
    → Ends kind bytes (z ++ S) f S (event bytes)
closes_ends kind bytes z S event f (by_end is) = ended z S is refl
closes_ends kind bytes z S event f (by_cut b r none e n m) =
    subst (λ y. Ends kind bytes (z ++ S) f y (StringCut kind bytes)) (sym e) (cut b r (ap (λ y. y ++ S) none ∙ e) n m)
closes_ends kind bytes z S event f (by_two r single e) =
    subst (λ y. Ends kind bytes (z ++ S) f y (StringCut kind bytes)) (sym e)
    (cut_by_two r (ap (λ y. y ++ S) single ∙ ap (λ y. ESC ++ y) e))
closes_ends kind bytes z S event f (by_flush held none no_more) =
    subst (λ y. Ends kind bytes (z ++ S) f y (StringCut kind bytes)) (sym none)
    (flushed (subst IsHeldEscape (sym (ap (λ y. z ++ y) none ∙ append-nil z)) held) no_more)

-- the last event of a string leaves the reading as it is
whole_leaves : (reading : Reading) (kind : StringKind) (bytes : List ℕ) → after_event reading (whole_string kind bytes) ≡ reading
whole_leaves reading Osc bytes = refl
whole_leaves reading Dcs bytes = refl
whole_leaves reading Apc bytes = refl

last_leaves : (reading : Reading) (kind : StringKind) (bytes z S : List ℕ) (event : List ℕ → Event) (f : Bool) → Closes kind z S f event
    → after_event reading (event bytes) ≡ reading
last_leaves reading kind bytes z S event f (by_end is) = whole_leaves reading kind bytes
last_leaves reading kind bytes z S event f (by_cut b r none e n m) = refl
last_leaves reading kind bytes z S event f (by_two r single e) = refl
last_leaves reading kind bytes z S event f (by_flush held none no_more) = refl

-- and so do its parts
parts_leave : (reading : Reading) (kind : StringKind) (head : List ℕ) (parts : List (List ℕ)) (D : List Event)
    → after_events reading (map (λ part. StringPart kind (head ++ part)) parts ++ D) ≡ after_events reading D
parts_leave reading kind head [] D = refl
parts_leave reading kind head (bytes ∷ parts) D = parts_leave reading kind head parts D

-- the events of a string, of which the data have at most n bytes
abbrev Strung : Reading → StringKind → List ℕ → List ℕ → List ℕ → List ℕ → List ℕ → List Event → (List ℕ → Event) → Bool → Type 0
Strung reading kind head d z S W D event f = (parts : List (List ℕ)) × (last : List ℕ) × (concat parts ++ last ≡ d)
    × Steps reading (introducer kind ++ head ++ (d ++ z ++ S)) f
    (map (λ part. StringPart kind (head ++ part)) parts ++ event (head ++ last) ∷ D) W

module _ (reading : Reading) (kind : StringKind) (head z S W : List ℕ) (D : List Event) (event : List ℕ → Event) (f : Bool)
    (reads : ReadsMore reading) (is : IsHead kind head) (closes : Closes kind z S f event) (after : Steps reading S f D W) where
  -- data that are short
  short_string : (d : List ℕ) → AllByRecursion (IsData kind) d → string_length kind head d < most_string
      → Strung reading kind head d z S W D event f
  short_string d each short =
      let it : IsString (introducer kind ++ head ++ (d ++ z ++ S)) kind head d (z ++ S) = record {
        is_head = is;
        each = each;
        splits = ap (λ y. introducer kind ++ head ++ y) (append_assoc d z S);
      } in (
        [],
        d,
        refl,
        (
          S,
          string kind head d (z ++ S) S (event (head ++ d)) reads it
              (last S (event (head ++ d)) short (closes_ends kind (head ++ d) z S event f closes)),
          subst (λ r. Steps r S f D W) (sym (last_leaves reading kind (head ++ d) z S event f closes)) after,
        ),
      )

  strung : (n : ℕ) (d : List ℕ) → length d ≤ n → AllByRecursion (IsData kind) d → Strung reading kind head d z S W D event f
  strung zero [] l each = short_string [] each (
      let o : length (introducer kind ++ head) ≤ 255 = opening_length kind head is in
      omega (arith, length-append (introducer kind ++ head) [])
      )
  strung zero (x ∷ d) l each = absurd (omega arith)
  strung (suc n) d l each = ⊎_elim
      (λ (short : string_length kind head d < most_string). short_string d each short)
      (λ (full : most_string ≤ string_length kind head d). long full (λ t m all. strung n t m all))
      (cases_lt (string_length kind head d) most_string)
    where
      long : most_string ≤ string_length kind head d
          → ((t : List ℕ) → length t ≤ n → AllByRecursion (IsData kind) t → Strung reading kind head t z S W D event f)
          → Strung reading kind head d z S W D event f
      long full below =
          let o : length (introducer kind ++ head) ≤ 255 = opening_length kind head is in
          let p = parted (most_string - length (introducer kind ++ head)) d (omega (arith, length-append (introducer kind ++ head) d)) in
          let both = subst (AllByRecursion (IsData kind)) p.2 each in
          let rest = below p.1 (omega (arith, p.3, ap length p.2, length-append p.0 p.1)) (true_at_end (IsData kind) p.0 p.1 both) in
          let it : IsString (introducer kind ++ head ++ (d ++ z ++ S)) kind head p.0 (p.1 ++ z ++ S) = record {
            is_head = is;
            each = true_at_front (IsData kind) p.0 p.1 both;
            splits = ap (λ y. introducer kind ++ head ++ y) (parted_text d p.0 p.1 z S p.2);
          } in (
            p.0 ∷ rest.0,
            rest.1,
            one_more_part d p.0 p.1 (concat rest.0) rest.1 rest.2 p.2,
            (
              introducer kind ++ head ++ (p.1 ++ z ++ S),
              string kind head p.0 (p.1 ++ z ++ S) (introducer kind ++ head ++ (p.1 ++ z ++ S)) (StringPart kind (head ++ p.0)) reads it
                  (part (omega (arith, p.3, length-append (introducer kind ++ head) p.0))),
              rest.3,
            ),
          )

-- events leave the grammar as it is
dialect_after : (reading : Reading) (event : Event) → (after_event reading event).dialect ≡ reading.dialect
dialect_after reading (Key report) = refl
dialect_after reading (Mouse report) = refl
dialect_after reading (Paste text) = refl
dialect_after reading FocusGained = refl
dialect_after reading FocusLost = refl
dialect_after reading (CursorPosition row column) = refl
dialect_after reading (Resized rows columns height width) = refl
dialect_after reading (KeyboardFlags flags) = refl
dialect_after reading (Csi bytes) = refl
dialect_after reading (OscEvent bytes) = refl
dialect_after reading (DcsEvent bytes) = refl
dialect_after reading (ApcEvent bytes) = refl
dialect_after reading (StringPart kind bytes) = refl
dialect_after reading (StringCut kind bytes) = refl

pub dialect_stays : (reading : Reading) (E : List Event) → (after_events reading E).dialect ≡ reading.dialect
dialect_stays reading [] = refl
dialect_stays reading (event ∷ E) = dialect_stays (after_event reading event) E ∙ dialect_after reading event

pub string_stands : StringStands
string_stands reading kind T head d z S W E D event f reads before is each closes after =
    let next = after_events reading E in
    let may : ReadsMore next = dialect_stays reading E ∙ reads in
    let text = introducer kind ++ head ++ (d ++ z ++ S) in
    let s = strung next kind head z S W D event f may is closes after.steps (length d) d (omega arith) each in
    let parts = map (λ part. StringPart kind (head ++ part)) s.0 in
    let more = parts ++ event (head ++ s.1) ∷ D in
    let opening : StartsWithOpening text = record { kind = kind; head = head; is_head = is; begins = (d ++ z ++ S, refl) } in
    let first = flushed_before reading T text E f (inr (may, opening)) (λ left steps. inr (dialect_stays reading left ∙ reads, opening)) before.steps in
    let same : after_events next more ≡ after_events next D =
    parts_leave next kind head s.0 (event (head ++ s.1) ∷ D)
    ∙ ap (λ r. after_events r D) (last_leaves next kind (head ++ s.1) z S event f closes) in
    let all : E ++ parts ++ event (head ++ s.1) ∷ D ≡ E ++ more = append_assoc E parts (event (head ++ s.1) ∷ D) in (
      s.0,
      s.1,
      s.2,
      record {
        steps = subst (λ y. Steps reading (T ++ text) f y W) (sym all) (join_steps reading E more (T ++ text) text W f first s.3);
        rest = subst (λ y. IsRest (after_events reading y) W f) (sym all)
            (subst (λ r. IsRest r W f) (sym (after_both reading E more ∙ same)) after.rest);
      },
    )
