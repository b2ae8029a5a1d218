-- Parts that were taken of an open paste, and what is buffered of it then.
use Rattle.std.proofs.Common.{◌≡◌, ◌⊎◌, inl, inr, ℕ, Bool, false, List, [], ◌∷◌, ◌++◌, append_assoc, append-nil, refl, sym, ap, ◌∙◌, subst}
use Rattle.std.specs.Str.Lossy.{utf8_lossy}
use Rattle.termwiz_keymap.specs.Bytes.{Occurs}
use Rattle.termwiz_keys.specs.Introducers.{START, END}
use Rattle.termwiz_grammar.specs.PasteParts.{IsParted, IsTaken}
use Rattle.termwiz_grammar.proofs.lemmas.pastes.FirstEnd.{Ends as EndsAt, find_end}
use Rattle.termwiz_grammar.proofs.lemmas.pastes.FirstEnd.Ends.{ends, endless}
use Rattle.termwiz_laws.proofs.lemmas.paste_events.NoBorder.{free_of_end}
use Rattle.termwiz_extended_events.specs.declared.types.Event.{Event}
use Rattle.termwiz_extended_events.specs.declared.types.Event.TheVariants.{Paste}
use Rattle.termwiz_extended_events.specs.declared.types.Reading.{Reading}
use Rattle.termwiz_extended_grammar.specs.ExtendedGrammar.{IsRest, Means}
use Rattle.termwiz_extended_grammar.specs.ExtendedParts.{JoinsAtEnd, StayOpen}
use Rattle.termwiz_extended_grammar.proofs.lemmas.cuts.PartsOfPastes.{parts_join, paste_then}
use Rattle.termwiz_extended_grammar.proofs.lemmas.items.ExtendedRests.{empty_is_rest}
use Rattle.termwiz_timed.specs.Segments.{IsAsGoodAs}
use Rattle.termwiz_timed.specs.Segments.IsAsGoodAs.{same, in_parts}
use Rattle.termwiz_timed.proofs.lemmas.ReadsCut.{means_once, rest_means}

-- either the end of the paste came, or it didn't
abbrev pub JoinsOrStays : Reading → List ℕ → List ℕ → List ℕ → Bool → Type 0
JoinsOrStays reading parts whole text more = JoinsAtEnd reading whole text parts more ⊎ StayOpen reading whole text more

-- the end of an open paste comes
pub paste_at_end : (reading : Reading) (body : List ℕ) → ¬ Occurs END body
    → Means reading ((START ++ body) ++ END) false (Paste (utf8_lossy body) ∷ []) []
paste_at_end reading body free = subst (λ u. Means reading u false (Paste (utf8_lossy body) ∷ []) [])
    (ap (λ x. START ++ x) (append-nil (body ++ END)))
    (paste_then reading body [] [] [] false ((free_of_end body).1 free) (rest_means reading [] false (empty_is_rest reading false)))

-- what is taken of an open paste
pub taken_joins : (reading : Reading) (text decided held : List ℕ) → IsParted text decided held → (c : List ℕ) (more : Bool)
    → JoinsOrStays reading (utf8_lossy decided) (text ++ c) ((START ++ held) ++ c) more
taken_joins reading text decided held is c more = by_end (find_end (decided ++ held ++ c))
  where
    by_end : EndsAt (decided ++ held ++ c) → JoinsOrStays reading (utf8_lossy decided) (text ++ c) ((START ++ held) ++ c) more
    by_end (ends body rest e first) = inl ((parts_join reading text decided held c more is).0 (body, rest, e))
    by_end (endless none) = inr ((parts_join reading text decided held c more is).1 none)

module _ (reading : Reading) (more : Bool) (whole text left parts taken : List ℕ) where
  -- parts after parts
  joins_both : JoinsAtEnd reading whole text parts more → JoinsAtEnd reading text left taken more
      → JoinsAtEnd reading whole left (parts ++ taken) more
  joins_both one other = (
    (λ s E R. (
      λ means.
          let (first, e, at) = (one.0 s E R).0 means in
          let (second, f, then) = (other.0 first E R).0 at in
          (second, e ∙ ap (λ x. parts ++ x) f ∙ sym (append_assoc parts taken second), then),
      λ (later, e, means).
          (one.0 s E R).1 (taken ++ later, e ∙ append_assoc parts taken later, (other.0 (taken ++ later) E R).1 (later, refl, means)),
    )),
    other.1,
  )

  stays_both : StayOpen reading whole text more → StayOpen reading text left more → StayOpen reading whole left more
  stays_both one other = record {
    whole_waits = one.whole_waits;
    left_waits = other.left_waits;
    whole_open = one.whole_open;
    left_open = other.left_open;
  }

  not_stays : (at : List ℕ) (s : List ℕ) (E : List Event) (R : List ℕ) → Means reading at more (Paste s ∷ E) R
      → Means reading at more [] at → ⊥
  not_stays at s E R means waits = let no = (means_once reading at more (Paste s ∷ E) [] R at means waits).0 in cc (no)

  both : JoinsOrStays reading parts whole text more → JoinsOrStays reading taken text left more
      → JoinsOrStays reading (parts ++ taken) whole left more
  both (inl one) (inl other) = inl (joins_both one other)
  both (inr one) (inr other) = inr (stays_both one other)
  both (inl one) (inr other) = let (s, E, R, means) = one.1 in absurd (not_stays text s E R means other.whole_waits)
  both (inr one) (inl other) =
      let (s, E, R, means) = other.1 in
      absurd (not_stays text (taken ++ s) E R ((other.0 (taken ++ s) E R).1 (s, refl, means)) one.left_waits)

-- the same of equal texts
moved : (reading : Reading) (more : Bool) (p q w v t u : List ℕ) → p ≡ q → w ≡ v → t ≡ u → JoinsOrStays reading p w t more
    → JoinsOrStays reading q v u more
moved reading more p q w v t u parts whole text joins =
    subst (λ x. JoinsOrStays reading x v u more) parts
    (subst (λ x. JoinsOrStays reading p x u more) whole (subst (λ x. JoinsOrStays reading p w x more) text joins))

module _ (reading : Reading) (parts text whole : List ℕ) where
  -- bytes come
  pub grown : (bytes : List ℕ) → IsAsGoodAs reading parts text whole → IsAsGoodAs reading parts (text ++ bytes) (whole ++ bytes)
  grown bytes (same none e) = same none (ap (λ x. x ++ bytes) e)
  grown bytes (in_parts taken body at all joins) = in_parts taken (body ++ bytes) (ap (λ x. x ++ bytes) at)
      (ap (λ x. x ++ bytes) all ∙ ap (λ x. START ++ x) (append_assoc taken body bytes))
      (λ c more. subst (λ w. JoinsOrStays reading parts w ((text ++ bytes) ++ c) more) (sym (append_assoc whole bytes c))
      (subst (λ t. JoinsOrStays reading parts (whole ++ (bytes ++ c)) t more) (sym (append_assoc text bytes c)) (joins (bytes ++ c) more)))

  -- a part is taken
  pub part_taken : (limit : ℕ) (taken left : List ℕ) → IsTaken text limit taken left → IsAsGoodAs reading parts text whole
      → IsAsGoodAs reading (parts ++ taken) left whole
  part_taken limit taken left is (same none e) = in_parts is.decided is.held is.leaves (sym e ∙ is.parted.splits)
      (λ c more. moved reading more (utf8_lossy is.decided) (parts ++ taken) (text ++ c) (whole ++ c) ((START ++ is.held) ++ c) (left ++ c)
      (sym (ap (λ x. x ++ taken) none ∙ is.its_text)) (ap (λ x. x ++ c) e) (ap (λ x. x ++ c) (sym is.leaves))
      (taken_joins reading text is.decided is.held is.parted c more))
  part_taken limit taken left is (in_parts before body at all joins) =
      let rest : body ≡ is.decided ++ is.held = cc (at, is.parted.splits) in
      in_parts (before ++ is.decided) is.held is.leaves
      (all ∙ ap (λ x. START ++ (before ++ x)) rest ∙ ap (λ x. START ++ x) (sym (append_assoc before is.decided is.held)))
      (λ c more. both reading more (whole ++ c) (text ++ c) (left ++ c) parts taken (joins c more)
      (moved reading more (utf8_lossy is.decided) taken (text ++ c) (text ++ c) ((START ++ is.held) ++ c) (left ++ c)
      (sym is.its_text) refl (ap (λ x. x ++ c) (sym is.leaves)) (taken_joins reading text is.decided is.held is.parted c more)))

-- now, with no bytes more
pub joins_now : (reading : Reading) (parts whole text : List ℕ) (more : Bool) → JoinsOrStays reading parts (whole ++ []) (text ++ []) more
    → JoinsOrStays reading parts whole text more
joins_now reading parts whole text more joins = subst (λ w. JoinsOrStays reading parts w text more) (append-nil whole)
    (subst (λ t. JoinsOrStays reading parts (whole ++ []) t more) (append-nil text) joins)

module _ (reading : Reading) (parts whole text : List ℕ) (more : Bool) (joins : JoinsOrStays reading parts whole text more) where
  -- what is first of the whole is the paste
  pub paste_of_whole : (event : Event) (E : List Event) (W : List ℕ) → Means reading text more (event ∷ E) W
      → (later : List ℕ) × (event ≡ Paste later) × Means reading whole more (Paste (parts ++ later) ∷ E) W
  paste_of_whole event E W means = by_end joins
    where
      by_end : JoinsOrStays reading parts whole text more
          → (later : List ℕ) × (event ≡ Paste later) × Means reading whole more (Paste (parts ++ later) ∷ E) W
      by_end (inl at) =
          let (s, D, R, given) = at.1 in
          let e = (means_once reading text more (event ∷ E) (Paste s ∷ D) W R means given).0 in
          let is : event ≡ Paste s = cc (e) in
          (s, is, (at.0 (parts ++ s) E W).1 (s, refl, subst (λ x. Means reading text more (x ∷ E) W) is means))
      by_end (inr stays) = let no = (means_once reading text more (event ∷ E) [] W text means stays.left_waits).0 in absurd (cc (no))

  -- where nothing stands, nothing stands at the whole, and both are open
  pub whole_stays : IsRest reading text more → StayOpen reading whole text more
  whole_stays rest = by_end joins
    where
      by_end : JoinsOrStays reading parts whole text more → StayOpen reading whole text more
      by_end (inl at) =
          let (s, D, R, given) = at.1 in
          let no = (means_once reading text more (Paste s ∷ D) [] R text given (rest_means reading text more rest)).0 in absurd (cc (no))
      by_end (inr stays) = stays
