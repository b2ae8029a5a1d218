-- Reads one after another, cut and put together.
use Rattle.std.proofs.Common.{◌≡◌, ℕ, Bool, true, false, List, [], ◌∷◌, ◌++◌, append_assoc, append-nil, refl, sym, ap, ◌∙◌, subst}
use Rattle.termwiz_keys.specs.Introducers.{END}
use Rattle.termwiz_extended_events.specs.declared.types.Event.{Event}
use Rattle.termwiz_extended_events.specs.declared.types.Reading.{Reading}
use Rattle.termwiz_extended_grammar.specs.ExtendedGrammar.{IsRest, Means}
use Rattle.termwiz_extended_grammar.specs.Readings.{after_events}
use Rattle.termwiz_extended_grammar.proofs.lemmas.cuts.ExtendedCuts.{after_both, cut_independent}
use Rattle.termwiz_extended_grammar.proofs.lemmas.items.ExtendedRests.{one_meaning}
use Rattle.termwiz_timed.specs.Segments.{Ends, Read, Reads, ReadsInTurn}
use Rattle.termwiz_timed.specs.Segments.Ends.{closed, in_paste}
use Rattle.termwiz_timed.specs.Segments.Read.{Bytes, NoMore, Over}

-- a text means one thing
pub means_once : (reading : Reading) (text : List ℕ) (more : Bool) (E D : List Event) (W V : List ℕ) → Means reading text more E W
    → Means reading text more D V → (E ≡ D) × (W ≡ V)
means_once reading text more E D W V one other =
    let only = (one_meaning reading text more).3 in
    ((only E W one).0 ∙ sym (only D V other).0, (only E W one).1 ∙ sym (only D V other).1)

-- a text is read in two parts
pub record IsCut (reading : Reading) (text more_text : List ℕ) (more : Bool) (E : List Event) (W : List ℕ) : Type 0 where
  pub first : List Event
  pub between : List ℕ
  pub later : List Event
  pub is_first : Means reading text true first between
  pub is_later : Means (after_events reading first) (between ++ more_text) more later W
  pub events : E ≡ first ++ later

pub cut : (reading : Reading) (text more_text : List ℕ) (more : Bool) (E : List Event) (W : List ℕ)
    → Means reading (text ++ more_text) more E W → IsCut reading text more_text more E W
cut reading text more_text more E W means =
    let m = one_meaning reading text true in
    let n = one_meaning (after_events reading m.0) (m.1 ++ more_text) more in
    let whole = cut_independent reading text more_text m.1 n.1 m.0 n.0 more m.2 n.2 in
    let same = means_once reading (text ++ more_text) more E (m.0 ++ n.0) W n.1 means whole in
    record {
      first = m.0;
      between = m.1;
      later = n.0;
      is_first = m.2;
      is_later = subst (λ w. Means (after_events reading m.0) (m.1 ++ more_text) more n.0 w) (sym same.1) n.2;
      events = same.0;
    }

-- two reads are first, and then others
pub two_reads : (reading : Reading) (text between left : List ℕ) (one other : Read) (reads : List Read) (E E1 D D2 later : List Event)
    (W : List ℕ) → E ≡ E1 ++ later → E1 ≡ D ++ D2 → Reads reading text one D between → Reads (after_events reading D) between other D2 left
    → ReadsInTurn (after_events reading E1) left reads later W → ReadsInTurn reading text (one ∷ other ∷ reads) E W
two_reads reading text between left one other reads E E1 D D2 later W all split first second rest = (
  D,
  D2 ++ later,
  between,
  all ∙ ap (λ (e : List Event). e ++ later) split ∙ append_assoc D D2 later,
  first,
  (
    D2,
    later,
    left,
    refl,
    second,
    subst (λ r. ReadsInTurn r left reads later W)
        (ap (λ (e : List Event). after_events reading e) split ∙ after_both reading D D2) rest,
  ),
)

-- a text to which nothing is added
pub nothing_added : (reading : Reading) (text : List ℕ) (more : Bool) (E : List Event) (W : List ℕ) → Means reading text more E W
    → Means reading (text ++ []) more E W
nothing_added reading text more E W means = subst (λ u. Means reading u more E W) (sym (append-nil text)) means

pub added_nothing : (reading : Reading) (text : List ℕ) (more : Bool) (E : List Event) (W : List ℕ) → Means reading (text ++ []) more E W
    → Means reading text more E W
added_nothing reading text more E W means = subst (λ u. Means reading u more E W) (append-nil text) means

module _ (reading : Reading) (reads : List Read) (E : List Event) (W : List ℕ) where
  -- bytes that were put to what is buffered are a read of their own
  pub split_bytes : (text bytes : List ℕ) → ReadsInTurn reading (text ++ bytes) (Bytes [] ∷ reads) E W
      → ReadsInTurn reading text (Bytes [] ∷ Bytes bytes ∷ reads) E W
  split_bytes text bytes (E1, later, left, all, means, rest) =
      let c = cut reading text bytes true E1 left (added_nothing reading (text ++ bytes) true E1 left means) in
      two_reads reading text c.between left (Bytes []) (Bytes bytes) reads E E1 c.first c.later later W all c.events
      (nothing_added reading text true c.first c.between c.is_first) c.is_later rest

  -- and so is a flush
  pub split_flush : (text : List ℕ) → ReadsInTurn reading text (NoMore ∷ reads) E W → ReadsInTurn reading text (Bytes [] ∷ NoMore ∷ reads) E W
  split_flush text (E1, later, left, all, means, rest) =
      let c = cut reading text [] false E1 left (nothing_added reading text false E1 left means) in
      two_reads reading text c.between left (Bytes []) NoMore reads E E1 c.first c.later later W all c.events
      (nothing_added reading text true c.first c.between c.is_first)
      (added_nothing (after_events reading c.first) c.between false c.later left c.is_later) rest

-- and the end
record IsCutEnd (reading : Reading) (text : List ℕ) (E : List Event) (W : List ℕ) : Type 0 where
  first : List Event
  between : List ℕ
  later : List Event
  is_first : Means reading text true first between
  is_later : Ends (after_events reading first) between later W
  events : E ≡ first ++ later

cut_end : (reading : Reading) (text : List ℕ) (E : List Event) (W : List ℕ) → Ends reading text E W → IsCutEnd reading text E W
cut_end reading text E W (closed events left means not_open) =
    let c = cut reading text [] false events left (nothing_added reading text false events left means) in
    record {
      first = c.first;
      between = c.between;
      later = c.later;
      is_first = c.is_first;
      is_later = closed c.later left (added_nothing (after_events reading c.first) c.between false c.later left c.is_later) not_open;
      events = c.events;
    }
cut_end reading text E W (in_paste events last between left means is_open end) =
    let c = cut reading text [] false events between (nothing_added reading text false events between means) in
    record {
      first = c.first;
      between = c.between;
      later = c.later ++ last;
      is_first = c.is_first;
      is_later = in_paste c.later last between left
          (added_nothing (after_events reading c.first) c.between false c.later between c.is_later) is_open
          (subst (λ r. Means r (between ++ END) false last left)
          (ap (λ (e : List Event). after_events reading e) c.events ∙ after_both reading c.first c.later) end);
      events = ap (λ (e : List Event). e ++ last) c.events ∙ append_assoc c.first c.later last;
    }

module _ (reading : Reading) (reads : List Read) (E : List Event) (W : List ℕ) where
  pub split_end : (text : List ℕ) → ReadsInTurn reading text (Over ∷ reads) E W → ReadsInTurn reading text (Bytes [] ∷ Over ∷ reads) E W
  split_end text (E1, later, left, all, ends, rest) =
      let c = cut_end reading text E1 left ends in
      two_reads reading text c.between left (Bytes []) Over reads E E1 c.first c.later later W all c.events
      (nothing_added reading text true c.first c.between c.is_first) c.is_later rest

-- nothing happens in a read of a rest
pub rest_means : (reading : Reading) (text : List ℕ) (more : Bool) → IsRest reading text more → Means reading text more [] text
rest_means reading text more rest = record { steps = refl; rest = rest }
