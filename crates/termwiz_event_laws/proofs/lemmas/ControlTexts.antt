-- Parameters after ESC [ and a last byte mean one event, if the port doesn't read them.
use Rattle.std.proofs.Common.{◌≡◌, ◌≢◌, ℕ, ◌<◌, ◌≤◌, Bool, List, [], ◌∷◌, ◌++◌, length, refl, sym, ◌∙◌, subst, arith, append_assoc}
use Rattle.std.specs.List.{AllByRecursion}
use Rattle.termwiz_keymap.proofs.lemmas.lists.CommonPrefixes.{append-some, true_at_end, true_from}
use Rattle.termwiz_grammar.specs.Sequences.{Meaning, IsSequence}
use Rattle.termwiz_extended_events.specs.declared.types.Event.{Event}
use Rattle.termwiz_extended_events.specs.declared.types.Reading.{Reading}
use Rattle.termwiz_extended_grammar.specs.ExtendedGrammar.{Means}
use Rattle.termwiz_extended_grammar.specs.ExtraSequences.{IsFree}
use Rattle.termwiz_extended_grammar.specs.Readings.{ReadsMore, event_in}
use Rattle.termwiz_extended_grammar.specs.Forms.{IsInner, IsControl, most_control}
use Rattle.termwiz_extended_grammar.specs.Forms.IsForm.{control}
use Rattle.termwiz_extended_grammar.proofs.lemmas.forms.ExtraFacts.{free_from_none}
use Rattle.termwiz_extended_grammar.proofs.lemmas.forms.FormBytes.{all_append}
use Rattle.termwiz_extended_grammar.proofs.lemmas.forms.PortLayouts.{Layout, Past, sequence_layout}
use Rattle.termwiz_extended_grammar.proofs.lemmas.forms.PortLayouts.Layout.{alone, paired, longer}
use Rattle.termwiz_extended_grammar.proofs.lemmas.forms.PortLayouts.Past.{lettered, with_dollar}
use Rattle.termwiz_kitty.proofs.lemmas.read_back.SequencesMean.{means_alone}

-- what follows ESC [
abbrev pub written : List ℕ → ℕ → List ℕ
written body last = 27 ∷ 91 ∷ (body ++ last ∷ [])

-- a digit, a semicolon, or a sign before the numbers
abbrev pub IsParameter : ℕ → Type 0
IsParameter b = (48 ≤ b) × (b ≤ 63)

-- the last byte
abbrev pub IsEnd : ℕ → Type 0
IsEnd b = (64 ≤ b) × (b ≤ 126)

-- some parameters, or none before a byte that begins no other sequence
abbrev pub IsClear : List ℕ → ℕ → Type 0
IsClear body last = body ≡ [] → (last ≢ 77) × (last ≢ 91)

abbrev IsHigh : ℕ → Type 0
IsHigh b = 48 ≤ b

-- a dollar is not among them
no_dollar : (front t u : List ℕ) → AllByRecursion IsHigh u → u ≡ front ++ 36 ∷ t → ⊥
no_dollar front t u high e = (let sign : 48 ≤ 36 = (true_at_end IsHigh front (36 ∷ t) (subst (AllByRecursion IsHigh) e high)).0 in omega arith)

no_letter : (body : List ℕ) (last x : ℕ) (t : List ℕ) → AllByRecursion IsParameter body → (body ≡ [] → last ≢ x) → 63 < x
    → body ++ last ∷ [] ≡ x ∷ t → ⊥
no_letter [] last x t a clear high e = clear refl (cc (e))
no_letter (y ∷ body) last x t a clear high e = let same : y ≡ x = cc (e) in let is : IsParameter y = a.0 in omega arith

control_from : {x10_mouse : Bool} (body : List ℕ) (last : ℕ) → AllByRecursion IsParameter body → IsEnd last → IsClear body last
    → length (written body last) ≤ most_control → IsControl x10_mouse (written body last)
control_from body last a is clear short = record {
  inner = body;
  last = last;
  form = refl;
  each = true_from IsParameter IsInner (λ b p. (omega arith, omega arith)) body a;
  last_is = is;
  short = short;
  no_mouse = λ on. λ (t, e). no_letter body last 77 t a (λ h. (clear h).0) (omega arith) (cc (e));
  no_console = λ (t, e). no_letter body last 91 t a (λ h. (clear h).1) (omega arith) (cc (e));
  no_row = λ digit d. λ (t, e). no_dollar (digit ∷ []) t (body ++ last ∷ []) high (cc (e));
  no_shifted = λ number n. λ (t, e).
      (let same : body ++ last ∷ [] ≡ (number ++ 36 ∷ []) ++ t = cc (e) in
      no_dollar number t (body ++ last ∷ []) high (same ∙ append_assoc number (36 ∷ []) t));
}
  where
    high : AllByRecursion IsHigh (body ++ last ∷ [])
    high = all_append IsHigh body (last ∷ []) (true_from IsParameter IsHigh (λ b p. p.0) body a) (omega (arith, is.0), tt)

-- such a text that is free
pub free_means : (reading : Reading) (body : List ℕ) (last : ℕ) (e : Event) (more : Bool) → ReadsMore reading → AllByRecursion IsParameter body → IsEnd last
    → IsClear body last → length (written body last) ≤ most_control → IsFree reading (written body last) → event_in reading (written body last) ≡ e
    → Means reading (written body last) more (e ∷ []) []
free_means reading body last e more reads a is clear short free event =
    means_alone reading (written body last) more e
    (record { reads = reads; is_form = control (control_from body last a is clear short); is_free = free; means = sym event })

-- the port reads no such text
abbrev pub IsUnknown : List ℕ → ℕ → Type 0
IsUnknown body last = (m : Meaning) → ¬ IsSequence (written body last) m

pub control_means : (reading : Reading) (body : List ℕ) (last : ℕ) (e : Event) (more : Bool) → ReadsMore reading → AllByRecursion IsParameter body
    → IsEnd last → IsClear body last → length (written body last) ≤ most_control → IsUnknown body last → event_in reading (written body last) ≡ e
    → Means reading (written body last) more (e ∷ []) []
control_means reading body last e more reads a is clear short none event =
    free_means reading body last e more reads a is clear short (free_from_none reading (written body last) none) event

-- it reads none with a question mark
pub no_mark : (body : List ℕ) (last : ℕ) → IsUnknown (63 ∷ body) last
no_mark body last m is = go (sequence_layout (written (63 ∷ body) last) m is)
  where
    past : (r : List ℕ) → r ≡ 63 ∷ (body ++ last ∷ []) → Past r → ⊥
    past r e (lettered [] l form each is_last no_m no_bracket) =
        append-some body (last ∷ []) (λ h. cc (h)) (let none : [] ≡ body ++ last ∷ [] = cc (e, form) in sym none)
    past r e (lettered (y ∷ middle) l form each is_last no_m no_bracket) =
        let same : y ≡ 63 = cc (e, form) in let low : y ≤ 60 = each.0.1 in omega arith
    past r e (with_dollar digit form is_digit) = (let same : digit ≡ 63 = cc (e, form) in omega arith)

    go : Layout (written (63 ∷ body) last) → ⊥
    go (alone c e) = cc (e)
    go (paired c e range) = cc (e)
    go (longer c r e second rest) = past r (let same : r ≡ 63 ∷ (body ++ last ∷ []) = cc (e) in same) rest
