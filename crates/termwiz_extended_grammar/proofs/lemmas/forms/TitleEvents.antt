-- A title is an extra sequence, with the event of a command.
use Rattle.std.proofs.Common.{◌≡◌, ◌≢◌, inl, inr, ℕ, ◌-◌, ◌==◌, ◌&&◌, Bool, true, false, List, [], ◌∷◌, ◌++◌, length, refl, sym, ap, ◌∙◌, arith, append_assoc, length-append}
use Rattle.std.specs.Prelude.{Some, None}
use Rattle.std.proofs.lemmas.Cmp.{nat_list_eq_equiv}
use Rattle.std.proofs.Math.Seq.{take-append_seam, drop-append_seam}
use Rattle.termwiz_extended_events.specs.declared.types.Event.TheVariants.{Osc}
use Rattle.termwiz_extended_events.specs.declared.types.StringKind.TheVariants as kinds
use Rattle.termwiz_extended_events.specs.Numbers.{before_end}
use Rattle.termwiz_extended_events.specs.Meanings.{event_of, event_after, command_text, string_end}
use Rattle.termwiz_extended_grammar.specs.Forms.{ST, BEL, IsStringEnd, IsTitle}
use Rattle.termwiz_extended_grammar.specs.Forms.IsForm.{title}
use Rattle.termwiz_extended_grammar.specs.ExtendedLaws.{TitlesAreCommands}
use Rattle.termwiz_extended_grammar.proofs.lemmas.forms.PortLayouts.{sequence_layout}
use Rattle.termwiz_extended_grammar.proofs.lemmas.forms.Unfinished.{last_of, title_free}
use Rattle.termwiz_extended_grammar.proofs.lemmas.forms.ExtraFacts.{free_from_none}

-- what stands before an end
whole_end : (end s : List ℕ) → before_end end (s ++ end) ≡ Some s
unfolding before_end
whole_end end s =
    let n : length (s ++ end) - length end ≡ length s = omega (arith, length-append s end) in
    rw (n, drop-append_seam s end, nat_list_eq_equiv.refl end, take-append_seam s end) refl

never_both : (b : Bool) → (b && false) ≡ false
never_both true = refl
never_both false = refl

-- a text that BEL ends doesn't end with ST
no_string_end : (p : List ℕ) (y : ℕ) → before_end string_end (p ++ y ∷ 7 ∷ []) ≡ None
unfolding before_end
no_string_end p y =
    let n : length (p ++ y ∷ 7 ∷ []) - 2 ≡ length p = omega (arith, length-append p (y ∷ 7 ∷ [])) in
    rw (n, drop-append_seam p (y ∷ 7 ∷ []), never_both (y == 27)) refl

bell_alone : (s : List ℕ) → s ≢ [] → before_end string_end (s ++ BEL) ≡ None
bell_alone s some =
    let l = last_of s some in
    ap (λ z. before_end string_end (z ++ BEL)) l.2 ∙ ap (before_end string_end) (append_assoc l.0 (l.1 ∷ []) BEL)
    ∙ no_string_end l.0 l.1

-- so a command without its end is what stands before it
text_of_command : (s end : List ℕ) → s ≢ [] → IsStringEnd kinds.Osc end → command_text (s ++ end) ≡ s
unfolding command_text
text_of_command s end some (inl e) = rw (e, whole_end ST s) refl
text_of_command s end some (inr e) = rw (e, bell_alone s some, whole_end BEL s) refl

title_event : (asks : Bool) (text : List ℕ) (t : IsTitle text) → event_of asks text ≡ Osc (t.letter ∷ t.body)
unfolding event_of event_after
title_event asks text t = rw t.form (ap Osc (text_of_command (t.letter ∷ t.body) t.end (λ h. cc (h)) t.end_is))

pub titles_are_commands : TitlesAreCommands
titles_are_commands reading text t reads = record {
  reads = reads;
  is_form = title t;
  is_free = free_from_none reading text (λ m is. title_free text t (sequence_layout text m is));
  means = sym (title_event _ text t);
}
