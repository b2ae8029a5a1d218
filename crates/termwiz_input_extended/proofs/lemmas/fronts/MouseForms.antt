-- A mouse report has the form of a control sequence. Where one begins a text, no extra sequence and no opening does.
use Rattle.std.proofs.Common.{◌≡◌, ℕ, ◌≤◌, codes, Bool, false, List, [], ◌∷◌, ◌++◌, length, take, drop, take-append-drop, refl, sym, ap, ◌∙◌, subst, arith, append_assoc, length-append}
use Rattle.std.specs.List.{AllByRecursion}
use Rattle.termwiz_keymap.specs.Bytes.{Begins}
use Rattle.termwiz_keymap.proofs.lemmas.lists.CommonPrefixes.{true_from}
use Rattle.termwiz_keys.specs.Introducers.{ESC, CSI}
use Rattle.termwiz_keys.specs.declared.types.MouseEvent.{MouseEvent}
use Rattle.termwiz_keys.specs.declared.types.InputEvent.TheVariants.{Mouse}
use Rattle.termwiz_base.specs.Mouse as mouse
use Rattle.termwiz_grammar.specs.Sequences.{IsSequence}
use Rattle.termwiz_grammar.specs.Sequences.Meaning.{Report}
use Rattle.termwiz_grammar.specs.MouseReports.{IsDigit, IsMouseReport}
use Rattle.termwiz_grammar.proofs.lemmas.mouse.OneReport.{laid_out, layout}
use Rattle.termwiz_input.specs.Matches.{IsItemAt}
use Rattle.termwiz_input.specs.MouseReportAnswers.{IsBegun, IsMouseReportAnswer}
use Rattle.termwiz_input.specs.declared.mouse_report.FrontReport.{FrontReport}
use Rattle.termwiz_input.specs.declared.mouse_report.FrontReport.TheVariants.{Whole, Begun, Absent}
use Rattle.termwiz_input.proofs.lemmas.heads.HeadLookup.{mouse_report_front, report_closed}
use Rattle.termwiz_input.proofs.lemmas.items.ItemByHead.{report_stands}
use Rattle.termwiz_extended_events.specs.declared.types.Reading.{Reading}
use Rattle.termwiz_extended_grammar.specs.Forms.{IsInner, IsFinal, IsRxvtNumber, IsForm, IsUnfinishedForm}
use Rattle.termwiz_extended_grammar.specs.Forms.IsForm.{control}
use Rattle.termwiz_extended_grammar.specs.ExtendedGrammar.{BeginsExtended, StartsExtended}
use Rattle.termwiz_extended_grammar.proofs.lemmas.forms.FormBytes.{all_append, rxvt_digits}
use Rattle.termwiz_input_extended.proofs.lemmas.fronts.ExtraAnswers.{no_extra_starts, no_extra_unfinished, no_form_within, report_not_extra}

digits_inner : (t : List ℕ) → AllByRecursion IsDigit t → AllByRecursion IsInner t
digits_inner t a = true_from IsDigit IsInner (λ b d. (omega arith, omega arith)) t a

-- what is between ESC [ and the last byte of a report
abbrev inner_of : List ℕ → List ℕ → List ℕ → List ℕ
inner_of code x y = 60 ∷ (code ++ 59 ∷ (x ++ 59 ∷ y))

all_inner : (code x y : List ℕ) → AllByRecursion IsDigit code → AllByRecursion IsDigit x → AllByRecursion IsDigit y
    → AllByRecursion IsInner (inner_of code x y)
all_inner code x y c h v = (
  (omega arith, omega arith),
  all_append IsInner code (59 ∷ (x ++ 59 ∷ y)) (digits_inner code c) (
    (omega arith, omega arith),
    all_append IsInner x (59 ∷ y) (digits_inner x h) ((omega arith, omega arith), digits_inner y v),
  ),
)

grouped : (code x y : List ℕ) (last : ℕ) → laid_out code x y last ≡ 27 ∷ 91 ∷ (inner_of code x y ++ last ∷ [])
grouped code x y last = ap (λ t. 27 ∷ 91 ∷ 60 ∷ t) (sym (simp append_assoc))

last_final : (last : ℕ) → mouse.IsFinal last → IsFinal last
last_final last h = (omega arith, omega arith)

laid_out_short : (code x y : List ℕ) (last : ℕ) → length code ≤ 5 → length x ≤ 5 → length y ≤ 5
    → length (laid_out code x y last) ≤ 256
laid_out_short code x y last c h v =
    omega (arith, length-append code (59 ∷ (x ++ 59 ∷ (y ++ last ∷ []))), length-append x (59 ∷ (y ++ last ∷ [])), length-append y (last ∷ []))

-- ESC [ is followed by no other byte than <
third_is : (code x y : List ℕ) (last byte : ℕ) (rest : List ℕ) → Begins (27 ∷ 91 ∷ byte ∷ rest) (laid_out code x y last) → byte ≡ 60
third_is code x y last byte rest b = cc (b.1)

pub report_is_form : {x10_mouse : Bool} (text : List ℕ) (r : MouseEvent) → IsMouseReport text r → IsForm x10_mouse text
report_is_form text r f = control (record {
  inner = inner_of f.code f.x f.y;
  last = f.last;
  form = layout text r f ∙ grouped f.code f.x f.y f.last;
  each = all_inner f.code f.x f.y f.code_is.each f.x_is.each f.y_is.each;
  last_is = last_final f.last f.last_is;
  short = subst (λ t. length t ≤ 256) (sym (layout text r f))
      (laid_out_short f.code f.x f.y f.last f.code_is.short f.x_is.short f.y_is.short);
  no_mouse = λ on b. omega (arith, third 77 [] b);
  no_console = λ b. omega (arith, third 91 [] b);
  no_row = λ digit is b. omega (arith, third digit (36 ∷ []) b, is.1);
  no_shifted = shifted;
})
  where
    third : (byte : ℕ) (rest : List ℕ) → Begins (27 ∷ 91 ∷ byte ∷ rest) text → byte ≡ 60
    third byte rest b = third_is f.code f.x f.y f.last byte rest (subst (λ t. Begins (27 ∷ 91 ∷ byte ∷ rest) t) (layout text r f) b)

    shifted : (number : List ℕ) → IsRxvtNumber number → ¬ Begins (CSI ++ number ++ codes "$") text
    shifted [] is b = absurd is
    shifted (d ∷ number) is b =
        let digits : AllByRecursion IsDigit (d ∷ number) = rxvt_digits (d ∷ number) is in
        omega (arith, third d (number ++ 36 ∷ []) b, digits.0)

report_known : (text : List ℕ) (r : MouseEvent) → IsMouseReport text r → IsSequence text (Report r)
unfolding IsSequence
report_known text r f = f

-- where a mouse report begins the text, no extra sequence and no opening does, and the text begins none
module _ (reading : Reading) (u : List ℕ) (len : ℕ) (r : MouseEvent) (is : IsMouseReport (take len u) r) where
  pub report_no_extra : StartsExtended reading u → ⊥
  report_no_extra = no_extra_starts reading u len (report_is_form (take len u) r is)
      (λ h. report_not_extra reading (take len u) r h.0 is h.1)

  -- the text begins with one ESC alone
  introduced : u ≡ 27 ∷ 91 ∷ ((inner_of is.code is.x is.y ++ is.last ∷ []) ++ drop len u)
  introduced = sym (take-append-drop len u)
      ∙ ap (λ t. t ++ drop len u) (layout (take len u) r is ∙ grouped is.code is.x is.y is.last)

  pub report_escape : Begins ESC u
  report_escape = (91 ∷ ((inner_of is.code is.x is.y ++ is.last ∷ []) ++ drop len u), introduced)

  pub report_one : Begins (ESC ++ ESC) u → ⊥
  report_one two = let second : ◌≡◌ {A = ℕ} 91 27 = cc (introduced, two.1) in omega arith

  pub report_not_unfinished : BeginsExtended reading u → ⊥
  report_not_unfinished = no_extra_unfinished reading u len (report_is_form (take len u) r is)

  -- it is the port's item
  pub report_item : (more : Bool) → len ≤ length u → IsItemAt u more (Mouse r) len
  report_item more inside = report_stands u more r len (λ opens. report_closed u len more r is opens)
      (mouse_report_front u len r inside is)

-- what properly begins a mouse report properly begins a form too, and no form begins it
pub begun_no_form : {x10_mouse : Bool} (u : List ℕ) → IsBegun u → (text : List ℕ) → IsForm x10_mouse text → Begins text u → ⊥
begun_no_form u (tail, r, some, is) = no_form_within u
    (record { tail = tail; longer = some; meaning = Report r; is_sequence = report_known (u ++ tail) r is })

pub begun_unfinished : {x10_mouse : Bool} (u : List ℕ) → IsBegun u → IsUnfinishedForm x10_mouse u
begun_unfinished u (tail, r, some, is) = record { tail = tail; longer = some; is_form = report_is_form (u ++ tail) r is }

-- no mouse report begins a text where the recogniser finds no whole one
pub no_report_there : (u : List ℕ) (found : FrontReport) → IsMouseReportAnswer u found
    → ((report : MouseEvent) (len : ℕ) → found ≡ Whole report len → ⊥)
    → (word : List ℕ) (report : MouseEvent) → IsMouseReport word report → Begins word u → ⊥
no_report_there u (Whole given len) is other word report r b = other given len refl
no_report_there u Begun is other word report r b = begun_no_form {x10_mouse = false} u is word (report_is_form word report r) b
no_report_there u Absent is other word report r b = is.0 word report r b
