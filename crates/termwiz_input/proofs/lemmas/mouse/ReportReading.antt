-- What the numbers that are read say of the mouse reports that a text may begin.
use Rattle.std.proofs.Common.{◌≡◌, ◌≢◌, ℕ, ◌-◌, List, [], ◌∷◌, ◌++◌, length, take, drop, inl, inr, refl, sym, ap, ◌∙◌, subst, arith, append_assoc, append-nil, Contains, zero, suc, Ok, Bor}
use Rattle.std.proofs.lemmas.List.{take_rest}
use Rattle.termwiz_keys.specs.declared.types.MouseEvent.{MouseEvent}
use Rattle.termwiz_input.specs.declared.mouse_report.Unread.{Unread}
use Rattle.termwiz_input.specs.declared.mouse_report.Unread.TheVariants.{Begun, Absent}
use Rattle.termwiz_input.specs.declared.mouse_report.Number.{Number}
use Rattle.termwiz_base.specs.Mouse.{largest_code, final_press, final_release, IsFinal}
use Rattle.termwiz_keymap.specs.Bytes.{Begins}
use Rattle.termwiz_grammar.specs.MouseReports.{IsDigit, IsNumber, value_of, introducer, semicolon, largest_place, IsMouseReport, mouse_event}
use Rattle.termwiz_input.specs.MouseReportAnswers.{IsBegun, HasNoPartInMouseReports, IsNumberUnread, IsNumberAnswer, IsMouseReportUnread, IsEventAnswer}
use Rattle.termwiz_keymap.proofs.lemmas.lists.CommonPrefixes.{append-some, Overlaps, overlap}
use Rattle.termwiz_keymap.proofs.lemmas.lists.CommonPrefixes.Overlaps.{within, past}
use Rattle.termwiz_grammar.proofs.lemmas.mouse.ReportNumbers.{completes, digits_end}
use Rattle.termwiz_grammar.proofs.lemmas.mouse.OneReport.{report_from, laid_out, layout, semicolon_no_digit, final_no_digit}

-- the bytes that may end a mouse report
abbrev pub finals : List ℕ
finals = final_press ∷ final_release ∷ []

pub is_semicolon : (b : ℕ) → Contains (semicolon ∷ []) b → b ≡ semicolon
is_semicolon b (zero, l, e) = sym e
is_semicolon b (suc i, l, e) = absurd (omega arith)

pub is_final : (b : ℕ) → Contains finals b → IsFinal b
is_final b (zero, l, e) = inl (sym e)
is_final b (suc zero, l, e) = inr (sym e)
is_final b (suc (suc i), l, e) = absurd (omega arith)

final_in : (b : ℕ) → IsFinal b → Contains finals b
final_in b (inl e) = (0, omega arith, sym e)
final_in b (inr e) = (1, omega arith, sym e)

until : (text digits : List ℕ) (number : Number) → Contains (semicolon ∷ []) number.end
    → text ≡ digits ++ number.end ∷ number.rest.now → text ≡ digits ++ semicolon ∷ number.rest.now
until text digits number ends parts = parts ∙ ap (λ b. digits ++ b ∷ number.rest.now) (is_semicolon number.end ends)

-- a mouse report, and what follows it
laid_before : (code x y : List ℕ) (last : ℕ) (rest : List ℕ)
    → laid_out code x y last ++ rest ≡ introducer ++ (code ++ semicolon ∷ (x ++ semicolon ∷ (y ++ last ∷ rest)))
laid_before code x y last rest = simp append_assoc

-- where no mouse report and the text begin one text, the text has no part in mouse reports
no_part : (text : List ℕ)
    → ((word rest more : List ℕ) (event : MouseEvent) → IsMouseReport word event → word ++ rest ≢ text ++ more)
    → HasNoPartInMouseReports text
no_part text never = (
  λ word event f b. never word b.0 [] event f (sym b.1 ∙ sym (append-nil text)),
  λ begun. never (text ++ begun.0) [] begun.0 begun.1 begun.3 (append-nil (text ++ begun.0)),
)

-- after the parts before it a mouse report has a number up to the limit and one of the bytes ends,
-- and may have each such number
record AsksNumber (before : List ℕ → List ℕ) (limit : ℕ) (ends : List ℕ) : Type 0 where
  goes_on : (text more : List ℕ) → before text ++ more ≡ before (text ++ more)
  asked : (word rest more : List ℕ) (event : MouseEvent) → IsMouseReport word event → word ++ rest ≡ before more
      → (digits after : List ℕ) × (end : ℕ) × IsNumber digits limit × Contains ends end × (¬ IsDigit end)
      × (digits ++ end ∷ after ≡ more)
  given : (digits : List ℕ) → IsNumber digits limit
      → (tail : List ℕ) × (event : MouseEvent) × (tail ≢ []) × IsMouseReport (before (digits ++ tail)) event

-- where no number is read after those parts, no mouse report is
unread : (before : List ℕ → List ℕ) (text : List ℕ) (limit : ℕ) (ends : List ℕ) (why : Unread)
    → AsksNumber before limit ends → IsNumberUnread text limit ends why → IsMouseReportUnread (before text) why
unread before text limit ends Begun asks digits =
    let more = completes text limit digits.0 digits.1 digits.2 in
    let mouse_report = asks.given (text ++ more.0) more.1 in
    let tail : List ℕ = more.0 ++ mouse_report.0 in
    let parts : before ((text ++ more.0) ++ mouse_report.0) ≡ before text ++ tail =
    ap before (append_assoc text more.0 mouse_report.0) ∙ sym (asks.goes_on text tail) in (
      tail,
      mouse_report.1,
      append-some more.0 mouse_report.0 mouse_report.2,
      subst (λ w. IsMouseReport w mouse_report.1) parts mouse_report.3,
    )
unread before text limit ends Absent asks never = no_part (before text) (λ word rest more event f e.
    let number = asks.asked word rest (text ++ more) event f (e ∙ asks.goes_on text more) in
    never number.0 number.1 more number.2 number.3 number.4 number.5 number.6)

-- the parts of a mouse report, each after the one before
after_introducer : (word rest more : List ℕ) (event : MouseEvent) (f : IsMouseReport word event)
    → word ++ rest ≡ introducer ++ more
    → f.code ++ semicolon ∷ (f.x ++ semicolon ∷ (f.y ++ f.last ∷ rest)) ≡ more
after_introducer word rest more event f e =
    ap (drop 3) (sym (laid_before f.code f.x f.y f.last rest) ∙ ap (λ w. w ++ rest) (sym (layout word event f)) ∙ e)

after_number : (digits front rest more : List ℕ) (limit : ℕ) → IsNumber digits limit → IsNumber front limit
    → digits ++ semicolon ∷ rest ≡ front ++ semicolon ∷ more → rest ≡ more
after_number digits front rest more limit is before e =
    (digits_end digits front rest more semicolon semicolon is.each before.each semicolon_no_digit
    semicolon_no_digit e).2

zero_number : (limit : ℕ) → IsNumber (48 ∷ []) limit
zero_number limit =
    record { some = omega arith; short = omega arith; each = ((omega arith, omega arith), tt); within = omega arith }

asks_code : AsksNumber (λ text. introducer ++ text) largest_code (semicolon ∷ [])
asks_code = record {
  goes_on = λ text more. refl;
  asked = λ word rest more event f e. (
    f.code,
    f.x ++ semicolon ∷ (f.y ++ f.last ∷ rest),
    semicolon,
    f.code_is,
    (0, omega arith, refl),
    semicolon_no_digit,
    after_introducer word rest more event f e,
  );
  given = λ code is. (
    semicolon ∷ 48 ∷ semicolon ∷ 48 ∷ final_press ∷ [],
    _,
    (λ h. cc (h)),
    report_from _ code (48 ∷ []) (48 ∷ []) final_press refl is (zero_number largest_place)
        (zero_number largest_place) (inl refl),
  );
}

asks_column : (code : List ℕ) → IsNumber code largest_code
    → AsksNumber (λ text. introducer ++ (code ++ semicolon ∷ text)) largest_place (semicolon ∷ [])
asks_column code code_is = record {
  goes_on = λ text more. simp append_assoc;
  asked = λ word rest more event f e. (
    f.x,
    f.y ++ f.last ∷ rest,
    semicolon,
    f.x_is,
    (0, omega arith, refl),
    semicolon_no_digit,
    after_number f.code code _ more largest_code f.code_is code_is
        (after_introducer word rest (code ++ semicolon ∷ more) event f e),
  );
  given = λ x is. (
    semicolon ∷ 48 ∷ final_press ∷ [],
    _,
    (λ h. cc (h)),
    report_from _ code x (48 ∷ []) final_press refl code_is is (zero_number largest_place) (inl refl),
  );
}

asks_row : (code x : List ℕ) → IsNumber code largest_code → IsNumber x largest_place
    → AsksNumber (λ text. introducer ++ (code ++ semicolon ∷ (x ++ semicolon ∷ text))) largest_place finals
asks_row code x code_is x_is = record {
  goes_on = λ text more. simp append_assoc;
  asked = λ word rest more event f e. (
    f.y,
    rest,
    f.last,
    f.y_is,
    final_in f.last f.last_is,
    final_no_digit f.last f.last_is,
    after_number f.x x _ more largest_place f.x_is x_is
        (after_number f.code code _ (x ++ semicolon ∷ more) largest_code f.code_is code_is
        (after_introducer word rest (code ++ semicolon ∷ (x ++ semicolon ∷ more)) event f e)),
  );
  given = λ y is.
      (final_press ∷ [], _, (λ h. cc (h)), report_from _ code x y final_press refl code_is x_is is (inl refl));
}

-- the answers of the reader, by what it read before
pub code_unread : (text : List ℕ) (why : Unread) → IsNumberUnread text largest_code (semicolon ∷ []) why
    → IsMouseReportUnread (introducer ++ text) why
code_unread text why = unread _ text largest_code (semicolon ∷ []) why asks_code

pub column_unread : (text : List ℕ) (code : Number) (why : Unread)
    → IsNumberAnswer text largest_code (semicolon ∷ []) (Ok code)
    → IsNumberUnread code.rest.now largest_place (semicolon ∷ []) why → IsMouseReportUnread (introducer ++ text) why
column_unread text code why (digits, is, value, ends, parts) number =
    subst (λ t. IsMouseReportUnread (introducer ++ t) why) (sym (until text digits code ends parts))
    (unread _ code.rest.now largest_place (semicolon ∷ []) why (asks_column digits is) number)

pub row_unread : (text : List ℕ) (code x : Number) (why : Unread)
    → IsNumberAnswer text largest_code (semicolon ∷ []) (Ok code)
    → IsNumberAnswer code.rest.now largest_place (semicolon ∷ []) (Ok x)
    → IsNumberUnread x.rest.now largest_place finals why → IsMouseReportUnread (introducer ++ text) why
row_unread text code x why (first, is, value, ends, parts) (second, is2, value2, ends2, parts2) number =
    let whole : text ≡ first ++ semicolon ∷ (second ++ semicolon ∷ x.rest.now) = until text first code ends parts
    ∙ ap (λ t. first ++ semicolon ∷ t) (until code.rest.now second x ends2 parts2) in
    subst (λ t. IsMouseReportUnread (introducer ++ t) why) (sym whole)
    (unread _ x.rest.now largest_place finals why (asks_row first second is is2) number)

pub whole_report_read : (text : List ℕ) (code x y : Number) (found : MouseEvent × Bor (List ℕ))
    → IsNumberAnswer text largest_code (semicolon ∷ []) (Ok code)
    → IsNumberAnswer code.rest.now largest_place (semicolon ∷ []) (Ok x)
    → IsNumberAnswer x.rest.now largest_place finals (Ok y)
    → found.0 ≡ mouse_event code.value x.value y.value y.end → found.1.now ≡ y.rest.now → IsEventAnswer text (Ok found)
whole_report_read text code x y found (first, is, value, ends, parts) (second, is2, value2, ends2, parts2)
    (third, is3, value3, ends3, parts3) event rest =
    let same : mouse_event (value_of first) (value_of second) (value_of third) y.end ≡ found.0 = cc in
    let whole : text ≡ first ++ semicolon ∷ (second ++ semicolon ∷ (third ++ y.end ∷ y.rest.now))
    = until text first code ends parts ∙ ap (λ t. first ++ semicolon ∷ t) (until code.rest.now second x ends2 parts2
    ∙ ap (λ t. second ++ semicolon ∷ t) parts3) in (
      laid_out first second third y.end,
      subst (λ e. IsMouseReport (laid_out first second third y.end) e) same
          (report_from _ first second third y.end refl is is2 is3 (is_final y.end ends3)),
      ap (λ t. introducer ++ t) whole ∙ sym (laid_before first second third y.end y.rest.now)
          ∙ ap (λ t. laid_out first second third y.end ++ t) (sym rest),
    )

-- a text that begins with the introducer, by what follows it
pub introduced : (text after : List ℕ) → Begins introducer text → after ≡ take (length text - 3) (drop 3 text)
    → introducer ++ after ≡ text
introduced text after (rest, e) is =
    ap (λ t. introducer ++ t) (is ∙ take_rest text 3 ∙ ap (drop 3) e) ∙ sym e

-- a text that begins the introducer begins a mouse report
pub introducer_begun : (text : List ℕ) → Begins text introducer → IsBegun text
introducer_begun text (rest, e) =
    let mouse_report = asks_code.given (48 ∷ []) (zero_number largest_code) in
    let tail : List ℕ = 48 ∷ mouse_report.0 in (
      rest ++ tail,
      mouse_report.1,
      append-some rest tail (λ h. cc (h)),
      subst (λ w. IsMouseReport w mouse_report.1) (ap (λ x. x ++ tail) e ∙ append_assoc text rest tail) mouse_report.3,
    )

-- one that neither begins with it nor begins it has no part in mouse reports
pub no_introducer : (text : List ℕ) → ¬ Begins introducer text → ¬ Begins text introducer → HasNoPartInMouseReports text
no_introducer text longer shorter = no_part text go
  where
    split : (t s : List ℕ) → ¬ Overlaps introducer t text s
    split t s (within u e f) = longer (u, e)
    split t s (past u some e f) = shorter (u, e)

    go : (word rest more : List ℕ) (event : MouseEvent) → IsMouseReport word event → word ++ rest ≢ text ++ more
    go word rest more event f e =
        let t = (f.code ++ semicolon ∷ (f.x ++ semicolon ∷ (f.y ++ f.last ∷ []))) ++ rest in
        split t more (overlap introducer t text more (sym e ∙ ap (λ w. w ++ rest) (layout word event f)))
