-- A report that the port reads as a key, alone or after an ESC, is a row.
use Rattle.std.proofs.Common.{◌≡◌, ◌≢◌, ℕ, List, [], ◌∷◌, ◌++◌, refl, sym, ap, ◌∙◌, subst, arith, Contains}
use Rattle.termwiz_keys.specs.Introducers.{ESC}
use Rattle.termwiz_keys.specs.declared.types.KeyEvent.{KeyEvent}
use Rattle.termwiz_grammar.specs.Sequences.Meaning.{Row}
use Rattle.termwiz_grammar.specs.Table.{rows}
use Rattle.termwiz_grammar.proofs.lemmas.table.RowShape.{Bytes}
use Rattle.termwiz_grammar.proofs.lemmas.table.RowShape.Bytes.{one, more}
use Rattle.termwiz_grammar.proofs.lemmas.table.SequenceFacts.{sequence_bytes}
use Rattle.termwiz_laws.proofs.lemmas.further_keys.SingleKey.{Plainly, Single}
use Rattle.termwiz_laws.proofs.lemmas.further_keys.SingleKey.Plainly.{by_row, by_character, by_broken_byte}
use Rattle.termwiz_laws.proofs.lemmas.further_keys.SingleKey.Single.{plainly, after_escape}
use Rattle.termwiz_extended_events.specs.declared.types.Reading.{Reading}
use Rattle.termwiz_extended_grammar.proofs.lemmas.forms.FormBytes.{IsSecond, form_shape}
use Rattle.termwiz_kitty.proofs.lemmas.legacy.ReadAsOne.{IsReportText, row_is, no_escape_before}

-- what a report begins with
pub record Shape (text : List ℕ) : Type 0 where
  pub second : ℕ
  pub rest : List ℕ
  pub split : text ≡ 27 ∷ second ∷ rest
  pub some : rest ≢ []
  pub is_second : IsSecond second

pub shape : (reading : Reading) (text : List ℕ) → IsReportText reading text → Shape text
shape reading text is =
    let s = form_shape text is.is_extra.is_form in
    record { second = s.0; rest = s.1; split = s.2; some = s.3; is_second = s.4 }

plainly_row : (reading : Reading) (text : List ℕ) (k : KeyEvent) → Plainly text k → IsReportText reading text → Contains rows (text, k)
plainly_row reading text k (by_row r) is = r
plainly_row reading text k (by_character c scalar e g) is =
    let s = shape reading text is in absurd (no_escape_before c s.second s.rest scalar (sym e ∙ s.split))
plainly_row reading text k (by_broken_byte b e g) is = (let s = shape reading text is in absurd (cc (e, s.split)))

no_second_escape : (r : List ℕ) → Bytes (27 ∷ 27 ∷ r) → ⊥
no_second_escape r (one y l e) = cc (e)
no_second_escape r (more [] n e p) = n refl
no_second_escape r (more (x ∷ t) n e p) = (let same : x ≡ 27 = cc (e) in omega (arith, p.0.0))

-- and so is one that follows its ESC
pub behind_row : (reading : Reading) (text v : List ℕ) (k : KeyEvent) → text ≡ ESC ++ v → Single text k → IsReportText reading v
    → (j : KeyEvent) × Contains rows (v, j)
behind_row reading text v k split (after_escape t j e p g) is =
    let same : t ≡ v = cc (e, split) in (j, plainly_row reading v j (subst (λ u. Plainly u j) same p) is)
behind_row reading text v k split (plainly p) is = absurd (go p)
  where
    s : Shape v
    s = shape reading v is

    all : text ≡ 27 ∷ 27 ∷ s.second ∷ s.rest
    all = split ∙ ap (λ u. 27 ∷ u) s.split

    go : Plainly text k → ⊥
    go (by_row r) = no_second_escape (s.second ∷ s.rest) (subst Bytes all (sequence_bytes text (Row k) (row_is text k r)))
    go (by_character c scalar e g) = no_escape_before c 27 (s.second ∷ s.rest) scalar (sym e ∙ all)
    go (by_broken_byte b e g) = cc (e, all)
