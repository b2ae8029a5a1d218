use Rattle.std.proofs.Common.{◌≡◌, ◌≢◌, ℕ, refl, sym, subst, Option, Some, None}
use Rattle.std.specs.Prelude.{option_map}
use Rattle.termwiz_extended_events.specs.declared.types.KeyReport.{KeyReport}
use Rattle.termwiz_extended_events.specs.declared.types.Event.{Event}
use Rattle.termwiz_extended_events.specs.declared.types.Event.TheVariants.{Key}
use Rattle.termwiz_extended_events.specs.declared.meanings.Meaning.{Meaning}
use Rattle.termwiz_extended_events.specs.declared.meanings.Meaning.TheVariants as meaning
use Rattle.termwiz_extended_events.specs.KeyReports.{spelled_report}
use Rattle.termwiz_extended_events.specs.Meanings.{event_from, IsPosition}
use Rattle.termwiz_extended_events.proofs.meanings.Meaning.is_position.Goals as goal

same_event : (d e : Event) → (IsPosition d → ⊥) → Some d ≡ Some e → IsPosition e → ⊥
same_event d e never h is = never (let same : d ≡ e = cc (h) in subst IsPosition (sym same) is)

key_event : (report : Option KeyReport) (e : Event) → option_map Key report ≡ Some e → IsPosition e → ⊥
key_event None e h is = cc (h)
key_event (Some report) e h is = same_event (Key report) e (λ x. x) h is

-- a meaning that is no position gives no event that is one
no_position : (m : Meaning) (e : Event) → ((row column : ℕ) → m ≢ meaning.CursorPosition row column) → event_from m ≡ Some e
    → IsPosition e → ⊥
no_position meaning.FocusGained e other h is = same_event _ e (λ x. x) h is
no_position meaning.FocusLost e other h is = same_event _ e (λ x. x) h is
no_position (meaning.CursorPosition row column) e other h is = other row column refl
no_position (meaning.Resized rows columns height width) e other h is = same_event _ e (λ x. x) h is
no_position (meaning.KeyboardFlags flags) e other h is = same_event _ e (λ x. x) h is
no_position (meaning.Mouse event) e other h is = same_event _ e (λ x. x) h is
no_position (meaning.Key report) e other h is = key_event (spelled_report report) e h is
no_position (meaning.Csi bytes) e other h is = same_event _ e (λ x. x) h is
no_position (meaning.Osc bytes) e other h is = same_event _ e (λ x. x) h is
no_position (meaning.Dcs bytes) e other h is = same_event _ e (λ x. x) h is
no_position (meaning.Apc bytes) e other h is = same_event _ e (λ x. x) h is
no_position (meaning.StringPart kind bytes) e other h is = same_event _ e (λ x. x) h is
no_position (meaning.StringCut kind bytes) e other h is = same_event _ e (λ x. x) h is

pub returns-in_default : goal.returns-in_default
returns-in_default c = λ event h. (
  λ t. absurd (cc (t)),
  λ is. absurd (no_position c.args.self.now event c.in_default.not-CursorPosition h is),
)
