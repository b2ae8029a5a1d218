use Rattle.std.proofs.Common.{◌∙◌, map, sym}
use denote.Param.Always.{mut_total}
use Rattle.keyshow.proofs.Appended.{appended, kept}
use Rattle.keyshow.proofs.pump.push_lines.Goals as goal

pub parse_pieces-parsed-requires : goal.parse_pieces-parsed-requires
parse_pieces-parsed-requires c = λ taken given rest reads. (mut_total _ _ (λ s a. tt)).at _

pub returns-in-Ok-false-clause-ok : goal.returns-in-Ok-false-clause-ok
returns-in-Ok-false-clause-ok c =
    let (events, means, numbered, calls) = rw c.in-Ok-false.is-0 at c.parse_pieces-parsed.ensures.ok in
    let refused_name = kept (λ s. s.0.ghost_name) _ (λ p x q s. s.met.1.0.0) _ events _ calls in
    let text_name = kept (λ s. s.1.ghost_name) _ (λ p x q s. s.met.1.0.1) _ events _ calls in
    let refused_is = c.refused-2-1.given.1 (sym refused_name) in
    let text_is = c.text-1.given.1 (sym text_name) in
    let written = appended (λ s. s.1.now.items) (λ s. s.0.now) _ (λ p x q s. s.met.1.1) _ events _ calls
    (sym refused_is ∙ c.in-Ok-false.is-1) in
    (map (λ e. e.1) events, means, rw text_is written.1)
