use denote.Param.Always.{mut_total}
use Rattle.test_calls.proofs.calls.parsed_pieces.Goals as goal

pub parse_pieces-requires : goal.parse_pieces-requires
parse_pieces-requires c = λ taken given rest reads. (mut_total _ _ (λ s a. tt)).at _
