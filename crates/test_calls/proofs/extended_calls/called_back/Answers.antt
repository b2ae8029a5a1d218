use denote.Param.Always.{mut_total}
use Rattle.test_calls.proofs.extended_calls.called_back.Goals as goal

pub parse-requires : goal.parse-requires
parse-requires c = λ events rest steps. (mut_total _ _ (λ s a. tt)).at _
