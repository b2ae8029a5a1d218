use denote.Param.Always.{mut_total}
use Rattle.test_calls.proofs.extended_calls.looped.Goals as goal

pub for_each_event-requires : goal.for_each_event-requires
for_each_event-requires c = λ events rest steps. (mut_total _ _ (λ s a. tt)).at _
