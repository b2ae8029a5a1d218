use Rattle.test_calls.proofs.parts.encode.Goals as goal

pub returns-in-Err-encode-clause-refused : goal.returns-in-Err-encode-clause-refused
returns-in-Err-encode-clause-refused c = λ n is. ((c.in-Err-encode.ensures.refused n).0 (cc (is))).1

pub returns-in-Err-clause-refused : goal.returns-in-Err-clause-refused
returns-in-Err-clause-refused c = λ n is. ((c.in-Err.ensures.refused n).0 (cc (is))).1
