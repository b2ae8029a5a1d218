-- How the program ends.
use Rattle.std.specs.Prelude.{ℕ, List, Option, Some, None, Result, Ok, Err, codes}
use Rattle.keyshow.specs.declared.Failure.{Failure}
use Rattle.keyshow.specs.declared.Failure.TheVariants.{WrongWords, Run}
use Rattle.keyshow.specs.Words.{fault_text}

-- the exit status
abbrev pub status_of : Result (Unit {0}) Failure → ℕ
status_of (Ok done) = 0
status_of (Err (Run fault)) = 1
status_of (Err WrongWords) = 2

-- the line on standard error, if there is one
abbrev pub error_line_of : Result (Unit {0}) Failure → Option (List ℕ)
error_line_of (Ok done) = None
error_line_of (Err (Run fault)) = Some (fault_text fault)
error_line_of (Err WrongWords) = Some (codes "usage: keyshow [PIECE]")
