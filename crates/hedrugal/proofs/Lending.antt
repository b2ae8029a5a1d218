-- A fact of what an option has, from another.
use Rattle.std.specs.Prelude.{Option, Some, None, IfSome}

pub each : {A : Type 0} {P Q : A → Type 0} (o : Option A) → IfSome o P → ((x : A) → P x → Q x) → IfSome o Q
each (Some x) p q = q x p
each None p q = p
