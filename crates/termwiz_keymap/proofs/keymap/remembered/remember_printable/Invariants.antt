use Rattle.termwiz_keymap.specs.Remembering.{AreRemembered}
use Rattle.termwiz_keymap.proofs.keymap.remembered.remember_printable.Given as goal

abbrev pub invariant-loop-byte : goal.invariant-loop-byte
invariant-loop-byte g l = AreRemembered l.rows l.places
