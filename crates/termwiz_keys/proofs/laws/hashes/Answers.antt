use Rattle.termwiz_keys.proofs.laws.hashes.Goals as goal
use Rattle.termwiz_keys.specs.contracts.types.KeyCodeHash.TheImpl.Laws.{respects_eq-law}

pub returns : goal.returns
returns c = respects_eq-law
