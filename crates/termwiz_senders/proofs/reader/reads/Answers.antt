use Rattle.std.proofs.Common.{refl, false}
use Rattle.termwiz_senders.proofs.lemmas.ReadAlone.{none_of, not_true, read_as, some_of}
use Rattle.termwiz_senders.proofs.reader.reads.Goals as goal

pub returns-in-Some : goal.returns-in-Some
returns-in-Some c =
    read_as c.args.reading c.args.bytes.now c.args.maybe_more c.args.event.now c.in-Some.found c.is_same.result
    (some_of _ c.in_ok-found.field-0 c.in-Some.found c.in-Some.is c.in_ok-found.ensures.some) c.is_same.ensures

pub returns-in-None : goal.returns-in-None
returns-in-None c = (
  λ yes. absurd (not_true false refl yes),
  λ means. absurd (none_of c.in_ok-found.field-0 c.in-None.is c.in_ok-found.ensures.none c.args.event.now means),
)
