use Rattle.std.proofs.Common.{refl, false}
use Rattle.termwiz_extended_events.specs.declared.types.Event.TheVariants.{Key}
use Rattle.termwiz_senders.proofs.lemmas.ReadAlone.{none_of, not_true, read_as, some_of}
use Rattle.termwiz_senders.proofs.reader.reads_key.Goals as goal

pub returns-in-Some : goal.returns-in-Some
returns-in-Some c =
    read_as c.args.reading c.args.bytes.now false (Key c.args.report.now) c.in-Some.found c.is_key_event.result
    (some_of _ c.in_ok-found.field-0 c.in-Some.found c.in-Some.is c.in_ok-found.ensures.some) c.is_key_event.ensures

pub returns-in-None : goal.returns-in-None
returns-in-None c = (
  λ yes. absurd (not_true false refl yes),
  λ means. absurd (none_of c.in_ok-found.field-0 c.in-None.is c.in_ok-found.ensures.none (Key c.args.report.now) means),
)
