-- What a run that ended early has written.
use Rattle.std.proofs.Common.{◌≡◌, ◌∙◌, ℕ, Result, Ok, Err, Option, List, [], ◌++◌, true, false, length, refl, sym, ap, append_assoc, append-nil}
use Rattle.std.specs.Io.KnownBytes.{Appends, Keeps}
use Rattle.std.specs.Result.{OnErr, OnOk}
use Rattle.std.proofs.KnownBytes.{Appends-nil, Appends-trans, Appends-kept}
use Rattle.termwiz_input.specs.InputEvent.{InputEvent}
use Rattle.termwiz_input.specs.Bytes.{Begins}
use Rattle.termwiz_input.specs.Grammar.{Means}
use Rattle.termwiz_input.specs.Laws.{OneMeaning, Resumes}
use Rattle.keyshow.specs.Lines.{lines, waiting_line, all_lines}
use Rattle.keyshow.specs.Runs.{WritesPart}
use Rattle.keyshow.proofs.Written.{lines-append}

all_lines-append : (events more : List InputEvent) (waiting : List ℕ)
    → all_lines (events ++ more) waiting ≡ lines events ++ all_lines more waiting
all_lines-append events more waiting = ap (λ l. l ++ waiting_line (length waiting)) (lines-append events more)
    ∙ append_assoc (lines events) (lines more) (waiting_line (length waiting))

-- a writer that got nothing
pub nothing : OneMeaning → (text : List ℕ) (contents : Option (List ℕ)) → WritesPart text contents contents
nothing one text contents =
    let (events, waiting, means, only) = one text false in
    record {
      events = events;
      waiting = waiting;
      part = [];
      means = means;
      begins = (all_lines events waiting, refl);
      written = Appends-nil contents;
    }

-- a writer that got a prefix of the lines of the events that are decided
pub decided : OneMeaning → Resumes
    → (text waiting : List ℕ) (events : List InputEvent) (part : List ℕ) (before after : Option (List ℕ))
    → Means text true events waiting → Begins part (lines events)
    → Appends before after part → WritesPart text before after
decided one resumes text waiting events part before after means (rest, e) written =
    let (more, left, ends, only) = one waiting false in
    let whole = (resumes text [] waiting left events more false).0 means.steps (rw append-nil ends) in
    record {
      events = events ++ more;
      waiting = left;
      part = part;
      means = rw append-nil at whole;
      begins = (
        rest ++ all_lines more left,
        all_lines-append events more left ∙ ap (λ l. l ++ all_lines more left) e
            ∙ append_assoc part rest (all_lines more left),
      );
      written = written;
    }

-- a writer that got the lines of the events that were decided, and then a prefix of the lines of the rest
pub after_lines : Resumes
    → (text more waiting : List ℕ) (events : List InputEvent) (first before after : Option (List ℕ))
    → Means text true events waiting → Appends first before (lines events)
    → WritesPart (waiting ++ more) before after → WritesPart (text ++ more) first after
after_lines resumes text more waiting events first before after means written p = record {
  events = events ++ p.events;
  waiting = p.waiting;
  part = lines events ++ p.part;
  means = (resumes text more waiting p.waiting events p.events false).0 means.steps p.means;
  begins = (
    p.begins.0,
    all_lines-append events p.events p.waiting ∙ ap (λ l. lines events ++ l) p.begins.1
        ∙ sym (append_assoc (lines events) p.part p.begins.0),
  );
  written = Appends-trans first before after (lines events) p.part written p.written;
}

-- the same where no more was read
pub after_all : Resumes → (text waiting : List ℕ) (events : List InputEvent) (first before after : Option (List ℕ))
    → Means text true events waiting → Appends first before (lines events)
    → WritesPart waiting before after → WritesPart text first after
after_all resumes text waiting events first before after means written p =
    rw append-nil at (after_lines resumes text [] waiting events first before after means written (rw append-nil p))

-- a writer that got all of the lines, and could not be flushed
pub unflushed : (text waiting : List ℕ) (events : List InputEvent) (first before after : Option (List ℕ))
    → Means text false events waiting → Appends first before (all_lines events waiting)
    → Keeps before after → WritesPart text first after
unflushed text waiting events first before after means written kept = record {
  events = events;
  waiting = waiting;
  part = all_lines events waiting;
  means = means;
  begins = ([], sym (append-nil (all_lines events waiting)));
  written = Appends-kept first before after (all_lines events waiting) written kept;
}

-- some bytes were written, whatever the outcome
pub any_part : {E : Type 0} (P : List InputEvent → Type 0) (shown : List InputEvent → List ℕ) (text : List ℕ)
    (before after : Option (List ℕ)) (result : Result (Unit {0}) E)
    → OnOk result ((events : List InputEvent) × P events × Appends before after (shown events))
    → OnErr result (WritesPart text before after) → (part : List ℕ) × Appends before after part
any_part P shown text before after (Ok done) ok err = (shown ok.0, ok.2)
any_part P shown text before after (Err fault) ok err = (err.part, err.written)

-- a fact of any error
pub on_err : {T E P : Type 0} (result : Result T E) → P → OnErr result P
on_err (Ok x) p = tt
on_err (Err e) p = p
