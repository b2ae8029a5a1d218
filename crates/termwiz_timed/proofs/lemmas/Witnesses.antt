-- Runs of which the laws speak: no hypothesis of theirs is empty.
use Rattle.std.proofs.Common.{◌≡◌, ◌≢◌, ℕ, true, false, List, [], ◌∷◌, ◌++◌, append_assoc, append-nil, Some, None, refl, sym, ap, ◌∙◌, subst, arith}
use Rattle.std.specs.Prelude.{codes}
use Rattle.std.specs.List.{AllByRecursion}
use Rattle.termwiz_keys.specs.Introducers.{ESC, START}
use Rattle.termwiz_input.specs.declared.time.Age.TheVariants.{Last}
use Rattle.termwiz_input.specs.declared.time.Limit.{Limit}
use Rattle.termwiz_input.specs.Time.{usual}
use Rattle.termwiz_extended_grammar.specs.ExtendedGrammar.{IsRest, escape_event}
use Rattle.termwiz_input_extended.specs.ExtendedExpiry.{IsLimitOf}
use Rattle.termwiz_timed.specs.declared.parser.Stage.TheVariants as stage
use Rattle.termwiz_timed.specs.declared.parser.TimedEvent.TheVariants.{Whole}
use Rattle.termwiz_timed.specs.Timed.{Timed, IsFlushing, IsTimeout}
use Rattle.termwiz_timed.specs.Timed.HasPassed.{by_policy as passed_policy}
use Rattle.termwiz_timed.specs.Steps.{Call, Step}
use Rattle.termwiz_timed.specs.Steps.Call.{Feed, Idle}
use Rattle.termwiz_timed.specs.Runs.{IsOverdue, IsRun, Moment, WasOpen, last_of, told_of}
use Rattle.termwiz_timed.specs.Runs.IsOverdue.{by_policy, by_interruption}
use Rattle.termwiz_timed.specs.RunLaws.{AreInTime, AreWithinASecond, IsInTime, IsItsLimit, IsNoEarlier, LeavesPastes, Waits}
use Rattle.termwiz_timed.specs.Segments.{IsSegment}
use Rattle.termwiz_timed.specs.WorkedRuns.{AreRuns, Follow, calls_of, parser}
use Rattle.termwiz_timed.specs.WorkedRuns.Follow.{next, nothing}
use Rattle.termwiz_timed.proofs.lemmas.DueInTime.{limit_once}
use Rattle.termwiz_timed.proofs.lemmas.WorkedOut.{early, escape_at_50, escape_waits, open_at, paste_goes_on, pasting, told_ready, untold_ready, usual_course}
use Rattle.termwiz_timed.proofs.lemmas.WorkedSteps.{escape_limit, never, not_passed, paste_limit, short_endless}

-- the moments of calls that follow, after earlier ones
abbrev moments_from : (first : Timed) (calls : List Call) → Follow first calls → List Moment → List Moment
moments_from first [] (nothing same) earlier = earlier
moments_from first (call ∷ calls) (next same second given others step later) earlier =
    moments_from second calls later (record { call = call; after = second } ∷ earlier)

-- they are a run
run_from : (start : Timed) (earlier : List Moment) (first : Timed) (calls : List Call) (follow : Follow first calls) → last_of start earlier ≡ first
    → IsRun start earlier → IsRun start (moments_from first calls follow earlier)
run_from start earlier first [] (nothing same) at run = run
run_from start earlier first (call ∷ calls) (next same second given others step later) at run =
    run_from start (record { call = call; after = second } ∷ earlier) second calls later refl
    (run, subst (λ (p : Timed). Step p call second) (sym at) step)

calls_from : (earlier : List Moment) (first : Timed) (calls : List Call) (follow : Follow first calls)
    → calls_of (moments_from first calls follow earlier) ≡ calls_of earlier ++ calls
calls_from earlier first [] (nothing same) = sym (append-nil (calls_of earlier))
calls_from earlier first (call ∷ calls) (next same second given others step later) =
    calls_from (record { call = call; after = second } ∷ earlier) second calls later ∙ append_assoc (calls_of earlier) (call ∷ []) calls

pub are_runs : AreRuns
are_runs first calls follow =
    (moments_from first calls follow [], run_from first [] first calls follow refl tt, calls_from [] first calls follow)

-- a run that tells an Escape
abbrev escapes : List Moment
escapes = moments_from parser _ escape_at_50 []

escapes_run : IsRun parser escapes
escapes_run = run_from parser [] parser _ escape_at_50 refl tt

-- `Exact` and `Bounded` speak of it
pub exact_speaks : IsRun parser (escapes ++ []) × IsSegment escapes × ((last_of parser (escapes ++ [])).stage ≡ stage.AllTold)
    × (told_of escapes ≡ Whole escape_event ∷ [])
exact_speaks = (escapes_run, (tt, (tt, (tt, (tt, (tt, (tt, tt)))))), refl, refl)

-- a run after which an ESC waits
abbrev pub waiting : List Moment
waiting = moments_from parser _ escape_waits []

waiting_run : IsRun parser waiting
waiting_run = run_from parser [] parser _ escape_waits refl tt

abbrev fifty : Limit
fifty = record { millis = Some 50; by = Last }

-- `OnTime` speaks of it, of a call at which the ESC is due and of one at which it isn't
pub on_time_speaks : IsRun parser waiting × IsItsLimit (last_of parser waiting) fifty
    × ((after : Timed) × Step (last_of parser waiting) (Idle 49 false) after)
    × ((after : Timed) × Step (last_of parser waiting) (Idle 50 true) after)
on_time_speaks = (
  waiting_run,
  record { limited = escape_limit _ _; in_range = omega arith },
  (
    _,
    record {
      limit = fifty;
      limited = escape_limit _ _;
      is_due = (never _, λ h. absurd (not_passed _ _ 49 (early 49 50 (omega arith)) (usual_course _) h.1));
      noted = refl;
    },
  ),
  (
    _,
    record {
      limit = fifty;
      limited = escape_limit _ _;
      is_due = ((λ e. (refl, passed_policy (record { millis = 50; limited = refl; reached = omega arith }))), λ h. refl);
      noted = refl;
    },
  ),
)

-- `TimeoutIsRight` does
pub timeout_speaks : IsRun parser waiting × IsNoEarlier waiting 0 × IsTimeout (last_of parser waiting) 0 (Some 50)
timeout_speaks = (
  waiting_run,
  record { time = 0; last_call = refl; no_later = omega arith },
  record {
    untold = λ not. absurd (not refl);
    told = λ told. (
      fifty,
      escape_limit _ _,
      λ noted. (
        (λ time later. passed_policy (record { millis = 50; limited = refl; reached = omega (arith, later) })),
        λ some time before. not_passed _ _ time (early _ 50 (omega (arith, before))) (usual_course _),
      ),
    );
  },
)

-- a run in which a paste begins, and one in which it goes on
abbrev begun : List Moment
begun = record { call = Feed 0 (START ++ codes "x"); after = pasting } ∷ []

abbrev pub pasted : List Moment
pasted = moments_from pasting _ paste_goes_on []

pasted_run : IsRun parser (pasted ++ begun)
pasted_run = run_from parser begun pasting _ paste_goes_on refl (tt, (told_ready, refl))

-- while it is open nothing is overdue
open_in_time : (earlier : List Moment) (body : List ℕ) (now : ℕ) → (last_of parser earlier).text ≡ START ++ body
    → IsRest (last_of parser earlier).reading (last_of parser earlier).text true → (last_of parser earlier).policy ≡ usual → ¬ WasOpen parser earlier
    → IsInTime parser earlier (Idle now false)
open_in_time earlier body now at rest policy closed limit is overdue = by overdue
  where
    last : Timed
    last = last_of parser earlier

    none : limit.millis ≡ None
    none =
        let its : IsLimitOf (last_of parser earlier).policy (last_of parser earlier).reading (last_of parser earlier).text (record { millis = None; by = Last }) =
        subst (λ p. IsLimitOf p (last_of parser earlier).reading (last_of parser earlier).text (record { millis = None; by = Last })) (sym policy)
        (subst (λ t. IsLimitOf usual (last_of parser earlier).reading t (record { millis = None; by = Last })) (sym at)
        (paste_limit usual (last_of parser earlier).reading body)) in
        ap (λ (l : Limit). l.millis) (limit_once _ _ _ limit (record { millis = None; by = Last }) rest is its)

    by : IsOverdue parser earlier limit now → ⊥
    by (by_policy millis limited passed) = cc (none, limited)
    by (by_interruption was what passed) = closed was

-- `NoPauseMatters` speaks of it
pub no_pause_speaks : IsRun parser (pasted ++ begun) × AllByRecursion (λ (moment : Moment). Waits moment.call) pasted
    × (¬ IsFlushing (last_of parser begun).stage) × AreInTime parser begun pasted × ((last_of parser (pasted ++ begun)).stage ≡ stage.AllTold)
no_pause_speaks = (
  pasted_run,
  (tt, (tt, (tt, (tt, (tt, (tt, (tt, (tt, tt)))))))),
  untold_ready,
  (
    (
      (
        (
          (
            (
              (
                (tt, tt),
                open_in_time _ (codes "x") 100000 refl (open_at _ (codes "x") _ (short_endless (codes "x") (omega arith))) refl (λ h. h),
              ),
              tt,
            ),
            tt,
          ),
          open_in_time _ (codes "x" ++ ESC) 200000 refl (open_at _ (codes "x" ++ ESC) _ (short_endless (codes "x" ++ ESC) (omega arith))) refl (λ h. h),
        ),
        tt,
      ),
      tt,
    ),
    tt,
  ),
  refl,
)

-- and `PasteIsInert` does
pub inert_speaks : IsRun parser (pasted ++ begun) × ((last_of parser begun).text ≡ START ++ codes "x")
    × ((last_of parser begun).stage ≢ stage.Ending) × ((last_of parser begun).policy.paste ≡ None)
    × AllByRecursion (λ (moment : Moment). LeavesPastes moment.call) pasted × AreWithinASecond parser begun pasted
inert_speaks = (
  pasted_run,
  refl,
  (λ e. cc (e)),
  refl,
  (tt, (tt, (tt, (tt, (tt, (tt, (tt, (tt, tt)))))))),
  ((((((((tt, tt), (λ h. absurd h)), tt), tt), (λ h. absurd h)), tt), tt), tt),
)
