-- After every run of accepted events the bench is what the history says, and its monitor meets the demand in its own words. Assumes nothing.
use mathlib.Core.Path.{◌≡◌, refl, sym, ap, ◌∙◌}
use mathlib.Core.List.{List}
use borrow.Author.Tests.{le-ltb}
use Rattle.maintenance_pages.specs.Settings.{accepted}
use Rattle.rules.specs.declared.unit.Monitor.{Monitor}
use Rattle.rules.specs.Rules.{woken, unit_after}
use Rattle.rules.specs.Events.{Event, PowerOn, last_stamp, Run}
use Rattle.rules.specs.Demand.{Demand, Same}
use Rattle.rules.specs.Promise.{is_open, state_of}
use Rattle.rules.proofs.Promise.{promise as rules}
use Rattle.monitor.specs.declared.bench.Bench.{Bench}
use Rattle.std.specs.Prelude.{Ok, is_ok}
use Rattle.time.specs.declared.Ticks.{Ticks}
use Rattle.monitor.specs.Bench.{Outcome, reply_of, uptime_asked, after}
use Rattle.monitor.specs.Promise.{RunsAreAccepted, WorkedOut}
use Rattle.monitor.proofs.Reached.{bench_after, accepted_next, run_further, run_on}

pub runs_accepted : (p : PowerOn) → RunsAreAccepted p
runs_accepted p =
    record {
      power_on = (λ a. rw a refl, run_on p (accepted p.rating p.settings) refl);
      event = λ e h r. (
        λ run. ap (λ (o : Outcome). is_ok o.answer) (accepted_next p e h run),
        run_further p e h r,
      );
    }

-- the unit on the bench
pub unit_there : (p : PowerOn) (h : List Event) → Run p h → (after p h).monitor ≡ unit_after p h
unit_there p h r = ap (λ (b : Bench). b.monitor) (bench_after p h r)

pub worked_out : (p : PowerOn) (h : List Event) → Run p h → WorkedOut p h
worked_out p h r =
    let unit = rules.worked_out p h r in
    record {
      stored = ap (λ (m : Monitor). m.stored) (unit_there p h r) ∙ unit.stored;
      reply = λ e run. ap (λ (o : Outcome). reply_of o) (accepted_next p e h run) ∙ unit.reply e run;
      start = λ t l. ap (λ (m : Monitor). (woken t m).start) (unit_there p h r) ∙ unit.start t l;
      uptime = λ t l.
          ap (uptime_asked t) (bench_after p h r)
          ∙ rw (le-ltb t.0 (last_stamp p h).0 l) (ap (λ (x : Ticks). Ok x) (unit.uptime t l));
    }

bench_same : (p : PowerOn) (h : List Event) → Run p h → Same p (state_of (λ h. unit_after p h)) (state_of (λ h. (after p h).monitor)) h
bench_same p h r =
    let there = sym (unit_there p h r) in
    record {
      stored = ap (λ (m : Monitor). m.stored) there;
      session = λ t l. ap (λ (m : Monitor). is_open (woken t m).phase) there;
      start = λ t l. ap (λ (m : Monitor). (woken t m).start) there;
    }

pub demand_3 : (p : PowerOn) → Demand p (state_of (λ h. (after p h).monitor))
demand_3 p = (rules.demand_3 p).alike (state_of (λ h. unit_after p h)) (state_of (λ h. (after p h).monitor)) (rules.demand_3 p).unit (bench_same p)
