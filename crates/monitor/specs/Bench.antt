-- The monitor on the bench: the refusals 1 and 7 and power-on's 8, and what stands there after a history.
use Rattle.std.specs.Prelude.{ℕ, Bool, cond, List, [], ◌∷◌, replicate, Option, None, Result, Ok, Err}
use Rattle.std.specs.Result.{result_unwrap_or}
use Rattle.refusal.specs.declared.Refusal.{Refusal}
use Rattle.refusal.specs.declared.Refusal.TheVariants.{OverLimits, EarlyStamp, NotLegal}
use Rattle.codec_pages.specs.declared.frame.Frame.{Frame}
use Rattle.time.specs.declared.Stamp.{Stamp}
use Rattle.time.specs.declared.Ticks.{Ticks}
use Rattle.maintenance_pages.specs.declared.setting.Settings.{Settings}
use Rattle.rules.specs.declared.unit.Monitor.{Monitor}
use Rattle.rules.specs.declared.unit.Turn.{Turn}
use Rattle.monitor.specs.declared.bench.Bench.{Bench}
use Rattle.time.specs.Times.{earlier}
use Rattle.maintenance_pages.specs.Settings.{accepted}
use Rattle.rules.specs.Rules.{started_with, uptime_of, step}
use Rattle.rules.specs.Events.{Event, PowerOn, stamp_of, beyond}

-- refusal 7: "a stamp earlier than the last accepted one (or power-on)"
abbrev pub early : Event → Bench → Bool
early e b = earlier (stamp_of e) b.last

-- what an event gives: its reply, if there is one, or why it is refused; and the bench after it
pub record Outcome : Type 0 where
  pub answer : Result (Option Frame) Refusal
  pub bench : Bench

-- a refused event has no reply
abbrev pub reply_in : Result (Option Frame) Refusal → Option Frame
reply_in answer = result_unwrap_or answer None

abbrev pub reply_of : Outcome → Option Frame
reply_of o = reply_in o.answer

-- "state and lent memory are unchanged"
abbrev pub refused_by : Refusal → Bench → Outcome
refused_by why b = record { answer = Err why; bench = b }

abbrev pub accepted_at : Stamp → Turn → Outcome
accepted_at at t = record { answer = Ok t.reply; bench = record { monitor = t.monitor; last = at } }

-- "Event: 1, 7."
abbrev pub outcome_of : Event → Bench → Outcome
outcome_of e b =
    cond (beyond e) (refused_by OverLimits b)
    (cond (early e b) (refused_by EarlyStamp b)
    (accepted_at (stamp_of e) (step e b.monitor)))

-- ---- power-on

abbrev pub zero_settings : Settings
zero_settings = record { receive = 0; transmit = 0; speed = 0; voltage = 0; warning = 0; fault = 0 }

abbrev pub zero_stamp : Stamp
zero_stamp = record { 0 = 0 }

abbrev pub bench_at : Stamp → Monitor → Bench
bench_at at m = record { monitor = m; last = at }

-- what stands where no monitor is on
abbrev pub no_bench : Bench
no_bench = bench_at zero_stamp (started_with (replicate 16 0) 0 zero_settings zero_stamp)

-- refusal 8. A refusal returns the number alone: no monitor is on
abbrev pub powered_on : Stamp → List ℕ → ℕ → Settings → Result Bench Refusal
powered_on at serial rating k = cond (accepted rating k) (Ok (bench_at at (started_with serial rating k at))) (Err NotLegal)

-- ---- the uptime question

abbrev pub uptime_asked : Stamp → Bench → Result Ticks Refusal
uptime_asked at b = cond (earlier at b.last) (Err EarlyStamp) (Ok (uptime_of at b.monitor))

-- ---- histories

-- the bench after power-on and a history of events, the newest first. A refused event leaves it as it was
abbrev pub after : PowerOn → List Event → Bench
after p [] = result_unwrap_or (powered_on p.at p.serial p.rating p.settings) no_bench
after p (e ∷ h) = (outcome_of e (after p h)).bench
