-- The line that answers a record of docs/MONITOR_CASES.md, by the monitor that is on.
use Rattle.std.specs.Prelude.{ℕ, Option, None, Some, Result, List, ◌++◌}
use Rattle.time.specs.declared.Stamp.{Stamp}
use Rattle.rules.specs.Events.{Event}
use Rattle.monitor.specs.declared.bench.Bench.{Bench}
use Rattle.refusal.specs.declared.Refusal.{Refusal}
use Rattle.monitor.specs.Bench.{Outcome, outcome_of, uptime_asked}
use Rattle.show.specs.Lines.{line_feed}
use Rattle.monitor_cases.specs.Monitors.{after_power_on}
use Rattle.monitor_cases.specs.Lines.{stored_text, outcome_text, power_on_text, uptime_text, no_monitor_text}

-- an uptime question, by the monitor that is on
abbrev pub question_line : Option Bench → Stamp → List ℕ
question_line (Some b) at = uptime_text (uptime_asked at b) ++ stored_text b
question_line None at = no_monitor_text

-- an event, likewise
abbrev pub shown_line : Outcome → List ℕ
shown_line o = outcome_text o.answer ++ stored_text o.bench

abbrev pub event_line : Option Bench → Event → List ℕ
event_line (Some b) event = shown_line (outcome_of event b)
event_line None event = no_monitor_text

-- a power-on: the second part has the monitor that is on after it, if there is one
abbrev pub second : Option Bench → List ℕ
second (Some b) = stored_text b
second None = line_feed

abbrev pub power_on_line : Option Bench → Result Bench Refusal → List ℕ
power_on_line before n = power_on_text n ++ second (after_power_on before n)
