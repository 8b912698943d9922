-- The monitor that is on after a record: docs/MONITOR_CASES.md, "A power-on that is accepted begins a new monitor
-- [..]. A power-on that is refused leaves the one before as it was."
use Rattle.std.specs.Prelude.{Option, None, Some, Result, Ok, Err}
use Rattle.refusal.specs.declared.Refusal.{Refusal}
use Rattle.rules.specs.Events.{Event}
use Rattle.monitor.specs.declared.bench.Bench.{Bench}
use Rattle.monitor.specs.Bench.{outcome_of}

-- where no monitor is on, an event reaches nothing
abbrev pub after_event : Option Bench → Event → Option Bench
after_event (Some b) event = Some (outcome_of event b).bench
after_event None event = None

abbrev pub after_power_on : Option Bench → Result Bench Refusal → Option Bench
after_power_on before (Ok b) = Some b
after_power_on before (Err why) = before
