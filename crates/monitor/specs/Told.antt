-- What is told on paper: for each case of an enum that a call gives, document 01's number and values.
use Rattle.std.specs.Prelude.{not, List, [], ◌∷◌, Result}
use Rattle.refusal.specs.declared.Refusal.{Refusal}
use Rattle.refusal.specs.Conditions.{Condition, ◌when◌, Told, told}
use Rattle.time.specs.declared.Stamp.{Stamp}
use Rattle.time.specs.declared.Ticks.{Ticks}
use Rattle.monitor.specs.declared.bench.Bench.{Bench}
use Rattle.time.specs.Times.{earlier}
use Rattle.maintenance_pages.specs.Settings.{accepted}
use Rattle.rules.specs.Events.{Event, PowerOn, beyond}
use Rattle.rules.specs.Given.{Given, on, ticks, given_reply}
use Rattle.monitor.specs.Bench.{Outcome, early}

abbrev pub told_outcome : Outcome → Told Given
told_outcome o = told given_reply o.answer

abbrev pub told_power_on : Result Bench Refusal → Told Given
told_power_on = told (λ b. on)

abbrev pub told_uptime : Result Ticks Refusal → Told Given
told_uptime = told (λ t. ticks t.0)

-- ---- the conditions of the refusals

-- "Event: 1, 7."
abbrev pub event_conditions : Event → Bench → List Condition
event_conditions e b = (1 when beyond e) ∷ (7 when early e b) ∷ []

-- "8: power-on settings, rating or log block not legal"
abbrev pub power_on_conditions : PowerOn → List Condition
power_on_conditions p = (8 when not (accepted p.rating p.settings)) ∷ []

-- "7 for an early stamp"
abbrev pub uptime_conditions : Stamp → Bench → List Condition
uptime_conditions at b = (7 when earlier at b.last) ∷ []
