-- What the monitor promises, for every monitor, every event and every history there is. `proofs/Promise` proves it.
use Rattle.std.specs.Prelude.{ℕ, ◌-◌, ◌/◌, ◌≤◌, ◌≡◌, true, List, [], ◌∷◌, ◌↔◌, is_ok, Ok}
use Rattle.refusal.specs.Conditions.{First, NoneHolds, GivenExactly}
use Rattle.maintenance_pages.specs.Means.{Acceptable}
use Rattle.maintenance_pages.specs.Messages.{quiet as no_reply}
use Rattle.time.specs.declared.Stamp.{Stamp}
use Rattle.time.specs.Times.{ticks_between}
use Rattle.rules.specs.Events.{Event, PowerOn, IsAccepted, stamp_of, last_stamp, Run, accepted_of}
use Rattle.rules.specs.Rules.{woken, step}
use Rattle.rules.specs.History.{stored_after, last_start, reply_to}
use Rattle.rules.specs.Alike.{AlikeEvents, AlikeHistories}
use Rattle.rules.specs.Demand.{Demand}
use Rattle.rules.specs.Given.{on, ticks, given_reply}
use Rattle.rules.specs.Promise.{Fresh, OnIdentifier, state_of}
use Rattle.monitor.specs.declared.bench.Bench.{Bench}
use Rattle.monitor.specs.Bench.{outcome_of, reply_of, powered_on, uptime_asked, bench_at, after}
use Rattle.monitor.specs.Told.{told_outcome, told_power_on, told_uptime, event_conditions, power_on_conditions, uptime_conditions}

-- ---- answered or refused

-- An event: where it is refused the bench is the very one that was given and there is no reply; where it is accepted the monitor is the one
-- that the rules give, and the event's stamp is now the last accepted one.
pub record Handles (e : Event) (b : Bench) : Type 0 where
  pub exactly : GivenExactly (told_outcome (outcome_of e b)) (event_conditions e b) (given_reply (step e b.monitor).reply)
  pub same : (n : ℕ) → First n (event_conditions e b) → ((outcome_of e b).bench ≡ b) × (reply_of (outcome_of e b) ≡ no_reply)
  pub next : NoneHolds (event_conditions e b) → (outcome_of e b).bench ≡ bench_at (stamp_of e) (step e b.monitor).monitor

-- Power-on: 8 exactly when the settings or the rating are not legal; where they are, the monitor starts at the stamp.
pub record PowersOn (p : PowerOn) : Type 0 where
  pub exactly : GivenExactly (told_power_on (powered_on p.at p.serial p.rating p.settings)) (power_on_conditions p) on
  pub fresh : IsAccepted p → Fresh p.serial p.rating p.settings p.at (after p []).monitor
  pub last : IsAccepted p → (after p []).last ≡ p.at

-- ---- after any history of events

pub record Holds (p : PowerOn) (h : List Event) : Type 0 where
  -- the events that are accepted make a run, and the others change nothing
  pub run : Run p (accepted_of p h)
  pub same : after p h ≡ after p (accepted_of p h)
  -- so the stored six are those worked out from what was accepted
  pub stored : (after p h).monitor.stored ≡ stored_after p (accepted_of p h)
  -- it is still the same unit
  pub serial : (after p h).monitor.serial ≡ p.serial
  pub rating : (after p h).monitor.rating ≡ p.rating
  -- the stored six are legal: a level is never 0, and a voltage never reaches the rating
  pub legal : Acceptable p.rating (after p h).monitor.stored
  -- "Every reply is on the transmit identifier stored before the event."
  pub identifier : (e : Event) → OnIdentifier (after p h).monitor.stored.transmit (reply_of (outcome_of e (after p h)))
  -- the last start, silence counted, is not after the question, so that the uptime is a true difference
  pub start : (at : Stamp) → (after p h).last.0 ≤ at.0 → (woken at (after p h).monitor).start.0 ≤ at.0

-- ---- bytes past the length

-- histories that differ only there leave the same bench, and what comes next, such events too, is answered alike: refusal, reply and all
pub record SameBench (p : PowerOn) (h h' : List Event) : Type 0 where
  pub bench : after p h ≡ after p h'
  pub outcome : (e e' : Event) → AlikeEvents e e' → outcome_of e (after p h) ≡ outcome_of e' (after p h')

-- ---- demand 3

-- a run is what the functions accept, one after another
pub record RunsAreAccepted (p : PowerOn) : Type 0 where
  pub power_on : Run p [] ↔ is_ok (powered_on p.at p.serial p.rating p.settings) ≡ true
  pub event : (e : Event) (h : List Event) → Run p h → Run p (e ∷ h) ↔ is_ok (outcome_of e (after p h)).answer ≡ true

-- after a run the stored six, the next reply, the last start and the uptime are those worked out from the history
pub record WorkedOut (p : PowerOn) (h : List Event) : Type 0 where
  pub stored : (after p h).monitor.stored ≡ stored_after p h
  pub reply : (e : Event) → Run p (e ∷ h) → reply_of (outcome_of e (after p h)) ≡ reply_to p h e
  pub start : (t : Stamp) → (last_stamp p h).0 ≤ t.0 → (woken t (after p h).monitor).start ≡ last_start p h t
  pub uptime : (t : Stamp) → (last_stamp p h).0 ≤ t.0 → uptime_asked t (after p h) ≡ Ok (ticks_between (last_start p h t) t)

-- ---- the promise

pub record Promise : Type 0 where
  pub events : (e : Event) (b : Bench) → Handles e b
  pub power_on : (p : PowerOn) → PowersOn p
  pub uptime : (at : Stamp) (b : Bench) → GivenExactly (told_uptime (uptime_asked at b)) (uptime_conditions at b) (ticks ((at.0 - (woken at b.monitor).start.0) / 10))
  pub history : (p : PowerOn) → IsAccepted p → (h : List Event) → Holds p h
  pub past_length : (p : PowerOn) (h h' : List Event) → AlikeHistories h h' → SameBench p h h'
  pub runs : (p : PowerOn) → RunsAreAccepted p
  pub worked_out : (p : PowerOn) (h : List Event) → Run p h → WorkedOut p h
  -- in the demand's own words, of the monitor on the bench
  pub demand_3 : (p : PowerOn) → Demand p (state_of (λ h. (after p h).monitor))
