-- Events, power-on and the uptime question: answered, or refused by the first condition that holds. Assumes nothing.
use Prim.Native.Nat.{ℕ, ◌-◌, ◌/◌}
use mathlib.Core.Path.{◌≡◌, refl}
use mathlib.Core.Bool.{Bool, true, false, not, cond}
use mathlib.Core.List.{[], ◌∷◌}
use Rattle.refusal.specs.declared.Refusal.TheVariants.{OverLimits, EarlyStamp, NotLegal}
use Rattle.std.specs.Prelude.{Ok, Err}
use Rattle.refusal.specs.Conditions.{◌when◌, First, NoneHolds, GivenExactly}
use Rattle.refusal.proofs.Conditions.{pick, given_exactly, first_not_none}
use Rattle.time.specs.declared.Stamp.{Stamp}
use Rattle.time.specs.declared.Ticks.{Ticks}
use Rattle.rules.specs.declared.unit.Turn.{Turn}
use Rattle.monitor.specs.declared.bench.Bench.{Bench}
use Rattle.time.specs.Times.{earlier}
use Rattle.maintenance_pages.specs.Settings.{accepted}
use Rattle.maintenance_pages.specs.Messages.{quiet as no_reply}
use Rattle.rules.specs.Rules.{woken, uptime_of, step, unit_after}
use Rattle.rules.specs.Events.{Event, PowerOn, beyond, stamp_of}
use Rattle.monitor.specs.Bench.{Outcome, reply_of, early, refused_by, accepted_at, outcome_of, powered_on, uptime_asked, bench_at, after}
use Rattle.rules.specs.Given.{on, ticks, given_reply}
use Rattle.monitor.specs.Told.{told_outcome, told_power_on, told_uptime, event_conditions, power_on_conditions, uptime_conditions}
use Rattle.monitor.specs.Promise.{Handles, PowersOn}
use Rattle.rules.proofs.Promise.{promise as rules}

-- ---- events, over the two tests

module _ (b : Bench) (at : Stamp) (t : Turn) where
  abbrev in_order : Bool → Bool → Outcome
  in_order over late = cond over (refused_by OverLimits b) (cond late (refused_by EarlyStamp b) (accepted_at at t))

  told : (x y : Bool) → told_outcome (in_order x y) ≡ pick ((1 when x) ∷ (7 when y) ∷ []) (given_reply t.reply)
  told true y = refl
  told false true = refl
  told false false = refl

  same : (x y : Bool) (n : ℕ) → First n ((1 when x) ∷ (7 when y) ∷ []) → ((in_order x y).bench ≡ b) × (reply_of (in_order x y) ≡ no_reply)
  same true y n h = (refl, refl)
  same false true n h = (refl, refl)
  same false false n h = absurd (first_not_none n ((1 when false) ∷ (7 when false) ∷ []) h (refl, (refl, tt)))

  next : (x y : Bool) → NoneHolds ((1 when x) ∷ (7 when y) ∷ []) → (in_order x y).bench ≡ bench_at at t.monitor
  next x y h = rw (h.0, h.1.0) refl

pub handles : (e : Event) (b : Bench) → Handles e b
handles e b =
    let t = step e b.monitor in
    record {
      exactly = given_exactly (told_outcome (outcome_of e b)) (event_conditions e b) (given_reply t.reply) (told b (stamp_of e) t (beyond e) (early e b));
      same = same b (stamp_of e) t (beyond e) (early e b);
      next = next b (stamp_of e) t (beyond e) (early e b);
    }

-- ---- power-on, and the uptime question

on_told : (x : Bool) (b : Bench) → told_power_on (cond x (Ok b) (Err NotLegal)) ≡ pick ((8 when not x) ∷ []) on
on_told true b = refl
on_told false b = refl

pub powers_on : (p : PowerOn) → PowersOn p
powers_on p =
    record {
      exactly = given_exactly (told_power_on (powered_on p.at p.serial p.rating p.settings)) (power_on_conditions p) on (on_told (accepted p.rating p.settings) _);
      fresh = λ a. rw (after, a) ((rules.starts (unit_after p [])).fresh p.at p.settings);
      last = λ a. rw (after, a) refl;
    }

ticks_told : (x : Bool) (t : Ticks) → told_uptime (cond x (Err EarlyStamp) (Ok t)) ≡ pick ((7 when x) ∷ []) (ticks t.0)
ticks_told true t = refl
ticks_told false t = refl

pub uptime_told : (at : Stamp) (b : Bench) → GivenExactly (told_uptime (uptime_asked at b)) (uptime_conditions at b) (ticks ((at.0 - (woken at b.monitor).start.0) / 10))
uptime_told at b =
    given_exactly (told_uptime (uptime_asked at b)) (uptime_conditions at b) (ticks ((at.0 - (woken at b.monitor).start.0) / 10))
    (ticks_told (earlier at b.last) (uptime_of at b.monitor))
