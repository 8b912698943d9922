-- What stands on the bench after a run, and that power-on and an accepted event go on with it; a refused one does not. Assumes nothing.
use Prim.Native.Nat.{◌≤◌}
use mathlib.Core.Path.{◌≡◌, refl, sym, ap, subst, ◌∙◌}
use mathlib.Core.Bool.{Bool, true, false}
use mathlib.Core.List.{List, [], ◌∷◌}
use borrow.Author.Tests.{le-ltb, ltb-false}
use Rattle.words.proofs.Tests.{decided, false_true}
use Rattle.maintenance_pages.specs.Settings.{accepted}
use Rattle.maintenance_pages.specs.Messages.{quiet}
use Rattle.monitor.specs.declared.bench.Bench.{Bench}
use Rattle.rules.specs.Events.{Event, PowerOn, stamp_of, beyond, last_stamp, Run}
use Rattle.std.specs.Prelude.{is_ok}
use Rattle.monitor.specs.Bench.{Outcome, reply_of, early, outcome_of, accepted_at, powered_on, bench_at, after}
use Rattle.rules.specs.Rules.{step, unit_after}

-- ---- what stands on the bench after a run

in_order : (p : PowerOn) (e : Event) (h : List Event) → Run p (e ∷ h) → outcome_of e (bench_at (last_stamp p h) (unit_after p h)) ≡ accepted_at (stamp_of e) (step e (unit_after p h))
in_order p e h r = rw (r.0, le-ltb (stamp_of e).0 (last_stamp p h).0 r.1.0) refl

pub bench_after : (p : PowerOn) (h : List Event) → Run p h → after p h ≡ bench_at (last_stamp p h) (unit_after p h)
bench_after p [] a = rw (after, a) refl
bench_after p (e ∷ h) r =
    ap (λ (b : Bench). (outcome_of e b).bench) (bench_after p h r.1.1) ∙ ap (λ (o : Outcome). o.bench) (in_order p e h r)

-- a run's next event is accepted
pub accepted_next : (p : PowerOn) (e : Event) (h : List Event) → Run p (e ∷ h) → outcome_of e (after p h) ≡ accepted_at (stamp_of e) (step e (unit_after p h))
accepted_next p e h r = ap (outcome_of e) (bench_after p h r.1.1) ∙ in_order p e h r

-- ---- an event

-- an event that is accepted goes on with the run
pub run_further : (p : PowerOn) (e : Event) (h : List Event) → Run p h → is_ok (outcome_of e (after p h)).answer ≡ true → Run p (e ∷ h)
run_further p e h r a =
    decided (beyond e)
    (λ x. false_true (sym (rw x at a)))
    (λ x. decided (early e (after p h))
    (λ y. false_true (sym (rw (x, y) at a)))
    (λ y. (
      x,
      (subst (λ (c : Bench). c.last.0 ≤ (stamp_of e).0) (bench_after p h r) (ltb-false (stamp_of e).0 (after p h).last.0 y), r),
    )))

pub same : (e : Event) (b : Bench) → is_ok (outcome_of e b).answer ≡ false → ((outcome_of e b).bench ≡ b) × (reply_of (outcome_of e b) ≡ quiet)
same e b a =
    decided (beyond e)
    (λ x. rw x (refl, refl))
    (λ x. decided (early e b)
    (λ y. rw (x, y) (refl, refl))
    (λ y. false_true (rw (x, y) at a)))

-- ---- power-on

pub run_on : (p : PowerOn) (test : Bool) → accepted p.rating p.settings ≡ test → is_ok (powered_on p.at p.serial p.rating p.settings) ≡ true → Run p []
run_on p true t a = t
run_on p false t a = false_true (sym (rw t at a))
