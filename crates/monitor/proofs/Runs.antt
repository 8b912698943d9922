-- After any events at all: the accepted ones make a run, and what holds of it holds. Assumes nothing.
use Prim.Native.Nat.{ℕ, ◌≤◌}
use mathlib.Core.Path.{◌≡◌, refl, sym, ap, subst, ◌∙◌}
use mathlib.Core.Bool.{Bool, true, false, cond}
use mathlib.Core.List.{List, [], ◌∷◌}
use native.Mathlib.Omega.{arith}
use borrow.Author.Tests.{ltb-false}
use Rattle.words.proofs.Tests.{decided}
use Rattle.refusal.specs.declared.Refusal.TheVariants.{OverLimits, EarlyStamp}
use Rattle.maintenance_pages.specs.Means.{Acceptable}
use Rattle.time.specs.declared.Stamp.{Stamp}
use Rattle.rules.specs.declared.unit.Monitor.{Monitor}
use Rattle.rules.specs.declared.unit.Turn.{Turn}
use Rattle.monitor.specs.declared.bench.Bench.{Bench}
use Rattle.time.specs.Times.{earlier}
use Rattle.rules.specs.Rules.{woken, step}
use Rattle.rules.specs.Events.{Event, PowerOn, IsAccepted, stamp_of, beyond, last_stamp, Run, accepted_of}
use Rattle.std.specs.Prelude.{is_ok, None}
use Rattle.monitor.specs.Bench.{Outcome, reply_of, early, refused_by, accepted_at, outcome_of, after}
use Rattle.rules.specs.History.{stored_after, reply_to}
use Rattle.rules.specs.Promise.{OnIdentifier}
use Rattle.rules.proofs.Promise.{promise as rules}
use Rattle.rules.specs.Alike.{AlikeEvents, AlikeHistories}
use Rattle.monitor.specs.Promise.{Holds, SameBench}
use Rattle.monitor.proofs.Reached.{bench_after, same}
use Rattle.monitor.proofs.WorkedOut.{worked_out, runs_accepted, unit_there}

-- ---- what is accepted of any events

accepted_run : (p : PowerOn) → IsAccepted p → (h : List Event) → Run p (accepted_of p h)
accepted_run p a [] = a
accepted_run p a (e ∷ h) =
    decided (beyond e)
    (λ x. rw x (accepted_run p a h))
    (λ x. decided (earlier (stamp_of e) (last_stamp p (accepted_of p h)))
    (λ y. rw (x, y) (accepted_run p a h))
    (λ y. rw (x, y) (x, (ltb-false (stamp_of e).0 (last_stamp p (accepted_of p h)).0 y, accepted_run p a h))))

refused_over : (e : Event) (b : Bench) → beyond e ≡ true → (outcome_of e b).bench ≡ b
refused_over e b x = rw x refl

refused_early : (e : Event) (b : Bench) → beyond e ≡ false → early e b ≡ true → (outcome_of e b).bench ≡ b
refused_early e b x y = rw (x, y) refl

accepted_same : (p : PowerOn) → IsAccepted p → (h : List Event) → after p h ≡ after p (accepted_of p h)
accepted_same p a [] = refl
accepted_same p a (e ∷ h) =
    let g = accepted_of p h in
    let before : after p h ≡ after p g = accepted_same p a h in
    let last : early e (after p h) ≡ earlier (stamp_of e) (last_stamp p g) = ap (λ (b : Bench). early e b) (before ∙ bench_after p g (accepted_run p a h)) in
    decided (beyond e)
    (λ x. let left : accepted_of p (e ∷ h) ≡ g = rw x refl in refused_over e (after p h) x ∙ (before ∙ ap (after p) (sym left)))
    (λ x. decided (earlier (stamp_of e) (last_stamp p g))
    (λ y. let left : accepted_of p (e ∷ h) ≡ g = rw (x, y) refl in refused_early e (after p h) x (last ∙ y) ∙ (before ∙ ap (after p) (sym left)))
    (λ y. let kept : accepted_of p (e ∷ h) ≡ (e ∷ g) = rw (x, y) refl in ap (λ (b : Bench). (outcome_of e b).bench) before ∙ ap (after p) (sym kept)))

-- ---- replies

silent_on : (i : ℕ) → OnIdentifier i None
silent_on i f e = let z : ◌≡◌ {A = ℕ} 0 1 = cc in absurd (omega arith)

-- an event of a run is answered from the history, and a refused one not at all
answered_on : (p : PowerOn) (h : List Event) → Run p h → ((e : Event) → OnIdentifier (stored_after p h).transmit (reply_to p h e)) → (e : Event) → OnIdentifier (stored_after p h).transmit (reply_of (outcome_of e (after p h)))
answered_on p h r q e =
    decided (is_ok (outcome_of e (after p h)).answer)
    (λ a. subst (OnIdentifier (stored_after p h).transmit) (sym ((worked_out p h r).reply e (((runs_accepted p).event e h r).1 a))) (q e))
    (λ a. subst (OnIdentifier (stored_after p h).transmit) (sym (same e (after p h) a).1) (silent_on (stored_after p h).transmit))

-- ---- what holds after any events

pub holds : (p : PowerOn) → IsAccepted p → (h : List Event) → Holds p h
holds p a h =
    let g = accepted_of p h in
    let r = accepted_run p a h in
    let q = accepted_same p a h in
    let sound = rules.sound p a g in
    let unit = rules.worked_out p g r in
    let there = ap (λ (b : Bench). b.monitor) q ∙ unit_there p g r in
    let stored : (after p h).monitor.stored ≡ stored_after p g = ap (λ (b : Bench). b.monitor.stored) q ∙ (worked_out p g r).stored in
    let last : (after p h).last ≡ last_stamp p g = ap (λ (b : Bench). b.last) (q ∙ bench_after p g r) in
    record {
      run = r;
      same = q;
      stored = stored;
      serial = ap (λ (m : Monitor). m.serial) there ∙ unit.serial;
      rating = ap (λ (m : Monitor). m.rating) there ∙ unit.rating;
      legal = subst (Acceptable p.rating) (sym stored) sound.legal;
      identifier = λ e. rw (stored, ap (λ (b : Bench). reply_of (outcome_of e b)) q) (answered_on p g r sound.identifier e);
      start = λ at l.
          let l' : (last_stamp p g).0 ≤ at.0 = subst (λ (s : Stamp). s.0 ≤ at.0) last l in
          subst (λ (s : Stamp). s.0 ≤ at.0) (sym (ap (λ (b : Bench). (woken at b.monitor).start) q ∙ (worked_out p g r).start at l')) (unit.started at l');
    }

-- ---- bytes past the length

outcome_same : (e e' : Event) → AlikeEvents e e' → (b : Bench) → outcome_of e b ≡ outcome_of e' b
outcome_same e e' a b =
    let same = rules.past_length e e' a in
    let outcome : Bool → Stamp → Turn → Outcome = λ over at t. cond over (refused_by OverLimits b) (cond (earlier at b.last) (refused_by EarlyStamp b) (accepted_at at t)) in
    ap (λ (over : Bool). outcome over (stamp_of e) (step e b.monitor)) same.beyond
    ∙ (ap (λ (at : Stamp). outcome (beyond e') at (step e b.monitor)) same.stamp ∙ ap (outcome (beyond e') (stamp_of e')) (same.step b.monitor))

after_same : (p : PowerOn) (h h' : List Event) → AlikeHistories h h' → after p h ≡ after p h'
after_same p [] [] a = refl
after_same p (e ∷ h) (e' ∷ h') (a, b) =
    ap (λ (o : Outcome). o.bench) (outcome_same e e' a (after p h)) ∙ ap (λ (c : Bench). (outcome_of e' c).bench) (after_same p h h' b)
after_same p [] (e' ∷ h') a = absurd a
after_same p (e ∷ h) [] a = absurd a

pub past_length : (p : PowerOn) (h h' : List Event) → AlikeHistories h h' → SameBench p h h'
past_length p h h' a =
    record {
      bench = after_same p h h' a;
      outcome = λ e e' b. outcome_same e e' b (after p h) ∙ ap (outcome_of e') (after_same p h h' a);
    }
