-- The monitor is what the history says: whatever the run, silence counted, its parts are the answers of the reading that looks back.
-- Assumes nothing.
use Prim.Native.Nat.{ℕ, ◌≤◌}
use mathlib.Core.Path.{◌≡◌, refl, sym, ap, ◌∙◌}
use mathlib.Core.Bool.{Bool, true, false, not, cond, ◌&&◌}
use mathlib.Core.List.{List, [], ◌∷◌}
use lib.Dec.{leb, ltb}
use borrow.Author.Tests.{leb-true, leb-false, le-ltb, lt-ltb}
use native.Mathlib.Omega.{arith}
use Rattle.std.specs.Prelude.{Option, Some, None}
use Rattle.words.proofs.Tests.{decided}
use Rattle.codec_pages.specs.declared.frame.Frame.{Frame}
use Rattle.maintenance_pages.specs.declared.setting.Setting.{Setting}
use Rattle.maintenance_pages.specs.declared.setting.Setting.TheVariants.{ReceiveId, TransmitId, Speed, Voltage, WarningLevel, FaultLevel}
use Rattle.maintenance_pages.specs.declared.setting.Settings.{Settings}
use Rattle.maintenance_pages.specs.declared.message.Message.{Message}
use Rattle.maintenance_pages.specs.declared.message.Message.TheVariants.{Other, Unlock, Commit, Answer, SerialRequest, Read, Write}
use Rattle.maintenance_pages.specs.Settings.{legal, with_value}
use Rattle.maintenance_pages.specs.Messages.{message, heard_on, is_right, ack, shown}
use Rattle.time.specs.declared.Stamp.{Stamp}
use Rattle.rules.specs.declared.unit.Phase.{Phase}
use Rattle.rules.specs.declared.unit.Phase.TheVariants.{Outside, InSession}
use Rattle.rules.specs.declared.unit.Monitor.{Monitor}
use Rattle.rules.specs.declared.unit.Turn.{Turn}
use Rattle.rules.specs.Rules.{late_answer, in_phase, session_at, goes_on, answered, refused, outside, inside, met, frame_met, woken, was_reset, step, unit_after}
use Rattle.rules.specs.Events.{Event, frame_event, reset_event, PowerOn, last_stamp, Run}
use Rattle.rules.specs.Promise.{is_open}
use Rattle.rules.proofs.Looking.{value_taking}
use Rattle.rules.proofs.Rules.{woken_later, reset_woken, unit_next}
use Rattle.rules.specs.History.{near, restart_after, timely_unlock, in_time, timely_answer, commits, writes, leaves_open, leaves_pending, leaves_start, newest, taking, stored_after, in_session, pending_since, last_start, last_write, reply_to_answer, reply_outside, reply_inside, reply_to}

-- ---- limits of time, as the rules have them

within : (a b : ℕ) → leb b a ≡ true → ltb a b ≡ false
within a b t = le-ltb a b (leb-true b a t)

beyond_it : (a b : ℕ) → leb b a ≡ false → ltb a b ≡ true
beyond_it a b t = lt-ltb a b (leb-false b a t)

not_late : (since at : Stamp) → not (late_answer since at) ≡ in_time since at
not_late since at =
    decided (in_time since at)
    (λ t. rw (t, within _ at.0 t) refl)
    (λ t. rw (t, beyond_it _ at.0 t) refl)

-- ---- the monitor of some answers

abbrev phase_of : Bool → Stamp → Settings → Option Stamp → Phase
phase_of true heard draft pending = InSession (record { heard = heard; draft = draft })
phase_of false heard draft pending = Outside pending

abbrev unit_of : PowerOn → Settings → Stamp → Bool → Stamp → (Setting → Option ℕ) → Option Stamp → Monitor
unit_of p k start session heard written pending =
    record { serial = p.serial; rating = p.rating; stored = k; start = start; phase = phase_of session heard (taking k written) pending }

-- ---- a heard message, whatever was so before it

-- a session that goes on from a stamp, for an event at t
goes_on_lem : (p : PowerOn) (k : Settings) (start at t : Stamp) (written : Setting → Option ℕ) → woken t (unit_of p k start true at written None) ≡ unit_of p k (cond (not (near at t)) (restart_after at) start) (near at t) at written None
goes_on_lem p k start at t written =
    decided (near at t)
    (λ n. rw (n, within _ t.0 n) refl)
    (λ n. rw (n, beyond_it _ t.0 n) refl)

-- a write accepted: the draft with it is what is read with it
takes : (k : Settings) (written : Setting → Option ℕ) (rating : ℕ) (s : Setting) (v : ℕ) → legal rating s v ≡ true → with_value (taking k written) s v ≡ taking k (λ x. newest (writes rating x (Write s v)) (written x))
takes k written rating ReceiveId v l = rw l refl
takes k written rating TransmitId v l = rw l refl
takes k written rating Speed v l = rw l refl
takes k written rating Voltage v l = rw l refl
takes k written rating WarningLevel v l = rw l refl
takes k written rating FaultLevel v l = rw l refl

module _ (p : PowerOn) (k : Settings) (start heard : Stamp) (written : Setting → Option ℕ) (at t : Stamp) (storing : Bool) (f : Frame) where
  abbrev before : Bool → Option Stamp → Monitor
  before session pending = unit_of p k start session heard written pending

  -- the monitor that a heard message leaves, by the reading
  abbrev leaves : Bool → Option Stamp → Message → Monitor
  leaves session pending x =
      unit_of p
      (cond (session && commits x && storing) (taking k written) k)
      (leaves_start session x (timely_answer p.serial f pending at) at t start)
      (leaves_open session x (timely_answer p.serial f pending at) && near at t)
      at
      (λ s. cond session (newest (writes p.rating s x) (written s)) None)
      (leaves_pending session x (timely_unlock start at) at pending)

  -- ---- in a session

  abbrev draft_at : Settings → Monitor
  draft_at d = in_phase (session_at at d) (before true None)

  inside_leaves : (x : Message) → woken t (inside x (taking k written) at storing (before true None)).monitor ≡ leaves true None x
  inside_leaves (Read s) = goes_on_lem p k start at t written
  inside_leaves (Write s v) =
      decided (legal p.rating s v)
      (λ l. ap (λ (b : Bool). woken t (cond b (goes_on at (with_value (taking k written) s v) (ack k.transmit) (before true None)) (refused at (taking k written) (before true None))).monitor) l
      ∙ (ap (λ (d : Settings). woken t (draft_at d)) (takes k written p.rating s v l) ∙ goes_on_lem p k start at t (λ x. newest (writes p.rating x (Write s v)) (written x))))
      (λ l. rw l (goes_on_lem p k start at t written))
  inside_leaves Commit = decided storing (λ e. rw e refl) (λ e. rw e refl)
  inside_leaves Unlock = goes_on_lem p k start at t written
  inside_leaves Answer = goes_on_lem p k start at t written
  inside_leaves (SerialRequest w) = goes_on_lem p k start at t written
  inside_leaves Other = goes_on_lem p k start at t written

  -- ---- outside

  answer_leaves : (pending : Option Stamp) → woken t (answered pending at f (before false pending)).monitor ≡ leaves false pending Answer
  answer_leaves None = refl
  answer_leaves (Some since) =
      rw (not_late since at)
      (decided (is_right p.serial f && in_time since at)
      (λ n. rw n (goes_on_lem p k start at t (λ s. None)))
      (λ n. rw n refl))

  outside_leaves : (x : Message) (pending : Option Stamp) → woken t (outside x pending at f (before false pending)).monitor ≡ leaves false pending x
  outside_leaves Unlock pending =
      decided (timely_unlock start at)
      (λ n. rw (n, within _ _ n) refl)
      (λ n. rw (n, beyond_it _ _ n) refl)
  outside_leaves Answer pending = answer_leaves pending
  outside_leaves Commit pending = refl
  outside_leaves (SerialRequest w) pending = refl
  outside_leaves (Read s) pending = refl
  outside_leaves (Write s v) pending = refl
  outside_leaves Other pending = refl

  -- ---- whatever the phase

  met_leaves : (session : Bool) (pending : Option Stamp) → woken t (met at storing f (before session pending)).monitor ≡ leaves session pending (message f)
  met_leaves true pending = inside_leaves (message f)
  met_leaves false pending = outside_leaves (message f) pending

-- ---- after a run

-- the stamp of the last heard message
last_heard : PowerOn → List Event → Stamp
last_heard p [] = p.at
last_heard p (reset_event at ∷ h) = at
last_heard p (frame_event at storing f ∷ h) = cond (heard_on (stored_after p h) f) at (last_heard p h)

-- the monitor that an event at a stamp finds, by the reading
abbrev found : PowerOn → List Event → Stamp → Monitor
found p h t = unit_of p (stored_after p h) (last_start p h t) (in_session p h t) (last_heard p h) (λ s. last_write p h s) (pending_since p h)

agrees : (p : PowerOn) (h : List Event) → Run p h → (t : Stamp) → (last_stamp p h).0 ≤ t.0 → woken t (unit_after p h) ≡ found p h t
unfolding stored_after last_heard
agrees p [] r t l = refl
agrees p (reset_event at ∷ h) r t l =
    ap (woken t) (unit_next p (reset_event at) h)
    ∙ ap (λ (m : Turn). woken t m.monitor) (reset_woken at (unit_after p h))
    ∙ ap (λ (w : Monitor). woken t (was_reset at w).monitor) (agrees p h r.1.1 at r.1.0)
agrees p (frame_event at storing f ∷ h) r t l =
    let now : woken at (unit_after p h) ≡ found p h at = agrees p h r.1.1 at r.1.0 in
    ap (woken t) (unit_next p (frame_event at storing f) h)
    ∙ ap (λ (w : Monitor). woken t (frame_met at storing f w).monitor) now
    ∙ decided (heard_on (stored_after p h) f)
    (λ x. rw x (met_leaves p (stored_after p h) (last_start p h at) (last_heard p h) (λ s. last_write p h s) at t storing f (in_session p h at) (pending_since p h)))
    (λ x. rw x (ap (woken t) (sym now) ∙ (woken_later at t (unit_after p h) l ∙ agrees p h r.1.1 t (let q = r.1.0 in omega arith))))

-- ---- what silence leaves alone

-- the monitor at the newest event, started again there, as a reset would
restarted : (p : PowerOn) (h : List Event) → Run p h → was_reset (last_stamp p h) (unit_after p h) ≡ was_reset (last_stamp p h) (found p h (last_stamp p h))
restarted p h r =
    reset_woken (last_stamp p h) (unit_after p h) ∙ ap (was_reset (last_stamp p h)) (agrees p h r (last_stamp p h) (omega arith))

pub unit_serial : (p : PowerOn) (h : List Event) → Run p h → (unit_after p h).serial ≡ p.serial
unit_serial p h r = ap (λ (t : Turn). t.monitor.serial) (restarted p h r)

pub unit_rating : (p : PowerOn) (h : List Event) → Run p h → (unit_after p h).rating ≡ p.rating
unit_rating p h r = ap (λ (t : Turn). t.monitor.rating) (restarted p h r)

pub unit_stored : (p : PowerOn) (h : List Event) → Run p h → (unit_after p h).stored ≡ stored_after p h
unit_stored p h r = ap (λ (t : Turn). t.monitor.stored) (restarted p h r)

-- ---- the last start

pub unit_start : (p : PowerOn) (h : List Event) → Run p h → (t : Stamp) → (last_stamp p h).0 ≤ t.0 → (woken t (unit_after p h)).start ≡ last_start p h t
unit_start p h r t l = ap (λ (m : Monitor). m.start) (agrees p h r t l)

-- ---- whether a session is open

open_phase : (session : Bool) (heard : Stamp) (draft : Settings) (pending : Option Stamp) → is_open (phase_of session heard draft pending) ≡ session
open_phase true heard draft pending = refl
open_phase false heard draft pending = refl

pub unit_session : (p : PowerOn) (h : List Event) → Run p h → (t : Stamp) → (last_stamp p h).0 ≤ t.0 → is_open (woken t (unit_after p h)).phase ≡ in_session p h t
unit_session p h r t l =
    ap (λ (m : Monitor). is_open m.phase) (agrees p h r t l) ∙ open_phase (in_session p h t) (last_heard p h) (taking (stored_after p h) (λ s. last_write p h s)) (pending_since p h)

-- ---- the reply

module _ (p : PowerOn) (h : List Event) (at : Stamp) (storing : Bool) (f : Frame) where
  abbrev asked : Bool → Option Stamp → Monitor
  asked session pending = unit_of p (stored_after p h) (last_start p h at) session (last_heard p h) (λ s. last_write p h s) pending

  says_inside : (x : Message) → (inside x (taking (stored_after p h) (λ s. last_write p h s)) at storing (asked true None)).reply ≡ reply_inside p h (stored_after p h).transmit storing x
  says_inside (Read s) = ap (λ (v : ℕ). shown (stored_after p h).transmit s v) (value_taking (stored_after p h) (λ x. last_write p h x) s)
  says_inside (Write s v) = decided (legal p.rating s v) (λ l. rw l refl) (λ l. rw l refl)
  says_inside Commit = decided storing (λ e. rw e refl) (λ e. rw e refl)
  says_inside Unlock = refl
  says_inside Answer = refl
  says_inside (SerialRequest w) = refl
  says_inside Other = refl

  says_answer : (pending : Option Stamp) → (answered pending at f (asked false pending)).reply ≡ reply_to_answer (stored_after p h).transmit pending (timely_answer p.serial f pending at)
  says_answer None = refl
  says_answer (Some since) =
      rw (not_late since at)
      (decided (is_right p.serial f && in_time since at) (λ n. rw n refl) (λ n. rw n refl))

  says_outside : (x : Message) → (outside x (pending_since p h) at f (asked false (pending_since p h))).reply ≡ reply_outside p h (stored_after p h).transmit at f x
  says_outside Unlock =
      decided (timely_unlock (last_start p h at) at)
      (λ n. rw (n, within _ _ n) refl)
      (λ n. rw (n, beyond_it _ _ n) refl)
  says_outside Answer = says_answer (pending_since p h)
  says_outside Commit = refl
  says_outside (SerialRequest w) = refl
  says_outside (Read s) = refl
  says_outside (Write s v) = refl
  says_outside Other = refl

  says_frame : (frame_met at storing f (found p h at)).reply ≡ reply_to p h (frame_event at storing f)
  says_frame =
      decided (heard_on (stored_after p h) f)
      (λ x. decided (in_session p h at)
      (λ y. rw (x, y) (says_inside (message f)))
      (λ y. rw (x, y) (says_outside (message f))))
      (λ x. rw x refl)

pub unit_reply : (p : PowerOn) (h : List Event) (e : Event) → Run p (e ∷ h) → (step e (unit_after p h)).reply ≡ reply_to p h e
unit_reply p h (reset_event at) r = refl
unit_reply p h (frame_event at storing f) r =
    ap (λ (w : Monitor). (frame_met at storing f w).reply) (agrees p h r.1.1 at r.1.0) ∙ says_frame p h at storing f
