-- The stored speed changes no reply: rule by rule. Assumes nothing.
use Prim.Native.Nat.{ℕ}
use mathlib.Core.Path.{◌≡◌, refl}
use mathlib.Core.Bool.{Bool, true, false, cond, not, ◌&&◌}
use Rattle.std.specs.Prelude.{Option, Some, None}
use Rattle.codec_pages.specs.declared.frame.Frame.{Frame}
use Rattle.maintenance_pages.specs.declared.setting.Settings.{Settings}
use Rattle.maintenance_pages.specs.declared.message.Message.{Message}
use Rattle.maintenance_pages.specs.declared.message.Message.TheVariants.{Other, Unlock, Commit, Answer, SerialRequest, Read, Write}
use Rattle.maintenance_pages.specs.Settings.{legal}
use Rattle.maintenance_pages.specs.Messages.{message, is_right}
use Rattle.time.specs.declared.Stamp.{Stamp}
use Rattle.rules.specs.declared.unit.Session.{Session}
use Rattle.rules.specs.declared.unit.Phase.{Phase}
use Rattle.rules.specs.declared.unit.Phase.TheVariants.{Outside, InSession}
use Rattle.rules.specs.declared.unit.Monitor.{Monitor}
use Rattle.rules.specs.declared.unit.Turn.{Turn}
use Rattle.rules.specs.Rules.{silent, restart, late_unlock, late_answer, in_phase, started, heard, outside, inside, frame_met, framed}
use Rattle.rules.specs.Promise.{with_speed, SpeedChangesNothing}

one_of : (b : Bool) (t u t' u' : Turn) → t.reply ≡ t'.reply → u.reply ≡ u'.reply → (cond b t u).reply ≡ (cond b t' u').reply
one_of true t u t' u' p q = p
one_of false t u t' u' p q = q

outside_same : (x : Message) (pending : Option Stamp) (v : ℕ) (at : Stamp) (f : Frame) (m : Monitor) → (outside x pending at f (with_speed v m)).reply ≡ (outside x pending at f m).reply
outside_same Unlock pending v at f m = one_of (late_unlock m.start at) _ _ _ _ refl refl
outside_same Answer None v at f m = refl
outside_same Answer (Some since) v at f m = one_of (is_right m.serial f && not (late_answer since at)) _ _ _ _ refl refl
outside_same (SerialRequest w) pending v at f m = refl
outside_same (Read s) pending v at f m = refl
outside_same (Write s w) pending v at f m = refl
outside_same Commit pending v at f m = refl
outside_same Other pending v at f m = refl

inside_same : (x : Message) (draft : Settings) (v : ℕ) (at : Stamp) (storing : Bool) (m : Monitor) → (inside x draft at storing (with_speed v m)).reply ≡ (inside x draft at storing m).reply
inside_same (Read s) draft v at storing m = refl
inside_same (Write s w) draft v at storing m = one_of (legal m.rating s w) _ _ _ _ refl refl
inside_same Commit draft v at true m = refl
inside_same Commit draft v at false m = refl
inside_same Unlock draft v at storing m = refl
inside_same Answer draft v at storing m = refl
inside_same (SerialRequest w) draft v at storing m = refl
inside_same Other draft v at storing m = refl

-- with the phase given: met, where it is heard
met_outside : (pending : Option Stamp) (v : ℕ) (at : Stamp) (storing : Bool) (f : Frame) (m : Monitor) → (frame_met at storing f (with_speed v (in_phase (Outside pending) m))).reply ≡ (frame_met at storing f (in_phase (Outside pending) m)).reply
met_outside pending v at storing f m = one_of (heard f m) _ _ _ _ (outside_same (message f) pending v at f (in_phase (Outside pending) m)) refl

-- a session that fell silent, or did not
by_silence : (b : Bool) (s : Session) (v : ℕ) (at : Stamp) (storing : Bool) (f : Frame) (m : Monitor) →
    let n : Monitor = in_phase (InSession s) m in
    (frame_met at storing f (cond b (started (restart s.heard) (with_speed v n).stored (with_speed v n)) (with_speed v n))).reply ≡ (frame_met at storing f (cond b (started (restart s.heard) n.stored n) n)).reply
by_silence true s v at storing f m = met_outside None v at storing f (started (restart s.heard) m.stored m)
by_silence false s v at storing f m = one_of (heard f m) _ _ _ _ (inside_same (message f) s.draft v at storing (in_phase (InSession s) m)) refl

by_phase : (p : Phase) (v : ℕ) (at : Stamp) (storing : Bool) (f : Frame) (m : Monitor) → (framed at storing f (with_speed v (in_phase p m))).reply ≡ (framed at storing f (in_phase p m)).reply
by_phase (Outside pending) v at storing f m = met_outside pending v at storing f m
by_phase (InSession s) v at storing f m = by_silence (silent s.heard at) s v at storing f m

pub speed_silent : SpeedChangesNothing
speed_silent v at storing f m = by_phase m.phase v at storing f m
