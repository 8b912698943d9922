-- Bytes past the length are no part of a frame: events and histories that differ only there leave the same. Assumes nothing.
use Prim.Native.Nat.{ℕ, ◌≤◌}
use mathlib.Core.Path.{◌≡◌, refl, sym, ap, subst, ◌∙◌}
use mathlib.Core.Bool.{Bool, not, cond, ◌&&◌}
use mathlib.Core.List.{List, [], ◌∷◌}
use Rattle.std.specs.Prelude.{Option, Some, None}
use Rattle.codec_pages.specs.declared.frame.Frame.{Frame}
use Rattle.codec_pages.specs.Frames.{over_limits}
use Rattle.codec_pages.specs.Alike.{Alike}
use Rattle.maintenance_pages.specs.declared.message.Message.{Message}
use Rattle.maintenance_pages.specs.declared.message.Message.TheVariants.{Other, Unlock, Commit, Answer, SerialRequest, Read, Write}
use Rattle.maintenance_pages.specs.Messages.{message, heard_on, ack}
use Rattle.maintenance_pages.proofs.Promise.{promise as maintenance}
use Rattle.time.specs.declared.Stamp.{Stamp}
use Rattle.rules.specs.declared.unit.Phase.{Phase}
use Rattle.rules.specs.declared.unit.Phase.TheVariants.{Outside, InSession}
use Rattle.rules.specs.declared.unit.Monitor.{Monitor}
use Rattle.rules.specs.declared.unit.Turn.{Turn}
use Rattle.rules.specs.Events.{Event, frame_event, reset_event, stamp_of, PowerOn, last_stamp, Run}
use Rattle.rules.specs.Rules.{late_answer, transmit_id, ignored, given_up, goes_on, outside, inside, met_by, met, woken, framed, step, unit_after, was_reset}
use Rattle.rules.specs.Alike.{AlikeEvents, AlikeHistories, SameEvent, SameHistory}
use Rattle.rules.proofs.Rules.{unit_next}
use Rattle.rules.proofs.History.{unit_stored, unit_reply}

-- ---- a frame

module _ (f g : Frame) (a : Alike f g) where
  over_same : over_limits f ≡ over_limits g
  over_same =
      let limits : ℕ → Bool → ℕ → Bool = λ n x i. over_limits (record { extended = x; identifier = i; length = n; bytes = f.bytes }) in
      ap (λ (n : ℕ). limits n f.extended f.identifier) a.length
      ∙ (ap (λ (x : Bool). limits g.length x f.identifier) a.extended ∙ ap (limits g.length g.extended) a.identifier)

  -- only of an answer is more asked than what it says
  outside_same : (x : Message) → message f ≡ x → (pending : Option Stamp) (at : Stamp) (m : Monitor) → outside x pending at f m ≡ outside x pending at g m
  outside_same Answer q None at m = refl
  outside_same Answer q (Some since) at m =
      ap (λ (right : Bool). cond (right && not (late_answer since at)) (goes_on at m.stored (ack (transmit_id m)) m) (given_up m))
      ((maintenance.past_length f g a).right m.serial ((maintenance.messages f).answer.0 q))
  outside_same Unlock q pending at m = refl
  outside_same Commit q pending at m = refl
  outside_same (SerialRequest w) q pending at m = refl
  outside_same (Read s) q pending at m = refl
  outside_same (Write s v) q pending at m = refl
  outside_same Other q pending at m = refl

  met_same : (phase : Phase) (at : Stamp) (storing : Bool) (m : Monitor) → met_by phase at storing f m ≡ met_by phase at storing g m
  met_same (Outside pending) at storing m =
      outside_same (message f) refl pending at m ∙ ap (λ (x : Message). outside x pending at g m) (maintenance.past_length f g a).message
  met_same (InSession s) at storing m = ap (λ (x : Message). inside x s.draft at storing m) (maintenance.past_length f g a).message

  framed_same : (at : Stamp) (storing : Bool) (m : Monitor) → framed at storing f m ≡ framed at storing g m
  framed_same at storing m =
      let w = woken at m in
      ap (λ (heard : Bool). cond heard (met at storing f w) (ignored w)) ((maintenance.past_length f g a).heard w.stored)
      ∙ ap (λ (t : Turn). cond (heard_on w.stored g) t (ignored w)) (met_same w.phase at storing w)

-- ---- an event

pub same_event : (e e' : Event) → AlikeEvents e e' → SameEvent e e'
same_event (reset_event at) (reset_event at') a = record { beyond = refl; stamp = a; step = λ m. ap (λ (t : Stamp). was_reset t m) a }
same_event (frame_event at storing f) (frame_event at' storing' g) (s, (b, a)) =
    record {
      beyond = over_same f g a;
      stamp = s;
      step = λ m. framed_same f g a at storing m ∙ (ap (λ (t : Stamp). framed t storing g m) s ∙ ap (λ (x : Bool). framed at' x g m) b);
    }
same_event (reset_event at) (frame_event at' storing' g) a = absurd a
same_event (frame_event at storing f) (reset_event at') a = absurd a

-- ---- a history

unit_same : (p : PowerOn) (h h' : List Event) → AlikeHistories h h' → unit_after p h ≡ unit_after p h'
unit_same p [] [] a = refl
unit_same p (e ∷ h) (e' ∷ h') (a, b) =
    unit_next p e h
    ∙ (ap (λ (t : Turn). t.monitor) ((same_event e e' a).step (unit_after p h)) ∙ (ap (λ (m : Monitor). (step e' m).monitor) (unit_same p h h' b) ∙ sym (unit_next p e' h')))
unit_same p [] (e' ∷ h') a = absurd a
unit_same p (e ∷ h) [] a = absurd a

last_same : (p : PowerOn) (h h' : List Event) → AlikeHistories h h' → last_stamp p h ≡ last_stamp p h'
last_same p [] [] a = refl
last_same p (e ∷ h) (e' ∷ h') (a, b) = (same_event e e' a).stamp
last_same p [] (e' ∷ h') a = absurd a
last_same p (e ∷ h) [] a = absurd a

run_same : (p : PowerOn) (h h' : List Event) → AlikeHistories h h' → Run p h → Run p h'
run_same p [] [] a r = r
run_same p (e ∷ h) (e' ∷ h') (a, b) (x, (l, r)) =
    let same = same_event e e' a in (
      sym same.beyond ∙ x,
      (subst (λ (s : Stamp). s.0 ≤ (stamp_of e').0) (last_same p h h' b) (subst (λ (s : Stamp). (last_stamp p h).0 ≤ s.0) same.stamp l), run_same p h h' b r),
    )
run_same p [] (e' ∷ h') a r = absurd a
run_same p (e ∷ h) [] a r = absurd a

pub same_history : (p : PowerOn) (h h' : List Event) → AlikeHistories h h' → Run p h → SameHistory p h h'
same_history p h h' a r =
    let r' = run_same p h h' a r in
    let unit = unit_same p h h' a in
    record {
      run = r';
      unit = unit;
      stored = sym (unit_stored p h r) ∙ (ap (λ (m : Monitor). m.stored) unit ∙ unit_stored p h' r');
      reply = λ e e' b n.
          sym (unit_reply p h e n)
          ∙ (ap (λ (t : Turn). t.reply) ((same_event e e' b).step (unit_after p h))
          ∙ (ap (λ (m : Monitor). (step e' m).reply) unit
          ∙ unit_reply p h' e' (run_same p (e ∷ h) (e' ∷ h') (b, a) n)));
    }
