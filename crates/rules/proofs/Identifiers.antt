-- What the history replies is on the stored transmit identifier, and no longer than a frame is. Assumes nothing.
use Prim.Native.Nat.{ℕ, ◌≤◌}
use mathlib.Core.Path.{◌≡◌, refl, sym, subst}
use native.Mathlib.Omega.{arith}
use mathlib.Core.Bool.{Bool, true, false, cond}
use mathlib.Core.List.{List}
use lib.Dec.{lit≤}
use Rattle.std.specs.Prelude.{Option, Some, None}
use Rattle.codec_pages.specs.declared.frame.Frame.{Frame}
use Rattle.maintenance_pages.specs.declared.message.SerialWord.{SerialWord}
use Rattle.maintenance_pages.specs.declared.message.Message.{Message}
use Rattle.maintenance_pages.specs.declared.message.Message.TheVariants.{Other, Unlock, Commit, Answer as Answered, SerialRequest, Read, Write}
use Rattle.maintenance_pages.specs.Settings.{legal}
use Rattle.maintenance_pages.specs.Messages.{message, heard_on, quiet, sends, ack, nak, challenged, serial_report}
use Rattle.maintenance_pages.proofs.Promise.{promise as maintenance}
use Rattle.time.specs.declared.Stamp.{Stamp}
use Rattle.rules.specs.Events.{Event, frame_event, reset_event, PowerOn}
use Rattle.rules.specs.History.{timely_unlock, timely_answer, stored_after, in_session, pending_since, last_start, reply_to_answer, reply_outside, reply_inside, reply_to}
use Rattle.rules.specs.Promise.{OnIdentifier}

-- ---- replies on an identifier

silent_on : (i : ℕ) → OnIdentifier i quiet
silent_on i f e = let z : ◌≡◌ {A = ℕ} 0 1 = cc in absurd (omega arith)

sent_on : (i : ℕ) (f : Frame) → f.extended ≡ true → f.identifier ≡ i → f.length ≤ 8 → OnIdentifier i (sends f)
sent_on i f extended identifier short g e =
    let q : f ≡ g = cc in
    subst (λ (x : Frame). (x.extended ≡ true) × ((x.identifier ≡ i) × (x.length ≤ 8))) q (extended, (identifier, short))

serial_on : (i : ℕ) (serial : List ℕ) (w : SerialWord) → i ≤ 0x1FFFFFFF → OnIdentifier i (serial_report i serial w)
serial_on i serial w h = subst (OnIdentifier i) (sym (maintenance.serial_built i serial w h)) (sent_on i _ refl refl (lit≤ tt))

-- one of two replies
either_on : (i : ℕ) (b : Bool) (x y : Option Frame) → OnIdentifier i x → OnIdentifier i y → OnIdentifier i (cond b x y)
either_on i true x y p q = p
either_on i false x y p q = q

answer_on : (i : ℕ) (pending : Option Stamp) (right : Bool) → OnIdentifier i (reply_to_answer i pending right)
answer_on i None right = silent_on i
answer_on i (Some since) right = either_on i right (ack i) (nak i) (sent_on i _ refl refl (lit≤ tt)) (sent_on i _ refl refl (lit≤ tt))

module _ (p : PowerOn) (h : List Event) (i : ℕ) where
  outside_on : (x : Message) → i ≤ 0x1FFFFFFF → (at : Stamp) (f : Frame) → OnIdentifier i (reply_outside p h i at f x)
  outside_on Unlock q at f =
      either_on i (timely_unlock (last_start p h at) at) (challenged i p.serial) (nak i) (sent_on i _ refl refl (lit≤ tt)) (sent_on i _ refl refl (lit≤ tt))
  outside_on Answered q at f = answer_on i (pending_since p h) (timely_answer p.serial f (pending_since p h) at)
  outside_on (SerialRequest w) q at f = serial_on i p.serial w q
  outside_on Commit q at f = silent_on i
  outside_on (Read s) q at f = silent_on i
  outside_on (Write s v) q at f = silent_on i
  outside_on Other q at f = silent_on i

  inside_on : (x : Message) (storing : Bool) → OnIdentifier i (reply_inside p h i storing x)
  inside_on (Read s) storing = sent_on i _ refl refl (lit≤ tt)
  inside_on (Write s v) storing = either_on i (legal p.rating s v) (ack i) (nak i) (sent_on i _ refl refl (lit≤ tt)) (sent_on i _ refl refl (lit≤ tt))
  inside_on Commit storing = either_on i storing (ack i) (nak i) (sent_on i _ refl refl (lit≤ tt)) (sent_on i _ refl refl (lit≤ tt))
  inside_on Unlock storing = sent_on i _ refl refl (lit≤ tt)
  inside_on Answered storing = sent_on i _ refl refl (lit≤ tt)
  inside_on (SerialRequest w) storing = sent_on i _ refl refl (lit≤ tt)
  inside_on Other storing = sent_on i _ refl refl (lit≤ tt)

pub reply_on : (p : PowerOn) (h : List Event) (e : Event) → (stored_after p h).transmit ≤ 0x1FFFFFFF → OnIdentifier (stored_after p h).transmit (reply_to p h e)
reply_on p h (reset_event at) q = silent_on (stored_after p h).transmit
reply_on p h (frame_event at storing f) q =
    let i = (stored_after p h).transmit in
    either_on i (heard_on (stored_after p h) f) (cond (in_session p h at) (reply_inside p h i storing (message f)) (reply_outside p h i at f (message f))) quiet
    (either_on i (in_session p h at) (reply_inside p h i storing (message f)) (reply_outside p h i at f (message f))
    (inside_on p h i (message f) storing)
    (outside_on p h i (message f) q at f))
    (silent_on i)
