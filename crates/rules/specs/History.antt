-- The stored settings worked out afresh from the whole history. The reading looks back over the events, the newest first: it keeps no draft
-- and runs no monitor. It shares with the rules what a message is, which values are legal, which answer is right, what is heard, and the words that are said
-- back; the limits of time it writes itself.
use Rattle.std.specs.Prelude.{ℕ, ◌+◌, Bool, true, false, not, cond, ◌&&◌, List, [], ◌∷◌, eqb, leb, Option, Some, None}
use Rattle.std.specs.Option.{unwrap_or}
use Rattle.codec_pages.specs.declared.frame.Frame.{Frame}
use Rattle.maintenance_pages.specs.declared.setting.Setting.{Setting}
use Rattle.maintenance_pages.specs.declared.setting.Setting.TheVariants.{ReceiveId, TransmitId, Speed, Voltage, WarningLevel, FaultLevel}
use Rattle.maintenance_pages.specs.declared.setting.Settings.{Settings}
use Rattle.maintenance_pages.specs.declared.message.Message.{Message}
use Rattle.maintenance_pages.specs.declared.message.Message.TheVariants.{Other, Unlock, Commit, Answer, SerialRequest, Read, Write}
use Rattle.maintenance_pages.specs.Settings.{code, legal, value_of}
use Rattle.maintenance_pages.specs.Messages.{message, heard_on, is_right, quiet, ack, nak, challenged, shown, serial_report}
use Rattle.time.specs.declared.Stamp.{Stamp}
use Rattle.time.specs.Times.{later}
use Rattle.rules.specs.Events.{Event, frame_event, reset_event, PowerOn}

-- ---- the limits of time

-- "no two successive heard messages over 2,000 ms apart"
abbrev pub near : Stamp → Stamp → Bool
near before at = leb at.0 (before.0 + 2000)

-- "that message's stamp plus 2,000"
abbrev pub restart_after : Stamp → Stamp
restart_after at = later at 2000

-- "a timely unlock": "At most 10,000 ms after the last start"
abbrev pub timely_unlock : Stamp → Stamp → Bool
timely_unlock start at = leb at.0 (start.0 + 10000)

-- "at most 2,000 ms after the challenge"
abbrev pub in_time : Stamp → Stamp → Bool
in_time challenge at = leb at.0 (challenge.0 + 2000)

-- "its timely right answer": "Right and at most 2,000 ms after the challenge", if there is one
abbrev pub timely_answer : List ℕ → Frame → Option Stamp → Stamp → Bool
timely_answer serial f None at = false
timely_answer serial f (Some challenge) at = is_right serial f && in_time challenge at

-- ---- what is said

abbrev pub unlocks : Message → Bool
unlocks Unlock = true
unlocks Answer = false
unlocks Commit = false
unlocks (SerialRequest w) = false
unlocks (Read s) = false
unlocks (Write s v) = false
unlocks Other = false

abbrev pub answers : Message → Bool
answers Unlock = false
answers Answer = true
answers Commit = false
answers (SerialRequest w) = false
answers (Read s) = false
answers (Write s v) = false
answers Other = false

abbrev pub commits : Message → Bool
commits Unlock = false
commits Answer = false
commits Commit = true
commits (SerialRequest w) = false
commits (Read s) = false
commits (Write s v) = false
commits Other = false

-- the value that an accepted write to this setting brings
abbrev pub writes : ℕ → Setting → Message → Option ℕ
writes rating s Unlock = None
writes rating s Answer = None
writes rating s Commit = None
writes rating s (SerialRequest w) = None
writes rating s (Read k) = None
writes rating s (Write k v) = cond (legal rating k v && eqb (code k) (code s)) (Some v) None
writes rating s Other = None

-- ---- what a heard message leaves, told by what was so before it

-- in a session all but a commit leave it open; outside, the timely right answer opens one
abbrev pub leaves_open : Bool → Message → Bool → Bool
leaves_open true x right = not (commits x)
leaves_open false x right = answers x && right

-- a session has nothing pending; outside, an unlock leaves its challenge if it is timely, an answer leaves none, and all else what there was
abbrev pub leaves_pending : Bool → Message → Bool → Stamp → Option Stamp → Option Stamp
leaves_pending true x timely at before = None
leaves_pending false x timely at before = cond (unlocks x) (cond timely (Some at) None) (cond (answers x) None before)

-- for an event at a stamp t: a commit in a session starts the monitor; so does a silence after what leaves a session open
abbrev pub leaves_start : Bool → Message → Bool → Stamp → Stamp → Stamp → Stamp
leaves_start session x right at t before =
    cond (session && commits x) at (cond (leaves_open session x right && not (near at t)) (restart_after at) before)

-- the newest of two
abbrev pub newest : Option ℕ → Option ℕ → Option ℕ
newest None older = older
newest (Some v) older = Some v

-- "Each setting then takes that session's last accepted write to it, if there was one."
abbrev pub taking : Settings → (Setting → Option ℕ) → Settings
taking k written =
    record {
      receive = unwrap_or (written ReceiveId) k.receive;
      transmit = unwrap_or (written TransmitId) k.transmit;
      speed = unwrap_or (written Speed) k.speed;
      voltage = unwrap_or (written Voltage) k.voltage;
      warning = unwrap_or (written WarningLevel) k.warning;
      fault = unwrap_or (written FaultLevel) k.fault;
    }

-- ---- looking back

unfoldable mutual
  -- the six stored settings after a history: they change only at a commit, heard, in a session, with storage working
  pub stored_after : PowerOn → List Event → Settings
  stored_after p [] = p.settings
  stored_after p (reset_event at ∷ h) = stored_after p h
  stored_after p (frame_event at storing f ∷ h) =
      cond (heard_on (stored_after p h) f && in_session p h at && commits (message f) && storing)
      (taking (stored_after p h) (λ s. last_write p h s))
      (stored_after p h)

  -- whether a session is open for an event at a stamp
  pub in_session : PowerOn → List Event → Stamp → Bool
  in_session p [] t = false
  in_session p (reset_event at ∷ h) t = false
  in_session p (frame_event at storing f ∷ h) t =
      cond (heard_on (stored_after p h) f)
      (leaves_open (in_session p h at) (message f) (timely_answer p.serial f (pending_since p h) at) && near at t)
      (in_session p h t)

  -- since when a challenge is pending, if one is
  pub pending_since : PowerOn → List Event → Option Stamp
  pending_since p [] = None
  pending_since p (reset_event at ∷ h) = None
  pending_since p (frame_event at storing f ∷ h) =
      cond (heard_on (stored_after p h) f)
      (leaves_pending (in_session p h at) (message f) (timely_unlock (last_start p h at) at) at (pending_since p h))
      (pending_since p h)

  -- the last start before an event at a stamp, silence counted
  pub last_start : PowerOn → List Event → Stamp → Stamp
  last_start p [] t = p.at
  last_start p (reset_event at ∷ h) t = at
  last_start p (frame_event at storing f ∷ h) t =
      cond (heard_on (stored_after p h) f)
      (leaves_start (in_session p h at) (message f) (timely_answer p.serial f (pending_since p h) at) at t (last_start p h at))
      (last_start p h t)

  -- the last accepted write to a setting in the session that the history ends in, if there was one
  pub last_write : PowerOn → List Event → Setting → Option ℕ
  last_write p [] s = None
  last_write p (reset_event at ∷ h) s = None
  last_write p (frame_event at storing f ∷ h) s =
      cond (heard_on (stored_after p h) f)
      (cond (in_session p h at) (newest (writes p.rating s (message f)) (last_write p h s)) None)
      (last_write p h s)

-- ---- the reply, from the history

-- what a session shows of a setting: its last accepted write to it, else what is stored
abbrev pub readable : PowerOn → List Event → Setting → ℕ
readable p h s = unwrap_or (last_write p h s) (value_of (stored_after p h) s)

-- an answer: to no challenge, no reply
abbrev pub reply_to_answer : ℕ → Option Stamp → Bool → Option Frame
reply_to_answer transmit None right = quiet
reply_to_answer transmit (Some challenge) right = cond right (ack transmit) (nak transmit)

abbrev pub reply_outside : PowerOn → List Event → ℕ → Stamp → Frame → Message → Option Frame
reply_outside p h transmit at f Unlock = cond (timely_unlock (last_start p h at) at) (challenged transmit p.serial) (nak transmit)
reply_outside p h transmit at f Answer = reply_to_answer transmit (pending_since p h) (timely_answer p.serial f (pending_since p h) at)
reply_outside p h transmit at f (SerialRequest w) = serial_report transmit p.serial w
reply_outside p h transmit at f Commit = quiet
reply_outside p h transmit at f (Read s) = quiet
reply_outside p h transmit at f (Write s v) = quiet
reply_outside p h transmit at f Other = quiet

abbrev pub reply_inside : PowerOn → List Event → ℕ → Bool → Message → Option Frame
reply_inside p h transmit storing (Read s) = shown transmit s (readable p h s)
reply_inside p h transmit storing (Write s v) = cond (legal p.rating s v) (ack transmit) (nak transmit)
reply_inside p h transmit storing Commit = cond storing (ack transmit) (nak transmit)
reply_inside p h transmit storing Unlock = nak transmit
reply_inside p h transmit storing Answer = nak transmit
reply_inside p h transmit storing (SerialRequest w) = nak transmit
reply_inside p h transmit storing Other = nak transmit

-- the reply to an event after a history, on the transmit identifier stored before it
abbrev pub reply_to : PowerOn → List Event → Event → Option Frame
reply_to p h (reset_event at) = quiet
reply_to p h (frame_event at storing f) =
    cond (heard_on (stored_after p h) f)
    (cond (in_session p h at)
    (reply_inside p h (stored_after p h).transmit storing (message f))
    (reply_outside p h (stored_after p h).transmit at f (message f)))
    quiet
