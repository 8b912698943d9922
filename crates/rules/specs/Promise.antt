-- What the rules promise, for every monitor, every frame and every run of events. `proofs/Promise` proves it.
use Rattle.std.specs.Prelude.{ℕ, ◌+◌, ◌<◌, ◌≤◌, ◌≡◌, Bool, true, false, List, ◌∷◌, Option, Some, None}
use Rattle.codec_pages.specs.declared.frame.Frame.{Frame}
use Rattle.codec_pages.specs.Frames.{over_limits}
use Rattle.maintenance_pages.specs.declared.setting.Setting.{Setting}
use Rattle.maintenance_pages.specs.declared.setting.Setting.TheVariants.{Speed}
use Rattle.maintenance_pages.specs.declared.setting.Settings.{Settings}
use Rattle.maintenance_pages.specs.Settings.{with_value}
use Rattle.maintenance_pages.specs.Means.{Acceptable}
use Rattle.maintenance_pages.specs.Messages.{heard_on, quiet as no_reply}
use Rattle.time.specs.declared.Stamp.{Stamp}
use Rattle.rules.specs.declared.unit.Session.{Session}
use Rattle.rules.specs.declared.unit.Phase.{Phase}
use Rattle.rules.specs.declared.unit.Phase.TheVariants.{Outside, InSession}
use Rattle.rules.specs.declared.unit.Monitor.{Monitor}
use Rattle.time.specs.Times.{later, ticks_between}
use Rattle.rules.specs.Events.{Event, frame_event, reset_event, beyond, PowerOn, IsAccepted, last_stamp, Run}
use Rattle.rules.specs.Rules.{turn, started, woken, framed, was_reset, uptime_of, step, unit_after}
use Rattle.rules.specs.Replies.{OutsideReplies, SessionReplies}
use Rattle.rules.specs.History.{stored_after, in_session, last_start, reply_to}
use Rattle.rules.specs.Alike.{AlikeEvents, AlikeHistories, SameEvent, SameHistory}
use Rattle.rules.specs.Demand.{Reading, Heard, LastAccepted, Demand, looking_back, Same}

-- ---- rules

-- A monitor that has just started: "locked, with no draft and nothing pending". The serial, the rating and the stored six are all that
-- is left of what was.
pub record Fresh (bytes : List ℕ) (volts : ℕ) (k : Settings) (at : Stamp) (m : Monitor) : Type 0 where
  pub serial : m.serial ≡ bytes
  pub rating : m.rating ≡ volts
  pub stored : m.stored ≡ k
  pub start : m.start ≡ at
  pub locked : m.phase ≡ Outside None

-- "Frames not heard get no reply", and change nothing but what silence has already changed.
abbrev pub UnheardChangesNothing : Type 0
UnheardChangesNothing = (at : Stamp) (storing : Bool) (f : Frame) (m : Monitor) → heard_on m.stored f ≡ false → framed at storing f m ≡ turn (woken at m) no_reply

-- "and meets the event as locked": a frame is met as if the silence had come on its own
abbrev pub MeetsAsWoken : Type 0
MeetsAsWoken = (at : Stamp) (storing : Bool) (f : Frame) (m : Monitor) → framed at storing f m ≡ framed at storing f (woken at m)

-- "The speed setting is stored and shown; it changes nothing else."
abbrev pub with_speed : ℕ → Monitor → Monitor
with_speed v m = record { serial = m.serial; rating = m.rating; stored = with_value m.stored Speed v; start = m.start; phase = m.phase }

-- a monitor that stores another speed replies the same to every frame; only a session that it opens then shows that speed
abbrev pub SpeedChangesNothing : Type 0
SpeedChangesNothing = (v : ℕ) (at : Stamp) (storing : Bool) (f : Frame) (m : Monitor) → (framed at storing f (with_speed v m)).reply ≡ (framed at storing f m).reply

-- every start is fresh; a reset is one, and so is a silence of more than 2,000 ms in a session
pub record Starts (m : Monitor) : Type 0 where
  pub fresh : (at : Stamp) (k : Settings) → Fresh m.serial m.rating k at (started at k m)
  pub reset : (at : Stamp) → was_reset at m ≡ turn (started at m.stored m) no_reply
  pub silence : (s : Session) (at : Stamp) → m.phase ≡ InSession s → s.heard.0 + 2000 < at.0 → woken at m ≡ started (later s.heard 2000) m.stored m

-- refusal 1 is for frames over the limits: a reset is never refused by it
pub record Beyond : Type 0 where
  pub reset : (at : Stamp) → beyond (reset_event at) ≡ false
  pub frame : (at : Stamp) (storing : Bool) (f : Frame) → beyond (frame_event at storing f) ≡ over_limits f

-- ---- what the history says

abbrev pub is_open : Phase → Bool
is_open (Outside pending) = false
is_open (InSession s) = true

-- what a monitor's own state says, silence counted, if this is the monitor after each history
abbrev pub state_of : (List Event → Monitor) → Reading
state_of unit = record { stored = λ h. (unit h).stored; session = λ h t. is_open (woken t (unit h)).phase; start = λ h t. (woken t (unit h)).start }

-- after a run the unit, its next reply, its last start and its uptime are those worked out from the history
pub record WorkedOut (p : PowerOn) (h : List Event) : Type 0 where
  pub serial : (unit_after p h).serial ≡ p.serial
  pub rating : (unit_after p h).rating ≡ p.rating
  pub stored : (unit_after p h).stored ≡ stored_after p h
  pub reply : (e : Event) → Run p (e ∷ h) → (step e (unit_after p h)).reply ≡ reply_to p h e
  pub session : (t : Stamp) → (last_stamp p h).0 ≤ t.0 → is_open (woken t (unit_after p h)).phase ≡ in_session p h t
  pub start : (t : Stamp) → (last_stamp p h).0 ≤ t.0 → (woken t (unit_after p h)).start ≡ last_start p h t
  pub started : (t : Stamp) → (last_stamp p h).0 ≤ t.0 → (last_start p h t).0 ≤ t.0
  pub uptime : (t : Stamp) → (last_stamp p h).0 ≤ t.0 → uptime_of t (unit_after p h) ≡ ticks_between (last_start p h t) t

-- the demand in its own words: of the unit, and of the reading that looks back. The words leave no choice: two readings that meet them say the same, and
-- what says the same as one that meets them meets them too.
pub record Demand3 (p : PowerOn) : Type 0 where
  pub unit : Demand p (state_of (λ h. unit_after p h))
  pub history : Demand p (looking_back p)
  pub alike : (r r' : Reading) → Demand p r → ((h : List Event) → Run p h → Same p r r' h) → Demand p r'
  pub one : (r r' : Reading) → Demand p r → Demand p r' → (h : List Event) → Run p h → Same p r r' h

-- whatever was heard, there is a last accepted write to a setting or there is none, and which is settled: so that what a setting takes at a commit is too
abbrev pub OneLast : Type 0
OneLast = (rating : ℕ) (s : Setting) (l : List Heard) → (w : Option ℕ) × (LastAccepted rating s l w × ((u : Option ℕ) → LastAccepted rating s l u → u ≡ w))

-- a reply is an extended frame on the identifier, of eight bytes at most
abbrev pub OnIdentifier : ℕ → Option Frame → Type 0
OnIdentifier identifier r = (f : Frame) → r ≡ Some f → (f.extended ≡ true) × ((f.identifier ≡ identifier) × (f.length ≤ 8))

-- what the history says is legal, and said on the stored identifier
pub record Sound (p : PowerOn) (h : List Event) : Type 0 where
  pub legal : Acceptable p.rating (stored_after p h)
  -- "Every reply is on the transmit identifier stored before the event."
  pub identifier : (e : Event) → OnIdentifier (stored_after p h).transmit (reply_to p h e)

-- ---- the promise

pub record Promise : Type 0 where
  pub beyond : Beyond
  pub starts : (m : Monitor) → Starts m
  pub silence : MeetsAsWoken
  pub unheard : UnheardChangesNothing
  pub speed : SpeedChangesNothing
  pub outside : (m : Monitor) (pending : Option Stamp) (at : Stamp) (storing : Bool) (f : Frame) → m.phase ≡ Outside pending → heard_on m.stored f ≡ true → OutsideReplies m pending at storing f
  pub session : (m : Monitor) (s : Session) (at : Stamp) (storing : Bool) (f : Frame) → m.phase ≡ InSession s → at.0 ≤ s.heard.0 + 2000 → heard_on m.stored f ≡ true → SessionReplies m s at storing f
  pub past_length : (e e' : Event) → AlikeEvents e e' → SameEvent e e'
  pub past_lengths : (p : PowerOn) (h h' : List Event) → AlikeHistories h h' → Run p h → SameHistory p h h'
  pub worked_out : (p : PowerOn) (h : List Event) → Run p h → WorkedOut p h
  pub last_accepted_lem : OneLast
  pub demand_3 : (p : PowerOn) → Demand3 p
  pub sound : (p : PowerOn) → IsAccepted p → (h : List Event) → Sound p h
