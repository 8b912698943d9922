-- Demand 3 in its own words. They speak of places in the history, `since ++ (event ∷ before)`: the events since the one spoken of, that event, and the
-- events before it, the newest first. They are said of any reading of histories: of the monitor's own state, and of the one that looks back.
use Rattle.std.specs.Prelude.{ℕ, ◌+◌, ◌≤◌, ◌<◌, ◌≡◌, Bool, true, false, cond, List, [], ◌∷◌, ◌++◌, ◌↔◌, ◌⊎◌, Option, Some, None}
use Rattle.std.specs.Option.{unwrap_or}
use Rattle.codec_pages.specs.declared.frame.Frame.{Frame}
use Rattle.maintenance_pages.specs.declared.setting.Setting.{Setting}
use Rattle.maintenance_pages.specs.declared.setting.Settings.{Settings}
use Rattle.maintenance_pages.specs.declared.message.Message.{Message}
use Rattle.maintenance_pages.specs.declared.message.Message.TheVariants.{Unlock, Commit, Answer, Write}
use Rattle.maintenance_pages.specs.Settings.{value_of}
use Rattle.maintenance_pages.specs.Messages.{message, heard_on, is_right}
use Rattle.maintenance_pages.specs.Means.{Tells, Legal}
use Rattle.time.specs.declared.Stamp.{Stamp}
use Rattle.time.specs.Times.{later}
use Rattle.rules.specs.Events.{Event, frame_event, reset_event, PowerOn, last_stamp, Run}
use Rattle.rules.specs.History.{stored_after, in_session, last_start}

-- what is said of each history: the six stored after it; and for an event at a stamp, whether a session is open for it, and the last start before it
pub record Reading : Type 0 where
  pub stored : List Event → Settings
  pub session : List Event → Stamp → Bool
  pub start : List Event → Stamp → Stamp

-- the reading that looks back
abbrev pub looking_back : PowerOn → Reading
looking_back p = record { stored = λ h. stored_after p h; session = λ h t. in_session p h t; start = λ h t. last_start p h t }

-- ---- what was heard

pub record Heard : Type 0 where
  pub at : Stamp
  pub frame : Frame

-- what was heard in the events since, each judged by the settings stored just before it
unfoldable pub heard_in : Reading → List Event → List Event → List Heard
heard_in r [] before = []
heard_in r (reset_event at ∷ since) before = heard_in r since before
heard_in r (frame_event at storing f ∷ since) before =
    cond (heard_on (r.stored (since ++ before)) f) (record { at = at; frame = f } ∷ heard_in r since before) (heard_in r since before)

-- no such message was heard
abbrev pub No : Message → List Heard → Type 0
No x [] = Unit
No x (m ∷ ms) = (message m.frame ≡ x → ⊥) × No x ms

-- there is a reset among the events
abbrev pub has_reset : List Event → Bool
has_reset [] = false
has_reset (reset_event at ∷ es) = true
has_reset (frame_event at storing f ∷ es) = has_reset es

-- "no two successive heard messages over 2,000 ms apart", from one at a stamp through those heard since, to one at t
abbrev pub Close : Stamp → List Heard → Stamp → Type 0
Close first [] t = t.0 ≤ first.0 + 2000
Close first (m ∷ ms) t = (t.0 ≤ m.at.0 + 2000) × Close first ms m.at

-- the last accepted write to a setting among what was heard, if there was one: the newest message is one, a write of a legal value, or it is none and it is the
-- last of the others
abbrev pub LastAccepted : ℕ → Setting → List Heard → Option ℕ → Type 0
LastAccepted rating s [] w = w ≡ None
LastAccepted rating s (m ∷ ms) w =
    ((v : ℕ) × ((w ≡ Some v) × (Tells (Write s v) m.frame × Legal rating s v)))
    ⊎ (((v : ℕ) → Tells (Write s v) m.frame → Legal rating s v → ⊥) × LastAccepted rating s ms w)

-- ---- the session

-- a message that was heard: its place in the history, and no reset since
pub record Past (r : Reading) (h : List Event) : Type 0 where
  pub since : List Event
  pub at : Stamp
  pub storing : Bool
  pub frame : Frame
  pub before : List Event
  pub place : h ≡ since ++ (frame_event at storing frame ∷ before)
  pub heard : heard_on (r.stored before) frame ≡ true
  pub no_reset : has_reset since ≡ false

-- what was heard since
abbrev pub heard_since : (r : Reading) (h : List Event) → Past r h → List Heard
heard_since r h m = heard_in r m.since (frame_event m.at m.storing m.frame ∷ m.before)

-- "a timely unlock": heard outside a session, at most 10,000 ms after the last start. Its challenge is still there: no reset, and no other unlock and no
-- answer heard since.
pub record Unlocked (r : Reading) (h : List Event) : Type 0 where
  pub unlock : Past r h
  pub unlocking : message unlock.frame ≡ Unlock
  pub outside : r.session unlock.before unlock.at ≡ false
  pub timely : unlock.at.0 ≤ (r.start unlock.before unlock.at).0 + 10000
  pub no_unlock : No Unlock (heard_since r h unlock)
  pub no_answer : No Answer (heard_since r h unlock)

-- "inside a session opened by a timely unlock and its timely right answer, with no reset, no earlier commit heard and no two successive heard
-- messages over 2,000 ms apart since that answer": such a session for a message at t
pub record Opened (p : PowerOn) (r : Reading) (h : List Event) (t : Stamp) : Type 0 where
  pub answer : Past r h
  pub answering : message answer.frame ≡ Answer
  pub right : is_right p.serial answer.frame ≡ true
  pub unlocked : Unlocked r answer.before
  pub timely : answer.at.0 ≤ unlocked.unlock.at.0 + 2000
  pub no_commit : No Commit (heard_since r h answer)
  pub close : Close answer.at (heard_since r h answer) t

-- ---- the event that stores

-- "a commit heard on the identifier then in force, with storage working, inside a session"
pub record Stores (p : PowerOn) (r : Reading) (h : List Event) (e : Event) : Type 0 where
  pub at : Stamp
  pub storing : Bool
  pub commit : Frame
  pub event : e ≡ frame_event at storing commit
  pub committing : message commit ≡ Commit
  pub heard : heard_on (r.stored h) commit ≡ true
  pub working : storing ≡ true
  pub session : Opened p r h at

-- an event after a history
pub record Changes (p : PowerOn) (r : Reading) (h : List Event) (e : Event) : Type 0 where
  -- "They change only at": where one of the six differs
  pub only : (s : Setting) → (value_of (r.stored (e ∷ h)) s ≡ value_of (r.stored h) s → ⊥) → Stores p r h e
  -- "Each setting then takes that session's last accepted write to it, if there was one."
  pub takes : (w : Stores p r h e) (s : Setting) (v : Option ℕ) → LastAccepted p.rating s (heard_since r h w.session.answer) v → value_of (r.stored (e ∷ h)) s ≡ unwrap_or v (value_of (r.stored h) s)
  -- "At every other event all six stay."
  pub stays : (Stores p r h e → ⊥) → r.stored (e ∷ h) ≡ r.stored h

-- ---- the last start

-- a silence: what is heard since, and every reset since, is later than a stamp
abbrev pub Silent : Reading → Stamp → List Event → List Event → Type 0
Silent r until [] before = Unit
Silent r until (reset_event at ∷ since) before = (until.0 < at.0) × Silent r until since before
Silent r until (frame_event at storing f ∷ since) before =
    (heard_on (r.stored (since ++ before)) f ≡ true → until.0 < at.0) × Silent r until since before

-- the monitor has started at a stamp s, told at a stamp t after the history
pub data Start (p : PowerOn) (r : Reading) (h : List Event) (t s : Stamp) : Type 0 where
  at_power_on : s ≡ p.at → Start p r h t s
  at_reset : (since before : List Event) → h ≡ since ++ (reset_event s ∷ before) → Start p r h t s
  -- a commit heard in a session
  at_commit : (since before : List Event) (storing : Bool) (f : Frame) → h ≡ since ++ (frame_event s storing f ∷ before) → heard_on (r.stored before) f ≡ true → message f ≡ Commit → r.session before s ≡ true → Start p r h t s
  -- 2,000 ms after a message that was heard and left a session open, and after which nothing more was heard in that time
  after_silence : (since before : List Event) (at : Stamp) (storing : Bool) (f : Frame) → h ≡ since ++ (frame_event at storing f ∷ before) → heard_on (r.stored before) f ≡ true → r.session (frame_event at storing f ∷ before) at ≡ true → s ≡ later at 2000 → s.0 < t.0 → Silent r s since (frame_event at storing f ∷ before) → Start p r h t s

-- the latest of power-on, a reset, a commit heard in a session, and a silence plus 2,000
pub record LastStart (p : PowerOn) (r : Reading) (h : List Event) (t s : Stamp) : Type 0 where
  pub started : Start p r h t s
  pub latest : (u : Stamp) → Start p r h t u → u.0 ≤ s.0

-- ---- the demand

-- what the demand says of a reading, over every run of accepted events from a power-on
pub record Demand (p : PowerOn) (r : Reading) : Type 0 where
  -- before any event the six are those that power-on accepted
  pub first : Run p [] → r.stored [] ≡ p.settings
  pub six : (e : Event) (h : List Event) → Run p (e ∷ h) → Changes p r h e
  -- and the two notions that the words lean on, at places before the event, mean what the words say there
  pub sessions : (h : List Event) → Run p h → (t : Stamp) → (last_stamp p h).0 ≤ t.0 → r.session h t ≡ true ↔ Opened p r h t
  pub starts : (h : List Event) → Run p h → (t : Stamp) → (last_stamp p h).0 ≤ t.0 → LastStart p r h t (r.start h t)

-- two readings say the same of a history: the six, and at every stamp from its last event on the session and the start
pub record Same (p : PowerOn) (r r' : Reading) (h : List Event) : Type 0 where
  pub stored : r.stored h ≡ r'.stored h
  pub session : (t : Stamp) → (last_stamp p h).0 ≤ t.0 → r.session h t ≡ r'.session h t
  pub start : (t : Stamp) → (last_stamp p h).0 ≤ t.0 → r.start h t ≡ r'.start h t
