-- The rules of document 01's "The bench monitor", one by one. A rule takes the monitor as it is and gives it as it is after, with
-- the reply. Each is defined for every monitor there is.
use Rattle.std.specs.Prelude.{ℕ, Bool, true, false, not, cond, ◌&&◌, List, [], ◌∷◌, Option, Some, None}
use Rattle.codec_pages.specs.declared.frame.Frame.{Frame}
use Rattle.time.specs.declared.Stamp.{Stamp}
use Rattle.time.specs.declared.Ticks.{Ticks}
use Rattle.maintenance_pages.specs.declared.setting.Setting.{Setting}
use Rattle.maintenance_pages.specs.declared.setting.Settings.{Settings}
use Rattle.maintenance_pages.specs.declared.message.SerialWord.{SerialWord}
use Rattle.maintenance_pages.specs.declared.message.Message.{Message}
use Rattle.maintenance_pages.specs.declared.message.Message.TheVariants.{Other, Unlock, Commit, Answer, SerialRequest, Read, Write}
use Rattle.rules.specs.declared.unit.Phase.{Phase}
use Rattle.rules.specs.declared.unit.Phase.TheVariants.{Outside, InSession}
use Rattle.rules.specs.declared.unit.Monitor.{Monitor}
use Rattle.rules.specs.declared.unit.Turn.{Turn}
use Rattle.time.specs.Times.{later, past_limit, ticks_between}
use Rattle.rules.specs.Events.{Event, frame_event, reset_event, PowerOn}
use Rattle.maintenance_pages.specs.Settings.{legal, value_of, with_value}
use Rattle.maintenance_pages.specs.Messages.{message, heard_on, is_right, quiet, ack, nak, challenged, shown, serial_report}

abbrev pub turn : Monitor → Option Frame → Turn
turn m reply = record { monitor = m; reply = reply }

abbrev pub in_phase : Phase → Monitor → Monitor
in_phase phase m = record { serial = m.serial; rating = m.rating; stored = m.stored; start = m.start; phase = phase }

-- "Every reply is on the transmit identifier stored before the event."
abbrev pub transmit_id : Monitor → ℕ
transmit_id m = m.stored.transmit

-- ---- the limits of time

-- "more than 2,000 ms after the last heard message", and "that message's stamp plus 2,000"
abbrev pub silent : Stamp → Stamp → Bool
silent heard at = past_limit heard 2000 at

abbrev pub restart : Stamp → Stamp
restart heard = later heard 2000

-- later than "at most 10,000 ms after the last start"
abbrev pub late_unlock : Stamp → Stamp → Bool
late_unlock start at = past_limit start 10000 at

-- later than "at most 2,000 ms after the challenge"
abbrev pub late_answer : Stamp → Stamp → Bool
late_answer since at = past_limit since 2000 at

-- ---- starts

-- "Every start, power-on's too, leaves it locked, with no draft and nothing pending."
abbrev pub started_with : List ℕ → ℕ → Settings → Stamp → Monitor
started_with serial rating stored at = record { serial = serial; rating = rating; stored = stored; start = at; phase = Outside None }

-- the same unit starts, with these settings stored
abbrev pub started : Stamp → Settings → Monitor → Monitor
started at stored m = started_with m.serial m.rating stored at

-- ---- silence

-- "In a session, if the next event's stamp is more than 2,000 ms after the last heard message, the monitor has already started again
-- at that message's stamp plus 2,000, draft dropped"
abbrev pub woken_by : Phase → Stamp → Monitor → Monitor
woken_by (Outside pending) at m = m
woken_by (InSession s) at m = cond (silent s.heard at) (started (restart s.heard) m.stored m) m

abbrev pub woken : Stamp → Monitor → Monitor
woken at m = woken_by m.phase at m

-- ---- what an event may leave

-- no reply, and nothing changes
abbrev pub ignored : Monitor → Turn
ignored m = turn m quiet

-- "NAK, nothing pending"
abbrev pub given_up : Monitor → Turn
given_up m = turn (in_phase (Outside None) m) (nak (transmit_id m))

abbrev pub session_at : Stamp → Settings → Phase
session_at at draft = InSession (record { heard = at; draft = draft })

-- "every heard frame, of any length or content, restarts the 2,000 ms"
abbrev pub goes_on : Stamp → Settings → Option Frame → Monitor → Turn
goes_on at draft reply m = turn (in_phase (session_at at draft) m) reply

-- ---- outside a session

-- "At most 10,000 ms after the last start: the challenge [..], now pending from this stamp, replacing any other. Later: NAK,
-- nothing pending."
abbrev pub unlocked : Stamp → Monitor → Turn
unlocked at m =
    cond (late_unlock m.start at) (given_up m)
    (turn (in_phase (Outside (Some at)) m) (challenged (transmit_id m) m.serial))

-- "Nothing pending: no reply. Right and at most 2,000 ms after the challenge: ACK, session open, draft equal to stored. Wrong or
-- late: NAK, nothing pending, no restart."
abbrev pub answered : Option Stamp → Stamp → Frame → Monitor → Turn
answered None at f m = ignored m
answered (Some since) at f m =
    cond (is_right m.serial f && not (late_answer since at))
    (goes_on at m.stored (ack (transmit_id m)) m)
    (given_up m)

-- "Outside a session a request 08 to 0B of length 1 or 3 gets its serial word"
abbrev pub serial_asked : SerialWord → Monitor → Turn
serial_asked w m = turn m (serial_report (transmit_id m) m.serial w)

-- "All else, F0 included, gets no reply. None of these requests, answered or not, touches a pending challenge"
abbrev pub outside : Message → Option Stamp → Stamp → Frame → Monitor → Turn
outside Unlock pending at f m = unlocked at m
outside Answer pending at f m = answered pending at f m
outside (SerialRequest w) pending at f m = serial_asked w m
outside (Read s) pending at f m = ignored m
outside (Write s v) pending at f m = ignored m
outside Commit pending at f m = ignored m
outside Other pending at f m = ignored m

-- ---- in a session

-- "NAK, session goes on"
abbrev pub refused : Stamp → Settings → Monitor → Turn
refused at draft m = goes_on at draft (nak (transmit_id m)) m

-- "Read [..]: reply of length 5, the code and the draft value"
abbrev pub was_read : Setting → Stamp → Settings → Monitor → Turn
was_read s at draft m = goes_on at draft (shown (transmit_id m) s (value_of draft s)) m

-- "Write [..]: ACK and draft changed if legal, else NAK."
abbrev pub written : Setting → ℕ → Stamp → Settings → Monitor → Turn
written s v at draft m =
    cond (legal m.rating s v) (goes_on at (with_value draft s v) (ack (transmit_id m)) m) (refused at draft m)

-- "Commit [..]: storage works, draft stored, ACK; otherwise NAK, stored unchanged. Either way the monitor starts again at this
-- stamp."
abbrev pub committed : Bool → Stamp → Settings → Monitor → Turn
committed true at draft m = turn (started at draft m) (ack (transmit_id m))
committed false at draft m = turn (started at m.stored m) (nak (transmit_id m))

-- "Anything else, unlock and answer included: NAK, session goes on"
abbrev pub inside : Message → Settings → Stamp → Bool → Monitor → Turn
inside (Read s) draft at storing m = was_read s at draft m
inside (Write s v) draft at storing m = written s v at draft m
inside Commit draft at storing m = committed storing at draft m
inside Unlock draft at storing m = refused at draft m
inside Answer draft at storing m = refused at draft m
inside (SerialRequest w) draft at storing m = refused at draft m
inside Other draft at storing m = refused at draft m

-- ---- events

abbrev pub heard : Frame → Monitor → Bool
heard f m = heard_on m.stored f

abbrev pub met_by : Phase → Stamp → Bool → Frame → Monitor → Turn
met_by (Outside pending) at storing f m = outside (message f) pending at f m
met_by (InSession s) at storing f m = inside (message f) s.draft at storing m

-- a heard frame
abbrev pub met : Stamp → Bool → Frame → Monitor → Turn
met at storing f m = met_by m.phase at storing f m

-- "Frames not heard get no reply."
abbrev pub frame_met : Stamp → Bool → Frame → Monitor → Turn
frame_met at storing f w = cond (heard f w) (met at storing f w) (ignored w)

abbrev pub framed : Stamp → Bool → Frame → Monitor → Turn
framed at storing f m = frame_met at storing f (woken at m)

-- "A reset event starts the monitor again at its stamp, with no reply and stored settings kept."
abbrev pub was_reset : Stamp → Monitor → Turn
was_reset at m = ignored (started at m.stored m)

-- "ticks of ten milliseconds since the last start, rounded down, silence counted"
abbrev pub uptime_of : Stamp → Monitor → Ticks
uptime_of at m = ticks_between (woken at m).start at

-- ---- histories

-- an event, whichever it is
abbrev pub step : Event → Monitor → Turn
step (frame_event at storing f) m = framed at storing f m
step (reset_event at) m = was_reset at m

-- the unit after power-on and a history of events that it is given as they are, the newest first
abbrev pub unit_after : PowerOn → List Event → Monitor
unit_after p [] = started_with p.serial p.rating p.settings p.at
unit_after p (e ∷ h) = (step e (unit_after p h)).monitor
