-- The records of docs/MONITOR_CASES.md: 20 bytes, a power-on 28 more.
use Rattle.std.specs.Prelude.{ℕ, Bool, true, false, cond, ◌&&◌, ◌||◌, Option, None, Some, List, ltb, eqb, get_or}
use Rattle.std.specs.Option.{option_map}
use Rattle.codec_pages.specs.declared.frame.Frame.{Frame}
use Rattle.codec_pages.specs.Table.{part, number_at}
use Rattle.time.specs.declared.Stamp.{Stamp}
use Rattle.maintenance_pages.specs.declared.setting.Settings.{Settings}
use Rattle.rules.specs.Events.{Event, frame_event, reset_event}
use Rattle.monitor_cases.specs.declared.record.Event.{Event as Asked}
use Rattle.monitor_cases.specs.declared.record.Event.TheVariants.{Frame as Frame', Reset}
use Rattle.monitor_cases.specs.declared.record.Question.{Question}
use Rattle.monitor_cases.specs.declared.record.Question.TheVariants.{Event as Event', Uptime, PowerOn, Challenge}

-- byte 4: the kind, 0 to 5; byte 5 of a frame: 0 standard, 1 extended
abbrev pub known_record : List ℕ → Bool
known_record r = ltb (get_or r 4 0) 6 && (ltb 1 (get_or r 4 0) || ltb (get_or r 5 0) 2)

abbrev pub stamp_in : List ℕ → Stamp
stamp_in r = record { 0 = number_at r 0 4 }

abbrev pub record_frame : List ℕ → Frame
record_frame r = record { extended = eqb (get_or r 5 0) 1; identifier = number_at r 8 4; length = get_or r 6 0; bytes = part r 12 8 }

abbrev pub record_settings : List ℕ → List ℕ → Settings
record_settings r rest = record { receive = number_at r 8 4; transmit = number_at r 12 4; speed = number_at r 16 4; voltage = number_at rest 0 4; warning = number_at rest 4 4; fault = number_at rest 8 4 }

abbrev pub frame_asked : Bool → List ℕ → Option Asked
frame_asked working r = cond (ltb 1 (get_or r 5 0)) None (Some (Frame' (stamp_in r) working (record_frame r)))

-- kind 0 a frame, 1 a frame with storage failing, 2 a reset, 3 the uptime, 4 a power-on, 5 a challenge
abbrev pub question_by : ℕ → List ℕ → Option Question
question_by kind r =
    cond (eqb kind 0) (option_map Event' (frame_asked true r))
    (cond (eqb kind 1) (option_map Event' (frame_asked false r))
    (cond (eqb kind 2) (Some (Event' (Reset (stamp_in r))))
    (cond (eqb kind 3) (Some (Uptime (stamp_in r)))
    (cond (eqb kind 4) (Some (PowerOn r))
    (cond (eqb kind 5) (Some (Challenge (part r 13 7))) None)))))

abbrev pub question_asked : List ℕ → Option Question
question_asked r = question_by (get_or r 4 0) r

-- an event as the rules speak of it
abbrev pub event_of : Asked → Event
event_of (Frame' at working f) = frame_event at working f
event_of (Reset at) = reset_event at
