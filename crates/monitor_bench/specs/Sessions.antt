-- A session of the benchmark: a reset, then unlock, answer, a frame of another node, write, read and commit, 500 ms apart.
use Rattle.std.specs.Prelude.{ℕ, ◌+◌, ◌*◌, ◌%◌, true, List, [], ◌∷◌, get_or, Option, Some, None, Result}
use Rattle.refusal.specs.declared.Refusal.{Refusal}
use Rattle.words.specs.declared.Order.TheVariants.{Big}
use Rattle.words.specs.Words.{word_of}
use Rattle.codec_pages.specs.declared.frame.Frame.{Frame}
use Rattle.maintenance_pages.specs.declared.setting.Settings.{Settings}
use Rattle.time.specs.declared.Stamp.{Stamp}
use Rattle.monitor.specs.declared.bench.Bench.{Bench}
use Rattle.rules.specs.Events.{frame_event, reset_event}
use Rattle.monitor.specs.Bench.{Outcome, reply_of, outcome_of, powered_on}
use Rattle.monitor_bench.specs.declared.Run.{Run}

abbrev pub frame_on : ℕ → ℕ → List ℕ → Frame
frame_on identifier length bytes = record { extended = true; identifier = identifier; length = length; bytes = bytes }

abbrev pub host_frame : ℕ → List ℕ → Frame
host_frame length bytes = frame_on 0x0A100101 length bytes

-- a reply's length, and its bytes 0 and 4
abbrev pub said : Option Frame → ℕ
said None = 0
said (Some f) = word_of Big (0 ∷ f.length ∷ get_or f.bytes 0 0 ∷ get_or f.bytes 4 0 ∷ [])

abbrev pub sum_with : Option Frame → ℕ → ℕ
sum_with reply sum = sum % 1099511627776 * 31 + said reply

unfoldable pub counts : Outcome → ℕ → Run
counts o sum = record { bench = o.bench; sum = sum_with (reply_of o) sum }

unfoldable pub plays : Frame → Stamp → Run → Run
plays f at r = counts (outcome_of (frame_event at true f) r.bench) r.sum

abbrev pub stamp_at : ℕ → Stamp
stamp_at ms = record { 0 = ms }

-- a unit with the defaults, powered on at 0
abbrev pub defaults : Settings
defaults = record { receive = 0x0A100101; transmit = 0x0A100100; speed = 0x00CA0500; voltage = 0; warning = 500; fault = 100 }

abbrev pub unit_on_bench : Result Bench Refusal
unit_on_bench = powered_on (stamp_at 0) (0 ∷ 1 ∷ 2 ∷ 3 ∷ 4 ∷ 5 ∷ 6 ∷ 7 ∷ 8 ∷ 9 ∷ 10 ∷ 11 ∷ 12 ∷ 13 ∷ 14 ∷ 15 ∷ []) 1000 defaults

abbrev pub session_from : ℕ → ℕ → Run → Run
session_from at level r =
    plays (host_frame 3 (0x14 ∷ 0x9A ∷ 0x28 ∷ 0 ∷ 0 ∷ 0 ∷ 0 ∷ 0 ∷ [])) (stamp_at (at + 3000))
    (plays (host_frame 1 (0x20 ∷ 0 ∷ 0 ∷ 0 ∷ 0 ∷ 0 ∷ 0 ∷ 0 ∷ [])) (stamp_at (at + 2500))
    (plays (host_frame 5 (0x20 ∷ 0 ∷ 0 ∷ 0 ∷ level ∷ 0 ∷ 0 ∷ 0 ∷ [])) (stamp_at (at + 2000))
    (plays (frame_on 0x0A100102 3 (0x14 ∷ 0x9A ∷ 0x28 ∷ 0 ∷ 0 ∷ 0 ∷ 0 ∷ 0 ∷ [])) (stamp_at (at + 1500))
    (plays (host_frame 8 (0x14 ∷ 0x53 ∷ 0x4F ∷ 0x46 ∷ 0x50 ∷ 0x4D ∷ 0x48 ∷ 0x44 ∷ [])) (stamp_at (at + 1000))
    (plays (host_frame 3 (0x14 ∷ 0x28 ∷ 0xD5 ∷ 0 ∷ 0 ∷ 0 ∷ 0 ∷ 0 ∷ [])) (stamp_at (at + 500))
    (counts (outcome_of (reset_event (stamp_at at)) r.bench) r.sum))))))
