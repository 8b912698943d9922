-- "P1 the listing above. P2 the write at 3501 instead: two replies, fault level 100. P3 unlock at 10,000 is challenged, P4 at 10,001 NAK. P5 answer 2,000 ms after the
-- challenge ACK, P6 2,001 NAK. P7 challenge 01 23 45 67 89 AB CD is answered 52 6D 01 34 C0 E6 8F [..]. P8 commit with storage failing. P9 write 18 equal to the rating
-- NAK, P10 one below ACK. P11 E0 00 02 26 02 00 50 04 reads 550, 2, 80, 4. P12 F0 02 58 reads 600."
use Rattle.std.specs.Prelude.{ℕ, Bool, true, false, List, [], ◌∷◌, ◌++◌, pos}
use Prim.Native.String.{String}
use Rattle.codec_pages.specs.declared.rows.Kind.TheVariants.{Sim100, Sim101}
use Rattle.codec_pages.specs.declared.frame.Frame.{Frame}
use Rattle.maintenance_pages.specs.declared.setting.Settings.{Settings}
use Rattle.rules.specs.Events.{Event, frame_event, PowerOn}
use Rattle.rules.specs.Given.{Given, reply}
use Rattle.text.specs.Letters.{letters}
use Rattle.marked.specs.Cases.{Case, replays, runs, answers, reports, requests, AllHold}

-- ---- the unit

-- "defaults (0A100101, 0A100100, 500, 0, 500, 100)"
abbrev pub settings : ℕ → ℕ → Settings
settings voltage fault = record { receive = 0x0A100101; transmit = 0x0A100100; speed = 0x00CA0500; voltage = voltage; warning = 500; fault = fault }

-- "power-on at 0, serial 00 01 .. 0F, rating 1000"
abbrev pub unit : PowerOn
unit =
    record {
      at = record { 0 = 0 };
      serial = 0x00 ∷ 0x01 ∷ 0x02 ∷ 0x03 ∷ 0x04 ∷ 0x05 ∷ 0x06 ∷ 0x07 ∷ 0x08 ∷ 0x09 ∷ 0x0A ∷ 0x0B ∷ 0x0C ∷ 0x0D ∷ 0x0E ∷ 0x0F ∷ [];
      rating = 1000;
      settings = settings 0 100;
    }

-- ---- its log: "four frames: 1000 unlock; 1500 answer 14 53 4F 46 50 4D 48 44; 3500 write 20 00 00 00 FA; 4000 commit"

-- the log, byte by byte, with the last byte of the write's stamp
abbrev pub log_with : ℕ → List ℕ
log_with write_stamp =
    -- stamp, serial, rating, six settings, two zeros
    (0x00 ∷ 0x00 ∷ 0x00 ∷ 0x00 ∷ [])
    ++ (0x00 ∷ 0x01 ∷ 0x02 ∷ 0x03 ∷ 0x04 ∷ 0x05 ∷ 0x06 ∷ 0x07 ∷ 0x08 ∷ 0x09 ∷ 0x0A ∷ 0x0B ∷ 0x0C ∷ 0x0D ∷ 0x0E ∷ 0x0F ∷ [])
    ++ (0x03 ∷ 0xE8 ∷ [])
    ++ (0x0A ∷ 0x10 ∷ 0x01 ∷ 0x01 ∷ 0x0A ∷ 0x10 ∷ 0x01 ∷ 0x00 ∷ 0x00 ∷ 0xCA ∷ 0x05 ∷ 0x00 ∷ [])
    ++ (0x00 ∷ 0x00 ∷ 0x00 ∷ 0x00 ∷ 0x00 ∷ 0x00 ∷ 0x01 ∷ 0xF4 ∷ 0x00 ∷ 0x00 ∷ 0x00 ∷ 0x64 ∷ 0x00 ∷ 0x00 ∷ [])
    -- stamp, kind, extended, length, a zero, identifier, data
    ++ (0x00 ∷ 0x00 ∷ 0x03 ∷ 0xE8 ∷ 0x00 ∷ 0x01 ∷ 0x03 ∷ 0x00 ∷ 0x0A ∷ 0x10 ∷ 0x01 ∷ 0x01 ∷ 0x14 ∷ 0x28 ∷ 0xD5 ∷ 0x00 ∷ 0x00 ∷ 0x00 ∷ 0x00 ∷ 0x00 ∷ [])
    ++ (0x00 ∷ 0x00 ∷ 0x05 ∷ 0xDC ∷ 0x00 ∷ 0x01 ∷ 0x08 ∷ 0x00 ∷ 0x0A ∷ 0x10 ∷ 0x01 ∷ 0x01 ∷ 0x14 ∷ 0x53 ∷ 0x4F ∷ 0x46 ∷ 0x50 ∷ 0x4D ∷ 0x48 ∷ 0x44 ∷ [])
    ++ (0x00 ∷ 0x00 ∷ 0x0D ∷ write_stamp ∷ 0x00 ∷ 0x01 ∷ 0x05 ∷ 0x00 ∷ 0x0A ∷ 0x10 ∷ 0x01 ∷ 0x01 ∷ 0x20 ∷ 0x00 ∷ 0x00 ∷ 0x00 ∷ 0xFA ∷ 0x00 ∷ 0x00 ∷ 0x00 ∷ [])
    ++ (0x00 ∷ 0x00 ∷ 0x0F ∷ 0xA0 ∷ 0x00 ∷ 0x01 ∷ 0x03 ∷ 0x00 ∷ 0x0A ∷ 0x10 ∷ 0x01 ∷ 0x01 ∷ 0x14 ∷ 0x9A ∷ 0x28 ∷ 0x00 ∷ 0x00 ∷ 0x00 ∷ 0x00 ∷ 0x00 ∷ [])
    -- block offset, record count, file length, 42 4C 4F 47
    ++ (0x00 ∷ 0x00 ∷ 0x00 ∷ 0x00 ∷ 0x00 ∷ 0x00 ∷ 0x00 ∷ 0x04 ∷ 0x00 ∷ 0x00 ∷ 0x00 ∷ 0x90 ∷ 0x42 ∷ 0x4C ∷ 0x4F ∷ 0x47 ∷ [])

-- a line of its listing
abbrev pub line : String → List ℕ
line words = letters words ++ (10 ∷ [])

-- ---- events and replies

abbrev pub from_host : ℕ → Bool → ℕ → List ℕ → Event
from_host ms storing length bytes =
    frame_event (record { 0 = ms }) storing (record { extended = true; identifier = 0x0A100101; length = length; bytes = bytes })

abbrev pub unlock_at : ℕ → Event
unlock_at ms = from_host ms true 3 (0x14 ∷ 0x28 ∷ 0xD5 ∷ 0 ∷ 0 ∷ 0 ∷ 0 ∷ 0 ∷ [])

abbrev pub answer_at : ℕ → Event
answer_at ms = from_host ms true 8 (0x14 ∷ 0x53 ∷ 0x4F ∷ 0x46 ∷ 0x50 ∷ 0x4D ∷ 0x48 ∷ 0x44 ∷ [])

-- a write of a value that has two bytes
abbrev pub write_at : ℕ → ℕ → ℕ → ℕ → Event
write_at ms code high low = from_host ms true 5 (code ∷ 0x00 ∷ 0x00 ∷ high ∷ low ∷ 0 ∷ 0 ∷ 0 ∷ [])

abbrev pub commit_at : ℕ → Bool → Event
commit_at ms storing = from_host ms storing 3 (0x14 ∷ 0x9A ∷ 0x28 ∷ 0 ∷ 0 ∷ 0 ∷ 0 ∷ 0 ∷ [])

abbrev pub replied : List ℕ → Given
replied bytes = reply 0x0A100100 bytes

abbrev pub challenge : Given
challenge = replied (0x14 ∷ 0x00 ∷ 0x01 ∷ 0x02 ∷ 0x03 ∷ 0x04 ∷ 0x05 ∷ 0x06 ∷ [])

abbrev pub ack : Given
ack = replied (0x41 ∷ 0x43 ∷ 0x4B ∷ [])

abbrev pub nak : Given
nak = replied (0x4E ∷ 0x41 ∷ 0x4B ∷ [])

-- ---- frames of reports and requests

abbrev pub on : ℕ → ℕ → List ℕ → Frame
on identifier length bytes = record { extended = true; identifier = identifier; length = length; bytes = bytes }

abbrev pub isolation : Frame
isolation = on 0x0A100100 8 (0xE0 ∷ 0x00 ∷ 0x02 ∷ 0x26 ∷ 0x02 ∷ 0x00 ∷ 0x50 ∷ 0x04 ∷ [])

abbrev pub working_voltage : ℕ → Frame
working_voltage identifier = on identifier 3 (0xF0 ∷ 0x02 ∷ 0x58 ∷ 0 ∷ 0 ∷ 0 ∷ 0 ∷ 0 ∷ [])

-- ---- the table

abbrev pub table : List Case
table =
    -- P1 "the listing above"
    replays (log_with 0xAC)
    (line "1000 0A100100 8 14 00 01 02 03 04 05 06"
    ++ line "1500 0A100100 3 41 43 4B"
    ++ line "3500 0A100100 3 41 43 4B"
    ++ line "4000 0A100100 3 41 43 4B"
    ++ line "stored 0A100101 0A100100 500 0 500 250")
    -- P2 "the write at 3501 instead: two replies, fault level 100"
    ∷ replays (log_with 0xAD)
    (line "1000 0A100100 8 14 00 01 02 03 04 05 06"
    ++ line "1500 0A100100 3 41 43 4B"
    ++ line "stored 0A100101 0A100100 500 0 500 100")
    -- P3 "unlock at 10,000 is challenged"
    ∷ runs unit (unlock_at 10000 ∷ []) (challenge ∷ []) (settings 0 100)
    -- P4 "at 10,001 NAK"
    ∷ runs unit (unlock_at 10001 ∷ []) (nak ∷ []) (settings 0 100)
    -- P5 "answer 2,000 ms after the challenge ACK"
    ∷ runs unit (unlock_at 1000 ∷ answer_at 3000 ∷ []) (challenge ∷ ack ∷ []) (settings 0 100)
    -- P6 "2,001 NAK"
    ∷ runs unit (unlock_at 1000 ∷ answer_at 3001 ∷ []) (challenge ∷ nak ∷ []) (settings 0 100)
    -- P7 "challenge 01 23 45 67 89 AB CD is answered 52 6D 01 34 C0 E6 8F"
    ∷ answers (0x01 ∷ 0x23 ∷ 0x45 ∷ 0x67 ∷ 0x89 ∷ 0xAB ∷ 0xCD ∷ []) (0x52 ∷ 0x6D ∷ 0x01 ∷ 0x34 ∷ 0xC0 ∷ 0xE6 ∷ 0x8F ∷ [])
    -- P8 "commit with storage failing"
    ∷ runs unit (unlock_at 1000 ∷ answer_at 1500 ∷ write_at 3500 0x20 0x00 0xFA ∷ commit_at 4000 false ∷ []) (challenge ∷ ack ∷ ack ∷ nak ∷ []) (settings 0 100)
    -- P9 "write 18 equal to the rating NAK"; a commit then stores no voltage
    ∷ runs unit (unlock_at 1000 ∷ answer_at 1500 ∷ write_at 2000 0x18 0x03 0xE8 ∷ commit_at 2500 true ∷ []) (challenge ∷ ack ∷ nak ∷ ack ∷ []) (settings 0 100)
    -- P10 "one below ACK"; a commit then stores it
    ∷ runs unit (unlock_at 1000 ∷ answer_at 1500 ∷ write_at 2000 0x18 0x03 0xE7 ∷ commit_at 2500 true ∷ []) (challenge ∷ ack ∷ ack ∷ ack ∷ []) (settings 999 100)
    -- P11 "E0 00 02 26 02 00 50 04 reads 550, 2, 80, 4", of both kinds, after the status 0
    ∷ reports Sim100 0x0A100100 isolation (0xE0, pos 0 ∷ pos 550 ∷ pos 2 ∷ pos 80 ∷ pos 4 ∷ [])
    ∷ reports Sim101 0x0A100100 isolation (0xE0, pos 0 ∷ pos 550 ∷ pos 2 ∷ pos 80 ∷ pos 4 ∷ [])
    -- P12 "F0 02 58 reads 600": "request and report alike"
    ∷ reports Sim100 0x0A100100 (working_voltage 0x0A100100) (0xF0, pos 600 ∷ [])
    ∷ requests Sim100 0x0A100101 (working_voltage 0x0A100101) (0xF0, pos 600 ∷ [])
    ∷ []

-- "These twelve are shown of the definitions in a single table under a single statement"
abbrev pub Marked : Type 0
Marked = AllHold table
