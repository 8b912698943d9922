-- Requests: "The host sends .. Byte 0 is the multiplexer, repeated in the report. A SIM100 read request has length 1. A SIM101
-- request has length 3, bytes 1 and 2 zero when we build it and ignored when we read it." F0 carries a working voltage.
use Rattle.std.specs.Prelude.{ℕ, Bool, false, List, [], ◌∷◌, get_or, Result, is_err}
use Rattle.refusal.specs.declared.Refusal.{Refusal}
use Rattle.codec_pages.specs.declared.frame.Frame.{Frame}
use Rattle.codec_pages.specs.declared.rows.Kind.{Kind}
use Rattle.codec_pages.specs.declared.rows.Kind.TheVariants.{Sim100, Sim101}
use Rattle.codec_pages.specs.declared.rows.Row.{Row}
use Rattle.codec_pages.specs.declared.rows.Row.TheVariants.{MuxE0, MuxE1, MuxE2, MuxE3, MuxE4, MuxE5, Mux01To0B, Mux80, MuxF0}
use Rattle.codec_pages.specs.declared.request.Request.{Request}
use Rattle.codec_pages.specs.declared.request.Request.TheVariants.{ReadIsolationState, ReadResistances, ReadCapacitances, ReadVoltages, ReadBattery, ReadErrorFlags, ReadWord, ReadTemperature, SetWorkingVoltage}
use Rattle.codec_pages.specs.Frames.{build}
use Rattle.codec_pages.specs.Table.{number_at, row_of, no_word, read}
use Rattle.codec_pages.specs.Building.{voltage_bytes}

-- ---- read

abbrev pub request_of : Row → List ℕ → Request
request_of MuxE0 b = ReadIsolationState
request_of MuxE1 b = ReadResistances
request_of MuxE2 b = ReadCapacitances
request_of MuxE3 b = ReadVoltages
request_of MuxE4 b = ReadBattery
request_of MuxE5 b = ReadErrorFlags
request_of Mux01To0B b = ReadWord (get_or b 0 0)
request_of Mux80 b = ReadTemperature
request_of MuxF0 b = SetWorkingVoltage (number_at b 1 2)

-- "Reading a request: 1, 2, 3, 4." No status is wrong
unfoldable pub read_request : Kind → ℕ → Frame → Result Request Refusal
read_request k expected f = read (λ l. l.request) (λ row status. false) request_of k expected f

-- ---- built

-- 3, as for reports
abbrev pub unlisted_request : Kind → Request → Bool
unlisted_request k ReadIsolationState = is_err (row_of k 0xE0)
unlisted_request k ReadResistances = is_err (row_of k 0xE1)
unlisted_request k ReadCapacitances = is_err (row_of k 0xE2)
unlisted_request k ReadVoltages = is_err (row_of k 0xE3)
unlisted_request k ReadBattery = is_err (row_of k 0xE4)
unlisted_request k ReadErrorFlags = is_err (row_of k 0xE5)
unlisted_request k (ReadWord mux) = no_word (row_of k mux)
unlisted_request k ReadTemperature = is_err (row_of k 0x80)
unlisted_request k (SetWorkingVoltage v) = is_err (row_of k 0xF0)

abbrev pub read_bytes : Kind → ℕ → List ℕ
read_bytes Sim100 mux = mux ∷ []
read_bytes Sim101 mux = mux ∷ 0 ∷ 0 ∷ []

abbrev pub request_bytes : Kind → Request → List ℕ
request_bytes k ReadIsolationState = read_bytes k 0xE0
request_bytes k ReadResistances = read_bytes k 0xE1
request_bytes k ReadCapacitances = read_bytes k 0xE2
request_bytes k ReadVoltages = read_bytes k 0xE3
request_bytes k ReadBattery = read_bytes k 0xE4
request_bytes k ReadErrorFlags = read_bytes k 0xE5
request_bytes k (ReadWord mux) = read_bytes k mux
request_bytes k ReadTemperature = read_bytes k 0x80
request_bytes k (SetWorkingVoltage v) = voltage_bytes v

-- "Building a frame: 1 (identifier), 3, 6." A working voltage of 16 bits always fits its field
unfoldable pub build_request : Kind → ℕ → Request → Result Frame Refusal
build_request k identifier r = build (unlisted_request k) (λ r. false) (request_bytes k) identifier r
