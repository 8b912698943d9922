-- The pages in bytes: for each row of the report table and each device kind a frame, and what it says. A definition that is wrong
-- about a row is refused here. `Borders` has the refusals.
use Rattle.std.specs.Prelude.{ℕ, ◌≡◌, Bool, true, List, [], ◌∷◌, ◌++◌, map, ℤ, pos, negsuc, Result, Ok}
use Rattle.codec_pages.specs.declared.frame.Frame.{Frame}
use Rattle.codec_pages.specs.declared.rows.Kind.{Kind}
use Rattle.codec_pages.specs.declared.rows.Kind.TheVariants.{Sim100, Sim101}
use Rattle.codec_pages.specs.declared.report.Estimates.{Estimates}
use Rattle.codec_pages.specs.declared.report.Report.{Report}
use Rattle.codec_pages.specs.declared.report.Report.TheVariants.{IsolationState, Resistances, Capacitances, PoleVoltages, BatteryVoltage, Errors, Word, Temperature, WorkingVoltage}
use Rattle.codec_pages.specs.declared.request.Request.{Request}
use Rattle.codec_pages.specs.declared.request.Request.TheVariants.{ReadIsolationState, ReadResistances, ReadCapacitances, ReadVoltages, ReadBattery, ReadErrorFlags, ReadWord, ReadTemperature, SetWorkingVoltage}
use Rattle.codec_pages.specs.Frames.{mux_of}
use Rattle.refusal.specs.declared.Refusal.{Refusal}
use Rattle.refusal.specs.Conditions.{Told, good}
use Rattle.codec_pages.specs.Told.{Values, told_report, told_request, told_built}
use Rattle.codec_pages.specs.Reports.{read_report}
use Rattle.codec_pages.specs.Building.{build_report}
use Rattle.codec_pages.specs.Requests.{read_request, build_request}
use Rattle.codec_pages.specs.Conditions.{table_report, table_request}

-- a frame, field by field
abbrev pub frame_from : Bool → ℕ → ℕ → List ℕ → Frame
frame_from extended identifier length bytes = record { extended = extended; identifier = identifier; length = length; bytes = bytes }

-- "The host sends on extended 0x0A100101, the device on 0x0A100100"
abbrev pub report_frame : ℕ → List ℕ → Frame
report_frame length bytes = frame_from true 0x0A100100 length bytes

abbrev pub request_frame : ℕ → List ℕ → Frame
request_frame length bytes = frame_from true 0x0A100101 length bytes

-- ---- what a frame says

pub record Sample (A : Type 0) : Type 0 where
  pub kind : Kind
  pub frame : Frame
  pub says : A
  pub values : Values

abbrev pub sample : {A : Type 0} → Kind → Frame → A → List ℤ → Sample A
sample kind frame says values = record { kind = kind; frame = frame; says = says; values = (mux_of frame, values) }

abbrev pub estimate : ℕ → ℕ → ℕ → ℕ → ℕ → Estimates
estimate status first first_uncertainty second second_uncertainty =
    record { status = status; first = first; first_uncertainty = first_uncertainty; second = second; second_uncertainty = second_uncertainty }

abbrev pub poles : ℕ → ℤ → ℕ → ℤ → ℕ → Report
poles status vp vp_uncertainty vn vn_uncertainty =
    PoleVoltages (record { status = status; vp = vp; vp_uncertainty = vp_uncertainty; vn = vn; vn_uncertainty = vn_uncertainty })

abbrev pub battery : ℕ → ℤ → ℕ → ℕ → ℕ → Report
battery status vb vb_uncertainty vb_max vb_max_uncertainty =
    BatteryVoltage (record { status = status; vb = vb; vb_uncertainty = vb_uncertainty; vb_max = vb_max; vb_max_uncertainty = vb_max_uncertainty })

abbrev pub errors : ℕ → ℕ → Report
errors status flags = Errors (record { status = status; flags = flags })

-- the rows that both kinds have alike; E0 is P11's
abbrev pub of_both : Kind → List (Sample Report)
of_both k =
    sample k (report_frame 8 (0xE0 ∷ 0x00 ∷ 0x02 ∷ 0x26 ∷ 0x02 ∷ 0x00 ∷ 0x50 ∷ 0x04 ∷ [])) (IsolationState (estimate 0 550 2 80 4)) (pos 0 ∷ pos 550 ∷ pos 2 ∷ pos 80 ∷ pos 4 ∷ [])
    ∷ sample k (report_frame 8 (0xE1 ∷ 0x20 ∷ 0x01 ∷ 0xF4 ∷ 0x05 ∷ 0xFF ∷ 0x9C ∷ 0xFF ∷ [])) (Resistances (estimate 32 500 5 65436 255)) (pos 32 ∷ pos 500 ∷ pos 5 ∷ pos 65436 ∷ pos 255 ∷ [])
    ∷ sample k (report_frame 8 (0xE2 ∷ 0xE3 ∷ 0xFF ∷ 0x9C ∷ 0x00 ∷ 0x01 ∷ 0xF4 ∷ 0x06 ∷ [])) (Capacitances (estimate 227 65436 0 500 6)) (pos 227 ∷ pos 65436 ∷ pos 0 ∷ pos 500 ∷ pos 6 ∷ [])
    ∷ sample k (report_frame 5 (0x01 ∷ 0x53 ∷ 0x49 ∷ 0x4D ∷ 0x31 ∷ 0 ∷ 0 ∷ 0 ∷ [])) (Word 0x01 0x53494D31) (pos 0x53494D31 ∷ [])
    ∷ sample k (report_frame 5 (0x0B ∷ 0x00 ∷ 0x01 ∷ 0x02 ∷ 0x03 ∷ 0 ∷ 0 ∷ 0 ∷ [])) (Word 0x0B 0x00010203) (pos 0x00010203 ∷ [])
    ∷ []

-- "For SIM100 all 16-bit values are unsigned." "SIM100 E5 bytes 3-7 are undefined: [..] zero when built." F0 is P12's
abbrev pub of_sim100 : List (Sample Report)
of_sim100 =
    sample Sim100 (report_frame 8 (0xE3 ∷ 0x00 ∷ 0xFF ∷ 0x9C ∷ 0x03 ∷ 0x01 ∷ 0xF4 ∷ 0x04 ∷ [])) (poles 0 (pos 65436) 3 (pos 500) 4) (pos 0 ∷ pos 65436 ∷ pos 3 ∷ pos 500 ∷ pos 4 ∷ [])
    ∷ sample Sim100 (report_frame 8 (0xE4 ∷ 0x00 ∷ 0xFF ∷ 0x9C ∷ 0x03 ∷ 0xFF ∷ 0x9C ∷ 0x04 ∷ [])) (battery 0 (pos 65436) 3 65436 4) (pos 0 ∷ pos 65436 ∷ pos 3 ∷ pos 65436 ∷ pos 4 ∷ [])
    ∷ sample Sim100 (report_frame 8 (0xE5 ∷ 0xC0 ∷ 0xFF ∷ 0 ∷ 0 ∷ 0 ∷ 0 ∷ 0 ∷ [])) (errors 192 255) (pos 192 ∷ pos 255 ∷ [])
    ∷ sample Sim100 (report_frame 3 (0xF0 ∷ 0x02 ∷ 0x58 ∷ 0 ∷ 0 ∷ 0 ∷ 0 ∷ 0 ∷ [])) (WorkingVoltage 600) (pos 600 ∷ [])
    ∷ []

-- "For SIM101, Vp, Vn and Vb are signed, two's complement, so FF 9C is minus 100; the others are unsigned." "A SIM101 status byte
-- is carried whole." The temperature is "in thousandths of a degree, signed 32 bits"
abbrev pub of_sim101 : List (Sample Report)
of_sim101 =
    sample Sim101 (report_frame 8 (0xE3 ∷ 0x11 ∷ 0xFF ∷ 0x9C ∷ 0x03 ∷ 0xFF ∷ 0x9C ∷ 0x04 ∷ [])) (poles 17 (negsuc 99) 3 (negsuc 99) 4) (pos 17 ∷ negsuc 99 ∷ pos 3 ∷ negsuc 99 ∷ pos 4 ∷ [])
    ∷ sample Sim101 (report_frame 8 (0xE4 ∷ 0x00 ∷ 0xFF ∷ 0x9C ∷ 0x03 ∷ 0xFF ∷ 0x9C ∷ 0x04 ∷ [])) (battery 0 (negsuc 99) 3 65436 4) (pos 0 ∷ negsuc 99 ∷ pos 3 ∷ pos 65436 ∷ pos 4 ∷ [])
    ∷ sample Sim101 (report_frame 4 (0xE5 ∷ 0xC0 ∷ 0x12 ∷ 0x34 ∷ 0 ∷ 0 ∷ 0 ∷ 0 ∷ [])) (errors 192 0x1234) (pos 192 ∷ pos 0x1234 ∷ [])
    ∷ sample Sim101 (report_frame 5 (0x80 ∷ 0xFF ∷ 0xFF ∷ 0xFC ∷ 0x18 ∷ 0 ∷ 0 ∷ 0 ∷ [])) (Temperature (negsuc 999)) (negsuc 999 ∷ [])
    ∷ []

-- ---- what a frame asks

-- "A SIM100 read request has length 1. A SIM101 request has length 3, bytes 1 and 2 zero when we build it"
abbrev pub plain : Kind → ℕ → ℕ → Request → Sample Request
plain k length mux r = sample k (request_frame length (mux ∷ 0 ∷ 0 ∷ 0 ∷ 0 ∷ 0 ∷ 0 ∷ 0 ∷ [])) r []

abbrev pub asked_of : Kind → ℕ → List (Sample Request)
asked_of k length =
    plain k length 0xE0 ReadIsolationState
    ∷ plain k length 0xE1 ReadResistances
    ∷ plain k length 0xE2 ReadCapacitances
    ∷ plain k length 0xE3 ReadVoltages
    ∷ plain k length 0xE4 ReadBattery
    ∷ plain k length 0xE5 ReadErrorFlags
    ∷ plain k length 0x01 (ReadWord 0x01)
    ∷ plain k length 0x0B (ReadWord 0x0B)
    ∷ []

-- "F0 [..] request and report alike" (P12's bytes), and 80
abbrev pub asked_of_one : List (Sample Request)
asked_of_one =
    sample Sim100 (request_frame 3 (0xF0 ∷ 0x02 ∷ 0x58 ∷ 0 ∷ 0 ∷ 0 ∷ 0 ∷ 0 ∷ [])) (SetWorkingVoltage 600) (pos 600 ∷ [])
    ∷ plain Sim101 3 0x80 ReadTemperature
    ∷ []

-- ---- the pages

-- each frame reads as what it says, that is built as the frame, and its values are those that are told of it and found by the table
pub record InBytes {Said : Type 0} (reads : Kind → Frame → Result Said Refusal) (builds : Kind → Said → Result Frame Refusal) (tells : Result Said Refusal → Told Values) (finds : Kind → Frame → Values) (samples : List (Sample Said)) : Type 0 where
  pub read : map (λ s. reads s.kind s.frame) samples ≡ map (λ s. Ok s.says) samples
  pub built : map (λ s. builds s.kind s.says) samples ≡ map (λ s. Ok s.frame) samples
  pub told : map (λ s. tells (Ok s.says)) samples ≡ map (λ s. good s.values) samples
  pub found : map (λ s. finds s.kind s.frame) samples ≡ map (λ s. s.values) samples

-- "ignored on reading": bytes past the length, bytes 3-7 of a SIM100 E5, bytes 1 and 2 of a SIM101 request
pub record Ignored : Type 0 where
  pub past_3 : told_report (read_report Sim100 0x0A100100 (report_frame 3 (0xF0 ∷ 0x02 ∷ 0x58 ∷ 0xFF ∷ 0xFF ∷ 0xFF ∷ 0xFF ∷ 0xFF ∷ []))) ≡ good (0xF0, pos 600 ∷ [])
  pub past_4 : told_report (read_report Sim101 0x0A100100 (report_frame 4 (0xE5 ∷ 0xC0 ∷ 0x12 ∷ 0x34 ∷ 0xFF ∷ 0xFF ∷ 0xFF ∷ 0xFF ∷ []))) ≡ good (0xE5, pos 192 ∷ pos 0x1234 ∷ [])
  pub past_5 : told_report (read_report Sim101 0x0A100100 (report_frame 5 (0x80 ∷ 0xFF ∷ 0xFF ∷ 0xFC ∷ 0x18 ∷ 0xFF ∷ 0xFF ∷ 0xFF ∷ []))) ≡ good (0x80, negsuc 999 ∷ [])
  pub in_e5 : told_report (read_report Sim100 0x0A100100 (report_frame 8 (0xE5 ∷ 0xC0 ∷ 0xFF ∷ 0x01 ∷ 0x02 ∷ 0x03 ∷ 0x04 ∷ 0x05 ∷ []))) ≡ good (0xE5, pos 192 ∷ pos 255 ∷ [])
  pub in_requests : told_request (read_request Sim101 0x0A100101 (request_frame 3 (0xE0 ∷ 0xFF ∷ 0xFF ∷ 0xFF ∷ 0xFF ∷ 0xFF ∷ 0xFF ∷ 0xFF ∷ []))) ≡ good (0xE0, [])
  pub past_1 : told_request (read_request Sim100 0x0A100101 (request_frame 1 (0x0B ∷ 0xFF ∷ 0xFF ∷ 0xFF ∷ 0xFF ∷ 0xFF ∷ 0xFF ∷ 0xFF ∷ []))) ≡ good (0x0B, [])

pub record Pages : Type 0 where
  pub reports : InBytes (λ k f. read_report k 0x0A100100 f) (λ k r. build_report k 0x0A100100 r) told_report table_report (of_both Sim100 ++ (of_both Sim101 ++ (of_sim100 ++ of_sim101)))
  pub requests : InBytes (λ k f. read_request k 0x0A100101 f) (λ k r. build_request k 0x0A100101 r) told_request table_request (asked_of Sim100 1 ++ (asked_of Sim101 3 ++ asked_of_one))
  pub ignored : Ignored
  -- a built frame is told by its identifier and its bytes, as many as its length says
  pub sent : told_built (build_report Sim100 0x0A100100 (WorkingVoltage 600)) ≡ good (0x0A100100, pos 0xF0 ∷ pos 0x02 ∷ pos 0x58 ∷ [])
