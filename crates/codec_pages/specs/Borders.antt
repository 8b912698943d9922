-- The refusals at their borders, in document 01's numbers: what is refused by each, and beside it the nearest that is not.
use Rattle.std.specs.Prelude.{ℕ, ◌≤◌, ◌≡◌, Bool, true, false, List, [], ◌∷◌, ◌++◌, map, ◌↔◌, ℤ, pos, negsuc, length, replicate, Err}
use Rattle.refusal.specs.declared.Refusal.TheVariants.{OverLimits}
use Rattle.refusal.specs.Conditions.{Told, refusal, good}
use Rattle.codec_pages.specs.declared.rows.Kind.{Kind}
use Rattle.codec_pages.specs.declared.rows.Kind.TheVariants.{Sim100, Sim101}
use Rattle.codec_pages.specs.declared.report.Report.{Report}
use Rattle.codec_pages.specs.declared.report.Report.TheVariants.{Word, Temperature, WorkingVoltage}
use Rattle.codec_pages.specs.declared.request.Request.{Request}
use Rattle.codec_pages.specs.declared.request.Request.TheVariants.{ReadWord, ReadTemperature, SetWorkingVoltage}
use Rattle.codec_pages.specs.Table.{row_of, no_word}
use Rattle.codec_pages.specs.Told.{Values, told_report, told_request, told_built}
use Rattle.codec_pages.specs.Reports.{read_report}
use Rattle.codec_pages.specs.Building.{build_report}
use Rattle.codec_pages.specs.Requests.{read_request, build_request}
use Rattle.codec_pages.specs.Pages.{frame_from, report_frame, request_frame, poles, battery, errors}

-- all of these tell that refusal
abbrev pub AllRefused : ℕ → List (Told Values) → Type 0
AllRefused n ts = ts ≡ replicate (length ts) (refusal n)

abbrev pub is_good : Told Values → Bool
is_good (refusal n) = false
is_good (good values) = true

-- none of these is refused
abbrev pub NoneRefused : List (Told Values) → Type 0
NoneRefused ts = map is_good ts ≡ replicate (length ts) true

-- ---- frames: a multiplexer, one byte after it, then zeros

abbrev pub bytes_with : ℕ → ℕ → List ℕ
bytes_with mux second = mux ∷ second ∷ 0 ∷ 0 ∷ 0 ∷ 0 ∷ 0 ∷ 0 ∷ []

abbrev pub reported : Kind → ℕ → ℕ → Told Values
reported k length mux = told_report (read_report k 0x0A100100 (report_frame length (bytes_with mux 0)))

abbrev pub requested : Kind → ℕ → ℕ → Told Values
requested k length mux = told_request (read_request k 0x0A100101 (request_frame length (bytes_with mux 0)))

-- "A SIM100 read request has length 1. A SIM101 request has length 3"
abbrev pub read_length : Kind → ℕ
read_length Sim100 = 1
read_length Sim101 = 3

-- a frame on an identifier, of either format, and the identifier that it is expected on: of length 8 as a report, and as a request
abbrev pub read_on : Kind → ℕ → Bool → ℕ → ℕ → Told Values
read_on k expected extended identifier mux = told_report (read_report k expected (frame_from extended identifier 8 (bytes_with mux 0)))

abbrev pub requested_on : Kind → ℕ → Bool → ℕ → ℕ → Told Values
requested_on k expected extended identifier mux = told_request (read_request k expected (frame_from extended identifier (read_length k) (bytes_with mux 0)))

abbrev pub from_e0_to_e5 : List ℕ
from_e0_to_e5 = 0xE0 ∷ 0xE1 ∷ 0xE2 ∷ 0xE3 ∷ 0xE4 ∷ 0xE5 ∷ []

-- E0 to E5 of a SIM100, with a length and a status byte
abbrev pub with_status : ℕ → ℕ → List (Told Values)
with_status length status = map (λ mux. told_report (read_report Sim100 0x0A100100 (report_frame length (bytes_with mux status)))) from_e0_to_e5

-- ---- values to be built

abbrev pub volts : ℤ → ℤ → Report
volts vp vn = poles 0 vp 0 vn 0

abbrev pub battery_volts : ℤ → Report
battery_volts vb = battery 0 vb 0 0 0

-- reports and requests of a kind, built on its identifier
abbrev pub built_of : Kind → List Report → List (Told Values)
built_of k rs = map (λ r. told_built (build_report k 0x0A100100 r)) rs

abbrev pub requests_of : Kind → List Request → List (Told Values)
requests_of k rs = map (λ r. told_built (build_request k 0x0A100101 r)) rs

-- ---- the borders

pub record ReadBorders (k : Kind) : Type 0 where
  -- 1: "a frame's length is over 8, or its identifier over 0x1FFFFFFF (extended) or 0x7FF (standard)"
  pub one : AllRefused 1 (reported k 9 0xE0 ∷ read_on k 0x20000000 true 0x20000000 0xE0 ∷ read_on k 0x800 false 0x800 0xE0 ∷ [])
  pub one_asked : AllRefused 1 (requested k 9 0xE0 ∷ requested_on k 0x20000000 true 0x20000000 0xE0 ∷ requested_on k 0x800 false 0x800 0xE0 ∷ [])
  pub not_one : NoneRefused (reported k 8 0xE0 ∷ read_on k 0x1FFFFFFF true 0x1FFFFFFF 0xE0 ∷ requested_on k 0x1FFFFFFF true 0x1FFFFFFF 0xE0 ∷ [])
  -- 2: "a report or request is not extended, or not on the expected identifier"
  pub two : AllRefused 2 (read_on k 0x7FF false 0x7FF 0xE0 ∷ read_on k 0x0A100100 true 0x0A100101 0xE0 ∷ [])
  pub two_asked : AllRefused 2 (requested_on k 0x7FF false 0x7FF 0xE0 ∷ requested_on k 0x0A100101 true 0x0A100100 0xE0 ∷ [])
  -- 3: "length 0, or a multiplexer not listed for that device kind"; 01 to 0B, and no other, is a word
  pub three : AllRefused 3 (reported k 0 0xE0 ∷ requested k 0 0xE0 ∷ reported k 5 0x00 ∷ reported k 5 0x0C ∷ reported k 8 0xDF ∷ reported k 8 0xE6 ∷ [])
  pub words : (mux : ℕ) → no_word (row_of k mux) ≡ false ↔ (0x01 ≤ mux) × (mux ≤ 0x0B)
  -- 4: "wrong length for the multiplexer"
  pub four : AllRefused 4 (reported k 7 0xE0 ∷ reported k 7 0xE1 ∷ reported k 7 0xE2 ∷ reported k 7 0xE3 ∷ reported k 7 0xE4 ∷ reported k 4 0x01 ∷ reported k 6 0x0B ∷ requested k 2 0xE0 ∷ [])
  -- "1, 2, 3, 4": where several are due the first is given
  pub one_first : AllRefused 1 (read_on k 0x0A100100 false 0x800 0x0C ∷ requested_on k 0x0A100101 false 0x800 0x0C ∷ [])
  pub two_first : AllRefused 2 (read_on k 0x0A100100 true 0x0A100101 0x0C ∷ requested_on k 0x0A100101 true 0x0A100100 0x0C ∷ [])

-- what one kind alone is refused by
pub record ReadBordersOfOne : Type 0 where
  pub three : AllRefused 3 (reported Sim100 5 0x80 ∷ requested Sim100 1 0x80 ∷ reported Sim101 3 0xF0 ∷ requested Sim101 3 0xF0 ∷ [])
  pub four_sim100 : AllRefused 4 (reported Sim100 4 0xE5 ∷ reported Sim100 2 0xF0 ∷ reported Sim100 4 0xF0 ∷ requested Sim100 3 0xE0 ∷ requested Sim100 1 0xF0 ∷ [])
  pub four_sim101 : AllRefused 4 (reported Sim101 8 0xE5 ∷ reported Sim101 3 0xE5 ∷ reported Sim101 4 0x80 ∷ reported Sim101 6 0x80 ∷ requested Sim101 1 0xE0 ∷ [])
  -- 5: "SIM100 report E0 to E5 with status bit 4 set, or status bits 1-0 equal to 01", whatever the other bits are
  pub five : AllRefused 5 (with_status 8 0x10 ++ (with_status 8 0x01 ++ (with_status 8 0xFE ++ with_status 8 0xED)))
  pub not_five : NoneRefused (with_status 8 0xEE)
  -- 4 before 5
  pub four_first : AllRefused 4 (with_status 7 0x10)

pub record BuildBorders (k : Kind) : Type 0 where
  -- 1 "(identifier)"
  pub one : AllRefused 1 (told_built (build_report k 0x20000000 (Word 0x01 0)) ∷ told_built (build_request k 0x20000000 (ReadWord 0x01)) ∷ [])
  pub not_one : NoneRefused (told_built (build_report k 0x1FFFFFFF (Word 0x01 0)) ∷ told_built (build_request k 0x1FFFFFFF (ReadWord 0x01)) ∷ [])
  -- 3: "a multiplexer not listed for that device kind": E0 is listed, but is no word
  pub three : AllRefused 3 (built_of k (Word 0x00 0 ∷ Word 0x0C 0 ∷ Word 0xE0 0 ∷ []) ++ requests_of k (ReadWord 0x00 ∷ ReadWord 0x0C ∷ ReadWord 0xE0 ∷ []))
  -- "1 (identifier), 3, 6": where several are due the first is given. 3 and 6 are never due of one report
  pub one_first : AllRefused 1 (told_built (build_report k 0x20000000 (Word 0x0C 0)) ∷ told_built (build_request k 0x20000000 (ReadWord 0x0C)) ∷ [])
  -- "A refusal returns the number alone"
  pub alone : build_report k 0x20000000 (Word 0x01 0) ≡ Err OverLimits

pub record BuildBordersOfOne : Type 0 where
  pub one_first : AllRefused 1 (told_built (build_report Sim100 0x20000000 (errors 0x10 0)) ∷ [])
  pub three_sim100 : AllRefused 3 (built_of Sim100 (Temperature (pos 0) ∷ []) ++ requests_of Sim100 (ReadTemperature ∷ []))
  pub three_sim101 : AllRefused 3 (built_of Sim101 (WorkingVoltage 0 ∷ []) ++ requests_of Sim101 (SetWorkingVoltage 0 ∷ []))
  -- 6: "a value to be built does not fit its field or breaks the rule of 5": SIM100 voltages of 0 to 65,535, eight flags
  pub six_sim100 : AllRefused 6 (built_of Sim100 (volts (negsuc 0) (pos 0) ∷ volts (pos 0) (negsuc 0) ∷ volts (pos 65536) (pos 0) ∷ volts (pos 0) (pos 65536) ∷ battery_volts (negsuc 0) ∷ battery_volts (pos 65536) ∷ errors 0 256 ∷ errors 0x10 0 ∷ errors 0x01 0 ∷ errors 0xFE 0 ∷ errors 0xED 0 ∷ []))
  pub not_six_sim100 : NoneRefused (built_of Sim100 (volts (pos 0) (pos 65535) ∷ volts (pos 65535) (pos 0) ∷ battery_volts (pos 65535) ∷ errors 0xEE 255 ∷ []))
  -- SIM101 voltages of -32,768 to 32,767, 16 flags, any status
  pub six_sim101 : AllRefused 6 (built_of Sim101 (volts (negsuc 32768) (pos 0) ∷ volts (pos 0) (negsuc 32768) ∷ volts (pos 32768) (pos 0) ∷ volts (pos 0) (pos 32768) ∷ battery_volts (negsuc 32768) ∷ battery_volts (pos 32768) ∷ []))
  pub not_six_sim101 : NoneRefused (built_of Sim101 (volts (negsuc 32767) (pos 32767) ∷ volts (pos 32767) (negsuc 32767) ∷ battery_volts (negsuc 32767) ∷ errors 0x11 65535 ∷ []))

pub record Borders : Type 0 where
  pub read : (k : Kind) → ReadBorders k
  pub read_one : ReadBordersOfOne
  pub built : (k : Kind) → BuildBorders k
  pub built_one : BuildBordersOfOne
