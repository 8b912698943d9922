-- The lines of docs/CODEC_CASES.md, "A line".
use Rattle.std.specs.Prelude.{ℕ, ◌+◌, ℤ, pos, negsuc, List, [], ◌∷◌, ◌++◌, Result, Ok, Err}
use Rattle.text.specs.Figures.{hexadecimal, decimal}
use Rattle.text.specs.Letters.{letters}
use Rattle.codec_pages.specs.declared.frame.Frame.{Frame}
use Rattle.refusal.specs.declared.Refusal.{Refusal}
use Rattle.codec_pages.specs.declared.report.Estimates.{Estimates}
use Rattle.codec_pages.specs.declared.report.Voltages.{Voltages}
use Rattle.codec_pages.specs.declared.report.Battery.{Battery}
use Rattle.codec_pages.specs.declared.report.ErrorFlags.{ErrorFlags}
use Rattle.codec_pages.specs.declared.report.Report.{Report}
use Rattle.codec_pages.specs.declared.report.Report.TheVariants.{IsolationState, Resistances, Capacitances, PoleVoltages, BatteryVoltage, Errors, Word, Temperature, WorkingVoltage}
use Rattle.codec_pages.specs.declared.request.Request.{Request}
use Rattle.codec_pages.specs.declared.request.Request.TheVariants.{ReadIsolationState, ReadResistances, ReadCapacitances, ReadVoltages, ReadBattery, ReadErrorFlags, ReadWord, ReadTemperature, SetWorkingVoltage}
use Rattle.show.specs.Lines.{line_feed, value_text, refused_text, frame_text}

-- "a minus sign before a negative one"
abbrev pub signed_text : ℤ → List ℕ
signed_text (pos n) = value_text n
signed_text (negsuc n) = (32 ∷ 45 ∷ []) ++ decimal (n + 1)

-- "in the order of document 01's table"
abbrev pub estimates_text : Estimates → List ℕ
estimates_text e =
    value_text e.status ++ (value_text e.first ++ (value_text e.first_uncertainty ++ (value_text e.second ++ value_text e.second_uncertainty)))

abbrev pub voltages_text : Voltages → List ℕ
voltages_text v =
    value_text v.status ++ (signed_text v.vp ++ (value_text v.vp_uncertainty ++ (signed_text v.vn ++ value_text v.vn_uncertainty)))

abbrev pub battery_text : Battery → List ℕ
battery_text v =
    value_text v.status ++ (signed_text v.vb ++ (value_text v.vb_uncertainty ++ (value_text v.vb_max ++ value_text v.vb_max_uncertainty)))

abbrev pub flags_text : ErrorFlags → List ℕ
flags_text e = value_text e.status ++ value_text e.flags

-- "A report that was read: the multiplexer in two capital hexadecimal digits, then every value"
abbrev pub report_text : Report → List ℕ
report_text (IsolationState e) = letters "E0" ++ estimates_text e
report_text (Resistances e) = letters "E1" ++ estimates_text e
report_text (Capacitances e) = letters "E2" ++ estimates_text e
report_text (PoleVoltages v) = letters "E3" ++ voltages_text v
report_text (BatteryVoltage v) = letters "E4" ++ battery_text v
report_text (Errors e) = letters "E5" ++ flags_text e
report_text (Word mux word) = hexadecimal 2 mux ++ value_text word
report_text (Temperature z) = letters "80" ++ signed_text z
report_text (WorkingVoltage v) = letters "F0" ++ value_text v

-- "A request that was read: the multiplexer, and for F0 the working voltage"
abbrev pub request_text : Request → List ℕ
request_text ReadIsolationState = letters "E0"
request_text ReadResistances = letters "E1"
request_text ReadCapacitances = letters "E2"
request_text ReadVoltages = letters "E3"
request_text ReadBattery = letters "E4"
request_text ReadErrorFlags = letters "E5"
request_text (ReadWord mux) = hexadecimal 2 mux
request_text ReadTemperature = letters "80"
request_text (SetWorkingVoltage v) = letters "F0" ++ value_text v

-- what was read or built, or the refusal
abbrev pub answered_line : {A : Type 0} → (A → List ℕ) → Result A Refusal → List ℕ
answered_line text (Ok a) = text a ++ line_feed
answered_line text (Err why) = refused_text why ++ line_feed

abbrev pub report_line : Result Report Refusal → List ℕ
report_line = answered_line report_text

abbrev pub request_line : Result Request Refusal → List ℕ
request_line = answered_line request_text

abbrev pub built_line : Result Frame Refusal → List ℕ
built_line = answered_line frame_text
