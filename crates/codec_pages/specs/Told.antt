-- What is told on paper: for each case of an enum that a call gives, document 01's number and values.
use Rattle.std.specs.Prelude.{ℕ, List, [], ◌∷◌, map, ℤ, pos, take, Result}
use Rattle.refusal.specs.declared.Refusal.{Refusal}
use Rattle.refusal.specs.Conditions.{Told, told}
use Rattle.codec_pages.specs.declared.frame.Frame.{Frame}
use Rattle.codec_pages.specs.declared.report.Estimates.{Estimates}
use Rattle.codec_pages.specs.declared.report.Report.{Report}
use Rattle.codec_pages.specs.declared.report.Report.TheVariants.{IsolationState, Resistances, Capacitances, PoleVoltages, BatteryVoltage, Errors, Word, Temperature, WorkingVoltage}
use Rattle.codec_pages.specs.declared.request.Request.{Request}
use Rattle.codec_pages.specs.declared.request.Request.TheVariants.{ReadIsolationState, ReadResistances, ReadCapacitances, ReadVoltages, ReadBattery, ReadErrorFlags, ReadWord, ReadTemperature, SetWorkingVoltage}

-- a multiplexer with its values in the order of the table; of a frame, its identifier with its bytes
abbrev pub Values : Type 0
Values = ℕ × List ℤ

-- ---- reports

abbrev pub report_mux : Report → ℕ
report_mux (IsolationState e) = 0xE0
report_mux (Resistances e) = 0xE1
report_mux (Capacitances e) = 0xE2
report_mux (PoleVoltages v) = 0xE3
report_mux (BatteryVoltage b) = 0xE4
report_mux (Errors e) = 0xE5
report_mux (Word mux w) = mux
report_mux (Temperature z) = 0x80
report_mux (WorkingVoltage v) = 0xF0

abbrev pub estimates : Estimates → List ℤ
estimates e = pos e.status ∷ pos e.first ∷ pos e.first_uncertainty ∷ pos e.second ∷ pos e.second_uncertainty ∷ []

abbrev pub report_values : Report → List ℤ
report_values (IsolationState e) = estimates e
report_values (Resistances e) = estimates e
report_values (Capacitances e) = estimates e
report_values (PoleVoltages v) = pos v.status ∷ v.vp ∷ pos v.vp_uncertainty ∷ v.vn ∷ pos v.vn_uncertainty ∷ []
report_values (BatteryVoltage b) = pos b.status ∷ b.vb ∷ pos b.vb_uncertainty ∷ pos b.vb_max ∷ pos b.vb_max_uncertainty ∷ []
report_values (Errors e) = pos e.status ∷ pos e.flags ∷ []
report_values (Word mux w) = pos w ∷ []
report_values (Temperature z) = z ∷ []
report_values (WorkingVoltage v) = pos v ∷ []

abbrev pub told_report : Result Report Refusal → Told Values
told_report = told (λ r. (report_mux r, report_values r))

-- ---- requests

abbrev pub request_mux : Request → ℕ
request_mux ReadIsolationState = 0xE0
request_mux ReadResistances = 0xE1
request_mux ReadCapacitances = 0xE2
request_mux ReadVoltages = 0xE3
request_mux ReadBattery = 0xE4
request_mux ReadErrorFlags = 0xE5
request_mux (ReadWord mux) = mux
request_mux ReadTemperature = 0x80
request_mux (SetWorkingVoltage v) = 0xF0

abbrev pub request_values : Request → List ℤ
request_values ReadIsolationState = []
request_values ReadResistances = []
request_values ReadCapacitances = []
request_values ReadVoltages = []
request_values ReadBattery = []
request_values ReadErrorFlags = []
request_values (ReadWord mux) = []
request_values ReadTemperature = []
request_values (SetWorkingVoltage v) = pos v ∷ []

abbrev pub told_request : Result Request Refusal → Told Values
told_request = told (λ r. (request_mux r, request_values r))

-- ---- frames that were built: the identifier and the bytes, as a listing shows them

abbrev pub told_built : Result Frame Refusal → Told Values
told_built = told (λ f. (f.identifier, map pos (take f.length f.bytes)))
