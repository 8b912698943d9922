-- The records of docs/CODEC_CASES.md: 20 bytes, one question each.
use Rattle.std.specs.Prelude.{ℕ, Bool, Option, None, Some, cond, ◌&&◌, ◌||◌, List, ltb, eqb, get_or}
use Rattle.std.specs.Option.{option_map}
use Rattle.words.specs.Signed.{signed_of}
use Rattle.codec_pages.specs.Table.{part, number_at}
use Rattle.codec_pages.specs.declared.frame.Frame.{Frame}
use Rattle.codec_pages.specs.declared.rows.Kind.{Kind}
use Rattle.codec_pages.specs.declared.rows.Kind.TheVariants.{Sim100, Sim101}
use Rattle.codec_pages.specs.declared.report.Estimates.{Estimates}
use Rattle.codec_pages.specs.declared.report.Voltages.{Voltages}
use Rattle.codec_pages.specs.declared.report.Battery.{Battery}
use Rattle.codec_pages.specs.declared.report.ErrorFlags.{ErrorFlags}
use Rattle.codec_pages.specs.declared.report.Report.{Report}
use Rattle.codec_pages.specs.declared.report.Report.TheVariants.{IsolationState, Resistances, Capacitances, PoleVoltages, BatteryVoltage, Errors, Word, Temperature, WorkingVoltage}
use Rattle.codec_pages.specs.declared.request.Request.{Request}
use Rattle.codec_pages.specs.declared.request.Request.TheVariants.{ReadIsolationState, ReadResistances, ReadCapacitances, ReadVoltages, ReadBattery, ReadErrorFlags, ReadWord, ReadTemperature, SetWorkingVoltage}
use Rattle.codec_cases.specs.declared.ask.Question.{Question}
use Rattle.codec_cases.specs.declared.ask.What.{What}
use Rattle.codec_cases.specs.declared.ask.What.TheVariants.{ReadReport, ReadRequest, BuildReport, BuildRequest}

-- byte 0: 0 read a report, 1 read a request, 2 build a report, 3 build a request; byte 1: the kind; building, byte 6: which
abbrev pub known_question : List ℕ → Bool
known_question r = ltb (get_or r 1 0) 2 && (ltb (get_or r 0 0) 2 || ltb (get_or r 0 0) 4 && ltb (get_or r 6 0) 9)

abbrev pub kind_asked : List ℕ → Option Kind
kind_asked r = cond (eqb (get_or r 1 0) 0) (Some Sim100) (cond (eqb (get_or r 1 0) 1) (Some Sim101) None)

-- reading: the frame
abbrev pub frame_asked : List ℕ → Frame
frame_asked r = record { extended = eqb (get_or r 6 0) 1; identifier = number_at r 8 4; length = get_or r 7 0; bytes = part r 12 8 }

-- building: the status byte, the first value and its uncertainty, the second value and its uncertainty
abbrev pub estimates_asked : List ℕ → Estimates
estimates_asked r = record { status = get_or r 7 0; first = number_at r 10 2; first_uncertainty = get_or r 12 0; second = number_at r 15 2; second_uncertainty = get_or r 17 0 }

abbrev pub voltages_asked : List ℕ → Voltages
voltages_asked r = record { status = get_or r 7 0; vp = signed_of 32 (number_at r 8 4); vp_uncertainty = get_or r 12 0; vn = signed_of 32 (number_at r 13 4); vn_uncertainty = get_or r 17 0 }

abbrev pub battery_asked : List ℕ → Battery
battery_asked r = record { status = get_or r 7 0; vb = signed_of 32 (number_at r 8 4); vb_uncertainty = get_or r 12 0; vb_max = number_at r 15 2; vb_max_uncertainty = get_or r 17 0 }

abbrev pub flags_asked : List ℕ → ErrorFlags
flags_asked r = record { status = get_or r 7 0; flags = number_at r 10 2 }

abbrev pub report_as : ℕ → List ℕ → Option Report
report_as which r =
    cond (eqb which 0) (Some (IsolationState (estimates_asked r)))
    (cond (eqb which 1) (Some (Resistances (estimates_asked r)))
    (cond (eqb which 2) (Some (Capacitances (estimates_asked r)))
    (cond (eqb which 3) (Some (PoleVoltages (voltages_asked r)))
    (cond (eqb which 4) (Some (BatteryVoltage (battery_asked r)))
    (cond (eqb which 5) (Some (Errors (flags_asked r)))
    (cond (eqb which 6) (Some (Word (get_or r 7 0) (number_at r 8 4)))
    (cond (eqb which 7) (Some (Temperature (signed_of 32 (number_at r 8 4))))
    (cond (eqb which 8) (Some (WorkingVoltage (number_at r 10 2))) None))))))))

abbrev pub report_asked : List ℕ → Option Report
report_asked r = report_as (get_or r 6 0) r

abbrev pub request_as : ℕ → List ℕ → Option Request
request_as which r =
    cond (eqb which 0) (Some ReadIsolationState)
    (cond (eqb which 1) (Some ReadResistances)
    (cond (eqb which 2) (Some ReadCapacitances)
    (cond (eqb which 3) (Some ReadVoltages)
    (cond (eqb which 4) (Some ReadBattery)
    (cond (eqb which 5) (Some ReadErrorFlags)
    (cond (eqb which 6) (Some (ReadWord (get_or r 7 0)))
    (cond (eqb which 7) (Some ReadTemperature)
    (cond (eqb which 8) (Some (SetWorkingVoltage (number_at r 10 2))) None))))))))

abbrev pub request_asked : List ℕ → Option Request
request_asked r = request_as (get_or r 6 0) r

-- byte 0, and none where nothing known is asked
abbrev pub what_as : ℕ → List ℕ → Option What
what_as what r =
    cond (eqb what 0) (Some (ReadReport (frame_asked r)))
    (cond (eqb what 1) (Some (ReadRequest (frame_asked r)))
    (cond (eqb what 2) (option_map BuildReport (report_asked r))
    (cond (eqb what 3) (option_map BuildRequest (request_asked r)) None)))

abbrev pub what_asked : List ℕ → Option What
what_asked r = what_as (get_or r 0 0) r

abbrev pub question_of : List ℕ → Option Kind → Option What → Option Question
question_of r (Some kind) (Some what) = Some (record { kind = kind; identifier = number_at r 2 4; what = what })
question_of r (Some kind) None = None
question_of r None what = None

abbrev pub question_asked : List ℕ → Option Question
question_asked r = question_of r (kind_asked r) (what_asked r)
