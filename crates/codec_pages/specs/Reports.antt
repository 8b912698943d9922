-- Reports: what each row of the table says, read from a frame's bytes.
use Rattle.std.specs.Prelude.{ℕ, ◌/◌, ◌%◌, Bool, true, false, ◌&&◌, ◌||◌, List, eqb, ℤ, pos, get_or, Result}
use Rattle.words.specs.Signed.{signed_of}
use Rattle.refusal.specs.declared.Refusal.{Refusal}
use Rattle.codec_pages.specs.declared.frame.Frame.{Frame}
use Rattle.codec_pages.specs.declared.rows.Kind.{Kind}
use Rattle.codec_pages.specs.declared.rows.Kind.TheVariants.{Sim100, Sim101}
use Rattle.codec_pages.specs.declared.rows.Row.{Row}
use Rattle.codec_pages.specs.declared.rows.Row.TheVariants.{MuxE0, MuxE1, MuxE2, MuxE3, MuxE4, MuxE5, Mux01To0B, Mux80, MuxF0}
use Rattle.codec_pages.specs.declared.report.Estimates.{Estimates}
use Rattle.codec_pages.specs.declared.report.Voltages.{Voltages}
use Rattle.codec_pages.specs.declared.report.Battery.{Battery}
use Rattle.codec_pages.specs.declared.report.ErrorFlags.{ErrorFlags}
use Rattle.codec_pages.specs.declared.report.Report.{Report}
use Rattle.codec_pages.specs.declared.report.Report.TheVariants.{IsolationState, Resistances, Capacitances, PoleVoltages, BatteryVoltage, Errors, Word, Temperature, WorkingVoltage}
use Rattle.codec_pages.specs.Table.{number_at, read}

-- ---- status

-- "status bit 4 set, or status bits 1-0 equal to 01". A SIM101 status byte is carried whole
abbrev pub bad_status : Kind → ℕ → Bool
bad_status Sim100 status = eqb (status / 16 % 2) 1 || eqb (status % 4) 1
bad_status Sim101 status = false

-- E0 to E5 have a status byte
abbrev pub has_status : Row → Bool
has_status MuxE0 = true
has_status MuxE1 = true
has_status MuxE2 = true
has_status MuxE3 = true
has_status MuxE4 = true
has_status MuxE5 = true
has_status Mux01To0B = false
has_status Mux80 = false
has_status MuxF0 = false

-- 5: "SIM100 report E0 to E5 with status bit 4 set, or status bits 1-0 equal to 01"
abbrev pub wrong_status : Kind → Row → ℕ → Bool
wrong_status k row status = has_status row && bad_status k status

-- ---- read

-- status, a value (2-3), its uncertainty (4), a value (5-6), its uncertainty (7)
abbrev pub estimates_in : List ℕ → Estimates
estimates_in b = record { status = get_or b 1 0; first = number_at b 2 2; first_uncertainty = get_or b 4 0; second = number_at b 5 2; second_uncertainty = get_or b 7 0 }

-- "For SIM100 all 16-bit values are unsigned. For SIM101, Vp, Vn and Vb are signed, two's complement"
abbrev pub voltage_of : Kind → ℕ → ℤ
voltage_of Sim100 n = pos n
voltage_of Sim101 n = signed_of 16 n

abbrev pub voltages_in : Kind → List ℕ → Voltages
voltages_in k b = record { status = get_or b 1 0; vp = voltage_of k (number_at b 2 2); vp_uncertainty = get_or b 4 0; vn = voltage_of k (number_at b 5 2); vn_uncertainty = get_or b 7 0 }

abbrev pub battery_in : Kind → List ℕ → Battery
battery_in k b = record { status = get_or b 1 0; vb = voltage_of k (number_at b 2 2); vb_uncertainty = get_or b 4 0; vb_max = number_at b 5 2; vb_max_uncertainty = get_or b 7 0 }

-- "error flags: SIM100 byte 2, SIM101 bytes 2-3"
abbrev pub flags_in : Kind → List ℕ → ErrorFlags
flags_in Sim100 b = record { status = get_or b 1 0; flags = get_or b 2 0 }
flags_in Sim101 b = record { status = get_or b 1 0; flags = number_at b 2 2 }

abbrev pub report_of : Kind → Row → List ℕ → Report
report_of k MuxE0 b = IsolationState (estimates_in b)
report_of k MuxE1 b = Resistances (estimates_in b)
report_of k MuxE2 b = Capacitances (estimates_in b)
report_of k MuxE3 b = PoleVoltages (voltages_in k b)
report_of k MuxE4 b = BatteryVoltage (battery_in k b)
report_of k MuxE5 b = Errors (flags_in k b)
report_of k Mux01To0B b = Word (get_or b 0 0) (number_at b 1 4)
report_of k Mux80 b = Temperature (signed_of 32 (number_at b 1 4))
report_of k MuxF0 b = WorkingVoltage (number_at b 1 2)

-- "Reading a report: 1, 2, 3, 4, 5."
unfoldable pub read_report : Kind → ℕ → Frame → Result Report Refusal
read_report k expected f = read (λ l. l.report) (wrong_status k) (report_of k) k expected f
