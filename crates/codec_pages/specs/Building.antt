-- Building: the bytes of each report, and refusals 1, 3 and 6.
use Rattle.std.specs.Prelude.{ℕ, Bool, true, false, not, ◌&&◌, ◌||◌, List, [], ◌∷◌, ◌++◌, ltb, ℤ, replicate, Result, is_err}
use Rattle.words.specs.declared.Order.TheVariants.{Big}
use Rattle.words.specs.Words.{bytes_of}
use Rattle.words.specs.Signed.{pattern_of, holds, holds_unsigned}
use Rattle.refusal.specs.declared.Refusal.{Refusal}
use Rattle.codec_pages.specs.declared.frame.Frame.{Frame}
use Rattle.codec_pages.specs.declared.rows.Kind.{Kind}
use Rattle.codec_pages.specs.declared.rows.Kind.TheVariants.{Sim100, Sim101}
use Rattle.codec_pages.specs.declared.report.Estimates.{Estimates}
use Rattle.codec_pages.specs.declared.report.Voltages.{Voltages}
use Rattle.codec_pages.specs.declared.report.Battery.{Battery}
use Rattle.codec_pages.specs.declared.report.ErrorFlags.{ErrorFlags}
use Rattle.codec_pages.specs.declared.report.Report.{Report}
use Rattle.codec_pages.specs.declared.report.Report.TheVariants.{IsolationState, Resistances, Capacitances, PoleVoltages, BatteryVoltage, Errors, Word, Temperature, WorkingVoltage}
use Rattle.codec_pages.specs.Frames.{build}
use Rattle.codec_pages.specs.Table.{row_of, no_word}
use Rattle.codec_pages.specs.Reports.{bad_status}

abbrev pub is_sim100 : Kind → Bool
is_sim100 Sim100 = true
is_sim100 Sim101 = false

-- 3: "a multiplexer not listed for that device kind". A word is listed where the table has one
abbrev pub unlisted : Kind → Report → Bool
unlisted k (IsolationState e) = is_err (row_of k 0xE0)
unlisted k (Resistances e) = is_err (row_of k 0xE1)
unlisted k (Capacitances e) = is_err (row_of k 0xE2)
unlisted k (PoleVoltages v) = is_err (row_of k 0xE3)
unlisted k (BatteryVoltage b) = is_err (row_of k 0xE4)
unlisted k (Errors e) = is_err (row_of k 0xE5)
unlisted k (Word mux w) = no_word (row_of k mux)
unlisted k (Temperature z) = is_err (row_of k 0x80)
unlisted k (WorkingVoltage v) = is_err (row_of k 0xF0)

-- ---- 6: "a value to be built does not fit its field or breaks the rule of 5"

-- 16 bits, unsigned for SIM100 and signed for SIM101
abbrev pub voltage_misfit : Kind → ℤ → Bool
voltage_misfit Sim100 z = not (holds_unsigned 16 z)
voltage_misfit Sim101 z = not (holds 16 z)

-- one byte for SIM100
abbrev pub flags_misfit : Kind → ℕ → Bool
flags_misfit k flags = is_sim100 k && ltb 255 flags

abbrev pub misfit : Kind → Report → Bool
misfit k (IsolationState e) = bad_status k e.status
misfit k (Resistances e) = bad_status k e.status
misfit k (Capacitances e) = bad_status k e.status
misfit k (PoleVoltages v) = bad_status k v.status || voltage_misfit k v.vp || voltage_misfit k v.vn
misfit k (BatteryVoltage b) = bad_status k b.status || voltage_misfit k b.vb
misfit k (Errors e) = bad_status k e.status || flags_misfit k e.flags
misfit k (Word mux w) = false
misfit k (Temperature z) = false
misfit k (WorkingVoltage v) = false

-- ---- bytes: most significant first, from the multiplexer on

abbrev pub estimates_bytes : ℕ → Estimates → List ℕ
estimates_bytes mux e =
    (mux ∷ e.status ∷ [])
    ++ (bytes_of Big 2 e.first ++ (e.first_uncertainty ∷ (bytes_of Big 2 e.second ++ (e.second_uncertainty ∷ []))))

-- the patterns of the voltages, in the places of the estimates
abbrev pub voltages_raw : Voltages → Estimates
voltages_raw v =
    record { status = v.status; first = pattern_of 16 v.vp; first_uncertainty = v.vp_uncertainty; second = pattern_of 16 v.vn; second_uncertainty = v.vn_uncertainty }

abbrev pub voltages_bytes : Voltages → List ℕ
voltages_bytes v = estimates_bytes 0xE3 (voltages_raw v)

abbrev pub battery_raw : Battery → Estimates
battery_raw b =
    record { status = b.status; first = pattern_of 16 b.vb; first_uncertainty = b.vb_uncertainty; second = b.vb_max; second_uncertainty = b.vb_max_uncertainty }

abbrev pub battery_bytes : Battery → List ℕ
battery_bytes b = estimates_bytes 0xE4 (battery_raw b)

-- "SIM100 E5 bytes 3-7 are undefined: ignored on reading, zero when built"
abbrev pub flags_bytes : Kind → ErrorFlags → List ℕ
flags_bytes Sim100 e = 0xE5 ∷ e.status ∷ (bytes_of Big 1 e.flags ++ replicate 5 0)
flags_bytes Sim101 e = 0xE5 ∷ e.status ∷ bytes_of Big 2 e.flags

abbrev pub word_bytes : ℕ → ℕ → List ℕ
word_bytes mux word = mux ∷ bytes_of Big 4 word

-- F0, request and report alike
abbrev pub voltage_bytes : ℕ → List ℕ
voltage_bytes voltage = 0xF0 ∷ bytes_of Big 2 voltage

abbrev pub report_bytes : Kind → Report → List ℕ
report_bytes k (IsolationState e) = estimates_bytes 0xE0 e
report_bytes k (Resistances e) = estimates_bytes 0xE1 e
report_bytes k (Capacitances e) = estimates_bytes 0xE2 e
report_bytes k (PoleVoltages v) = voltages_bytes v
report_bytes k (BatteryVoltage b) = battery_bytes b
report_bytes k (Errors e) = flags_bytes k e
report_bytes k (Word mux w) = word_bytes mux w
report_bytes k (Temperature z) = word_bytes 0x80 (pattern_of 32 z)
report_bytes k (WorkingVoltage v) = voltage_bytes v

-- "Building a frame: 1 (identifier), 3, 6."
unfoldable pub build_report : Kind → ℕ → Report → Result Frame Refusal
build_report k identifier r = build (unlisted k) (misfit k) (report_bytes k) identifier r
