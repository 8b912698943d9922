-- What the types of the values already say: in the logic a number is of any size.
use Rattle.std.specs.Prelude.{◌<◌, ◌^◌, ◌≡◌, true, length}
use Rattle.words.specs.Words.{Bytes}
use Rattle.words.specs.Signed.{holds}
use Rattle.codec_pages.specs.declared.frame.Frame.{Frame}
use Rattle.codec_pages.specs.declared.report.Estimates.{Estimates}
use Rattle.codec_pages.specs.declared.report.Report.{Report}
use Rattle.codec_pages.specs.declared.report.Report.TheVariants.{IsolationState, Resistances, Capacitances, PoleVoltages, BatteryVoltage, Errors, Word, Temperature, WorkingVoltage}
use Rattle.codec_pages.specs.declared.request.Request.{Request}
use Rattle.codec_pages.specs.declared.request.Request.TheVariants.{ReadIsolationState, ReadResistances, ReadCapacitances, ReadVoltages, ReadBattery, ReadErrorFlags, ReadWord, ReadTemperature, SetWorkingVoltage}

-- a frame has eight bytes, each below 256
pub record HeldFrame (f : Frame) : Type 0 where
  pub eight : length f.bytes ≡ 8
  pub each : Bytes f.bytes

abbrev pub HeldEstimates : Estimates → Type 0
HeldEstimates e =
    (e.status < 256)
    × ((e.first < 65536) × ((e.first_uncertainty < 256) × ((e.second < 65536) × (e.second_uncertainty < 256))))

abbrev pub HeldReport : Report → Type 0
HeldReport (IsolationState e) = HeldEstimates e
HeldReport (Resistances e) = HeldEstimates e
HeldReport (Capacitances e) = HeldEstimates e
HeldReport (PoleVoltages v) = (v.status < 256) × ((v.vp_uncertainty < 256) × (v.vn_uncertainty < 256))
HeldReport (BatteryVoltage b) = (b.status < 256) × ((b.vb_uncertainty < 256) × ((b.vb_max < 65536) × (b.vb_max_uncertainty < 256)))
HeldReport (Errors e) = (e.status < 256) × (e.flags < 65536)
HeldReport (Word mux w) = (mux < 256) × (w < 2 ^ 32)
HeldReport (Temperature z) = holds 32 z ≡ true
HeldReport (WorkingVoltage v) = v < 65536

abbrev pub HeldRequest : Request → Type 0
HeldRequest ReadIsolationState = Unit
HeldRequest ReadResistances = Unit
HeldRequest ReadCapacitances = Unit
HeldRequest ReadVoltages = Unit
HeldRequest ReadBattery = Unit
HeldRequest ReadErrorFlags = Unit
HeldRequest (ReadWord mux) = mux < 256
HeldRequest ReadTemperature = Unit
HeldRequest (SetWorkingVoltage v) = v < 65536
