-- Built frames read back as the same values. Assumes nothing.
use Prim.Native.Nat.{ℕ, ◌<◌}
use mathlib.Core.Path.{◌≡◌, refl, ap, subst, ◌∙◌}
use mathlib.Core.Bool.{true, false, ◌||◌}
use mathlib.Core.List.{List, ◌∷◌}
use native.Mathlib.Nat.{mod-eq_of_lt}
use native.Mathlib.Omega.{arith}
use borrow.Author.Tests.{eq-eqb, ltb-true, ltb-false, not-false}
use lib.Dec.{ltb, eqb}
use lib.IntN.{ℤ, pos, negsuc}
use lib.ListN.{get_or, length, replicate}
use Rattle.std.specs.Prelude.{Result, Ok, is_err}
use Rattle.words.proofs.Tests.{decided, false_true, or_left, or_right}
use Rattle.words.proofs.Words.{word_bytes_lem}
use Rattle.words.proofs.Signed.{signed_pattern, pattern_fits}
use Rattle.words.specs.Signed.{signed_of, pattern_of, holds}
use Rattle.words.specs.declared.Order.TheVariants.{Big}
use Rattle.refusal.specs.declared.Refusal.{Refusal}
use Rattle.refusal.specs.declared.Refusal.TheVariants.{OverLimits, NotListed, DoesNotFit}
use Rattle.refusal.proofs.Conditions.{not_good}
use Rattle.codec_pages.specs.declared.frame.Frame.{Frame}
use Rattle.codec_pages.specs.declared.rows.Kind.{Kind}
use Rattle.codec_pages.specs.declared.rows.Kind.TheVariants.{Sim100, Sim101}
use Rattle.codec_pages.specs.declared.rows.Row.{Row}
use Rattle.codec_pages.specs.declared.rows.Row.TheVariants.{MuxE0, MuxE1, MuxE2, MuxE3, MuxE4, MuxE5, Mux01To0B, Mux80, MuxF0}
use Rattle.codec_pages.specs.declared.report.Estimates.{Estimates}
use Rattle.codec_pages.specs.declared.report.Voltages.{Voltages}
use Rattle.codec_pages.specs.declared.report.Battery.{Battery}
use Rattle.codec_pages.specs.declared.report.ErrorFlags.{ErrorFlags}
use Rattle.codec_pages.specs.declared.report.Report.{Report}
use Rattle.codec_pages.specs.declared.report.Report.TheVariants.{IsolationState, Resistances, Capacitances, PoleVoltages, BatteryVoltage, Errors, Word, Temperature, WorkingVoltage}
use Rattle.codec_pages.specs.declared.request.Request.{Request}
use Rattle.codec_pages.specs.declared.request.Request.TheVariants.{ReadIsolationState, ReadResistances, ReadCapacitances, ReadVoltages, ReadBattery, ReadErrorFlags, ReadWord, ReadTemperature, SetWorkingVoltage}
use Rattle.codec_pages.specs.Requests.{request_of, read_request, unlisted_request, read_bytes, request_bytes, build_request}
use Rattle.codec_pages.specs.Frames.{over_identifier, body_of, frame_of}
use Rattle.codec_pages.specs.Table.{listed, row_of, entry_of, frame_row, request_length, flags_length}
use Rattle.codec_pages.specs.Reports.{voltage_of, bad_status, wrong_status, estimates_in, voltages_in, battery_in, report_of, read_report}
use Rattle.codec_pages.specs.Building.{unlisted, voltage_misfit, flags_misfit, misfit, estimates_bytes, voltages_raw, voltages_bytes, battery_raw, battery_bytes, flags_bytes, word_bytes, voltage_bytes, report_bytes, build_report}
use Rattle.codec_pages.specs.Held.{HeldReport, HeldRequest}
use Rattle.codec_pages.specs.Promise.{ReportReadsBack, RequestReadsBack}
use Rattle.codec_pages.proofs.Table.{word_row, word_only}

-- ---- the values of a row come back from its bytes

voltage_back : (k : Kind) (z : ℤ) → voltage_misfit k z ≡ false → voltage_of k (pattern_of 16 z) ≡ z
voltage_back Sim100 (pos n) h = ap pos (mod-eq_of_lt (ltb-true n 65536 (not-false (ltb n 65536) h)))
voltage_back Sim100 (negsuc m) h = let z : ◌≡◌ {A = ℕ} 0 1 = cc in absurd (omega arith)
voltage_back Sim101 z h = signed_pattern 15 z (not-false (holds 16 z) h)

estimates_back : (mux : ℕ) (e : Estimates) → e.first < 65536 → e.second < 65536 → estimates_in (body_of (estimates_bytes mux e)).bytes ≡ e
estimates_back mux e h l = rw (word_bytes_lem Big 2 e.first h, word_bytes_lem Big 2 e.second l) refl

voltages_back : (k : Kind) (v : Voltages) → voltage_misfit k v.vp ≡ false → voltage_misfit k v.vn ≡ false → voltages_in k (body_of (voltages_bytes v)).bytes ≡ v
voltages_back k v h l =
    rw (word_bytes_lem Big 2 (pattern_of 16 v.vp) (pattern_fits 16 v.vp), word_bytes_lem Big 2 (pattern_of 16 v.vn) (pattern_fits 16 v.vn), voltage_back k v.vp h, voltage_back k v.vn l)
    refl

battery_back : (k : Kind) (b : Battery) → voltage_misfit k b.vb ≡ false → b.vb_max < 65536 → battery_in k (body_of (battery_bytes b)).bytes ≡ b
battery_back k b h l =
    rw (word_bytes_lem Big 2 (pattern_of 16 b.vb) (pattern_fits 16 b.vb), word_bytes_lem Big 2 b.vb_max l, voltage_back k b.vb h)
    refl

ok_is : (f g : Frame) → ◌≡◌ {A = Result Frame Refusal} (Ok f) (Ok g) → f ≡ g
ok_is f g e = cc

-- ---- a built frame is read by the row that it was built by

module _ (k : Kind) (identifier : ℕ) (low : over_identifier identifier ≡ false) where
  opened : (bs : List ℕ) (row : Row) (report request : ℕ) → ltb 8 (length bs) ≡ false → eqb (length bs) 0 ≡ false → row_of k (get_or (body_of bs).bytes 0 0) ≡ Ok (listed row report request) → frame_row k identifier (frame_of identifier (body_of bs)) ≡ Ok (listed row report request)
  opened bs row report request h l e = rw (h, low, eq-eqb identifier identifier refl, l) e

  read_as : (bs : List ℕ) (row : Row) (request : ℕ) → ltb 8 (length bs) ≡ false → eqb (length bs) 0 ≡ false → row_of k (get_or (body_of bs).bytes 0 0) ≡ Ok (listed row (length bs) request) → wrong_status k row (get_or (body_of bs).bytes 1 0) ≡ false → read_report k identifier (frame_of identifier (body_of bs)) ≡ Ok (report_of k row (body_of bs).bytes)
  unfolding read_report
  read_as bs row request h l e status =
      rw (opened bs row (length bs) request h l e, eq-eqb (length bs) (length bs) refl, status) refl

  -- E0 to E4
  read_estimates : (mux : ℕ) (row : Row) (e : Estimates) → row_of k mux ≡ Ok (listed row 8 (request_length k)) → wrong_status k row e.status ≡ false → read_report k identifier (frame_of identifier (body_of (estimates_bytes mux e))) ≡ Ok (report_of k row (body_of (estimates_bytes mux e)).bytes)
  read_estimates mux row e listed status =
      read_as (estimates_bytes mux e) row (request_length k) refl refl listed status

-- ---- reports

module _ (identifier : ℕ) (low : over_identifier identifier ≡ false) where
  read_flags : (k : Kind) (e : ErrorFlags) → bad_status k e.status ≡ false → flags_misfit k e.flags ≡ false → e.flags < 65536 → read_report k identifier (frame_of identifier (body_of (flags_bytes k e))) ≡ Ok (Errors e)
  unfolding entry_of
  read_flags Sim100 e status fits h =
      read_as Sim100 identifier low (flags_bytes Sim100 e) MuxE5 1 refl refl refl status
      ∙ ap (λ (n : ℕ). Ok (Errors (record { status = e.status; flags = n }))) (mod-eq_of_lt (omega (arith, ltb-false 255 e.flags fits)))
  read_flags Sim101 e status fits h =
      read_as Sim101 identifier low (flags_bytes Sim101 e) MuxE5 3 refl refl refl status
      ∙ ap (λ (n : ℕ). Ok (Errors (record { status = e.status; flags = n }))) (word_bytes_lem Big 2 e.flags h)

  read_temperature : (k : Kind) (z : ℤ) → is_err (row_of k 0x80) ≡ false → holds 32 z ≡ true → read_report k identifier (frame_of identifier (body_of (word_bytes 0x80 (pattern_of 32 z)))) ≡ Ok (Temperature z)
  unfolding entry_of
  read_temperature Sim100 z u h = false_true u
  read_temperature Sim101 z u h =
      read_as Sim101 identifier low (word_bytes 0x80 (pattern_of 32 z)) Mux80 3 refl refl refl refl
      ∙ ap (λ (x : ℤ). Ok (Temperature x)) (ap (signed_of 32) (word_bytes_lem Big 4 (pattern_of 32 z) (pattern_fits 32 z)) ∙ signed_pattern 31 z h)

  read_voltage : (k : Kind) (v : ℕ) → is_err (row_of k 0xF0) ≡ false → v < 65536 → read_report k identifier (frame_of identifier (body_of (voltage_bytes v))) ≡ Ok (WorkingVoltage v)
  unfolding entry_of
  read_voltage Sim100 v u h =
      read_as Sim100 identifier low (voltage_bytes v) MuxF0 3 refl refl refl refl
      ∙ ap (λ (n : ℕ). Ok (WorkingVoltage n)) (word_bytes_lem Big 2 v h)
  read_voltage Sim101 v u h = false_true u

  read_report_lem : (k : Kind) (r : Report) → unlisted k r ≡ false → misfit k r ≡ false → HeldReport r → read_report k identifier (frame_of identifier (body_of (report_bytes k r))) ≡ Ok r
  unfolding entry_of
  read_report_lem k (IsolationState e) u m h =
      read_estimates k identifier low 0xE0 MuxE0 e refl m ∙ ap (λ (x : Estimates). Ok (IsolationState x)) (estimates_back 0xE0 e h.1.0 h.1.1.1.0)
  read_report_lem k (Resistances e) u m h =
      read_estimates k identifier low 0xE1 MuxE1 e refl m ∙ ap (λ (x : Estimates). Ok (Resistances x)) (estimates_back 0xE1 e h.1.0 h.1.1.1.0)
  read_report_lem k (Capacitances e) u m h =
      read_estimates k identifier low 0xE2 MuxE2 e refl m ∙ ap (λ (x : Estimates). Ok (Capacitances x)) (estimates_back 0xE2 e h.1.0 h.1.1.1.0)
  read_report_lem k (PoleVoltages v) u m h =
      let first = or_left (bad_status k v.status || voltage_misfit k v.vp) (voltage_misfit k v.vn) m in
      read_estimates k identifier low 0xE3 MuxE3 (voltages_raw v) refl (or_left (bad_status k v.status) (voltage_misfit k v.vp) first)
      ∙ ap (λ (x : Voltages). Ok (PoleVoltages x)) (voltages_back k v (or_right (bad_status k v.status) (voltage_misfit k v.vp) first) (or_right (bad_status k v.status || voltage_misfit k v.vp) (voltage_misfit k v.vn) m))
  read_report_lem k (BatteryVoltage b) u m h =
      read_estimates k identifier low 0xE4 MuxE4 (battery_raw b) refl (or_left (bad_status k b.status) (voltage_misfit k b.vb) m)
      ∙ ap (λ (x : Battery). Ok (BatteryVoltage x)) (battery_back k b (or_right (bad_status k b.status) (voltage_misfit k b.vb) m) h.1.1.0)
  read_report_lem k (Errors e) u m h =
      read_flags k e (or_left (bad_status k e.status) (flags_misfit k e.flags) m) (or_right (bad_status k e.status) (flags_misfit k e.flags) m) h.1
  read_report_lem k (Word mux w) u m h =
      read_as k identifier low (word_bytes mux w) Mux01To0B (request_length k) refl refl
      (word_row k mux (word_only k mux u).0 (word_only k mux u).1)
      refl
      ∙ ap (λ (n : ℕ). Ok (Word mux n)) (word_bytes_lem Big 4 w h.1)
  read_report_lem k (Temperature z) u m h = read_temperature k z u h
  read_report_lem k (WorkingVoltage v) u m h = read_voltage k v u h

pub report_reads_back : ReportReadsBack
unfolding build_report
report_reads_back k identifier r f h e =
    decided (over_identifier identifier)
    (λ x. not_good OverLimits f (rw x at e))
    (λ x. decided (unlisted k r)
    (λ y. not_good NotListed f (rw (x, y) at e))
    (λ y. decided (misfit k r)
    (λ z. not_good DoesNotFit f (rw (x, y, z) at e))
    (λ z. let q : Ok (frame_of identifier (body_of (report_bytes k r))) ≡ Ok f = rw (x, y, z) at e in
    subst (λ (g : Frame). read_report k identifier g ≡ Ok r) (ok_is _ f q) (read_report_lem identifier x k r y z h))))

-- ---- requests

module _ (identifier : ℕ) (low : over_identifier identifier ≡ false) where
  asked_as : (k : Kind) (bs : List ℕ) (row : Row) (report : ℕ) → ltb 8 (length bs) ≡ false → eqb (length bs) 0 ≡ false → row_of k (get_or (body_of bs).bytes 0 0) ≡ Ok (listed row report (length bs)) → read_request k identifier (frame_of identifier (body_of bs)) ≡ Ok (request_of row (body_of bs).bytes)
  unfolding read_request
  asked_as k bs row report h l e =
      rw (opened k identifier low bs row report (length bs) h l e, eq-eqb (length bs) (length bs) refl) refl

  -- a request without values
  asked_plain : (k : Kind) (mux report : ℕ) (row : Row) (r : Request) → row_of k mux ≡ Ok (listed row report (request_length k)) → request_of row (mux ∷ replicate 7 0) ≡ r → read_request k identifier (frame_of identifier (body_of (read_bytes k mux))) ≡ Ok r
  asked_plain Sim100 mux report row r e q = asked_as Sim100 (read_bytes Sim100 mux) row report refl refl e ∙ ap Ok q
  asked_plain Sim101 mux report row r e q = asked_as Sim101 (read_bytes Sim101 mux) row report refl refl e ∙ ap Ok q

  asked_temperature : (k : Kind) → is_err (row_of k 0x80) ≡ false → read_request k identifier (frame_of identifier (body_of (read_bytes k 0x80))) ≡ Ok ReadTemperature
  unfolding entry_of
  asked_temperature Sim100 u = false_true u
  asked_temperature Sim101 u = asked_plain Sim101 0x80 5 Mux80 ReadTemperature refl refl

  asked_voltage : (k : Kind) (v : ℕ) → is_err (row_of k 0xF0) ≡ false → v < 65536 → read_request k identifier (frame_of identifier (body_of (voltage_bytes v))) ≡ Ok (SetWorkingVoltage v)
  unfolding entry_of
  asked_voltage Sim100 v u h =
      asked_as Sim100 (voltage_bytes v) MuxF0 3 refl refl refl ∙ ap (λ (n : ℕ). Ok (SetWorkingVoltage n)) (word_bytes_lem Big 2 v h)
  asked_voltage Sim101 v u h = false_true u

  read_request_lem : (k : Kind) (r : Request) → unlisted_request k r ≡ false → HeldRequest r → read_request k identifier (frame_of identifier (body_of (request_bytes k r))) ≡ Ok r
  unfolding entry_of
  read_request_lem k ReadIsolationState u h = asked_plain k 0xE0 8 MuxE0 ReadIsolationState refl refl
  read_request_lem k ReadResistances u h = asked_plain k 0xE1 8 MuxE1 ReadResistances refl refl
  read_request_lem k ReadCapacitances u h = asked_plain k 0xE2 8 MuxE2 ReadCapacitances refl refl
  read_request_lem k ReadVoltages u h = asked_plain k 0xE3 8 MuxE3 ReadVoltages refl refl
  read_request_lem k ReadBattery u h = asked_plain k 0xE4 8 MuxE4 ReadBattery refl refl
  read_request_lem k ReadErrorFlags u h = asked_plain k 0xE5 (flags_length k) MuxE5 ReadErrorFlags refl refl
  read_request_lem k (ReadWord mux) u h =
      asked_plain k mux 5 Mux01To0B (ReadWord mux)
      (word_row k mux (word_only k mux u).0 (word_only k mux u).1)
      refl
  read_request_lem k ReadTemperature u h = asked_temperature k u
  read_request_lem k (SetWorkingVoltage v) u h = asked_voltage k v u h

pub request_reads_back : RequestReadsBack
unfolding build_request
request_reads_back k identifier r f h e =
    decided (over_identifier identifier)
    (λ x. not_good OverLimits f (rw x at e))
    (λ x. decided (unlisted_request k r)
    (λ y. not_good NotListed f (rw (x, y) at e))
    (λ y. let q : Ok (frame_of identifier (body_of (request_bytes k r))) ≡ Ok f = rw (x, y) at e in
    subst (λ (g : Frame). read_request k identifier g ≡ Ok r) (ok_is _ f q) (read_request_lem identifier x k r y h)))
