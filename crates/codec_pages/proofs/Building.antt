-- Building: a value is refused by 6 exactly when it does not fit its field in the table, or breaks the rule of 5. Assumes nothing.
use Prim.Native.Nat.{ℕ, ◌^◌, ◌<◌, ◌≤◌}
use mathlib.Core.Path.{◌≡◌, refl, sym, ◌∙◌}
use mathlib.Core.Bool.{Bool, true, false, not, cond, ◌&&◌, ◌||◌, and-true, or-false}
use mathlib.Core.Logic.{inl, inr}
use mathlib.Core.List.{List, [], ◌∷◌, map}
use native.Mathlib.Omega.{arith}
use borrow.Author.Tests.{lt-ltb, le-ltb}
use lib.Dec.{ltb, lit≤}
use lib.IntN.{ℤ, pos}
use lib.ListN.{length, take}
use Rattle.std.specs.Prelude.{Result, Ok, Err, is_err}
use Rattle.refusal.specs.declared.Refusal.{Refusal}
use Rattle.codec_pages.specs.declared.frame.Frame.{Frame}
use Rattle.words.proofs.Tests.{decided, false_true}
use Rattle.words.proofs.Signed.{over}
use Rattle.words.specs.Signed.{holds}
use Rattle.codec_pages.specs.declared.rows.Kind.{Kind}
use Rattle.codec_pages.specs.declared.rows.Kind.TheVariants.{Sim100, Sim101}
use Rattle.codec_pages.specs.declared.report.Estimates.{Estimates}
use Rattle.codec_pages.specs.declared.report.ErrorFlags.{ErrorFlags}
use Rattle.codec_pages.specs.declared.report.Report.{Report}
use Rattle.codec_pages.specs.declared.report.Report.TheVariants.{IsolationState, Resistances, Capacitances, PoleVoltages, BatteryVoltage, Errors, Word, Temperature, WorkingVoltage}
use Rattle.codec_pages.specs.declared.request.Request.{Request}
use Rattle.codec_pages.specs.declared.request.Request.TheVariants.{ReadIsolationState, ReadResistances, ReadCapacitances, ReadVoltages, ReadBattery, ReadErrorFlags, ReadWord, ReadTemperature, SetWorkingVoltage}
use Rattle.refusal.specs.declared.Refusal.TheVariants.{OverLimits, NotListed, DoesNotFit}
use Rattle.codec_pages.specs.Frames.{over_identifier, mux_of, body_of, frame_of}
use Rattle.codec_pages.specs.Table.{Field, entry_of, row_of, unsigned, estimates_of, voltage_at, flags_of}
use Rattle.refusal.specs.Refusals.{number_of}
use Rattle.refusal.specs.Conditions.{◌when◌, First}
use Rattle.refusal.proofs.Conditions.{pick, pick_exactly}
use Rattle.codec_pages.specs.Told.{estimates, report_mux, request_mux, told_built}
use Rattle.codec_pages.specs.Reports.{bad_status}
use Rattle.codec_pages.specs.Building.{unlisted, voltage_misfit, flags_misfit, misfit, report_bytes, build_report}
use Rattle.codec_pages.specs.Requests.{unlisted_request, read_bytes, request_bytes, build_request}
use Rattle.codec_pages.specs.Conditions.{fits, all_fit, five_of, six_of, report_build_conditions, request_build_conditions}
use Rattle.codec_pages.specs.Held.{HeldEstimates, HeldReport}
use Rattle.codec_pages.specs.Promise.{Builds, WordsBuilt}
use Rattle.codec_pages.proofs.Table.{word_entry, word_row, word_only}
use Rattle.codec_pages.proofs.Reading.{five_in, five_below}

-- ---- fits, all_fit

-- the status and the uncertainties always fit
two_values : (x y : Field) (s p q : ℕ) (u v : ℤ) → s < 256 → p < 256 → q < 256 → all_fit (estimates_of x y) (pos s ∷ u ∷ pos p ∷ v ∷ pos q ∷ []) ≡ (fits x u && fits y v)
two_values x y s p q u v hs hp hq =
    rw (lt-ltb s 256 hs, lt-ltb p 256 hp, lt-ltb q 256 hq, and-true (fits y v)) refl

voltage_field : (k : Kind) (place : ℕ) (z : ℤ) → voltage_misfit k z ≡ not (fits (voltage_at k place) z)
voltage_field Sim100 place z = refl
voltage_field Sim101 place z = refl

-- ---- six_of

nothing_else : (a b x : Bool) → a ≡ b → x ≡ true → a ≡ (b || not x)
nothing_else a b x e h = rw h (e ∙ sym (or-false b))

either : (a b x y u v : Bool) → a ≡ b → x ≡ not u → y ≡ not v → (a || x || y) ≡ (b || not (u && v))
either true b x y u v e p q = rw (sym e) refl
either false b x y true v e p q = rw (sym e, p, q) refl
either false b x y false v e p q = rw (sym e, p) refl

estimates_six : (k : Kind) (mux : ℕ) (e : Estimates) → 0xE0 ≤ mux → mux ≤ 0xE5 → HeldEstimates e → bad_status k e.status ≡ (five_of k mux e.status || not (all_fit (estimates_of (unsigned 2 2) (unsigned 5 2)) (estimates e)))
estimates_six k mux e lo hi h =
    nothing_else (bad_status k e.status) (five_of k mux e.status) (all_fit (estimates_of (unsigned 2 2) (unsigned 5 2)) (estimates e))
    (five_in k mux e.status lo hi)
    (two_values (unsigned 2 2) (unsigned 5 2) e.status e.first_uncertainty e.second_uncertainty (pos e.first) (pos e.second) h.0 h.1.1.0 h.1.1.1.1
    ∙ rw (lt-ltb e.first 65536 h.1.0, lt-ltb e.second 65536 h.1.1.1.0) refl)

flags_six : (k : Kind) (e : ErrorFlags) → e.status < 256 → e.flags < 65536 → (bad_status k e.status || flags_misfit k e.flags) ≡ (five_of k 0xE5 e.status || not (all_fit (flags_of k) (pos e.status ∷ pos e.flags ∷ [])))
flags_six Sim100 e h l =
    rw (lt-ltb e.status 256 h, and-true (ltb e.flags 256), over 256 e.flags, five_in Sim100 0xE5 e.status (lit≤ tt) (lit≤ tt)) refl
flags_six Sim101 e h l = rw (lt-ltb e.status 256 h, lt-ltb e.flags 65536 l) refl

temperature_six : (k : Kind) (z : ℤ) → is_err (row_of k 0x80) ≡ false → holds 32 z ≡ true → false ≡ six_of k (Temperature z)
unfolding entry_of
temperature_six Sim100 z u h = false_true u
temperature_six Sim101 z u h = rw h refl

voltage_six : (k : Kind) (v : ℕ) → is_err (row_of k 0xF0) ≡ false → v < 65536 → false ≡ six_of k (WorkingVoltage v)
unfolding entry_of
voltage_six Sim100 v u h = rw (lt-ltb v 65536 h) refl
voltage_six Sim101 v u h = false_true u

word_six : (k : Kind) (mux w : ℕ) → 0x01 ≤ mux → mux ≤ 0x0B → w < 2 ^ 32 → false ≡ six_of k (Word mux w)
word_six k mux w h l b = rw (word_entry k mux h l, sym (five_below k mux w (omega arith)), lt-ltb w (2 ^ 32) b) refl

six_is : (k : Kind) (r : Report) → HeldReport r → unlisted k r ≡ false → misfit k r ≡ six_of k r
unfolding entry_of
six_is k (IsolationState e) h u = estimates_six k 0xE0 e (lit≤ tt) (lit≤ tt) h
six_is k (Resistances e) h u = estimates_six k 0xE1 e (lit≤ tt) (lit≤ tt) h
six_is k (Capacitances e) h u = estimates_six k 0xE2 e (lit≤ tt) (lit≤ tt) h
six_is k (PoleVoltages v) h u =
    rw (two_values (voltage_at k 2) (voltage_at k 5) v.status v.vp_uncertainty v.vn_uncertainty v.vp v.vn h.0 h.1.0 h.1.1)
    (either (bad_status k v.status) (five_of k 0xE3 v.status) (voltage_misfit k v.vp) (voltage_misfit k v.vn) (fits (voltage_at k 2) v.vp) (fits (voltage_at k 5) v.vn)
    (five_in k 0xE3 v.status (lit≤ tt) (lit≤ tt)) (voltage_field k 2 v.vp) (voltage_field k 5 v.vn))
six_is k (BatteryVoltage b) h u =
    rw (two_values (voltage_at k 2) (unsigned 5 2) b.status b.vb_uncertainty b.vb_max_uncertainty b.vb (pos b.vb_max) h.0 h.1.0 h.1.1.1, lt-ltb b.vb_max 65536 h.1.1.0)
    (sym (or-false (bad_status k b.status || voltage_misfit k b.vb))
    ∙ either (bad_status k b.status) (five_of k 0xE4 b.status) (voltage_misfit k b.vb) false (fits (voltage_at k 2) b.vb) true
    (five_in k 0xE4 b.status (lit≤ tt) (lit≤ tt)) (voltage_field k 2 b.vb) refl)
six_is k (Errors e) h u = flags_six k e h.0 h.1
six_is k (Word mux w) h u =
    let both = word_only k mux u in
    word_six k mux w both.0 both.1 h.1
six_is k (Temperature z) h u = temperature_six k z u h
six_is k (WorkingVoltage v) h u = voltage_six k v u h

-- ---- what is built: 1, 3, 6 in that order, or the frame

abbrev pub in_order : Bool → Bool → Bool → Result Frame Refusal → Result Frame Refusal
in_order one three six b = cond one (Err OverLimits) (cond three (Err NotListed) (cond six (Err DoesNotFit) b))

told : (a b c : Bool) (i : ℕ) (bs : List ℕ) → told_built (in_order a b c (Ok (frame_of i (body_of bs)))) ≡ pick ((1 when a) ∷ (3 when b) ∷ (6 when c) ∷ []) (i, map pos (take (length bs) (body_of bs).bytes))
told true b c i bs = refl
told false true c i bs = refl
told false false true i bs = refl
told false false false i bs = refl

alone : (a b c : Bool) (f : Result Frame Refusal) (n : ℕ) → First n ((1 when a) ∷ (3 when b) ∷ (6 when c) ∷ []) → (why : Refusal) × ((in_order a b c f ≡ Err why) × (number_of why ≡ n))
alone true b c f n (inl h) = (OverLimits, (refl, sym h.1))
alone true b c f n (inr h) = false_true h.0
alone false b c f n (inl h) = false_true (sym h.0)
alone false true c f n (inr (_, inl h)) = (NotListed, (refl, sym h.1))
alone false true c f n (inr (_, inr h)) = false_true h.0
alone false false c f n (inr (_, inl h)) = false_true (sym h.0)
alone false false true f n (inr (_, inr (_, inl h))) = (DoesNotFit, (refl, sym h.1))
alone false false true f n (inr (_, inr (_, inr h))) = false_true h.0
alone false false false f n (inr (_, inr (_, inl h))) = false_true (sym h.0)
alone false false false f n (inr (_, inr (_, inr h))) = absurd h.1

builds : (b : Result Frame Refusal) (one three six : Bool) (i : ℕ) (bs : List ℕ) → b ≡ in_order one three six (Ok (frame_of i (body_of bs))) → Builds b ((1 when one) ∷ (3 when three) ∷ (6 when six) ∷ []) (frame_of i (body_of bs))
builds b one three six i bs e =
    let cs = (1 when one) ∷ (3 when three) ∷ (6 when six) ∷ [] in
    record {
      refused = λ n. rw (e, told one three six i bs) (pick_exactly cs (i, map pos (take (length bs) (body_of bs).bytes)) n);
      nothing = λ n h. rw e (alone one three six (Ok (frame_of i (body_of bs))) n h);
      built = λ h. e ∙ rw (h.0, h.1.0, h.1.1.0) refl;
    }

-- a report and a request are built by their tests, in order
pub report_by_tests : (k : Kind) (identifier : ℕ) (r : Report) → build_report k identifier r ≡ in_order (over_identifier identifier) (unlisted k r) (misfit k r) (Ok (frame_of identifier (body_of (report_bytes k r))))
unfolding build_report
report_by_tests k identifier r = refl

pub request_by_tests : (k : Kind) (identifier : ℕ) (r : Request) → build_request k identifier r ≡ in_order (over_identifier identifier) (unlisted_request k r) false (Ok (frame_of identifier (body_of (request_bytes k r))))
unfolding build_request
request_by_tests k identifier r = refl

-- 6 is looked at only where 3 is not due
report_is : (k : Kind) (identifier : ℕ) (r : Report) → HeldReport r → build_report k identifier r ≡ in_order (over_identifier identifier) (unlisted k r) (six_of k r) (Ok (frame_of identifier (body_of (report_bytes k r))))
report_is k identifier r held =
    report_by_tests k identifier r
    ∙ decided (unlisted k r) (λ y. rw y refl) (λ y. rw (y, six_is k r held y) refl)

pub report_built : (k : Kind) (identifier : ℕ) (r : Report) → HeldReport r → Builds (build_report k identifier r) (report_build_conditions k identifier r) (frame_of identifier (body_of (report_bytes k r)))
report_built k identifier r held =
    builds (build_report k identifier r) (over_identifier identifier) (unlisted k r) (six_of k r) identifier (report_bytes k r) (report_is k identifier r held)

pub request_built : (k : Kind) (identifier : ℕ) (r : Request) → Builds (build_request k identifier r) (request_build_conditions k identifier r) (frame_of identifier (body_of (request_bytes k r)))
request_built k identifier r =
    builds (build_request k identifier r) (over_identifier identifier) (unlisted_request k r) false identifier (request_bytes k r) (request_by_tests k identifier r)

-- 01 to 0B
pub words_built : WordsBuilt
unfolding build_report
words_built k identifier mux word h low high = let within : over_identifier identifier ≡ false = le-ltb _ _ h in rw (within, word_row k mux low high) refl

-- ---- byte 0

pub report_first : (k : Kind) (identifier : ℕ) (r : Report) → mux_of (frame_of identifier (body_of (report_bytes k r))) ≡ report_mux r
report_first k identifier (IsolationState e) = refl
report_first k identifier (Resistances e) = refl
report_first k identifier (Capacitances e) = refl
report_first k identifier (PoleVoltages v) = refl
report_first k identifier (BatteryVoltage b) = refl
report_first Sim100 identifier (Errors e) = refl
report_first Sim101 identifier (Errors e) = refl
report_first k identifier (Word mux w) = refl
report_first k identifier (Temperature z) = refl
report_first k identifier (WorkingVoltage v) = refl

read_first : (k : Kind) (identifier mux : ℕ) → mux_of (frame_of identifier (body_of (read_bytes k mux))) ≡ mux
read_first Sim100 identifier mux = refl
read_first Sim101 identifier mux = refl

pub request_first : (k : Kind) (identifier : ℕ) (r : Request) → mux_of (frame_of identifier (body_of (request_bytes k r))) ≡ request_mux r
request_first k identifier ReadIsolationState = read_first k identifier 0xE0
request_first k identifier ReadResistances = read_first k identifier 0xE1
request_first k identifier ReadCapacitances = read_first k identifier 0xE2
request_first k identifier ReadVoltages = read_first k identifier 0xE3
request_first k identifier ReadBattery = read_first k identifier 0xE4
request_first k identifier ReadErrorFlags = read_first k identifier 0xE5
request_first k identifier (ReadWord mux) = read_first k identifier mux
request_first k identifier ReadTemperature = read_first k identifier 0x80
request_first k identifier (SetWorkingVoltage v) = refl
