-- What the codec promises, for every frame, every kind and every identifier there is. `proofs/Promise` proves it.
use Rattle.std.specs.Prelude.{ℕ, ◌-◌, ◌<◌, ◌≤◌, ◌≡◌, true, false, cond, ◌&&◌, List, [], ◌∷◌, ◌++◌, ◌↔◌, ◌⊎◌, eqb, negsuc, take, replicate, Result, Ok, Err}
use Rattle.refusal.specs.declared.Refusal.{Refusal}
use Rattle.refusal.specs.Refusals.{number_of}
use Rattle.refusal.specs.Conditions.{Condition, First, NoneHolds, refusal, GivenExactly}
use Rattle.codec_pages.specs.declared.frame.Frame.{Frame}
use Rattle.codec_pages.specs.declared.rows.Kind.{Kind}
use Rattle.codec_pages.specs.declared.report.Report.{Report}
use Rattle.codec_pages.specs.declared.report.Report.TheVariants.{Word}
use Rattle.codec_pages.specs.declared.request.Request.{Request}
use Rattle.words.specs.Signed.{signed_of}
use Rattle.codec_pages.specs.Frames.{over_limits, mux_of, body_of, frame_of}
use Rattle.codec_pages.specs.Table.{number_at}
use Rattle.codec_pages.specs.Told.{report_mux, request_mux, told_report, told_request, told_built}
use Rattle.codec_pages.specs.Conditions.{report_conditions, request_conditions, table_report, table_request, report_build_conditions, request_build_conditions}
use Rattle.codec_pages.specs.Pages.{Pages}
use Rattle.codec_pages.specs.Borders.{Borders}
use Rattle.codec_pages.specs.Held.{HeldFrame, HeldReport, HeldRequest}
use Rattle.codec_pages.specs.Reports.{read_report}
use Rattle.codec_pages.specs.Building.{is_sim100, report_bytes, build_report}
use Rattle.codec_pages.specs.Requests.{read_request, request_bytes, build_request}

-- ---- the limits of a frame

-- 1: "a frame's length is over 8, or its identifier over 0x1FFFFFFF (extended) or 0x7FF (standard)", exactly then; and what is so where it is not due
pub record Limits (f : Frame) : Type 0 where
  pub over : over_limits f ≡ true ↔ ((8 < f.length) ⊎ ((f.extended ≡ true) × (0x1FFFFFFF < f.identifier))) ⊎ ((f.extended ≡ false) × (0x7FF < f.identifier))
  pub within : over_limits f ≡ false → (f.length ≤ 8) × ((f.extended ≡ true → f.identifier ≤ 0x1FFFFFFF) × (f.extended ≡ false → f.identifier ≤ 0x7FF))

-- ---- answered or refused

-- A frame to be built: refused as the conditions say, by the number alone; where none holds it is this one.
pub record Builds (b : Result Frame Refusal) (cs : List Condition) (f : Frame) : Type 0 where
  pub refused : (n : ℕ) → told_built b ≡ refusal n ↔ First n cs
  pub nothing : (n : ℕ) → First n cs → (why : Refusal) × ((b ≡ Err why) × (number_of why ≡ n))
  pub built : NoneHolds cs → b ≡ Ok f

-- a word of 01 to 0B is built on every identifier that the limits allow, whatever the word
abbrev pub WordsBuilt : Type 0
WordsBuilt = (k : Kind) (identifier mux word : ℕ) → identifier ≤ 0x1FFFFFFF → 0x01 ≤ mux → mux ≤ 0x0B → build_report k identifier (Word mux word) ≡ Ok (frame_of identifier (body_of (report_bytes k (Word mux word))))

-- ---- there and back

-- "Built frames read back as the same values."
abbrev pub ReportReadsBack : Type 0
ReportReadsBack = (k : Kind) (identifier : ℕ) (r : Report) (f : Frame) → HeldReport r → build_report k identifier r ≡ Ok f → read_report k identifier f ≡ Ok r

abbrev pub RequestReadsBack : Type 0
RequestReadsBack = (k : Kind) (identifier : ℕ) (r : Request) (f : Frame) → HeldRequest r → build_request k identifier r ≡ Ok f → read_request k identifier f ≡ Ok r

-- the frame with zeros from a place on
abbrev pub cleared : ℕ → Frame → Frame
cleared place f = record { extended = f.extended; identifier = f.identifier; length = f.length; bytes = take place f.bytes ++ replicate (8 - place) 0 }

-- "A read frame builds back the same frame, except that SIM100 E5 gets zeros in 3-7 and a SIM101 request in 1-2." Bytes past
-- the length are no part of the frame.
abbrev pub ReportBuildsBack : Type 0
ReportBuildsBack = (k : Kind) (expected : ℕ) (f : Frame) (r : Report) → HeldFrame f → read_report k expected f ≡ Ok r → build_report k expected r ≡ Ok (cleared (cond (is_sim100 k && eqb (mux_of f) 0xE5) 3 f.length) f)

abbrev pub RequestBuildsBack : Type 0
RequestBuildsBack = (k : Kind) (expected : ℕ) (f : Frame) (r : Request) → HeldFrame f → read_request k expected f ≡ Ok r → build_request k expected r ≡ Ok (cleared (cond (is_sim100 k) f.length 1) f)

-- "Bytes past the length are ignored on reading [..]": with zeros there, and in the two places above, the same is read
abbrev pub ReportPastLength : Type 0
ReportPastLength = (k : Kind) (expected : ℕ) (f : Frame) (r : Report) → HeldFrame f → HeldReport r → read_report k expected f ≡ Ok r → read_report k expected (cleared (cond (is_sim100 k && eqb (mux_of f) 0xE5) 3 f.length) f) ≡ Ok r

abbrev pub RequestPastLength : Type 0
RequestPastLength = (k : Kind) (expected : ℕ) (f : Frame) (r : Request) → HeldFrame f → HeldRequest r → read_request k expected f ≡ Ok r → read_request k expected (cleared (cond (is_sim100 k) f.length 1) f) ≡ Ok r

-- ---- the promise

pub record Promise : Type 0 where
  -- the pages in bytes, and the refusals at their borders
  pub pages : Pages
  pub borders : Borders
  pub limits : (f : Frame) → Limits f
  -- "Byte 0 is the multiplexer, repeated in the report."
  pub reports_first : (k : Kind) (identifier : ℕ) (r : Report) → mux_of (frame_of identifier (body_of (report_bytes k r))) ≡ report_mux r
  pub requests_first : (k : Kind) (identifier : ℕ) (r : Request) → mux_of (frame_of identifier (body_of (request_bytes k r))) ≡ request_mux r
  -- "so FF 9C is minus 100"
  pub minus_100 : signed_of 16 (number_at (0xFF ∷ 0x9C ∷ []) 0 2) ≡ negsuc 99
  pub reports_read : (k : Kind) (expected : ℕ) (f : Frame) → GivenExactly (told_report (read_report k expected f)) (report_conditions k expected f) (table_report k f)
  pub requests_read : (k : Kind) (expected : ℕ) (f : Frame) → GivenExactly (told_request (read_request k expected f)) (request_conditions k expected f) (table_request k f)
  pub reports_built : (k : Kind) (identifier : ℕ) (r : Report) → HeldReport r → Builds (build_report k identifier r) (report_build_conditions k identifier r) (frame_of identifier (body_of (report_bytes k r)))
  pub requests_built : (k : Kind) (identifier : ℕ) (r : Request) → Builds (build_request k identifier r) (request_build_conditions k identifier r) (frame_of identifier (body_of (request_bytes k r)))
  pub words_built : WordsBuilt
  pub reports_read_back : ReportReadsBack
  pub requests_read_back : RequestReadsBack
  pub reports_build_back : ReportBuildsBack
  pub requests_build_back : RequestBuildsBack
  pub reports_past_length : ReportPastLength
  pub requests_past_length : RequestPastLength
