-- The conditions of document 01's "Refusal numbers", each with its number, and what the table says where none holds.
use Rattle.std.specs.Prelude.{ℕ, ◌*◌, ◌/◌, ◌%◌, Bool, true, false, not, cond, ◌&&◌, ◌||◌, List, [], ◌∷◌, map, leb, eqb, ℤ, pos, negsuc, get_or}
use Rattle.std.proofs.Math.Option.{Option, none, some}
use Rattle.words.specs.Signed.{holds, holds_unsigned}
use Rattle.refusal.specs.Conditions.{Condition, ◌when◌}
use Rattle.codec_pages.specs.declared.frame.Frame.{Frame}
use Rattle.codec_pages.specs.declared.rows.Kind.{Kind}
use Rattle.codec_pages.specs.declared.report.Report.{Report}
use Rattle.codec_pages.specs.declared.request.Request.{Request}
use Rattle.codec_pages.specs.Frames.{over_identifier, over_limits, not_expected, mux_of}
use Rattle.codec_pages.specs.Table.{Field, Entry, entry_of, value_in}
use Rattle.codec_pages.specs.Told.{Values, report_mux, report_values}
use Rattle.codec_pages.specs.Building.{is_sim100, unlisted}
use Rattle.codec_pages.specs.Requests.{unlisted_request}

-- ---- the entry of a multiplexer

abbrev pub is_none : Option Entry → Bool
is_none none = true
is_none (some e) = false

-- what the table has for a multiplexer; where it has no entry, nothing and length 0
abbrev pub report_length : Option Entry → ℕ
report_length none = 0
report_length (some e) = e.report

abbrev pub request_length_of : Option Entry → ℕ
request_length_of none = 0
request_length_of (some e) = e.request

abbrev pub report_fields : Option Entry → List Field
report_fields none = []
report_fields (some e) = e.fields

abbrev pub request_fields : Option Entry → List Field
request_fields none = []
request_fields (some e) = e.asked

-- ---- reading

-- 3: "length 0, or a multiplexer not listed for that device kind"
abbrev pub not_listed : Kind → Frame → Bool
not_listed k f = eqb f.length 0 || is_none (entry_of k (mux_of f))

-- 5: "SIM100 report E0 to E5 with status bit 4 set, or status bits 1-0 equal to 01"
abbrev pub five_of : Kind → ℕ → ℕ → Bool
five_of k mux status = is_sim100 k && (leb 0xE0 mux && leb mux 0xE5) && (eqb (status / 16 % 2) 1 || eqb (status % 4) 1)

-- "Reading a report: 1, 2, 3, 4, 5."
abbrev pub report_conditions : Kind → ℕ → Frame → List Condition
report_conditions k expected f =
    (1 when over_limits f)
    ∷ (2 when not_expected expected f)
    ∷ (3 when not_listed k f)
    ∷ (4 when not (eqb f.length (report_length (entry_of k (mux_of f)))))
    ∷ (5 when five_of k (mux_of f) (get_or f.bytes 1 0))
    ∷ []

-- "Reading a request: 1, 2, 3, 4."
abbrev pub request_conditions : Kind → ℕ → Frame → List Condition
request_conditions k expected f =
    (1 when over_limits f)
    ∷ (2 when not_expected expected f)
    ∷ (3 when not_listed k f)
    ∷ (4 when not (eqb f.length (request_length_of (entry_of k (mux_of f)))))
    ∷ []

-- the multiplexer, with the values that the table's entry finds in the bytes
abbrev pub table_report : Kind → Frame → Values
table_report k f = (mux_of f, map (value_in f.bytes) (report_fields (entry_of k (mux_of f))))

abbrev pub table_request : Kind → Frame → Values
table_request k f = (mux_of f, map (value_in f.bytes) (request_fields (entry_of k (mux_of f))))

-- ---- building

-- a value fits its field
abbrev pub fits : Field → ℤ → Bool
fits f z = cond f.signed (holds (8 * f.width) z) (holds_unsigned (8 * f.width) z)

abbrev pub all_fit : List Field → List ℤ → Bool
all_fit [] [] = true
all_fit [] (z ∷ zs) = false
all_fit (f ∷ fs) [] = false
all_fit (f ∷ fs) (z ∷ zs) = fits f z && all_fit fs zs

-- the status byte is the first value of E0 to E5
abbrev pub status_among : List ℤ → ℕ
status_among [] = 0
status_among (pos n ∷ zs) = n
status_among (negsuc n ∷ zs) = 0

-- 6: "a value to be built does not fit its field or breaks the rule of 5"
abbrev pub six_of : Kind → Report → Bool
six_of k r =
    five_of k (report_mux r) (status_among (report_values r)) || not (all_fit (report_fields (entry_of k (report_mux r))) (report_values r))

-- "Building a frame: 1 (identifier), 3, 6." Every value that a request's type holds fits: 6 is never due
abbrev pub report_build_conditions : Kind → ℕ → Report → List Condition
report_build_conditions k identifier r = (1 when over_identifier identifier) ∷ (3 when unlisted k r) ∷ (6 when six_of k r) ∷ []

abbrev pub request_build_conditions : Kind → ℕ → Request → List Condition
request_build_conditions k identifier r = (1 when over_identifier identifier) ∷ (3 when unlisted_request k r) ∷ (6 when false) ∷ []
