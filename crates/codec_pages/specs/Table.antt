-- Document 01's report table, an entry for each of its rows.
--
--     Mux      Length   Report, bytes from 1
--     E0       8        status, isolation Ohm/V (2-3), its uncertainty (4), energy mJ (5-6), its uncertainty (7)
--     E1       8        status, Rp kOhm, uncertainty, Rn, uncertainty, same places
--     E2       8        status, Cp nF, uncertainty, Cn, uncertainty
--     E3       8        status, Vp V, uncertainty, Vn, uncertainty
--     E4       8        status, Vb V, uncertainty, Vb max, uncertainty
--     E5       8 / 4    status, error flags: SIM100 byte 2, SIM101 bytes 2-3
--     01-0B    5        one 32-bit word (part name, version, serial)
--     80       5        SIM101 only: temperature in thousandths of a degree, signed 32 bits
--     F0       3        SIM100 only: working voltage, request and report alike
use Rattle.std.specs.Prelude.{ℕ, ◌*◌, Bool, true, false, not, cond, ◌&&◌, List, [], ◌∷◌, ◌++◌, leb, eqb, ℤ, pos, get_or, take, Result, Ok, Err}
use Rattle.std.proofs.Math.Option.{Option, none, some}
use Rattle.words.specs.declared.Order.{Order}
use Rattle.words.specs.declared.Order.TheVariants.{Big}
pub use Rattle.words.specs.Words.{part}
use Rattle.words.specs.Words.{word_of}
use Rattle.words.specs.Signed.{signed_of}
use Rattle.refusal.specs.declared.Refusal.{Refusal}
use Rattle.refusal.specs.declared.Refusal.TheVariants.{OverLimits, NotExpected, NotListed, WrongLength, WrongStatus}
use Rattle.codec_pages.specs.declared.frame.Frame.{Frame}
use Rattle.codec_pages.specs.declared.rows.Kind.{Kind}
use Rattle.codec_pages.specs.declared.rows.Kind.TheVariants.{Sim100, Sim101}
use Rattle.codec_pages.specs.declared.rows.Row.{Row}
use Rattle.codec_pages.specs.declared.rows.Row.TheVariants.{MuxE0, MuxE1, MuxE2, MuxE3, MuxE4, MuxE5, Mux01To0B, Mux80, MuxF0}
use Rattle.codec_pages.specs.declared.rows.Listed.{Listed}
use Rattle.codec_pages.specs.Frames.{over_limits, not_expected, mux_of}

-- ---- fields

-- the number at a place of a block or a message, most significant byte first
abbrev pub number_at : List ℕ → ℕ → ℕ → ℕ
number_at bytes place width = word_of Big (part bytes place width)

-- a field of the table: where it stands, which of its bytes comes first, and whether it is signed
pub record Field : Type 0 where
  pub place : ℕ
  pub width : ℕ
  pub order : Order
  pub signed : Bool

-- "All numbers are most significant byte first."
abbrev pub unsigned : ℕ → ℕ → Field
unsigned place width = record { place = place; width = width; order = Big; signed = false }

abbrev pub twos : ℕ → ℕ → Field
twos place width = record { place = place; width = width; order = Big; signed = true }

abbrev pub value_by : Bool → ℕ → ℕ → ℤ
value_by false width n = pos n
value_by true width n = signed_of (8 * width) n

abbrev pub value_in : List ℕ → Field → ℤ
value_in bytes f = value_by f.signed f.width (word_of f.order (part bytes f.place f.width))

-- "For SIM100 all 16-bit values are unsigned. For SIM101, Vp, Vn and Vb are signed, two's complement"
abbrev pub voltage_at : Kind → ℕ → Field
voltage_at Sim100 place = unsigned place 2
voltage_at Sim101 place = twos place 2

-- status, a value, its uncertainty, another value, its uncertainty
abbrev pub estimates_of : Field → Field → List Field
estimates_of first second = unsigned 1 1 ∷ first ∷ unsigned 4 1 ∷ second ∷ unsigned 7 1 ∷ []

abbrev pub flags_of : Kind → List Field
flags_of Sim100 = unsigned 1 1 ∷ unsigned 2 1 ∷ []
flags_of Sim101 = unsigned 1 1 ∷ unsigned 2 2 ∷ []

abbrev pub flags_length : Kind → ℕ
flags_length Sim100 = 8
flags_length Sim101 = 4

-- "A SIM100 read request has length 1. A SIM101 request has length 3"
abbrev pub request_length : Kind → ℕ
request_length Sim100 = 1
request_length Sim101 = 3

-- ---- rows

-- an entry: the multiplexers first to last, the row's name, the lengths of report and request, and the fields of both
pub record Entry : Type 0 where
  pub first : ℕ
  pub last : ℕ
  pub row : Row
  pub report : ℕ
  pub request : ℕ
  pub fields : List Field
  pub asked : List Field

abbrev pub entry : ℕ → ℕ → Row → ℕ → ℕ → List Field → List Field → Entry
entry first last row report request fields asked =
    record { first = first; last = last; row = row; report = report; request = request; fields = fields; asked = asked }

-- the entries that both kinds have
abbrev pub common : Kind → List Entry
common k =
    entry 0xE0 0xE0 MuxE0 8 (request_length k) (estimates_of (unsigned 2 2) (unsigned 5 2)) []
    ∷ entry 0xE1 0xE1 MuxE1 8 (request_length k) (estimates_of (unsigned 2 2) (unsigned 5 2)) []
    ∷ entry 0xE2 0xE2 MuxE2 8 (request_length k) (estimates_of (unsigned 2 2) (unsigned 5 2)) []
    ∷ entry 0xE3 0xE3 MuxE3 8 (request_length k) (estimates_of (voltage_at k 2) (voltage_at k 5)) []
    ∷ entry 0xE4 0xE4 MuxE4 8 (request_length k) (estimates_of (voltage_at k 2) (unsigned 5 2)) []
    ∷ entry 0xE5 0xE5 MuxE5 (flags_length k) (request_length k) (flags_of k) []
    ∷ entry 0x01 0x0B Mux01To0B 5 (request_length k) (unsigned 1 4 ∷ []) []
    ∷ []

-- the entries that one kind alone has
abbrev pub own : Kind → List Entry
own Sim100 = entry 0xF0 0xF0 MuxF0 3 3 (unsigned 1 2 ∷ []) (unsigned 1 2 ∷ []) ∷ []
own Sim101 = entry 0x80 0x80 Mux80 5 3 (twos 1 4 ∷ []) [] ∷ []

abbrev pub report_table : Kind → List Entry
report_table k = common k ++ own k

abbrev pub covers : Entry → ℕ → Bool
covers e mux = leb e.first mux && leb mux e.last

abbrev pub entry_in : List Entry → ℕ → Option Entry
entry_in [] mux = none
entry_in (e ∷ es) mux = cond (covers e mux) (some e) (entry_in es mux)

-- the entry of a multiplexer, if the kind lists it
unfoldable pub entry_of : Kind → ℕ → Option Entry
entry_of k mux = entry_in (report_table k) mux

abbrev pub listed : Row → ℕ → ℕ → Listed
listed row report request = record { row = row; report = report; request = request }

-- 3: "a multiplexer not listed for that device kind"
abbrev pub as_row : Option Entry → Result Listed Refusal
as_row none = Err NotListed
as_row (some e) = Ok (listed e.row e.report e.request)

abbrev pub row_of : Kind → ℕ → Result Listed Refusal
row_of k mux = as_row (entry_of k mux)

-- the row of one of E0 to E5, which are the first six entries of either kind
abbrev pub measured_by : Option Entry → Row
measured_by none = MuxE5
measured_by (some e) = e.row

abbrev pub measurement_row : ℕ → Row
measurement_row mux = measured_by (entry_in (take 6 (common Sim100)) mux)

-- ---- the words

abbrev pub is_word : Row → Bool
is_word MuxE0 = false
is_word MuxE1 = false
is_word MuxE2 = false
is_word MuxE3 = false
is_word MuxE4 = false
is_word MuxE5 = false
is_word Mux01To0B = true
is_word Mux80 = false
is_word MuxF0 = false

-- what was found is not the entry of the words
abbrev pub no_word : Result Listed Refusal → Bool
no_word (Err why) = true
no_word (Ok l) = not (is_word l.row)

-- ---- the row of a frame: 1, 2, 3 in that order, and 3 also for length 0

abbrev pub frame_row : Kind → ℕ → Frame → Result Listed Refusal
frame_row k expected f =
    cond (over_limits f) (Err OverLimits)
    (cond (not_expected expected f) (Err NotExpected)
    (cond (eqb f.length 0) (Err NotListed) (row_of k (mux_of f))))

-- ---- what a frame is read as, a report or a request: by the length that its row asks for, by the rows and status bytes that are wrong,
-- and by what the bytes of a row say

-- 4: "wrong length for the multiplexer", then 5
abbrev pub read_listed : {A : Type 0} → (Listed → ℕ) → (Row → ℕ → Bool) → (Row → List ℕ → A) → Frame → Listed → Result A Refusal
read_listed length_of wrong says f l =
    cond (not (eqb f.length (length_of l))) (Err WrongLength)
    (cond (wrong l.row (get_or f.bytes 1 0)) (Err WrongStatus) (Ok (says l.row f.bytes)))

abbrev pub read_row : {A : Type 0} → (Listed → ℕ) → (Row → ℕ → Bool) → (Row → List ℕ → A) → Frame → Result Listed Refusal → Result A Refusal
read_row length_of wrong says f (Err why) = Err why
read_row length_of wrong says f (Ok l) = read_listed length_of wrong says f l

abbrev pub read : {A : Type 0} → (Listed → ℕ) → (Row → ℕ → Bool) → (Row → List ℕ → A) → Kind → ℕ → Frame → Result A Refusal
read length_of wrong says k expected f = read_row length_of wrong says f (frame_row k expected f)
