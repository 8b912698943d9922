-- Reading: what is read is what the table says, and what is refused is refused by the first condition that holds. Assumes nothing.
use Prim.Native.Nat.{ℕ, ◌<◌, ◌≤◌}
use mathlib.Core.Path.{◌≡◌, refl, ap, sym}
use mathlib.Core.Bool.{true, false, not}
use mathlib.Core.List.{List, [], ◌∷◌, map}
use mathlib.Core.Option.{Option, some}
use native.Mathlib.Omega.{arith}
use borrow.Author.Tests.{le-leb, lt-leb}
use lib.Dec.{eqb, lit≤}
use lib.IntN.{ℤ, pos}
use lib.ListN.{get_or, drop}
use Rattle.std.specs.Prelude.{Result, Ok, Err}
use Rattle.words.proofs.Tests.{decided}
use Rattle.refusal.specs.Refusals.{number_of}
use Rattle.refusal.specs.Conditions.{Condition, ◌when◌, Told, refusal, good, GivenExactly}
use Rattle.refusal.proofs.Conditions.{pick, given_exactly}
use Rattle.refusal.specs.declared.Refusal.{Refusal}
use Rattle.refusal.specs.declared.Refusal.TheVariants.{OverLimits, NotExpected, NotListed}
use Rattle.codec_pages.specs.declared.frame.Frame.{Frame}
use Rattle.codec_pages.specs.declared.rows.Kind.{Kind}
use Rattle.codec_pages.specs.declared.rows.Kind.TheVariants.{Sim100, Sim101}
use Rattle.codec_pages.specs.declared.rows.Listed.{Listed}
use Rattle.codec_pages.specs.Frames.{over_limits, not_expected, mux_of}
use Rattle.codec_pages.specs.Table.{Field, Entry, unsigned, estimates_of, voltage_at, flags_of, value_in, number_at, report_table, own, entry_of, as_row, row_of, frame_row, read_row, read}
use Rattle.codec_pages.specs.Told.{Values, told_report, told_request}
use Rattle.codec_pages.specs.Reports.{voltage_of, flags_in, bad_status, has_status, wrong_status, report_of, read_report}
use Rattle.codec_pages.specs.Requests.{request_of, read_request}
use Rattle.codec_pages.specs.Conditions.{is_none, not_listed, report_length, request_length_of, report_fields, request_fields, five_of, report_conditions, request_conditions, table_report, table_request}
use Rattle.codec_pages.proofs.Table.{at, Each, by_entry, just}

abbrev values : ℕ → List ℤ → Told Values
values m vs = good (m, vs)

-- ---- fields

one_byte : (b : List ℕ) (place : ℕ) → number_at b place 1 ≡ get_or b place 0
one_byte b place = omega arith

voltage_field : (k : Kind) (b : List ℕ) (place : ℕ) → value_in b (voltage_at k place) ≡ voltage_of k (number_at b place 2)
voltage_field Sim100 b place = refl
voltage_field Sim101 b place = refl

estimates_fields : (b : List ℕ) (x y : Field) (u v : ℤ) → value_in b x ≡ u → value_in b y ≡ v → pos (get_or b 1 0) ∷ u ∷ pos (get_or b 4 0) ∷ v ∷ pos (get_or b 7 0) ∷ [] ≡ map (value_in b) (estimates_of x y)
estimates_fields b x y u v p q = rw (one_byte b 1, one_byte b 4, one_byte b 7, p, q) refl

flags_fields : (k : Kind) (b : List ℕ) → pos (flags_in k b).status ∷ pos (flags_in k b).flags ∷ [] ≡ map (value_in b) (flags_of k)
flags_fields Sim100 b = rw (one_byte b 1, one_byte b 2) refl
flags_fields Sim101 b = rw (one_byte b 1) refl

-- ---- 5

pub five_in : (k : Kind) (m status : ℕ) → 0xE0 ≤ m → m ≤ 0xE5 → bad_status k status ≡ five_of k m status
five_in Sim100 m status h l = rw (le-leb 0xE0 m h, le-leb m 0xE5 l) refl
five_in Sim101 m status h l = refl

pub five_below : (k : Kind) (m status : ℕ) → m < 0xE0 → false ≡ five_of k m status
five_below Sim100 m status h = rw (lt-leb 0xE0 m h) refl
five_below Sim101 m status h = refl

-- ---- reports, entry by entry

module _ (k : Kind) (f : Frame) where
  abbrev Says : ℕ → Option Entry → Type 0
  Says m o =
      m ≡ mux_of f →
      told_report (read_row (λ l. l.report) (wrong_status k) (report_of k) f (as_row o))
      ≡ pick
      ((3 when is_none o) ∷ (4 when not (eqb f.length (report_length o))) ∷ (5 when five_of k m (get_or f.bytes 1 0)) ∷ [])
      (m, map (value_in f.bytes) (report_fields o))

  -- an entry says it where it is right about the status and about the values
  says : (m : ℕ) (l : Entry) → wrong_status k l.row (get_or f.bytes 1 0) ≡ five_of k m (get_or f.bytes 1 0) → (m ≡ mux_of f → told_report (Ok (report_of k l.row f.bytes)) ≡ values m (map (value_in f.bytes) l.fields)) → Says m (some l)
  says m l status fields e =
      rw (sym status)
      (decided (not (eqb f.length l.report))
      (λ t. rw t refl)
      (λ t. decided (wrong_status k l.row (get_or f.bytes 1 0)) (λ u. rw (t, u) refl) (λ u. rw (t, u) (fields e))))

  alone : (x : ℕ) (l : Entry) → Says x (some l) → (m : ℕ) → x ≤ m → m ≤ x → Says m (some l)
  alone x l p = just x (λ (m : ℕ). Says m (some l)) p

  -- E0 to E5
  measured : (x i : ℕ) → 0xE0 ≤ x → x ≤ 0xE5 → has_status (at k i).row ≡ true → told_report (Ok (report_of k (at k i).row f.bytes)) ≡ values x (map (value_in f.bytes) (at k i).fields) → (m : ℕ) → x ≤ m → m ≤ x → Says m (some (at k i))
  measured x i h l has fields =
      alone x (at k i) (says x (at k i) (rw has (five_in k x (get_or f.bytes 1 0) h l)) (λ e. fields))

  word : (m : ℕ) → 0x01 ≤ m → m ≤ 0x0B → Says m (some (at k 6))
  word m h l =
      says m (at k 6) (five_below k m (get_or f.bytes 1 0) (omega arith))
      (λ e. ap (λ (x : ℕ). values x (map (value_in f.bytes) (at k 6).fields)) (sym e))

own_entries : (k : Kind) (f : Frame) → Each (Says k f) (own k)
own_entries Sim100 f = (alone Sim100 f 0xF0 (at Sim100 7) (says Sim100 f 0xF0 (at Sim100 7) refl (λ e. refl)), tt)
own_entries Sim101 f = (alone Sim101 f 0x80 (at Sim101 7) (says Sim101 f 0x80 (at Sim101 7) refl (λ e. refl)), tt)

entries : (k : Kind) (f : Frame) → Each (Says k f) (report_table k)
entries k f =
    let b = f.bytes in
    let e0 = estimates_fields b (unsigned 2 2) (unsigned 5 2) (pos (number_at b 2 2)) (pos (number_at b 5 2)) refl refl in
    let e3 = estimates_fields b (voltage_at k 2) (voltage_at k 5) (voltage_of k (number_at b 2 2)) (voltage_of k (number_at b 5 2)) (voltage_field k b 2) (voltage_field k b 5) in
    let e4 = estimates_fields b (voltage_at k 2) (unsigned 5 2) (voltage_of k (number_at b 2 2)) (pos (number_at b 5 2)) (voltage_field k b 2) refl in (
      measured k f 0xE0 0 (lit≤ tt) (lit≤ tt) refl (ap (values 0xE0) e0),
      (
        measured k f 0xE1 1 (lit≤ tt) (lit≤ tt) refl (ap (values 0xE1) e0),
        (
          measured k f 0xE2 2 (lit≤ tt) (lit≤ tt) refl (ap (values 0xE2) e0),
          (
            measured k f 0xE3 3 (lit≤ tt) (lit≤ tt) refl (ap (values 0xE3) e3),
            (
              measured k f 0xE4 4 (lit≤ tt) (lit≤ tt) refl (ap (values 0xE4) e4),
              (
                measured k f 0xE5 5 (lit≤ tt) (lit≤ tt) refl (ap (values 0xE5) (flags_fields k b)),
                (word k f, own_entries k f),
              ),
            ),
          ),
        ),
      ),
    )

-- ---- 1, 2, 3: the same for reports and requests

module _ (told : Result Listed Refusal → Told Values) (k : Kind) (expected : ℕ) (f : Frame) (cs : List Condition) (t : Values) where
  after_limits : ((why : Refusal) → told (Err why) ≡ refusal (number_of why)) → told (row_of k (mux_of f)) ≡ pick ((3 when is_none (entry_of k (mux_of f))) ∷ cs) t → told (frame_row k expected f) ≡ pick ((1 when over_limits f) ∷ (2 when not_expected expected f) ∷ (3 when not_listed k f) ∷ cs) t
  after_limits why row =
      decided (over_limits f)
      (λ x. rw x (why OverLimits))
      (λ x. decided (not_expected expected f)
      (λ y. rw (x, y) (why NotExpected))
      (λ y. decided (eqb f.length 0)
      (λ z. rw (x, y, z) (why NotListed))
      (λ z. rw (x, y, z) row)))

-- a report and a request are read by their rows
pub report_by_row : (k : Kind) (expected : ℕ) (f : Frame) → read_report k expected f ≡ read (λ l. l.report) (wrong_status k) (report_of k) k expected f
unfolding read_report
report_by_row k expected f = refl

pub request_by_row : (k : Kind) (expected : ℕ) (f : Frame) → read_request k expected f ≡ read (λ l. l.request) (λ row status. false) request_of k expected f
unfolding read_request
request_by_row k expected f = refl

report_told : (k : Kind) (expected : ℕ) (f : Frame) → told_report (read_report k expected f) ≡ pick (report_conditions k expected f) (table_report k f)
unfolding read_report
report_told k expected f =
    after_limits (λ (l : Result Listed Refusal). told_report (read_row (λ l. l.report) (wrong_status k) (report_of k) f l)) k expected f (drop 3 (report_conditions k expected f)) (table_report k f)
    (λ why. refl)
    (by_entry (Says k f) k (mux_of f) (λ e. refl) (entries k f) refl)

pub report_read : (k : Kind) (expected : ℕ) (f : Frame) → GivenExactly (told_report (read_report k expected f)) (report_conditions k expected f) (table_report k f)
report_read k expected f =
    given_exactly (told_report (read_report k expected f)) (report_conditions k expected f) (table_report k f)
    (report_told k expected f)

-- ---- requests, entry by entry

module _ (f : Frame) where
  abbrev Asks : ℕ → Option Entry → Type 0
  Asks m o =
      m ≡ mux_of f →
      told_request (read_row (λ l. l.request) (λ row status. false) request_of f (as_row o))
      ≡ pick
      ((3 when is_none o) ∷ (4 when not (eqb f.length (request_length_of o))) ∷ [])
      (m, map (value_in f.bytes) (request_fields o))

  asks : (m : ℕ) (l : Entry) → (m ≡ mux_of f → told_request (Ok (request_of l.row f.bytes)) ≡ values m (map (value_in f.bytes) l.asked)) → Asks m (some l)
  asks m l fields e =
      decided (not (eqb f.length l.request)) (λ t. rw t refl) (λ t. rw t (fields e))

  asked : (x : ℕ) (l : Entry) → told_request (Ok (request_of l.row f.bytes)) ≡ values x (map (value_in f.bytes) l.asked) → (m : ℕ) → x ≤ m → m ≤ x → Asks m (some l)
  asked x l fields = just x (λ (m : ℕ). Asks m (some l)) (asks x l (λ e. fields))

  own_asked : (k : Kind) → Each Asks (own k)
  own_asked Sim100 = (asked 0xF0 (at Sim100 7) refl, tt)
  own_asked Sim101 = (asked 0x80 (at Sim101 7) refl, tt)

  asked_entries : (k : Kind) → Each Asks (report_table k)
  asked_entries k = (
    asked 0xE0 (at k 0) refl,
    (
      asked 0xE1 (at k 1) refl,
      (
        asked 0xE2 (at k 2) refl,
        (
          asked 0xE3 (at k 3) refl,
          (
            asked 0xE4 (at k 4) refl,
            (
              asked 0xE5 (at k 5) refl,
              ((λ m h l. asks m (at k 6) (λ e. ap (λ (x : ℕ). values x []) (sym e))), own_asked k),
            ),
          ),
        ),
      ),
    ),
  )

request_told : (k : Kind) (expected : ℕ) (f : Frame) → told_request (read_request k expected f) ≡ pick (request_conditions k expected f) (table_request k f)
unfolding read_request
request_told k expected f =
    after_limits (λ (l : Result Listed Refusal). told_request (read_row (λ l. l.request) (λ row status. false) request_of f l)) k expected f (drop 3 (request_conditions k expected f)) (table_request k f)
    (λ why. refl)
    (by_entry (Asks f) k (mux_of f) (λ e. refl) (asked_entries f k) refl)

pub request_read : (k : Kind) (expected : ℕ) (f : Frame) → GivenExactly (told_request (read_request k expected f)) (request_conditions k expected f) (table_request k f)
request_read k expected f =
    given_exactly (told_request (read_request k expected f)) (request_conditions k expected f) (table_request k f)
    (request_told k expected f)
