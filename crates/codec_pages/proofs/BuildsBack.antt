-- A read frame builds back the same frame, except the two places that document 01 names. Assumes nothing.
use Prim.Native.Nat.{ℕ, ◌-◌, ◌≤◌}
use mathlib.Core.Path.{◌≡◌, refl, ap, sym, subst, ◌∙◌}
use mathlib.Core.Bool.{false, not, cond, ◌&&◌, and-false}
use mathlib.Core.List.{List, [], ◌∷◌, ◌++◌}
use mathlib.Core.Option.{Option, some}
use native.Mathlib.Nat.{mod-eq_of_lt}
use native.Mathlib.Omega.{arith}
use borrow.Author.Tests.{ne_eqb, eqb-true, not-false}
use lib.Dec.{eqb, lit≤}
use lib.ListN.{get_or, length, take, replicate}
use Rattle.std.specs.Prelude.{Bool, Result, Ok, Err}
use Rattle.words.proofs.Tests.{decided}
use Rattle.words.proofs.Signed.{pattern_signed}
use Rattle.words.specs.Words.{bytes_of}
use Rattle.words.specs.Signed.{signed_of}
use Rattle.words.specs.declared.Order.TheVariants.{Big}
use Rattle.refusal.specs.declared.Refusal.{Refusal}
use Rattle.refusal.specs.declared.Refusal.TheVariants.{OverLimits, NotExpected, NotListed, WrongLength, WrongStatus}
use Rattle.refusal.proofs.Conditions.{not_good}
use Rattle.codec_pages.specs.declared.frame.Frame.{Frame}
use Rattle.codec_pages.specs.declared.rows.Kind.{Kind}
use Rattle.codec_pages.specs.declared.rows.Kind.TheVariants.{Sim100, Sim101}
use Rattle.codec_pages.specs.declared.report.Report.{Report}
use Rattle.codec_pages.specs.declared.report.Report.TheVariants.{IsolationState, Resistances, Capacitances, PoleVoltages, BatteryVoltage, Errors, Word, Temperature, WorkingVoltage}
use Rattle.codec_pages.specs.declared.request.Request.{Request}
use Rattle.codec_pages.specs.declared.request.Request.TheVariants.{ReadIsolationState, ReadResistances, ReadCapacitances, ReadVoltages, ReadBattery, ReadErrorFlags, ReadWord, ReadTemperature, SetWorkingVoltage}
use Rattle.codec_pages.specs.Requests.{request_of, read_request, unlisted_request, read_bytes, request_bytes, build_request}
use Rattle.codec_pages.specs.Frames.{over_limits, not_expected, mux_of}
use Rattle.codec_pages.specs.Held.{HeldFrame}
use Rattle.codec_pages.specs.Promise.{cleared, ReportBuildsBack, RequestBuildsBack}
use Rattle.codec_pages.specs.declared.rows.Row.{Row}
use Rattle.codec_pages.specs.declared.rows.Listed.{Listed}
use Rattle.codec_pages.specs.Table.{Entry, part, number_at, report_table, own, entry_of, flags_length, request_length, as_row, row_of, frame_row, read_row}
use Rattle.codec_pages.proofs.Table.{at, Each, by_entry, just, word_listed}
use Rattle.codec_pages.proofs.ReadBytes.{length_part, take_part, byte_at, bytes_at, number_small, voltage_fits, flags_fit, estimates_bytes_lem, voltages_raw_lem, battery_raw_lem, passed, joined, first_bytes, Passed}
use Rattle.codec_pages.specs.Reports.{voltage_of, estimates_in, voltages_in, battery_in, flags_in, bad_status, wrong_status, report_of, read_report}
use Rattle.codec_pages.specs.Building.{is_sim100, voltage_misfit, estimates_bytes, unlisted, misfit, report_bytes, build_report}

-- ---- reports

module _ (k : Kind) (identifier : ℕ) (f : Frame) (held : HeldFrame f) (p : Passed identifier f) where
  abbrev Rebuilt : Report → Type 0
  Rebuilt r = build_report k identifier r ≡ Ok (cleared (cond (is_sim100 k && eqb (mux_of f) 0xE5) 3 f.length) f)

  rebuilt : (r : Report) (bs : List ℕ) (place : ℕ) → unlisted k r ≡ false → misfit k r ≡ false → report_bytes k r ≡ bs → f.length ≡ length bs → cond (is_sim100 k && eqb (mux_of f) 0xE5) 3 f.length ≡ place → bs ++ replicate (8 - length bs) 0 ≡ take place f.bytes ++ replicate (8 - place) 0 → Rebuilt r
  unfolding build_report
  rebuilt r bs place u m e n c q = rw (p.low, u, m, e, c) (joined identifier f bs place p n q)

  kept_whole : (n m : ℕ) → eqb m 0xE5 ≡ false → cond (is_sim100 k && eqb m 0xE5) 3 n ≡ n
  kept_whole n m h = rw (h, and-false (is_sim100 k)) refl

  -- every row but E5
  whole : (r : Report) (place : ℕ) → eqb (mux_of f) 0xE5 ≡ false → place ≤ 8 → f.length ≡ place → unlisted k r ≡ false → misfit k r ≡ false → report_bytes k r ≡ part f.bytes 0 place → Rebuilt r
  whole r place other h n u m e =
      rebuilt r (part f.bytes 0 place) place u m e (n ∙ sym (length_part f.bytes 0 place))
      (kept_whole f.length (mux_of f) other ∙ n)
      (first_bytes f held place h)

  -- E0 to E4: the multiplexer, and the seven bytes after it
  measured : (x : ℕ) (r : Report) → eqb x 0xE5 ≡ false → x ≡ mux_of f → f.length ≡ 8 → unlisted k r ≡ false → misfit k r ≡ false → report_bytes k r ≡ x ∷ part f.bytes 1 7 → Rebuilt r
  measured x r other e n u m q =
      whole r 8 (subst (λ (y : ℕ). eqb y 0xE5 ≡ false) e other) (lit≤ tt) n u m (q ∙ ap (λ (y : ℕ). y ∷ part f.bytes 1 7) e)

  abbrev Back : ℕ → Result Listed Refusal → Type 0
  Back m (Err why) = Unit
  Back m (Ok l) = m ≡ mux_of f → f.length ≡ l.report → wrong_status k l.row (get_or f.bytes 1 0) ≡ false → Rebuilt (report_of k l.row f.bytes)

  alone : (x : ℕ) (l : Entry) → Back x (as_row (some l)) → (m : ℕ) → x ≤ m → m ≤ x → Back m (as_row (some l))
  alone x l = just x (λ (m : ℕ). Back m (as_row (some l)))

  word : (m : ℕ) → 0x01 ≤ m → m ≤ 0x0B → m ≡ mux_of f → f.length ≡ 5 → Rebuilt (Word (mux_of f) (number_at f.bytes 1 4))
  word m h l e n =
      whole (Word (mux_of f) (number_at f.bytes 1 4)) 5 (ne_eqb (mux_of f) 0xE5 (λ q. absurd (omega arith))) (lit≤ tt) n
      (word_listed k (mux_of f) (omega arith) (omega arith))
      refl
      (ap (λ (l : List ℕ). mux_of f ∷ l) (bytes_at f.bytes held.each 1 4))

module _ (identifier : ℕ) (f : Frame) (held : HeldFrame f) (p : Passed identifier f) where
  flags_back : (k : Kind) → 0xE5 ≡ mux_of f → f.length ≡ flags_length k → bad_status k (get_or f.bytes 1 0) ≡ false → Rebuilt k identifier f held p (Errors (flags_in k f.bytes))
  unfolding entry_of
  flags_back Sim100 e n s =
      let b = f.bytes in
      rebuilt Sim100 identifier f held p (Errors (flags_in Sim100 b)) (part b 0 3 ++ replicate 5 0) 3 refl
      (rw (s, flags_fit Sim100 b held.each) refl)
      (rw (mod-eq_of_lt {n = get_or b 2 0} {m = 256} (byte_at b held.each 2)) (ap (λ (x : ℕ). x ∷ (part b 1 2 ++ replicate 5 0)) e))
      n
      (ap (λ (x : ℕ). cond (eqb x 0xE5) 3 f.length) (sym e))
      (ap (λ (l : List ℕ). l ++ replicate 5 0) (sym (take_part b 3 (omega (arith, held.eight)))))
  flags_back Sim101 e n s =
      let b = f.bytes in
      rebuilt Sim101 identifier f held p (Errors (flags_in Sim101 b)) (part b 0 4) 4 refl
      (rw s refl)
      (ap (λ (l : List ℕ). 0xE5 ∷ get_or b 1 0 ∷ l) (bytes_at b held.each 2 2) ∙ ap (λ (x : ℕ). x ∷ part b 1 3) e)
      n
      n
      (first_bytes f held 4 (lit≤ tt))

  own_back : (k : Kind) → Each (λ (m : ℕ) (o : Option Entry). Back k identifier f held p m (as_row o)) (own k)
  unfolding entry_of
  own_back Sim100 =
      let b = f.bytes in (
        alone Sim100 identifier f held p 0xF0 (at Sim100 7)
            (λ e n s. whole Sim100 identifier f held p (WorkingVoltage (number_at b 1 2)) 3 (subst (λ (y : ℕ). eqb y 0xE5 ≡ false) e refl) (lit≤ tt) n refl refl
            (ap (λ (l : List ℕ). 0xF0 ∷ l) (bytes_at b held.each 1 2) ∙ ap (λ (x : ℕ). x ∷ part b 1 2) e)),
        tt,
      )
  own_back Sim101 =
      let b = f.bytes in (
        alone Sim101 identifier f held p 0x80 (at Sim101 7)
            (λ e n s. whole Sim101 identifier f held p (Temperature (signed_of 32 (number_at b 1 4))) 5 (subst (λ (y : ℕ). eqb y 0xE5 ≡ false) e refl) (lit≤ tt) n refl refl
            (ap (λ (w : ℕ). 0x80 ∷ bytes_of Big 4 w) (pattern_signed 31 (number_at b 1 4) (omega (arith, byte_at b held.each 1, byte_at b held.each 2, byte_at b held.each 3, byte_at b held.each 4)))
            ∙ ap (λ (l : List ℕ). 0x80 ∷ l) (bytes_at b held.each 1 4)
            ∙ ap (λ (x : ℕ). x ∷ part b 1 4) e)),
        tt,
      )

  entries_back : (k : Kind) → Each (λ (m : ℕ) (o : Option Entry). Back k identifier f held p m (as_row o)) (report_table k)
  unfolding entry_of
  entries_back k =
      let b = f.bytes in
      let fits : (place : ℕ) → voltage_misfit k (voltage_of k (number_at b place 2)) ≡ false = λ place. voltage_fits k (number_at b place 2) (number_small b held.each place) in (
        alone k identifier f held p 0xE0 (at k 0) (λ e n s. measured k identifier f held p 0xE0 (IsolationState (estimates_in b)) refl e n refl s (estimates_bytes_lem b held.each 0xE0)),
        (
          alone k identifier f held p 0xE1 (at k 1) (λ e n s. measured k identifier f held p 0xE1 (Resistances (estimates_in b)) refl e n refl s (estimates_bytes_lem b held.each 0xE1)),
          (
            alone k identifier f held p 0xE2 (at k 2) (λ e n s. measured k identifier f held p 0xE2 (Capacitances (estimates_in b)) refl e n refl s (estimates_bytes_lem b held.each 0xE2)),
            (
              alone k identifier f held p 0xE3 (at k 3) (λ e n s. measured k identifier f held p 0xE3 (PoleVoltages (voltages_in k b)) refl e n refl (rw (s, fits 2, fits 5) refl) (ap (estimates_bytes 0xE3) (voltages_raw_lem b held.each k) ∙ estimates_bytes_lem b held.each 0xE3)),
              (
                alone k identifier f held p 0xE4 (at k 4) (λ e n s. measured k identifier f held p 0xE4 (BatteryVoltage (battery_in k b)) refl e n refl (rw (s, fits 2) refl) (ap (estimates_bytes 0xE4) (battery_raw_lem b held.each k) ∙ estimates_bytes_lem b held.each 0xE4)),
                (
                  alone k identifier f held p 0xE5 (at k 5) (λ e n s. flags_back k e n s),
                  ((λ m h l e n s. word k identifier f held p m h l e n), own_back k),
                ),
              ),
            ),
          ),
        ),
      )

-- ---- from a reading to its row

-- whatever a row is read for, a frame that is not refused on the way has passed
through : {X : Type 0} (T : Result Listed Refusal → Type 0) (k : Kind) (expected : ℕ) (f : Frame) → ((why : Refusal) → T (Err why) → X) → (Passed expected f → T (row_of k (mux_of f)) → X) → T (frame_row k expected f) → X
through T k expected f stopped went t =
    decided (over_limits f)
    (λ x. stopped OverLimits (rw x at t))
    (λ x. decided (not_expected expected f)
    (λ y. stopped NotExpected (rw (x, y) at t))
    (λ y. decided (eqb f.length 0)
    (λ z. stopped NotListed (rw (x, y, z) at t))
    (λ z. went (passed expected f x y) (rw (x, y, z) at t))))

-- what is read of a row has its length, no wrong status, and is what the bytes say
by_its_row : {A X : Type 0} (length_of : Listed → ℕ) (wrong : Row → ℕ → Bool) (says : Row → List ℕ → A) (f : Frame) (a : A) (l : Result Listed Refusal) → read_row length_of wrong says f l ≡ Ok a → ((x : Listed) → l ≡ Ok x → f.length ≡ length_of x → wrong x.row (get_or f.bytes 1 0) ≡ false → says x.row f.bytes ≡ a → X) → X
by_its_row length_of wrong says f a (Err why) e g = not_good why a e
by_its_row {A = A} length_of wrong says f a (Ok l) e g =
    decided (not (eqb f.length (length_of l)))
    (λ x. not_good WrongLength a (rw x at e))
    (λ x. decided (wrong l.row (get_or f.bytes 1 0))
    (λ y. not_good WrongStatus a (rw (x, y) at e))
    (λ y. let q : ◌≡◌ {A = Result A Refusal} (Ok (says l.row f.bytes)) (Ok a) = rw (x, y) at e in
    g l refl (eqb-true f.length (length_of l) (not-false (eqb f.length (length_of l)) x)) y (cc)))

pub report_builds_back : ReportBuildsBack
unfolding read_report
report_builds_back k expected f r held e =
    through (λ (l : Result Listed Refusal). read_row (λ l. l.report) (wrong_status k) (report_of k) f l ≡ Ok r) k expected f
    (λ why q. not_good why r q)
    (λ p t. by_its_row (λ l. l.report) (wrong_status k) (report_of k) f r (row_of k (mux_of f)) t
    (λ x l n s q.
    subst (Rebuilt k expected f held p) q
    (subst (Back k expected f held p (mux_of f)) l
    (by_entry (λ (m : ℕ) (o : Option Entry). Back k expected f held p m (as_row o)) k (mux_of f) tt (entries_back expected f held p k))
    refl
    n
    s)))
    e

-- ---- requests

module _ (identifier : ℕ) (f : Frame) (held : HeldFrame f) (p : Passed identifier f) where
  abbrev AskedAgain : Kind → Request → Type 0
  AskedAgain k r = build_request k identifier r ≡ Ok (cleared (cond (is_sim100 k) f.length 1) f)

  asked_again : (k : Kind) (r : Request) (bs : List ℕ) (place : ℕ) → unlisted_request k r ≡ false → request_bytes k r ≡ bs → f.length ≡ length bs → cond (is_sim100 k) f.length 1 ≡ place → bs ++ replicate (8 - length bs) 0 ≡ take place f.bytes ++ replicate (8 - place) 0 → AskedAgain k r
  unfolding build_request
  asked_again k r bs place u e n c q = rw (p.low, u, e, c) (joined identifier f bs place p n q)

  -- a request without values
  plain : (k : Kind) (x : ℕ) (r : Request) → unlisted_request k r ≡ false → request_bytes k r ≡ read_bytes k x → x ≡ mux_of f → f.length ≡ request_length k → AskedAgain k r
  plain Sim100 x r u q e n =
      asked_again Sim100 r (part f.bytes 0 1) 1 u (q ∙ ap (λ (y : ℕ). y ∷ []) e) n n (first_bytes f held 1 (lit≤ tt))
  plain Sim101 x r u q e n =
      asked_again Sim101 r (part f.bytes 0 1 ++ replicate 2 0) 1 u (q ∙ ap (λ (y : ℕ). y ∷ replicate 2 0) e) n refl (first_bytes f held 1 (lit≤ tt))

  abbrev AskBack : Kind → ℕ → Result Listed Refusal → Type 0
  AskBack k m (Err why) = Unit
  AskBack k m (Ok l) = m ≡ mux_of f → f.length ≡ l.request → AskedAgain k (request_of l.row f.bytes)

  ask_alone : (k : Kind) (x : ℕ) (l : Entry) → AskBack k x (as_row (some l)) → (m : ℕ) → x ≤ m → m ≤ x → AskBack k m (as_row (some l))
  ask_alone k x l = just x (λ (m : ℕ). AskBack k m (as_row (some l)))

  own_asked : (k : Kind) → Each (λ (m : ℕ) (o : Option Entry). AskBack k m (as_row o)) (own k)
  unfolding entry_of
  own_asked Sim100 =
      let b = f.bytes in (
        ask_alone Sim100 0xF0 (at Sim100 7)
            (λ e n. asked_again Sim100 (SetWorkingVoltage (number_at b 1 2)) (part b 0 3) 3 refl
            (ap (λ (l : List ℕ). 0xF0 ∷ l) (bytes_at b held.each 1 2) ∙ ap (λ (x : ℕ). x ∷ part b 1 2) e)
            n
            n
            (first_bytes f held 3 (lit≤ tt))),
        tt,
      )
  own_asked Sim101 = (ask_alone Sim101 0x80 (at Sim101 7) (λ e n. plain Sim101 0x80 ReadTemperature refl refl e n), tt)

  entries_asked : (k : Kind) → Each (λ (m : ℕ) (o : Option Entry). AskBack k m (as_row o)) (report_table k)
  unfolding entry_of
  entries_asked k = (
    ask_alone k 0xE0 (at k 0) (λ e n. plain k 0xE0 ReadIsolationState refl refl e n),
    (
      ask_alone k 0xE1 (at k 1) (λ e n. plain k 0xE1 ReadResistances refl refl e n),
      (
        ask_alone k 0xE2 (at k 2) (λ e n. plain k 0xE2 ReadCapacitances refl refl e n),
        (
          ask_alone k 0xE3 (at k 3) (λ e n. plain k 0xE3 ReadVoltages refl refl e n),
          (
            ask_alone k 0xE4 (at k 4) (λ e n. plain k 0xE4 ReadBattery refl refl e n),
            (
              ask_alone k 0xE5 (at k 5) (λ e n. plain k 0xE5 ReadErrorFlags refl refl e n),
              ((λ m h l e n. plain k (mux_of f) (ReadWord (mux_of f)) (word_listed k (mux_of f) (omega arith) (omega arith)) refl refl n), own_asked k),
            ),
          ),
        ),
      ),
    ),
  )

pub request_builds_back : RequestBuildsBack
unfolding read_request
request_builds_back k expected f r held e =
    through (λ (l : Result Listed Refusal). read_row (λ l. l.request) (λ row status. false) request_of f l ≡ Ok r) k expected f
    (λ why q. not_good why r q)
    (λ p t. by_its_row (λ l. l.request) (λ row status. false) request_of f r (row_of k (mux_of f)) t
    (λ x l n y q.
    subst (AskedAgain expected f held p k) q
    (subst (AskBack expected f held p k (mux_of f)) l
    (by_entry (λ (m : ℕ) (o : Option Entry). AskBack expected f held p k m (as_row o)) k (mux_of f) tt (entries_asked expected f held p k))
    refl
    n)))
    e
