-- The sheet crate keeps its promise. Assumes nothing.
use Prim.Native.Nat.{ℕ, suc, ◌≤◌}
use native.Mathlib.Omega.{arith}
use mathlib.Core.Path.{◌≡◌, refl, sym, ap, subst, ◌∙◌}
use mathlib.Core.Bool.{Bool, true, false, cond, not, ◌&&◌}
use mathlib.Core.List.{List, [], ◌∷◌, ◌++◌}
use mathlib.Core.Logic.{◌⊎◌, inl, inr}
use lib.Dec.{eqb, leb, lit≤, leb-suc-suc}
use lib.ListN.{length, get_or, take, drop, length-append}
use lib.Seq.{take_at}
use borrow.Author.Tests.{le-ltb, leb-true}
use Rattle.std.specs.Prelude.{Result, Ok, Err}
use Rattle.words.proofs.Tests.{by_test, false_true, and_left, and_right}
use Rattle.refusal.specs.declared.Refusal.{Refusal}
use Rattle.refusal.specs.declared.Refusal.TheVariants.{WrongSheet, ShortBuffer}
use Rattle.refusal.specs.Refusals.{number_of}
use Rattle.refusal.specs.Conditions.{◌when◌, Told, refusal, good}
use Rattle.refusal.proofs.Conditions.{pick, given_exactly}
use Rattle.maintenance_pages.specs.declared.setting.Setting.{Setting}
use Rattle.maintenance_pages.specs.declared.setting.Setting.TheVariants.{ReceiveId, TransmitId, Speed, Voltage, WarningLevel, FaultLevel}
use Rattle.maintenance_pages.specs.declared.setting.Settings.{Settings}
use Rattle.maintenance_pages.specs.Settings.{accepted}
use Rattle.std.specs.declared.result.Result.{Result}
use Rattle.std.specs.declared.result.Result.TheVariants.{Ok, Err}
use Rattle.text.specs.Figures.{hexadecimal, decimal, decimal_up_to}
use Rattle.text.specs.Letters.{letters}
use Rattle.text.specs.Put.{Put}
use Rattle.text.specs.Written.{is_short, Fitted, told_text, refused_line}
use Rattle.text.proofs.Figures.{lacks, lacks_append, lacks_at, decimal_length}
use Rattle.text.proofs.Fitted.{fitted_told, text_stands, refused_same}
use Rattle.sheet.specs.declared.reading.WrongLine.{WrongLine}
use Rattle.sheet_line.specs.Lines.{line_text, may_hold}
use Rattle.sheet_line.proofs.Promise.{comma_lacks, dot_lacks}
use Rattle.std.specs.List.{concat}
use Rattle.sheet.specs.Sheet.{lines_of, sheet_text, is_legal, IsSheet, Judges, Reads, WrittenBy, SheetWritten}
use Rattle.sheet.specs.Output.{sentences, sentence_from, expected_at, expected_line, output_by, Outputs}
use Rattle.sheet.specs.Promise.{told_read, writer_conditions, Promise}
use Rattle.sheet.proofs.Sheets.{sheet_length}
use Rattle.sheet.proofs.Apart.{sheets_apart, line_most, one_judged, one_read, first_decide}

-- ---- reading

abbrev is_answer : Told Settings → Bool
is_answer (good k) = true
is_answer (refusal n) = false

abbrev settings_or : Settings → Told Settings → Settings
settings_or m (good k) = k
settings_or m (refusal n) = m

abbrev number_or : Told Settings → ℕ
number_or (good k) = 0
number_or (refusal n) = n

is_read : (s : List ℕ) (r : Result Settings Refusal) → Reads s r → (k : Settings) → IsSheet s k → r ≡ Ok k
is_read s r x k y = one_read s r (Ok k) x y

told_accepted : (s : List ℕ) (r : Result Settings Refusal) → Reads s r → (k : Settings) → told_read r ≡ good k → IsSheet s k
told_accepted s (Ok m) x k e = subst (λ (y : Settings). IsSheet s y) (ap (settings_or m) e) x
told_accepted s (Err why) x k e = false_true (sym (ap is_answer e))

told_refused : (s : List ℕ) (r : Result Settings Refusal) → Reads s r → (n : ℕ) → told_read r ≡ refusal n → (n ≡ 11) × ((k : Settings) → IsSheet s k → ⊥)
told_refused s (Ok m) x n e = false_true (ap is_answer e)
told_refused s (Err why) x n e = (sym (ap number_or e) ∙ ap number_of x.0, x.1)

no_sheet : (s : List ℕ) (r : Result Settings Refusal) → Reads s r → ((k : Settings) → IsSheet s k → ⊥) → told_read r ≡ refusal 11
no_sheet s (Ok m) x none = absurd (none m x)
no_sheet s (Err why) x none = ap (λ (w : Refusal). told_read (Err w)) x.0

-- ---- a comma or a dot

sheet_lacks : (c : ℕ) → ((setting : Setting) (v : ℕ) → lacks c (line_text setting v) ≡ true) → (k : Settings) → lacks c (sheet_text k) ≡ true
sheet_lacks c lines k =
    lacks_append c (line_text ReceiveId k.receive) (concat (drop 1 (lines_of k))) (lines ReceiveId k.receive)
    (lacks_append c (line_text TransmitId k.transmit) (concat (drop 2 (lines_of k))) (lines TransmitId k.transmit)
    (lacks_append c (line_text Speed k.speed) (concat (drop 3 (lines_of k))) (lines Speed k.speed)
    (lacks_append c (line_text Voltage k.voltage) (concat (drop 4 (lines_of k))) (lines Voltage k.voltage)
    (lacks_append c (line_text WarningLevel k.warning) (concat (drop 5 (lines_of k))) (lines WarningLevel k.warning)
    (lacks_append c (line_text FaultLevel k.fault) [] (lines FaultLevel k.fault) refl)))))

none_there : {X : Type 0} (c : ℕ) → ((setting : Setting) (v : ℕ) → lacks c (line_text setting v) ≡ true) → (s : List ℕ) (k : Settings) (i : ℕ) → 1 ≤ c → IsSheet s k → get_or s i 0 ≡ c → X
none_there c lines s k i one x e = lacks_at c (sheet_text k) (sheet_lacks c lines k) i one (ap (λ (t : List ℕ). get_or t i 0) (sym x.same) ∙ e)

sign_refused : (s : List ℕ) (r : Result Settings Refusal) → Reads s r → (i : ℕ) → (get_or s i 0 ≡ 44) ⊎ (get_or s i 0 ≡ 46) → told_read r ≡ refusal 11
sign_refused s r x i (inl e) = no_sheet s r x (λ k y. none_there 44 comma_lacks s k i (lit≤ tt) y e)
sign_refused s r x i (inr e) = no_sheet s r x (λ k y. none_there 46 dot_lacks s k i (lit≤ tt) y e)

-- ---- writing

told_by_lem : (b : Bool) (k : Settings) (held : List ℕ) (r : Result ℕ Refusal) (after : List ℕ) → WrittenBy b k held r after → told_text r after ≡ pick ((11 when not b) ∷ (12 when is_short (sheet_text k) (length held)) ∷ []) (sheet_text k)
told_by_lem true k held r after x = fitted_told (sheet_text k) held r after x
told_by_lem false k held r after x = ap (λ (y : Result ℕ Refusal). told_text y after) x.answered

same_by : (b : Bool) (k : Settings) (held after : List ℕ) (why : Refusal) → WrittenBy b k held (Err why) after → after ≡ held
same_by true k held after why x = refused_same (sheet_text k) held after why x
same_by false k held after why x = x.holds

fitted_by : (b : Bool) (k : Settings) (held after : List ℕ) (n : ℕ) → WrittenBy b k held (Ok n) after → (b ≡ true) × Fitted (sheet_text k) held (Ok n) after
fitted_by true k held after n x = (refl, x)
fitted_by false k held after n x = let e = x.answered in absurd (cc)

written_fitted : (k : Settings) (held after : List ℕ) (n : ℕ) → SheetWritten k held (Ok n) after → (is_legal k ≡ true) × Fitted (sheet_text k) held (Ok n) after
written_fitted k held after n x = fitted_by (is_legal k) k held after n x

one_by : (b : Bool) (k : Settings) (held : List ℕ) (r r' : Result ℕ Refusal) (after after' : List ℕ) → WrittenBy b k held r after → WrittenBy b k held r' after' → (r ≡ r') × (after ≡ after')
one_by true k held r r' after after' x y = (x.answered ∙ sym y.answered, x.holds ∙ sym y.holds)
one_by false k held r r' after after' x y = (x.answered ∙ sym y.answered, x.holds ∙ sym y.holds)

-- legal settings in a buffer that is long enough
room_enough : (k : Settings) → is_legal k ≡ true → (held : List ℕ) (r : Result ℕ Refusal) (after : List ℕ) → length (sheet_text k) ≤ length held → SheetWritten k held r after → r ≡ Ok (length (sheet_text k))
room_enough k l held r after h x =
    (subst (λ (b : Bool). WrittenBy b k held r after) l x).answered ∙ ap (λ (b : Bool). cond b (Err ShortBuffer) (Ok (length (sheet_text k)))) (le-ltb (length held) (length (sheet_text k)) h)

stands : (k : Settings) (held after : List ℕ) (n : ℕ) → SheetWritten k held (Ok n) after → (n ≡ length (sheet_text k)) × (after ≡ sheet_text k ++ drop n held)
stands k held after n x = text_stands (sheet_text k) held after n (written_fitted k held after n x).1

back : (k : Settings) (held : List ℕ) (n : ℕ) (after : List ℕ) → SheetWritten k held (Ok n) after → (r : Result Settings Refusal) → Reads (take n after) r → told_read r ≡ good k
back k held n after x r y =
    let both = stands k held after n x in
    ap told_read (is_read (take n after) r y k (record { legal = (written_fitted k held after n x).0; same = ap (take n) both.1 ∙ take_at (sheet_text k) (drop n held) n (sym both.0) }))

back_again : (s : List ℕ) (k : Settings) → IsSheet s k → (held : List ℕ) (r : Result ℕ Refusal) (after : List ℕ) → length s ≤ length held → SheetWritten k held r after → (r ≡ Ok (length s)) × (after ≡ s ++ drop (length s) held)
back_again s k y held r after h x =
    let long = ap length y.same in
    let told = room_enough k y.legal held r after (omega (arith, h, long)) x ∙ ap Ok (sym long) in
    (told, (stands k held after (length s) (subst (λ (q : Result ℕ Refusal). SheetWritten k held q after) told x)).1 ∙ ap (λ (t : List ℕ). t ++ drop (length s) held) (sym y.same))

-- ---- the longest sheet

longest : (k : Settings) × (is_legal k ≡ true) × (length (sheet_text k) ≡ 84)
unfolding line_text hexadecimal decimal_up_to
longest = (record { receive = 0; transmit = 0; speed = 0x00CA0500; voltage = 65534; warning = 2147483647; fault = 2147483647 }, refl, refl)

-- ---- a rating of 65535

same_accepted : (k : Settings) → is_legal k ≡ accepted 65535 k
same_accepted k =
    ap (λ (b : Bool). may_hold ReceiveId k.receive && may_hold TransmitId k.transmit && may_hold Speed k.speed && b && may_hold WarningLevel k.warning && may_hold FaultLevel k.fault) (sym (leb-suc-suc k.voltage 65534))

-- ---- the program

abbrev short : List (List ℕ) → Bool
short [] = true
short (t ∷ ts) = leb (length t) 130 && short ts

sentence_length : (n : ℕ) (ts : List (List ℕ)) (line : ℕ) → short ts ≡ true → length (sentence_from n ts line) ≤ 130
sentence_length n [] line h = lit≤ tt
sentence_length n (t ∷ ts) line h =
    by_test (eqb line n) (λ (b : Bool). length (cond b t (sentence_from (suc n) ts line)) ≤ 130)
    (leb-true (length t) 130 (and_left (leb (length t) 130) (short ts) h))
    (sentence_length (suc n) ts line (and_right (leb (length t) 130) (short ts) h))

expected_length : (line : ℕ) → length (expected_at line) ≤ 130
expected_length line = sentence_length 1 sentences line refl

output_length : (s : List ℕ) (j : Result Settings WrongLine) → Judges s j → length (output_by j) ≤ 200
output_length s (Ok k) x = let l = sheet_length k x.legal in omega (arith, l)
output_length s (Err line) x =
    let n = line.0 in
    let r = letters "refused " ++ decimal (number_of WrongSheet) in
    let l : List ℕ = letters "line " ++ decimal n in
    let first = length-append (letters "refused ") (decimal (number_of WrongSheet)) in
    let second = length-append r (10 ∷ []) in
    let third = length-append (letters "line ") (decimal n) in
    let fourth = length-append l (letters ": expected ") in
    let fifth = length-append (l ++ letters ": expected ") (expected_at n) in
    let sixth = length-append (l ++ letters ": expected " ++ expected_at n) (10 ∷ []) in
    let all = length-append (refused_line WrongSheet) (expected_line n) in
    let a = decimal_length (number_of WrongSheet) in
    let b = decimal_length n in
    let c = expected_length n in
    omega (arith, first, second, third, fourth, fifth, sixth, all, a, b, c)

one_output : (s before : List ℕ) (n n' : ℕ) (after after' : List ℕ) → Outputs s before n after → Outputs s before n' after' → (n ≡ n') × (after ≡ after')
one_output s before n n' after after' x y =
    let p = subst (λ (j : Result Settings WrongLine). Put before 0 (output_by j) n after) (one_judged s x.judged y.judged x.judges y.judges) x.put in
    (p.goes_on ∙ sym y.put.goes_on, p.holds ∙ sym y.put.holds)

pub promise : Promise
promise =
    record {
      accepted_exactly = λ s r x k. (told_accepted s r x k, (λ y. ap told_read (is_read s r x k y)));
      refused_exactly = λ s r x n. (told_refused s r x n, (λ e. no_sheet s r x e.1 ∙ ap refusal (sym e.0)));
      apart = sheets_apart;
      comma_or_dot = sign_refused;
      writes = λ k held r after x. record {
        exactly = given_exactly (told_text r after) (writer_conditions k (length held)) (sheet_text k) (told_by_lem (is_legal k) k held r after x);
        same = λ why q. same_by (is_legal k) k held after why (subst (λ (y : Result ℕ Refusal). SheetWritten k held y after) q x);
        text = λ n q. stands k held after n (subst (λ (y : Result ℕ Refusal). SheetWritten k held y after) q x);
      };
      reads_back = back;
      writes_back = back_again;
      bound = sheet_length;
      reached = longest;
      enough = λ k l held r after h x. room_enough k l held r after (let m = sheet_length k l in omega (arith, m, h)) x;
      line = λ s n x. (x.counted, line_most s n x);
      rating = same_accepted;
      one = record {
        read = one_read;
        judged = one_judged;
        written = λ k held r r' after after' x y. one_by (is_legal k) k held r r' after after' x y;
        output = one_output;
      };
      first_bytes = first_decide;
      program = output_length;
    }
