-- The text of a sheet: its lines one after another, and how long it is. Assumes nothing.
use Prim.Native.Nat.{ℕ, ◌≤◌}
use native.Mathlib.Nat.{zero-add}
use native.Mathlib.Omega.{arith}
use mathlib.Core.Path.{◌≡◌, refl, sym, ap, subst, ◌∙◌}
use mathlib.Core.Bool.{Bool, true, cond}
use mathlib.Core.List.{List, [], ◌++◌}
use lib.ListN.{length, take, drop, length-append, drop_of_length-le, take-append-drop}
use lib.Seq.{sets, sets-eq}
use borrow.Author.Tests.{le-ltb}
use Rattle.std.proofs.lemmas.List.Folds.{concat-append}
use Rattle.std.specs.Prelude.{Result, Ok, Err, MatchResult}
use Rattle.refusal.specs.declared.Refusal.{Refusal}
use Rattle.refusal.specs.declared.Refusal.TheVariants.{WrongSheet, ShortBuffer}
use Rattle.text.specs.Put.{Put}
use Rattle.text.proofs.Put.{kept_length}
use Rattle.text.proofs.Fitted.{text_at_start}
use Rattle.maintenance_pages.specs.declared.setting.Setting.TheVariants.{ReceiveId, TransmitId, Speed, Voltage, WarningLevel, FaultLevel}
use Rattle.maintenance_pages.specs.declared.setting.Settings.{Settings}
use Rattle.sheet_line.specs.Lines.{line_text}
use Rattle.std.specs.List.{concat}
use Rattle.sheet.specs.Sheet.{lines_of, sheet_text, is_legal, IsSheet, GoesOn, FirstWrong, Judges, Reads, WrittenBy, SheetWritten}
use Rattle.sheet.specs.declared.reading.WrongLine.{WrongLine}
use Rattle.sheet_line.proofs.Promise.{promise as lines}
use Rattle.sheet.proofs.Judging.{legal_parts}

-- ---- lines one after another

pub concat_at : (n : ℕ) (ls : List (List ℕ)) → concat ls ≡ concat (take n ls) ++ concat (drop n ls)
concat_at n ls = ap concat (sym (take-append-drop n ls)) ∙ concat-append (take n ls) (drop n ls)

-- ---- a sheet goes on as itself through any number of lines

pub sheet_goes_on : (s : List ℕ) (k : Settings) (n : ℕ) → IsSheet s k → GoesOn s n
sheet_goes_on s k n x =
    record {
      settings = k;
      rest = concat (drop n (lines_of k));
      legal = x.legal;
      same = x.same ∙ concat_at n (lines_of k);
      nothing = λ h. ap concat (drop_of_length-le (lines_of k) {i = n} (omega (arith, h)));
    }

pub sheet_not_wrong : (s : List ℕ) (k : Settings) (n : ℕ) → IsSheet s k → FirstWrong s n → ⊥
sheet_not_wrong s k n x w = w.wrong (sheet_goes_on s k n x)

-- ---- what is read, by what is judged

pub read_judged : (s : List ℕ) (j : Result Settings WrongLine) (r : Result Settings Refusal) → Judges s j → MatchResult j (λ k. r ≡ Ok k) (λ _. r ≡ Err WrongSheet) → Reads s r
read_judged s (Ok k) r x e = subst (Reads s) (sym e) x
read_judged s (Err line) r x e = subst (Reads s) (sym e) (refl, λ k y. sheet_not_wrong s k line.0 y x)

-- ---- how long a sheet is

pub sheet_length : (k : Settings) → is_legal k ≡ true → length (sheet_text k) ≤ 84
sheet_length k legal =
    let p = legal_parts k legal in
    let a = lines.bound ReceiveId k.receive p.receive in
    let b = lines.bound TransmitId k.transmit p.transmit in
    let c = lines.bound Speed k.speed p.speed in
    let d = lines.bound Voltage k.voltage p.voltage in
    let e = lines.bound WarningLevel k.warning p.warning in
    let f = lines.bound FaultLevel k.fault p.fault in
    let a' = length-append (line_text ReceiveId k.receive) (concat (drop 1 (lines_of k))) in
    let b' = length-append (line_text TransmitId k.transmit) (concat (drop 2 (lines_of k))) in
    let c' = length-append (line_text Speed k.speed) (concat (drop 3 (lines_of k))) in
    let d' = length-append (line_text Voltage k.voltage) (concat (drop 4 (lines_of k))) in
    let e' = length-append (line_text WarningLevel k.warning) (concat (drop 5 (lines_of k))) in
    let f' = length-append (line_text FaultLevel k.fault) [] in
    omega (arith, a, b, c, d, e, f, a', b', c', d', e', f')

-- ---- a sheet that was put into an array of 84 bytes

pub whole_there : (k : Settings) (d e : List ℕ) (n : ℕ) → is_legal k ≡ true → length d ≡ 84 → Put d 0 (sheet_text k) n e → (n ≡ length (sheet_text k)) × (take n e ≡ sheet_text k)
whole_there k d e n l long p = let m = sheet_length k l in text_at_start d e (sheet_text k) n (omega (arith, m, long)) (omega (arith, long)) p

pub within_array : (k : Settings) (d e : List ℕ) (n : ℕ) → is_legal k ≡ true → length d ≡ 84 → Put d 0 (sheet_text k) n e → n ≤ length e
within_array k d e n l long p =
    let most = sheet_length k l in
    let size = (whole_there k d e n l long p).0 in
    let kept = kept_length p in
    omega (arith, most, size, kept, long)

-- it stands at the start of a buffer that has room for it, and past it nothing changes
pub copied : (k : Settings) (d e held : List ℕ) (n : ℕ) → is_legal k ≡ true → length d ≡ 84 → Put d 0 (sheet_text k) n e → n ≤ length held → SheetWritten k held (Ok n) (take n e ++ drop n held)
copied k d e held n l long p h =
    let both = whole_there k d e n l long p in
    let size = both.0 in
    let fits : length (sheet_text k) ≤ length held = omega (arith, size, h) in
    let room = le-ltb (length held) (length (sheet_text k)) fits in
    subst (λ (b : Bool). WrittenBy b k held (Ok n) (take n e ++ drop n held)) (sym l)
    (record {
      answered = ap Ok size ∙ sym (ap (λ (b : Bool). cond b (Err ShortBuffer) (Ok (length (sheet_text k)))) room);
      holds =
          (λ i. both.1 i ++ drop (size i) held)
          ∙ ap (λ (j : ℕ). sheet_text k ++ drop j held) (sym (zero-add (length (sheet_text k))))
          ∙ sym (sets-eq (sheet_text k) held 0 (omega (arith, fits)))
          ∙ sym (ap (λ (b : Bool). cond b held (sets held 0 (sheet_text k))) room);
    })
