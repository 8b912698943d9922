-- No two sheets share a text, and no two answers are right of the same bytes. Assumes nothing.
use Prim.Native.Nat.{ℕ, ◌+◌, ◌-◌, ◌≤◌, ◌<◌}
use native.Mathlib.Omega.{arith}
use mathlib.Core.Path.{◌≡◌, sym, ap, ◌∙◌}
use mathlib.Core.Bool.{true}
use mathlib.Core.List.{List, ◌++◌, append_assoc, append-nil}
use lib.Dec.{ltb}
use lib.ListN.{length, take, drop, length-append, length-take, take-append-drop, drop_of_length-le}
use lib.Seq.{take_all, take-take, take-append-add, take-nil, length-take-le}
use borrow.Author.Tests.{ltb-true, ltb-false}
use Rattle.std.specs.Prelude.{Result, Ok, Err}
use Rattle.words.proofs.Tests.{decided}
use Rattle.refusal.specs.declared.Refusal.{Refusal}
use Rattle.maintenance_pages.specs.declared.setting.Setting.TheVariants.{ReceiveId, TransmitId, Speed, Voltage, WarningLevel, FaultLevel}
use Rattle.maintenance_pages.specs.declared.setting.Settings.{Settings}
use Rattle.sheet.specs.declared.reading.WrongLine.{WrongLine}
use Rattle.std.specs.List.{concat}
use Rattle.sheet.specs.Sheet.{lines_of, sheet_text, is_legal, IsSheet, GoesOn, FirstWrong, Judges, Reads}
use Rattle.sheet_line.proofs.Promise.{promise as lines}
use Rattle.sheet.proofs.Judging.{legal_parts}
use Rattle.sheet.proofs.Sheets.{concat_at, sheet_not_wrong, sheet_length}

-- ---- lines and sheets

pub sheets_apart : (k m : Settings) → is_legal k ≡ true → is_legal m ≡ true → sheet_text k ≡ sheet_text m → k ≡ m
sheets_apart k m l l' e =
    let p = legal_parts k l in
    let q = legal_parts m l' in
    let a = lines.apart ReceiveId k.receive m.receive _ _ p.receive q.receive e in
    let b = lines.apart TransmitId k.transmit m.transmit _ _ p.transmit q.transmit a.1 in
    let c = lines.apart Speed k.speed m.speed _ _ p.speed q.speed b.1 in
    let d = lines.apart Voltage k.voltage m.voltage _ _ p.voltage q.voltage c.1 in
    let f = lines.apart WarningLevel k.warning m.warning _ _ p.warning q.warning d.1 in
    let g = lines.apart FaultLevel k.fault m.fault _ _ p.fault q.fault f.1 in
    λ i. record { receive = a.0 i; transmit = b.0 i; speed = c.0 i; voltage = d.0 i; warning = f.0 i; fault = g.0 i }

pub one_sheet : (s : List ℕ) (k m : Settings) → IsSheet s k → IsSheet s m → k ≡ m
one_sheet s k m x y = sheets_apart k m x.legal y.legal (sym x.same ∙ y.same)

-- ---- the first line that is wrong

fewer : (s : List ℕ) (n m : ℕ) → n ≤ m → GoesOn s m → GoesOn s n
fewer s n m h g =
    let ls = lines_of g.settings in
    let after = concat (drop n (take m ls)) in
    record {
      settings = g.settings;
      rest = after ++ g.rest;
      legal = g.legal;
      same = g.same
          ∙ ap (λ (t : List ℕ). t ++ g.rest) (concat_at n (take m ls) ∙ ap (λ (u : List (List ℕ)). concat u ++ after) (take-take n m ls h))
          ∙ append_assoc (concat (take n ls)) after g.rest;
      nothing = λ more. let few = length-take m ls in
          ap (λ (t : List ℕ). t ++ g.rest) (ap concat (drop_of_length-le (take m ls) {i = n} (omega (arith, few, more)))) ∙ g.nothing (omega (arith, more, h));
    }

not_later : (s : List ℕ) (n m : ℕ) → FirstWrong s n → FirstWrong s m → n < m → ⊥
not_later s n m x y h = x.wrong (fewer s n (m - 1) (omega (arith, h)) y.before)

one_line : (s : List ℕ) (n m : ℕ) → FirstWrong s n → FirstWrong s m → n ≡ m
one_line s n m x y =
    decided (ltb n m)
    (λ t. absurd (not_later s n m x y (ltb-true n m t)))
    (λ t. decided (ltb m n) (λ u. absurd (not_later s m n y x (ltb-true m n u))) (λ u. let a = ltb-false n m t in let b = ltb-false m n u in omega (arith, a, b)))

-- bytes that go on through the sixth line and have nothing after are a sheet
whole_sheet : (s : List ℕ) (n : ℕ) → 6 < n → (g : GoesOn s n) → IsSheet s g.settings
whole_sheet s n h g =
    record {
      legal = g.legal;
      same = g.same ∙ ap (λ (t : List ℕ). concat (take n (lines_of g.settings)) ++ t) (g.nothing h) ∙ append-nil (concat (take n (lines_of g.settings))) ∙ ap concat (take_all n (lines_of g.settings) (omega (arith, h)));
    }

pub line_most : (s : List ℕ) (n : ℕ) → FirstWrong s n → n ≤ 7
line_most s n x =
    decided (ltb 7 n)
    (λ t. let more = ltb-true 7 n t in absurd (sheet_not_wrong s _ n (whole_sheet s (n - 1) (omega (arith, more)) x.before) x))
    (λ t. ltb-false 7 n t)

-- ---- one outcome only

same_number : (a b : WrongLine) → a.0 ≡ b.0 → a ≡ b
same_number a b e = λ i. record { 0 = e i }

pub one_judged : (s : List ℕ) (j j' : Result Settings WrongLine) → Judges s j → Judges s j' → j ≡ j'
one_judged s (Ok k) (Ok m) x y = ap Ok (one_sheet s k m x y)
one_judged s (Ok k) (Err n) x y = absurd (sheet_not_wrong s k n.0 x y)
one_judged s (Err n) (Ok k) x y = absurd (sheet_not_wrong s k n.0 y x)
one_judged s (Err n) (Err m) x y = ap Err (same_number n m (one_line s n.0 m.0 x y))

pub one_read : (s : List ℕ) (r r' : Result Settings Refusal) → Reads s r → Reads s r' → r ≡ r'
one_read s (Ok k) (Ok m) x y = ap Ok (one_sheet s k m x y)
one_read s (Ok k) (Err w) x y = absurd (y.1 k x)
one_read s (Err w) (Ok k) x y = absurd (x.1 k y)
one_read s (Err w) (Err w') x y = ap Err (x.0 ∙ sym y.0)

-- ---- the first bytes decide

lines_length : (k : Settings) (n : ℕ) → is_legal k ≡ true → length (concat (take n (lines_of k))) ≤ 84
lines_length k n l =
    let all = ap length (concat_at n (lines_of k)) ∙ length-append (concat (take n (lines_of k))) (concat (drop n (lines_of k))) in
    let most = sheet_length k l in
    omega (arith, all, most)

-- a beginning that is a sheet has nothing after it
no_more : (s : List ℕ) → length (take 85 s) ≤ 84 → take 85 s ≡ s
no_more s h =
    decided (ltb (length s) 85)
    (λ t. take_all 85 s (let b = ltb-true (length s) 85 t in omega (arith, b)))
    (λ t. absurd (let l = length-take-le 85 s (ltb-false (length s) 85 t) in omega (arith, l, h)))

first_on : (s : List ℕ) (n : ℕ) → GoesOn s n → GoesOn (take 85 s) n
first_on s n g =
    let there = concat (take n (lines_of g.settings)) in
    let long = lines_length g.settings n g.legal in
    let left : ℕ = 85 - length there in
    record {
      settings = g.settings;
      rest = take left g.rest;
      legal = g.legal;
      same = ap (take 85) g.same ∙ ap (λ (m : ℕ). take m (there ++ g.rest)) (let e : 85 ≡ length there + left = omega (arith, long) in e) ∙ take-append-add there g.rest left;
      nothing = λ h. ap (take left) (g.nothing h) ∙ take-nil left;
    }

on_from_first : (s : List ℕ) (n : ℕ) → GoesOn (take 85 s) n → GoesOn s n
on_from_first s n g =
    record {
      settings = g.settings;
      rest = g.rest ++ drop 85 s;
      legal = g.legal;
      same = sym (take-append-drop 85 s) ∙ ap (λ (t : List ℕ). t ++ drop 85 s) g.same ∙ append_assoc (concat (take n (lines_of g.settings))) g.rest (drop 85 s);
      nothing = λ h. let x = whole_sheet (take 85 s) n h g in
          let few = sheet_length g.settings g.legal in
          let long = ap length x.same in
          let all = ap length (no_more s (omega (arith, long, few))) in
          ap (λ (t : List ℕ). t ++ drop 85 s) (g.nothing h) ∙ drop_of_length-le s {i = 85} (omega (arith, long, few, all));
    }

pub first_decide : (s : List ℕ) (j : Result Settings WrongLine) → Judges (take 85 s) j → Judges s j
first_decide s (Ok k) x =
    let few = sheet_length k x.legal in
    let long = ap length x.same in
    record { legal = x.legal; same = sym (no_more s (omega (arith, long, few))) ∙ x.same }
first_decide s (Err n) x =
    record { counted = x.counted; before = on_from_first s (n.0 - 1) x.before; wrong = λ g. x.wrong (first_on s n.0 g) }
