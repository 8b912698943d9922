-- Six lines read one after another tell how far the bytes go on as a sheet. Assumes nothing.
use Prim.Native.Nat.{ℕ, zero, suc, ◌+◌, ◌-◌, ◌≤◌, ◌<◌}
use native.Mathlib.Omega.{arith}
use mathlib.Core.Path.{◌≡◌, refl, sym, ap, subst, ◌∙◌}
use mathlib.Core.Bool.{Bool, true, ◌&&◌}
use mathlib.Core.List.{List, [], ◌∷◌, ◌++◌, append_assoc, append-nil}
use lib.ListN.{length, get_or, take, drop, length-drop, drop_of_length-le}
use Rattle.std.specs.Prelude.{Option, Some, None, Result, Ok, Err}
use Rattle.std.specs.Option.{ok_or}
use Rattle.std.specs.List.{concat, list_all}
use Rattle.std.proofs.Math.Bool.{and_assoc, and-true}
use Rattle.std.proofs.lemmas.List.Folds.{concat-append}
use Rattle.std.proofs.lemmas.Option.{none-some}
use Rattle.words.proofs.Tests.{and_left, and_right}
use Rattle.maintenance_pages.specs.declared.setting.Setting.{Setting}
use Rattle.maintenance_pages.specs.declared.setting.Setting.TheVariants.{ReceiveId, TransmitId, Speed, Voltage, WarningLevel, FaultLevel}
use Rattle.maintenance_pages.specs.declared.setting.Settings.{Settings}
use Rattle.maintenance_pages.specs.Settings.{in_code_order, value_of, with_value}
use Rattle.sheet_line.specs.declared.reading.Line.{Line}
use Rattle.sheet_line.specs.Lines.{line_text, may_hold}
use Rattle.sheet_line.specs.Reading.{IsLineAt, ReadsLine}
use Rattle.sheet_line.proofs.Promise.{promise as lines}
use Rattle.sheet.specs.declared.reading.WrongLine.{WrongLine}
use Rattle.sheet.specs.Sheet.{lines_of, sheet_text, is_legal, IsSheet, GoesOn, FirstWrong}

-- ---- settings that a sheet may hold, part by part

pub record Parts (k : Settings) : Type 0 where
  pub receive : may_hold ReceiveId k.receive ≡ true
  pub transmit : may_hold TransmitId k.transmit ≡ true
  pub speed : may_hold Speed k.speed ≡ true
  pub voltage : may_hold Voltage k.voltage ≡ true
  pub warning : may_hold WarningLevel k.warning ≡ true
  pub fault : may_hold FaultLevel k.fault ≡ true

pub parts_legal : (k : Settings) → Parts k → is_legal k ≡ true
parts_legal k p = rw (p.receive, p.transmit, p.speed, p.voltage, p.warning, p.fault) refl

pub legal_parts : (k : Settings) → is_legal k ≡ true → Parts k
legal_parts k l =
    let a = may_hold ReceiveId k.receive in
    let b = may_hold TransmitId k.transmit in
    let c = may_hold Speed k.speed in
    let d = may_hold Voltage k.voltage in
    let e = may_hold WarningLevel k.warning in
    let l5 = and_left (a && b && c && d && e) _ l in
    let l4 = and_left (a && b && c && d) e l5 in
    let l3 = and_left (a && b && c) d l4 in
    let l2 = and_left (a && b) c l3 in
    record {
      receive = and_left a b l2;
      transmit = and_right a b l2;
      speed = and_right (a && b) c l3;
      voltage = and_right (a && b && c) d l4;
      warning = and_right (a && b && c && d) e l5;
      fault = and_right (a && b && c && d && e) _ l;
    }

all_six : (a b c d e f : Bool) → (a && (b && (c && (d && (e && (f && true)))))) ≡ (a && b && c && d && e && f)
all_six a b c d e f = simp (and_assoc, and-true)

-- each of them by its setting
pub each_legal : (k : Settings) → list_all (λ (setting : Setting). may_hold setting (value_of k setting)) in_code_order ≡ is_legal k
each_legal k = all_six (may_hold ReceiveId k.receive) (may_hold TransmitId k.transmit) (may_hold Speed k.speed) (may_hold Voltage k.voltage) (may_hold WarningLevel k.warning) (may_hold FaultLevel k.fault)

-- ---- the line of a setting among the six

-- how many lines go before it
abbrev pub before_of : Setting → ℕ
before_of ReceiveId = 0
before_of TransmitId = 1
before_of Speed = 2
before_of Voltage = 3
before_of WarningLevel = 4
before_of FaultLevel = 5

value_legal : (setting : Setting) (k : Settings) → Parts k → may_hold setting (value_of k setting) ≡ true
value_legal ReceiveId k p = p.receive
value_legal TransmitId k p = p.transmit
value_legal Speed k p = p.speed
value_legal Voltage k p = p.voltage
value_legal WarningLevel k p = p.warning
value_legal FaultLevel k p = p.fault

with_legal : (setting : Setting) (k : Settings) (v : ℕ) → Parts k → may_hold setting v ≡ true → Parts (with_value k setting v)
with_legal ReceiveId k v p h = record { receive = h; transmit = p.transmit; speed = p.speed; voltage = p.voltage; warning = p.warning; fault = p.fault }
with_legal TransmitId k v p h = record { receive = p.receive; transmit = h; speed = p.speed; voltage = p.voltage; warning = p.warning; fault = p.fault }
with_legal Speed k v p h = record { receive = p.receive; transmit = p.transmit; speed = h; voltage = p.voltage; warning = p.warning; fault = p.fault }
with_legal Voltage k v p h = record { receive = p.receive; transmit = p.transmit; speed = p.speed; voltage = h; warning = p.warning; fault = p.fault }
with_legal WarningLevel k v p h = record { receive = p.receive; transmit = p.transmit; speed = p.speed; voltage = p.voltage; warning = h; fault = p.fault }
with_legal FaultLevel k v p h = record { receive = p.receive; transmit = p.transmit; speed = p.speed; voltage = p.voltage; warning = p.warning; fault = h }

-- the lines through it: those before, and its own
through : (setting : Setting) (k : Settings) → take (before_of setting + 1) (lines_of k) ≡ take (before_of setting) (lines_of k) ++ (line_text setting (value_of k setting) ∷ [])
through ReceiveId k = refl
through TransmitId k = refl
through Speed k = refl
through Voltage k = refl
through WarningLevel k = refl
through FaultLevel k = refl

-- with another value there: those before as they were, and its own
through_with : (setting : Setting) (k : Settings) (v : ℕ) → take (before_of setting + 1) (lines_of (with_value k setting v)) ≡ take (before_of setting) (lines_of k) ++ (line_text setting v ∷ [])
through_with ReceiveId k v = refl
through_with TransmitId k v = refl
through_with Speed k v = refl
through_with Voltage k v = refl
through_with WarningLevel k v = refl
through_with FaultLevel k v = refl

last_line : (ls : List (List ℕ)) (l rest : List ℕ) → concat (ls ++ (l ∷ [])) ++ rest ≡ concat ls ++ (l ++ rest)
last_line ls l rest =
    ap (λ (t : List ℕ). t ++ rest) (concat-append ls (l ∷ []) ∙ ap (λ (t : List ℕ). concat ls ++ t) (append-nil l))
    ∙ append_assoc (concat ls) l rest

before_at : (i : ℕ) → i < 6 → before_of (get_or in_code_order i ReceiveId) ≡ i
before_at zero h = refl
before_at (suc zero) h = refl
before_at (suc (suc zero)) h = refl
before_at (suc (suc (suc zero))) h = refl
before_at (suc (suc (suc (suc zero)))) h = refl
before_at (suc (suc (suc (suc (suc zero))))) h = refl
before_at (suc (suc (suc (suc (suc (suc i)))))) h = absurd (omega (arith, h))

line_concat : (setting : Setting) (k : Settings) → concat (take (before_of setting) (lines_of k)) ++ line_text setting (value_of k setting) ≡ concat (take (before_of setting + 1) (lines_of k))
line_concat setting k =
    ap (λ (t : List ℕ). concat (take (before_of setting) (lines_of k)) ++ t) (sym (append-nil (line_text setting (value_of k setting))))
    ∙ sym (last_line (take (before_of setting) (lines_of k)) (line_text setting (value_of k setting)) [])
    ∙ append-nil (concat (take (before_of setting) (lines_of k) ++ (line_text setting (value_of k setting) ∷ [])))
    ∙ ap concat (sym (through setting k))

-- the lines through the setting at a place in the order
pub line_after : (i : ℕ) (k : Settings) → i < 6 → concat (take i (lines_of k)) ++ line_text (get_or in_code_order i ReceiveId) (value_of k (get_or in_code_order i ReceiveId)) ≡ concat (take (i + 1) (lines_of k))
line_after i k h =
    let setting = get_or in_code_order i ReceiveId in
    subst (λ (n : ℕ). concat (take n (lines_of k)) ++ line_text setting (value_of k setting) ≡ concat (take (n + 1) (lines_of k))) (before_at i h) (line_concat setting k)

-- ---- how far the bytes go on

-- the bytes up to a place are the first lines of these settings, and only what follows that place can follow such lines
pub record Reached (s : List ℕ) (lines : ℕ) (k : Settings) (at : ℕ) : Type 0 where
  pub parts : Parts k
  pub within : at ≤ length s
  pub same : s ≡ concat (take lines (lines_of k)) ++ drop at s
  pub only : (m : Settings) (rest : List ℕ) → Parts m → s ≡ concat (take lines (lines_of m)) ++ rest → rest ≡ drop at s

pub start : (s : List ℕ) → Reached s 0 (record { receive = 0; transmit = 0; speed = 0x00CA0250; voltage = 0; warning = 1; fault = 1 }) 0
start s =
    record {
      parts = record { receive = refl; transmit = refl; speed = refl; voltage = refl; warning = refl; fault = refl };
      within = omega arith;
      same = refl;
      only = λ m rest p e. sym e;
    }

-- lines through a setting's leave its text and the rest at the place
left : (setting : Setting) {s : List ℕ} {k : Settings} {at : ℕ} → Reached s (before_of setting) k at → (m : Settings) (rest : List ℕ) → Parts m → s ≡ concat (take (before_of setting + 1) (lines_of m)) ++ rest → line_text setting (value_of m setting) ++ rest ≡ drop at s
left setting x m rest p e =
    x.only m (line_text setting (value_of m setting) ++ rest) p
    (e ∙ ap (λ (ls : List (List ℕ)). concat ls ++ rest) (through setting m) ∙ last_line (take (before_of setting) (lines_of m)) (line_text setting (value_of m setting)) rest)

pub further : (setting : Setting) {s : List ℕ} {k : Settings} {at : ℕ} {r : Option Line} {line : Line} → Reached s (before_of setting) k at → ReadsLine setting s at r → r ≡ Some line → Reached s (before_of setting + 1) (with_value k setting line.value) line.next
further setting {s} {k} {at} {r} {line} x y e =
    let l : IsLineAt setting s at line = subst (ReadsLine setting s at) e y in
    record {
      parts = with_legal setting k line.value x.parts l.legal;
      within = l.within;
      same = x.same
          ∙ ap (λ (t : List ℕ). concat (take (before_of setting) (lines_of k)) ++ t) l.same
          ∙ sym (last_line (take (before_of setting) (lines_of k)) (line_text setting line.value) (drop line.next s))
          ∙ ap (λ (ls : List (List ℕ)). concat ls ++ drop line.next s) (sym (through_with setting k line.value));
      only = λ m rest p q. (lines.apart setting (value_of m setting) line.value rest (drop line.next s) (value_legal setting m p) l.legal (left setting x m rest p q ∙ l.same)).1;
    }

abbrev number_or : Result Line WrongLine → ℕ
number_or (Ok line) = 0
number_or (Err wrong) = wrong.0

-- so far the bytes go on as a sheet
goes_on : (s : List ℕ) (n : ℕ) (k : Settings) (at : ℕ) → n ≤ 6 → Reached s n k at → GoesOn s n
goes_on s n k at h x =
    record { settings = k; rest = drop at s; legal = parts_legal k x.parts; same = x.same; nothing = λ more. absurd (omega (arith, h, more)) }

before_most : (setting : Setting) → before_of setting ≤ 6
before_most ReceiveId = omega arith
before_most TransmitId = omega arith
before_most Speed = omega arith
before_most Voltage = omega arith
before_most WarningLevel = omega arith
before_most FaultLevel = omega arith

-- the line that is not there is the first wrong one, and the answer has its number
pub wrong_there : (setting : Setting) {s : List ℕ} {k : Settings} {at : ℕ} {r : Option Line} {wrong : WrongLine} → Reached s (before_of setting) k at → ReadsLine setting s at r → r ≡ None → ◌≡◌ {A = Result Line WrongLine} (Err wrong) (ok_or r (record { 0 = before_of setting + 1 })) → FirstWrong s wrong.0
wrong_there setting {s} {k} {at} {r} {wrong} x y e told =
    subst (FirstWrong s) (sym (ap number_or (told ∙ ap (λ (o : Option Line). ok_or o (record { 0 = before_of setting + 1 })) e)))
    (record {
      counted = omega arith;
      before = subst (GoesOn s) (let n : before_of setting ≡ before_of setting + 1 - 1 = omega arith in n) (goes_on s (before_of setting) k at (before_most setting) x);
      wrong = λ g. let p = legal_parts g.settings g.legal in
          let found = lines.found setting s at r y (value_of g.settings setting) g.rest (value_legal setting g.settings p) (sym (left setting x g.settings g.rest p g.same)) in
          none-some found.0 (sym e ∙ found.1);
    })

-- six lines, and more after them
pub more_after : {s : List ℕ} {k : Settings} {at : ℕ} → Reached s 6 k at → at < length s → FirstWrong s 7
more_after {s} {k} {at} x h =
    record {
      counted = omega arith;
      before = goes_on s 6 k at (omega arith) x;
      wrong = λ g. let none = sym (length-drop at s) ∙ ap length (sym (x.only g.settings g.rest (legal_parts g.settings g.legal) g.same) ∙ g.nothing (omega arith)) in
          omega (arith, none, h);
    }

-- six lines, and nothing after them
pub whole_sheet : {s : List ℕ} {k : Settings} {at : ℕ} → Reached s 6 k at → length s ≤ at → IsSheet s k
whole_sheet {s} {k} {at} x h =
    record {
      legal = parts_legal k x.parts;
      same = x.same ∙ ap (λ (t : List ℕ). sheet_text k ++ t) (drop_of_length-le s {i = at} h) ∙ append-nil (sheet_text k);
    }
