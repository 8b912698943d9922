-- The crate of a sheet's lines keeps its promise. Assumes nothing.
use Prim.Native.Nat.{ℕ, ◌+◌, ◌≤◌, ◌<◌}
use native.Mathlib.Omega.{arith}
use mathlib.Core.Path.{◌≡◌, refl, sym, ap, ◌∙◌}
use mathlib.Core.Bool.{true, ◌&&◌}
use mathlib.Core.List.{List, [], ◌∷◌, ◌++◌, append_cancel_left}
use mathlib.Core.Logic.{◌⊎◌, inl, inr}
use lib.Dec.{lit≤, lit<}
use lib.ListN.{length, get_or, drop, length-append, length-drop}
use lib.Seq.{drop_at, drop-drop}
use Rattle.std.specs.Prelude.{Option, Some, None}
use Rattle.words.proofs.Tests.{and_left, and_right}
use Rattle.maintenance_pages.specs.declared.setting.Setting.{Setting}
use Rattle.maintenance_pages.specs.declared.setting.Setting.TheVariants.{ReceiveId, TransmitId, Speed, Voltage, WarningLevel, FaultLevel}
use Rattle.maintenance_pages.specs.Settings.{speed_number}
use Rattle.maintenance_pages.proofs.Promise.{promise as maintenance}
use Rattle.text.proofs.Figures.{lacks, lacks_append, lacks_at, hexadecimal_lacks, decimal_lacks, hexadecimal_length, decimal_length, decimal_below}
use Rattle.sheet_line.specs.declared.reading.Line.{Line}
use Rattle.sheet_line.specs.Lines.{name_of, figures_of, line_text, may_hold, longest_of}
use Rattle.sheet_line.specs.Number.{width_of}
use Rattle.sheet_line.specs.Reading.{IsLineAt, ReadsLine}
use Rattle.sheet_line.specs.Promise.{Promise}
use Rattle.sheet_line.proofs.Numbers.{may_hold_lem, values_apart}
use Rattle.sheet_line.proofs.Places.{line_length}

-- ---- no two lines are alike

-- two lines of a setting with anything after them: the same value, and the same after
line_apart : (setting : Setting) (v w : ℕ) (rest rest' : List ℕ) → may_hold setting v ≡ true → may_hold setting w ≡ true → line_text setting v ++ rest ≡ line_text setting w ++ rest' → (v ≡ w) × (rest ≡ rest')
line_apart setting v w rest rest' h h' e =
    let same = values_apart setting v w rest rest' h h' e in
    (same, append_cancel_left (line_text setting v) rest rest' (e ∙ ap (λ (x : ℕ). line_text setting x ++ rest') (sym same)))

-- ---- how long a line is

few_figures : (setting : Setting) (v : ℕ) → may_hold setting v ≡ true → width_of setting + length (figures_of setting v) + 1 ≤ longest_of setting
few_figures ReceiveId v h = let l = hexadecimal_length 8 v in omega (arith, l)
few_figures TransmitId v h = let l = hexadecimal_length 8 v in omega (arith, l)
few_figures Speed v h = let l = decimal_below 2 (speed_number v) (maintenance.speeds.figures v) in omega (arith, l)
few_figures Voltage v h = let b = (may_hold_lem Voltage v).0 h in let l = decimal_below 4 v (let g : v < 100000 = omega (arith, b) in g) in omega (arith, l)
few_figures WarningLevel v h = let l = decimal_length v in omega (arith, l)
few_figures FaultLevel v h = let l = decimal_length v in omega (arith, l)

line_most : (setting : Setting) (v : ℕ) → may_hold setting v ≡ true → length (line_text setting v) ≤ longest_of setting
line_most setting v h = let l = line_length setting v in let m = few_figures setting v h in omega (arith, l, m)

-- ---- a comma or a dot

names_lack : (setting : Setting) → (lacks 44 (name_of setting) && lacks 46 (name_of setting)) ≡ true
names_lack ReceiveId = refl
names_lack TransmitId = refl
names_lack Speed = refl
names_lack Voltage = refl
names_lack WarningLevel = refl
names_lack FaultLevel = refl

figures_lack : (c : ℕ) → c < 48 → (setting : Setting) (v : ℕ) → lacks c (figures_of setting v) ≡ true
figures_lack c h ReceiveId v = hexadecimal_lacks c 8 v h
figures_lack c h TransmitId v = hexadecimal_lacks c 8 v h
figures_lack c h Speed v = decimal_lacks c (speed_number v) h
figures_lack c h Voltage v = decimal_lacks c v h
figures_lack c h WarningLevel v = decimal_lacks c v h
figures_lack c h FaultLevel v = decimal_lacks c v h

-- a byte below the figures that no name has, and that is no space and no line feed
module _ (c : ℕ) (below : c < 48) (space : lacks c (32 ∷ []) ≡ true) (feed : lacks c (10 ∷ []) ≡ true) (names : (setting : Setting) → lacks c (name_of setting) ≡ true) where
  line_lacks : (setting : Setting) (v : ℕ) → lacks c (line_text setting v) ≡ true
  unfolding line_text
  line_lacks setting v =
      lacks_append c (name_of setting ++ (32 ∷ figures_of setting v)) (10 ∷ [])
      (lacks_append c (name_of setting) (32 ∷ figures_of setting v) (names setting) (lacks_append c (32 ∷ []) (figures_of setting v) space (figures_lack c below setting v)))
      feed

pub comma_lacks : (setting : Setting) (v : ℕ) → lacks 44 (line_text setting v) ≡ true
comma_lacks setting v = line_lacks 44 (lit< tt) refl refl (λ t. and_left (lacks 44 (name_of t)) _ (names_lack t)) setting v

pub dot_lacks : (setting : Setting) (v : ℕ) → lacks 46 (line_text setting v) ≡ true
dot_lacks setting v = line_lacks 46 (lit< tt) refl refl (λ t. and_right (lacks 44 (name_of t)) _ (names_lack t)) setting v

sign_nowhere : (setting : Setting) (v i : ℕ) → (get_or (line_text setting v) i 0 ≡ 44) ⊎ (get_or (line_text setting v) i 0 ≡ 46) → ⊥
sign_nowhere setting v i (inl e) = lacks_at 44 (line_text setting v) (comma_lacks setting v) i (lit≤ tt) e
sign_nowhere setting v i (inr e) = lacks_at 46 (line_text setting v) (dot_lacks setting v) i (lit≤ tt) e

-- ---- one outcome only

-- a line that stands at a place is there to be read
line_there : (setting : Setting) (s : List ℕ) (at v : ℕ) (rest : List ℕ) → may_hold setting v ≡ true → drop at s ≡ line_text setting v ++ rest → IsLineAt setting s at (record { value = v; next = at + length (line_text setting v) })
line_there setting s at v rest legal e =
    let n = length (line_text setting v) in
    let onward : drop (at + n) s ≡ rest = sym (drop-drop n at s) ∙ ap (drop n) e ∙ drop_at (line_text setting v) rest n refl in
    let all = sym (length-drop at s) ∙ ap length e ∙ length-append (line_text setting v) rest in
    let some = line_length setting v in
    record {
      legal = legal;
      same = e ∙ ap (λ (u : List ℕ). line_text setting v ++ u) (sym onward);
      after = refl;
      within = omega (arith, all, some);
    }

same_line : (setting : Setting) (s : List ℕ) (at : ℕ) (l m : Line) → IsLineAt setting s at l → IsLineAt setting s at m → l ≡ m
same_line setting s at l m x y =
    let v = (line_apart setting l.value m.value (drop l.next s) (drop m.next s) x.legal y.legal (sym x.same ∙ y.same)).0 in
    let next = x.after ∙ ap (λ (w : ℕ). at + length (line_text setting w)) v ∙ sym y.after in
    λ i. record { value = v i; next = next i }

one_line : (setting : Setting) (s : List ℕ) (at : ℕ) (r r' : Option Line) → ReadsLine setting s at r → ReadsLine setting s at r' → r ≡ r'
one_line setting s at (Some l) (Some m) x y = ap Some (same_line setting s at l m x y)
one_line setting s at (Some l) None x y = absurd (y l x)
one_line setting s at None (Some m) x y = absurd (x m y)
one_line setting s at None None x y = refl

line_found : (setting : Setting) (s : List ℕ) (at : ℕ) (r : Option Line) → ReadsLine setting s at r → (v : ℕ) (rest : List ℕ) → may_hold setting v ≡ true → drop at s ≡ line_text setting v ++ rest → (line : Line) × (r ≡ Some line) × (line.value ≡ v) × (drop line.next s ≡ rest)
line_found setting s at (Some l) x v rest legal e =
    let both = line_apart setting l.value v (drop l.next s) rest x.legal legal (sym x.same ∙ e) in
    (l, refl, both.0, both.1)
line_found setting s at None x v rest legal e = absurd (x _ (line_there setting s at v rest legal e))

pub promise : Promise
promise =
    record {
      may_hold_lem = may_hold_lem;
      apart = line_apart;
      comma_or_dot = sign_nowhere;
      bound = line_most;
      found = line_found;
      one = one_line;
    }
