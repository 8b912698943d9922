-- A line at its place: how long it is, and when the bytes go on with it. Assumes nothing.
use Prim.Native.Nat.{ℕ, ◌+◌, ◌≤◌, ◌<◌}
use native.Mathlib.Omega.{arith}
use mathlib.Core.Path.{◌≡◌, refl, sym, ap, subst, ◌∙◌}
use mathlib.Core.Bool.{true}
use mathlib.Core.List.{List, [], ◌∷◌, ◌++◌}
use lib.Dec.{eqb}
use lib.ListN.{length, take, drop, length-append, length-drop}
use lib.Seq.{drop-drop}
use borrow.Author.Rules.{part_to_end}
use Rattle.std.specs.Prelude.{Some}
use Rattle.std.specs.List.{slice_range, starts_with}
use Rattle.std.proofs.lemmas.Bool.Decides.{Decides-eqb}
use Rattle.std.proofs.lemmas.Option.{same_Some}
use Rattle.std.proofs.lemmas.Slice.Eq.{starts_is}
use Rattle.maintenance_pages.specs.declared.setting.Setting.{Setting}
use Rattle.maintenance_pages.specs.declared.setting.Setting.TheVariants.{ReceiveId, TransmitId, Speed, Voltage, WarningLevel, FaultLevel}
use Rattle.maintenance_pages.specs.Settings.{speed_number}
use Rattle.text.specs.Figures.{hexadecimal, decimal}
use Rattle.text.specs.Put.{Put}
use Rattle.text.proofs.Figures.{hexadecimal_length, decimal_length}
use Rattle.text.proofs.Put.{kept_length}
use Rattle.text.proofs.Fitted.{text_at_start}
use Rattle.sheet_line.specs.declared.reading.Line.{Line}
use Rattle.sheet_line.specs.Lines.{figures_of, line_text, may_hold}
use Rattle.sheet_line.specs.Number.{width_of}
use Rattle.sheet_line.specs.Reading.{IsLineAt}

-- ---- how long a line is

after_name : (figs : List ℕ) → length (figs ++ (10 ∷ [])) ≡ length figs + 1
after_name figs = length-append figs (10 ∷ [])

pub line_length : (setting : Setting) (v : ℕ) → length (line_text setting v) ≡ width_of setting + length (figures_of setting v) + 1
unfolding line_text
line_length ReceiveId v = let l = after_name (hexadecimal 8 v) in omega (arith, l)
line_length TransmitId v = let l = after_name (hexadecimal 8 v) in omega (arith, l)
line_length Speed v = let l = after_name (decimal (speed_number v)) in omega (arith, l)
line_length Voltage v = let l = after_name (decimal v) in omega (arith, l)
line_length WarningLevel v = let l = after_name (decimal v) in omega (arith, l)
line_length FaultLevel v = let l = after_name (decimal v) in omega (arith, l)

ten_figures : (setting : Setting) (v : ℕ) → width_of setting + length (figures_of setting v) ≤ 18
ten_figures ReceiveId v = let l = hexadecimal_length 8 v in omega (arith, l)
ten_figures TransmitId v = let l = hexadecimal_length 8 v in omega (arith, l)
ten_figures Speed v = let l = decimal_length (speed_number v) in omega (arith, l)
ten_figures Voltage v = let l = decimal_length v in omega (arith, l)
ten_figures WarningLevel v = let l = decimal_length v in omega (arith, l)
ten_figures FaultLevel v = let l = decimal_length v in omega (arith, l)

pub line_fits : (setting : Setting) (v : ℕ) → length (line_text setting v) ≤ 19
line_fits setting v = let l = line_length setting v in let m = ten_figures setting v in omega (arith, l, m)

-- bytes that begin with a line are longer than its name and the space
pub line_within : (setting : Setting) (v : ℕ) (s rest : List ℕ) → s ≡ line_text setting v ++ rest → width_of setting < length s
line_within setting v s rest e = let l = line_length setting v in let m = ap length e ∙ length-append (line_text setting v) rest in omega (arith, l, m)

-- what is lent from a place on
pub from_place : (s t : List ℕ) (n at : ℕ) → t ≡ slice_range s n (length s) → n ≡ at → t ≡ drop at s
from_place s t n at e h = e ∙ part_to_end s n ∙ ap (λ (k : ℕ). drop k s) h

-- ---- a line written back and compared

-- the line of a value in an array of 20 bytes
pub line_written : (setting : Setting) (d e : List ℕ) (v n : ℕ) → length d ≡ 20 → Put d 0 (line_text setting v) n e → (n ≡ length (line_text setting v)) × (take n e ≡ line_text setting v)
line_written setting d e v n long put = let l = line_fits setting v in text_at_start d e (line_text setting v) n (omega (arith, l, long)) (omega (arith, long)) put

pub line_in_array : (setting : Setting) (d e : List ℕ) (v n : ℕ) → length d ≡ 20 → Put d 0 (line_text setting v) n e → n ≤ length e
line_in_array setting d e v n long put =
    let l = line_fits setting v in
    let same = (line_written setting d e v n long put).0 in
    let kept = kept_length put in
    omega (arith, l, same, kept, long)

begins : (t line : List ℕ) → (starts_with eqb t line ≡ true → t ≡ line ++ drop (length line) t) × ((rest : List ℕ) → t ≡ line ++ rest → starts_with eqb t line ≡ true)
begins t line = starts_is Decides-eqb t line (starts_with eqb t line) refl

module _ (setting : Setting) (s t line : List ℕ) (at v n : ℕ) (here : t ≡ drop at s) (text : (n ≡ length (line_text setting v)) × (line ≡ line_text setting v)) where
  there : starts_with eqb t line ≡ true → t ≡ line_text setting v ++ drop n t
  there same = subst (λ (u : List ℕ). t ≡ u ++ drop (length u) t) text.1 ((begins t line).0 same) ∙ ap (λ (k : ℕ). line_text setting v ++ drop k t) (sym text.0)

  onward : drop n t ≡ drop (at + n) s
  onward = ap (drop n) here ∙ drop-drop n at s

  pub line_within_bytes : at ≤ length s → starts_with eqb t line ≡ true → at + n ≤ length s
  line_within_bytes h same =
      let all = sym (length-drop at s) ∙ ap length (sym here ∙ there same) ∙ length-append (line_text setting v) (drop n t) in
      let long = text.0 in
      omega (arith, all, long, h)

  pub line_read : at ≤ length s → may_hold setting v ≡ true → starts_with eqb t line ≡ true → IsLineAt setting s at (record { value = v; next = at + n })
  line_read h legal same =
      record {
        legal = legal;
        same = sym here ∙ there same ∙ ap (λ (u : List ℕ). line_text setting v ++ u) onward;
        after = ap (λ (k : ℕ). at + k) text.0;
        within = line_within_bytes h same;
      }

  -- a line that stands there is that of the value that was found
  pub line_found : ((w : ℕ) (rest : List ℕ) → may_hold setting w ≡ true → t ≡ line_text setting w ++ rest → Some v ≡ Some w) → (l : Line) → IsLineAt setting s at l → (may_hold setting v ≡ true) × (starts_with eqb t line ≡ true)
  line_found value l x =
      let is : l.value ≡ v = sym (same_Some v l.value (value l.value (drop l.next s) x.legal (here ∙ x.same))) in (
        subst (λ (w : ℕ). may_hold setting w ≡ true) is x.legal,
        (begins t line).1 (drop l.next s) (here ∙ x.same ∙ ap (λ (w : ℕ). line_text setting w ++ drop l.next s) is ∙ ap (λ (u : List ℕ). u ++ drop l.next s) (sym text.1)),
      )
