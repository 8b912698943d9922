-- `sheet_line::number::value_in` meets its contract: the number, as the value that it shows. Assumes nothing.
use Rattle.std.proofs.Common.{arith, ap, length, ◌∙◌, ◌+◌, List, ℕ, subst, Some, None}
use Rattle.std.proofs.lemmas.Option.{none-some}
use Rattle.sheet_line.specs.Number.{base_of, width_of, Counts}
use Rattle.sheet_line.proofs.Numbers.{value_found}
use Rattle.sheet_line.proofs.Places.{line_within, from_place}
use Rattle.sheet_line.proofs.number.value_in.Goals as goal

pub returns-in_err-figures : goal.returns-in_err-figures
returns-in_err-figures c =
    λ v rest legal e. absurd (let name = ap length c.name.ensures in let l = line_within c.args.setting v c.args.s.now rest e in let past = c.in_err-figures.ensures.lookup in grind (arith, name, l, past))

pub returns-in_err-shown : goal.returns-in_err-shown
returns-in_err-shown c =
    λ v rest legal e. (let there = from_place c.args.s.now c.in_ok-figures.figures.now (length c.name.result.now + 1) (width_of c.args.setting) c.in_ok-figures.ensures.lookup.0.2 (ap (λ (t : List ℕ). length t + 1) c.name.ensures) in
    absurd (none-some v (value_found c.args.setting v c.args.s.now rest None legal (subst (λ (t : List ℕ). Counts (base_of c.args.setting) t None) there c.in_err-shown.ensures) e).0))

pub returns : goal.returns
returns c =
    λ v rest legal e. (let there = from_place c.args.s.now c.in_ok-figures.figures.now (length c.name.result.now + 1) (width_of c.args.setting) c.in_ok-figures.ensures.lookup.0.2 (ap (λ (t : List ℕ). length t + 1) c.name.ensures) in
    ap Some c.value_for.ensures ∙ (value_found c.args.setting v c.args.s.now rest (Some c.in_ok-shown.shown) legal (subst (λ (t : List ℕ). Counts (base_of c.args.setting) t (Some c.in_ok-shown.shown)) there c.in_ok-shown.ensures) e).0)
