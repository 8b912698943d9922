-- `sheet_line::line::line` meets its contract: one after another. Assumes nothing.
use mathlib.Core.Path.{ap}
use mathlib.Core.List.{List, [], ◌∷◌, ◌++◌, append_assoc}
use Prim.Native.Nat.{ℕ}
use Rattle.text.proofs.Puts.{then, puts_as}
use Rattle.sheet_line.specs.Lines.{name_of, figures_of, line_text}
use Rattle.sheet_line.proofs.line.line.Goals as goal

pub returns : goal.returns
unfolding line_text
returns c =
    puts_as (ap (λ (t : List ℕ). t ++ (10 ∷ [])) (append_assoc (name_of c.args.setting) (32 ∷ []) (figures_of c.args.setting c.args.value)))
    (then (then (then (puts_as c.name.ensures c.bytes.ensures) c.byte.ensures) c.figures.ensures) c.byte-2.ensures)
