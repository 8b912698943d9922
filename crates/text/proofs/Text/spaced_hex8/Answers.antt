-- `text::Text::spaced_hex8` meets its contract: a space and eight figures at once. Assumes nothing.
use Prim.Native.Nat.{ℕ}
use mathlib.Core.Path.{ap}
use mathlib.Core.List.{List, ◌∷◌}
use Rattle.text.proofs.Figures.{eight_listed}
use Rattle.text.proofs.Puts.{puts_as}
use Rattle.text.proofs.Text.spaced_hex8.Goals as goal

pub returns : goal.returns
returns c = puts_as (ap (λ (f : List ℕ). 32 ∷ f) (eight_listed _ c.args.n c.hex_figures.ensures)) c.row.ensures
