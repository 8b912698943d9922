-- `text::Text::refused_line` meets its contract: one after another. Assumes nothing.
use mathlib.Core.Path.{ap, ◌∙◌}
use Rattle.text.specs.Figures.{decimal}
use Rattle.text.proofs.Puts.{then, puts_as}
use Rattle.text.proofs.Text.refused_line.Goals as goal

pub returns : goal.returns
returns c = then (then c.bytes.ensures (puts_as (ap decimal (c.from-2.ensures ∙ c.from.ensures)) c.decimal.ensures)) c.byte.ensures
