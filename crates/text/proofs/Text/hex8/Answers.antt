-- `text::Text::hex8` meets its contract: four figures, and four more. Assumes nothing.
use Rattle.text.proofs.Figures.{eight_listed}
use Rattle.text.proofs.Puts.{then, puts_as}
use Rattle.text.proofs.Text.hex8.Goals as goal

pub returns : goal.returns
returns c = puts_as (eight_listed _ c.args.n c.hex_figures.ensures) (then c.row.ensures c.row-2.ensures)
