-- `text::Text::decimal` meets its contract: the figures before the last five, and those. Assumes nothing.
use native.Mathlib.Omega.{arith}
use Rattle.text.proofs.Figures.{five_more}
use Rattle.text.proofs.Puts.{then, puts_as}
use Rattle.text.proofs.Text.decimal.Goals as goal

pub returns-else-n-lt100000 : goal.returns-else-n-lt100000
returns-else-n-lt100000 c = puts_as (five_more c.args.n (omega arith) c.ranges.n.fits) (then c.few-else-n-lt100000.ensures c.last_five.ensures)
