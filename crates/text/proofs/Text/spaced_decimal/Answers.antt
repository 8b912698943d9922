-- `text::Text::spaced_decimal` meets its contract: a space, then the figures. Assumes nothing.
use Rattle.text.proofs.Puts.{then}
use Rattle.text.proofs.Text.spaced_decimal.Goals as goal

pub returns-then-n-gt9 : goal.returns-then-n-gt9
returns-then-n-gt9 c = then c.byte.ensures c.decimal.ensures
