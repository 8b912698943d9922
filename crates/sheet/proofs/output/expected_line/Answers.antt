-- `sheet::output::expected_line` meets its contract: one after another. Assumes nothing.
use Rattle.text.proofs.Puts.{then, puts_as}
use Rattle.sheet.proofs.output.expected_line.Goals as goal

pub returns : goal.returns
returns c = then (then (then (then c.bytes.ensures c.decimal.ensures) c.bytes-2.ensures) (puts_as c.expected.ensures c.bytes-3.ensures)) c.byte.ensures
