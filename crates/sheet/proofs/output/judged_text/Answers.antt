-- `sheet::output::judged_text` meets its contract: one after the other. Assumes nothing.
use Rattle.text.proofs.Puts.{then}
use Rattle.sheet.proofs.output.judged_text.Goals as goal

pub returns-in-Err : goal.returns-in-Err
returns-in-Err c = rw c.in-Err.is (then c.refused_line.ensures c.expected_line.ensures)
