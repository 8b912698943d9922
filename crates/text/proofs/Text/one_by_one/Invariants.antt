-- `text::Text::one_by_one` meets its contract: the bytes so far were put. Assumes nothing.
use lib.ListN.{take}
use Rattle.text.specs.Puts.{Puts}
use Rattle.text.proofs.Text.one_by_one.Given as goal

abbrev pub invariant-loop-b : goal.invariant-loop-b
invariant-loop-b l = Puts l.initial.self (take l.b-index l.text) l.self
