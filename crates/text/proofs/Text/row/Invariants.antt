-- `text::Text::row` meets its contract: the bytes so far were stored. Assumes nothing.
use Rattle.text.proofs.Puts.{Stored}
use Rattle.text.proofs.Text.row.Given as goal

abbrev pub invariant-loop-i : goal.invariant-loop-i
invariant-loop-i g l = Stored l.initial.self l.at l.row l.i l.self
