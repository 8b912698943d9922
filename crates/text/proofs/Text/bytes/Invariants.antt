-- `text::Text::bytes` meets its contract: the bytes so far were stored. Assumes nothing.
use Rattle.text.proofs.Puts.{Stored}
use Rattle.text.proofs.Text.bytes.Given as goal

abbrev pub invariant-loop-i : goal.invariant-loop-i
invariant-loop-i l = Stored l.initial.self l.at l.text l.i l.self
