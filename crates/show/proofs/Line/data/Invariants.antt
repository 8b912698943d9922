-- The bytes so far are on the line. Assumes nothing.
use Rattle.std.proofs.Common.{take}
use Rattle.show.specs.Lines.{Adds, data_text}
use Rattle.show.proofs.Line.data.Given as goal

abbrev pub invariant-loop-b : goal.invariant-loop-b
invariant-loop-b l = Adds l.initial.self (data_text (take l.b-index l.bytes)) l.self
