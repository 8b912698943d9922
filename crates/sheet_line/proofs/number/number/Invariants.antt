-- The figures before the byte that comes next have been read.
use Rattle.sheet_line.specs.Number.{base_of}
use Rattle.sheet_line.proofs.Numbers.{Counting}
use Rattle.sheet_line.proofs.number.number.Given as goal

abbrev pub invariant-loop-byte : goal.invariant-loop-byte
invariant-loop-byte l = Counting (base_of l.fn.setting) l.s l.byte-index l.n
