-- the bytes below the index are the row's from the place on
use Rattle.std.proofs.Common.{◌≡◌, ℕ, ◌<◌, ◌+◌, get_or, length}
use Rattle.words.proofs.word.part_at.Given as goal

abbrev pub invariant-loop-i : goal.invariant-loop-i
invariant-loop-i g l = (length l.byte-items ≡ g.row.N) × ((k : ℕ) → k < l.i → get_or l.byte-items k 0 ≡ get_or l.row (l.place + k) 0)
