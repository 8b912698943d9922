-- The last word of a program, and the status that is made of it.
use Rattle.std.specs.Prelude.{ℕ}
use Rattle.door.specs.declared.LastWord.{LastWord}
use Rattle.door.specs.declared.LastWord.TheVariants.{Complete, Refused, Unread, Cut}

-- 0 complete; 1 refused, or the answer is no; 2 the input could not be read; 3 the output could not be written to
-- its end
abbrev pub status_of : LastWord → ℕ
status_of Complete = 0
status_of Refused = 1
status_of Unread = 2
status_of Cut = 3
