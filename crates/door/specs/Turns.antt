-- Questions one after another: the input ends before a question and nowhere in one; a question that is cut off is
-- refused; a read that fails is no end.
use Rattle.std.specs.Prelude.{ℕ, Result, Ok, Err, cond, eqb, ltb}
use Rattle.std.specs.declared.ops.ControlFlow.{ControlFlow}
use Rattle.std.specs.declared.ops.ControlFlow.TheVariants.{Continue, Break}
use Rattle.door.specs.declared.LastWord.{LastWord}
use Rattle.door.specs.declared.LastWord.TheVariants.{Complete, Refused, Unread, Cut}
use Rattle.door.specs.declared.ReadFailed.{ReadFailed}
use Rattle.door.specs.declared.WriteFailed.{WriteFailed}

-- in a question: of so many bytes n were read
abbrev pub gone_on : Result ℕ ReadFailed → ℕ → ControlFlow LastWord Unit
gone_on (Err e) whole = Break Unread
gone_on (Ok n) whole = cond (ltb n whole) (Break Refused) (Continue tt)

-- where a question may begin
abbrev pub begun : Result ℕ ReadFailed → ℕ → ControlFlow LastWord Unit
begun (Err e) whole = Break Unread
begun (Ok n) whole = cond (eqb n 0) (Break Complete) (gone_on (Ok n) whole)

-- after an answer, by whether it was written
abbrev pub next_if : Result Unit WriteFailed → ControlFlow LastWord Unit
next_if (Ok done) = Continue tt
next_if (Err e) = Break Cut
