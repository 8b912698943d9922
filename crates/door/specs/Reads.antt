-- What a program read of its input.
use Rattle.std.specs.Prelude.{ℕ, ◌≡◌, ◌<◌, List, take, length, Option, Result, Ok, Err, IfOk}
use Rattle.std.specs.declared.ops.ControlFlow.{ControlFlow}
use Rattle.std.specs.Io.KnownBytes.{Consumes, IsAtEnd}
use Rattle.io.specs.Counts.{IsPrefixLen}
use Rattle.door.specs.declared.LastWord.{LastWord}
use Rattle.door.specs.declared.ReadFailed.{ReadFailed}

-- how many bytes stand at the start of the buffer, after a read that failed too
abbrev pub count_read : Result ℕ ReadFailed → ℕ
count_read (Ok n) = n
count_read (Err e) = e.after

-- the next bytes of the input were read into a buffer with room for so many, fewer only where the input is at its end or
-- a read failed; and the answer is what is said of that
pub record ReadsThen (said : Result ℕ ReadFailed → ℕ → ControlFlow LastWord Unit) (room : ℕ) (before after : Option (List ℕ)) (buf : List ℕ) (answer : ControlFlow LastWord Unit) : Type 0 where
  pub input : Result ℕ ReadFailed
  pub bound : IsPrefixLen (count_read input) buf
  pub bytes : Consumes before after (take (count_read input) buf)
  pub end : IfOk input (λ n. n < length buf → IsAtEnd after)
  pub answered : answer ≡ said input room
