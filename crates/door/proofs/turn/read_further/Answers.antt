-- What was read, and what `go_on` says of it. Assumes nothing.
use Rattle.door.proofs.turn.read_further.Goals as goal

pub returns : goal.returns
returns g c = record { input = c.read_input.result; bound = c.read_input.ensures.bound; bytes = c.read_input.ensures.bytes; end = c.read_input.ensures.end; answered = c.go_on.ensures }
