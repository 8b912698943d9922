-- Each read adds what it consumed to the front of the buffer. Assumes nothing.
use Rattle.std.proofs.Common.{rules, length, ◌-◌}
use Rattle.door.proofs.Reading.{filled}
use Rattle.door.proofs.read_input.Goals as goal

pub loop-n-preserved : goal.loop-n-preserved
loop-n-preserved g c =
    let n = c.loop-n.n in
    let xs = c.loop-n.buf in
    (search rules, filled _ _ _ n (length xs - n) c.in-Ok.more xs c.read.new.buf c.loop-n.invariant.0 (search rules) c.loop-n.invariant.1 c.in-Ok.ensures.bytes.0)
