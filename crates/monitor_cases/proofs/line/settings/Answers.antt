-- One setting after another. Assumes nothing.
use Rattle.show.proofs.Adding.{and}
use Rattle.monitor_cases.proofs.line.settings.Goals as goal

pub returns : goal.returns
returns c = rw (c.speed_number.ensures, c.stored-k.ensures) at (and c.text.ensures (and c.hex8.ensures (and c.byte.ensures (and c.hex8-2.ensures (and c.value.ensures (and c.value-2.ensures (and c.value-3.ensures (and c.value-4.ensures c.end.ensures))))))))
