-- A power-on from the record's parts. Assumes nothing.
use Rattle.monitor_cases.proofs.record.powered_on.Goals as goal

pub returns : goal.returns
returns c = rw (c.stamp.ensures, c.serial.ensures, c.word_at.ensures, c.settings.ensures) at c.power_on.ensures
