-- One setting after another. Assumes nothing.
use Rattle.show.proofs.Adding.{and}
use Rattle.sheet_cases.proofs.settings.Goals as goal

pub returns : goal.returns
returns c = and c.text.ensures (and c.setting.ensures (and c.setting-2.ensures (and c.setting-3.ensures (and c.setting-4.ensures (and c.setting-5.ensures (and c.setting-6.ensures c.end.ensures))))))
