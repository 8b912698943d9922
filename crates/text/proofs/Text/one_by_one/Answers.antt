-- `text::Text::one_by_one` meets its contract: the bytes so far were put. Assumes nothing.
use Rattle.text.proofs.Puts.{one_more}
use Rattle.text.proofs.Text.one_by_one.Goals as goal

pub loop-b-preserved : goal.loop-b-preserved
loop-b-preserved c = one_more _ _ _ c.args.text.now c.loop-b.b-index c.loop-b-test.true c.loop-b.invariant c.byte.ensures
