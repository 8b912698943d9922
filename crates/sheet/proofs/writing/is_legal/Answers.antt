-- `sheet::writing::is_legal` meets its contract: each setting of the six. Assumes nothing.
use Rattle.std.proofs.Common.{rules, tests, ◌∙◌}
use Rattle.std.proofs.lemmas.Iterator.{YieldsList-from_slice}
use Rattle.std.proofs.lemmas.Iterator.Search.{all_from_yields_List}
use Rattle.maintenance_pages.specs.declared.setting.Setting.{Setting}
use Rattle.maintenance_pages.specs.Settings.{value_of, in_code_order}
use Rattle.sheet_line.specs.Lines.{may_hold}
use Rattle.sheet.proofs.Judging.{each_legal}
use Rattle.sheet.proofs.writing.is_legal.Goals as goal

pub returns : goal.returns
returns c =
    all_from_yields_List (λ (s : Setting). may_hold s (value_of c.args.k s)) _ _ c.all.result c.all.ensures.ran (YieldsList-from_slice in_code_order c.iter.ensures.rest) (λ x b q k. search (rules, tests))
    ∙ each_legal c.args.k
