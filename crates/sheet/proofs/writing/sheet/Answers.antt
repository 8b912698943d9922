-- `sheet::writing::sheet` meets its contract: the lines so far, one after another. Assumes nothing.
use Rattle.std.proofs.Common.{ap, ◌∙◌, ◌++◌, ℕ, take, get_or}
use Rattle.maintenance_pages.specs.Settings.{in_code_order}
use Rattle.maintenance_pages.specs.declared.setting.Setting.TheVariants.{ReceiveId}
use Rattle.text.proofs.Puts.{then, puts_as}
use Rattle.sheet_line.specs.Lines.{line_text}
use Rattle.std.specs.List.{concat}
use Rattle.sheet.specs.Sheet.{lines_of}
use Rattle.sheet.proofs.Judging.{line_after}
use Rattle.sheet.proofs.writing.sheet.Goals as goal

pub loop-setting-preserved : goal.loop-setting-preserved
loop-setting-preserved c =
    puts_as (ap (λ (v : ℕ). concat (take c.loop-setting.setting-index (lines_of c.args.k)) ++ line_text (get_or in_code_order c.loop-setting.setting-index ReceiveId) v) c.value_of.ensures ∙ line_after c.loop-setting.setting-index c.args.k c.loop-setting-test.true)
    (then c.loop-setting.invariant c.line.ensures)
