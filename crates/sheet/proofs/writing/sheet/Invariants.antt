-- `sheet::writing::sheet` meets its contract: the lines so far, one after another. Assumes nothing.
use Rattle.std.proofs.Common.{take}
use Rattle.text.specs.Puts.{Puts}
use Rattle.std.specs.List.{concat}
use Rattle.sheet.specs.Sheet.{lines_of}
use Rattle.sheet.proofs.writing.sheet.Given as goal

abbrev pub invariant-loop-setting : goal.invariant-loop-setting
invariant-loop-setting l = Puts l.initial.text (concat (take l.setting-index (lines_of l.k))) l.text
