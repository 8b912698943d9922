-- `sheet::reading::read` meets its contract: the settings, or 11. Assumes nothing.
use Rattle.std.proofs.Common.{rules, ◌≡◌, Ok, Err, MatchResult}
use Rattle.refusal.specs.declared.Refusal.TheVariants.{WrongSheet}
use Rattle.sheet.proofs.Sheets.{read_judged}
use Rattle.sheet.proofs.reading.read.Goals as goal

pub returns : goal.returns
returns c = read_judged c.args.s.now c.judge.result c.map_err.result c.judge.ensures (let answer : MatchResult c.judge.result (λ k. c.map_err.result ≡ Ok k) (λ _. c.map_err.result ≡ Err WrongSheet) = search rules in answer)
