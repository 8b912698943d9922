-- What is asked settles whether it is known. Assumes nothing.
use Rattle.std.proofs.Common.{rules, ◌≡◌, ap, ◌∙◌}
use Rattle.std.specs.Prelude.{Some, is_some}
use Rattle.codec_cases.specs.Cases.{question_asked}
use Rattle.codec_cases.specs.declared.ask.Question.{Question}
use Rattle.codec_cases.proofs.Known.{known}
use Rattle.codec_cases.proofs.ask.Question.of.Goals as goal

pub returns-clause-known : goal.returns-clause-known
returns-clause-known c =
    let question : Question = record { kind = c.in_ok-kind.kind; identifier = c.identifier-identifier.result; what = c.in_ok-what.what } in
    let asked : Some question ≡ question_asked c.args.r = search rules in
    ap is_some asked ∙ known c.args.r
