-- The line that answers a question of docs/CODEC_CASES.md.
use Rattle.std.specs.Prelude.{ℕ, List}
use Rattle.codec_pages.specs.declared.rows.Kind.{Kind}
use Rattle.codec_pages.specs.Reports.{read_report}
use Rattle.codec_pages.specs.Requests.{read_request, build_request}
use Rattle.codec_pages.specs.Building.{build_report}
use Rattle.codec_cases.specs.declared.ask.Question.{Question}
use Rattle.codec_cases.specs.declared.ask.What.{What}
use Rattle.codec_cases.specs.declared.ask.What.TheVariants.{ReadReport, ReadRequest, BuildReport, BuildRequest}
use Rattle.codec_cases.specs.Lines.{report_line, request_line, built_line}

-- "read a report", "read a request", "build a report", "build a request"
abbrev pub answer_line_by : Kind → ℕ → What → List ℕ
answer_line_by kind id (ReadReport f) = report_line (read_report kind id f)
answer_line_by kind id (ReadRequest f) = request_line (read_request kind id f)
answer_line_by kind id (BuildReport report) = built_line (build_report kind id report)
answer_line_by kind id (BuildRequest request) = built_line (build_request kind id request)

abbrev pub answer_line : Question → List ℕ
answer_line q = answer_line_by q.kind q.identifier q.what
