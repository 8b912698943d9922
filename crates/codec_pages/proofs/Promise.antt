-- The codec keeps its promise. Assumes nothing.
use mathlib.Core.Path.{refl}
use Rattle.codec_pages.specs.Promise.{Promise}
use Rattle.codec_pages.proofs.Pages.{pages, borders}
use Rattle.codec_pages.proofs.Limits.{limits}
use Rattle.codec_pages.proofs.Reading.{report_read, request_read}
use Rattle.codec_pages.proofs.Building.{report_built, request_built, words_built, report_first, request_first}
use Rattle.codec_pages.proofs.ReadsBack.{report_reads_back, request_reads_back}
use Rattle.codec_pages.proofs.BuildsBack.{report_builds_back, request_builds_back}

pub promise : Promise
promise =
    record {
      pages = pages;
      borders = borders;
      limits = limits;
      reports_first = report_first;
      requests_first = request_first;
      minus_100 = refl;
      reports_read = report_read;
      requests_read = request_read;
      reports_built = report_built;
      requests_built = request_built;
      words_built = words_built;
      reports_read_back = report_reads_back;
      requests_read_back = request_reads_back;
      reports_build_back = report_builds_back;
      requests_build_back = request_builds_back;
      reports_past_length = λ k expected f r h g q. report_reads_back k expected r _ g (report_builds_back k expected f r h q);
      requests_past_length = λ k expected f r h g q. request_reads_back k expected r _ g (request_builds_back k expected f r h q);
    }
