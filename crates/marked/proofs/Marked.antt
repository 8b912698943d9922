-- The marked cases hold, by computation. Assumes nothing.
use mathlib.Core.Path.{refl}
use Rattle.codec_pages.specs.Table.{entry_of}
use Rattle.codec_pages.specs.Reports.{read_report}
use Rattle.codec_pages.specs.Requests.{read_request}
use Rattle.maintenance_pages.specs.Messages.{message}
use Rattle.rules.specs.History.{stored_after}
use Rattle.text.specs.Figures.{hexadecimal, decimal_up_to}
use Rattle.bench_log.specs.Layout.{is_laid_out}
use Rattle.bench_log.specs.Block.{block_in, is_legal}
use Rattle.bench_log.specs.Record.{record_in, is_record}
use Rattle.bench_log.specs.Check.{history_of, records_acceptance}
use Rattle.listing.specs.Lines.{spaced}
use Rattle.listing.specs.Listing.{lines_of, listing_of}
use Rattle.marked.specs.Marked.{Marked}

pub marked : Marked
unfolding entry_of read_report read_request message stored_after hexadecimal decimal_up_to is_laid_out block_in is_legal record_in is_record history_of records_acceptance spaced lines_of listing_of
marked = (
  refl,
  (
    refl,
    (
      record { on_the_bench = refl; looking_back_lem = refl },
      (
        record { on_the_bench = refl; looking_back_lem = refl },
        (
          record { on_the_bench = refl; looking_back_lem = refl },
          (
            record { on_the_bench = refl; looking_back_lem = refl },
            (
              refl,
              (
                record { on_the_bench = refl; looking_back_lem = refl },
                (
                  record { on_the_bench = refl; looking_back_lem = refl },
                  (
                    record { on_the_bench = refl; looking_back_lem = refl },
                    (refl, (refl, (refl, (refl, tt)))),
                  ),
                ),
              ),
            ),
          ),
        ),
      ),
    ),
  ),
)
