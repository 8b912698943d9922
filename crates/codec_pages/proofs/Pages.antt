-- The pages in bytes, and the refusals at their borders: each is worked out. Assumes nothing.
use Prim.Native.Nat.{ℕ, ◌≤◌}
use mathlib.Core.Path.{◌≡◌, refl}
use mathlib.Core.Bool.{false}
use mathlib.Core.Logic.{◌↔◌}
use Rattle.codec_pages.specs.declared.rows.Kind.{Kind}
use Rattle.codec_pages.specs.declared.rows.Kind.TheVariants.{Sim100, Sim101}
use Rattle.codec_pages.specs.Table.{row_of, no_word, entry_of}
use Rattle.codec_pages.specs.Reports.{read_report}
use Rattle.codec_pages.specs.Building.{build_report}
use Rattle.codec_pages.specs.Requests.{read_request, build_request}
use Rattle.codec_pages.specs.Pages.{Pages}
use Rattle.codec_pages.specs.Borders.{ReadBorders, BuildBorders, Borders}
use Rattle.codec_pages.proofs.Table.{word_listed, word_only}

pub pages : Pages
unfolding read_report build_report read_request build_request entry_of
pages =
    record {
      reports = record { read = refl; built = refl; told = refl; found = refl };
      requests = record { read = refl; built = refl; told = refl; found = refl };
      ignored = record { past_3 = refl; past_4 = refl; past_5 = refl; in_e5 = refl; in_requests = refl; past_1 = refl };
      sent = refl;
    }

words : (k : Kind) (mux : ℕ) → no_word (row_of k mux) ≡ false ↔ (0x01 ≤ mux) × (mux ≤ 0x0B)
words k mux = (word_only k mux, λ h. word_listed k mux h.0 h.1)

read_borders : (k : Kind) → ReadBorders k
unfolding read_report read_request entry_of
read_borders Sim100 = record { one = refl; one_asked = refl; not_one = refl; two = refl; two_asked = refl; three = refl; words = words Sim100; four = refl; one_first = refl; two_first = refl }
read_borders Sim101 = record { one = refl; one_asked = refl; not_one = refl; two = refl; two_asked = refl; three = refl; words = words Sim101; four = refl; one_first = refl; two_first = refl }

build_borders : (k : Kind) → BuildBorders k
unfolding build_report build_request entry_of
build_borders Sim100 = record { one = refl; not_one = refl; three = refl; one_first = refl; alone = refl }
build_borders Sim101 = record { one = refl; not_one = refl; three = refl; one_first = refl; alone = refl }

pub borders : Borders
unfolding read_report build_report read_request build_request entry_of
borders =
    record {
      read = read_borders;
      read_one = record { three = refl; four_sim100 = refl; four_sim101 = refl; five = refl; not_five = refl; four_first = refl };
      built = build_borders;
      built_one = record { one_first = refl; three_sim100 = refl; three_sim101 = refl; six_sim100 = refl; not_six_sim100 = refl; six_sim101 = refl; not_six_sim101 = refl };
    }
