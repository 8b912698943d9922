-- A question is asked exactly where the record asks something known. Assumes nothing.
use native.Mathlib.Omega.{arith}
use Rattle.std.proofs.Common.{ℕ, ◌≡◌, ◌&&◌, ◌||◌, List, get_or, ltb, refl, ◌∙◌}
use Rattle.std.proofs.lemmas.Bool.Decides.{nat_tests}
use Rattle.std.specs.Prelude.{Option, Some, None, is_some}
use Rattle.codec_pages.specs.declared.rows.Kind.{Kind}
use Rattle.codec_cases.specs.declared.ask.What.{What}
use Rattle.codec_cases.specs.Cases.{known_question, kind_asked, report_as, request_as, what_as, what_asked, question_of, question_asked}

kind_known : (r : List ℕ) → is_some (kind_asked r) ≡ ltb (get_or r 1 0) 2
kind_known r = grind (arith, nat_tests)

report_known : (which : ℕ) (r : List ℕ) → is_some (report_as which r) ≡ ltb which 9
report_known which r = grind (arith, nat_tests)

request_known : (which : ℕ) (r : List ℕ) → is_some (request_as which r) ≡ ltb which 9
request_known which r = grind (arith, nat_tests)

what_known : (what : ℕ) (r : List ℕ) → is_some (what_as what r) ≡ (ltb what 2 || ltb what 4 && ltb (get_or r 6 0) 9)
what_known what r = grind (arith, nat_tests, report_known, request_known)

both : (r : List ℕ) (kind : Option Kind) (what : Option What) → is_some (question_of r kind what) ≡ (is_some kind && is_some what)
both r (Some kind) (Some what) = refl
both r (Some kind) None = refl
both r None what = refl

pub known : (r : List ℕ) → is_some (question_asked r) ≡ known_question r
known r = both r (kind_asked r) (what_asked r) ∙ rw (kind_known r, what_known (get_or r 0 0) r)
