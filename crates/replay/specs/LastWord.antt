-- The last word of `replay`: complete only of a log that is accepted, refused only of one that is not, and neither
-- while something is left to be written.
use Rattle.std.specs.Prelude.{ℕ, ◌≡◌, List, Result, Ok, Err}
use Rattle.refusal.specs.declared.Refusal.{Refusal}
use Rattle.door.specs.declared.LastWord.{LastWord}
use Rattle.door.specs.declared.LastWord.TheVariants.{Complete, Refused as No, Unread, Cut}
use Rattle.bench_log.specs.Check.{checked}
use Rattle.monitor.specs.declared.bench.Bench.{Bench}
use Rattle.listing.specs.declared.output.Rest.{Rest}
use Rattle.listing.specs.declared.output.Rest.TheVariants.{Over}
use Rattle.listing.specs.Output.{rest_in}

-- by whether the log is accepted
abbrev pub word_for : Result Bench Refusal → LastWord
word_for (Ok b) = Complete
word_for (Err why) = No

abbrev pub word_on : Rest → LastWord
word_on (Over a) = word_for a
word_on _ = Cut

-- the log is accepted, and after some number of parts nothing was left
pub record WholeListing (s : List ℕ) : Type 0 where
  pub accepted : checked s ≡ Ok tt
  pub parts : ℕ
  pub last : Bench
  pub over : rest_in parts s ≡ Over (Ok last)

-- the log is refused, and after some number of parts nothing was left
pub record WholeRefusal (s : List ℕ) : Type 0 where
  pub why : Refusal
  pub refused : checked s ≡ Err why
  pub parts : ℕ
  pub over : rest_in parts s ≡ Over (Err why)

abbrev pub SaidOfLog : List ℕ → LastWord → Type 0
SaidOfLog s Complete = WholeListing s
SaidOfLog s No = WholeRefusal s
SaidOfLog s Unread = ⊥
SaidOfLog s Cut = Unit {0}
