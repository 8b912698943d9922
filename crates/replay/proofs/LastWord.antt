-- What is left after some parts says the log's last word. Assumes nothing.
use Prim.Native.Nat.{ℕ}
use mathlib.Core.Path.{◌≡◌, subst}
use mathlib.Core.List.{List}
use Rattle.std.specs.Prelude.{Ok, Err}
use Rattle.listing.specs.declared.output.Rest.{Rest}
use Rattle.listing.specs.declared.output.Rest.TheVariants.{Refused as Refusing, Records, Over}
use Rattle.listing.specs.Output.{rest_in}
use Rattle.listing.proofs.Parts.{Stands, stands}
use Rattle.replay.specs.LastWord.{word_on, WholeListing, WholeRefusal, SaidOfLog}

told_by_lem : (s : List ℕ) (n : ℕ) (rest : Rest) → rest_in n s ≡ rest → Stands s rest → SaidOfLog s (word_on rest)
told_by_lem s n (Refusing why) o x = tt
told_by_lem s n (Records b next) o x = tt
told_by_lem s n (Over (Ok b)) o x = let whole : WholeListing s = record { accepted = x.0; parts = n; last = b; over = o } in whole
told_by_lem s n (Over (Err why)) o x = let whole : WholeRefusal s = record { why = why; refused = x; parts = n; over = o } in whole

pub told : (s : List ℕ) (n : ℕ) (rest : Rest) → rest_in n s ≡ rest → SaidOfLog s (word_on rest)
told s n rest e = told_by_lem s n rest e (subst (Stands s) e (stands s n))
