-- `replay::write_parts` meets its contract: the loop holds what is left after so many parts. Assumes nothing.
use mathlib.Core.Path.{◌≡◌}
use Rattle.listing.specs.Output.{rest_in}
use Rattle.replay.proofs.write_parts.Given as goal

abbrev pub invariant-loop : goal.invariant-loop
invariant-loop l = rest_in l.counter l.s ≡ l.rest
