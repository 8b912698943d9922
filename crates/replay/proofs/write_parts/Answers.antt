-- `replay::write_parts` meets its contract: the loop holds what is left after so many parts. Assumes nothing.
use Prim.Native.Nat.{ℕ}
use native.Mathlib.Numerals.{add-one}
use mathlib.Core.Path.{sym, ap, ◌∙◌}
use Rattle.listing.specs.Output.{rest_after, rest_in}
use Rattle.listing.proofs.Promise.{promise as listing}
use Rattle.replay.proofs.LastWord.{told}
use Rattle.replay.proofs.write_parts.Goals as goal

pub loop-init : goal.loop-init
loop-init c = listing.parts_first _ ∙ sym c.whole-rest.ensures

pub returns-in-Over : goal.returns-in-Over
returns-in-Over c = rw c.last_word.ensures (told c.args.s.now c.loop.counter c.loop.rest c.loop.invariant)

pub loop-preserved : goal.loop-preserved
loop-preserved c = ap (λ (k : ℕ). rest_in k c.args.s.now) (add-one c.loop.counter) ∙ listing.parts_next _ _ ∙ ap (rest_after c.args.s.now) c.loop.invariant ∙ sym c.next_part-part.ensures.left

pub returns : goal.returns
returns c = rw c.last_word-2.ensures (told c.args.s.now c.loop.counter c.loop.rest c.loop.invariant)
