-- Sums of stamps. Assumes nothing.
use Prim.Native.Nat.{ℕ, ◌+◌, ◌<◌}
use mathlib.Core.Path.{◌≡◌}
use mathlib.Core.Bool.{true}
use borrow.Author.Tests.{ltb-true}
use mir.Syntax.{w32}
use mir.Val.{Fits}
use native.Mathlib.Omega.{arith}
use Rattle.time.specs.declared.Stamp.{Stamp}
use Rattle.time.specs.Times.{past_limit}

-- a limit that has been passed is a stamp
pub limit_fits : (since : Stamp) (ms : ℕ) (at : Stamp) → past_limit since ms at ≡ true → Fits w32 at.0 → Fits w32 (since.0 + ms)
limit_fits since ms at past fits =
    let passed : since.0 + ms < at.0 = ltb-true (since.0 + ms) at.0 past in
    omega arith
