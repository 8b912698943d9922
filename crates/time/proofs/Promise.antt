-- Stamps and ticks keep their promise. Assumes nothing.
use Prim.Native.Nat.{◌+◌}
use mathlib.Core.Path.{refl}
use native.Mathlib.Omega.{arith}
use borrow.Author.Tests.{lt-ltb, le-ltb, ltb-true}
use Rattle.time.specs.Promise.{Promise}

pub promise : Promise
promise =
    record {
      earlier_means = λ a b. (ltb-true a b, lt-ltb a b);
      equal = λ a. le-ltb a a (omega arith);
      past_means = λ a limit b. (ltb-true (a + limit) b, lt-ltb (a + limit) b);
      at_limit = λ a limit. le-ltb (a + limit) (a + limit) (omega arith);
      later_means = λ a ms. refl;
      nine_ms = refl;
      ten_ms = refl;
      a_second = refl;
      backwards = refl;
    }
