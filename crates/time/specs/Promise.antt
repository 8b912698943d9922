-- What is promised of stamps and ticks, in document 01's numbers. `proofs/Promise` proves it.
use Rattle.std.specs.Prelude.{ℕ, ◌+◌, ◌<◌, ◌≡◌, true, false, ◌↔◌}
use Rattle.time.specs.declared.Stamp.{Stamp}
use Rattle.time.specs.declared.Ticks.{Ticks}
use Rattle.time.specs.Times.{earlier, later, past_limit, ticks_between}

abbrev pub in_ms : ℕ → Stamp
in_ms ms = record { 0 = ms }

abbrev pub in_ticks : ℕ → Ticks
in_ticks n = record { 0 = n }

pub record Promise : Type 0 where
  -- a stamp is earlier than another exactly when it counts fewer milliseconds; "Equal stamps are taken in the order given"
  pub earlier_means : (a b : ℕ) → earlier (in_ms a) (in_ms b) ≡ true ↔ a < b
  pub equal : (a : ℕ) → earlier (in_ms a) (in_ms a) ≡ false
  -- "more than 2,000 ms after", "At most 10,000 ms after": the limit itself is in time
  pub past_means : (a limit b : ℕ) → past_limit (in_ms a) limit (in_ms b) ≡ true ↔ a + limit < b
  pub at_limit : (a limit : ℕ) → past_limit (in_ms a) limit (in_ms (a + limit)) ≡ false
  -- a stamp so many milliseconds on
  pub later_means : (a ms : ℕ) → later (in_ms a) ms ≡ in_ms (a + ms)
  -- "ticks of ten milliseconds since the last start, rounded down": of the difference, not of each stamp
  pub nine_ms : ticks_between (in_ms 1005) (in_ms 1014) ≡ in_ticks 0
  pub ten_ms : ticks_between (in_ms 1005) (in_ms 1015) ≡ in_ticks 1
  pub a_second : ticks_between (in_ms 1005) (in_ms 2005) ≡ in_ticks 100
  -- no tick lies between a stamp and an earlier one
  pub backwards : ticks_between (in_ms 2000) (in_ms 1000) ≡ in_ticks 0
