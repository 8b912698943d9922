-- "Bench milliseconds and uptime ticks are kept apart throughout": a stamp counts milliseconds, a tick is ten of them.
use Rattle.std.specs.Prelude.{ℕ, ◌+◌, ◌-◌, ◌/◌, Bool, ltb}
use Rattle.time.specs.declared.Stamp.{Stamp}
use Rattle.time.specs.declared.Ticks.{Ticks}

abbrev pub earlier : Stamp → Stamp → Bool
earlier at other = ltb at.0 other.0

-- so many milliseconds after a stamp
abbrev pub later : Stamp → ℕ → Stamp
later at ms = record { 0 = at.0 + ms }

-- a stamp is more than so many milliseconds after another
abbrev pub past_limit : Stamp → ℕ → Stamp → Bool
past_limit since ms at = earlier (later since ms) at

-- "ticks of ten milliseconds since the last start, rounded down"
abbrev pub ticks_between : Stamp → Stamp → Ticks
ticks_between since at = record { 0 = (at.0 - since.0) / 10 }
