-- The rows of either kind, by the ranges that the code goes through. Assumes nothing.
use Rattle.std.proofs.Common.{◌≡◌, refl, ℕ, ◌<◌, Err, arith}
use Rattle.refusal.specs.declared.Refusal.TheVariants.{NotListed}
use Rattle.codec_pages.specs.declared.rows.Kind.TheVariants.{Sim100, Sim101}
use Rattle.codec_pages.specs.Table.{row_of}
use Rattle.codec_pages.proofs.Table.{word_row}
use Rattle.codec_pages.proofs.Found.{row_f0, row_80, row_e5, measured_sim100, measured_sim101, none_at_0, none_sim100, none_sim101}

pub below_sim100 : (m : ℕ) → m < 1 → row_of Sim100 m ≡ Err NotListed
below_sim100 m h = let e : m ≡ 0 = omega arith in rw (e, none_at_0 Sim100) refl

pub between_sim100 : (m : ℕ) → 0x0B < m → m < 0xE0 → row_of Sim100 m ≡ Err NotListed
between_sim100 m h k = none_sim100 0x0B 0xE0 m tt h k (λ e. omega arith)

pub above_sim100 : (m : ℕ) → 0xE5 < m → m < 0x100 → (m ≡ 0xF0 → ⊥) → row_of Sim100 m ≡ Err NotListed
above_sim100 m h k n = none_sim100 0xE5 0x100 m tt h k n

pub below_sim101 : (m : ℕ) → m < 1 → row_of Sim101 m ≡ Err NotListed
below_sim101 m h = let e : m ≡ 0 = omega arith in rw (e, none_at_0 Sim101) refl

pub between_sim101 : (m : ℕ) → 0x0B < m → m < 0xE0 → (m ≡ 0x80 → ⊥) → row_of Sim101 m ≡ Err NotListed
between_sim101 m h k n = none_sim101 0x0B 0xE0 m tt h k n

pub above_sim101 : (m : ℕ) → 0xE5 < m → m < 0x100 → row_of Sim101 m ≡ Err NotListed
above_sim101 m h k = none_sim101 0xE5 0x100 m tt h k (λ e. omega arith)

pub ruleset rows = (word_row, row_f0, row_80, row_e5, measured_sim100, measured_sim101, below_sim100, between_sim100, above_sim100, below_sim101, between_sim101, above_sim101)
