-- The row of each multiplexer: what a match on byte 0 has to find. Assumes nothing.
use Prim.Native.Nat.{ℕ, ◌<◌, ◌≤◌}
use mathlib.Core.Path.{◌≡◌, refl}
use lib.Dec.{T}
use Rattle.std.specs.Prelude.{Ok, Err}
use Rattle.refusal.specs.declared.Refusal.TheVariants.{NotListed}
use Rattle.codec_pages.specs.declared.rows.Kind.{Kind}
use Rattle.codec_pages.specs.declared.rows.Kind.TheVariants.{Sim100, Sim101}
use Rattle.codec_pages.specs.declared.rows.Row.TheVariants.{MuxE5, Mux80, MuxF0}
use Rattle.codec_pages.specs.Table.{listed, entry_of, row_of, measurement_row, common}
use Rattle.codec_pages.proofs.Table.{clear, apart, not_listed, six}

-- ---- what one kind alone has

pub row_f0 : row_of Sim100 0xF0 ≡ Ok (listed MuxF0 3 3)
unfolding entry_of
row_f0 = refl

pub row_80 : row_of Sim101 0x80 ≡ Ok (listed Mux80 5 3)
unfolding entry_of
row_80 = refl

-- ---- E0 to E5

pub row_e5 : row_of Sim101 0xE5 ≡ Ok (listed MuxE5 4 3)
unfolding entry_of
row_e5 = refl

pub measured_sim100 : (m : ℕ) → 0xE0 ≤ m → m ≤ 0xE5 → row_of Sim100 m ≡ Ok (listed (measurement_row m) 8 1)
unfolding entry_of
measured_sim100 = six (λ m. row_of Sim100 m ≡ Ok (listed (measurement_row m) 8 1)) refl refl refl refl refl refl

pub measured_sim101 : (m : ℕ) → 0xE0 ≤ m → m ≤ 0xE5 → (m ≡ 0xE5 → ⊥) → row_of Sim101 m ≡ Ok (listed (measurement_row m) 8 3)
unfolding entry_of
measured_sim101 =
    six (λ m. (m ≡ 0xE5 → ⊥) → row_of Sim101 m ≡ Ok (listed (measurement_row m) 8 3))
    (λ n. refl) (λ n. refl) (λ n. refl) (λ n. refl) (λ n. refl) (λ n. absurd (n refl))

-- ---- what no kind has

pub none_at_0 : (k : Kind) → row_of k 0 ≡ Err NotListed
unfolding entry_of
none_at_0 Sim100 = refl
none_at_0 Sim101 = refl

pub none_sim100 : (low high m : ℕ) → T (clear (common Sim100) low high) → low < m → m < high → (m ≡ 0xF0 → ⊥) → row_of Sim100 m ≡ Err NotListed
none_sim100 low high m t h l n = not_listed Sim100 low high m t h l (rw (apart 0xF0 m n) refl)

pub none_sim101 : (low high m : ℕ) → T (clear (common Sim101) low high) → low < m → m < high → (m ≡ 0x80 → ⊥) → row_of Sim101 m ≡ Err NotListed
none_sim101 low high m t h l n = not_listed Sim101 low high m t h l (rw (apart 0x80 m n) refl)
