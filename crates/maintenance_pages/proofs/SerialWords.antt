-- The serial words: each reply has its four serial bytes, as they stand. Assumes nothing.
use Prim.Native.Nat.{ℕ, zero, suc, ◌+◌, ◌<◌, ◌≤◌}
use mathlib.Core.Path.{◌≡◌, refl, ap, ◌∙◌}
use mathlib.Core.List.{List, [], ◌∷◌}
use lib.Dec.{lit≤}
use lib.ListN.{get_or}
use native.Mathlib.Omega.{arith}
use Rattle.words.specs.declared.Order.TheVariants.{Big}
use Rattle.words.specs.Words.{Bytes}
use Rattle.words.proofs.Words.{bytes_word}
use Rattle.std.specs.Prelude.{Result}
use Rattle.refusal.specs.declared.Refusal.{Refusal}
use Rattle.codec_pages.specs.declared.frame.Frame.{Frame}
use Rattle.codec_pages.specs.declared.rows.Kind.TheVariants.{Sim101}
use Rattle.codec_pages.specs.Table.{part}
use Rattle.codec_pages.proofs.Promise.{promise as codec}
use Rattle.maintenance_pages.specs.declared.message.SerialWord.{SerialWord}
use Rattle.maintenance_pages.specs.declared.message.SerialWord.TheVariants.{First, Second, Third, Last}
use Rattle.maintenance_pages.specs.Messages.{sends, built_frame, says, serial_mux, serial_place, serial_value}
use Rattle.maintenance_pages.specs.Means.{serial_bytes}
use Rattle.maintenance_pages.specs.Promise.{SerialBuilt, SerialWords}

-- the multiplexers of the serial words are among those of one word
listed : (w : SerialWord) → (0x01 ≤ serial_mux w) × (serial_mux w ≤ 0x0B)
listed First = (lit≤ tt, lit≤ tt)
listed Second = (lit≤ tt, lit≤ tt)
listed Third = (lit≤ tt, lit≤ tt)
listed Last = (lit≤ tt, lit≤ tt)

pub serial_built : SerialBuilt
serial_built transmit serial w h =
    ap (λ (b : Result Frame Refusal). sends (built_frame b)) (codec.words_built Sim101 transmit (serial_mux w) (serial_value serial w) h (listed w).0 (listed w).1)

byte_at : (bs : List ℕ) (i : ℕ) → Bytes bs → get_or bs i 0 < 256
byte_at [] i h = omega arith
byte_at (b ∷ bs) zero h = h.0
byte_at (b ∷ bs) (suc i) h = byte_at bs i h.1

four_bytes : (bs : List ℕ) (place : ℕ) → Bytes bs → Bytes (part bs place 4)
four_bytes bs place h = (
  byte_at bs place h,
  (byte_at bs (place + 1) h, (byte_at bs (place + 1 + 1) h, (byte_at bs (place + 1 + 1 + 1) h, tt))),
)

-- the multiplexer and the four bytes at its place
word_bytes_lem : (serial : List ℕ) (w : SerialWord) → (serial_mux w ∷ part serial (serial_place w) 4) ≡ serial_bytes w serial
word_bytes_lem serial First = refl
word_bytes_lem serial Second = refl
word_bytes_lem serial Third = refl
word_bytes_lem serial Last = refl

pub serial_words : SerialWords
serial_words transmit serial w h held =
    serial_built transmit serial w h
    ∙ (ap (λ (bs : List ℕ). says transmit (serial_mux w ∷ bs)) (bytes_word Big (part serial (serial_place w) 4) (four_bytes serial (serial_place w) held))
    ∙ ap (says transmit) (word_bytes_lem serial w))
