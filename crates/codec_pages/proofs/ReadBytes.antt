-- The bytes of a frame that was read: they are the parts that were read of it, and every value fits its field. Assumes nothing.
use Prim.Native.Nat.{ℕ, zero, suc, ◌+◌, ◌-◌, ◌<◌, ◌≤◌}
use mathlib.Core.Path.{◌≡◌, refl, ap, sym, subst, ◌∙◌}
use mathlib.Core.Bool.{true, false, not}
use mathlib.Core.List.{List, [], ◌∷◌, ◌++◌}
use native.Mathlib.Nat.{mod-eq_of_lt}
use native.Mathlib.Numerals.{add-one}
use native.Mathlib.Omega.{arith}
use borrow.Author.Tests.{eqb-true, lt-ltb, le-ltb, not-false}
use lib.Dec.{eqb}
use lib.ListN.{get_or, length, take, replicate}
use Rattle.std.specs.Prelude.{Result, Ok}
use Rattle.refusal.specs.declared.Refusal.{Refusal}
use Rattle.words.proofs.Tests.{or_left, or_right}
use Rattle.words.proofs.Words.{bytes_word}
use Rattle.words.proofs.Signed.{pattern_signed, signed_held}
use Rattle.words.specs.Words.{Bytes, bytes_of}
use Rattle.words.specs.Signed.{pattern_of}
use Rattle.words.specs.declared.Order.TheVariants.{Big}
use Rattle.codec_pages.specs.declared.frame.Frame.{Frame}
use Rattle.codec_pages.specs.declared.rows.Kind.{Kind}
use Rattle.codec_pages.specs.declared.rows.Kind.TheVariants.{Sim100, Sim101}
use Rattle.codec_pages.specs.Frames.{over_identifier, over_limits, not_expected, body_of, frame_of}
use Rattle.codec_pages.specs.Held.{HeldFrame}
use Rattle.codec_pages.specs.Promise.{cleared}
use Rattle.codec_pages.proofs.Limits.{limits}
use Rattle.codec_pages.specs.Table.{part, number_at}
use Rattle.codec_pages.specs.Reports.{voltage_of, estimates_in, voltages_in, battery_in, flags_in}
use Rattle.codec_pages.specs.Building.{voltage_misfit, flags_misfit, estimates_bytes, voltages_raw, battery_raw}

-- ---- part

pub length_part : (b : List ℕ) (place width : ℕ) → length (part b place width) ≡ width
length_part b place zero = refl
length_part b place (suc width) = ap suc (length_part b (place + 1) width)

part_past : (x : ℕ) (b : List ℕ) (place width : ℕ) → part (x ∷ b) (suc place) width ≡ part b place width
part_past x b place zero = refl
part_past x b place (suc width) = rw add-one (ap (λ (l : List ℕ). get_or b place 0 ∷ l) (rw add-one (part_past x b (suc place) width)))

-- the first bytes, one by one
pub take_part : (b : List ℕ) (n : ℕ) → n ≤ length b → take n b ≡ part b 0 n
take_part b zero h = refl
take_part [] (suc n) h = absurd (omega arith)
take_part (x ∷ b) (suc n) h = ap (λ (l : List ℕ). x ∷ l) (take_part b n (omega arith) ∙ sym (part_past x b 0 n))

pub byte_at : (b : List ℕ) → Bytes b → (i : ℕ) → get_or b i 0 < 256
byte_at [] h i = omega arith
byte_at (x ∷ b) h zero = h.0
byte_at (x ∷ b) h (suc i) = byte_at b h.1 i

bytes_part : (b : List ℕ) → Bytes b → (place width : ℕ) → Bytes (part b place width)
bytes_part b h place zero = tt
bytes_part b h place (suc width) = (byte_at b h place, bytes_part b h (place + 1) width)

-- the bytes of the number at a place are those at the place
pub bytes_at : (b : List ℕ) → Bytes b → (place width : ℕ) → bytes_of Big width (number_at b place width) ≡ part b place width
bytes_at b h place width =
    ap (λ (w : ℕ). bytes_of Big w (number_at b place width)) (sym (length_part b place width))
    ∙ bytes_word Big (part b place width) (bytes_part b h place width)

-- ---- what was read fits its field, and its bytes are those that were read

pub number_small : (b : List ℕ) → Bytes b → (place : ℕ) → number_at b place 2 < 65536
number_small b h place = omega (arith, byte_at b h place, byte_at b h (place + 1))

pub voltage_fits : (k : Kind) (n : ℕ) → n < 65536 → voltage_misfit k (voltage_of k n) ≡ false
voltage_fits Sim100 n h = rw (lt-ltb n 65536 h) refl
voltage_fits Sim101 n h = ap not (signed_held 15 n h)

voltage_pattern : (k : Kind) (n : ℕ) → n < 65536 → pattern_of 16 (voltage_of k n) ≡ n
voltage_pattern Sim100 n h = mod-eq_of_lt h
voltage_pattern Sim101 n h = pattern_signed 15 n h

pub flags_fit : (k : Kind) (b : List ℕ) → Bytes b → flags_misfit k (flags_in k b).flags ≡ false
flags_fit Sim100 b h = le-ltb 255 (get_or b 2 0) (omega (arith, byte_at b h 2))
flags_fit Sim101 b h = refl

module _ (b : List ℕ) (h : Bytes b) where
  pub estimates_bytes_lem : (mux : ℕ) → estimates_bytes mux (estimates_in b) ≡ mux ∷ part b 1 7
  estimates_bytes_lem mux =
      ap (λ (x : List ℕ). mux ∷ get_or b 1 0 ∷ (x ++ (get_or b 4 0 ∷ (bytes_of Big 2 (number_at b 5 2) ++ (get_or b 7 0 ∷ []))))) (bytes_at b h 2 2)
      ∙ ap (λ (y : List ℕ). mux ∷ get_or b 1 0 ∷ get_or b 2 0 ∷ get_or b 3 0 ∷ get_or b 4 0 ∷ (y ++ (get_or b 7 0 ∷ []))) (bytes_at b h 5 2)

  pub voltages_raw_lem : (k : Kind) → voltages_raw (voltages_in k b) ≡ estimates_in b
  voltages_raw_lem k =
      rw (voltage_pattern k (number_at b 2 2) (number_small b h 2), voltage_pattern k (number_at b 5 2) (number_small b h 5)) refl

  pub battery_raw_lem : (k : Kind) → battery_raw (battery_in k b) ≡ estimates_in b
  battery_raw_lem k = rw (voltage_pattern k (number_at b 2 2) (number_small b h 2)) refl

-- ---- a frame that was read is extended and on the identifier, which is within the limit

pub record Passed (identifier : ℕ) (f : Frame) : Type 0 where
  pub extended : f.extended ≡ true
  pub same : f.identifier ≡ identifier
  pub low : over_identifier identifier ≡ false

pub passed : (identifier : ℕ) (f : Frame) → over_limits f ≡ false → not_expected identifier f ≡ false → Passed identifier f
passed identifier f h l =
    let x : f.extended ≡ true = not-false f.extended (or_left (not f.extended) (not (eqb f.identifier identifier)) l) in
    let i : f.identifier ≡ identifier = eqb-true f.identifier identifier (not-false (eqb f.identifier identifier) (or_right (not f.extended) (not (eqb f.identifier identifier)) l)) in
    record { extended = x; same = i; low = le-ltb 0x1FFFFFFF identifier (subst (λ (n : ℕ). n ≤ 0x1FFFFFFF) i (((limits f).within h).1.0 x)) }

-- the frame with the first bytes of another and zeros after them is that other, cleared
pub joined : (identifier : ℕ) (f : Frame) (bs : List ℕ) (place : ℕ) → Passed identifier f → f.length ≡ length bs → bs ++ replicate (8 - length bs) 0 ≡ take place f.bytes ++ replicate (8 - place) 0 → ◌≡◌ {A = Result Frame Refusal} (Ok (frame_of identifier (body_of bs))) (Ok (cleared place f))
joined identifier f bs place p n e = rw (p.extended, p.same, n, e) refl

pub first_bytes : (f : Frame) → HeldFrame f → (place : ℕ) → place ≤ 8 → part f.bytes 0 place ++ replicate (8 - length (part f.bytes 0 place)) 0 ≡ take place f.bytes ++ replicate (8 - place) 0
first_bytes f held place h = rw (length_part f.bytes 0 place, take_part f.bytes place (omega (arith, held.eight))) refl
