-- Signed numbers: a pattern and its signed number are inverse, at every width. Assumes nothing.
use Prim.Native.Nat.{ℕ, suc, ◌+◌, ◌*◌, ◌-◌, ◌%◌, ◌^◌, ◌<◌, ◌≤◌}
use mathlib.Core.Path.{◌≡◌, refl, ap, ◌∙◌}
use mathlib.Core.Bool.{Bool, true, not}
use native.Mathlib.Nat.{pow-suc, mod-eq_of_lt, mod-lt}
use native.Mathlib.Omega.{arith}
use borrow.Author.Tests.{lt-ltb, le-ltb, lt-leb, le-leb, ltb-true, ltb-false}
use lib.Dec.{leb, ltb}
use lib.IntN.{ℤ, pos, negsuc}
use lib.Signed.{mag}
use lib.Pow.{pow_pos}
use mir.Syntax.{w32}
use mir.Facts.{to_z-of_z}
use mir.Val.{to_z, of_z}
use Rattle.words.proofs.Tests.{by_test, decided}
use Rattle.words.specs.Signed.{signed_of, signed_by, pattern_of, holds}

-- ---- signed_of

lower : (width n : ℕ) → n + n < 2 ^ width → signed_of width n ≡ pos n
lower width n h = rw (lt-ltb (n + n) (2 ^ width) h)

upper : (width n : ℕ) → 2 ^ width ≤ n + n → signed_of width n ≡ negsuc (2 ^ width - 1 - n)
upper width n h = rw (le-ltb (n + n) (2 ^ width) h)

-- ---- signed_of, pattern_of. The width is one more than `w`: no number of no bits is negative

-- a number that the width holds comes back from its pattern
pub signed_pattern : (w : ℕ) (z : ℤ) → holds (suc w) z ≡ true → signed_of (suc w) (pattern_of (suc w) z) ≡ z
signed_pattern w (pos n) h =
    let k : n + n < 2 ^ suc w = ltb-true (n + n) (2 ^ suc w) h in
    let e : n % 2 ^ suc w ≡ n = mod-eq_of_lt (omega arith) in
    rw e (lower (suc w) n k)
signed_pattern w (negsuc m) h =
    let k : m + m < 2 ^ suc w = ltb-true (m + m) (2 ^ suc w) h in
    let e : m % 2 ^ suc w ≡ m = mod-eq_of_lt (omega arith) in
    let p : 2 ^ suc w ≡ 2 ^ w * 2 = pow-suc 2 w in
    rw e (upper (suc w) (2 ^ suc w - 1 - m) (omega arith) ∙ ap negsuc (omega arith))

-- a pattern of the width comes back from its number
pub pattern_signed : (w n : ℕ) → n < 2 ^ suc w → pattern_of (suc w) (signed_of (suc w) n) ≡ n
pattern_signed w n h =
    by_test (ltb (n + n) (2 ^ suc w)) (λ (t : Bool). pattern_of (suc w) (signed_by t (suc w) n) ≡ n)
    (mod-eq_of_lt h)
    (let e : (2 ^ suc w - 1 - n) % 2 ^ suc w ≡ 2 ^ suc w - 1 - n = mod-eq_of_lt (omega arith) in rw e (omega arith))

-- the number of a pattern of the width is one that the width holds
pub signed_held : (w n : ℕ) → n < 2 ^ suc w → holds (suc w) (signed_of (suc w) n) ≡ true
signed_held w n h =
    decided (ltb (n + n) (2 ^ suc w))
    (λ t. rw (t, t) refl)
    (λ t. let p : 2 ^ suc w ≡ 2 ^ w * 2 = pow-suc 2 w in
    rw t (lt-ltb (2 ^ suc w - 1 - n + (2 ^ suc w - 1 - n)) (2 ^ suc w) (omega (arith, ltb-false (n + n) (2 ^ suc w) t))))

pub pattern_fits : (width : ℕ) (z : ℤ) → pattern_of width z < 2 ^ width
pattern_fits width (pos n) = mod-lt n (pow_pos width)
pattern_fits width (negsuc k) = omega (arith, pow_pos width)

-- a signed number that a call answered is the number that its bits stand for
pub kept : (z : ℤ) → mag z < 2 ^ 31 → to_z w32 (of_z w32 z) ≡ z
kept z h = to_z-of_z {w = w32} (record { sfits = h })

-- ---- a limit, tested from either side

pub over : (h n : ℕ) → leb h n ≡ not (ltb n h)
over h n =
    decided (ltb n h)
    (λ t. rw (t, lt-leb h n (ltb-true n h t)))
    (λ f. rw (f, le-leb h n (ltb-false n h f)))
