-- Signed numbers in two's complement, over the width in bits: of the 2 ^ width patterns the lower half stands for itself, the
-- upper half for itself less 2 ^ width. So FF 9C, which is 65436, is minus 100 at 16 bits.
use Rattle.std.specs.Prelude.{ℕ, ◌+◌, ◌-◌, ◌%◌, ◌^◌, Bool, true, false, ltb, ℤ, pos, negsuc}

-- `negsuc k` is minus k minus 1
abbrev pub signed_by : Bool → ℕ → ℕ → ℤ
signed_by true width n = pos n
signed_by false width n = negsuc (2 ^ width - 1 - n)

-- the signed number that a pattern stands for
abbrev pub signed_of : ℕ → ℕ → ℤ
signed_of width n = signed_by (ltb (n + n) (2 ^ width)) width n

-- the pattern of a number: its last bits in two's complement
abbrev pub pattern_of : ℕ → ℤ → ℕ
pattern_of width (pos n) = n % 2 ^ width
pattern_of width (negsuc k) = 2 ^ width - 1 - k % 2 ^ width

-- whether a width holds a number: its magnitude is in the lower half
abbrev pub holds : ℕ → ℤ → Bool
holds width (pos n) = ltb (n + n) (2 ^ width)
holds width (negsuc k) = ltb (k + k) (2 ^ width)

-- whether as many bits, unsigned, hold a number
abbrev pub holds_unsigned : ℕ → ℤ → Bool
holds_unsigned width (pos n) = ltb n (2 ^ width)
holds_unsigned width (negsuc k) = false
