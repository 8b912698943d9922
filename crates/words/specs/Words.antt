-- Words: a row of bytes is a number, in one of two orders. `Big` has the most significant byte first, `Little` the least.
--
--     Big     12 34    is 0x1234
--     Little  34 12    is 0x1234
--
-- Taking a number apart into a row of a given width and putting it together again are inverse (`proofs/Words`).
use Rattle.std.specs.Prelude.{ℕ, zero, suc, ◌+◌, ◌*◌, ◌/◌, ◌%◌, ◌<◌, List, [], ◌∷◌, reverse, get_or}
use Rattle.words.specs.declared.Order.{Order}
use Rattle.words.specs.declared.Order.TheVariants.{Big, Little}

-- the number of a row of bytes, least significant first
abbrev pub from_least : List ℕ → ℕ
from_least [] = 0
from_least (b ∷ bs) = b + 256 * from_least bs

-- the last bytes of a number, as many as the width says, least significant first
abbrev pub least_first : ℕ → ℕ → List ℕ
least_first zero n = []
least_first (suc width) n = n % 256 ∷ least_first width (n / 256)

-- the number of a row of bytes in an order
abbrev pub word_of : Order → List ℕ → ℕ
word_of Little bs = from_least bs
word_of Big bs = from_least (reverse bs)

-- the bytes of a number in an order
abbrev pub bytes_of : Order → ℕ → ℕ → List ℕ
bytes_of Little width n = least_first width n
bytes_of Big width n = reverse (least_first width n)

-- every number of a row is a byte
abbrev pub Bytes : List ℕ → Type 0
Bytes [] = Unit
Bytes (b ∷ bs) = (b < 256) × Bytes bs

-- the bytes from a place on, as many as the width says
abbrev pub part : List ℕ → ℕ → ℕ → List ℕ
part bytes place zero = []
part bytes place (suc width) = get_or bytes place 0 ∷ part bytes (place + 1) width
