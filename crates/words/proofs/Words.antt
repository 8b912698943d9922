-- Words: taking a number apart and putting it together are inverse, at every width and in both orders. Assumes nothing.
use Prim.Native.Nat.{ℕ, zero, suc, ◌+◌, ◌*◌, ◌/◌, ◌%◌, ◌^◌, ◌<◌}
use mathlib.Core.Path.{◌≡◌, refl, ap, sym, ◌∙◌}
use mathlib.Core.List.{List, [], ◌∷◌, reverse, reverse_aux, reverse-reverse}
use native.Mathlib.Nat.{pow-suc}
use native.Mathlib.Omega.{arith}
use lib.ListN.{length, get_or, length-reverse}
use Rattle.words.specs.Words.{from_least, least_first, word_of, bytes_of, Bytes, part}
use Rattle.words.specs.declared.Order.{Order}
use Rattle.words.specs.declared.Order.TheVariants.{Big, Little}

-- ---- from_least, least_first

least_back : (width n : ℕ) → n < 256 ^ width → from_least (least_first width n) ≡ n
least_back zero n h = omega arith
least_back (suc width) n h =
    rw (least_back width (n / 256) (omega (arith, pow-suc 256 width))) (omega arith)

first_back : (bs : List ℕ) → Bytes bs → least_first (length bs) (from_least bs) ≡ bs
first_back [] h = refl
first_back (b ∷ bs) h =
    let low : (b + 256 * from_least bs) % 256 ≡ b = omega arith in
    let rest : (b + 256 * from_least bs) / 256 ≡ from_least bs = omega arith in
    rw (low, rest, first_back bs h.1) refl

-- ---- Bytes

bytes_turned : (bs cs : List ℕ) → Bytes bs → Bytes cs → Bytes (reverse_aux bs cs)
bytes_turned [] cs h k = k
bytes_turned (b ∷ bs) cs h k = bytes_turned bs (b ∷ cs) h.1 (h.0, k)

-- ---- word_of, bytes_of

-- a number that the width holds comes back from its bytes
pub word_bytes_lem : (o : Order) (width n : ℕ) → n < 256 ^ width → word_of o (bytes_of o width n) ≡ n
word_bytes_lem Little width n h = least_back width n h
word_bytes_lem Big width n h = ap from_least (reverse-reverse (least_first width n)) ∙ least_back width n h

-- a row of bytes comes back from its number
pub bytes_word : (o : Order) (bs : List ℕ) → Bytes bs → bytes_of o (length bs) (word_of o bs) ≡ bs
bytes_word Little bs h = first_back bs h
bytes_word Big bs h =
    ap (λ (w : ℕ). reverse (least_first w (from_least (reverse bs)))) (sym (length-reverse bs))
    ∙ ap reverse (first_back (reverse bs) (bytes_turned bs [] h tt))
    ∙ reverse-reverse bs

-- ---- part

-- a row that has the bytes from a place on is the part there
pub part_read : (width : ℕ) (bs bytes : List ℕ) (place : ℕ) → length bs ≡ width → ((k : ℕ) → k < width → get_or bs k 0 ≡ get_or bytes (place + k) 0) → bs ≡ part bytes place width
part_read zero [] bytes place e h = refl
part_read zero (b ∷ bs) bytes place e h = absurd (omega arith)
part_read (suc width) [] bytes place e h = absurd (omega arith)
part_read (suc width) (b ∷ bs) bytes place e h =
    let here : place + 0 ≡ place = omega arith in
    let first : b ≡ get_or bytes place 0 = h 0 (omega arith) ∙ ap (λ (p : ℕ). get_or bytes p 0) here in
    let rest : bs ≡ part bytes (place + 1) width = part_read width bs bytes (place + 1) (omega arith) (λ k l. let on : place + suc k ≡ place + 1 + k = omega arith in h (suc k) (omega arith) ∙ ap (λ (p : ℕ). get_or bytes p 0) on) in
    rw (first, rest) refl
