-- What one read after another put into a buffer is what they consumed. Assumes nothing.
use Rattle.std.proofs.Common.{ℕ, ◌+◌, ◌≤◌, List, ◌++◌, length, take, drop, sym, ap, subst, ◌∙◌, le_refl, drop_at, length-take-le}
use Rattle.std.specs.Prelude.{Option}
use Rattle.std.specs.Io.KnownBytes.{Consumes}
use Rattle.std.proofs.KnownBytes.{Consumes-trans}
use Rattle.std.proofs.lemmas.Slice.{take-put_mid_below}
use borrow.Rule.Slice.PartMut.{put_mid, post_of}
use lib.Seq.{take-add, take-append-le}

-- n bytes stand at the front of xs, and m at the front of ys, which is put behind them
pub filled : (a b c : Option (List ℕ)) (n k m : ℕ) (xs ys : List ℕ) → n ≤ length xs → m ≤ length ys
    → Consumes a b (take n xs) → Consumes b c (take m ys) → Consumes a c (take (n + m) (put_mid n k xs ys))
filled a b c n k m xs ys within fits first second =
    let after = post_of n k xs in
    let front = take-put_mid_below n k xs ys n (le_refl n) within in
    let part = ap (take m) (drop_at (take n xs) (ys ++ after) n (length-take-le n xs within)) ∙ take-append-le m ys after fits in
    let joined = take-add n m (put_mid n k xs ys) ∙ ap (λ l. l ++ take m (drop n (put_mid n k xs ys))) front ∙ ap (λ l. take n xs ++ l) part in
    subst (Consumes a c) (sym joined) (Consumes-trans a b c _ _ first second)
