-- `sheet_line::number::number` meets its contract: the figures before the line feed, one by one. Assumes nothing.
use Rattle.std.proofs.Common.{arith, sym, subst, ap, ◌≡◌, ℕ, ◌+◌, ◌*◌, get_or}
use Rattle.std.specs.Char.{digit_value}
use Rattle.sheet_line.specs.Number.{base_of}
use Rattle.sheet_line.proofs.Numbers.{Counting, feed_counts, other_counts, large_counts, counting_more, base_within}
use Rattle.sheet_line.proofs.number.number.Goals as goal

pub returns-then-byte-eq10 : goal.returns-then-byte-eq10
returns-then-byte-eq10 c = feed_counts (base_of c.args.setting) c.args.s.now c.loop-byte.byte-index c.loop-byte.n (base_within c.args.setting) c.loop-byte.invariant c.if-byte-eq10.true

pub returns-in_err-figure : goal.returns-in_err-figure
returns-in_err-figure c =
    let base = c.base_of-base.ensures.base in
    let digit = ap digit_value c.from.ensures in
    let none = c.in_err-figure.ensures.value in
    rw c.from_residual.ensures (other_counts (base_of c.args.setting) c.args.s.now c.loop-byte.byte-index c.loop-byte.n (base_within c.args.setting) c.loop-byte.invariant c.if-byte-eq10.false (omega (arith, base, digit, none)))

pub returns-in_err-checked_mul : goal.returns-in_err-checked_mul
returns-in_err-checked_mul c =
    let base = c.base_of-base.ensures in
    let some = base.least in
    let product = ap (λ (b : ℕ). c.loop-byte.n * b) base.base in
    let none = c.in_err-checked_mul.ensures in
    rw c.from_residual-in_err-checked_mul.ensures (large_counts (base_of c.args.setting) c.args.s.now c.loop-byte.byte-index c.loop-byte.n (base_within c.args.setting) c.loop-byte.invariant (let e = base.base in omega (arith, e, some)) c.if-byte-eq10.false (omega (arith, product, none)))

pub returns-in_err-n : goal.returns-in_err-n
returns-in_err-n c =
    let base = c.base_of-base.ensures in
    let some = base.least in
    let product = ap (λ (b : ℕ). c.loop-byte.n * b) base.base in
    let digit = ap digit_value c.from.ensures in
    let is_product = c.in_ok-checked_mul.ensures.1 in
    let is_digit = c.in_ok-figure.ensures.value.1 in
    let none = c.in_err-n.ensures in
    rw c.from_residual-in_err-n.ensures (large_counts (base_of c.args.setting) c.args.s.now c.loop-byte.byte-index c.loop-byte.n (base_within c.args.setting) c.loop-byte.invariant (let e = base.base in omega (arith, e, some)) c.if-byte-eq10.false
    (omega (arith, product, digit, is_product, is_digit, none)))

pub loop-byte-preserved : goal.loop-byte-preserved
loop-byte-preserved c =
    let base = c.base_of-base.ensures.base in
    let product = ap (λ (b : ℕ). c.loop-byte.n * b) base in
    let digit = ap digit_value c.from.ensures in
    let is_product = c.in_ok-checked_mul.ensures.1 in
    let small = c.in_ok-figure.ensures.value.0 in
    let is_digit = c.in_ok-figure.ensures.value.1 in
    let is_sum = c.in_ok-n.ensures.1 in
    let sum : c.in_ok-n.n ≡ c.loop-byte.n * base_of c.args.setting + digit_value (get_or c.args.s.now c.loop-byte.byte-index 0) = omega (arith, product, digit, is_product, is_digit, is_sum) in
    subst (λ (m : ℕ). Counting (base_of c.args.setting) c.args.s.now (c.loop-byte.byte-index + 1) m) (sym sum)
    (counting_more (base_of c.args.setting) c.args.s.now c.loop-byte.byte-index c.loop-byte.n (base_within c.args.setting) c.loop-byte.invariant c.if-byte-eq10.false (omega (arith, base, digit, small)))
