-- The figures of a number: those of its tenth and one more. Assumes nothing.
use Prim.Native.Nat.{ℕ, zero, suc, ◌+◌, ◌/◌, ◌%◌, ◌≤◌, ◌<◌, ◌^◌}
use native.Mathlib.Nat.{pow-suc}
use native.Mathlib.Omega.{arith}
use mathlib.Core.Path.{◌≡◌, refl, sym, ap, ◌∙◌}
use mathlib.Core.Bool.{Bool, true, cond, not, ◌&&◌}
use mathlib.Core.List.{List, [], ◌∷◌, ◌++◌}
use lib.Dec.{eqb, ltb, lit≤}
use lib.ListN.{length, get_or, length-append}
use mathlib.Core.List.{append_assoc, append-nil}
use borrow.Author.Tests.{lt-ltb, le-ltb, eq-eqb, ne_eqb}
use Rattle.words.proofs.Tests.{by_test, decided, false_true, and_left, and_right, and_true}
use Rattle.text.specs.Figures.{decimal_up_to, decimal, last_figures, hexadecimal, figure, figure_by}

pub one_figure : (n : ℕ) → n < 10 → decimal n ≡ (48 + n % 10) ∷ []
unfolding decimal_up_to
one_figure n h = rw (lt-ltb n 10 h) refl

-- room for more figures than a number has changes nothing
enough : (k n : ℕ) → n < 10 ^ suc k → decimal_up_to k n ≡ decimal_up_to (suc k) n
unfolding decimal_up_to
enough zero n h = rw (lt-ltb n 10 (let g : n < 10 = h in g)) refl
enough (suc k) n h = ap (λ (t : List ℕ). cond (ltb n 10) ((48 + n % 10) ∷ []) (t ++ ((48 + n % 10) ∷ []))) (enough k (n / 10) (omega (arith, pow-suc 10 (suc k))))

pub more_figures : (n : ℕ) → 10 ≤ n → n < 2 ^ 32 → decimal n ≡ decimal (n / 10) ++ ((48 + n % 10) ∷ [])
unfolding decimal_up_to
more_figures n a b = rw (le-ltb n 10 a) (ap (λ (t : List ℕ). t ++ ((48 + n % 10) ∷ [])) (enough 8 (n / 10) (let g : n < 4294967296 = b in omega arith)))

-- ---- the last figures of a number, as many as the width says

some_power : (k : ℕ) → 1 ≤ 10 ^ k
some_power zero = lit≤ tt
some_power (suc k) = let p = pow-suc 10 k in let h = some_power k in omega (arith, p, h)

-- they are all of them
all_figures : (k n : ℕ) → 10 ^ k ≤ n → n < 10 ^ suc k → n < 2 ^ 32 → decimal n ≡ last_figures (suc k) n
all_figures zero n a b c = one_figure n b
all_figures (suc k) n a b c =
    let p = pow-suc 10 k in
    let q = pow-suc 10 (suc k) in
    let h : n < 4294967296 = c in
    let one = some_power k in
    more_figures n (omega (arith, a, p, one)) c ∙ ap (λ (t : List ℕ). t ++ ((48 + n % 10) ∷ [])) (all_figures k (n / 10) (omega (arith, a, p)) (omega (arith, b, q)) (let g : n / 10 < 4294967296 = omega (arith, h) in g))

pub two_figures : (n : ℕ) → 10 ≤ n → n < 100 → decimal n ≡ last_figures 2 n
two_figures n a b = all_figures 1 n a b (omega (arith, b))

pub three_figures : (n : ℕ) → 100 ≤ n → n < 1000 → decimal n ≡ last_figures 3 n
three_figures n a b = all_figures 2 n a b (omega (arith, b))

pub four_figures : (n : ℕ) → 1000 ≤ n → n < 10000 → decimal n ≡ last_figures 4 n
four_figures n a b = all_figures 3 n a b (omega (arith, b))

pub five_figures : (n : ℕ) → 10000 ≤ n → n < 100000 → decimal n ≡ last_figures 5 n
five_figures n a b = all_figures 4 n a b (omega (arith, b))

-- the figures before them, and them
last_more : (k n : ℕ) (t : List ℕ) → 10 ≤ n → n < 2 ^ 32 → t ++ last_figures k (n / 10) ≡ decimal (n / 10) → t ++ last_figures (suc k) n ≡ decimal n
last_more k n t a b q = sym (append_assoc t (last_figures k (n / 10)) ((48 + n % 10) ∷ [])) ∙ ap (λ (u : List ℕ). u ++ ((48 + n % 10) ∷ [])) q ∙ sym (more_figures n a b)

pub five_more : (n : ℕ) → 100000 ≤ n → n < 2 ^ 32 → decimal (n / 100000) ++ last_figures 5 n ≡ decimal n
five_more n a b =
    let h : n < 4294967296 = b in
    ap (λ (m : ℕ). decimal m ++ last_figures 5 n) (let e : n / 100000 ≡ n / 10 / 10 / 10 / 10 / 10 = omega arith in e)
    ∙ last_more 4 n _ (omega (arith, a)) b
    (last_more 3 (n / 10) _ (omega (arith, a)) (let g : n / 10 < 4294967296 = omega (arith, h) in g)
    (last_more 2 (n / 10 / 10) _ (omega (arith, a)) (let g : n / 10 / 10 < 4294967296 = omega (arith, h) in g)
    (last_more 1 (n / 10 / 10 / 10) _ (omega (arith, a)) (let g : n / 10 / 10 / 10 < 4294967296 = omega (arith, h) in g)
    (last_more 0 (n / 10 / 10 / 10 / 10) _ (omega (arith, a)) (let g : n / 10 / 10 / 10 / 10 < 4294967296 = omega (arith, h) in g) (append-nil _)))))

pub same_row : {a a' : ℕ} {t t' : List ℕ} → a ≡ a' → t ≡ t' → a ∷ t ≡ a' ∷ t'
same_row {a} {a'} {t} {t'} p q = ap (λ (x : ℕ). x ∷ t) p ∙ ap (λ (x : List ℕ). a' ∷ x) q

-- each figure by its place
pub by_places : (n : ℕ) → figure (n / 0x10000000 % 16) ∷ figure (n / 0x1000000 % 16) ∷ figure (n / 0x100000 % 16) ∷ figure (n / 0x10000 % 16) ∷ figure (n / 0x1000 % 16) ∷ figure (n / 0x100 % 16) ∷ figure (n / 0x10 % 16) ∷ figure (n % 16) ∷ [] ≡ hexadecimal 8 n
unfolding hexadecimal
by_places n =
    same_row (ap (λ (k : ℕ). figure (k % 16)) (let e : n / 0x10000000 ≡ n / 16 / 16 / 16 / 16 / 16 / 16 / 16 = omega arith in e))
    (same_row (ap (λ (k : ℕ). figure (k % 16)) (let e : n / 0x1000000 ≡ n / 16 / 16 / 16 / 16 / 16 / 16 = omega arith in e))
    (same_row (ap (λ (k : ℕ). figure (k % 16)) (let e : n / 0x100000 ≡ n / 16 / 16 / 16 / 16 / 16 = omega arith in e))
    (same_row (ap (λ (k : ℕ). figure (k % 16)) (let e : n / 0x10000 ≡ n / 16 / 16 / 16 / 16 = omega arith in e))
    (same_row (ap (λ (k : ℕ). figure (k % 16)) (let e : n / 0x1000 ≡ n / 16 / 16 / 16 = omega arith in e))
    (same_row (ap (λ (k : ℕ). figure (k % 16)) (let e : n / 0x100 ≡ n / 16 / 16 = omega arith in e)) refl)))))

-- and all eight taken from their list
pub eight_listed : (f : List ℕ) (n : ℕ) → f ≡ hexadecimal 8 n → get_or f 0 0 ∷ get_or f 1 0 ∷ get_or f 2 0 ∷ get_or f 3 0 ∷ get_or f 4 0 ∷ get_or f 5 0 ∷ get_or f 6 0 ∷ get_or f 7 0 ∷ [] ≡ hexadecimal 8 n
unfolding hexadecimal
eight_listed f n e = ap (λ (g : List ℕ). get_or g 0 0 ∷ get_or g 1 0 ∷ get_or g 2 0 ∷ get_or g 3 0 ∷ get_or g 4 0 ∷ get_or g 5 0 ∷ get_or g 6 0 ∷ get_or g 7 0 ∷ []) e

-- ---- how many figures

one_more : (t : List ℕ) (b : ℕ) → length (t ++ (b ∷ [])) ≡ length t + 1
one_more t b = length-append t (b ∷ [])

pub hexadecimal_length : (w n : ℕ) → length (hexadecimal w n) ≡ w
unfolding hexadecimal
hexadecimal_length zero n = refl
hexadecimal_length (suc w) n =
    one_more (hexadecimal w (n / 16)) (figure (n % 16)) ∙ ap (λ (k : ℕ). k + 1) (hexadecimal_length w (n / 16)) ∙ (let e : w + 1 ≡ suc w = omega arith in e)

ten_at_most : (k n : ℕ) → length (decimal_up_to k n) ≤ suc k
unfolding decimal_up_to
ten_at_most zero n = lit≤ tt
ten_at_most (suc k) n =
    decided (ltb n 10)
    (λ t. rw t (omega arith))
    (λ t. rw t (let l = one_more (decimal_up_to k (n / 10)) (48 + n % 10) in let r = ten_at_most k (n / 10) in omega (arith, l, r)))

pub decimal_length : (n : ℕ) → length (decimal n) ≤ 10
decimal_length n = ten_at_most 9 n

-- a number below a power of ten has no more figures than the power says
few_figures : (k j n : ℕ) → n < 10 ^ suc j → length (decimal_up_to k n) ≤ suc j
unfolding decimal_up_to
few_figures zero j n h = omega arith
few_figures (suc k) zero n h = rw (lt-ltb n 10 h) (lit≤ tt)
few_figures (suc k) (suc j) n h =
    decided (ltb n 10)
    (λ t. rw t (omega arith))
    (λ t. rw t (let l = one_more (decimal_up_to k (n / 10)) (48 + n % 10) in let r = few_figures k j (n / 10) (omega (arith, pow-suc 10 (suc j))) in omega (arith, l, r)))

pub decimal_below : (j n : ℕ) → n < 10 ^ suc j → length (decimal n) ≤ suc j
decimal_below j n h = few_figures 9 j n h

-- ---- which figures

-- a byte that is nowhere in a text
abbrev pub lacks : ℕ → List ℕ → Bool
lacks c [] = true
lacks c (b ∷ bs) = not (eqb b c) && lacks c bs

pub lacks_append : (c : ℕ) (t u : List ℕ) → lacks c t ≡ true → lacks c u ≡ true → lacks c (t ++ u) ≡ true
lacks_append c [] u p q = q
lacks_append c (b ∷ t) u p q = and_true (not (eqb b c)) _ (and_left (not (eqb b c)) _ p) (lacks_append c t u (and_right (not (eqb b c)) _ p) q)

pub lacks_one : (c b : ℕ) → c < b → lacks c (b ∷ []) ≡ true
lacks_one c b h = rw (ne_eqb b c (λ e. omega (arith, h, e))) refl

-- no figure is below 48
pub hexadecimal_lacks : (c w n : ℕ) → c < 48 → lacks c (hexadecimal w n) ≡ true
unfolding hexadecimal
hexadecimal_lacks c zero n h = refl
hexadecimal_lacks c (suc w) n h =
    lacks_append c (hexadecimal w (n / 16)) (figure (n % 16) ∷ []) (hexadecimal_lacks c w (n / 16) h)
    (by_test (ltb (n % 16) 10) (λ (b : Bool). lacks c (figure_by b (n % 16) ∷ []) ≡ true) (lacks_one c (48 + n % 16) (omega (arith, h))) (lacks_one c (55 + n % 16) (omega (arith, h))))

up_to_lacks : (c k n : ℕ) → c < 48 → lacks c (decimal_up_to k n) ≡ true
unfolding decimal_up_to
up_to_lacks c zero n h = lacks_one c (48 + n % 10) (omega (arith, h))
up_to_lacks c (suc k) n h =
    by_test (ltb n 10) (λ (b : Bool). lacks c (cond b ((48 + n % 10) ∷ []) (decimal_up_to k (n / 10) ++ ((48 + n % 10) ∷ []))) ≡ true)
    (lacks_one c (48 + n % 10) (omega (arith, h)))
    (lacks_append c (decimal_up_to k (n / 10)) ((48 + n % 10) ∷ []) (up_to_lacks c k (n / 10) h) (lacks_one c (48 + n % 10) (omega (arith, h))))

pub decimal_lacks : (c n : ℕ) → c < 48 → lacks c (decimal n) ≡ true
decimal_lacks c n h = up_to_lacks c 9 n h

pub lacks_at : {X : Type 0} (c : ℕ) (t : List ℕ) → lacks c t ≡ true → (i : ℕ) → 1 ≤ c → get_or t i 0 ≡ c → X
lacks_at c [] l i one e = absurd (omega (arith, one, e))
lacks_at c (b ∷ t) l zero one e = false_true (sym (sym (ap not (eq-eqb b c e)) ∙ and_left (not (eqb b c)) _ l))
lacks_at c (b ∷ t) l (suc i) one e = lacks_at c t (and_right (not (eqb b c)) _ l) i one e
