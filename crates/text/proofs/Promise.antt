-- The text crate keeps its promise. Assumes nothing.
use Prim.Native.Nat.{ℕ, zero, suc, ◌+◌, ◌*◌, ◌/◌, ◌%◌, ◌≤◌, ◌<◌, ◌^◌}
use native.Mathlib.Nat.{pow-suc}
use native.Mathlib.Numerals.{add-one}
use native.Mathlib.Omega.{arith}
use mathlib.Core.Path.{◌≡◌, refl, sym, subst, ◌∙◌}
use mathlib.Core.List.{List, [], ◌∷◌, ◌++◌}
use lib.Dec.{ltb}
use lib.ListN.{length, get_or, length-append, get_or-append}
use lib.Seq.{sets-eq}
use borrow.Author.Tests.{lt-ltb, le-ltb, ltb-true, ltb-false}
use Rattle.words.proofs.Tests.{decided}
use Rattle.text.specs.Figures.{figure, hexadecimal, decimal_up_to, decimal}
use Rattle.text.specs.Put.{Put}
use Rattle.text.specs.Promise.{Holds, figure_value, number_from, Promise}
use Rattle.text.proofs.Puts.{given_back}
use Rattle.text.proofs.Put.{sets_out, place_within, kept_length}
use Rattle.text.proofs.Figures.{hexadecimal_length, decimal_length, decimal_below}

-- ---- a text in a buffer

held : (before : List ℕ) (at : ℕ) (text : List ℕ) (next : ℕ) (after : List ℕ) → length before < 2 ^ 64 → Put before at text next after → Holds before at text next after
held before at text next after b x =
    record {
      fits = λ h. (x.holds ∙ sets-eq text before at h, x.goes_on ∙ place_within (at + length text) (let c : length before < 18446744073709551616 = b in omega (arith, h, c)));
      past = λ h. x.holds ∙ sets_out before at text h;
      long = kept_length x;
    }

-- ---- figures

value_figure : (d : ℕ) → d < 16 → figure_value (figure d) ≡ d
value_figure d h =
    decided (ltb d 10)
    (λ t. let small = ltb-true d 10 t in rw (t, lt-ltb (48 + d) 58 (omega (arith, small))) (omega arith))
    (λ t. let large = ltb-false d 10 t in rw (t, le-ltb (55 + d) 58 (omega (arith, large))) (omega arith))

value_digit : (d : ℕ) → d < 10 → figure_value (48 + d) ≡ d
value_digit d h = rw (lt-ltb (48 + d) 58 (omega (arith, h))) (omega arith)

one_more : (base n : ℕ) (t : List ℕ) (c : ℕ) → number_from base n (t ++ (c ∷ [])) ≡ number_from base n t * base + figure_value c
one_more base n [] c = refl
one_more base n (b ∷ t) c = one_more base (n * base + figure_value b) t c

hex_number : (width n : ℕ) → n < 16 ^ width → number_from 16 0 (hexadecimal width n) ≡ n
unfolding hexadecimal
hex_number zero n h = let one : n < 1 = h in omega (arith, one)
hex_number (suc width) n h =
    one_more 16 0 (hexadecimal width (n / 16)) (figure (n % 16))
    ∙ (let rest = hex_number width (n / 16) (omega (arith, h, pow-suc 16 width)) in let last = value_figure (n % 16) (omega arith) in omega (arith, rest, last))

alone : (n : ℕ) → n < 10 → 0 + figure_value (48 + n % 10) ≡ n
alone n h = let digit = value_digit (n % 10) (omega arith) in omega (arith, digit, h)

up_to_number : (k n : ℕ) → n < 10 ^ suc k → number_from 10 0 (decimal_up_to k n) ≡ n
unfolding decimal_up_to
up_to_number zero n h = alone n h
up_to_number (suc k) n h =
    decided (ltb n 10)
    (λ t. rw t (alone n (ltb-true n 10 t)))
    (λ t. rw t
    (one_more 10 0 (decimal_up_to k (n / 10)) (48 + n % 10)
    ∙ (let rest = up_to_number k (n / 10) (omega (arith, h, pow-suc 10 (suc k))) in let last = value_digit (n % 10) (omega arith) in omega (arith, rest, last))))

some_figure : (k n : ℕ) → 1 ≤ length (decimal_up_to k n)
unfolding decimal_up_to
some_figure zero n = omega arith
some_figure (suc k) n = decided (ltb n 10) (λ t. rw t (omega arith)) (λ t. rw t (let l = length-append (decimal_up_to k (n / 10)) ((48 + n % 10) ∷ []) in omega (arith, l)))

first_figure : (k n : ℕ) → 1 ≤ n → n < 10 ^ suc k → get_or (decimal_up_to k n) 0 0 ≡ 48 → ⊥
unfolding decimal_up_to
first_figure zero n a h = λ e. let few : n < 10 = h in omega (arith, few, a, e)
first_figure (suc k) n a h =
    decided (ltb n 10)
    (λ t. rw t (λ e. let few = ltb-true n 10 t in omega (arith, few, a, e)))
    (λ t. rw t (λ e. first_figure k (n / 10) (let many = ltb-false n 10 t in omega (arith, many)) (omega (arith, h, pow-suc 10 (suc k))) (sym (get_or-append (decimal_up_to k (n / 10)) ((48 + n % 10) ∷ []) 0 0 (some_figure k (n / 10))) ∙ e)))

hexadecimal_two : (n : ℕ) → hexadecimal 2 n ≡ figure (n / 16 % 16) ∷ figure (n % 16) ∷ []
unfolding hexadecimal
hexadecimal_two n = refl

hexadecimal_three : (n : ℕ) → hexadecimal 3 n ≡ figure (n / 16 / 16 % 16) ∷ figure (n / 16 % 16) ∷ figure (n % 16) ∷ []
unfolding hexadecimal
hexadecimal_three n = refl

pub promise : Promise
promise =
    record {
      holds = held;
      one = λ before at text next next' after after' x y. (x.goes_on ∙ sym y.goes_on, x.holds ∙ sym y.holds);
      texts = λ lent at begun text put b p. (given_back b p (λ e. refl) refl, p.same ∙ b.same);
      one_text = λ before text text' put x y. (x.there.goes_on ∙ sym y.there.goes_on, x.there.holds ∙ sym y.there.holds);
      hexadecimal_number = hex_number;
      decimal_number = λ n h. up_to_number 9 n (let below : n < 4294967296 = h in omega (arith, below));
      hexadecimal_width = hexadecimal_length;
      hexadecimal_two = hexadecimal_two;
      hexadecimal_three = hexadecimal_three;
      decimal_first = λ n a h. first_figure 9 n a (let below : n < 4294967296 = h in omega (arith, below));
      decimal_width = decimal_length;
      decimal_within = λ k n h. subst (λ (m : ℕ). length (decimal n) ≤ m) (sym (add-one k)) (decimal_below k n (subst (λ (m : ℕ). n < 10 ^ m) (add-one k) h));
    }
