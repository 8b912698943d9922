-- Tests taken apart: what holds whichever way a test comes out. Assumes nothing.
use Prim.Native.Nat.{ℕ, ◌<◌, ◌≤◌}
use mathlib.Core.Path.{◌≡◌, refl, sym}
use mathlib.Core.Bool.{Bool, true, false, not, ◌&&◌, ◌||◌}
use mathlib.Core.Logic.{◌↔◌, ◌⊎◌, inl, inr}
use lib.Dec.{eqb, leb, ltb}
use borrow.Author.Tests.{leb-true, le-leb, ltb-true, lt-ltb, eqb-true, eq-eqb}
use native.Mathlib.Omega.{arith}

pub by_test : (b : Bool) (P : Bool → Type 0) → P true → P false → P b
by_test true P p q = p
by_test false P p q = q

pub decided : {P : Type 0} (b : Bool) → (b ≡ true → P) → (b ≡ false → P) → P
decided true p q = p refl
decided false p q = q refl

pub false_true : {X : Type 0} → true ≡ false → X
false_true e = let z : ◌≡◌ {A = ℕ} 0 1 = cc in absurd (omega arith)

pub or_left : (a b : Bool) → (a || b) ≡ false → a ≡ false
or_left true b e = e
or_left false b e = refl

pub or_right : (a b : Bool) → (a || b) ≡ false → b ≡ false
or_right true b e = false_true e
or_right false b e = e

pub and_left : (a b : Bool) → (a && b) ≡ true → a ≡ true
and_left true b e = refl
and_left false b e = e

pub and_right : (a b : Bool) → (a && b) ≡ true → b ≡ true
and_right true b e = e
and_right false b e = false_true (sym e)

pub and_false : (a : Bool) → (a && false) ≡ false
and_false true = refl
and_false false = refl

pub and_true : (a b : Bool) → a ≡ true → b ≡ true → (a && b) ≡ true
and_true true b p q = q
and_true false b p q = p

-- ---- what a test means, in plain words

pub at_most : (a b : ℕ) → leb a b ≡ true ↔ a ≤ b
at_most a b = (leb-true a b, le-leb a b)

pub below : (a b : ℕ) → ltb a b ≡ true ↔ a < b
below a b = (ltb-true a b, lt-ltb a b)

pub equal : (a b : ℕ) → eqb a b ≡ true ↔ a ≡ b
equal a b = (eqb-true a b, eq-eqb a b)

pub is_not : (a : Bool) → not a ≡ true ↔ a ≡ false
is_not true = (λ e. sym e, λ e. sym e)
is_not false = (λ e. refl, λ e. refl)

pub both : {P Q : Type 0} (a b : Bool) → (a ≡ true ↔ P) → (b ≡ true ↔ Q) → (a && b) ≡ true ↔ P × Q
both a b p q = (λ t. (p.0 (and_left a b t), q.0 (and_right a b t)), λ t. and_true a b (p.1 t.0) (q.1 t.1))

pub either : {P Q : Type 0} (a b : Bool) → (a ≡ true ↔ P) → (b ≡ true ↔ Q) → (a || b) ≡ true ↔ P ⊎ Q
either true b p q = (λ t. inl (p.0 refl), λ t. refl)
either {P} {Q} false b p q = (λ t. inr (q.0 t), back)
  where
    back : P ⊎ Q → b ≡ true
    back (inl x) = false_true (sym (p.1 x))
    back (inr y) = q.1 y

-- what is not so is tested false
pub refuted : {P : Type 0} (b : Bool) → (b ≡ true ↔ P) → (P → ⊥) → b ≡ false
refuted true p n = absurd (n (p.0 refl))
refuted false p n = refl
