-- Conditions in order: the first that holds gives its refusal. Assumes nothing.
use Prim.Native.Nat.{ℕ}
use mathlib.Core.Path.{◌≡◌, refl, sym, ◌∙◌}
use mathlib.Core.Bool.{Bool, true, false, cond}
use mathlib.Core.List.{List, [], ◌∷◌}
use mathlib.Core.Logic.{◌↔◌, inl, inr}
use native.Mathlib.Omega.{arith}
use Rattle.std.specs.Prelude.{Ok, Err}
use Rattle.refusal.specs.declared.Refusal.{Refusal}
use Rattle.refusal.specs.Conditions.{Condition, First, NoneHolds, Told, refusal, good, GivenExactly}

abbrev pub pick : {A : Type 0} → List Condition → A → Told A
pick [] a = good a
pick (c ∷ cs) a = cond c.holds (refusal c.number) (pick cs a)

pub pick_none : {A : Type 0} (cs : List Condition) (a : A) → NoneHolds cs → pick cs a ≡ good a
pick_none [] a h = refl
pick_none (c ∷ cs) a h = rw h.0 (pick_none cs a h.1)

decided : {P : Type 0} (b : Bool) → (b ≡ true → P) → (b ≡ false → P) → P
decided true p q = p refl
decided false p q = q refl

first_of : {A : Type 0} (cs : List Condition) (a : A) (n : ℕ) → pick cs a ≡ refusal n → First n cs
first_of [] a n e = let z : ◌≡◌ {A = ℕ} 0 1 = cc in absurd (omega arith)
first_of {A = A} (c ∷ cs) a n e =
    decided c.holds
    (λ t. let q : ◌≡◌ {A = Told A} (refusal c.number) (refusal n) = rw t at e in inl (t, (cc)))
    (λ f. inr (f, first_of cs a n (rw f at e)))

of_first : {A : Type 0} (cs : List Condition) (a : A) (n : ℕ) → First n cs → pick cs a ≡ refusal n
of_first [] a n h = absurd h
of_first (c ∷ cs) a n (inl h) = rw (h.0, h.1) refl
of_first (c ∷ cs) a n (inr h) = rw h.0 (of_first cs a n h.1)

-- a refusal is picked exactly when its condition is the first that holds
pub pick_exactly : {A : Type 0} (cs : List Condition) (a : A) (n : ℕ) → pick cs a ≡ refusal n ↔ First n cs
pick_exactly cs a n = (first_of cs a n, of_first cs a n)

-- where a condition is the first that holds, not none holds
pub first_not_none : (n : ℕ) (cs : List Condition) → First n cs → NoneHolds cs → ⊥
first_not_none n [] h l = h
first_not_none n (c ∷ cs) (inl h) l = let e : true ≡ false = sym h.0 ∙ l.0 in let z : ◌≡◌ {A = ℕ} 0 1 = cc in absurd (omega arith)
first_not_none n (c ∷ cs) (inr h) l = first_not_none n cs h.1 l.1

-- what is picked from the conditions is answered or refused as they say
pub given_exactly : {A : Type 0} (told : Told A) (cs : List Condition) (a : A) → told ≡ pick cs a → GivenExactly told cs a
given_exactly told cs a e =
    record { refused = λ n. rw e (pick_exactly cs a n); otherwise = λ h. e ∙ pick_none cs a h }

-- what is refused is not good
pub not_good : {A X : Type 0} (why : Refusal) (a : A) → Err why ≡ Ok a → X
not_good why a e = let z : ◌≡◌ {A = ℕ} 0 1 = cc in absurd (omega arith)
