-- Refusals in order: "Given exactly when", and 1 before 2 before 3. What a call tells on paper is a refusal's number or a good value.
use Rattle.std.specs.Prelude.{ℕ, ◌≡◌, Bool, true, false, List, [], ◌∷◌, ◌↔◌, ◌⊎◌, Result, Ok, Err}
use Rattle.refusal.specs.declared.Refusal.{Refusal}
use Rattle.refusal.specs.Refusals.{number_of}

pub record Condition : Type 0 where
  pub number : ℕ
  pub holds : Bool

infix 20 ◌when◌
abbrev pub ◌when◌ : ℕ → Bool → Condition
number when test = record { number = number; holds = test }

-- the condition of n holds and none before it
abbrev pub First : ℕ → List Condition → Type 0
First n [] = ⊥
First n (c ∷ cs) = ((c.holds ≡ true) × (n ≡ c.number)) ⊎ ((c.holds ≡ false) × First n cs)

-- no condition holds
abbrev pub NoneHolds : List Condition → Type 0
NoneHolds [] = Unit
NoneHolds (c ∷ cs) = (c.holds ≡ false) × NoneHolds cs

pub data Told (A : Type 0) : Type 0 where
  refusal : ℕ → Told A
  good : A → Told A

-- a call that answers or refuses: the good value by its values on paper, the refusal by its number
abbrev pub told : {A B : Type 0} → (A → B) → Result A Refusal → Told B
told values (Ok a) = good (values a)
told values (Err why) = refusal (number_of why)

-- "Given exactly when": what is told is refusal n exactly when the condition of n holds and none before it; where none holds it is
-- the good value.
pub record GivenExactly {A : Type 0} (told : Told A) (cs : List Condition) (value : A) : Type 0 where
  pub refused : (n : ℕ) → told ≡ refusal n ↔ First n cs
  pub otherwise : NoneHolds cs → told ≡ good value
