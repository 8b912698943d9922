-- No two refusals have the same number. Assumes nothing.
use Prim.Native.Nat.{ℕ}
use mathlib.Core.Path.{◌≡◌, refl, ap, sym, ◌∙◌}
use mathlib.Core.List.{List, [], ◌∷◌}
use lib.ListN.{get_or}
use Rattle.refusal.specs.declared.Refusal.{Refusal}
use Rattle.refusal.specs.declared.Refusal.TheVariants.{OverLimits, NotExpected, NotListed, WrongLength, WrongStatus, DoesNotFit, EarlyStamp, NotLegal, WrongLog, WrongRecord, WrongSheet, ShortBuffer}
use Rattle.refusal.specs.Refusals.{number_of}

-- the refusals, each at its number; there is no refusal 0
abbrev listed : List Refusal
listed = OverLimits ∷ OverLimits ∷ NotExpected ∷ NotListed ∷ WrongLength ∷ WrongStatus ∷ DoesNotFit ∷ EarlyStamp ∷ NotLegal ∷ WrongLog ∷ WrongRecord ∷ WrongSheet ∷ ShortBuffer ∷ []

at_number : (r : Refusal) → get_or listed (number_of r) OverLimits ≡ r
at_number OverLimits = refl
at_number NotExpected = refl
at_number NotListed = refl
at_number WrongLength = refl
at_number WrongStatus = refl
at_number DoesNotFit = refl
at_number EarlyStamp = refl
at_number NotLegal = refl
at_number WrongLog = refl
at_number WrongRecord = refl
at_number WrongSheet = refl
at_number ShortBuffer = refl

pub told_apart : (a b : Refusal) → number_of a ≡ number_of b → a ≡ b
told_apart a b e = sym (at_number a) ∙ ap (λ (n : ℕ). get_or listed n OverLimits) e ∙ at_number b
