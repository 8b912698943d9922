-- The refusals of document 01, "Refusal numbers": a number for each, and no two with the same (`proofs/Refusals`).
use Rattle.std.specs.Prelude.{ℕ}
use Rattle.refusal.specs.declared.Refusal.{Refusal}
use Rattle.refusal.specs.declared.Refusal.TheVariants.{OverLimits, NotExpected, NotListed, WrongLength, WrongStatus, DoesNotFit, EarlyStamp, NotLegal, WrongLog, WrongRecord, WrongSheet, ShortBuffer}

abbrev pub number_of : Refusal → ℕ
number_of OverLimits = 1
number_of NotExpected = 2
number_of NotListed = 3
number_of WrongLength = 4
number_of WrongStatus = 5
number_of DoesNotFit = 6
number_of EarlyStamp = 7
number_of NotLegal = 8
number_of WrongLog = 9
number_of WrongRecord = 10
number_of WrongSheet = 11
number_of ShortBuffer = 12
