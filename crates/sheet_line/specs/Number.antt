-- How the value of a line is looked for. None of it has to be believed: what is found is written back and compared with the line.
use Rattle.std.specs.Prelude.{ℕ, ◌+◌, ◌^◌, ◌<◌, ◌≡◌, Some, None, Option, cond, List, ◌∷◌, ◌++◌, eqb, length}
use Rattle.std.specs.Char.{digit_value}
use Rattle.std.specs.Str.Parse.{AllDigits, IsNumeral, digits_value}
use Rattle.maintenance_pages.specs.declared.setting.Setting.{Setting}
use Rattle.maintenance_pages.specs.declared.setting.Setting.TheVariants.{ReceiveId, TransmitId, Speed, Voltage, WarningLevel, FaultLevel}
use Rattle.sheet_line.specs.Lines.{name_of}

-- identifiers are hexadecimal, all else is decimal
abbrev pub base_of : Setting → ℕ
base_of ReceiveId = 16
base_of TransmitId = 16
base_of Speed = 10
base_of Voltage = 10
base_of WarningLevel = 10
base_of FaultLevel = 10

-- the place of the figures in a line: after the name and one space
abbrev pub width_of : Setting → ℕ
width_of setting = length (name_of setting) + 1

-- the value that is shown as a number
abbrev pub speed_for : ℕ → ℕ
speed_for n = cond (eqb n 250) 0x00CA0250 0x00CA0500

abbrev pub value_for : Setting → ℕ → ℕ
value_for ReceiveId n = n
value_for TransmitId n = n
value_for Speed n = speed_for n
value_for Voltage n = n
value_for WarningLevel n = n
value_for FaultLevel n = n

-- the number of the figures before the first line feed, where a number of 32 bits stands there, and none where another byte stands
-- before it
pub record Counts (base : ℕ) (t : List ℕ) (found : Option ℕ) : Type 0 where
  pub counted : (figures rest : List ℕ) → IsNumeral base figures → digits_value base figures < 2 ^ 32 → t ≡ figures ++ (10 ∷ rest) → found ≡ Some (digits_value base figures)
  pub other : (figures rest : List ℕ) (c : ℕ) → AllDigits base figures → (c ≡ 10 → ⊥) → (digit_value c < base → ⊥) → t ≡ figures ++ (c ∷ rest) → found ≡ None
