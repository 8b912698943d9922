-- The lines of a sheet, "in this order: rx, tx, speed, voltage, warning, fault; each the name, one space, the value, a line feed". 32 is a space, 10 a line feed.
use Rattle.std.specs.Prelude.{ℕ, Bool, ◌&&◌, ◌||◌, List, [], ◌∷◌, ◌++◌, eqb, leb}
use Rattle.maintenance_pages.specs.declared.setting.Setting.{Setting}
use Rattle.maintenance_pages.specs.declared.setting.Setting.TheVariants.{ReceiveId, TransmitId, Speed, Voltage, WarningLevel, FaultLevel}
use Rattle.maintenance_pages.specs.Settings.{speed_number}
use Rattle.text.specs.Figures.{hexadecimal, decimal}
use Rattle.text.specs.Letters.{letters}

abbrev pub name_of : Setting → List ℕ
name_of ReceiveId = letters "rx"
name_of TransmitId = letters "tx"
name_of Speed = letters "speed"
name_of Voltage = letters "voltage"
name_of WarningLevel = letters "warning"
name_of FaultLevel = letters "fault"

-- "eight capital hex digits"; "250 or 500"; "decimal, no leading zero"
abbrev pub figures_of : Setting → ℕ → List ℕ
figures_of ReceiveId v = hexadecimal 8 v
figures_of TransmitId v = hexadecimal 8 v
figures_of Speed v = decimal (speed_number v)
figures_of Voltage v = decimal v
figures_of WarningLevel v = decimal v
figures_of FaultLevel v = decimal v

unfoldable pub line_text : Setting → ℕ → List ℕ
line_text setting v = name_of setting ++ (32 ∷ figures_of setting v) ++ (10 ∷ [])

-- "at most 1FFFFFFF"; "speed 250 or 500"; "voltage 0 to 65534"; "levels 1 to 2147483647"
abbrev pub may_hold : Setting → ℕ → Bool
may_hold ReceiveId v = leb v 0x1FFFFFFF
may_hold TransmitId v = leb v 0x1FFFFFFF
may_hold Speed v = eqb v 0x00CA0250 || eqb v 0x00CA0500
may_hold Voltage v = leb v 65534
may_hold WarningLevel v = leb 1 v && leb v 2147483647
may_hold FaultLevel v = leb 1 v && leb v 2147483647

-- the longest line of each setting, in bytes
abbrev pub longest_of : Setting → ℕ
longest_of ReceiveId = 12
longest_of TransmitId = 12
longest_of Speed = 10
longest_of Voltage = 14
longest_of WarningLevel = 19
longest_of FaultLevel = 17
