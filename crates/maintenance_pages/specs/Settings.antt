-- The six settings: their codes, which values are legal, and which settings power-on accepts.
use Rattle.std.specs.Prelude.{ℕ, Bool, cond, ◌&&◌, ◌||◌, List, [], ◌∷◌, eqb, leb, ltb, Option, Some, None}
use Rattle.maintenance_pages.specs.declared.setting.Setting.{Setting}
use Rattle.maintenance_pages.specs.declared.setting.Setting.TheVariants.{ReceiveId, TransmitId, Speed, Voltage, WarningLevel, FaultLevel}
use Rattle.maintenance_pages.specs.declared.setting.Settings.{Settings}

-- "Codes: 15 receive id and 16 transmit id [..]; 17 speed [..]; 18 voltage [..]; 19 warning and 20 fault level"
abbrev pub code : Setting → ℕ
code ReceiveId = 0x15
code TransmitId = 0x16
code Speed = 0x17
code Voltage = 0x18
code WarningLevel = 0x19
code FaultLevel = 0x20

abbrev pub in_code_order : List Setting
in_code_order = ReceiveId ∷ TransmitId ∷ Speed ∷ Voltage ∷ WarningLevel ∷ FaultLevel ∷ []

abbrev pub setting_in : List Setting → ℕ → Option Setting
setting_in [] c = None
setting_in (s ∷ ss) c = cond (eqb c (code s)) (Some s) (setting_in ss c)

-- the setting whose code this is, if there is one
abbrev pub setting_of : ℕ → Option Setting
setting_of c = setting_in in_code_order c

-- "0 to 0x1FFFFFFF"; "the two values"; "at least 1 and below the rating"; "1 to 2,147,483,647"
abbrev pub legal : ℕ → Setting → ℕ → Bool
legal rating ReceiveId v = leb v 0x1FFFFFFF
legal rating TransmitId v = leb v 0x1FFFFFFF
legal rating Speed v = eqb v 0x00CA0250 || eqb v 0x00CA0500
legal rating Voltage v = leb 1 v && ltb v rating
legal rating WarningLevel v = leb 1 v && leb v 2147483647
legal rating FaultLevel v = leb 1 v && leb v 2147483647

-- "a voltage rating 1 to 65,535"; "identifiers at most 29 bits; speed 0x00CA0250 or 0x00CA0500; voltage 0 up to one below the
-- rating; levels 1 to 2,147,483,647"
abbrev pub accepted : ℕ → Settings → Bool
accepted rating k =
    leb 1 rating
    && legal rating ReceiveId k.receive
    && legal rating TransmitId k.transmit
    && legal rating Speed k.speed
    && ltb k.voltage rating
    && legal rating WarningLevel k.warning
    && legal rating FaultLevel k.fault

abbrev pub value_of : Settings → Setting → ℕ
value_of k ReceiveId = k.receive
value_of k TransmitId = k.transmit
value_of k Speed = k.speed
value_of k Voltage = k.voltage
value_of k WarningLevel = k.warning
value_of k FaultLevel = k.fault

-- the settings with one of them replaced
abbrev pub with_value : Settings → Setting → ℕ → Settings
with_value k ReceiveId v = record { receive = v; transmit = k.transmit; speed = k.speed; voltage = k.voltage; warning = k.warning; fault = k.fault }
with_value k TransmitId v = record { receive = k.receive; transmit = v; speed = k.speed; voltage = k.voltage; warning = k.warning; fault = k.fault }
with_value k Speed v = record { receive = k.receive; transmit = k.transmit; speed = v; voltage = k.voltage; warning = k.warning; fault = k.fault }
with_value k Voltage v = record { receive = k.receive; transmit = k.transmit; speed = k.speed; voltage = v; warning = k.warning; fault = k.fault }
with_value k WarningLevel v = record { receive = k.receive; transmit = k.transmit; speed = k.speed; voltage = k.voltage; warning = v; fault = k.fault }
with_value k FaultLevel v = record { receive = k.receive; transmit = k.transmit; speed = k.speed; voltage = k.voltage; warning = k.warning; fault = v }

-- a speed of 0x00CA0250 is shown as 250, the other as 500
abbrev pub speed_number : ℕ → ℕ
speed_number v = cond (eqb v 0x00CA0250) 250 500
