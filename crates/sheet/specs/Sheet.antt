-- A sheet: six lines, "nothing after". Which bytes are one, at which line others go wrong, and what reading and writing answer.
use Rattle.std.specs.Prelude.{ℕ, ◌-◌, ◌≤◌, ◌<◌, ◌≡◌, Bool, true, false, ◌&&◌, List, [], ◌∷◌, ◌++◌, take, Result, Ok, Err}
use Rattle.std.specs.List.{concat}
use Rattle.refusal.specs.declared.Refusal.{Refusal}
use Rattle.refusal.specs.declared.Refusal.TheVariants.{WrongSheet}
use Rattle.maintenance_pages.specs.declared.setting.Setting.TheVariants.{ReceiveId, TransmitId, Speed, Voltage, WarningLevel, FaultLevel}
use Rattle.maintenance_pages.specs.declared.setting.Settings.{Settings}
use Rattle.text.specs.Written.{Fitted, NotWritten}
use Rattle.sheet.specs.declared.reading.WrongLine.{WrongLine}
use Rattle.sheet_line.specs.Lines.{line_text, may_hold}

-- ---- the text of settings

abbrev pub lines_of : Settings → List (List ℕ)
lines_of k =
    line_text ReceiveId k.receive
    ∷ line_text TransmitId k.transmit
    ∷ line_text Speed k.speed
    ∷ line_text Voltage k.voltage
    ∷ line_text WarningLevel k.warning
    ∷ line_text FaultLevel k.fault
    ∷ []

-- lines one after another
abbrev pub sheet_text : Settings → List ℕ
sheet_text k = concat (lines_of k)

-- the settings that a sheet may hold
abbrev pub is_legal : Settings → Bool
is_legal k =
    may_hold ReceiveId k.receive
    && may_hold TransmitId k.transmit
    && may_hold Speed k.speed
    && may_hold Voltage k.voltage
    && may_hold WarningLevel k.warning
    && may_hold FaultLevel k.fault

-- the bytes are the sheet of these settings
pub record IsSheet (s : List ℕ) (k : Settings) : Type 0 where
  pub legal : is_legal k ≡ true
  pub same : s ≡ sheet_text k

-- ---- the first line that is wrong

-- some sheet goes on as the bytes do through so many lines, and after the sixth there is nothing
pub record GoesOn (s : List ℕ) (lines : ℕ) : Type 0 where
  pub settings : Settings
  pub rest : List ℕ
  pub legal : is_legal settings ≡ true
  pub same : s ≡ concat (take lines (lines_of settings)) ++ rest
  pub nothing : 6 < lines → rest ≡ []

-- the first line, counted from 1, at which no sheet goes on so
pub record FirstWrong (s : List ℕ) (line : ℕ) : Type 0 where
  pub counted : 1 ≤ line
  pub before : GoesOn s (line - 1)
  pub wrong : GoesOn s line → ⊥

-- ---- the answers

abbrev pub Judges : List ℕ → Result Settings WrongLine → Type 0
Judges s (Ok k) = IsSheet s k
Judges s (Err line) = FirstWrong s line.0

-- "11, order sheet wrong", exactly where the bytes are no sheet
abbrev pub Reads : List ℕ → Result Settings Refusal → Type 0
Reads s (Ok k) = IsSheet s k
Reads s (Err why) = (why ≡ WrongSheet) × ((k : Settings) → IsSheet s k → ⊥)

-- "11 for values no sheet may hold, then 12; bytes after the text are unchanged"
abbrev pub WrittenBy : Bool → Settings → List ℕ → Result ℕ Refusal → List ℕ → Type 0
WrittenBy true k held answer after = Fitted (sheet_text k) held answer after
WrittenBy false k held answer after = NotWritten WrongSheet held answer after

abbrev pub SheetWritten : Settings → List ℕ → Result ℕ Refusal → List ℕ → Type 0
SheetWritten k held answer after = WrittenBy (is_legal k) k held answer after
