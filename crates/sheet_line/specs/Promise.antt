-- What the crate of a sheet's lines promises. `proofs/Promise` proves it.
use Rattle.std.specs.Prelude.{ℕ, ◌≤◌, ◌≡◌, true, Option, Some, List, ◌++◌, length, get_or, drop, ◌↔◌, ◌⊎◌}
use Rattle.maintenance_pages.specs.declared.setting.Setting.{Setting}
use Rattle.maintenance_pages.specs.declared.setting.Setting.TheVariants.{ReceiveId, TransmitId, Speed, Voltage, WarningLevel, FaultLevel}
use Rattle.sheet_line.specs.declared.reading.Line.{Line}
use Rattle.sheet_line.specs.Lines.{line_text, may_hold, longest_of}
use Rattle.sheet_line.specs.Reading.{ReadsLine}

-- "at most 1FFFFFFF"; "speed 250 or 500"; "voltage 0 to 65534"; "levels 1 to 2147483647"
abbrev pub MayHold : Setting → ℕ → Type 0
MayHold ReceiveId v = v ≤ 0x1FFFFFFF
MayHold TransmitId v = v ≤ 0x1FFFFFFF
MayHold Speed v = (v ≡ 0x00CA0250) ⊎ (v ≡ 0x00CA0500)
MayHold Voltage v = v ≤ 65534
MayHold WarningLevel v = (1 ≤ v) × (v ≤ 2147483647)
MayHold FaultLevel v = (1 ≤ v) × (v ≤ 2147483647)

pub record Promise : Type 0 where
  -- what a line may hold, in plain numbers
  pub may_hold_lem : (setting : Setting) (v : ℕ) → may_hold setting v ≡ true ↔ MayHold setting v
  -- two lines of a setting, whatever follows them: the same value, and the same after
  pub apart : (setting : Setting) (v w : ℕ) (rest rest' : List ℕ) → may_hold setting v ≡ true → may_hold setting w ≡ true → line_text setting v ++ rest ≡ line_text setting w ++ rest' → (v ≡ w) × (rest ≡ rest')
  -- no line has a comma or a dot
  pub comma_or_dot : (setting : Setting) (v i : ℕ) → (get_or (line_text setting v) i 0 ≡ 44) ⊎ (get_or (line_text setting v) i 0 ≡ 46) → ⊥
  pub bound : (setting : Setting) (v : ℕ) → may_hold setting v ≡ true → length (line_text setting v) ≤ longest_of setting
  -- wherever the line of a value that it may hold stands, it is read, with what follows it
  pub found : (setting : Setting) (s : List ℕ) (at : ℕ) (r : Option Line) → ReadsLine setting s at r → (v : ℕ) (rest : List ℕ) → may_hold setting v ≡ true → drop at s ≡ line_text setting v ++ rest → (line : Line) × (r ≡ Some line) × (line.value ≡ v) × (drop line.next s ≡ rest)
  -- one outcome only
  pub one : (setting : Setting) (s : List ℕ) (at : ℕ) (r r' : Option Line) → ReadsLine setting s at r → ReadsLine setting s at r' → r ≡ r'
