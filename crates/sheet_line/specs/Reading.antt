-- A line of a sheet looked for in bytes, from a place on.
use Rattle.std.specs.Prelude.{ℕ, ◌+◌, ◌≤◌, ◌≡◌, true, Option, Some, None, List, ◌++◌, length, drop}
use Rattle.maintenance_pages.specs.declared.setting.Setting.{Setting}
use Rattle.sheet_line.specs.declared.reading.Line.{Line}
use Rattle.sheet_line.specs.Lines.{line_text, may_hold}

-- the line of a value that the setting may hold stands at the place, and the next place is after it
pub record IsLineAt (setting : Setting) (s : List ℕ) (at : ℕ) (line : Line) : Type 0 where
  pub legal : may_hold setting line.value ≡ true
  pub same : drop at s ≡ line_text setting line.value ++ drop line.next s
  pub after : line.next ≡ at + length (line_text setting line.value)
  pub within : line.next ≤ length s

-- the line that stands there; or none does
abbrev pub ReadsLine : Setting → List ℕ → ℕ → Option Line → Type 0
ReadsLine setting s at (Some line) = IsLineAt setting s at line
ReadsLine setting s at None = (line : Line) → IsLineAt setting s at line → ⊥
