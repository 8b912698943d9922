-- What the program writes: the sheet; or "`refused`, a space, the number in decimal" and a line that says which line is wrong and what was expected there.
use Rattle.std.specs.Prelude.{ℕ, suc, cond, List, [], ◌∷◌, ◌++◌, eqb, Result, Ok, Err}
use Prim.Native.String.{String}
use Rattle.refusal.specs.declared.Refusal.TheVariants.{WrongSheet}
use Rattle.text.specs.Figures.{decimal}
use Rattle.text.specs.Letters.{letters}
use Rattle.text.specs.Put.{Put}
use Rattle.text.specs.Written.{refused_line}
use Rattle.maintenance_pages.specs.declared.setting.Settings.{Settings}
use Rattle.sheet.specs.declared.reading.WrongLine.{WrongLine}
use Rattle.sheet.specs.Sheet.{sheet_text, Judges}

-- what was expected at a line with a value
abbrev pub valued : String → String → List ℕ
valued name values = letters "'" ++ letters name ++ letters "', one space, " ++ letters values ++ letters ", and a line feed"

-- line by line
abbrev pub sentences : List (List ℕ)
sentences =
    valued "rx" "eight capital hex digits at most 1FFFFFFF"
    ∷ valued "tx" "eight capital hex digits at most 1FFFFFFF"
    ∷ valued "speed" "250 or 500"
    ∷ valued "voltage" "whole volts from 0 to 65534 (no comma or dot, no leading zero)"
    ∷ valued "warning" "whole Ohm/V from 1 to 2147483647 (no comma or dot, no leading zero)"
    ∷ valued "fault" "whole Ohm/V from 1 to 2147483647 (no comma or dot, no leading zero)"
    ∷ []

-- the sentence of a line, where the first is that of line n; past them all there is to be nothing
abbrev pub sentence_from : ℕ → List (List ℕ) → ℕ → List ℕ
sentence_from n [] line = letters "nothing: a sheet has six lines"
sentence_from n (t ∷ ts) line = cond (eqb line n) t (sentence_from (suc n) ts line)

-- what was expected at a line, counted from 1
abbrev pub expected_at : ℕ → List ℕ
expected_at line = sentence_from 1 sentences line

abbrev pub expected_line : ℕ → List ℕ
expected_line line = letters "line " ++ decimal line ++ letters ": expected " ++ expected_at line ++ (10 ∷ [])

abbrev pub output_by : Result Settings WrongLine → List ℕ
output_by (Ok k) = sheet_text k
output_by (Err line) = refused_line WrongSheet ++ expected_line line.0

-- what was judged of the bytes, and its text in a buffer
pub record Outputs (s before : List ℕ) (next : ℕ) (after : List ℕ) : Type 0 where
  pub judged : Result Settings WrongLine
  pub judges : Judges s judged
  pub put : Put before 0 (output_by judged) next after
