-- The answers of docs/SHEET_CASES.md, "An answer".
use Rattle.std.specs.Prelude.{ℕ, ◌%◌, Result, Ok, Err, List, [], ◌∷◌, ◌++◌}
use Rattle.refusal.specs.declared.Refusal.{Refusal}
use Rattle.refusal.specs.Refusals.{number_of}
use Rattle.text.specs.Figures.{hexadecimal, decimal}
use Rattle.text.specs.Letters.{letters}
use Rattle.codec_pages.specs.Table.{number_at}
use Rattle.maintenance_pages.specs.declared.setting.Settings.{Settings}
use Rattle.sheet.specs.declared.reading.WrongLine.{WrongLine}
use Rattle.sheet.specs.Sheet.{Reads, Judges}
use Rattle.show.specs.declared.Line.{Line}
use Rattle.show.specs.Lines.{Adds, line_feed, value_text, refused_text}

-- "each in eight capital hexadecimal digits after one space"
abbrev pub setting_text : ℕ → List ℕ
setting_text n = (32 ∷ []) ++ hexadecimal 8 n

-- "`sheet` and the six settings in the order of the lines"
abbrev pub sheet_line : Settings → List ℕ
sheet_line k =
    letters "sheet" ++ (setting_text k.receive ++ (setting_text k.transmit ++ (setting_text k.speed ++ (setting_text k.voltage ++ (setting_text k.warning ++ (setting_text k.fault ++ line_feed))))))

-- "Otherwise `11`, one space, and the first line, counted from 1, at which no sheet goes on so"
abbrev pub wrong_text : Result Settings WrongLine → List ℕ
wrong_text (Ok k) = letters " no line is wrong"
wrong_text (Err line) = value_text line.0

abbrev pub wrong_line : Refusal → Result Settings WrongLine → List ℕ
wrong_line why j = decimal (number_of why) ++ (wrong_text j ++ line_feed)

-- the line of bytes that are no sheet, by how they are judged
pub record WrongAnswer (s : List ℕ) (why : Refusal) (l r : Line) : Type 0 where
  pub judged : Result Settings WrongLine
  pub judges : Judges s judged
  pub adds : Adds l (wrong_line why judged) r

abbrev pub LineFor : List ℕ → Result Settings Refusal → Line → Line → Type 0
LineFor s (Ok k) l r = Adds l (sheet_line k) r
LineFor s (Err why) l r = WrongAnswer s why l r

-- the line of bytes to be read, by what is read
pub record SheetAnswer (s : List ℕ) (l r : Line) : Type 0 where
  pub answer : Result Settings Refusal
  pub reads : Reads s answer
  pub line : LineFor s answer l r

-- "a line feed, then one line: `text` and the length of the text in decimal after one space, or `refused 11` or
-- `refused 12`"; no text has 65,536 bytes
abbrev pub after_text : Result ℕ Refusal → List ℕ
after_text (Ok n) = letters "text" ++ (value_text (n % 65536) ++ line_feed)
after_text (Err why) = refused_text why ++ line_feed

abbrev pub after_buffer : Result ℕ Refusal → List ℕ
after_buffer w = line_feed ++ after_text w

-- the settings to be written, after the first byte
abbrev pub settings_asked : List ℕ → Settings
settings_asked r = record { receive = number_at r 0 4; transmit = number_at r 4 4; speed = number_at r 8 4; voltage = number_at r 12 4; warning = number_at r 16 4; fault = number_at r 20 4 }
