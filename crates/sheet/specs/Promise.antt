-- What the sheet crate promises, for any bytes, settings and buffer. `proofs/Promise` proves it.
use Rattle.std.specs.Prelude.{ℕ, ◌≤◌, ◌≡◌, true, not, Result, Ok, Err, List, [], ◌∷◌, ◌++◌, ◌↔◌, ◌⊎◌, length, get_or, take, drop}
use Rattle.refusal.specs.declared.Refusal.{Refusal}
use Rattle.refusal.specs.Refusals.{number_of}
use Rattle.refusal.specs.Conditions.{Condition, ◌when◌, Told, refusal, good, GivenExactly}
use Rattle.maintenance_pages.specs.declared.setting.Settings.{Settings}
use Rattle.maintenance_pages.specs.Settings.{accepted}
use Rattle.text.specs.Written.{is_short, told_text}
use Rattle.sheet.specs.declared.reading.WrongLine.{WrongLine}
use Rattle.sheet.specs.Sheet.{sheet_text, is_legal, IsSheet, FirstWrong, Judges, Reads, SheetWritten}
use Rattle.sheet.specs.Output.{output_by, Outputs}

-- on paper: the settings, or the number of the refusal
abbrev pub told_read : Result Settings Refusal → Told Settings
told_read (Ok k) = good k
told_read (Err why) = refusal (number_of why)

-- "Sheet writer: 11 for values no sheet may hold, then 12"
abbrev pub writer_conditions : Settings → ℕ → List Condition
writer_conditions k room = (11 when not (is_legal k)) ∷ (12 when is_short (sheet_text k) room) ∷ []

-- what holds of every answer to settings and a buffer
pub record Writes (k : Settings) (held : List ℕ) (r : Result ℕ Refusal) (after : List ℕ) : Type 0 where
  pub exactly : GivenExactly (told_text r after) (writer_conditions k (length held)) (sheet_text k)
  -- a refusal leaves the buffer with the contents it came with
  pub same : (why : Refusal) → r ≡ Err why → after ≡ held
  -- a text is told by its length, stands at the buffer's start, and "bytes after the text are unchanged"
  pub text : (n : ℕ) → r ≡ Ok n → (n ≡ length (sheet_text k)) × (after ≡ sheet_text k ++ drop n held)

-- one outcome only, whatever is asked
pub record OneOutcome : Type 0 where
  pub read : (s : List ℕ) (r r' : Result Settings Refusal) → Reads s r → Reads s r' → r ≡ r'
  pub judged : (s : List ℕ) (j j' : Result Settings WrongLine) → Judges s j → Judges s j' → j ≡ j'
  pub written : (k : Settings) (held : List ℕ) (r r' : Result ℕ Refusal) (after after' : List ℕ) → SheetWritten k held r after → SheetWritten k held r' after' → (r ≡ r') × (after ≡ after')
  pub output : (s before : List ℕ) (n n' : ℕ) (after after' : List ℕ) → Outputs s before n after → Outputs s before n' after' → (n ≡ n') × (after ≡ after')

pub record Promise : Type 0 where
  -- accepted with these settings exactly when a sheet may hold them and the bytes are their text
  pub accepted_exactly : (s : List ℕ) (r : Result Settings Refusal) → Reads s r → (k : Settings) → told_read r ≡ good k ↔ IsSheet s k
  -- refused exactly when they are no sheet, and by 11 alone
  pub refused_exactly : (s : List ℕ) (r : Result Settings Refusal) → Reads s r → (n : ℕ) → told_read r ≡ refusal n ↔ ((n ≡ 11) × ((k : Settings) → IsSheet s k → ⊥))
  -- no two sheets share a text
  pub apart : (k m : Settings) → is_legal k ≡ true → is_legal m ≡ true → sheet_text k ≡ sheet_text m → k ≡ m
  -- "A comma or dot is refused", wherever it stands
  pub comma_or_dot : (s : List ℕ) (r : Result Settings Refusal) → Reads s r → (i : ℕ) → (get_or s i 0 ≡ 44) ⊎ (get_or s i 0 ≡ 46) → told_read r ≡ refusal 11
  pub writes : (k : Settings) (held : List ℕ) (r : Result ℕ Refusal) (after : List ℕ) → SheetWritten k held r after → Writes k held r after
  -- "A written sheet reads back as the same six values"
  pub reads_back : (k : Settings) (held : List ℕ) (n : ℕ) (after : List ℕ) → SheetWritten k held (Ok n) after → (r : Result Settings Refusal) → Reads (take n after) r → told_read r ≡ good k
  -- "and an accepted sheet is written back as the same bytes", in any buffer that is long enough
  pub writes_back : (s : List ℕ) (k : Settings) → Reads s (Ok k) → (held : List ℕ) (r : Result ℕ Refusal) (after : List ℕ) → length s ≤ length held → SheetWritten k held r after → (r ≡ Ok (length s)) × (after ≡ s ++ drop (length s) held)
  -- the longest sheet has 84 bytes, there is one, and a buffer that large is never refused by 12
  pub bound : (k : Settings) → is_legal k ≡ true → length (sheet_text k) ≤ 84
  pub reached : (k : Settings) × (is_legal k ≡ true) × (length (sheet_text k) ≡ 84)
  pub enough : (k : Settings) → is_legal k ≡ true → (held : List ℕ) (r : Result ℕ Refusal) (after : List ℕ) → 84 ≤ length held → SheetWritten k held r after → r ≡ Ok (length (sheet_text k))
  -- a line that is wrong is one of the six or the one after
  pub line : (s : List ℕ) (n : ℕ) → FirstWrong s n → (1 ≤ n) × (n ≤ 7)
  -- a sheet holds just what power-on accepts with the highest rating
  pub rating : (k : Settings) → is_legal k ≡ accepted 65535 k
  pub one : OneOutcome
  -- the program reads 85 bytes and has a buffer of 200: what is judged of the first 85 bytes is judged of all, and whatever it has to write fits
  pub first_bytes : (s : List ℕ) (j : Result Settings WrongLine) → Judges (take 85 s) j → Judges s j
  pub program : (s : List ℕ) (j : Result Settings WrongLine) → Judges s j → length (output_by j) ≤ 200
