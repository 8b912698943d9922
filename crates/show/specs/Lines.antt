-- A line in the making, and what is put on it: the words that the formats of questions share.
use Rattle.std.specs.Prelude.{ℕ, ◌+◌, ◌≡◌, Bool, true, false, List, [], ◌∷◌, ◌++◌, length, replicate}
use Rattle.std.specs.List.{flat_map}
use Rattle.refusal.specs.declared.Refusal.{Refusal}
use Rattle.refusal.specs.Refusals.{number_of}
use Rattle.text.specs.Figures.{hexadecimal, decimal}
use Rattle.text.specs.Letters.{letters}
use Rattle.text.specs.Put.{place}
use Rattle.std.proofs.lemmas.List.Edits.{sets}
use Rattle.codec_pages.specs.declared.frame.Frame.{Frame}
use Rattle.show.specs.declared.Line.{Line}

abbrev pub no_line : Line
no_line = record { bytes = replicate 160 0; n = 0 }

-- the line with a text put at its end. What goes past its 160 bytes is counted and not there
unfoldable pub added : Line → List ℕ → Line
added l t = record { bytes = sets l.bytes l.n t; n = place (l.n + length t) }

-- the text was put at the end of the line
pub record Adds (l : Line) (t : List ℕ) (r : Line) : Type 0 where
  pub room : 160 ≡ length l.bytes
  pub put : r ≡ added l t

-- "Every line ends with one line feed"
abbrev pub line_feed : List ℕ
line_feed = 10 ∷ []

-- "decimal, [..] each after one space"
abbrev pub value_text : ℕ → List ℕ
value_text n = 32 ∷ decimal n

-- "`refused N`, N the number of document 01 in decimal"
abbrev pub refused_text : Refusal → List ℕ
refused_text why = letters "refused" ++ value_text (number_of why)

-- "the identifier in eight capital hexadecimal digits (three if the frame were standard)"
abbrev pub identifier_by : Bool → ℕ → List ℕ
identifier_by true n = hexadecimal 8 n
identifier_by false n = hexadecimal 3 n

abbrev pub identifier_text : Frame → List ℕ
identifier_text f = identifier_by f.extended f.identifier

-- a byte in two digits after one space
abbrev pub spaced_text : ℕ → List ℕ
spaced_text b = 32 ∷ hexadecimal 2 b

-- "all eight bytes in two digits each, those past the length too"
abbrev pub data_text : List ℕ → List ℕ
data_text bytes = flat_map spaced_text bytes

-- "the identifier [..], the length in decimal, and all eight bytes"
abbrev pub frame_text : Frame → List ℕ
frame_text f = identifier_text f ++ (value_text f.length ++ data_text f.bytes)
