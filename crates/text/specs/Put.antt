-- Text in a lent buffer: which bytes the whole buffer holds after, and the next place. What does not fit is not written.
use Rattle.std.specs.Prelude.{ℕ, ◌+◌, ◌≡◌, Bool, true, false, List, leb, length}
use Rattle.std.proofs.lemmas.List.Edits.{sets}

-- places are counted on past the buffer's end, as far as the machine's numbers go
abbrev pub last_place : ℕ
last_place = 18446744073709551615

abbrev pub place_by : Bool → ℕ → ℕ
place_by true n = n
place_by false n = last_place

abbrev pub place : ℕ → ℕ
place n = place_by (leb n last_place) n

-- The text was put into a buffer at a place. `sets` stores byte by byte from the place on, and nothing past the buffer's end.
pub record Put (before : List ℕ) (at : ℕ) (text : List ℕ) (next : ℕ) (after : List ℕ) : Type 0 where
  pub goes_on : next ≡ place (at + length text)
  pub holds : after ≡ sets before at text
