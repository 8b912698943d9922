-- A text in a lent buffer from its start: 12 where "the buffer is shorter than the text", otherwise its length.
use Rattle.std.specs.Prelude.{ℕ, ◌≡◌, Bool, cond, Result, Ok, Err, List, [], ◌∷◌, ◌++◌, ltb, length, take}
use Rattle.std.proofs.lemmas.List.Edits.{sets}
use Rattle.refusal.specs.declared.Refusal.{Refusal}
use Rattle.refusal.specs.declared.Refusal.TheVariants.{ShortBuffer}
use Rattle.refusal.specs.Refusals.{number_of}
use Rattle.refusal.specs.Conditions.{Told, refusal, good}
use Rattle.text.specs.Figures.{decimal}
use Rattle.text.specs.Letters.{letters}

-- a buffer of that length is shorter than the text
abbrev pub is_short : List ℕ → ℕ → Bool
is_short text room = ltb room (length text)

abbrev pub fitted : List ℕ → ℕ → Result ℕ Refusal
fitted text room = cond (is_short text room) (Err ShortBuffer) (Ok (length text))

-- what the buffer holds after: as it came where it is short, otherwise the text from its start and, past it, what it held
abbrev pub held_with : List ℕ → List ℕ → List ℕ
held_with text held = cond (is_short text (length held)) held (sets held 0 text)

pub record Fitted (text held : List ℕ) (answer : Result ℕ Refusal) (after : List ℕ) : Type 0 where
  pub answered : answer ≡ fitted text (length held)
  pub holds : after ≡ held_with text held

-- refused for another reason: the buffer stays as it came
pub record NotWritten (why : Refusal) (held : List ℕ) (answer : Result ℕ Refusal) (after : List ℕ) : Type 0 where
  pub answered : answer ≡ Err why
  pub holds : after ≡ held

-- on paper, with what the buffer holds after: the number of the refusal, or the bytes that stand there, from the start and as many as are told
abbrev pub told_text : Result ℕ Refusal → List ℕ → Told (List ℕ)
told_text (Ok n) after = good (take n after)
told_text (Err why) after = refusal (number_of why)

-- "`refused`, a space, the number in decimal"
abbrev pub refused_line : Refusal → List ℕ
refused_line why = letters "refused " ++ decimal (number_of why) ++ (10 ∷ [])
