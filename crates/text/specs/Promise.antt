-- What the text crate promises. `proofs/Promise` proves it.
use Rattle.std.specs.Prelude.{ℕ, ◌+◌, ◌-◌, ◌*◌, ◌/◌, ◌%◌, ◌≤◌, ◌<◌, ◌^◌, ◌≡◌, cond, List, [], ◌∷◌, ◌++◌, ltb, length, get_or, take, drop}
use Rattle.text.specs.Figures.{figure, hexadecimal, decimal}
use Rattle.std.specs.Borrow.{MutBor}
use Rattle.text.specs.declared.Text.{Text}
use Rattle.text.specs.Put.{Put}
use Rattle.text.specs.Puts.{Begins, Puts}

-- ---- a text in a buffer

pub record Holds (before : List ℕ) (at : ℕ) (text : List ℕ) (next : ℕ) (after : List ℕ) : Type 0 where
  -- a text that fits stands at its place, what is before and after it is as it was, and the next place is the one after it
  pub fits : at + length text ≤ length before → (after ≡ take at before ++ text ++ drop (at + length text) before) × (next ≡ at + length text)
  -- past the end nothing is written
  pub past : length before ≤ at → after ≡ before
  pub long : length after ≡ length before

-- ---- figures

-- the value of a figure: 0 to 9 begin at 48, A to F at 65
abbrev pub figure_value : ℕ → ℕ
figure_value c = cond (ltb c 58) (c - 48) (c - 55)

-- the number that a row of figures stands for, in a base, after figures with that value
abbrev pub number_from : ℕ → ℕ → List ℕ → ℕ
number_from base n [] = n
number_from base n (c ∷ cs) = number_from base (n * base + figure_value c) cs

pub record Promise : Type 0 where
  -- a buffer is a slice, and no slice has 2 ^ 64 bytes
  pub holds : (before : List ℕ) (at : ℕ) (text : List ℕ) (next : ℕ) (after : List ℕ) → length before < 2 ^ 64 → Put before at text next after → Holds before at text next after
  -- one outcome only
  pub one : (before : List ℕ) (at : ℕ) (text : List ℕ) (next next' : ℕ) (after after' : List ℕ) → Put before at text next after → Put before at text next' after' → (next ≡ next') × (after ≡ after')
  -- a text goes on in the buffer that was lent: all that was put from its beginning on was put there, at the place where it began
  pub texts : (lent : MutBor (List ℕ)) (at : ℕ) (begun text : Text) (put : List ℕ) → Begins lent at begun → Puts begun put text → Put lent.now at put text.at text.out.now × (text.out.ghost_name ≡ lent.ghost_name)
  pub one_text : (before text text' : Text) (put : List ℕ) → Puts before put text → Puts before put text' → (text.at ≡ text'.at) × (text.out.now ≡ text'.out.now)
  -- what is written stands for the number: so no two numbers have the same figures
  pub hexadecimal_number : (width n : ℕ) → n < 16 ^ width → number_from 16 0 (hexadecimal width n) ≡ n
  pub decimal_number : (n : ℕ) → n < 2 ^ 32 → number_from 10 0 (decimal n) ≡ n
  -- "eight capital hex digits"
  pub hexadecimal_width : (width n : ℕ) → length (hexadecimal width n) ≡ width
  -- two and three of them, one by one
  pub hexadecimal_two : (n : ℕ) → hexadecimal 2 n ≡ figure (n / 16 % 16) ∷ figure (n % 16) ∷ []
  pub hexadecimal_three : (n : ℕ) → hexadecimal 3 n ≡ figure (n / 16 / 16 % 16) ∷ figure (n / 16 % 16) ∷ figure (n % 16) ∷ []
  -- "no leading zero"
  pub decimal_first : (n : ℕ) → 1 ≤ n → n < 2 ^ 32 → get_or (decimal n) 0 0 ≡ 48 → ⊥
  -- at most ten figures, and no more than a power of ten allows
  pub decimal_width : (n : ℕ) → length (decimal n) ≤ 10
  pub decimal_within : (figures n : ℕ) → n < 10 ^ (figures + 1) → length (decimal n) ≤ figures + 1
