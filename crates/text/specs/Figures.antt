-- Figures of a number: "eight capital hex digits"; "decimal, no leading zero".
use Rattle.std.specs.Prelude.{ℕ, zero, suc, ◌+◌, ◌/◌, ◌%◌, Bool, true, false, cond, List, [], ◌∷◌, ◌++◌, ltb}

-- the figures of 0 to 9 begin at 48, the capital letters of 10 to 15 at 65
abbrev pub figure_by : Bool → ℕ → ℕ
figure_by true digit = 48 + digit
figure_by false digit = 55 + digit

abbrev pub figure : ℕ → ℕ
figure digit = figure_by (ltb digit 10) digit

-- the last figures of a number in hexadecimal, as many as the width says, the most significant first
unfoldable pub hexadecimal : ℕ → ℕ → List ℕ
hexadecimal zero n = []
hexadecimal (suc width) n = hexadecimal width (n / 16) ++ (figure (n % 16) ∷ [])

-- the figures of a number in decimal, one and at most so many more: those of its tenth, if there is one, and the last
unfoldable pub decimal_up_to : ℕ → ℕ → List ℕ
decimal_up_to zero n = (48 + n % 10) ∷ []
decimal_up_to (suc more) n = cond (ltb n 10) ((48 + n % 10) ∷ []) (decimal_up_to more (n / 10) ++ ((48 + n % 10) ∷ []))

-- a number of 32 bits has ten figures at most
abbrev pub decimal : ℕ → List ℕ
decimal n = decimal_up_to 9 n

-- the last figures of a number in decimal, as many as the width says
abbrev pub last_figures : ℕ → ℕ → List ℕ
last_figures zero n = []
last_figures (suc width) n = last_figures width (n / 10) ++ ((48 + n % 10) ∷ [])
