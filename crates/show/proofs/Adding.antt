-- Text put on a line after text is the two of them put on it at once. Assumes nothing.
use native.Mathlib.Omega.{arith}
use Rattle.std.proofs.Common.{ℕ, ◌+◌, ◌<◌, ◌≡◌, List, [], ◌++◌, length, ap, refl, sym, ◌∙◌}
use Rattle.text.specs.Put.{Put, place}
use Rattle.text.proofs.Put.{then}
use Rattle.show.specs.declared.Line.{Line}
use Rattle.show.specs.Lines.{Adds, added}

both : (l : Line) (b : List ℕ) (n : ℕ) (t : List ℕ) → Put l.bytes l.n t n b → record { bytes = b; n = n } ≡ added l t
unfolding added
both l b n t x = let p = x.goes_on in let q = x.holds in cc

pub added_twice : (l : Line) (t u : List ℕ) → 160 ≡ length l.bytes → added (added l t) u ≡ added l (t ++ u)
unfolding added
added_twice l t u room =
    let first : Put l.bytes l.n t (added l t).n (added l t).bytes = record { goes_on = refl; holds = refl } in
    let second : Put (added l t).bytes (added l t).n u (added (added l t) u).n (added (added l t) u).bytes = record { goes_on = refl; holds = refl } in
    both l _ _ _ (then (let g : length l.bytes < 18446744073709551616 = omega (arith, room) in g) first second)

pub and : {l m r : Line} {t u : List ℕ} → Adds l t m → Adds m u r → Adds l (t ++ u) r
and {l} {u = u} x y = record { room = x.room; put = y.put ∙ ap (λ (k : Line). added k u) x.put ∙ added_twice l _ u x.room }

-- what the machine's numbers count to is the place itself
pub added_none : (l : Line) → l.n < 18446744073709551616 → l ≡ added l []
unfolding added
added_none l fits =
    let here : l.n ≡ place (l.n + 0) = grind arith in
    ap (λ (n : ℕ). record { bytes = l.bytes; n = n }) here

-- what was put settles the line
pub one_line : {l r r' : Line} {t : List ℕ} → Adds l t r → Adds l t r' → r ≡ r'
one_line x y = x.put ∙ sym y.put
