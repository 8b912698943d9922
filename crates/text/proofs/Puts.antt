-- Text put after text in the same buffer. Assumes nothing.
use Prim.Native.Nat.{ℕ, ◌+◌, ◌<◌}
use native.Mathlib.Omega.{arith}
use mathlib.Core.Path.{◌≡◌, refl, sym, ap, subst, ◌∙◌}
use mathlib.Core.List.{List, [], ◌∷◌, ◌++◌}
use lib.Seq.{sets}
use lib.ListN.{length, get_or, take}
use Rattle.std.specs.Borrow.{MutBor}
use Rattle.text.specs.declared.Text.{Text}
use Rattle.text.specs.Put.{Put, place}
use Rattle.text.specs.Puts.{Begins, Puts}
use Rattle.text.proofs.Put.{nothing_put, take_next, then as put_then}

pub then : {a b c : Text} {t u : List ℕ} → Puts a t b → Puts b u c → Puts a (t ++ u) c
then {a} {b} {c} {t} {u} x y =
    record {
      same = y.same ∙ x.same;
      there = put_then (let r = a.room in let g : length a.out.now < 18446744073709551616 = omega (arith, r) in g) x.there y.there;
    }

pub puts_as : {a b : Text} {t u : List ℕ} → t ≡ u → Puts a t b → Puts a u b
puts_as {a} {b} e x = subst (λ (v : List ℕ). Puts a v b) e x

pub nothing : (a : Text) → Puts a [] a
nothing a = record { same = refl; there = nothing_put a.out.now a.at a.counted }

-- a row of bytes, one after another
pub one_more : (a b c : Text) (l : List ℕ) (i : ℕ) → i < length l → Puts a (take i l) b → Puts b (get_or l i 0 ∷ []) c → Puts a (take (i + 1) l) c
one_more a b c l i h x y = puts_as (sym (take_next l i h)) (then x y)

-- so many bytes of a row have been stored from a place on, and the text is where it was
abbrev pub Stored : Text → ℕ → List ℕ → ℕ → Text → Type 0
Stored before at row i now = record {
  same : now.out.ghost_name ≡ before.out.ghost_name;
  stays : now.at ≡ at;
  stored : now.out.now ≡ sets before.out.now at (take i row);
}

-- what the lent buffer holds once the text is done
pub given_back : {lent : MutBor (List ℕ)} {at : ℕ} {a b : Text} {t x : List ℕ} {n : ℕ} → Begins lent at a → Puts a t b → (lent.ghost_name ≡ b.out.ghost_name → x ≡ b.out.now) → n ≡ b.at → Put lent.now at t n x
given_back {lent} {at} {a} {b} {t} {x} {n} begun put ends e =
    let same = ends (sym (put.same ∙ begun.same)) in
    let p = put.there in
    record { goes_on = e ∙ p.goes_on ∙ ap (λ (k : ℕ). place (k + length t)) begun.place; holds = same ∙ p.holds ∙ ap (λ (k : ℕ). sets a.out.now k t) begun.place ∙ ap (λ (d : List ℕ). sets d at t) begun.holds }
