-- The answer and the buffer, where a text fits and where it does not. Assumes nothing.
use Prim.Native.Nat.{ℕ, ◌+◌, ◌≤◌}
use native.Mathlib.Nat.{zero-add}
use native.Mathlib.Omega.{arith}
use mathlib.Core.Path.{◌≡◌, refl, sym, ap, ◌∙◌}
use mathlib.Core.Bool.{Bool, false, cond}
use mathlib.Core.List.{List, [], ◌∷◌, ◌++◌}
use lib.ListN.{length, take, drop}
use lib.Seq.{sets, sets-eq, take_at}
use borrow.Author.Tests.{ltb-false}
use Rattle.words.proofs.Tests.{decided}
use Rattle.refusal.specs.declared.Refusal.{Refusal}
use Rattle.refusal.specs.Conditions.{◌when◌, good}
use Rattle.refusal.proofs.Conditions.{pick}
use Rattle.std.specs.declared.result.Result.{Result}
use Rattle.std.specs.declared.result.Result.TheVariants.{Ok, Err}
use Rattle.text.specs.Put.{Put, place, last_place}
use Rattle.text.specs.Written.{is_short, fitted, Fitted, told_text}
use Rattle.text.proofs.Put.{place_within}

-- ---- what an answer says

stands : (t held : List ℕ) → length t ≤ length held → take (length t) (sets held 0 t) ≡ t
stands t held h = ap (take (length t)) (sets-eq t held 0 (omega (arith, h))) ∙ take_at t (drop (0 + length t) held) (length t) refl

-- on paper: 12 where the buffer is short, otherwise the text, and it stands in the buffer
pub fitted_told : (t held : List ℕ) (r : Result ℕ Refusal) (after : List ℕ) → Fitted t held r after → told_text r after ≡ pick ((12 when is_short t (length held)) ∷ []) t
fitted_told t held r after x =
    ap (λ (y : Result ℕ Refusal). told_text y after) x.answered
    ∙ ap (told_text (fitted t (length held))) x.holds
    ∙ decided (is_short t (length held))
    (λ s. rw s refl)
    (λ s. rw s (ap good (stands t held (ltb-false (length held) (length t) s))))

-- a text is told by its length, and was stored from the buffer's start
pub text_told : (t held after : List ℕ) (n : ℕ) → Fitted t held (Ok n) after → (is_short t (length held) ≡ false) × (n ≡ length t) × (after ≡ sets held 0 t)
text_told t held after n x =
    decided (is_short t (length held))
    (λ s. let e : Ok n ≡ fitted t (length held) = x.answered in let h = rw s at e in absurd (cc))
    (λ s. let e : Ok n ≡ fitted t (length held) = x.answered in let h = rw s at e in (s, cc, x.holds ∙ ap (λ (b : Bool). cond b held (sets held 0 t)) s))

-- a refusal leaves the buffer as it came
pub refused_same : (t held after : List ℕ) (why : Refusal) → Fitted t held (Err why) after → after ≡ held
refused_same t held after why x =
    decided (is_short t (length held))
    (λ s. x.holds ∙ ap (λ (b : Bool). cond b held (sets held 0 t)) s)
    (λ s. let e : Err why ≡ fitted t (length held) = x.answered in let h = rw s at e in absurd (cc))

-- a text stands at the buffer's start, and past it nothing changes
pub text_stands : (t held after : List ℕ) (n : ℕ) → Fitted t held (Ok n) after → (n ≡ length t) × (after ≡ t ++ drop n held)
text_stands t held after n x =
    let all = text_told t held after n x in
    let fits = ltb-false (length held) (length t) all.0 in (
      all.1,
      all.2 ∙ sets-eq t held 0 (omega (arith, fits)) ∙ ap (λ (k : ℕ). t ++ drop k held) (zero-add (length t) ∙ sym all.1),
    )

-- ---- a text put into an array that is long enough

pub text_at_start : (d e t : List ℕ) (n : ℕ) → length t ≤ length d → length d ≤ last_place → Put d 0 t n e → (n ≡ length t) × (take n e ≡ t)
text_at_start d e t n fits small p =
    let same : n ≡ length t = p.goes_on ∙ ap place (zero-add (length t)) ∙ place_within (length t) (omega (arith, fits, small)) in (
      same,
      ap (take n) (p.holds ∙ sets-eq t d 0 (omega (arith, fits))) ∙ take_at t (drop (0 + length t) d) n (sym same),
    )
