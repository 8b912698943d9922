-- Text put after text is the two of them put at once, whether or not they fit. Assumes nothing.
use Prim.Native.Nat.{ℕ, suc, ◌+◌, ◌≤◌, ◌<◌, ◌^◌}
use native.Mathlib.Nat.{add-zero, add-suc, suc-add, add_assoc}
use native.Mathlib.Numerals.{add-one}
use native.Mathlib.Omega.{arith}
use mathlib.Core.Path.{◌≡◌, refl, sym, ap, ◌∙◌}
use mathlib.Core.List.{List, [], ◌∷◌, ◌++◌}
use lib.ListN.{length, get_or, set, take, length-append}
use lib.Dec.{leb}
use lib.Seq.{sets, set_out, length-sets, length-take-le, take-suc}
use borrow.Author.Tests.{le-leb, leb-true, leb-false}
use Rattle.words.proofs.Tests.{decided}
use Rattle.text.specs.Put.{Put, place, last_place}

-- ---- stores past the end, and one after another

pub sets_out : (l : List ℕ) (i : ℕ) (vs : List ℕ) → length l ≤ i → sets l i vs ≡ l
sets_out l i [] h = refl
sets_out l i (v ∷ vs) h = ap (λ (k : List ℕ). sets k (suc i) vs) (set_out l i v h) ∙ sets_out l (suc i) vs (omega arith)

pub sets_append : (l : List ℕ) (i : ℕ) (t u : List ℕ) → sets l i (t ++ u) ≡ sets (sets l i t) (i + length t) u
sets_append l i [] u = ap (λ (k : ℕ). sets l k u) (sym (add-zero i))
sets_append l i (v ∷ t) u =
    sets_append (set l i v) (suc i) t u ∙ ap (λ (k : ℕ). sets (sets (set l i v) (suc i) t) k u) (suc-add i (length t) ∙ sym (add-suc i (length t)))

-- ---- places

pub place_within : (n : ℕ) → n ≤ last_place → place n ≡ n
place_within n h = rw (le-leb n last_place h) refl

place_beyond : (n : ℕ) → last_place ≤ n → place n ≡ last_place
place_beyond n h = decided (leb n last_place) (λ t. rw t (let k : n ≤ last_place = leb-true n last_place t in omega arith)) (λ t. rw t refl)

-- ---- one text after another

pub nothing_put : (d : List ℕ) (at : ℕ) → at ≤ last_place → Put d at [] at d
nothing_put d at h = record { goes_on = sym (ap place (add-zero at) ∙ place_within at h); holds = refl }

places : (at t u p : ℕ) → p ≡ place (at + t) → place (p + u) ≡ place (at + (t + u))
places at t u p q =
    decided (leb (at + t) last_place)
    (λ h. ap (λ (n : ℕ). place (n + u)) (q ∙ place_within (at + t) (leb-true (at + t) last_place h)) ∙ ap place (add_assoc at t u))
    (λ h. let past : last_place < at + t = leb-false (at + t) last_place h in
    ap (λ (n : ℕ). place (n + u)) (q ∙ place_beyond (at + t) (omega arith)) ∙ place_beyond (last_place + u) (omega arith) ∙ sym (place_beyond (at + (t + u)) (omega arith)))

stores : (d e : List ℕ) (at p : ℕ) (t u : List ℕ) → length d ≤ last_place → p ≡ place (at + length t) → e ≡ sets d at t → sets e p u ≡ sets d at (t ++ u)
stores d e at p t u h q s =
    decided (leb (at + length t) last_place)
    (λ w. ap (λ (k : ℕ). sets e k u) (q ∙ place_within (at + length t) (leb-true (at + length t) last_place w)) ∙ ap (λ (l : List ℕ). sets l (at + length t) u) s ∙ sym (sets_append d at t u))
    (λ w. let past : last_place < at + length t = leb-false (at + length t) last_place w in
    let same : length (sets d at t) ≡ length d = length-sets d at t in
    ap (λ (k : ℕ). sets e k u) (q ∙ place_beyond (at + length t) (omega arith))
    ∙ ap (λ (l : List ℕ). sets l last_place u) s
    ∙ sets_out (sets d at t) last_place u (omega arith)
    ∙ sym (sets_append d at t u ∙ sets_out (sets d at t) (at + length t) u (omega arith)))

pub then : {d e f : List ℕ} {at p r : ℕ} {t u : List ℕ} → length d < 2 ^ 64 → Put d at t p e → Put e p u r f → Put d at (t ++ u) r f
then {d} {e} {f} {at} {p} {r} {t} {u} h x y =
    record {
      goes_on = y.goes_on ∙ places at (length t) (length u) p x.goes_on ∙ ap (λ (k : ℕ). place (at + k)) (sym (length-append t u));
      holds = y.holds ∙ stores d e at p t u (let g : length d < 18446744073709551616 = h in omega arith) x.goes_on x.holds;
    }

-- ---- bytes stored in a row

-- one more byte, at the next place
pub and_one : (d e : List ℕ) (at : ℕ) (t : List ℕ) (v : ℕ) → e ≡ sets d at t → set e (at + length t) v ≡ sets d at (t ++ (v ∷ []))
and_one d e at t v q = ap (λ (l : List ℕ). set l (at + length t) v) q ∙ sym (sets_append d at t (v ∷ []))

-- ---- a text byte by byte

pub take_next : (l : List ℕ) (i : ℕ) → i < length l → take (i + 1) l ≡ take i l ++ (get_or l i 0 ∷ [])
take_next l i h = ap (λ (k : ℕ). take k l) (add-one i) ∙ take-suc l i 0 h

pub kept_length : {d e : List ℕ} {at r : ℕ} {t : List ℕ} → Put d at t r e → length e ≡ length d
kept_length {d} {e} {at} {r} {t} x = ap length x.holds ∙ length-sets d at t

-- the next byte of a row, stored after those before it
pub stored_next : (d e l : List ℕ) (at i : ℕ) → i < length l → e ≡ sets d at (take i l) → set e (at + i) (get_or l i 0) ≡ sets d at (take (i + 1) l)
stored_next d e l at i h q =
    ap (λ (k : ℕ). set e (at + k) (get_or l i 0)) (sym (length-take-le i l (omega arith)))
    ∙ and_one d e at (take i l) (get_or l i 0) q
    ∙ ap (sets d at) (sym (take_next l i h))
