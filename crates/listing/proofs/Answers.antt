-- The answer and the buffer, for every answer of the check. Assumes nothing.
use Prim.Native.Nat.{ℕ, ◌+◌, ◌*◌, ◌≤◌, ◌<◌}
use native.Mathlib.Omega.{arith}
use mathlib.Core.Path.{◌≡◌, refl}
use mathlib.Core.Bool.{false}
use mathlib.Core.List.{List}
use lib.ListN.{length, get_or}
use borrow.Author.Tests.{le-ltb}
use Rattle.std.specs.Prelude.{Result, Ok, Err}
use Rattle.refusal.specs.declared.Refusal.{Refusal}
use Rattle.std.specs.declared.result.Result.{Result}
use Rattle.std.specs.declared.result.Result.TheVariants.{Ok, Err}
use Rattle.text.specs.Put.{place, last_place}
use Rattle.text.specs.Written.{Fitted}
use Rattle.text.proofs.Put.{place_within}
use Rattle.text.proofs.Fitted.{refused_same as fitted-same}
use Rattle.bench_log.specs.Layout.{count_of}
use Rattle.bench_log.specs.Check.{checked}
use Rattle.bench_log.proofs.Parts.{laid_out}
use Rattle.bench_log.proofs.Runs.{sound}
use Rattle.listing.specs.Listing.{listing_of, is_short, answer_by, AnsweredBy, ListingAnswered}
use Rattle.listing.proofs.Bounds.{listing_length}

-- ---- lengths

-- no listing is so long that places give out
within : (s : List ℕ) → ((i : ℕ) → get_or s i 0 < 256) → checked s ≡ Ok tt → length (listing_of s) ≤ last_place
within s bytes a =
    let l = listing_length s bytes a in
    let c = (laid_out s (sound s a).laid).count in
    omega (arith, l, c)

pub whole_length : (s : List ℕ) → ((i : ℕ) → get_or s i 0 < 256) → checked s ≡ Ok tt → place (length (listing_of s)) ≡ length (listing_of s)
whole_length s bytes a = place_within (length (listing_of s)) (within s bytes a)

-- a buffer of 46 bytes for each record and 57 is never short
pub room_enough : (s : List ℕ) → ((i : ℕ) → get_or s i 0 < 256) → checked s ≡ Ok tt → (room : ℕ) → 46 * count_of s + 57 ≤ room → is_short s room ≡ false
room_enough s bytes a room h = let l = listing_length s bytes a in le-ltb room (length (listing_of s)) (omega (arith, l, h))

-- ---- an answer that is had

pub answered_by : (a : Result Unit Refusal) (s held after : List ℕ) (r : Result ℕ Refusal) → AnsweredBy a s held r after → r ≡ answer_by a s (length held)
answered_by (Ok u) s held after r x = x.answered
answered_by (Err why) s held after r x = x.answered

text_by_lem : (a : Result Unit Refusal) (s held after : List ℕ) (n : ℕ) → AnsweredBy a s held (Ok n) after → (a ≡ Ok tt) × Fitted (listing_of s) held (Ok n) after
text_by_lem (Ok u) s held after n x = (refl, x)
text_by_lem (Err why) s held after n x = let e = x.answered in absurd (cc)

-- a text is answered only of an accepted log
pub text_fitted : (s held after : List ℕ) (n : ℕ) → ListingAnswered s held (Ok n) after → (checked s ≡ Ok tt) × Fitted (listing_of s) held (Ok n) after
text_fitted s held after n x = text_by_lem (checked s) s held after n x

same_by : (a : Result Unit Refusal) (s held after : List ℕ) (why : Refusal) → AnsweredBy a s held (Err why) after → after ≡ held
same_by (Ok u) s held after why x = fitted-same (listing_of s) held after why x
same_by (Err w) s held after why x = x.holds

-- a refusal leaves the buffer as it came
pub refused_same : (s held after : List ℕ) (why : Refusal) → ListingAnswered s held (Err why) after → after ≡ held
refused_same s held after why x = same_by (checked s) s held after why x
