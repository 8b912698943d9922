-- Bytes past the length are no part of a frame: two frames that differ only there say the same. Assumes nothing.
use Prim.Native.Nat.{ℕ, zero, suc, ◌+◌, ◌≤◌}
use mathlib.Core.Path.{◌≡◌, refl, sym, ap, subst, ◌∙◌}
use mathlib.Core.Bool.{Bool, ◌&&◌}
use mathlib.Core.List.{List, ◌∷◌}
use mathlib.Core.Logic.{inl, inr}
use lib.Dec.{eqb, lit≤}
use lib.ListN.{get_or, length}
use native.Mathlib.Omega.{arith}
use Rattle.codec_pages.specs.declared.frame.Frame.{Frame}
use Rattle.codec_pages.specs.Alike.{Alike}
use Rattle.codec_pages.specs.Table.{part}
use Rattle.words.specs.declared.Order.TheVariants.{Big}
use Rattle.words.specs.Words.{word_of}
use Rattle.maintenance_pages.specs.declared.message.Message.{Message}
use Rattle.maintenance_pages.specs.declared.message.Message.TheVariants.{Other, Unlock, Commit, Answer, SerialRequest, Read, Write}
use Rattle.maintenance_pages.specs.Messages.{byte, same_seven, challenge_of, answer_to}
use Rattle.maintenance_pages.specs.Means.{Begins, Coded, AsksFor, Tells}
use Rattle.maintenance_pages.specs.Promise.{PastLength}
use Rattle.maintenance_pages.proofs.Told.{same_told}

module _ (f g : Frame) (a : Alike f g) where
  part_same : (at width : ℕ) → at + width ≤ f.length → part f.bytes at width ≡ part g.bytes at width
  part_same at zero h = refl
  part_same at (suc width) h =
      ap (λ (b : ℕ). b ∷ part f.bytes (at + 1) width) (a.bytes at (omega arith))
      ∙ ap (λ (l : List ℕ). get_or g.bytes at 0 ∷ l) (part_same (at + 1) width (omega arith))

  begins_same : (n : ℕ) (bytes : List ℕ) → length bytes ≤ n → Begins f n bytes → Begins g n bytes
  begins_same n bytes h (l, b) = (sym a.length ∙ l, sym (part_same 0 (length bytes) (omega (arith, l))) ∙ b)

  first_same : 1 ≤ f.length → byte f 0 ≡ byte g 0
  first_same h = a.bytes 0 h

  tells_same : (x : Message) → Tells x f → Tells x g
  tells_same Unlock t = begins_same _ _ (lit≤ tt) t
  tells_same Commit t = begins_same _ _ (lit≤ tt) t
  tells_same Answer t = begins_same _ _ (lit≤ tt) t
  tells_same (SerialRequest w) (inl l, b) = (inl (sym a.length ∙ l), subst (AsksFor w) (first_same (omega (arith, l))) b)
  tells_same (SerialRequest w) (inr l, b) = (inr (sym a.length ∙ l), subst (AsksFor w) (first_same (omega (arith, l))) b)
  tells_same (Read s) (l, b) = (sym a.length ∙ l, subst (Coded s) (first_same (omega (arith, l))) b)
  tells_same (Write s v) (l, (b, q)) = (
    sym a.length ∙ l,
    (subst (Coded s) (first_same (omega (arith, l))) b, q ∙ ap (λ (bs : List ℕ). word_of Big bs) (part_same 1 4 (omega (arith, l)))),
  )
  tells_same Other t = t

  -- an answer's seven bytes
  answer_same : Tells Answer f → part f.bytes 1 7 ≡ part g.bytes 1 7
  answer_same (l, b) = part_same 1 7 (omega (arith, l))

alike_back : (f g : Frame) → Alike f g → Alike g f
alike_back f g a =
    record {
      extended = sym a.extended;
      identifier = sym a.identifier;
      length = sym a.length;
      bytes = λ i h. sym (a.bytes i (omega (arith, a.length)));
    }

pub past_length : (f g : Frame) → Alike f g → PastLength f g
past_length f g a =
    record {
      message = same_told f g (tells_same f g a) (tells_same g f (alike_back f g a));
      heard = λ k. ap (λ (b : Bool). b && eqb f.identifier k.receive) a.extended ∙ ap (λ (i : ℕ). g.extended && eqb i k.receive) a.identifier;
      right = λ serial t. ap (λ (bs : List ℕ). same_seven bs (answer_to (challenge_of serial))) (answer_same f g a t);
    }
