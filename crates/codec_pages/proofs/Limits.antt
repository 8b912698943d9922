-- The limits of a frame in plain numbers. Assumes nothing.
use Prim.Native.Nat.{ℕ, ◌<◌, ◌≤◌}
use mathlib.Core.Path.{sym, ◌∙◌}
use mathlib.Core.Logic.Iff
use mathlib.Core.Logic.{inl, inr}
use lib.Dec.{ltb}
use borrow.Author.Tests.{ltb-true, ltb-false}
use Rattle.words.proofs.Tests.{decided, false_true, below, is_not, both, either}
use Rattle.codec_pages.specs.declared.frame.Frame.{Frame}
use Rattle.codec_pages.specs.Promise.{Limits}

-- what is not over is at most
not_over : (limit n : ℕ) → (limit < n → ⊥) → n ≤ limit
not_over limit n h = decided (ltb limit n) (λ t. absurd (h (ltb-true limit n t))) (ltb-false limit n)

pub limits : (f : Frame) → Limits f
limits f =
    let over = either _ _ (either _ _ (below 8 _) (both _ _ Iff.rfl (below 0x1FFFFFFF _))) (both _ _ (is_not f.extended) (below 0x7FF _)) in
    record {
      over = over;
      within = λ h. (
        not_over 8 f.length (λ l. false_true (sym (over.1 (inl (inl l))) ∙ h)),
        (
          λ x. not_over 0x1FFFFFFF f.identifier (λ l. false_true (sym (over.1 (inl (inr (x, l)))) ∙ h)),
          λ x. not_over 0x7FF f.identifier (λ l. false_true (sym (over.1 (inr (x, l))) ∙ h)),
        ),
      );
    }
