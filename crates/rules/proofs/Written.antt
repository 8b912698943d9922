-- Accepted writes: the reading's test and the demand's words say the same. Assumes nothing.
use Prim.Native.Nat.{ℕ}
use mathlib.Core.Path.{◌≡◌, refl, sym, ap, subst, ◌∙◌}
use mathlib.Core.Bool.{true, ◌&&◌}
use mathlib.Core.List.{List, [], ◌∷◌}
use mathlib.Core.Logic.{inl, inr}
use lib.Dec.{eqb}
use borrow.Author.Tests.{eqb-true, eq-eqb}
use Rattle.std.specs.Prelude.{Option, Some, None}
use Rattle.words.proofs.Tests.{decided, and_left, and_right}
use Rattle.codec_pages.specs.declared.frame.Frame.{Frame}
use Rattle.maintenance_pages.specs.declared.setting.Setting.{Setting}
use Rattle.maintenance_pages.specs.declared.message.Message.{Message}
use Rattle.maintenance_pages.specs.declared.message.Message.TheVariants.{Other, Unlock, Commit, Answer, SerialRequest, Read, Write}
use Rattle.maintenance_pages.specs.Settings.{code, legal}
use Rattle.maintenance_pages.specs.Messages.{message}
use Rattle.maintenance_pages.specs.Means.{Tells, Legal}
use Rattle.maintenance_pages.proofs.Promise.{promise as maintenance}
use Rattle.rules.specs.History.{writes, newest}
use Rattle.rules.specs.Demand.{Heard, LastAccepted}
use Rattle.rules.proofs.Looking.{nothing}

module _ (rating : ℕ) (s : Setting) where
  -- what passes the test is a write to this setting, of a legal value
  pub writes_only : (x : Message) (v : ℕ) → writes rating s x ≡ Some v → (x ≡ Write s v) × (legal rating s v ≡ true)
  writes_only Unlock v e = nothing v e
  writes_only Answer v e = nothing v e
  writes_only Commit v e = nothing v e
  writes_only (SerialRequest w) v e = nothing v e
  writes_only (Read k) v e = nothing v e
  writes_only (Write k u) v e =
      decided (legal rating k u && eqb (code k) (code s))
      (λ t.
      let its : k ≡ s = maintenance.codes k s (eqb-true (code k) (code s) (and_right (legal rating k u) (eqb (code k) (code s)) t)) in
      let q : ◌≡◌ {A = Option ℕ} (Some u) (Some v) = rw t at e in
      let same : u ≡ v = cc in (
        ap (λ (i : Setting). Write i u) its ∙ ap (Write s) same,
        subst (λ (n : ℕ). legal rating s n ≡ true) same (subst (λ (i : Setting). legal rating i u ≡ true) its (and_left (legal rating k u) (eqb (code k) (code s)) t)),
      ))
      (λ t. nothing v (rw t at e))
  writes_only Other v e = nothing v e

  -- a frame that is a write of a legal value to this setting passes it
  written_passes : (f : Frame) (v : ℕ) → Tells (Write s v) f → Legal rating s v → writes rating s (message f) ≡ Some v
  written_passes f v t l =
      ap (writes rating s) (((maintenance.messages f).write s v).1 t)
      ∙ rw ((maintenance.legal rating s v).1 l, eq-eqb (code s) (code s) refl) refl

  -- ---- the last of them

  abbrev pub last_accepted : List Heard → Option ℕ
  last_accepted [] = None
  last_accepted (m ∷ ms) = newest (writes rating s (message m.frame)) (last_accepted ms)

  -- the newest brings a value, or none
  by_newest : (m : Heard) (ms : List Heard) (w : Option ℕ) → writes rating s (message m.frame) ≡ w → LastAccepted rating s ms (last_accepted ms) → LastAccepted rating s (m ∷ ms) (newest w (last_accepted ms))
  by_newest m ms (Some v) e older =
      let its = writes_only (message m.frame) v e in
      inl (v, (refl, (((maintenance.messages m.frame).write s v).0 its.0, (maintenance.legal rating s v).0 its.1)))
  by_newest m ms None e older = inr (λ v t l. nothing v (sym e ∙ written_passes m.frame v t l), older)

  pub last_there : (ms : List Heard) → LastAccepted rating s ms (last_accepted ms)
  last_there [] = refl
  last_there (m ∷ ms) = by_newest m ms (writes rating s (message m.frame)) refl (last_there ms)

  none_newest : (m : Heard) (older new : Option ℕ) → ((v : ℕ) → Tells (Write s v) m.frame → Legal rating s v → ⊥) → writes rating s (message m.frame) ≡ new → newest new older ≡ older
  none_newest m older None n e = refl
  none_newest m older (Some v) n e =
      let its = writes_only (message m.frame) v e in
      absurd (n v (((maintenance.messages m.frame).write s v).0 its.0) ((maintenance.legal rating s v).0 its.1))

  -- and there is one last
  pub last_one : (ms : List Heard) (w : Option ℕ) → LastAccepted rating s ms w → last_accepted ms ≡ w
  last_one [] w e = sym e
  last_one (m ∷ ms) w (inl (v, (e, (t, l)))) = ap (λ (n : Option ℕ). newest n (last_accepted ms)) (written_passes m.frame v t l) ∙ sym e
  last_one (m ∷ ms) w (inr (n, older)) = none_newest m (last_accepted ms) (writes rating s (message m.frame)) n refl ∙ last_one ms w older
