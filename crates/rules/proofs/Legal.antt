-- What the history says is stored is legal. Assumes nothing.
use Prim.Native.Nat.{ℕ, ◌<◌}
use mathlib.Core.Path.{◌≡◌, refl, sym, ap, ◌∙◌}
use mathlib.Core.Bool.{Bool, true, cond, ◌&&◌}
use mathlib.Core.List.{List, [], ◌∷◌}
use Rattle.std.specs.Prelude.{Option, Some, None}
use Rattle.std.specs.Option.{unwrap_or}
use Rattle.words.proofs.Tests.{decided}
use Rattle.maintenance_pages.specs.declared.setting.Setting.{Setting}
use Rattle.maintenance_pages.specs.declared.setting.Setting.TheVariants.{ReceiveId, TransmitId, Speed, Voltage, WarningLevel, FaultLevel}
use Rattle.maintenance_pages.specs.declared.setting.Settings.{Settings}
use Rattle.maintenance_pages.specs.Settings.{legal}
use Rattle.maintenance_pages.specs.Messages.{message, heard_on}
use Rattle.maintenance_pages.specs.Means.{Legal, Acceptable}
use Rattle.maintenance_pages.proofs.Promise.{promise as maintenance}
use Rattle.rules.specs.Events.{Event, frame_event, reset_event, PowerOn, IsAccepted}
use Rattle.rules.specs.History.{commits, writes, newest, taking, stored_after, in_session, last_write}
use Rattle.rules.proofs.Written.{writes_only}
use Rattle.rules.proofs.Looking.{nothing, write_heard, write_unheard}

-- ---- what is stored is legal

newest_legal : (P : ℕ → Type 0) (new old : Option ℕ) (v : ℕ) → ((n : ℕ) → new ≡ Some n → P n) → ((n : ℕ) → old ≡ Some n → P n) → newest new old ≡ Some v → P v
newest_legal P None old v n o e = o v e
newest_legal P (Some u) old v n o e = n v e

module _ (p : PowerOn) where
  written_legal : (h : List Event) (s : Setting) (v : ℕ) → last_write p h s ≡ Some v → legal p.rating s v ≡ true
  unfolding stored_after
  written_legal [] s v e = nothing v e
  written_legal (reset_event at ∷ h) s v e = nothing v e
  written_legal (frame_event at storing f ∷ h) s v e =
      decided (heard_on (stored_after p h) f)
      (λ x. decided (in_session p h at)
      (λ o.
      let new = writes p.rating s (message f) in
      let now : newest new (last_write p h s) ≡ Some v = sym (write_heard p at storing f h x s ∙ ap (λ (b : Bool). cond b (newest new (last_write p h s)) None) o) ∙ e in
      newest_legal (λ n. legal p.rating s n ≡ true) new (last_write p h s) v (λ n q. (writes_only p.rating s (message f) n q).1) (written_legal h s) now)
      (λ o. nothing v (sym (write_heard p at storing f h x s ∙ ap (λ (b : Bool). cond b (newest (writes p.rating s (message f)) (last_write p h s)) None) o) ∙ e)))
      (λ x. written_legal h s v (sym (write_unheard p at storing f h x s) ∙ e))

  -- what takes legal writes is legal
  taken : (P : ℕ → Type 0) (w : Option ℕ) (k : ℕ) → P k → ((v : ℕ) → w ≡ Some v → P v) → P (unwrap_or w k)
  taken P None k a b = a
  taken P (Some v) k a b = b v refl

  taking_legal : (k : Settings) (written : Setting → Option ℕ) → Acceptable p.rating k → ((s : Setting) (v : ℕ) → written s ≡ Some v → Legal p.rating s v) → Acceptable p.rating (taking k written)
  taking_legal k written a l =
      record {
        rated = a.rated;
        receive = taken (Legal p.rating ReceiveId) (written ReceiveId) k.receive a.receive (l ReceiveId);
        transmit = taken (Legal p.rating TransmitId) (written TransmitId) k.transmit a.transmit (l TransmitId);
        speed = taken (Legal p.rating Speed) (written Speed) k.speed a.speed (l Speed);
        voltage = taken (λ v. v < p.rating) (written Voltage) k.voltage a.voltage (λ v q. (l Voltage v q).1);
        warning = taken (Legal p.rating WarningLevel) (written WarningLevel) k.warning a.warning (l WarningLevel);
        fault = taken (Legal p.rating FaultLevel) (written FaultLevel) k.fault a.fault (l FaultLevel);
      }

  pub stored_legal : IsAccepted p → (h : List Event) → Acceptable p.rating (stored_after p h)
  unfolding stored_after
  stored_legal a [] = (maintenance.accepted p.rating p.settings).0 a
  stored_legal a (reset_event at ∷ h) = stored_legal a h
  stored_legal a (frame_event at storing f ∷ h) =
      decided (heard_on (stored_after p h) f && in_session p h at && commits (message f) && storing)
      (λ t. rw t (taking_legal (stored_after p h) (λ s. last_write p h s) (stored_legal a h) (λ s v q. (maintenance.legal p.rating s v).0 (written_legal h s v q))))
      (λ t. rw t (stored_legal a h))
