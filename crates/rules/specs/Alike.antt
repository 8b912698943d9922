-- Bytes past the length are no part of a frame, over whole histories: two that differ only there.
use Rattle.std.specs.Prelude.{◌≡◌, List, [], ◌∷◌}
use Rattle.codec_pages.specs.Alike.{Alike}
use Rattle.rules.specs.declared.unit.Monitor.{Monitor}
use Rattle.rules.specs.Events.{Event, frame_event, reset_event, stamp_of, beyond, PowerOn, Run}
use Rattle.rules.specs.Rules.{step, unit_after}
use Rattle.rules.specs.History.{stored_after, reply_to}

-- the same event, but for bytes past a frame's length
abbrev pub AlikeEvents : Event → Event → Type 0
AlikeEvents (reset_event at) (reset_event at') = at ≡ at'
AlikeEvents (frame_event at storing f) (frame_event at' storing' g) = (at ≡ at') × ((storing ≡ storing') × Alike f g)
AlikeEvents (reset_event at) (frame_event at' storing' g) = ⊥
AlikeEvents (frame_event at storing f) (reset_event at') = ⊥

abbrev pub AlikeHistories : List Event → List Event → Type 0
AlikeHistories [] [] = Unit
AlikeHistories (e ∷ h) (e' ∷ h') = AlikeEvents e e' × AlikeHistories h h'
AlikeHistories [] (e' ∷ h') = ⊥
AlikeHistories (e ∷ h) [] = ⊥

-- such events are refused alike, are at the same stamp, and leave every monitor alike, with the same reply
pub record SameEvent (e e' : Event) : Type 0 where
  pub beyond : beyond e ≡ beyond e'
  pub stamp : stamp_of e ≡ stamp_of e'
  pub step : (m : Monitor) → step e m ≡ step e' m

-- such histories are both runs, with the same unit; the look-back says the same of both: the six, and the reply to what comes next
pub record SameHistory (p : PowerOn) (h h' : List Event) : Type 0 where
  pub run : Run p h'
  pub unit : unit_after p h ≡ unit_after p h'
  pub stored : stored_after p h ≡ stored_after p h'
  pub reply : (e e' : Event) → AlikeEvents e e' → Run p (e ∷ h) → reply_to p h e ≡ reply_to p h' e'
