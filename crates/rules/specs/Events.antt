-- Events, and what power-on takes: what a run is made of.
use Rattle.std.specs.Prelude.{ℕ, ◌≤◌, ◌≡◌, Bool, true, false, cond, List, [], ◌∷◌}
use Rattle.codec_pages.specs.declared.frame.Frame.{Frame}
use Rattle.codec_pages.specs.Frames.{over_limits}
use Rattle.time.specs.declared.Stamp.{Stamp}
use Rattle.time.specs.Times.{earlier}
use Rattle.maintenance_pages.specs.declared.setting.Settings.{Settings}
use Rattle.maintenance_pages.specs.Settings.{accepted}

-- "Events: a frame with a stamp and a note whether storage works, or a reset with a stamp."
pub data Event : Type 0 where
  frame_event : Stamp → Bool → Frame → Event
  reset_event : Stamp → Event

abbrev pub stamp_of : Event → Stamp
stamp_of (frame_event at storing f) = at
stamp_of (reset_event at) = at

-- refusal 1
abbrev pub beyond : Event → Bool
beyond (frame_event at storing f) = over_limits f
beyond (reset_event at) = false

-- what power-on takes
pub record PowerOn : Type 0 where
  pub at : Stamp
  pub serial : List ℕ
  pub rating : ℕ
  pub settings : Settings

abbrev pub IsAccepted : PowerOn → Type 0
IsAccepted p = accepted p.rating p.settings ≡ true

-- ---- runs

-- "the last accepted one (or power-on)"
abbrev pub last_stamp : PowerOn → List Event → Stamp
last_stamp p [] = p.at
last_stamp p (e ∷ h) = stamp_of e

-- a run of accepted events, the newest first, from an accepted power-on: within the limits, and no stamp earlier than the one before
abbrev pub Run : PowerOn → List Event → Type 0
Run p [] = IsAccepted p
Run p (e ∷ h) = (beyond e ≡ false) × (((last_stamp p h).0 ≤ (stamp_of e).0) × Run p h)

-- of any events at all, those that are accepted
abbrev pub accepted_of : PowerOn → List Event → List Event
accepted_of p [] = []
accepted_of p (e ∷ h) =
    cond (beyond e) (accepted_of p h) (cond (earlier (stamp_of e) (last_stamp p (accepted_of p h))) (accepted_of p h) (e ∷ accepted_of p h))
