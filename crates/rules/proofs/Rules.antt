-- The rules: silence keeps what is stored, an unheard frame changes nothing more, and a start keeps nothing else. Assumes nothing.
use Prim.Native.Nat.{ℕ, ◌≤◌}
use mathlib.Core.Path.{◌≡◌, refl, sym, ap, ◌∙◌}
use mathlib.Core.Bool.{Bool, true, cond, ◌&&◌}
use mathlib.Core.List.{List, ◌∷◌}
use lib.Dec.{eqb, ltb}
use borrow.Author.Tests.{lt-ltb, ltb-true}
use native.Mathlib.Omega.{arith}
use Rattle.words.proofs.Tests.{decided}
use Rattle.codec_pages.specs.declared.frame.Frame.{Frame}
use Rattle.time.specs.declared.Stamp.{Stamp}
use Rattle.maintenance_pages.specs.declared.setting.Settings.{Settings}
use Rattle.rules.specs.declared.unit.Phase.{Phase}
use Rattle.rules.specs.declared.unit.Phase.TheVariants.{Outside, InSession}
use Rattle.rules.specs.declared.unit.Monitor.{Monitor}
use Rattle.rules.specs.declared.unit.Turn.{Turn}
use Rattle.maintenance_pages.specs.Messages.{quiet}
use Rattle.rules.specs.Rules.{turn, silent, restart, started_with, started, woken_by, woken, heard, met, was_reset, step, unit_after}
use Rattle.rules.specs.Events.{Event, PowerOn}
use Rattle.rules.specs.Promise.{UnheardChangesNothing, Fresh, Starts}

-- a reset finds the same unit, silence or not
reset_woken_by : (phase : Phase) (at : Stamp) (m : Monitor) → was_reset at m ≡ was_reset at (woken_by phase at m)
reset_woken_by (Outside pending) at m = refl
reset_woken_by (InSession s) at m = decided (silent s.heard at) (λ t. rw t refl) (λ t. rw t refl)

pub reset_woken : (at : Stamp) (m : Monitor) → was_reset at m ≡ was_reset at (woken at m)
reset_woken at m = reset_woken_by m.phase at m

-- silence stores nothing
woken_stored : (at : Stamp) (m : Monitor) → (woken at m).stored ≡ m.stored
woken_stored at m = sym (ap (λ (t : Turn). t.monitor.stored) (reset_woken at m))

-- what was silent stays so
past_later : (limit a b : ℕ) → ltb limit a ≡ true → a ≤ b → ltb limit b ≡ true
past_later limit a b x l = lt-ltb limit b (let q = ltb-true limit a x in omega arith)

silent_later : (heard at t : Stamp) → silent heard at ≡ true → at.0 ≤ t.0 → silent heard t ≡ true
silent_later heard at t x l = past_later _ at.0 t.0 x l

-- a silence that a later stamp shows is the one that an earlier stamp has shown
woken_later_by : (at t : Stamp) (m : Monitor) (phase : Phase) → m.phase ≡ phase → at.0 ≤ t.0 → woken t (woken at m) ≡ woken t m
woken_later_by at t m (Outside pending) e l = ap (woken t) (ap (λ (p : Phase). woken_by p at m) e)
woken_later_by at t m (InSession s) e l =
    decided (silent s.heard at)
    (λ x.
    let late : silent s.heard t ≡ true = silent_later s.heard at t x l in
    let now : woken at m ≡ started (restart s.heard) m.stored m = ap (λ (p : Phase). woken_by p at m) e ∙ rw x refl in
    let then : woken t m ≡ started (restart s.heard) m.stored m = ap (λ (p : Phase). woken_by p t m) e ∙ rw late refl in
    ap (woken t) now ∙ sym then)
    (λ x. let now : woken at m ≡ m = ap (λ (p : Phase). woken_by p at m) e ∙ rw x refl in ap (woken t) now)

pub woken_later : (at t : Stamp) (m : Monitor) → at.0 ≤ t.0 → woken t (woken at m) ≡ woken t m
woken_later at t m l = woken_later_by at t m m.phase refl l

-- it is heard as before
woken_heard : (at : Stamp) (f : Frame) (m : Monitor) → heard f (woken at m) ≡ heard f m
woken_heard at f m = ap (λ (k : Settings). f.extended && eqb f.identifier k.receive) (woken_stored at m)

pub unheard : UnheardChangesNothing
unheard at storing f m h =
    ap (λ (t : Bool). cond t (met at storing f (woken at m)) (turn (woken at m) quiet)) (woken_heard at f m ∙ h)

-- an event leaves the unit that its rule leaves
pub unit_next : (p : PowerOn) (e : Event) (h : List Event) → unit_after p (e ∷ h) ≡ (step e (unit_after p h)).monitor
unit_next p e h = refl

-- every start is fresh
pub fresh : (serial : List ℕ) (rating : ℕ) (stored : Settings) (at : Stamp) → Fresh serial rating stored at (started_with serial rating stored at)
fresh serial rating stored at = record { serial = refl; rating = refl; stored = refl; start = refl; locked = refl }

pub starts : (m : Monitor) → Starts m
starts m =
    record {
      fresh = λ at k. fresh m.serial m.rating k at;
      reset = λ at. refl;
      silence = λ s at e l. ap (λ (p : Phase). woken_by p at m) e ∙ (let over : silent s.heard at ≡ true = lt-ltb _ _ l in rw over refl);
    }
