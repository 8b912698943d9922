-- Looking back over one event more: what each question answers after a reset, a frame that was heard and one that was not. Assumes nothing.
use Prim.Native.Nat.{ℕ}
use mathlib.Core.Path.{◌≡◌, refl, sym, ap, ◌∙◌}
use mathlib.Core.Bool.{Bool, true, false, cond, ◌&&◌}
use mathlib.Core.List.{List, ◌∷◌, ◌++◌}
use native.Mathlib.Omega.{arith}
use Rattle.std.specs.Prelude.{Option, Some, None}
use Rattle.std.specs.Option.{unwrap_or}
use Rattle.codec_pages.specs.declared.frame.Frame.{Frame}
use Rattle.maintenance_pages.specs.declared.setting.Setting.{Setting}
use Rattle.maintenance_pages.specs.declared.setting.Setting.TheVariants.{ReceiveId, TransmitId, Speed, Voltage, WarningLevel, FaultLevel}
use Rattle.maintenance_pages.specs.declared.setting.Settings.{Settings}
use Rattle.maintenance_pages.specs.Settings.{value_of}
use Rattle.maintenance_pages.specs.declared.message.Message.{Message}
use Rattle.maintenance_pages.specs.declared.message.Message.TheVariants.{Other, Unlock, Commit, Answer, SerialRequest, Read, Write}
use Rattle.maintenance_pages.specs.Messages.{message, heard_on}
use Rattle.words.proofs.Tests.{decided, false_true}
use Rattle.time.specs.declared.Stamp.{Stamp}
use Rattle.rules.specs.Events.{Event, frame_event, PowerOn}
use Rattle.rules.specs.History.{near, timely_unlock, timely_answer, unlocks, answers, commits, writes, leaves_open, leaves_pending, leaves_start, newest, taking, stored_after, in_session, pending_since, last_start, last_write}
use Rattle.rules.specs.Demand.{looking_back, heard_in}

-- ---- what a message is

by_kind : {X : Type 0} (x : Message) → (x ≡ Unlock → X) → (x ≡ Answer → X) → (x ≡ Commit → X) → (answers x ≡ false → commits x ≡ false → X) → X
by_kind Unlock u a c else = u refl
by_kind Answer u a c else = a refl
by_kind Commit u a c else = c refl
by_kind (SerialRequest w) u a c else = else refl refl
by_kind (Read s) u a c else = else refl refl
by_kind (Write s v) u a c else = else refl refl
by_kind Other u a c else = else refl refl

pub answers_only : (x : Message) → answers x ≡ true → x ≡ Answer
answers_only x e =
    by_kind x (λ q. false_true (sym e ∙ ap answers q)) (λ q. q) (λ q. false_true (sym e ∙ ap answers q)) (λ a c. false_true (sym e ∙ a))

pub commits_only : (x : Message) → commits x ≡ true → x ≡ Commit
commits_only x e =
    by_kind x (λ q. false_true (sym e ∙ ap commits q)) (λ q. false_true (sym e ∙ ap commits q)) (λ q. q) (λ a c. false_true (sym e ∙ c))

pub unlocks_only : (x : Message) → unlocks x ≡ true → x ≡ Unlock
unlocks_only Unlock e = refl
unlocks_only Answer e = false_true (sym e)
unlocks_only Commit e = false_true (sym e)
unlocks_only (SerialRequest w) e = false_true (sym e)
unlocks_only (Read s) e = false_true (sym e)
unlocks_only (Write s v) e = false_true (sym e)
unlocks_only Other e = false_true (sym e)

-- a test that only one message passes, and the words "is not that message"
pub not_said : (says : Message → Bool) (k x : Message) → (says x ≡ true → x ≡ k) → (x ≡ k → ⊥) → says x ≡ false
not_said says k x only n = decided (says x) (λ t. absurd (n (only t))) (λ t. t)

pub said_not : (says : Message → Bool) (k x : Message) → says k ≡ true → says x ≡ false → x ≡ k → ⊥
said_not says k x its e q = false_true (sym (ap says q ∙ its) ∙ e)

-- ---- what was written, or is pending, if anything

pub nothing : {A X : Type 0} (a : A) → ◌≡◌ {A = Option A} None (Some a) → X
nothing a e = let z : ◌≡◌ {A = ℕ} 0 1 = cc in absurd (omega arith)

pub value_taking : (k : Settings) (written : Setting → Option ℕ) (s : Setting) → value_of (taking k written) s ≡ unwrap_or (written s) (value_of k s)
value_taking k written ReceiveId = refl
value_taking k written TransmitId = refl
value_taking k written Speed = refl
value_taking k written Voltage = refl
value_taking k written WarningLevel = refl
value_taking k written FaultLevel = refl

-- ---- one event more

module _ (p : PowerOn) (at : Stamp) (storing : Bool) (f : Frame) (h : List Event) where
  abbrev it : Event
  it = frame_event at storing f

  pub stored_frame : stored_after p (it ∷ h) ≡ cond (heard_on (stored_after p h) f && in_session p h at && commits (message f) && storing) (taking (stored_after p h) (λ s. last_write p h s)) (stored_after p h)
  unfolding stored_after
  stored_frame = refl

  -- ---- not heard

  module _ (x : heard_on (stored_after p h) f ≡ false) where
    pub session_unheard : (t : Stamp) → in_session p (it ∷ h) t ≡ in_session p h t
    unfolding stored_after
    session_unheard t = rw x refl

    pub pending_unheard : pending_since p (it ∷ h) ≡ pending_since p h
    unfolding stored_after
    pending_unheard = rw x refl

    pub start_unheard : (t : Stamp) → last_start p (it ∷ h) t ≡ last_start p h t
    unfolding stored_after
    start_unheard t = rw x refl

    pub write_unheard : (s : Setting) → last_write p (it ∷ h) s ≡ last_write p h s
    unfolding stored_after
    write_unheard s = rw x refl

  -- ---- heard

  module _ (x : heard_on (stored_after p h) f ≡ true) where
    pub session_heard : (t : Stamp) → in_session p (it ∷ h) t ≡ (leaves_open (in_session p h at) (message f) (timely_answer p.serial f (pending_since p h) at) && near at t)
    unfolding stored_after
    session_heard t = rw x refl

    pub pending_heard : pending_since p (it ∷ h) ≡ leaves_pending (in_session p h at) (message f) (timely_unlock (last_start p h at) at) at (pending_since p h)
    unfolding stored_after
    pending_heard = rw x refl

    pub start_heard : (t : Stamp) → last_start p (it ∷ h) t ≡ leaves_start (in_session p h at) (message f) (timely_answer p.serial f (pending_since p h) at) at t (last_start p h at)
    unfolding stored_after
    start_heard t = rw x refl

    pub write_heard : (s : Setting) → last_write p (it ∷ h) s ≡ cond (in_session p h at) (newest (writes p.rating s (message f)) (last_write p h s)) None
    unfolding stored_after
    write_heard s = rw x refl

-- ---- what was heard since

module _ (p : PowerOn) (at : Stamp) (storing : Bool) (f : Frame) (since before : List Event) where
  pub unheard_since : heard_on (stored_after p (since ++ before)) f ≡ false → heard_in (looking_back p) (frame_event at storing f ∷ since) before ≡ heard_in (looking_back p) since before
  unfolding heard_in
  unheard_since x = rw x refl

  pub heard_since_lem : heard_on (stored_after p (since ++ before)) f ≡ true → heard_in (looking_back p) (frame_event at storing f ∷ since) before ≡ (record { at = at; frame = f } ∷ heard_in (looking_back p) since before)
  unfolding heard_in
  heard_since_lem x = rw x refl
