-- The reading that looks back meets the demand in its own words. Assumes nothing.
use Prim.Native.Nat.{ℕ, ◌≤◌}
use mathlib.Core.Path.{◌≡◌, refl, sym, ap, subst, ◌∙◌}
use mathlib.Core.Bool.{Bool, true, false, cond, ◌&&◌}
use mathlib.Core.List.{List, ◌∷◌}
use mathlib.Core.Logic.{◌↔◌}
use Rattle.std.specs.Prelude.{Option}
use Rattle.std.specs.Option.{unwrap_or}
use Rattle.words.proofs.Tests.{decided, false_true, and_left, and_right}
use Rattle.maintenance_pages.specs.declared.setting.Setting.{Setting}
use Rattle.maintenance_pages.specs.declared.setting.Setting.TheVariants.{ReceiveId, TransmitId, Speed, Voltage, WarningLevel, FaultLevel}
use Rattle.maintenance_pages.specs.declared.setting.Settings.{Settings}
use Rattle.maintenance_pages.specs.Settings.{value_of}
use Rattle.maintenance_pages.specs.Messages.{message, heard_on}
use Rattle.time.specs.declared.Stamp.{Stamp}
use Rattle.rules.specs.Events.{Event, frame_event, reset_event, PowerOn, stamp_of, last_stamp}
use Rattle.rules.specs.History.{commits, taking, stored_after, in_session, last_write}
use Rattle.rules.specs.Demand.{Reading, looking_back, heard_since, Opened, Stores, Changes, Demand}
use Rattle.rules.proofs.Looking.{value_taking, commits_only, stored_frame}
use Rattle.rules.proofs.Written.{last_one}
use Rattle.rules.proofs.Starts.{last_start_lem}
use Rattle.rules.proofs.Sessions.{opened_session, opened_writes}
use Rattle.rules.proofs.Opened.{session_opened}

-- ---- settings, one by one

-- six equal values are the same settings
pub same_settings : (k n : Settings) → ((s : Setting) → value_of k s ≡ value_of n s) → k ≡ n
same_settings k n q = λ i.
    record { receive = q ReceiveId i; transmit = q TransmitId i; speed = q Speed i; voltage = q Voltage i; warning = q WarningLevel i; fault = q FaultLevel i }

-- ---- the event that stores, in any reading whose sessions are those of the words

abbrev pub stores_at : Reading → List Event → Event → Bool
stores_at r h (reset_event at) = false
stores_at r h (frame_event at storing f) = heard_on (r.stored h) f && r.session h at && commits (message f) && storing

module _ (p : PowerOn) (r : Reading) (h : List Event) (sessions : (t : Stamp) → (last_stamp p h).0 ≤ t.0 → r.session h t ≡ true ↔ Opened p r h t) where
  pub stores : (e : Event) → (last_stamp p h).0 ≤ (stamp_of e).0 → stores_at r h e ≡ true → Stores p r h e
  stores (reset_event at) l t = false_true (sym t)
  stores (frame_event at storing f) l t =
      let heard = heard_on (r.stored h) f in
      let session = r.session h at in
      let t3 = and_left (heard && session && commits (message f)) storing t in
      let t2 = and_left (heard && session) (commits (message f)) t3 in
      record {
        at = at;
        storing = storing;
        commit = f;
        event = refl;
        committing = commits_only (message f) (and_right (heard && session) (commits (message f)) t3);
        heard = and_left heard session t2;
        working = and_right (heard && session && commits (message f)) storing t;
        session = (sessions at l).0 (and_right heard session t2);
      }

  pub stores_there : (e : Event) → (last_stamp p h).0 ≤ (stamp_of e).0 → Stores p r h e → stores_at r h e ≡ true
  stores_there e l w =
      subst (λ (x : Event). stores_at r h x ≡ true) (sym w.event)
      (rw (w.heard, (sessions w.at (subst (λ (x : Event). (last_stamp p h).0 ≤ (stamp_of x).0) w.event l)).1 w.session, w.committing, w.working) refl)

  -- an event stores, or it does not
  pub by_store : {X : Type 0} (e : Event) → (last_stamp p h).0 ≤ (stamp_of e).0 → (Stores p r h e → X) → ((Stores p r h e → ⊥) → X) → X
  by_store e l some none =
      decided (stores_at r h e)
      (λ t. some (stores e l t))
      (λ t. none (λ w. false_true (sym (stores_there e l w) ∙ t)))

-- ---- the reading that looks back

module _ (p : PowerOn) (h : List Event) where
  sessions_back : (t : Stamp) → (last_stamp p h).0 ≤ t.0 → in_session p h t ≡ true ↔ Opened p (looking_back p) h t
  sessions_back t l = (session_opened p h t, opened_session p h t)

  stored_there : (e : Event) → stores_at (looking_back p) h e ≡ true → stored_after p (e ∷ h) ≡ taking (stored_after p h) (λ s. last_write p h s)
  stored_there (reset_event at) t = false_true (sym t)
  stored_there (frame_event at storing f) t =
      stored_frame p at storing f h ∙ ap (λ (b : Bool). cond b (taking (stored_after p h) (λ s. last_write p h s)) (stored_after p h)) t

  stays_there : (e : Event) → stores_at (looking_back p) h e ≡ false → stored_after p (e ∷ h) ≡ stored_after p h
  unfolding stored_after
  stays_there (reset_event at) t = refl
  stays_there (frame_event at storing f) t =
      stored_frame p at storing f h ∙ ap (λ (b : Bool). cond b (taking (stored_after p h) (λ s. last_write p h s)) (stored_after p h)) t

  changes_back : (e : Event) → (last_stamp p h).0 ≤ (stamp_of e).0 → Changes p (looking_back p) h e
  changes_back e l =
      record {
        only = λ s d. decided (stores_at (looking_back p) h e) (stores p (looking_back p) h sessions_back e l) (λ t. absurd (d (ap (λ (k : Settings). value_of k s) (stays_there e t))));
        takes = λ w s v a.
            ap (λ (k : Settings). value_of k s) (stored_there e (stores_there p (looking_back p) h sessions_back e l w))
            ∙ (value_taking (stored_after p h) (λ x. last_write p h x) s
            ∙ ap (λ (u : Option ℕ). unwrap_or u (value_of (stored_after p h) s))
            (opened_writes p h w.at w.session s ∙ last_one p.rating s (heard_since (looking_back p) h w.session.answer) v a));
        stays = λ n. decided (stores_at (looking_back p) h e) (λ t. absurd (n (stores p (looking_back p) h sessions_back e l t))) (stays_there e);
      }

pub demand_back : (p : PowerOn) → Demand p (looking_back p)
unfolding stored_after
demand_back p =
    record {
      first = λ a. refl;
      six = λ e h r. changes_back p h e r.1.0;
      sessions = λ h r. sessions_back p h;
      starts = last_start_lem p;
    }
