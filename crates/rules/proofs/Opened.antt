-- Where a session is open the words say so: it was opened, and so was the challenge of its answer. Assumes nothing.
use Prim.Native.Nat.{ℕ, ◌+◌, ◌≤◌}
use mathlib.Core.Path.{◌≡◌, refl, sym, ap, subst, ◌∙◌}
use mathlib.Core.Bool.{Bool, true, false, ◌&&◌}
use mathlib.Core.List.{List, [], ◌∷◌, ◌++◌}
use borrow.Author.Tests.{leb-true, not-true}
use Rattle.std.specs.Prelude.{Option, Some, None}
use Rattle.words.proofs.Tests.{decided, false_true, and_left, and_right}
use Rattle.codec_pages.specs.declared.frame.Frame.{Frame}
use Rattle.maintenance_pages.specs.declared.message.Message.{Message}
use Rattle.maintenance_pages.specs.declared.message.Message.TheVariants.{Other, Unlock, Commit, Answer, SerialRequest, Read, Write}
use Rattle.maintenance_pages.specs.Messages.{message, heard_on, is_right}
use Rattle.time.specs.declared.Stamp.{Stamp}
use Rattle.rules.specs.Events.{Event, frame_event, reset_event, PowerOn}
use Rattle.rules.specs.History.{near, timely_unlock, in_time, timely_answer, unlocks, answers, commits, leaves_open, leaves_pending, stored_after, in_session, pending_since, last_start}
use Rattle.rules.specs.Demand.{looking_back, Heard, heard_in, No, Close, Past, heard_since, Unlocked, Opened}
use Rattle.rules.proofs.Looking.{nothing, answers_only, said_not, session_unheard, pending_unheard, session_heard, pending_heard, unheard_since, heard_since_lem}

-- ---- one event more

module _ (p : PowerOn) (h : List Event) (s : Stamp) (works : Bool) (g : Frame) where
  -- the same message, one event later
  abbrev further : Past (looking_back p) h → Past (looking_back p) (frame_event s works g ∷ h)
  further m =
      record {
        since = frame_event s works g ∷ m.since;
        at = m.at;
        storing = m.storing;
        frame = m.frame;
        before = m.before;
        place = ap (λ (l : List Event). frame_event s works g ∷ l) m.place;
        heard = m.heard;
        no_reset = m.no_reset;
      }

  there : (b : Bool) (m : Past (looking_back p) h) → heard_on (stored_after p h) g ≡ b → heard_on (stored_after p (m.since ++ (frame_event m.at m.storing m.frame ∷ m.before))) g ≡ b
  there b m x = subst (λ (l : List Event). heard_on (stored_after p l) g ≡ b) m.place x

  further_unheard : (m : Past (looking_back p) h) → heard_on (stored_after p h) g ≡ false → heard_since (looking_back p) h m ≡ heard_since (looking_back p) (frame_event s works g ∷ h) (further m)
  further_unheard m x = sym (unheard_since p s works g m.since _ (there false m x))

  further_heard : (m : Past (looking_back p) h) → heard_on (stored_after p h) g ≡ true → (record { at = s; frame = g } ∷ heard_since (looking_back p) h m) ≡ heard_since (looking_back p) (frame_event s works g ∷ h) (further m)
  further_heard m x = sym (heard_since_lem p s works g m.since _ (there true m x))

  -- the message itself
  abbrev now : heard_on (stored_after p h) g ≡ true → Past (looking_back p) (frame_event s works g ∷ h)
  now x = record { since = []; at = s; storing = works; frame = g; before = h; place = refl; heard = x; no_reset = refl }

-- ---- what is pending was unlocked

-- what a heard message leaves pending: its own challenge, or what was pending
left_pending : {X : Type 0} (o : Bool) (x : Message) (timely : Bool) (at : Stamp) (before : Option Stamp) (u : Stamp) → leaves_pending o x timely at before ≡ Some u → (o ≡ false → x ≡ Unlock → timely ≡ true → at ≡ u → X) → (unlocks x ≡ false → answers x ≡ false → before ≡ Some u → X) → X
left_pending true x timely at before u e own old = nothing u e
left_pending false Unlock true at before u e own old = own refl refl refl (cc)
left_pending false Unlock false at before u e own old = nothing u e
left_pending false Answer timely at before u e own old = nothing u e
left_pending false Commit timely at before u e own old = old refl refl e
left_pending false (SerialRequest w) timely at before u e own old = old refl refl e
left_pending false (Read s) timely at before u e own old = old refl refl e
left_pending false (Write s v) timely at before u e own old = old refl refl e
left_pending false Other timely at before u e own old = old refl refl e

-- the unlock whose challenge is pending since a stamp
abbrev Pends : PowerOn → List Event → Stamp → Type 0
Pends p h u = (w : Unlocked (looking_back p) h) × (w.unlock.at ≡ u)

module _ (p : PowerOn) (h : List Event) (s : Stamp) (works : Bool) (g : Frame) (u : Stamp) where
  pends_now : heard_on (stored_after p h) g ≡ true → message g ≡ Unlock → in_session p h s ≡ false → s.0 ≤ (last_start p h s).0 + 10000 → s ≡ u → Pends p (frame_event s works g ∷ h) u
  unfolding heard_in
  pends_now x m o l q = (record { unlock = now p h s works g x; unlocking = m; outside = o; timely = l; no_unlock = tt; no_answer = tt }, q)

  pends_further : (q : Pends p h u) → (let l = heard_since (looking_back p) (frame_event s works g ∷ h) (further p h s works g q.0.unlock) in No Unlock l → No Answer l → Pends p (frame_event s works g ∷ h) u)
  pends_further (w, q) n a = (
    record { unlock = further p h s works g w.unlock; unlocking = w.unlocking; outside = w.outside; timely = w.timely; no_unlock = n; no_answer = a },
    q,
  )

  pends_heard : heard_on (stored_after p h) g ≡ true → unlocks (message g) ≡ false → answers (message g) ≡ false → Pends p h u → Pends p (frame_event s works g ∷ h) u
  pends_heard x n a q =
      let more = further_heard p h s works g q.0.unlock x in
      pends_further q (subst (No Unlock) more (said_not unlocks Unlock (message g) refl n, q.0.no_unlock)) (subst (No Answer) more (said_not answers Answer (message g) refl a, q.0.no_answer))

  pends_unheard : heard_on (stored_after p h) g ≡ false → Pends p h u → Pends p (frame_event s works g ∷ h) u
  pends_unheard x q =
      let same = further_unheard p h s works g q.0.unlock x in
      pends_further q (subst (No Unlock) same q.0.no_unlock) (subst (No Answer) same q.0.no_answer)

pub pending_unlocked : (p : PowerOn) (h : List Event) (u : Stamp) → pending_since p h ≡ Some u → Pends p h u
unfolding stored_after
pending_unlocked p [] u e = nothing u e
pending_unlocked p (reset_event at ∷ h) u e = nothing u e
pending_unlocked p (frame_event at storing f ∷ h) u e =
    decided (heard_on (stored_after p h) f)
    (λ x.
    left_pending (in_session p h at) (message f) (timely_unlock (last_start p h at) at) at (pending_since p h) u (sym (pending_heard p at storing f h x) ∙ e)
    (λ o m l q. pends_now p h at storing f u x m o (leb-true _ _ l) q)
    (λ n a q. pends_heard p h at storing f u x n a (pending_unlocked p h u q)))
    (λ x. pends_unheard p h at storing f u x (pending_unlocked p h u (sym (pending_unheard p at storing f h x) ∙ e)))

-- ---- an open session was opened

-- what a heard message leaves open: the session that was, or the one that it opens
left_open : {X : Type 0} (o : Bool) (x : Message) (right : Bool) → leaves_open o x right ≡ true → (o ≡ true → commits x ≡ false → X) → (o ≡ false → x ≡ Answer → right ≡ true → X) → X
left_open true x right e goes_on begins = goes_on refl (not-true (commits x) e)
left_open false x right e goes_on begins =
    begins refl (answers_only x (and_left (answers x) right e)) (and_right (answers x) right e)

-- a timely right answer has a challenge
answered_timely : {X : Type 0} (serial : List ℕ) (f : Frame) (pending : Option Stamp) (at : Stamp) → timely_answer serial f pending at ≡ true → ((u : Stamp) → pending ≡ Some u → is_right serial f ≡ true → at.0 ≤ u.0 + 2000 → X) → X
answered_timely serial f None at e then = false_true (sym e)
answered_timely serial f (Some u) at e then =
    then u refl (and_left (is_right serial f) (in_time u at) e) (leb-true _ _ (and_right (is_right serial f) (in_time u at) e))

module _ (p : PowerOn) (h : List Event) (s : Stamp) (works : Bool) (g : Frame) (t : Stamp) where
  opened_further : (v : Stamp) (w : Opened p (looking_back p) h v) → (let l = heard_since (looking_back p) (frame_event s works g ∷ h) (further p h s works g w.answer) in No Commit l → Close w.answer.at l t → Opened p (looking_back p) (frame_event s works g ∷ h) t)
  opened_further v w n c =
      record { answer = further p h s works g w.answer; answering = w.answering; right = w.right; unlocked = w.unlocked; timely = w.timely; no_commit = n; close = c }

  opened_unheard : heard_on (stored_after p h) g ≡ false → Opened p (looking_back p) h t → Opened p (looking_back p) (frame_event s works g ∷ h) t
  opened_unheard x w =
      let same = further_unheard p h s works g w.answer x in
      opened_further t w (subst (No Commit) same w.no_commit) (subst (λ (l : List Heard). Close w.answer.at l t) same w.close)

  opened_heard : heard_on (stored_after p h) g ≡ true → commits (message g) ≡ false → t.0 ≤ s.0 + 2000 → Opened p (looking_back p) h s → Opened p (looking_back p) (frame_event s works g ∷ h) t
  opened_heard x n l w =
      let more = further_heard p h s works g w.answer x in
      opened_further s w (subst (No Commit) more (said_not commits Commit (message g) refl n, w.no_commit)) (subst (λ (q : List Heard). Close w.answer.at q t) more (l, w.close))

  opened_now : heard_on (stored_after p h) g ≡ true → message g ≡ Answer → is_right p.serial g ≡ true → (u : Stamp) → Pends p h u → s.0 ≤ u.0 + 2000 → t.0 ≤ s.0 + 2000 → Opened p (looking_back p) (frame_event s works g ∷ h) t
  unfolding heard_in
  opened_now x m r u (w, q) l n =
      record {
        answer = now p h s works g x;
        answering = m;
        right = r;
        unlocked = w;
        timely = subst (λ (v : Stamp). s.0 ≤ v.0 + 2000) (sym q) l;
        no_commit = tt;
        close = n;
      }

pub session_opened : (p : PowerOn) (h : List Event) (t : Stamp) → in_session p h t ≡ true → Opened p (looking_back p) h t
unfolding stored_after
session_opened p [] t e = false_true (sym e)
session_opened p (reset_event at ∷ h) t e = false_true (sym e)
session_opened p (frame_event at storing f ∷ h) t e =
    decided (heard_on (stored_after p h) f)
    (λ x.
    let right = timely_answer p.serial f (pending_since p h) at in
    let left = leaves_open (in_session p h at) (message f) right in
    let both : (left && near at t) ≡ true = sym (session_heard p at storing f h x t) ∙ e in
    let n = leb-true _ _ (and_right left (near at t) both) in
    left_open (in_session p h at) (message f) right (and_left left (near at t) both)
    (λ o c. opened_heard p h at storing f t x c n (session_opened p h at o))
    (λ o m r.
    answered_timely p.serial f (pending_since p h) at r
    (λ u q i l. opened_now p h at storing f t x m i u (pending_unlocked p h u q) l n)))
    (λ x. opened_unheard p h at storing f t x (session_opened p h t (sym (session_unheard p at storing f h x t) ∙ e)))
