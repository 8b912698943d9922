-- Where the words say that a session is open it is, and its last accepted writes are those that were heard. Assumes nothing.
use Prim.Native.Nat.{◌+◌, ◌≤◌}
use mathlib.Core.Path.{◌≡◌, refl, sym, ap, subst, ◌∙◌}
use mathlib.Core.Bool.{Bool, true, false}
use mathlib.Core.List.{List, [], ◌∷◌, ◌++◌}
use borrow.Author.Tests.{le-leb}
use Rattle.std.specs.Prelude.{Some, None}
use Rattle.words.proofs.Tests.{decided, false_true}
use Rattle.codec_pages.specs.declared.frame.Frame.{Frame}
use Rattle.maintenance_pages.specs.declared.setting.Setting.{Setting}
use Rattle.maintenance_pages.specs.declared.message.Message.TheVariants.{Unlock, Commit, Answer}
use Rattle.maintenance_pages.specs.Messages.{message, heard_on}
use Rattle.time.specs.declared.Stamp.{Stamp}
use Rattle.rules.specs.Events.{Event, frame_event, reset_event, PowerOn}
use Rattle.rules.specs.History.{near, timely_unlock, in_time, unlocks, answers, commits, writes, newest, stored_after, in_session, pending_since, last_start, last_write}
use Rattle.rules.specs.Demand.{looking_back, Heard, heard_in, No, has_reset, Close, heard_since, Unlocked, Opened}
use Rattle.rules.proofs.Written.{last_accepted}
use Rattle.rules.proofs.Looking.{unlocks_only, answers_only, commits_only, not_said, session_unheard, pending_unheard, write_unheard, session_heard, pending_heard, write_heard, unheard_since, heard_since_lem}

-- ---- event by event since a place, where there was no reset

since_there : (p : PowerOn) (h : List Event) (P : List Event → List Heard → Type 0)
    → P [] []
    → ((s : Stamp) (works : Bool) (g : Frame) (since : List Event) (l : List Heard) → heard_on (stored_after p (since ++ h)) g ≡ false → P since l → P (frame_event s works g ∷ since) l)
    → ((s : Stamp) (works : Bool) (g : Frame) (since : List Event) (l : List Heard) → heard_on (stored_after p (since ++ h)) g ≡ true → P since l → P (frame_event s works g ∷ since) (record { at = s; frame = g } ∷ l))
    → (since : List Event) → has_reset since ≡ false → P since (heard_in (looking_back p) since h)
unfolding heard_in
since_there p h P first unheard heard [] r = first
since_there p h P first unheard heard (reset_event s ∷ since) r = false_true r
since_there p h P first unheard heard (frame_event s works g ∷ since) r =
    let older = since_there p h P first unheard heard since r in
    decided (heard_on (stored_after p (since ++ h)) g)
    (λ x. subst (P (frame_event s works g ∷ since)) (sym (heard_since_lem p s works g since h x)) (heard s works g since (heard_in (looking_back p) since h) x older))
    (λ x. subst (P (frame_event s works g ∷ since)) (sym (unheard_since p s works g since h x)) (unheard s works g since (heard_in (looking_back p) since h) x older))

-- ---- the challenge of an unlock stays

module _ (p : PowerOn) (at : Stamp) (storing : Bool) (f : Frame) (before : List Event) where
  abbrev here : List Event
  here = frame_event at storing f ∷ before

  -- pending since the unlock, and no session
  abbrev Challenged : List Event → Type 0
  Challenged h = (pending_since p h ≡ Some at) × ((t : Stamp) → in_session p h t ≡ false)

  challenge_made : heard_on (stored_after p before) f ≡ true → message f ≡ Unlock → in_session p before at ≡ false → at.0 ≤ (last_start p before at).0 + 10000 → Challenged here
  challenge_made x m o l = (
    pending_heard p at storing f before x ∙ (let timely : timely_unlock (last_start p before at) at ≡ true = le-leb _ _ l in rw (o, m, timely) refl),
    λ t. session_heard p at storing f before x t ∙ rw (o, m) refl,
  )

  challenge_stays : Challenged here → (since : List Event) → has_reset since ≡ false → No Unlock (heard_in (looking_back p) since here) → No Answer (heard_in (looking_back p) since here) → Challenged (since ++ here)
  challenge_stays c =
      since_there p here (λ since l. No Unlock l → No Answer l → Challenged (since ++ here))
      (λ u a. c)
      (λ s works g since l x older u a.
      let c' = older u a in (
        pending_unheard p s works g (since ++ here) x ∙ c'.0,
        λ t. session_unheard p s works g (since ++ here) x t ∙ c'.1 t,
      ))
      (λ s works g since l x older u a.
      let c' = older u.1 a.1 in
      let unlock = not_said unlocks Unlock (message g) (unlocks_only (message g)) u.0 in
      let answer = not_said answers Answer (message g) (answers_only (message g)) a.0 in (
        pending_heard p s works g (since ++ here) x ∙ rw (c'.1 s, unlock, answer) c'.0,
        λ t. session_heard p s works g (since ++ here) x t ∙ rw (c'.1 s, answer) refl,
      ))

  -- ---- a session lasts

  -- open for 2,000 ms, and nothing written yet
  record Begins : Type 0 where
    opens : (t : Stamp) → t.0 ≤ at.0 + 2000 → in_session p here t ≡ true
    unwritten : (s : Setting) → last_write p here s ≡ None

  -- open for a message at t, with these writes
  record Lasts (h : List Event) (l : List Heard) (t : Stamp) : Type 0 where
    open_for : in_session p h t ≡ true
    written : (s : Setting) → last_write p h s ≡ last_accepted p.rating s l

  session_lasts : Begins → (since : List Event) → has_reset since ≡ false → No Commit (heard_in (looking_back p) since here) → (t : Stamp) → Close at (heard_in (looking_back p) since here) t → Lasts (since ++ here) (heard_in (looking_back p) since here) t
  session_lasts b =
      since_there p here (λ since l. No Commit l → (t : Stamp) → Close at l t → Lasts (since ++ here) l t)
      (λ n t c. record { open_for = b.opens t c; written = b.unwritten })
      (λ s works g since l x older n t c.
      let q = older n t c in
      record {
        open_for = session_unheard p s works g (since ++ here) x t ∙ q.open_for;
        written = λ k. write_unheard p s works g (since ++ here) x k ∙ q.written k;
      })
      (λ s works g since l x older n t c.
      let q = older n.1 s c.1 in
      record {
        open_for =
            let commit = not_said commits Commit (message g) (commits_only (message g)) n.0 in
            let soon : near s t ≡ true = le-leb _ _ c.0 in
            session_heard p s works g (since ++ here) x t ∙ rw (q.open_for, commit, soon) refl;
        written = λ k. write_heard p s works g (since ++ here) x k ∙ rw q.open_for (ap (newest (writes p.rating k (message g))) (q.written k));
      })

-- the challenge of an unlock is pending, and no session is open
pub unlocked_pending : (p : PowerOn) (h : List Event) (w : Unlocked (looking_back p) h) → (pending_since p h ≡ Some w.unlock.at) × ((t : Stamp) → in_session p h t ≡ false)
unlocked_pending p h w =
    let u = w.unlock in
    subst (Challenged p u.at u.storing u.frame u.before) (sym u.place)
    (challenge_stays p u.at u.storing u.frame u.before
    (challenge_made p u.at u.storing u.frame u.before u.heard w.unlocking w.outside w.timely)
    u.since u.no_reset w.no_unlock w.no_answer)

begins : (p : PowerOn) (h : List Event) (t : Stamp) (w : Opened p (looking_back p) h t) → Begins p w.answer.at w.answer.storing w.answer.frame w.answer.before
begins p h t w =
    let a = w.answer in
    let c = unlocked_pending p a.before w.unlocked in
    record {
      opens = λ u n.
          let timely : in_time w.unlocked.unlock.at a.at ≡ true = le-leb _ _ w.timely in
          let soon : near a.at u ≡ true = le-leb _ _ n in
          session_heard p a.at a.storing a.frame a.before a.heard u ∙ rw (c.1 a.at, w.answering, c.0, w.right, timely, soon) refl;
      unwritten = λ s. write_heard p a.at a.storing a.frame a.before a.heard s ∙ rw (c.1 a.at) refl;
    }

lasts : (p : PowerOn) (h : List Event) (t : Stamp) (w : Opened p (looking_back p) h t) → Lasts p w.answer.at w.answer.storing w.answer.frame w.answer.before h (heard_since (looking_back p) h w.answer) t
lasts p h t w =
    let a = w.answer in
    subst (λ (l : List Event). Lasts p a.at a.storing a.frame a.before l (heard_since (looking_back p) h a) t) (sym a.place)
    (session_lasts p a.at a.storing a.frame a.before (begins p h t w) a.since a.no_reset w.no_commit t w.close)

-- where the words say that a session is open, it is
pub opened_session : (p : PowerOn) (h : List Event) (t : Stamp) → Opened p (looking_back p) h t → in_session p h t ≡ true
opened_session p h t w = (lasts p h t w).open_for

-- and its last accepted writes are those heard since its answer
pub opened_writes : (p : PowerOn) (h : List Event) (t : Stamp) (w : Opened p (looking_back p) h t) (s : Setting) → last_write p h s ≡ last_accepted p.rating s (heard_since (looking_back p) h w.answer)
opened_writes p h t w = (lasts p h t w).written
