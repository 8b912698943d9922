-- The last start is the latest of the four. Assumes nothing.
use Prim.Native.Nat.{◌+◌, ◌≤◌, ◌<◌}
use mathlib.Core.Path.{◌≡◌, refl, sym, ap, subst, ◌∙◌}
use mathlib.Core.Bool.{Bool, true, false, ◌&&◌}
use mathlib.Core.List.{List, [], ◌∷◌, ◌++◌, append-nil}
use borrow.Author.Tests.{leb-true, leb-false, le-leb, lt-leb, not-true}
use native.Mathlib.Omega.{arith}
use Rattle.words.proofs.Tests.{decided, false_true, and_left, and_right}
use Rattle.codec_pages.specs.declared.frame.Frame.{Frame}
use Rattle.maintenance_pages.specs.declared.message.Message.{Message}
use Rattle.maintenance_pages.specs.Messages.{message, heard_on}
use Rattle.time.specs.declared.Stamp.{Stamp}
use Rattle.time.specs.Times.{later}
use Rattle.rules.specs.Events.{Event, frame_event, reset_event, PowerOn, stamp_of, last_stamp, Run}
use Rattle.rules.specs.History.{near, timely_answer, commits, leaves_open, leaves_start, stored_after, in_session, pending_since, last_start}
use Rattle.rules.specs.Demand.{looking_back, Silent, Start, at_power_on, at_reset, at_commit, after_silence, LastStart}
use Rattle.rules.proofs.Looking.{commits_only, start_unheard, start_heard, session_heard}

-- ---- what a heard message leaves as the last start: its own stamp, a silence after it, or what it was

left_start : {X : Type 0} (o : Bool) (x : Message) (right : Bool) (at t before : Stamp) → (o ≡ true → commits x ≡ true → leaves_start o x right at t before ≡ at → X) → (leaves_open o x right ≡ true → at.0 + 2000 < t.0 → leaves_start o x right at t before ≡ later at 2000 → X) → (leaves_start o x right at t before ≡ before → X) → X
left_start o x right at t before commit silence same =
    decided (o && commits x)
    (λ c. commit (and_left o (commits x) c) (and_right o (commits x) c) (rw c refl))
    (λ c. decided (leaves_open o x right)
    (λ l. decided (near at t)
    (λ n. same (rw (c, l, n) refl))
    (λ n. silence l (leb-false _ _ n) (rw (c, l, n) refl)))
    (λ l. same (rw (c, l) refl)))

-- ---- a start is never after what is asked, and never goes back

no_sooner : (o : Bool) (x : Message) (right : Bool) (at t u before : Stamp) → before.0 ≤ at.0 → t.0 ≤ u.0 → (leaves_start o x right at t before).0 ≤ (leaves_start o x right at u before).0
no_sooner o x right at t u before b l =
    decided (o && commits x)
    (λ c. rw c (omega arith))
    (λ c. decided (leaves_open o x right)
    (λ m. decided (near at u)
    (λ n. rw (c, m, n, le-leb t.0 (at.0 + 2000) (let q = leb-true u.0 (at.0 + 2000) n in omega arith)) (omega arith))
    (λ n. decided (near at t) (λ k. rw (c, m, n, k) (omega arith)) (λ k. rw (c, m, n, k) (omega arith))))
    (λ m. rw (c, m) (omega arith)))

module _ (p : PowerOn) where
  pub bound : (h : List Event) → Run p h → (t : Stamp) → (last_stamp p h).0 ≤ t.0 → (last_start p h t).0 ≤ t.0
  unfolding stored_after
  bound [] r t l = l
  bound (reset_event at ∷ h) r t l = l
  bound (frame_event at storing f ∷ h) r t l =
      decided (heard_on (stored_after p h) f)
      (λ x.
      let all = start_heard p at storing f h x t in
      let b = bound h r.1.1 at r.1.0 in
      left_start (in_session p h at) (message f) (timely_answer p.serial f (pending_since p h) at) at t (last_start p h at)
      (λ o c q. subst (λ (s : Stamp). s.0 ≤ t.0) (sym (all ∙ q)) l)
      (λ o n q. subst (λ (s : Stamp). s.0 ≤ t.0) (sym (all ∙ q)) (omega arith))
      (λ q. subst (λ (s : Stamp). s.0 ≤ t.0) (sym (all ∙ q)) (omega arith)))
      (λ x. subst (λ (s : Stamp). s.0 ≤ t.0) (sym (start_unheard p at storing f h x t)) (bound h r.1.1 t (let q = r.1.0 in omega arith)))

  rises : (h : List Event) → Run p h → (t u : Stamp) → (last_stamp p h).0 ≤ t.0 → t.0 ≤ u.0 → (last_start p h t).0 ≤ (last_start p h u).0
  unfolding stored_after
  rises [] r t u l m = omega arith
  rises (reset_event at ∷ h) r t u l m = omega arith
  rises (frame_event at storing f ∷ h) r t u l m =
      decided (heard_on (stored_after p h) f)
      (λ x. rw (start_heard p at storing f h x t, start_heard p at storing f h x u) (no_sooner (in_session p h at) (message f) (timely_answer p.serial f (pending_since p h) at) at t u (last_start p h at) (bound h r.1.1 at r.1.0) m))
      (λ x. rw (start_unheard p at storing f h x t, start_unheard p at storing f h x u) (rises h r.1.1 t u (let q = r.1.0 in omega arith) m))

  grows : (e : Event) (h : List Event) → Run p (e ∷ h) → (t : Stamp) → (stamp_of e).0 ≤ t.0 → (last_start p h (stamp_of e)).0 ≤ (last_start p (e ∷ h) t).0
  unfolding stored_after
  grows (reset_event at) h r t l = bound h r.1.1 at r.1.0
  grows (frame_event at storing f) h r t l =
      decided (heard_on (stored_after p h) f)
      (λ x.
      let all = start_heard p at storing f h x t in
      let b = bound h r.1.1 at r.1.0 in
      left_start (in_session p h at) (message f) (timely_answer p.serial f (pending_since p h) at) at t (last_start p h at)
      (λ o c q. subst (λ (s : Stamp). (last_start p h at).0 ≤ s.0) (sym (all ∙ q)) b)
      (λ o n q. subst (λ (s : Stamp). (last_start p h at).0 ≤ s.0) (sym (all ∙ q)) (omega arith))
      (λ q. subst (λ (s : Stamp). (last_start p h at).0 ≤ s.0) (sym (all ∙ q)) (omega arith)))
      (λ x. subst (λ (s : Stamp). (last_start p h at).0 ≤ s.0) (sym (start_unheard p at storing f h x t)) (rises h r.1.1 at t r.1.0 l))

  -- whatever has started stays so
  keeps : (since h : List Event) → Run p (since ++ h) → (t : Stamp) → (last_stamp p (since ++ h)).0 ≤ t.0 → (last_start p h (last_stamp p h)).0 ≤ (last_start p (since ++ h) t).0
  keeps [] h r t l = rises h r (last_stamp p h) t (omega arith) l
  keeps (e ∷ since) h r t l =
      let a = keeps since h r.1.1 (stamp_of e) r.1.0 in
      let b = grows e (since ++ h) r t l in
      omega arith

-- ---- the last start is one

module _ (p : PowerOn) (at : Stamp) (storing : Bool) (f : Frame) (h : List Event) where
  abbrev its : Event
  its = frame_event at storing f

  -- the same start, one frame later, if what was told as a silence does not hear it too soon
  start_further : (t u s : Stamp) → t.0 ≤ u.0 → (s.0 < t.0 → heard_on (stored_after p h) f ≡ true → s.0 < at.0) → Start p (looking_back p) h t s → Start p (looking_back p) (its ∷ h) u s
  start_further t u s l quiet (at_power_on q) = at_power_on q
  start_further t u s l quiet (at_reset since before q) = at_reset (its ∷ since) before (ap (λ (h' : List Event). its ∷ h') q)
  start_further t u s l quiet (at_commit since before works g q x m o) = at_commit (its ∷ since) before works g (ap (λ (h' : List Event). its ∷ h') q) x m o
  start_further t u s l quiet (after_silence since before a works g q x o e n silent) =
      after_silence (its ∷ since) before a works g (ap (λ (h' : List Event). its ∷ h') q) x o e (omega arith)
      (λ y. quiet n (subst (λ (h' : List Event). heard_on (stored_after p h') f ≡ true) (sym q) y), silent)

started : (p : PowerOn) (h : List Event) → Run p h → (t : Stamp) → (last_stamp p h).0 ≤ t.0 → Start p (looking_back p) h t (last_start p h t)
unfolding stored_after
started p [] r t l = at_power_on refl
started p (reset_event at ∷ h) r t l = at_reset [] h refl
started p (frame_event at storing f ∷ h) r t l =
    decided (heard_on (stored_after p h) f)
    (λ x.
    let all = start_heard p at storing f h x t in
    let right = timely_answer p.serial f (pending_since p h) at in
    left_start (in_session p h at) (message f) right at t (last_start p h at)
    (λ o c q. subst (Start p (looking_back p) (frame_event at storing f ∷ h) t) (sym (all ∙ q)) (at_commit [] h storing f refl x (commits_only (message f) c) o))
    (λ o n q.
    subst (Start p (looking_back p) (frame_event at storing f ∷ h) t) (sym (all ∙ q))
    (after_silence [] h at storing f refl x (session_heard p at storing f h x at ∙ rw (o, le-leb at.0 (at.0 + 2000) (omega arith)) refl) refl n tt))
    (λ q. subst (Start p (looking_back p) (frame_event at storing f ∷ h) t) (sym (all ∙ q)) (start_further p at storing f h at t (last_start p h at) l (λ n y. n) (started p h r.1.1 at r.1.0))))
    (λ x.
    subst (Start p (looking_back p) (frame_event at storing f ∷ h) t) (sym (start_unheard p at storing f h x t))
    (start_further p at storing f h t t (last_start p h t) (omega arith) (λ n y. false_true (sym y ∙ x)) (started p h r.1.1 t (let q = r.1.0 in omega arith))))

-- ---- and the latest

module _ (p : PowerOn) (at : Stamp) (storing : Bool) (f : Frame) (before : List Event) (x : heard_on (stored_after p before) f ≡ true) (o : in_session p (frame_event at storing f ∷ before) at ≡ true) where
  abbrev the_last : List Event
  the_last = frame_event at storing f ∷ before

  -- right after the message: what leaves a session open is no commit in a session
  silent_start : (t : Stamp) → at.0 + 2000 < t.0 → last_start p the_last t ≡ later at 2000
  silent_start t n =
      let right = timely_answer p.serial f (pending_since p before) at in
      let left = leaves_open (in_session p before at) (message f) right in
      let open-left : left ≡ true = and_left left (near at at) (sym (session_heard p at storing f before x at) ∙ o) in
      start_heard p at storing f before x t ∙ kept_open (in_session p before at) (message f) right at t (last_start p before at) open-left n
    where
      kept_open : (o' : Bool) (y : Message) (right : Bool) (at t start : Stamp) → leaves_open o' y right ≡ true → at.0 + 2000 < t.0 → leaves_start o' y right at t start ≡ later at 2000
      kept_open true y right at t start e n = rw (not-true (commits y) e, lt-leb _ _ n) refl
      kept_open false y right at t start e n = rw (e, lt-leb _ _ n) refl

  silence_counts : (since : List Event) → Run p (since ++ the_last) → (t : Stamp) → (last_stamp p (since ++ the_last)).0 ≤ t.0 → at.0 + 2000 < t.0 → Silent (looking_back p) (later at 2000) since the_last → at.0 + 2000 ≤ (last_start p (since ++ the_last) t).0
  unfolding stored_after
  silence_counts [] r t l n silent = subst (λ (s : Stamp). at.0 + 2000 ≤ s.0) (sym (silent_start t n)) (omega arith)
  silence_counts (reset_event s ∷ since) r t l n silent = let q = silent.0 in omega arith
  silence_counts (frame_event s works g ∷ since) r t l n silent =
      decided (heard_on (stored_after p (since ++ the_last)) g)
      (λ y.
      let a = silence_counts since r.1.1 s r.1.0 (silent.0 y) silent.1 in
      let b = grows p (frame_event s works g) (since ++ the_last) r t l in
      omega arith)
      (λ y.
      subst (λ (u : Stamp). at.0 + 2000 ≤ u.0) (sym (start_unheard p s works g (since ++ the_last) y t))
      (silence_counts since r.1.1 t (let q = r.1.0 in omega arith) n silent.1))

-- a start at the stamp of the newest event before, told of the whole
from_there : (p : PowerOn) (since h' h : List Event) (u : Stamp) → h ≡ since ++ h' → last_start p h' (last_stamp p h') ≡ u → Run p h → (t : Stamp) → (last_stamp p h).0 ≤ t.0 → u.0 ≤ (last_start p h t).0
from_there p since h' h u q s r t l =
    subst (λ (h'' : List Event). Run p h'' → (last_stamp p h'').0 ≤ t.0 → u.0 ≤ (last_start p h'' t).0) (sym q)
    (λ r' l'. subst (λ (v : Stamp). v.0 ≤ (last_start p (since ++ h') t).0) s (keeps p since h' r' t l'))
    r l

latest : (p : PowerOn) (h : List Event) → Run p h → (t : Stamp) → (last_stamp p h).0 ≤ t.0 → (u : Stamp) → Start p (looking_back p) h t u → u.0 ≤ (last_start p h t).0
unfolding stored_after
latest p h r t l u (at_power_on q) = from_there p h [] h u (sym (append-nil h)) (sym q) r t l
latest p h r t l u (at_reset since before q) = from_there p since (reset_event u ∷ before) h u q refl r t l
latest p h r t l u (at_commit since before storing f q x m o) =
    from_there p since (frame_event u storing f ∷ before) h u q (start_heard p u storing f before x u ∙ rw (o, m) refl) r t l
latest p h r t l u (after_silence since before at storing f q x o e n silent) =
    subst (λ (v : Stamp). v.0 ≤ (last_start p h t).0) (sym e)
    (subst (λ (h' : List Event). Run p h' → (last_stamp p h').0 ≤ t.0 → at.0 + 2000 ≤ (last_start p h' t).0) (sym q)
    (λ r' l'. silence_counts p at storing f before x o since r' t l' (subst (λ (v : Stamp). v.0 < t.0) e n) (subst (λ (v : Stamp). Silent (looking_back p) v since (frame_event at storing f ∷ before)) e silent))
    r l)

pub last_start_lem : (p : PowerOn) (h : List Event) → Run p h → (t : Stamp) → (last_stamp p h).0 ≤ t.0 → LastStart p (looking_back p) h t (last_start p h t)
last_start_lem p h r t l = record { started = started p h r t l; latest = latest p h r t l }
