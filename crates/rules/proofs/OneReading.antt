-- The demand's words allow one reading: two that meet them say the same of every run, and what agrees with one that meets them meets them too.
-- Assumes nothing.
use Prim.Native.Nat.{ℕ, ◌+◌, ◌≤◌}
use mathlib.Core.Path.{◌≡◌, refl, sym, ap, subst, ◌∙◌}
use mathlib.Core.Bool.{Bool, true, false, cond}
use mathlib.Core.List.{List, [], ◌∷◌, ◌++◌}
use mathlib.Core.Logic.{◌↔◌}
use Rattle.std.specs.Prelude.{Option}
use Rattle.std.specs.Option.{unwrap_or}
use native.Mathlib.Omega.{arith}
use Rattle.maintenance_pages.specs.declared.setting.Setting.{Setting}
use Rattle.maintenance_pages.specs.declared.setting.Settings.{Settings}
use Rattle.maintenance_pages.specs.Settings.{value_of}
use Rattle.maintenance_pages.specs.declared.message.Message.TheVariants.{Unlock, Commit, Answer}
use Rattle.maintenance_pages.specs.Messages.{heard_on}
use Rattle.time.specs.declared.Stamp.{Stamp}
use Rattle.rules.specs.Events.{Event, frame_event, reset_event, PowerOn, last_stamp, Run}
use Rattle.rules.specs.Demand.{Reading, Heard, heard_in, No, Close, Past, heard_since, Unlocked, Opened, Stores, Changes, Silent, Start, at_power_on, at_reset, at_commit, after_silence, LastStart, Demand, Same}
use Rattle.rules.proofs.Written.{last_accepted, last_there, last_one}
use Rattle.rules.proofs.Demand.{same_settings, by_store}

-- ---- places in a run

run_before : (p : PowerOn) (since h : List Event) → Run p (since ++ h) → Run p h
run_before p [] h r = r
run_before p (e ∷ since) h r = run_before p since h r.1.1

-- something holds of every history before
abbrev Before : (List Event → Type 0) → List Event → Type 0
Before P [] = Unit
Before P (e ∷ h) = P h × Before P h

before_that : (P : List Event → Type 0) (since : List Event) (e : Event) (h : List Event) → Before P (since ++ (e ∷ h)) → P h × Before P h
before_that P [] e h b = b
before_that P (x ∷ since) e h b = before_that P since e h b.1

-- ---- two readings that say the same

flip : (p : PowerOn) (r r' : Reading) (h : List Event) → Same p r r' h → Same p r' r h
flip p r r' h s = record { stored = sym s.stored; session = λ t l. sym (s.session t l); start = λ t l. sym (s.start t l) }

flip_before : (p : PowerOn) (r r' : Reading) (h : List Event) → Before (Same p r r') h → Before (Same p r' r) h
flip_before p r r' [] b = tt
flip_before p r r' (e ∷ h) b = (flip p r r' h b.0, flip_before p r r' h b.1)

-- ---- what the words say of one they say of the other

module _ (p : PowerOn) (r r' : Reading) where
  heard_same : (since before : List Event) → Before (Same p r r') (since ++ before) → heard_in r since before ≡ heard_in r' since before
  unfolding heard_in
  heard_same [] before b = refl
  heard_same (reset_event at ∷ since) before b = heard_same since before b.1
  heard_same (frame_event at storing f ∷ since) before b =
      ap (λ (k : Settings). cond (heard_on k f) (record { at = at; frame = f } ∷ heard_in r since before) (heard_in r since before)) b.0.stored
      ∙ ap (λ (l : List Heard). cond (heard_on (r'.stored (since ++ before)) f) (record { at = at; frame = f } ∷ l) l) (heard_same since before b.1)

  -- a message heard is heard by the other too, and what was heard since is the same
  past_same : (h : List Event) → Run p h → Before (Same p r r') h → Past r h → Past r' h
  past_same h run b m =
      let same = (before_that (Same p r r') m.since (frame_event m.at m.storing m.frame) m.before (subst (Before (Same p r r')) m.place b)).0 in
      record {
        since = m.since;
        at = m.at;
        storing = m.storing;
        frame = m.frame;
        before = m.before;
        place = m.place;
        heard = subst (λ (k : Settings). heard_on k m.frame ≡ true) same.stored m.heard;
        no_reset = m.no_reset;
      }

  since_same : (h : List Event) (run : Run p h) (b : Before (Same p r r') h) (m : Past r h) → heard_since r h m ≡ heard_since r' h (past_same h run b m)
  unfolding past_same
  since_same h run b m =
      heard_same m.since (frame_event m.at m.storing m.frame ∷ m.before) (subst (Before (Same p r r')) m.place b)

  -- what was before it
  run_there : (h : List Event) → Run p h → (m : Past r h) → Run p (frame_event m.at m.storing m.frame ∷ m.before)
  run_there h run m = run_before p m.since (frame_event m.at m.storing m.frame ∷ m.before) (subst (Run p) m.place run)

  same_there : (h : List Event) → Before (Same p r r') h → (m : Past r h) → Same p r r' m.before × Before (Same p r r') m.before
  same_there h b m =
      before_that (Same p r r') m.since (frame_event m.at m.storing m.frame) m.before (subst (Before (Same p r r')) m.place b)

  unlocked_same : (h : List Event) → Run p h → Before (Same p r r') h → Unlocked r h → Unlocked r' h
  unfolding past_same
  unlocked_same h run b w =
      let u = w.unlock in
      let l = (run_there h run u).1.0 in
      let same = (same_there h b u).0 in
      record {
        unlock = past_same h run b u;
        unlocking = w.unlocking;
        outside = sym (same.session u.at l) ∙ w.outside;
        timely = subst (λ (s : Stamp). u.at.0 ≤ s.0 + 10000) (same.start u.at l) w.timely;
        no_unlock = subst (No Unlock) (since_same h run b u) w.no_unlock;
        no_answer = subst (No Answer) (since_same h run b u) w.no_answer;
      }

  opened_same : (h : List Event) → Run p h → Before (Same p r r') h → (t : Stamp) → Opened p r h t → Opened p r' h t
  unfolding past_same unlocked_same
  opened_same h run b t w =
      let a = w.answer in
      record {
        answer = past_same h run b a;
        answering = w.answering;
        right = w.right;
        unlocked = unlocked_same a.before (run_there h run a).1.1 (same_there h b a).1 w.unlocked;
        timely = w.timely;
        no_commit = subst (No Commit) (since_same h run b a) w.no_commit;
        close = subst (λ (l : List Heard). Close a.at l t) (since_same h run b a) w.close;
      }

  stores_same : (h : List Event) → Run p h → Same p r r' h → Before (Same p r r') h → (e : Event) → Stores p r h e → Stores p r' h e
  stores_same h run s b e w =
      record {
        at = w.at;
        storing = w.storing;
        commit = w.commit;
        event = w.event;
        committing = w.committing;
        heard = subst (λ (k : Settings). heard_on k w.commit ≡ true) s.stored w.heard;
        working = w.working;
        session = opened_same h run b w.at w.session;
      }

  silent_same : (u : Stamp) (since before : List Event) → Before (Same p r r') (since ++ before) → Silent r u since before → Silent r' u since before
  silent_same u [] before b q = tt
  silent_same u (reset_event at ∷ since) before b q = (q.0, silent_same u since before b.1 q.1)
  silent_same u (frame_event at storing f ∷ since) before b q = (
    λ x. q.0 (subst (λ (k : Settings). heard_on k f ≡ true) (sym b.0.stored) x),
    silent_same u since before b.1 q.1,
  )

  -- the sessions of a run are those of its beginnings
  session_same : (since h : List Event) → Before (Same p r r') (since ++ h) → ((t : Stamp) → (last_stamp p (since ++ h)).0 ≤ t.0 → r.session (since ++ h) t ≡ r'.session (since ++ h) t) → (t : Stamp) → (last_stamp p h).0 ≤ t.0 → r.session h t ≡ r'.session h t
  session_same [] h b s t l = s t l
  session_same (e ∷ since) h b s t l = session_same since h b.1 b.0.session t l

  start_same : (h : List Event) → Run p h → Before (Same p r r') h → ((t : Stamp) → (last_stamp p h).0 ≤ t.0 → r.session h t ≡ r'.session h t) → (t u : Stamp) → Start p r h t u → Start p r' h t u
  start_same h run b s t u (at_power_on q) = at_power_on q
  start_same h run b s t u (at_reset since before q) = at_reset since before q
  start_same h run b s t u (at_commit since before storing f q x m o) =
      let its = frame_event u storing f in
      let same = (before_that (Same p r r') since its before (subst (Before (Same p r r')) q b)).0 in
      let l = (run_before p since (its ∷ before) (subst (Run p) q run)).1.0 in
      at_commit since before storing f q (subst (λ (k : Settings). heard_on k f ≡ true) same.stored x) m (sym (same.session u l) ∙ o)
  start_same h run b s t u (after_silence since before at storing f q x o e n silent) =
      let its = frame_event at storing f in
      let all = subst (Before (Same p r r')) q b in
      let same = (before_that (Same p r r') since its before all).0 in
      let sessions = subst (λ (h' : List Event). (v : Stamp) → (last_stamp p h').0 ≤ v.0 → r.session h' v ≡ r'.session h' v) q s in
      after_silence since before at storing f q (subst (λ (k : Settings). heard_on k f ≡ true) same.stored x)
      (sym (session_same since (its ∷ before) all sessions at (omega arith)) ∙ o) e n (silent_same u since (its ∷ before) all silent)

-- ---- one reading

-- what a setting takes of what was heard
abbrev value : PowerOn → Setting → Settings → List Heard → ℕ
value p x k l = unwrap_or (last_accepted p.rating x l) (value_of k x)

taken : (p : PowerOn) (r : Reading) (h : List Event) (e : Event) → Changes p r h e → (w : Stores p r h e) (s : Setting) → value_of (r.stored (e ∷ h)) s ≡ value p s (r.stored h) (heard_since r h w.session.answer)
taken p r h e c w s = let l = heard_since r h w.session.answer in c.takes w s (last_accepted p.rating s l) (last_there p.rating s l)

same_test : (b c : Bool) → (b ≡ true → c ≡ true) → (c ≡ true → b ≡ true) → b ≡ c
same_test true c f g = sym (f refl)
same_test false true f g = g refl
same_test false false f g = refl

same_stamp : (s u : Stamp) → s.0 ≤ u.0 → u.0 ≤ s.0 → s ≡ u
same_stamp s u l m =
    let q : s.0 ≡ u.0 = omega arith in
    λ i. record { 0 = q i }

module _ (p : PowerOn) (r r' : Reading) (d : Demand p r) (d' : Demand p r') where
  sessions_same : (h : List Event) → Run p h → Before (Same p r r') h → (t : Stamp) → (last_stamp p h).0 ≤ t.0 → r.session h t ≡ r'.session h t
  sessions_same h run b t l =
      same_test (r.session h t) (r'.session h t)
      (λ x. (d'.sessions h run t l).1 (opened_same p r r' h run b t ((d.sessions h run t l).0 x)))
      (λ x. (d.sessions h run t l).1 (opened_same p r' r h run (flip_before p r r' h b) t ((d'.sessions h run t l).0 x)))

  starts_same : (h : List Event) → Run p h → Before (Same p r r') h → (t : Stamp) → (last_stamp p h).0 ≤ t.0 → r.start h t ≡ r'.start h t
  starts_same h run b t l =
      let s = sessions_same h run b in
      same_stamp (r.start h t) (r'.start h t)
      ((d'.starts h run t l).latest (r.start h t) (start_same p r r' h run b s t (r.start h t) (d.starts h run t l).started))
      ((d.starts h run t l).latest (r'.start h t) (start_same p r' r h run (flip_before p r r' h b) (λ u m. sym (s u m)) t (r'.start h t) (d'.starts h run t l).started))

  next_same : (e : Event) (h : List Event) → Run p (e ∷ h) → Same p r r' h → Before (Same p r r') h → r.stored (e ∷ h) ≡ r'.stored (e ∷ h)
  unfolding stores_same opened_same past_same
  next_same e h run s b =
      let c = d.six e h run in
      let c' = d'.six e h run in
      by_store p r h (d.sessions h run.1.1) e run.1.0
      (λ w.
      let w' = stores_same p r r' h run.1.1 s b e w in
      same_settings (r.stored (e ∷ h)) (r'.stored (e ∷ h))
      (λ x.
      taken p r h e c w x
      ∙ (ap (λ (l : List Heard). value p x (r.stored h) l) (since_same p r r' h run.1.1 b w.session.answer)
      ∙ (ap (λ (k : Settings). value p x k (heard_since r' h w'.session.answer)) s.stored
      ∙ sym (taken p r' h e c' w' x)))))
      (λ none.
      c.stays none
      ∙ (s.stored
      ∙ sym (c'.stays (λ w. none (stores_same p r' r h run.1.1 (flip p r r' h s) (flip_before p r r' h b) e w)))))

  all_same : (h : List Event) → Run p h → Same p r r' h × Before (Same p r r') h
  all_same [] run = (record { stored = d.first run ∙ sym (d'.first run); session = sessions_same [] run tt; start = starts_same [] run tt }, tt)
  all_same (e ∷ h) run =
      let b = all_same h run.1.1 in
      (record { stored = next_same e h run b.0 b.1; session = sessions_same (e ∷ h) run b; start = starts_same (e ∷ h) run b }, b)

pub one_reading : (p : PowerOn) (r r' : Reading) → Demand p r → Demand p r' → (h : List Event) → Run p h → Same p r r' h
one_reading p r r' d d' h run = (all_same p r r' d d' h run).0

-- ---- what agrees with it

module _ (p : PowerOn) (r r' : Reading) (d : Demand p r) (same : (h : List Event) → Run p h → Same p r r' h) where
  all_before : (h : List Event) → Run p h → Before (Same p r r') h
  all_before [] run = tt
  all_before (e ∷ h) run = (same h run.1.1, all_before h run.1.1)

  changes_too : (e : Event) (h : List Event) → Run p (e ∷ h) → Changes p r' h e
  unfolding stores_same opened_same past_same
  changes_too e h run =
      let c = d.six e h run in
      let s = same h run.1.1 in
      let n = same (e ∷ h) run in
      let b = all_before h run.1.1 in
      let there : Stores p r h e → Stores p r' h e = stores_same p r r' h run.1.1 s b e in
      let back : Stores p r' h e → Stores p r h e = stores_same p r' r h run.1.1 (flip p r r' h s) (flip_before p r r' h b) e in
      record {
        only = λ x q. there (c.only x (λ u. q (ap (λ (k : Settings). value_of k x) (sym n.stored) ∙ (u ∙ ap (λ (k : Settings). value_of k x) s.stored))));
        takes = λ w x v l.
            ap (λ (k : Settings). value_of k x) (sym n.stored)
            ∙ (taken p r h e c (back w) x
            ∙ (ap (λ (l : List Heard). value p x (r.stored h) l) (sym (since_same p r' r h run.1.1 (flip_before p r r' h b) w.session.answer))
            ∙ (ap (λ (k : Settings). value p x k (heard_since r' h w.session.answer)) s.stored
            ∙ ap (λ (u : Option ℕ). unwrap_or u (value_of (r'.stored h) x)) (last_one p.rating x (heard_since r' h w.session.answer) v l))));
        stays = λ none. sym n.stored ∙ (c.stays (λ w. none (there w)) ∙ s.stored);
      }

  sessions_too : (h : List Event) → Run p h → (t : Stamp) → (last_stamp p h).0 ≤ t.0 → r'.session h t ≡ true ↔ Opened p r' h t
  sessions_too h run t l = (
    λ x. opened_same p r r' h run (all_before h run) t ((d.sessions h run t l).0 ((same h run).session t l ∙ x)),
    λ w. sym ((same h run).session t l) ∙ (d.sessions h run t l).1 (opened_same p r' r h run (flip_before p r r' h (all_before h run)) t w),
  )

  starts_too : (h : List Event) → Run p h → (t : Stamp) → (last_stamp p h).0 ≤ t.0 → LastStart p r' h t (r'.start h t)
  starts_too h run t l =
      let s = same h run in
      let b = all_before h run in
      let last = d.starts h run t l in
      subst (LastStart p r' h t) (s.start t l)
      (record {
        started = start_same p r r' h run b s.session t (r.start h t) last.started;
        latest = λ u x. last.latest u (start_same p r' r h run (flip_before p r r' h b) (λ v m. sym (s.session v m)) t u x);
      })

  pub meets_too : Demand p r'
  meets_too =
      record {
        first = λ run. sym (same [] run).stored ∙ d.first run;
        six = changes_too;
        sessions = sessions_too;
        starts = starts_too;
      }
