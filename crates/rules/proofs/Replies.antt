-- A heard frame gets the page's reply, row by row. Assumes nothing.
use Prim.Native.Nat.{ℕ, ◌+◌, ◌≤◌}
use mathlib.Core.Path.{◌≡◌, refl, sym, ap, ◌∙◌}
use mathlib.Core.Bool.{Bool, true, false, cond}
use mathlib.Core.List.{◌∷◌}
use borrow.Author.Tests.{le-ltb, lt-ltb}
use native.Mathlib.Omega.{arith}
use Rattle.std.specs.Prelude.{Option}
use Rattle.words.specs.declared.Order.TheVariants.{Big}
use Rattle.words.specs.Words.{bytes_of}
use Rattle.words.proofs.Tests.{and_false, refuted}
use Rattle.codec_pages.specs.declared.frame.Frame.{Frame}
use Rattle.maintenance_pages.specs.declared.setting.Setting.{Setting}
use Rattle.maintenance_pages.specs.declared.message.SerialWord.{SerialWord}
use Rattle.maintenance_pages.specs.declared.message.Message.{Message}
use Rattle.maintenance_pages.specs.declared.message.Message.TheVariants.{Other, Unlock, Commit, Answer, SerialRequest, Read, Write}
use Rattle.maintenance_pages.specs.Settings.{legal, value_of}
use Rattle.maintenance_pages.specs.Messages.{message, is_right, serial_report}
use Rattle.maintenance_pages.specs.Means.{first_byte, Tells}
use Rattle.maintenance_pages.specs.Promise.{Says}
use Rattle.maintenance_pages.proofs.Promise.{promise as maintenance}
use Rattle.time.specs.declared.Stamp.{Stamp}
use Rattle.rules.specs.declared.unit.Session.{Session}
use Rattle.rules.specs.declared.unit.Phase.{Phase}
use Rattle.rules.specs.declared.unit.Phase.TheVariants.{Outside, InSession}
use Rattle.rules.specs.declared.unit.Monitor.{Monitor}
use Rattle.rules.specs.Rules.{silent, late_unlock, late_answer, turn, woken_by, woken, session_at, ignored, answered, outside, refused, written, committed, inside, heard, met_by, met, frame_met, framed}
use Rattle.rules.specs.Promise.{MeetsAsWoken}
use Rattle.rules.proofs.Rules.{woken_later}
use Rattle.rules.specs.Replies.{moves, OutsideReplies, SessionReplies}

-- what a frame says, exactly when
its : (f : Frame) → Says f
its = maintenance.messages

-- ---- a heard frame is met in the phase that silence leaves

heard_met : (at : Stamp) (storing : Bool) (f : Frame) (m : Monitor) (phase : Phase) → woken at m ≡ m → m.phase ≡ phase → heard f m ≡ true → framed at storing f m ≡ met_by phase at storing f m
heard_met at storing f m phase awake e h =
    ap (frame_met at storing f) awake
    ∙ (ap (λ (t : Bool). cond t (met at storing f m) (ignored m)) h ∙ ap (λ (x : Phase). met_by x at storing f m) e)

-- ---- outside a session

module _ (m : Monitor) (pending : Option Stamp) (at : Stamp) (storing : Bool) (f : Frame) (e : m.phase ≡ Outside pending) (h : heard f m ≡ true) where
  says_outside : (x : Message) → message f ≡ x → framed at storing f m ≡ outside x pending at f m
  says_outside x q =
      heard_met at storing f m (Outside pending) (ap (λ (p : Phase). woken_by p at m) e) e h
      ∙ ap (λ (y : Message). outside y pending at f m) q

  answers : (p : Option Stamp) → Tells Answer f → pending ≡ p → framed at storing f m ≡ answered p at f m
  answers p a q = says_outside Answer ((its f).answer.1 a) ∙ ap (λ (x : Option Stamp). answered x at f m) q

  -- what is neither unlock nor answer nor a serial request
  else_ignored : (Tells Unlock f → ⊥) → (Tells Answer f → ⊥) → ((w : SerialWord) → Tells (SerialRequest w) f → ⊥) → (x : Message) → message f ≡ x → outside x pending at f m ≡ ignored m
  else_ignored u a s Unlock q = absurd (u ((its f).unlock.0 q))
  else_ignored u a s Answer q = absurd (a ((its f).answer.0 q))
  else_ignored u a s (SerialRequest w) q = absurd (s w (((its f).serial w).0 q))
  else_ignored u a s (Read k) q = refl
  else_ignored u a s (Write k v) q = refl
  else_ignored u a s Commit q = refl
  else_ignored u a s Other q = refl

  serial_asked_lem : (w : SerialWord) → Tells (SerialRequest w) f → framed at storing f m ≡ turn m (serial_report m.stored.transmit m.serial w)
  serial_asked_lem w t = says_outside (SerialRequest w) (((its f).serial w).1 t)

  pub outside_replies : OutsideReplies m pending at storing f
  outside_replies =
      let right = maintenance.right m.serial f in
      record {
        unlock = λ u l. says_outside Unlock ((its f).unlock.1 u) ∙ (let timely : late_unlock m.start at ≡ false = le-ltb _ _ l in rw timely refl);
        late_unlock_lem = λ u l. says_outside Unlock ((its f).unlock.1 u) ∙ (let late : late_unlock m.start at ≡ true = lt-ltb _ _ l in rw late refl);
        answer = λ since a q r l. answers _ a q ∙ (let timely : late_answer since at ≡ false = le-ltb _ _ l in rw (right.1 r, timely) refl);
        wrong_answer = λ since a q w. answers _ a q ∙ rw (refuted (is_right m.serial f) right w) refl;
        late_answer_lem = λ since a q l. answers _ a q ∙ (let late : late_answer since at ≡ true = lt-ltb _ _ l in rw (late, and_false (is_right m.serial f)) refl);
        no_challenge = λ a q. answers _ a q;
        serial = serial_asked_lem;
        serial_bytes_lem = λ w t i b. serial_asked_lem w t ∙ ap (turn m) (maintenance.serial_words m.stored.transmit m.serial w i b);
        all_else = λ u a s. says_outside (message f) refl ∙ else_ignored u a s (message f) refl;
      }

-- ---- in a session

module _ (m : Monitor) (s : Session) (at : Stamp) (storing : Bool) (f : Frame) (e : m.phase ≡ InSession s) (l : at.0 ≤ s.heard.0 + 2000) (h : heard f m ≡ true) where
  awake : woken at m ≡ m
  awake = ap (λ (p : Phase). woken_by p at m) e ∙ (let still : silent s.heard at ≡ false = le-ltb _ _ l in rw still refl)

  says_inside : (x : Message) → message f ≡ x → framed at storing f m ≡ inside x s.draft at storing m
  says_inside x q =
      heard_met at storing f m (InSession s) awake e h ∙ ap (λ (y : Message). inside y s.draft at storing m) q

  -- what is neither commit nor read nor write
  else_refused : (Tells Commit f → ⊥) → ((k : Setting) → Tells (Read k) f → ⊥) → ((k : Setting) (v : ℕ) → Tells (Write k v) f → ⊥) → (x : Message) → message f ≡ x → inside x s.draft at storing m ≡ refused at s.draft m
  else_refused c r w Commit q = absurd (c ((its f).commit.0 q))
  else_refused c r w (Read k) q = absurd (r k (((its f).read k).0 q))
  else_refused c r w (Write k v) q = absurd (w k v (((its f).write k v).0 q))
  else_refused c r w Unlock q = refl
  else_refused c r w Answer q = refl
  else_refused c r w (SerialRequest n) q = refl
  else_refused c r w Other q = refl

  -- a read is answered by its own code
  shows : (k : Setting) → Tells (Read k) f → framed at storing f m ≡ moves m (session_at at s.draft) (first_byte f ∷ bytes_of Big 4 (value_of s.draft k))
  shows k t =
      says_inside (Read k) (((its f).read k).1 t)
      ∙ ap (λ (c : ℕ). moves m (session_at at s.draft) (c ∷ bytes_of Big 4 (value_of s.draft k))) (sym ((maintenance.coded k (first_byte f)).0 t.1))

  writes : (k : Setting) (v : ℕ) → Tells (Write k v) f → framed at storing f m ≡ written k v at s.draft m
  writes k v t = says_inside (Write k v) (((its f).write k v).1 t)

  commits : (b : Bool) → Tells Commit f → storing ≡ b → framed at storing f m ≡ committed b at s.draft m
  commits b c q = says_inside Commit ((its f).commit.1 c) ∙ ap (λ (x : Bool). committed x at s.draft m) q

  pub session_replies : SessionReplies m s at storing f
  session_replies =
      record {
        read = shows;
        write = λ k v t g. writes k v t ∙ rw ((maintenance.legal m.rating k v).1 g) refl;
        illegal_write = λ k v t g. writes k v t ∙ rw (refuted (legal m.rating k v) (maintenance.legal m.rating k v) g) refl;
        commit = commits true;
        failed_commit = commits false;
        all_else = λ c r w. says_inside (message f) refl ∙ else_refused c r w (message f) refl;
      }

-- ---- after a silence

pub meets_woken : MeetsAsWoken
meets_woken at storing f m = ap (frame_met at storing f) (sym (woken_later at at m (omega arith)))
