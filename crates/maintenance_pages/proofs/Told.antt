-- Each kind of message exactly when the length and the bytes are its own. Assumes nothing.
use Prim.Native.Nat.{ℕ, ◌≤◌}
use mathlib.Core.Path.{◌≡◌, refl, sym, ap, subst, ◌∙◌}
use mathlib.Core.Bool.{Bool, true, false, cond}
use mathlib.Core.List.{List, [], ◌∷◌}
use mathlib.Core.Logic.{◌↔◌}
use lib.Dec.{eqb, lit≤}
use borrow.Author.Tests.{eqb-true, eqb-false, eq-eqb}
use native.Mathlib.Omega.{arith}
use Rattle.words.proofs.Tests.{decided, false_true}
use Rattle.codec_pages.specs.declared.frame.Frame.{Frame}
use Rattle.codec_pages.specs.Table.{number_at}
use Rattle.maintenance_pages.specs.declared.setting.Setting.{Setting}
use Rattle.maintenance_pages.specs.declared.setting.Setting.TheVariants.{ReceiveId, TransmitId, Speed, Voltage, WarningLevel, FaultLevel}
use Rattle.std.specs.Prelude.{Option, Some, None}
use Rattle.maintenance_pages.specs.declared.message.SerialWord.{SerialWord}
use Rattle.maintenance_pages.specs.declared.message.SerialWord.TheVariants.{First, Second, Third, Last}
use Rattle.maintenance_pages.specs.declared.message.Message.{Message}
use Rattle.maintenance_pages.specs.declared.message.Message.TheVariants.{Other, Unlock, Commit, Answer, SerialRequest, Read, Write}
use Rattle.maintenance_pages.specs.Settings.{code, in_code_order, setting_in, setting_of}
use Rattle.maintenance_pages.specs.Messages.{byte, is_unlock, is_commit, is_answer, asks_serial, word_asked, as_read, as_write, message}
use Rattle.maintenance_pages.specs.Means.{Coded, AsksFor, Tells}
use Rattle.maintenance_pages.specs.Promise.{Says}
use Rattle.maintenance_pages.proofs.Settings.{known_code}
use Rattle.maintenance_pages.proofs.Messages.{unlock_means, commit_means, answer_means, serial_means, says_unlock, says_commit, says_answer, serial_said, read_said, write_said}

-- ---- codes and serial words

pub coded_code : (s : Setting) (b : ℕ) → Coded s b ↔ b ≡ code s
coded_code ReceiveId b = (λ q. q, λ q. q)
coded_code TransmitId b = (λ q. q, λ q. q)
coded_code Speed b = (λ q. q, λ q. q)
coded_code Voltage b = (λ q. q, λ q. q)
coded_code WarningLevel b = (λ q. q, λ q. q)
coded_code FaultLevel b = (λ q. q, λ q. q)

-- no code asks for a serial word
code_apart : (s : Setting) (f : Frame) → f.length ≡ 1 → byte f 0 ≡ code s → asks_serial f ≡ false
code_apart ReceiveId f l b = rw (l, b) refl
code_apart TransmitId f l b = rw (l, b) refl
code_apart Speed f l b = rw (l, b) refl
code_apart Voltage f l b = rw (l, b) refl
code_apart WarningLevel f l b = rw (l, b) refl
code_apart FaultLevel f l b = rw (l, b) refl

-- a number that asks for a serial word is one of 08 to 0B, and the word is that one
asked_word : (w : SerialWord) (b : ℕ) → AsksFor w b → ((0x08 ≤ b) × (b ≤ 0x0B)) × (word_asked b ≡ w)
asked_word First b q = rw q ((lit≤ tt, lit≤ tt), refl)
asked_word Second b q = rw q ((lit≤ tt, lit≤ tt), refl)
asked_word Third b q = rw q ((lit≤ tt, lit≤ tt), refl)
asked_word Last b q = rw q ((lit≤ tt, lit≤ tt), refl)

word_asked_lem : (b : ℕ) → 0x08 ≤ b → b ≤ 0x0B → AsksFor (word_asked b) b
word_asked_lem b low high =
    decided (eqb b 0x08)
    (λ x. rw x (eqb-true b 0x08 x))
    (λ x. decided (eqb b 0x09)
    (λ y. rw (x, y) (eqb-true b 0x09 y))
    (λ y. decided (eqb b 0x0A)
    (λ z. rw (x, y, z) (eqb-true b 0x0A z))
    (λ z. rw (x, y, z) (eleven (eqb-false b 0x08 x) (eqb-false b 0x09 y) (eqb-false b 0x0A z)))))
  where
    eleven : (b ≡ 0x08 → ⊥) → (b ≡ 0x09 → ⊥) → (b ≡ 0x0A → ⊥) → b ≡ 0x0B
    eleven x y z = omega arith

-- ---- what a frame tells is what it says

said : (x : Message) (f : Frame) → Tells x f → message f ≡ x
said Unlock f t = says_unlock f ((unlock_means f).1 t)
said Commit f t = says_commit f ((commit_means f).1 t)
said Answer f t = says_answer f ((answer_means f).1 t)
said (SerialRequest w) f t =
    let a = asked_word w (byte f 0) t.1 in
    serial_said f ((serial_means f).1 ((t.0, a.0.0), a.0.1)) ∙ ap SerialRequest a.1
said (Read s) f t =
    let b = (coded_code s (byte f 0)).0 t.1 in
    read_said f (code_apart s f t.0 b) (eq-eqb f.length 1 t.0) ∙ rw (b, known_code s) refl
said (Write s v) f t =
    let b = (coded_code s (byte f 0)).0 t.1.0 in
    write_said f (eq-eqb f.length 5 t.0) ∙ rw (b, known_code s, t.1.1) refl
said Other f t = absurd t

-- ---- and what it says it tells

abbrev is_other : Message → Bool
is_other Unlock = false
is_other Commit = false
is_other Answer = false
is_other (SerialRequest w) = false
is_other (Read s) = false
is_other (Write s v) = false
is_other Other = true

only_other : (x : Message) → is_other x ≡ true → x ≡ Other
only_other Unlock e = false_true (sym e)
only_other Commit e = false_true (sym e)
only_other Answer e = false_true (sym e)
only_other (SerialRequest w) e = false_true (sym e)
only_other (Read s) e = false_true (sym e)
only_other (Write s v) e = false_true (sym e)
only_other Other e = refl

abbrev Held : Frame → Message → Type 0
Held f x = is_other x ≡ false → Tells x f

-- the code of the setting that a byte names
abbrev Names : ℕ → Option Setting → Type 0
Names b None = Unit
Names b (Some s) = Coded s b

names_in : (ss : List Setting) (b : ℕ) → Names b (setting_in ss b)
names_in [] b = tt
names_in (s ∷ ss) b =
    decided (eqb b (code s))
    (λ t. rw t ((coded_code s b).1 (eqb-true b (code s) t)))
    (λ t. rw t (names_in ss b))

read_held : (f : Frame) (n : Option Setting) → Names (byte f 0) n → f.length ≡ 1 → Held f (as_read n)
read_held f None c l o = false_true o
read_held f (Some s) c l o = (l, c)

write_held : (f : Frame) (n : Option Setting) → Names (byte f 0) n → f.length ≡ 5 → Held f (as_write n (number_at f.bytes 1 4))
write_held f None c l o = false_true o
write_held f (Some s) c l o = (l, (c, refl))

held_by : (f : Frame) (t : Bool) (x y : Message) → (t ≡ true → Held f x) → Held f y → Held f (cond t x y)
held_by f true x y p q = p refl
held_by f false x y p q = q

held : (f : Frame) → Held f (message f)
unfolding message
held f =
    let named = names_in in_code_order (byte f 0) in
    held_by f (is_unlock f) Unlock _ (λ t o. (unlock_means f).0 t)
    (held_by f (is_commit f) Commit _ (λ t o. (commit_means f).0 t)
    (held_by f (is_answer f) Answer _ (λ t o. (answer_means f).0 t)
    (held_by f (asks_serial f) (SerialRequest (word_asked (byte f 0))) _ (λ t o. let q = (serial_means f).0 t in (q.0.0, word_asked_lem (byte f 0) q.0.1 q.1))
    (held_by f (eqb f.length 1) (as_read (setting_of (byte f 0))) _ (λ t. read_held f (setting_of (byte f 0)) named (eqb-true f.length 1 t))
    (held_by f (eqb f.length 5) (as_write (setting_of (byte f 0)) (number_at f.bytes 1 4)) Other (λ t. write_held f (setting_of (byte f 0)) named (eqb-true f.length 5 t)) (λ o. false_true o))))))

-- ---- so exactly then

exactly : (x : Message) (f : Frame) → is_other x ≡ false → message f ≡ x ↔ Tells x f
exactly x f o = (λ q. subst (Held f) q (held f) o, said x f)

other : (f : Frame) → message f ≡ Other ↔ ((x : Message) → Tells x f → ⊥)
other f = (
  λ q x t. subst (λ (y : Message). Tells y f) (sym (said x f t) ∙ q) t,
  λ n. decided (is_other (message f)) (only_other (message f)) (λ o. absurd (n (message f) (held f o))),
)

-- two frames that tell the same say the same
pub same_told : (f g : Frame) → ((x : Message) → Tells x f → Tells x g) → ((x : Message) → Tells x g → Tells x f) → message f ≡ message g
same_told f g there back =
    decided (is_other (message f))
    (λ o. let q = only_other (message f) o in q ∙ sym ((other g).1 (λ x t. (other f).0 q x (back x t))))
    (λ o. sym (said (message f) g (there (message f) (held f o))))

pub says : (f : Frame) → Says f
says f =
    record {
      unlock = exactly Unlock f refl;
      commit = exactly Commit f refl;
      answer = exactly Answer f refl;
      serial = λ w. exactly (SerialRequest w) f refl;
      read = λ s. exactly (Read s) f refl;
      write = λ s v. exactly (Write s v) f refl;
      other = other f;
    }
