-- The replies of the maintenance page, and of document 01 where it completes it, as what a heard frame leaves: a row for each sentence, with its
-- numbers and bytes; which frame it is about is said by length and bytes (`Tells`). `Promise` says that they are the monitor's.
use Rattle.std.specs.Prelude.{ℕ, ◌+◌, ◌<◌, ◌≤◌, ◌≡◌, Bool, true, false, List, [], ◌∷◌, Option, Some, None}
use Rattle.words.specs.declared.Order.TheVariants.{Big}
use Rattle.words.specs.Words.{Bytes, bytes_of}
use Rattle.codec_pages.specs.declared.frame.Frame.{Frame}
use Rattle.codec_pages.specs.Table.{part}
use Rattle.maintenance_pages.specs.declared.setting.Setting.{Setting}
use Rattle.maintenance_pages.specs.declared.message.SerialWord.{SerialWord}
use Rattle.maintenance_pages.specs.declared.message.Message.TheVariants.{Unlock, Commit, Answer, SerialRequest, Read, Write}
use Rattle.maintenance_pages.specs.Settings.{value_of, with_value}
use Rattle.maintenance_pages.specs.Messages.{serial_report, quiet, says}
use Rattle.maintenance_pages.specs.Means.{first_byte, Tells, right_bytes, serial_bytes, Legal}
use Rattle.time.specs.declared.Stamp.{Stamp}
use Rattle.rules.specs.declared.unit.Session.{Session}
use Rattle.rules.specs.declared.unit.Phase.{Phase}
use Rattle.rules.specs.declared.unit.Phase.TheVariants.{Outside}
use Rattle.rules.specs.declared.unit.Monitor.{Monitor}
use Rattle.rules.specs.declared.unit.Turn.{Turn}
use Rattle.rules.specs.Rules.{session_at, turn, in_phase, started, framed}

-- the monitor in a phase, with these bytes sent on the stored transmit identifier
abbrev pub moves : Monitor → Phase → List ℕ → Turn
moves m phase bytes = turn (in_phase phase m) (says m.stored.transmit bytes)

-- "ACK is 41 43 4B, NAK is 4E 41 4B"
abbrev pub ACK : List ℕ
ACK = 0x41 ∷ 0x43 ∷ 0x4B ∷ []

abbrev pub NAK : List ℕ
NAK = 0x4E ∷ 0x41 ∷ 0x4B ∷ []

-- the seven bytes after byte 0 are the challenge's, the first seven serial bytes, xored with the constants
abbrev pub Right : Monitor → Frame → Type 0
Right m f = part f.bytes 1 7 ≡ right_bytes m.serial

-- ---- a frame heard outside a session

pub record OutsideReplies (m : Monitor) (pending : Option Stamp) (at : Stamp) (storing : Bool) (f : Frame) : Type 0 where
  pub unlock : Tells Unlock f → at.0 ≤ m.start.0 + 10000 → framed at storing f m ≡ moves m (Outside (Some at)) (0x14 ∷ part m.serial 0 7)
  pub late_unlock_lem : Tells Unlock f → m.start.0 + 10000 < at.0 → framed at storing f m ≡ moves m (Outside None) NAK
  pub answer : (since : Stamp) → Tells Answer f → pending ≡ Some since → Right m f → at.0 ≤ since.0 + 2000 → framed at storing f m ≡ moves m (session_at at m.stored) ACK
  pub wrong_answer : (since : Stamp) → Tells Answer f → pending ≡ Some since → (Right m f → ⊥) → framed at storing f m ≡ moves m (Outside None) NAK
  pub late_answer_lem : (since : Stamp) → Tells Answer f → pending ≡ Some since → since.0 + 2000 < at.0 → framed at storing f m ≡ moves m (Outside None) NAK
  pub no_challenge : Tells Answer f → pending ≡ None → framed at storing f m ≡ turn m quiet
  -- whatever the monitor holds, the report that the codec builds; and its bytes, where the identifier and the serial number are such
  pub serial : (w : SerialWord) → Tells (SerialRequest w) f → framed at storing f m ≡ turn m (serial_report m.stored.transmit m.serial w)
  pub serial_bytes_lem : (w : SerialWord) → Tells (SerialRequest w) f → m.stored.transmit ≤ 0x1FFFFFFF → Bytes m.serial → framed at storing f m ≡ turn m (says m.stored.transmit (serial_bytes w m.serial))
  pub all_else : (Tells Unlock f → ⊥) → (Tells Answer f → ⊥) → ((w : SerialWord) → Tells (SerialRequest w) f → ⊥) → framed at storing f m ≡ turn m quiet

-- ---- a frame heard in a session

pub record SessionReplies (m : Monitor) (s : Session) (at : Stamp) (storing : Bool) (f : Frame) : Type 0 where
  pub read : (k : Setting) → Tells (Read k) f → framed at storing f m ≡ moves m (session_at at s.draft) (first_byte f ∷ bytes_of Big 4 (value_of s.draft k))
  pub write : (k : Setting) (v : ℕ) → Tells (Write k v) f → Legal m.rating k v → framed at storing f m ≡ moves m (session_at at (with_value s.draft k v)) ACK
  pub illegal_write : (k : Setting) (v : ℕ) → Tells (Write k v) f → (Legal m.rating k v → ⊥) → framed at storing f m ≡ moves m (session_at at s.draft) NAK
  pub commit : Tells Commit f → storing ≡ true → framed at storing f m ≡ turn (started at s.draft m) (says m.stored.transmit ACK)
  pub failed_commit : Tells Commit f → storing ≡ false → framed at storing f m ≡ turn (started at m.stored m) (says m.stored.transmit NAK)
  pub all_else : (Tells Commit f → ⊥) → ((k : Setting) → Tells (Read k) f → ⊥) → ((k : Setting) (v : ℕ) → Tells (Write k v) f → ⊥) → framed at storing f m ≡ moves m (session_at at s.draft) NAK
