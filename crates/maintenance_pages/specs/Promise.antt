-- What is promised of settings and messages, for every frame and every value there is. `proofs/Promise` proves it.
use Rattle.std.specs.Prelude.{ℕ, ◌-◌, ◌<◌, ◌≤◌, ◌≡◌, true, false, List, ◌∷◌, ◌++◌, ◌↔◌, length as size, replicate, Some, None}
use Rattle.words.specs.declared.Order.TheVariants.{Big}
use Rattle.words.specs.Words.{Bytes, bytes_of}
use Rattle.codec_pages.specs.declared.frame.Frame.{Frame}
use Rattle.codec_pages.specs.Alike.{Alike}
use Rattle.codec_pages.specs.Table.{part}
use Rattle.maintenance_pages.specs.declared.setting.Setting.{Setting}
use Rattle.maintenance_pages.specs.declared.setting.Setting.TheVariants.{ReceiveId, TransmitId, Speed, Voltage, WarningLevel, FaultLevel}
use Rattle.maintenance_pages.specs.declared.setting.Settings.{Settings}
use Rattle.maintenance_pages.specs.declared.message.SerialWord.{SerialWord}
use Rattle.maintenance_pages.specs.declared.message.Message.{Message}
use Rattle.maintenance_pages.specs.declared.message.Message.TheVariants.{Other, Unlock, Commit, Answer, SerialRequest, Read, Write}
use Rattle.maintenance_pages.specs.Settings.{code, legal, accepted, value_of, with_value, speed_number}
use Rattle.maintenance_pages.specs.Messages.{message, heard_on, is_right, quiet, says, serial_mux, serial_value, serial_report}
use Rattle.maintenance_pages.specs.Means.{Coded, Tells, right_bytes, serial_bytes, Legal, Acceptable}

-- ---- messages

-- Each kind of message if and only if the length and the bytes are its own; something else if and only if they are no kind's.
pub record Says (f : Frame) : Type 0 where
  pub unlock : message f ≡ Unlock ↔ Tells Unlock f
  pub commit : message f ≡ Commit ↔ Tells Commit f
  pub answer : message f ≡ Answer ↔ Tells Answer f
  pub serial : (w : SerialWord) → message f ≡ SerialRequest w ↔ Tells (SerialRequest w) f
  pub read : (s : Setting) → message f ≡ Read s ↔ Tells (Read s) f
  pub write : (s : Setting) (v : ℕ) → message f ≡ Write s v ↔ Tells (Write s v) f
  pub other : message f ≡ Other ↔ ((x : Message) → Tells x f → ⊥)

-- "A frame is heard when it is extended and its identifier equals the stored receive identifier."
abbrev pub HeardMeans : Type 0
HeardMeans = (k : Settings) (f : Frame) → heard_on k f ≡ true ↔ (f.extended ≡ true) × (f.identifier ≡ k.receive)

-- an answer is right exactly when its seven bytes are the challenge's, the first seven serial bytes, xored with the constants
abbrev pub RightMeans : Type 0
RightMeans = (serial : List ℕ) (f : Frame) → is_right serial f ≡ true ↔ part f.bytes 1 7 ≡ right_bytes serial

-- Of two frames that differ only past their length: what they say, whether they are heard and, of an answer, whether it is right are the same. (Whether
-- a frame that is no answer is right, nobody asks: the question looks at eight bytes.)
pub record PastLength (f g : Frame) : Type 0 where
  pub message : message f ≡ message g
  pub heard : (k : Settings) → heard_on k f ≡ heard_on k g
  pub right : (serial : List ℕ) → Tells Answer f → is_right serial f ≡ is_right serial g

-- ---- settings

-- the codes in numbers, and each is one setting's
abbrev pub CodesMean : Type 0
CodesMean = (s : Setting) (b : ℕ) → Coded s b ↔ b ≡ code s

abbrev pub OneCode : Type 0
OneCode = (s x : Setting) → code s ≡ code x → s ≡ x

-- the value of each setting has a name of its own; written to one setting, a value is there, and at every other setting is what was
pub record EachSetting (k : Settings) : Type 0 where
  pub receive : value_of k ReceiveId ≡ k.receive
  pub transmit : value_of k TransmitId ≡ k.transmit
  pub speed : value_of k Speed ≡ k.speed
  pub voltage : value_of k Voltage ≡ k.voltage
  pub warning : value_of k WarningLevel ≡ k.warning
  pub fault : value_of k FaultLevel ≡ k.fault
  pub written : (s : Setting) (v : ℕ) → value_of (with_value k s v) s ≡ v
  pub others : (s x : Setting) (v : ℕ) → (s ≡ x → ⊥) → value_of (with_value k s v) x ≡ value_of k x

abbrev pub LegalMeans : Type 0
LegalMeans = (rating : ℕ) (s : Setting) (v : ℕ) → legal rating s v ≡ true ↔ Legal rating s v

abbrev pub AcceptedMeans : Type 0
AcceptedMeans = (rating : ℕ) (k : Settings) → accepted rating k ≡ true ↔ Acceptable rating k

-- "Equal identifiers are accepted (house)."
abbrev pub EqualAccepted : Type 0
EqualAccepted = (rating : ℕ) (k : Settings) → accepted rating k ≡ true → accepted rating (with_value k TransmitId k.receive) ≡ true

-- "A value with its top bit set is negative and refused by NAK."
abbrev pub NegativeRefused : Type 0
NegativeRefused = (rating : ℕ) (s : Setting) (v : ℕ) → rating ≤ 65535 → 2147483648 ≤ v → legal rating s v ≡ false

-- the two speeds, as they are shown
pub record SpeedsShown : Type 0 where
  pub slow : speed_number 0x00CA0250 ≡ 250
  pub fast : speed_number 0x00CA0500 ≡ 500
  -- and any other number in three figures too
  pub figures : (v : ℕ) → speed_number v < 1000

-- ---- what the monitor says

-- bytes said on an identifier are sent: an extended frame on it, of their number, with these bytes and zeros after
pub record Sent (transmit : ℕ) (said : List ℕ) (f : Frame) : Type 0 where
  pub sent : says transmit said ≡ Some f
  pub extended : f.extended ≡ true
  pub identifier : f.identifier ≡ transmit
  pub length : f.length ≡ size said
  pub bytes : f.bytes ≡ said ++ replicate (8 - size said) 0

-- ---- serial words

-- the report that the codec builds of a serial word, on every identifier that the limits allow
abbrev pub SerialBuilt : Type 0
SerialBuilt = (transmit : ℕ) (serial : List ℕ) (w : SerialWord) → transmit ≤ 0x1FFFFFFF → serial_report transmit serial w ≡ says transmit (serial_mux w ∷ bytes_of Big 4 (serial_value serial w))

-- "08 the last four serial bytes, 0B the first four": the serial bytes as they stand
abbrev pub SerialWords : Type 0
SerialWords = (transmit : ℕ) (serial : List ℕ) (w : SerialWord) → transmit ≤ 0x1FFFFFFF → Bytes serial → serial_report transmit serial w ≡ says transmit (serial_bytes w serial)

-- ---- the promise

pub record Promise : Type 0 where
  pub messages : (f : Frame) → Says f
  pub heard : HeardMeans
  pub right : RightMeans
  pub past_length : (f g : Frame) → Alike f g → PastLength f g
  pub coded : CodesMean
  pub codes : OneCode
  pub values : (k : Settings) → EachSetting k
  pub legal : LegalMeans
  pub accepted : AcceptedMeans
  pub equal_identifiers : EqualAccepted
  pub negative : NegativeRefused
  pub sent : (transmit : ℕ) (bytes : List ℕ) → (f : Frame) × Sent transmit bytes f
  pub not_sent : quiet ≡ None
  pub serial_built : SerialBuilt
  pub serial_words : SerialWords
  pub speeds : SpeedsShown
