-- What the definitions mean, in document 01's own numbers and bytes. There are no tests here: only lengths, bytes, equalities and inequalities.
-- `Promise` says that the definitions mean just this.
use Rattle.std.specs.Prelude.{ℕ, ◌<◌, ◌≤◌, ◌≡◌, List, [], ◌∷◌, ◌⊎◌, length, get_or}
use Rattle.std.specs.Int.Bits.{bit_xor}
use Rattle.codec_pages.specs.declared.frame.Frame.{Frame}
use Rattle.codec_pages.specs.Table.{part, number_at}
use Rattle.maintenance_pages.specs.declared.setting.Setting.{Setting}
use Rattle.maintenance_pages.specs.declared.setting.Setting.TheVariants.{ReceiveId, TransmitId, Speed, Voltage, WarningLevel, FaultLevel}
use Rattle.maintenance_pages.specs.declared.setting.Settings.{Settings}
use Rattle.maintenance_pages.specs.declared.message.SerialWord.{SerialWord}
use Rattle.maintenance_pages.specs.declared.message.SerialWord.TheVariants.{First, Second, Third, Last}
use Rattle.maintenance_pages.specs.declared.message.Message.{Message}
use Rattle.maintenance_pages.specs.declared.message.Message.TheVariants.{Other, Unlock, Commit, Answer, SerialRequest, Read, Write}

-- ---- what a frame tells

abbrev pub first_byte : Frame → ℕ
first_byte f = get_or f.bytes 0 0

-- a frame of this length that begins with these bytes
abbrev pub Begins : Frame → ℕ → List ℕ → Type 0
Begins f n bytes = (f.length ≡ n) × (part f.bytes 0 (length bytes) ≡ bytes)

-- "Codes: 15 receive id and 16 transmit id [..]; 17 speed [..]; 18 voltage [..]; 19 warning and 20 fault level"
abbrev pub Coded : Setting → ℕ → Type 0
Coded ReceiveId b = b ≡ 0x15
Coded TransmitId b = b ≡ 0x16
Coded Speed b = b ≡ 0x17
Coded Voltage b = b ≡ 0x18
Coded WarningLevel b = b ≡ 0x19
Coded FaultLevel b = b ≡ 0x20

-- "08 the last four serial bytes, 0B the first four"
abbrev pub AsksFor : SerialWord → ℕ → Type 0
AsksFor Last b = b ≡ 0x08
AsksFor Third b = b ≡ 0x09
AsksFor Second b = b ≡ 0x0A
AsksFor First b = b ≡ 0x0B

-- the five bytes of the reply
abbrev pub serial_bytes : SerialWord → List ℕ → List ℕ
serial_bytes Last serial = 0x08 ∷ part serial 12 4
serial_bytes Third serial = 0x09 ∷ part serial 8 4
serial_bytes Second serial = 0x0A ∷ part serial 4 4
serial_bytes First serial = 0x0B ∷ part serial 0 4

-- A frame with the length and the bytes of such a message. Nothing tells "something else".
abbrev pub Tells : Message → Frame → Type 0
Tells Unlock f = Begins f 3 (0x14 ∷ 0x28 ∷ 0xD5 ∷ [])
Tells Commit f = Begins f 3 (0x14 ∷ 0x9A ∷ 0x28 ∷ [])
Tells Answer f = Begins f 8 (0x14 ∷ [])
Tells (SerialRequest w) f = ((f.length ≡ 1) ⊎ (f.length ≡ 3)) × AsksFor w (first_byte f)
Tells (Read s) f = (f.length ≡ 1) × Coded s (first_byte f)
Tells (Write s v) f = (f.length ≡ 5) × (Coded s (first_byte f) × (v ≡ number_at f.bytes 1 4))
Tells Other f = ⊥

-- the seven bytes of a right answer: the first seven serial bytes "xored with the seven constants 53 4E 44 53 49 4D 42"
abbrev pub right_bytes : List ℕ → List ℕ
right_bytes serial =
    bit_xor (get_or serial 0 0) 0x53
    ∷ bit_xor (get_or serial 1 0) 0x4E
    ∷ bit_xor (get_or serial 2 0) 0x44
    ∷ bit_xor (get_or serial 3 0) 0x53
    ∷ bit_xor (get_or serial 4 0) 0x49
    ∷ bit_xor (get_or serial 5 0) 0x4D
    ∷ bit_xor (get_or serial 6 0) 0x42
    ∷ []

-- ---- which values are legal, and which settings power-on accepts

-- "0 to 0x1FFFFFFF"; "the two values"; "at least 1 and below the rating"; "1 to 2,147,483,647"
abbrev pub Legal : ℕ → Setting → ℕ → Type 0
Legal rating ReceiveId v = v ≤ 0x1FFFFFFF
Legal rating TransmitId v = v ≤ 0x1FFFFFFF
Legal rating Speed v = (v ≡ 0x00CA0250) ⊎ (v ≡ 0x00CA0500)
Legal rating Voltage v = (1 ≤ v) × (v < rating)
Legal rating WarningLevel v = (1 ≤ v) × (v ≤ 2147483647)
Legal rating FaultLevel v = (1 ≤ v) × (v ≤ 2147483647)

-- "a voltage rating 1 to 65,535 [..] identifiers at most 29 bits; speed 0x00CA0250 or 0x00CA0500; voltage 0 up to one below the rating; levels 1 to
-- 2,147,483,647". That a rating is at most 65,535 its type says, sixteen bits: of any number at all it is 1 or more.
pub record Acceptable (rating : ℕ) (k : Settings) : Type 0 where
  pub rated : 1 ≤ rating
  pub receive : k.receive ≤ 0x1FFFFFFF
  pub transmit : k.transmit ≤ 0x1FFFFFFF
  pub speed : (k.speed ≡ 0x00CA0250) ⊎ (k.speed ≡ 0x00CA0500)
  pub voltage : k.voltage < rating
  pub warning : (1 ≤ k.warning) × (k.warning ≤ 2147483647)
  pub fault : (1 ≤ k.fault) × (k.fault ≤ 2147483647)
