-- Messages: what a frame says to the monitor, and what the monitor says back.
use Rattle.std.specs.Prelude.{ℕ, Bool, false, cond, ◌&&◌, ◌||◌, List, [], ◌∷◌, map, eqb, leb, get_or, replicate, Option, Some, None, Result, Ok, Err}
use Rattle.std.specs.Int.Bits.{bit_xor}
use Rattle.words.specs.declared.Order.TheVariants.{Big}
use Rattle.refusal.specs.declared.Refusal.{Refusal}
use Rattle.words.specs.Words.{bytes_of}
use Rattle.codec_pages.specs.declared.frame.Frame.{Frame}
use Rattle.codec_pages.specs.declared.rows.Kind.TheVariants.{Sim101}
use Rattle.codec_pages.specs.declared.report.Report.TheVariants.{Word}
use Rattle.codec_pages.specs.Frames.{body_of, frame_of}
use Rattle.codec_pages.specs.Table.{part, number_at}
use Rattle.codec_pages.specs.Building.{build_report}
use Rattle.maintenance_pages.specs.declared.setting.Setting.{Setting}
use Rattle.maintenance_pages.specs.declared.setting.Settings.{Settings}
use Rattle.maintenance_pages.specs.declared.message.SerialWord.{SerialWord}
use Rattle.maintenance_pages.specs.declared.message.SerialWord.TheVariants.{First, Second, Third, Last}
use Rattle.maintenance_pages.specs.declared.message.Message.{Message}
use Rattle.maintenance_pages.specs.declared.message.Message.TheVariants.{Other, Unlock, Commit, Answer, SerialRequest, Read, Write}
use Rattle.maintenance_pages.specs.Settings.{code, setting_of}

-- ---- what a frame says. Bytes past its length are no part of it

abbrev pub byte : Frame → ℕ → ℕ
byte f i = get_or f.bytes i 0

-- "Unlock 14 28 D5, length 3"
abbrev pub is_unlock : Frame → Bool
is_unlock f = eqb f.length 3 && eqb (byte f 0) 0x14 && eqb (byte f 1) 0x28 && eqb (byte f 2) 0xD5

-- "Commit 14 9A 28, length 3"
abbrev pub is_commit : Frame → Bool
is_commit f = eqb f.length 3 && eqb (byte f 0) 0x14 && eqb (byte f 1) 0x9A && eqb (byte f 2) 0x28

-- "Answer: length 8, byte 0 is 14"
abbrev pub is_answer : Frame → Bool
is_answer f = eqb f.length 8 && eqb (byte f 0) 0x14

-- "a request 08 to 0B of length 1 or 3"
abbrev pub asks_serial : Frame → Bool
asks_serial f = (eqb f.length 1 || eqb f.length 3) && leb 0x08 (byte f 0) && leb (byte f 0) 0x0B

-- "08 the last four serial bytes, 0B the first four"
abbrev pub word_asked : ℕ → SerialWord
word_asked mux = cond (eqb mux 0x08) Last (cond (eqb mux 0x09) Third (cond (eqb mux 0x0A) Second First))

-- "Read, length 1, a code below"
abbrev pub as_read : Option Setting → Message
as_read None = Other
as_read (Some s) = Read s

-- "Write, length 5, code and a 32-bit value"
abbrev pub as_write : Option Setting → ℕ → Message
as_write None v = Other
as_write (Some s) v = Write s v

unfoldable pub message : Frame → Message
message f =
    cond (is_unlock f) Unlock
    (cond (is_commit f) Commit
    (cond (is_answer f) Answer
    (cond (asks_serial f) (SerialRequest (word_asked (byte f 0)))
    (cond (eqb f.length 1) (as_read (setting_of (byte f 0)))
    (cond (eqb f.length 5) (as_write (setting_of (byte f 0)) (number_at f.bytes 1 4))
    Other)))))

-- "A frame is heard when it is extended and its identifier equals the stored receive identifier."
abbrev pub heard_on : Settings → Frame → Bool
heard_on stored f = f.extended && eqb f.identifier stored.receive

-- ---- the challenge and its answer

-- "the seven bytes are the first seven serial bytes"
abbrev pub challenge_of : List ℕ → List ℕ
challenge_of serial = part serial 0 7

abbrev pub constants : List ℕ
constants = 0x53 ∷ 0x4E ∷ 0x44 ∷ 0x53 ∷ 0x49 ∷ 0x4D ∷ 0x42 ∷ []

-- "the seven challenge bytes xored with the seven constants"
abbrev pub answer_to : List ℕ → List ℕ
answer_to challenge = map (λ i. bit_xor (get_or challenge i 0) (get_or constants i 0)) (0 ∷ 1 ∷ 2 ∷ 3 ∷ 4 ∷ 5 ∷ 6 ∷ [])

-- two rows of seven bytes are the same
abbrev pub same_seven : List ℕ → List ℕ → Bool
same_seven xs ys =
    eqb (get_or xs 0 0) (get_or ys 0 0)
    && eqb (get_or xs 1 0) (get_or ys 1 0)
    && eqb (get_or xs 2 0) (get_or ys 2 0)
    && eqb (get_or xs 3 0) (get_or ys 3 0)
    && eqb (get_or xs 4 0) (get_or ys 4 0)
    && eqb (get_or xs 5 0) (get_or ys 5 0)
    && eqb (get_or xs 6 0) (get_or ys 6 0)

-- the seven bytes after byte 0 are the right answer
abbrev pub is_right : List ℕ → Frame → Bool
is_right serial f = same_seven (part f.bytes 1 7) (answer_to (challenge_of serial))

-- ---- what the monitor says, on a transmit identifier

abbrev pub quiet : Option Frame
quiet = None

abbrev pub sends : Frame → Option Frame
sends f = Some f

abbrev pub says : ℕ → List ℕ → Option Frame
says transmit bytes = sends (frame_of transmit (body_of bytes))

-- "ACK is 41 43 4B, NAK is 4E 41 4B"
abbrev pub ack : ℕ → Option Frame
ack transmit = says transmit (0x41 ∷ 0x43 ∷ 0x4B ∷ [])

abbrev pub nak : ℕ → Option Frame
nak transmit = says transmit (0x4E ∷ 0x41 ∷ 0x4B ∷ [])

-- "the challenge, 14 and seven bytes"
abbrev pub challenged : ℕ → List ℕ → Option Frame
challenged transmit serial = says transmit (0x14 ∷ challenge_of serial)

-- "reply of length 5, the code and the draft value"
abbrev pub shown : ℕ → Setting → ℕ → Option Frame
shown transmit s v = says transmit (code s ∷ bytes_of Big 4 v)

-- "08 the last four serial bytes, 0B the first four"
abbrev pub serial_mux : SerialWord → ℕ
serial_mux First = 0x0B
serial_mux Second = 0x0A
serial_mux Third = 0x09
serial_mux Last = 0x08

abbrev pub serial_place : SerialWord → ℕ
serial_place First = 0
serial_place Second = 4
serial_place Third = 8
serial_place Last = 12

abbrev pub serial_value : List ℕ → SerialWord → ℕ
serial_value serial w = number_at serial (serial_place w) 4

abbrev pub blank : Frame
blank = record { extended = false; identifier = 0; length = 0; bytes = replicate 8 0 }

-- the frame that the codec builds. It builds none on an identifier that the limits do not allow: the frame is blank then
abbrev pub built_frame : Result Frame Refusal → Frame
built_frame (Ok f) = f
built_frame (Err why) = blank

-- "its serial word": a report of the SIM101 table
abbrev pub serial_report : ℕ → List ℕ → SerialWord → Option Frame
serial_report transmit serial w = sends (built_frame (build_report Sim101 transmit (Word (serial_mux w) (serial_value serial w))))
