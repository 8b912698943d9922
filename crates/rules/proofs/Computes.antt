-- The look-back can be worked out: here over 320 events, by `refl`. A definition of it may prove and no longer compute,
-- and then this is where it shows. Assumes nothing.
use Rattle.std.proofs.Common.{ℕ, zero, suc, ◌+◌, ◌*◌, ◌≡◌, refl, true, List, [], ◌∷◌, replicate}
use Rattle.codec_pages.specs.Frames.{frame_of, body_of}
use Rattle.maintenance_pages.specs.Messages.{message}
use Rattle.rules.specs.Events.{Event, frame_event, PowerOn}
use Rattle.rules.specs.History.{stored_after}

abbrev power_on : PowerOn
power_on =
    record {
      at = record { 0 = 0 };
      serial = replicate 16 0;
      rating = 1000;
      settings = record { receive = 0x0A100101; transmit = 0x0A100100; speed = 0x00CA0500; voltage = 0; warning = 500; fault = 100 };
    }

abbrev comes : ℕ → List ℕ → Event
comes at bytes = frame_event (record { 0 = at }) true (frame_of 0x0A100101 (body_of bytes))

-- so many sessions, the newest first: unlock, answer, a write of the session's number as the fault level, commit
sessions : ℕ → List Event
sessions zero = []
sessions (suc n) =
    comes (100 * n + 40) (0x14 ∷ 0x9A ∷ 0x28 ∷ [])
    ∷ comes (100 * n + 30) (0x20 ∷ 0 ∷ 0 ∷ 0 ∷ suc n ∷ [])
    ∷ comes (100 * n + 20) (0x14 ∷ 0x53 ∷ 0x4E ∷ 0x44 ∷ 0x53 ∷ 0x49 ∷ 0x4D ∷ 0x42 ∷ [])
    ∷ comes (100 * n + 10) (0x14 ∷ 0x28 ∷ 0xD5 ∷ [])
    ∷ sessions n

eighty_sessions : (stored_after power_on (sessions 80)).fault ≡ 80
unfolding stored_after message sessions
eighty_sessions = refl
