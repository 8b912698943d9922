-- What is given on paper, with document 01's values.
use Rattle.std.specs.Prelude.{ℕ, List, take, Option, Some, None}
use Rattle.codec_pages.specs.declared.frame.Frame.{Frame}

-- the monitor is on; no reply; the identifier and the bytes of a reply; the ticks of the uptime
pub data Given : Type 0 where
  on : Given
  quiet : Given
  reply : ℕ → List ℕ → Given
  ticks : ℕ → Given

abbrev pub given_reply : Option Frame → Given
given_reply None = quiet
given_reply (Some f) = reply f.identifier (take f.length f.bytes)
