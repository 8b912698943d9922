-- "Bytes past the length are no part of a frame": two frames that differ at most there.
use Rattle.std.specs.Prelude.{ℕ, ◌<◌, ◌≡◌, get_or}
use Rattle.codec_pages.specs.declared.frame.Frame.{Frame}

pub record Alike (f g : Frame) : Type 0 where
  pub extended : f.extended ≡ g.extended
  pub identifier : f.identifier ≡ g.identifier
  pub length : f.length ≡ g.length
  pub bytes : (i : ℕ) → i < f.length → get_or f.bytes i 0 ≡ get_or g.bytes i 0
