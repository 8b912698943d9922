-- Frames: document 01's refusals 1 and 2, and the frames that are built.
use Rattle.std.specs.Prelude.{ℕ, ◌-◌, Bool, true, not, cond, ◌||◌, ◌&&◌, List, ◌++◌, ltb, eqb, length, get_or, replicate, Result, Ok, Err}
use Rattle.refusal.specs.declared.Refusal.{Refusal}
use Rattle.refusal.specs.declared.Refusal.TheVariants.{OverLimits, NotListed, DoesNotFit}
use Rattle.codec_pages.specs.declared.frame.Frame.{Frame}
use Rattle.codec_pages.specs.declared.frame.Body.{Body}

-- an identifier of more than 29 bits
abbrev pub over_identifier : ℕ → Bool
over_identifier identifier = ltb 0x1FFFFFFF identifier

-- 1: "a frame's length is over 8, or its identifier over 0x1FFFFFFF (extended) or 0x7FF (standard)"
abbrev pub over_limits : Frame → Bool
over_limits f =
    ltb 8 f.length
    || f.extended && over_identifier f.identifier
    || not f.extended && ltb 0x7FF f.identifier

-- 2: "a report or request is not extended, or not on the expected identifier"
abbrev pub not_expected : ℕ → Frame → Bool
not_expected expected f = not f.extended || not (eqb f.identifier expected)

-- byte 0 is the multiplexer
abbrev pub mux_of : Frame → ℕ
mux_of f = get_or f.bytes 0 0

-- a body of some bytes, at most eight: zero past them
abbrev pub body_of : List ℕ → Body
body_of bs = record { length = length bs; bytes = bs ++ replicate (8 - length bs) 0 }

-- the extended frame with a body
abbrev pub frame_of : ℕ → Body → Frame
frame_of identifier body = record { extended = true; identifier = identifier; length = body.length; bytes = body.bytes }

-- ---- a frame built of a report or a request: by those that the kind does not list, by those that do not fit, and by the bytes

abbrev pub build : {A : Type 0} → (A → Bool) → (A → Bool) → (A → List ℕ) → ℕ → A → Result Frame Refusal
build unlisted misfit bytes identifier a =
    cond (over_identifier identifier) (Err OverLimits)
    (cond (unlisted a) (Err NotListed)
    (cond (misfit a) (Err DoesNotFit) (Ok (frame_of identifier (body_of (bytes a))))))
