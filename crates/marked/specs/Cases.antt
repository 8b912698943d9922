-- What a marked case is: what is given, and what must come out.
use Rattle.std.specs.Prelude.{ℕ, ◌≡◌, List, [], ◌∷◌}
use Rattle.refusal.specs.Conditions.{Told, good}
use Rattle.codec_pages.specs.declared.rows.Kind.{Kind}
use Rattle.codec_pages.specs.declared.frame.Frame.{Frame}
use Rattle.codec_pages.specs.Told.{Values, told_report, told_request}
use Rattle.codec_pages.specs.Reports.{read_report}
use Rattle.codec_pages.specs.Requests.{read_request}
use Rattle.maintenance_pages.specs.declared.setting.Settings.{Settings}
use Rattle.maintenance_pages.specs.Messages.{answer_to}
use Rattle.rules.specs.Events.{Event, PowerOn}
use Rattle.rules.specs.History.{stored_after, reply_to}
use Rattle.rules.specs.Given.{Given, given_reply}
use Rattle.monitor.specs.Bench.{outcome_of, after}
use Rattle.monitor.specs.Told.{told_outcome}
use Rattle.listing.specs.Output.{output_of}

pub data Case : Type 0 where
  -- the bytes of a log, and the whole output of the program that replays it
  replays : List ℕ → List ℕ → Case
  -- events after a power-on, the first one first; the reply to each, and the six stored after the last
  runs : PowerOn → List Event → List Given → Settings → Case
  -- a challenge, and the bytes that answer it
  answers : List ℕ → List ℕ → Case
  -- a frame from a device of a kind, on the identifier expected; its multiplexer and values
  reports : Kind → ℕ → Frame → Values → Case
  -- the same to a device
  requests : Kind → ℕ → Frame → Values → Case

-- ---- runs

-- what a run shows: the reply to each event, and the six stored after the last
pub record Shown : Type 0 where
  pub replies : List (Told Given)
  pub stored : Settings

-- to one who tells what is replied to an event after a history, and what is stored after one
abbrev pub shown_by : (List Event → Event → Told Given) → (List Event → Settings) → List Event → List Event → Shown
shown_by says stores h [] = record { replies = []; stored = stores h }
shown_by says stores h (e ∷ es) = record { replies = says h e ∷ (shown_by says stores (e ∷ h) es).replies; stored = (shown_by says stores (e ∷ h) es).stored }

abbrev pub all_accepted : List Given → List (Told Given)
all_accepted [] = []
all_accepted (g ∷ gs) = good g ∷ all_accepted gs

-- the monitor on the bench shows it, and so does the look-back over the events
pub record Runs (p : PowerOn) (es : List Event) (due : Shown) : Type 0 where
  pub on_the_bench : shown_by (λ h e. told_outcome (outcome_of e (after p h))) (λ h. (after p h).monitor.stored) [] es ≡ due
  pub looking_back_lem : shown_by (λ h e. good (given_reply (reply_to p h e))) (λ h. stored_after p h) [] es ≡ due

-- ---- what must come out comes out

abbrev pub Holds : Case → Type 0
Holds (replays log text) = output_of log ≡ text
Holds (runs p es said stored) = Runs p es (record { replies = all_accepted said; stored = stored })
Holds (answers challenge bytes) = answer_to challenge ≡ bytes
Holds (reports kind expected f values) = told_report (read_report kind expected f) ≡ good values
Holds (requests kind expected f values) = told_request (read_request kind expected f) ≡ good values

abbrev pub AllHold : List Case → Type 0
AllHold [] = Unit
AllHold (c ∷ cs) = Holds c × AllHold cs
