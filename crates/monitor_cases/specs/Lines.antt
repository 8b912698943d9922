-- The lines of docs/MONITOR_CASES.md, "A line".
use Rattle.std.specs.Prelude.{ℕ, List, [], ◌∷◌, ◌++◌, Option, Some, None, Result, Ok, Err}
use Rattle.text.specs.Figures.{hexadecimal}
use Rattle.text.specs.Letters.{letters}
use Rattle.codec_pages.specs.declared.frame.Frame.{Frame}
use Rattle.refusal.specs.declared.Refusal.{Refusal}
use Rattle.time.specs.declared.Ticks.{Ticks}
use Rattle.maintenance_pages.specs.declared.setting.Settings.{Settings}
use Rattle.maintenance_pages.specs.Settings.{speed_number}
use Rattle.monitor.specs.declared.bench.Bench.{Bench}
use Rattle.show.specs.Lines.{line_feed, value_text, refused_text, data_text, frame_text}

-- "Second part of these lines, after one space: `stored` and the six settings"
abbrev pub settings_text : Settings → List ℕ
settings_text k =
    letters " stored " ++ (hexadecimal 8 k.receive ++ ((32 ∷ []) ++ (hexadecimal 8 k.transmit ++ (value_text (speed_number k.speed) ++ (value_text k.voltage ++ (value_text k.warning ++ (value_text k.fault ++ line_feed)))))))

abbrev pub stored_text : Bench → List ℕ
stored_text b = settings_text b.monitor.stored

-- "`no reply`; or the reply frame"
abbrev pub reply_text : Option Frame → List ℕ
reply_text (Some f) = frame_text f
reply_text None = letters "no reply"

-- a first part: what was answered, or the refusal
abbrev pub answered_text : {A : Type 0} → (A → List ℕ) → Result A Refusal → List ℕ
answered_text text (Ok a) = text a
answered_text text (Err why) = refused_text why

-- "An event, first part"
abbrev pub outcome_text : Result (Option Frame) Refusal → List ℕ
outcome_text = answered_text reply_text

-- "A power-on, first part: `on`, or `refused 8`."
abbrev pub power_on_text : Result Bench Refusal → List ℕ
power_on_text = answered_text (λ b. letters "on")

-- "An uptime question, first part: `ticks N`, N in decimal, or `refused 7`."
abbrev pub uptime_text : Result Ticks Refusal → List ℕ
uptime_text = answered_text (λ t. letters "ticks" ++ value_text t.0)

-- "the first part is `no monitor` [..], and there is no second part"
abbrev pub no_monitor_text : List ℕ
no_monitor_text = letters "no monitor" ++ line_feed

-- "A challenge: `answer` and seven bytes in two digits each"
abbrev pub answer_text : List ℕ → List ℕ
answer_text a = letters "answer" ++ (data_text a ++ line_feed)
