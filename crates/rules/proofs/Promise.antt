-- The rules keep their promise. Assumes nothing.
use mathlib.Core.Path.{refl, sym, ap}
use mathlib.Core.List.{List}
use Rattle.time.specs.declared.Stamp.{Stamp}
use Rattle.time.specs.Times.{ticks_between}
use Rattle.rules.specs.Events.{Event, PowerOn, IsAccepted, Run}
use Rattle.rules.specs.Rules.{unit_after}
use Rattle.rules.specs.Demand.{looking_back, Same}
use Rattle.rules.specs.Promise.{state_of, WorkedOut, Demand3, Sound, Promise}
use Rattle.rules.proofs.Rules.{unheard, starts}
use Rattle.rules.proofs.Speed.{speed_silent}
use Rattle.rules.proofs.Replies.{outside_replies, session_replies, meets_woken}
use Rattle.rules.proofs.History.{unit_serial, unit_rating, unit_stored, unit_session, unit_start, unit_reply}
use Rattle.rules.proofs.Starts.{bound}
use Rattle.rules.proofs.Written.{last_accepted, last_there, last_one}
use Rattle.rules.proofs.Demand.{demand_back}
use Rattle.rules.proofs.OneReading.{one_reading, meets_too}
use Rattle.rules.proofs.Alike.{same_event, same_history}
use Rattle.rules.proofs.Legal.{stored_legal}
use Rattle.rules.proofs.Identifiers.{reply_on}

worked_out : (p : PowerOn) (h : List Event) → Run p h → WorkedOut p h
worked_out p h r =
    record {
      serial = unit_serial p h r;
      rating = unit_rating p h r;
      stored = unit_stored p h r;
      reply = unit_reply p h;
      session = unit_session p h r;
      start = unit_start p h r;
      started = bound p h r;
      uptime = λ t l. ap (λ (s : Stamp). ticks_between s t) (unit_start p h r t l);
    }

-- the unit says what the reading says
unit_same : (p : PowerOn) (h : List Event) → Run p h → Same p (looking_back p) (state_of (λ h. unit_after p h)) h
unit_same p h r =
    record {
      stored = sym (unit_stored p h r);
      session = λ t l. sym (unit_session p h r t l);
      start = λ t l. sym (unit_start p h r t l);
    }

demand_3 : (p : PowerOn) → Demand3 p
demand_3 p =
    record {
      unit = meets_too p (looking_back p) (state_of (λ h. unit_after p h)) (demand_back p) (unit_same p);
      history = demand_back p;
      alike = meets_too p;
      one = one_reading p;
    }

sound : (p : PowerOn) → IsAccepted p → (h : List Event) → Sound p h
sound p a h =
    let its = stored_legal p a h in
    record { legal = its; identifier = λ e. reply_on p h e its.transmit }

pub promise : Promise
promise =
    record {
      beyond = record { reset = λ at. refl; frame = λ at storing f. refl };
      starts = starts;
      silence = meets_woken;
      unheard = unheard;
      speed = speed_silent;
      outside = outside_replies;
      session = session_replies;
      past_length = same_event;
      past_lengths = same_history;
      worked_out = worked_out;
      last_accepted_lem = λ rating s l. (last_accepted rating s l, (last_there rating s l, λ u a. sym (last_one rating s l u a)));
      demand_3 = demand_3;
      sound = sound;
    }
