-- The monitor keeps its promise. Assumes nothing.
use Rattle.monitor.specs.Promise.{Promise}
use Rattle.monitor.proofs.Events.{handles, powers_on, uptime_told}
use Rattle.monitor.proofs.Runs.{holds, past_length}
use Rattle.monitor.proofs.WorkedOut.{runs_accepted, worked_out, demand_3}

pub promise : Promise
promise =
    record {
      events = handles;
      power_on = powers_on;
      uptime = uptime_told;
      history = holds;
      past_length = past_length;
      runs = runs_accepted;
      worked_out = worked_out;
      demand_3 = demand_3;
    }
