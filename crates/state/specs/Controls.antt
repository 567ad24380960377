-- What is kept of a job beside scratch, and each part of it changed. Assumes nothing.
use Rattle.std.specs.Prelude.{ℕ, Option, None, Some}
use Rattle.std.proofs.Math.Option.{Option as Maybe, none, some}
use Rattle.rules.specs.Job.{Stop as JobStop}
use Rattle.state.specs.declared.Control.{Control}
use Rattle.state.specs.declared.Stop.{Stop}
use Rattle.state.specs.declared.StopVerdict.{StopVerdict}
use Rattle.state.specs.Numbers.{verdict_number}

-- a stop as rules has it
abbrev pub job_stop : Stop → JobStop
job_stop p =
    record {
      verdict = verdict_number p.verdict;
      rank = p.rank;
      at_op = p.op;
    }

abbrev pub stop_of : Option Stop → Maybe JobStop
stop_of None = none
stop_of (Some p) = some (job_stop p)

abbrev pub stop : StopVerdict → (rank at_op : ℕ) → Stop
stop v r i =
    record {
      verdict = v;
      rank = r;
      op = i;
    }

abbrev pub control : (messages receives steps : ℕ) → Option Stop → Control
control m r k p =
    record {
      messages = m;
      receives = r;
      steps = k;
      stop = p;
    }

abbrev pub no_control : Control
no_control = control 0 0 0 None

-- the lengths of the two waiting lists; the steps taken; the stop
abbrev pub counted : (messages receives : ℕ) → Control → Control
counted m r t = control m r t.steps t.stop

abbrev pub stepped : (steps : ℕ) → Control → Control
stepped k t = control t.messages t.receives k t.stop

abbrev pub halted : StopVerdict → (rank at_op : ℕ) → Control → Control
halted v r i t = control t.messages t.receives t.steps (Some (stop v r i))
