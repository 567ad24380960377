-- `steps::sends::leave` meets its contract: by mode, each way is the definition's. Assumes nothing.
use Rattle.std.proofs.Common.{refl, sym, ◌∙◌}
use Rattle.rules.specs.Sheet.{sheet_in}
use Rattle.state.specs.declared.StopVerdict.TheVariants.{NotReady}
use Rattle.simulation.specs.Simulates.{simulates_as}
use Rattle.steps.specs.Unmatched.{unmatched_ready, unmatched_buffered, unmatched_other}
use Rattle.steps.specs.Pending.{stop_simulates}
use Rattle.steps.proofs.sends.leave.Goals as goal

pub returns-then-is_ready : goal.returns-then-is_ready
returns-then-is_ready c =
    let a = c.args in
    let s = sheet_in a.s.now in
    simulates_as (λ x o. unmatched_ready s a.r a.i x (sym c.is_ready.ensures ∙ c.if-is_ready.true))
    (stop_simulates NotReady a.r a.i refl c.halting.ensures)

pub returns-then-is_buffered : goal.returns-then-is_buffered
returns-then-is_buffered c =
    let a = c.args in
    let s = sheet_in a.s.now in
    simulates_as
    (λ x o. unmatched_buffered s a.r a.i x (sym c.is_ready.ensures ∙ c.if-is_ready.false)
    (sym c.is_buffered.ensures ∙ c.if-is_buffered.true))
    c.buffer_or_stop.ensures

pub returns : goal.returns
returns c =
    let a = c.args in
    let s = sheet_in a.s.now in
    simulates_as
    (λ x o. unmatched_other s a.r a.i x (sym c.is_ready.ensures ∙ c.if-is_ready.false)
    (sym c.is_buffered.ensures ∙ c.if-is_buffered.false))
    c.keep_or_pend.ensures
