-- `steps::sends::buffer_or_stop` meets its contract: kept where the attached buffer has room, else stopped. Assumes nothing.
use Rattle.std.proofs.Common.{sym, ◌∙◌}
use Rattle.rules.specs.Sheet.{sheet_in}
use Rattle.rules.specs.Step.{pend_message}
use Rattle.state.specs.Queues.{list_of, with_list, pended}
use Rattle.account.specs.Stores.{stands_for}
use Rattle.state.specs.declared.StopVerdict.TheVariants.{Overflow}
use Rattle.simulation.specs.Simulates.{simulates_told}
use Rattle.steps.specs.Unmatched.{buffered_fits, buffered_overflows}
use Rattle.steps.specs.Pending.{kept_holds, kept_pends, stop_simulates}
use Rattle.steps.proofs.sends.buffer_or_stop.Goals as goal

pub returns-then-not-keep : goal.returns-then-not-keep
unfolding stands_for
returns-then-not-keep c =
    let a = c.args in
    let k = c.keep.ensures in
    let full = c.if-not-keep.true in
    simulates_told (λ x d o. buffered_overflows (sheet_in a.s.now) a.r a.i x (sym (k.says x d o) ∙ full))
    (stop_simulates Overflow a.r a.i (k.refused full) c.halting.ensures)

pub pend-requires : goal.pend-requires
pend-requires c = kept_holds c.keep.ensures (c.if-not-keep.false) c.requires

pub returns : goal.returns
unfolding stands_for pended pend_message with_list list_of
returns c =
    let a = c.args in
    let k = c.keep.ensures in
    let room = c.if-not-keep.false in
    simulates_told (λ x d o. buffered_fits (sheet_in a.s.now) a.r a.i x (sym (k.says x d o) ∙ room))
    (kept_pends k room c.pend.ensures)
