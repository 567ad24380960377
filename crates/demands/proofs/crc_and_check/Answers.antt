-- `demands::crc_and_check` meets its contract, by what the CRC's service and check ensure. Assumes nothing.
use Rattle.std.proofs.Common.{ap, ℕ, ◌∙◌}
use Rattle.rules.specs.Report.{low_two}
use Rattle.rules.specs.Step.{splice}
use Rattle.demands.specs.Carried.{carried_short, carried_put}
use Rattle.demands.proofs.crc_and_check.Goals as goal

pub returns-then-sheet-lt-HEADER_SIZE : goal.returns-then-sheet-lt-HEADER_SIZE
returns-then-sheet-lt-HEADER_SIZE c =
    carried_short c.args.sheet.now c.jamturret_check.result c.if-sheet-lt-HEADER_SIZE.true c.jamturret_check.ensures

pub returns : goal.returns
returns c =
    let put = c.put_two in
    let crc = c.jamturret_crc-value in
    carried_put c.args.sheet.now c.jamturret_check-2.result
    put.new.s crc.result c.if-sheet-lt-HEADER_SIZE.false crc.ensures
    (put.ensures ∙ ap (λ (v : ℕ). splice c.args.sheet.now 14 (low_two v)) c.from.ensures) c.jamturret_check-2.ensures
