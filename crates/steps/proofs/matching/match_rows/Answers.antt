-- `steps::matching::match_rows` meets its contract: the charge goes, then both rows are put. Assumes nothing.
use Rattle.simulation.specs.Simulates.{held_after, in_turn, simulates_of}
use Rattle.steps.specs.Pairing.{Both}
use Rattle.steps.proofs.matching.match_rows.Goals as goal

pub put_rows-requires : goal.put_rows-requires
put_rows-requires c =
    let a = c.args in
    held_after c.requires (simulates_of {more = Both a.m a.q} (λ x o. o.first) c.release_charge.ensures)
    (λ x o. record { first = o.first; second = o.second })

pub returns : goal.returns
returns c =
    let a = c.args in
    in_turn (simulates_of {more = Both a.m a.q} (λ x o. o.first) c.release_charge.ensures)
    (λ x o. record { first = o.first; second = o.second }) c.put_rows.ensures
