-- `words::fill` meets its contract. Assumes nothing.
use Rattle.std.proofs.Common.{ap, arith, drop, length, replicate, take, ℕ, ◌≡◌, ◌+◌, ◌-◌, ◌∙◌}
use lib.ListN.{length-replicate}
use Rattle.words.specs.Putting.{part_put, part_length, part_named}
use Rattle.words.proofs.fill.Goals as goal

pub returns : goal.returns
returns c =
    let a = c.args in
    let size : length (take ((a.at + a.n) - a.at) (drop a.at a.s.now)) ≡ a.n = ap length (part_named a.s.now a.at a.n) ∙ part_length a.s.now a.at a.n (omega arith) in
    part_put a.s.now a.at a.n c.fill.new.self _ (c.fill.ensures.after (λ y e. e) ∙ ap (λ (m : ℕ). replicate m a.v) size)
    (length-replicate a.n a.v)
