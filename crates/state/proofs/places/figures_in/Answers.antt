-- `state::places::figures_in` meets its contract: the two numbers that stand where the store's figures do. Assumes nothing.
use Rattle.std.proofs.Common.{ap, sym, ℕ, ◌+◌, ◌∙◌, ◌≡◌}
use Rattle.rules.specs.Job.{figures}
use Rattle.account.specs.Stores.{stands_for}
use Rattle.state.specs.Layout.{seat_at}
use Rattle.state.specs.Decoded.{figures_in}
use Rattle.state.specs.Places.{figures_are}
use Rattle.state.proofs.places.figures_in.Goals as goal

pub returns : goal.returns
unfolding figures
returns c =
    let a = c.args in
    let b = a.c.now in
    let used = c.two_at-in_use.ensures in
    let most = c.two_at-peak.ensures in
    let at = c.figures_at in
    let both : figures c.two_at-in_use.result c.two_at-peak.result ≡ figures_in b (seat_at a.r + at.result) = cc (used.is, most.is) in
    record {
      is =
          both
          ∙ (ap (λ (k : ℕ). figures_in b (seat_at a.r + k)) at.ensures.0 ∙ sym (figures_are (stands_for a.w) b (seat_at a.r)));
      fits = record { in_use_fits = used.small; peak_fits = most.small };
    }
