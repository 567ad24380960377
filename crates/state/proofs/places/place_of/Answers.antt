-- `state::places::place_of` meets its contract: what was read makes the place. Assumes nothing.
use Rattle.std.proofs.Common.{ap, eqb, ℕ}
use Rattle.rules.specs.Job.{place, account}
use Rattle.account.specs.Stores.{stands_for}
use Rattle.state.proofs.places.place_of.Goals as goal

pub returns : goal.returns
unfolding place account stands_for
returns c =
    let f = c.two_at-finished in
    let w = ap (λ (k : ℕ). eqb k 1) c.byte_at-waiting.ensures.is in
    let attached = c.figures_in-attached in
    let room = c.figures_in-room in
    record {
      is = cc (f.ensures.is, w, attached.ensures.is, room.ensures.is);
      fits =
          record {
            finished_fits = f.ensures.small;
            attached_fits = attached.ensures.fits;
            room_fits = room.ensures.fits;
          };
    }
