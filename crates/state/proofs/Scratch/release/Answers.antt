-- `Scratch::release` meets its contract: the place with the account that a release leaves. Assumes nothing.
use Rattle.std.proofs.Common.{ap, ◌∙◌}
use Rattle.rules.specs.Job.{Place}
use Rattle.rules.specs.Step.{splice}
use Rattle.account.specs.declared.Account.{Account}
use Rattle.account.specs.Accounts.{given_back}
use Rattle.account.specs.Stores.{stands_for}
use Rattle.state.specs.Layout.{seat_at}
use Rattle.state.specs.Decoded.{place_of, place_row}
use Rattle.state.specs.Changes.{released_in}
use Rattle.state.proofs.ChangesHold.{place_change}
use Rattle.state.specs.Charged.{released_as, released_fits}
use Rattle.state.proofs.Scratch.release.Goals as goal

pub returns : goal.returns
returns c =
    λ t s x d l.
    let a = c.args in
    let old = c.place_of-q in
    let f = c.figures in
    let left = c.release in
    let back = left.ensures ∙ ap (λ (b : Account). given_back b a.n) c.account-account.ensures in
    let w = stands_for a.w in
    let put = c.put_account in
    place_change s a.self.now t x d (released_in w a.n) a.r old.result put.new.self l old.ensures
    (released_fits w a.n (place_of old.result) old.ensures.fits)
    (put.ensures
    ∙ ap (λ (p : Place). splice a.self.now (seat_at a.r) (place_row p))
    (released_as w a.size a.n old.result f.result f.ensures left.new.self back))
