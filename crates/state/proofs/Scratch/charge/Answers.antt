-- `Scratch::charge` meets its contract: where the account has room, the place with the account that a charge leaves. Assumes nothing.
use Rattle.std.proofs.Common.{ap, refl, sym, ◌∙◌}
use Rattle.rules.specs.Job.{Place, figures}
use Rattle.rules.specs.Step.{splice}
use Rattle.laws.specs.Tests.{true_not_false}
use Rattle.account.specs.declared.Account.{Account}
use Rattle.account.specs.Stores.{stands_for}
use Rattle.account.specs.Accounts.{account, has_room, room_is, taken}
use Rattle.state.specs.Layout.{seat_at}
use Rattle.state.specs.Decoded.{place_row}
use Rattle.state.specs.Changes.{charged_in}
use Rattle.state.proofs.ChangesHold.{place_change, room_asked}
use Rattle.state.specs.Charged.{charged_as, charged_fits}
use Rattle.state.proofs.Scratch.charge.Goals as goal

pub returns-then-not-charge : goal.returns-then-not-charge
returns-then-not-charge c =
    let a = c.args in
    let old = c.place_of-q in
    let f = c.figures-figures in
    let lent = c.account-account in
    let full =
    sym (c.charge.ensures.1 ∙ ap (λ (b : Account). has_room b a.n) lent.ensures ∙ room_is _ _ _ _)
    ∙ c.if-not-charge.true in
    record {
      says =
          λ s t x d l.
          sym full
          ∙ room_asked s a.self.now t x d (stands_for a.w) a.r a.size a.n old.result f.result l old.ensures f.ensures;
      taken = λ e. absurd (true_not_false e refl);
      refused = λ e. refl;
    }

pub returns : goal.returns
unfolding figures
returns c =
    let a = c.args in
    let old = c.place_of-q in
    let f = c.figures-figures in
    let lent = c.account-account in
    let said = c.charge in
    let w = stands_for a.w in
    let put = c.put_account in
    let fits = sym (said.ensures.1 ∙ ap (λ (b : Account). has_room b a.n) lent.ensures ∙ room_is _ _ _ _) ∙ c.if-not-charge.false in
    let left = said.ensures.0 ∙ ap (λ (b : Account). taken b a.n) lent.ensures in
    record {
      says =
          λ s t x d l.
          sym fits ∙ room_asked s a.self.now t x d w a.r a.size a.n old.result f.result l old.ensures f.ensures;
      taken =
          λ e t s x d l.
          place_change s a.self.now t x d (charged_in w a.n) a.r old.result put.new.self l old.ensures
          (charged_fits w a.size a.n old.result f.result f.ensures old.ensures.fits fits c.requires.1)
          (put.ensures
          ∙ ap (λ (p : Place). splice a.self.now (seat_at a.r) (place_row p))
          (charged_as w a.size a.n old.result f.result f.ensures said.new.self fits left));
      refused = λ e. absurd (true_not_false refl e);
    }
