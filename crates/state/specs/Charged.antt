-- A store charged and released by its account: what `account` makes of the figures that were read is what rules makes of the store,
-- and fits its bytes. Stated over a store, so that the attached buffer and the room are one case. Assumes nothing.
use Rattle.std.specs.Prelude.{◌≡◌, true, ℕ, ◌+◌, ◌<◌, leb}
use Rattle.std.proofs.Common.{sym, ◌∙◌, arith}
use Rattle.std.proofs.Math.Path.{ap}
use borrow.Author.Tests.{leb-true}
use Rattle.rules.specs.Job.{Figures, Place, Store, figures, account, with_account}
use Rattle.rules.specs.Step.{charged, released}
use Rattle.account.specs.declared.Account.{Account}
use Rattle.account.specs.Accounts.{account as account_with, figures_of as account_figures, taken, given_back, charged_is, released_is}
use Rattle.state.specs.declared.BoardPlace.{BoardPlace}
use Rattle.state.specs.declared.StoreFigures.{StoreFigures}
use Rattle.state.specs.Decoded.{figures_of, place_of, FitsPlace}
use Rattle.state.specs.Places.{fits_account, fits_with}
use Rattle.state.specs.Changes.{charged_in, released_in}

module _ (w : Store) (size n : ℕ) (q : BoardPlace) (f : StoreFigures) (read : figures_of f ≡ account w (place_of q)) where
  pub charged_as : (a : Account) → leb (f.in_use + n) size ≡ true → a ≡ taken (account_with size f.in_use f.peak) n
      → with_account w (account_figures a) (place_of q) ≡ charged_in w n (place_of q)
  unfolding figures
  charged_as a room e =
      ap (λ (z : Figures). with_account w z (place_of q))
      (ap account_figures e ∙ (sym (charged_is size n (figures_of f) room) ∙ ap (charged n) read))

  pub charged_fits : FitsPlace (place_of q) → leb (f.in_use + n) size ≡ true → size < 65536 → FitsPlace (charged_in w n (place_of q))
  unfolding charged figures
  charged_fits fits room small =
      let old = account w (place_of q) in
      let figures_fit = fits_account w (place_of q) fits in
      let within = leb-true (f.in_use + n) size room in
      let used = ap (λ (z : Figures). z.in_use) read in
      fits_with w (charged n old) (place_of q)
      (record { in_use_fits = omega (arith, used); peak_fits = omega (arith, used, figures_fit.peak_fits) }) fits

  pub released_as : (a : Account) → a ≡ given_back (account_with size f.in_use f.peak) n
      → with_account w (account_figures a) (place_of q) ≡ released_in w n (place_of q)
  unfolding figures
  released_as a e =
      ap (λ (z : Figures). with_account w z (place_of q))
      (ap account_figures e ∙ (sym (released_is size n (figures_of f)) ∙ ap (released n) read))

pub released_fits : (w : Store) (n : ℕ) (p : Place) → FitsPlace p → FitsPlace (released_in w n p)
unfolding released figures
released_fits w n p f =
    let old = fits_account w p f in
    fits_with w (released n (account w p)) p (record { in_use_fits = omega (arith, old.in_use_fits); peak_fits = old.peak_fits }) f
