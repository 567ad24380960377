-- Accounts of stores (document 01, "How a board steps"; document 02, K6). What a charge and a release leave is what rules' `charged`
-- and `released` leave of a store's figures. Assumes nothing.
use Rattle.std.specs.Prelude.{◌≡◌, Option, None, Some, Bool, true, false, cond, ℕ, ◌+◌, ◌-◌, ◌<◌, ◌≤◌, max, leb}
use Rattle.std.proofs.Math.Path.{refl}
use Rattle.std.proofs.Common.{sym, ap, arith, le-leb, leb-true}
use Rattle.rules.specs.Job.{Figures, figures}
use Rattle.rules.specs.Step.{charged, released}
use Rattle.std.proofs.lemmas.Bool.{lt-leb}
use Rattle.std.proofs.lemmas.Option.{cond_some, none-some}
use Rattle.laws.specs.Tests.{same_test}
use Rattle.account.specs.declared.Account.{Account}

-- an account of plain numbers
abbrev pub account : (size in_use peak : ℕ) → Account
account s u p =
    record {
      size = s;
      in_use = u;
      peak = p;
    }

-- the account with these figures, of a store of the size
unfoldable pub account_of : (size : ℕ) → Figures → Account
account_of s q = account s q.in_use q.peak

-- an account's figures
unfoldable pub figures_of : Account → Figures
figures_of a = figures a.in_use a.peak

-- room for a charge of n bytes; what a charge leaves, where there is room and where there is none; what a release leaves
unfoldable pub has_room : Account → (n : ℕ) → Bool
has_room a n = leb (a.in_use + n) a.size

unfoldable pub taken : Account → (n : ℕ) → Account
taken a n = cond (has_room a n) (account_of a.size (charged n (figures_of a))) a

unfoldable pub given_back : Account → (n : ℕ) → Account
given_back a n = account_of a.size (released n (figures_of a))

-- WHAT A CALLER WITH PLAIN NUMBERS CITES: the figures of an account of size s with u bytes in use and peak p
module _ (s u p n : ℕ) where
  pub room_is : has_room (account s u p) n ≡ leb (u + n) s
  unfolding has_room
  room_is = refl

  pub taken_room : leb (u + n) s ≡ true → taken (account s u p) n ≡ account s (u + n) (max p (u + n))
  unfolding taken has_room account_of figures_of charged figures
  taken_room t = rw t

  pub taken_in_use : leb (u + n) s ≡ true → (taken (account s u p) n).in_use ≡ u + n
  taken_in_use t = ap (λ (a : Account). a.in_use) (taken_room t)

  pub taken_peak : leb (u + n) s ≡ true → (taken (account s u p) n).peak ≡ max p (u + n)
  taken_peak t = ap (λ (a : Account). a.peak) (taken_room t)

  pub taken_full : leb (u + n) s ≡ false → taken (account s u p) n ≡ account s u p
  unfolding taken has_room
  taken_full t = rw t

  pub given_back_in_use : (given_back (account s u p) n).in_use ≡ u - n
  unfolding given_back account_of figures_of released figures
  given_back_in_use = refl

  pub given_back_peak : (given_back (account s u p) n).peak ≡ p
  unfolding given_back account_of figures_of released figures
  given_back_peak = refl

-- figures of rules that are an account's: charged where there is room, and released
module _ (s n : ℕ) (q : Figures) where
  pub charged_is : leb (q.in_use + n) s ≡ true → charged n q ≡ figures_of (taken (account s q.in_use q.peak) n)
  unfolding charged figures_of
  charged_is t = rw (taken_room s q.in_use q.peak n t)

  pub released_is : released n q ≡ figures_of (given_back (account s q.in_use q.peak) n)
  unfolding released given_back account_of figures_of figures
  released_is = refl

-- WHAT A CHARGE ANSWERS: the account with the charge where there is room, else none, and then the account is as `taken` leaves it
unfoldable pub taken_or_none : Account → (n : ℕ) → Option Account
taken_or_none a n = cond (has_room a n) (Some (taken a n)) None

module _ (a : Account) (n : ℕ) where
  pub answered_some : (b : Account) → taken_or_none a n ≡ Some b → (has_room a n ≡ true) × (taken a n ≡ b)
  unfolding taken_or_none
  answered_some b e = cond_some (has_room a n) (taken a n) b e

  pub answered_none : taken_or_none a n ≡ None → (has_room a n ≡ false) × (taken a n ≡ a)
  unfolding taken_or_none has_room
  answered_none e = go (has_room a n) refl e
    where
      go : (b : Bool) → has_room a n ≡ b → cond b (Some (taken a n)) None ≡ None → (has_room a n ≡ false) × (taken a n ≡ a)
      go true t f = absurd (none-some (taken a n) (sym f))
      go false t f = (t, taken_full a.size a.in_use a.peak n t)

-- WHAT THE CODE SHOWS: a test by a difference, the difference that is left, a charge by what the test said
pub room_within : (a : Account) (n : ℕ) → n ≤ a.size → leb a.in_use (a.size - n) ≡ has_room a n
unfolding has_room
room_within a n l =
    same_test (leb a.in_use (a.size - n)) (leb (a.in_use + n) a.size) (λ t. le-leb (a.in_use + n) a.size (omega (arith, leb-true a.in_use (a.size - n) t)))
    (λ t. le-leb a.in_use (a.size - n) (omega (arith, leb-true (a.in_use + n) a.size t)))

pub no_room : (a : Account) (n : ℕ) → a.size < n → false ≡ has_room a n
unfolding has_room
no_room a n l = sym (lt-leb (a.in_use + n) a.size (omega arith))

pub room_fits : (a : Account) (n : ℕ) → has_room a n ≡ true → a.in_use + n ≤ a.size
unfolding has_room
room_fits a n t = leb-true (a.in_use + n) a.size t

pub taken_fits : (a : Account) (n most : ℕ) → has_room a n ≡ true → most ≡ max a.peak (a.in_use + n) → account a.size (a.in_use + n) most ≡ taken a n
unfolding has_room
taken_fits a n most t e = rw e (sym (taken_room a.size a.in_use a.peak n t))

pub taken_not : (a : Account) (n : ℕ) → has_room a n ≡ false → a ≡ taken a n
unfolding has_room
taken_not a n t = sym (taken_full a.size a.in_use a.peak n t)

pub given_back_left : (a : Account) (n left : ℕ) → left ≡ a.in_use - n → account a.size left a.peak ≡ given_back a n
unfolding given_back account_of figures_of released figures
given_back_left a n left e = rw e
