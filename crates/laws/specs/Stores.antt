-- The two stores of a board (document 02, K6) have accounts of their own: figures put into one store's account are there, and leave the
-- other's, and where the board stands, as they were.
--   same_store                                 one store or two
--   own_figures, other_figures                 the account that was changed, and the other
--   finished_stays, waiting_stays              where the board stands
-- Assumes nothing.
use Rattle.std.specs.Prelude.{◌≡◌, refl, Bool, true, false}
use Rattle.rules.specs.Job.{Figures, Place, Store, in_attached, in_room, place, account, with_account}
use Rattle.laws.specs.Tests.{true_not_false}

unfoldable pub same_store : Store → Store → Bool
same_store in_attached in_attached = true
same_store in_attached in_room = false
same_store in_room in_attached = false
same_store in_room in_room = true

pub own_figures : (w : Store) (a : Figures) (p : Place) → account w (with_account w a p) ≡ a
unfolding account with_account place
own_figures in_attached a p = refl
own_figures in_room a p = refl

pub other_figures : (v w : Store) (a : Figures) (p : Place) → same_store v w ≡ false → account v (with_account w a p) ≡ account v p
unfolding account with_account place same_store
other_figures in_attached in_attached a p e = true_not_false refl e
other_figures in_attached in_room a p e = refl
other_figures in_room in_attached a p e = refl
other_figures in_room in_room a p e = true_not_false refl e

pub finished_stays : (w : Store) (a : Figures) (p : Place) → (with_account w a p).finished ≡ p.finished
unfolding with_account place
finished_stays in_attached a p = refl
finished_stays in_room a p = refl

pub waiting_stays : (w : Store) (a : Figures) (p : Place) → (with_account w a p).waiting ≡ p.waiting
unfolding with_account place
waiting_stays in_attached a p = refl
waiting_stays in_room a p = refl
