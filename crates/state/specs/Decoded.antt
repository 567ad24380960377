-- What the bytes of scratch decode to: rows, places and waiting lists, each a table over its index. Assumes nothing: these are
-- definitions.
use Rattle.std.specs.Prelude.{◌≡◌, cond, List, ◌∷◌, ◌++◌, ℕ, ◌+◌, ◌<◌, eqb, get_or}
use Rattle.rules.specs.Sheet.{two}
use Rattle.rules.specs.Job.{Entry, Figures, Place, Store, in_attached, in_room, figures, place}
use Rattle.rules.specs.Report.{low_two, entry_in}
use Rattle.words.specs.Tab.{tab}
use Rattle.state.specs.declared.BoardPlace.{BoardPlace}
use Rattle.state.specs.declared.StoreFigures.{StoreFigures}
use Rattle.state.specs.Layout.{row_at, seat_at, word_at}

-- operation rows, in the report's format
unfoldable pub entries_in : List ℕ → (n : ℕ) → List Entry
entries_in c n = tab (λ i. entry_in c (row_at i)) 0 n

-- a board's place: finished, use and peak of the attached buffer, whether it is in a waiting half, use and peak of the room
abbrev pub figures_in : List ℕ → (at : ℕ) → Figures
figures_in c at =
    record {
      in_use = two c at;
      peak = two c (at + 2);
    }

abbrev pub place_in : List ℕ → (at : ℕ) → Place
place_in c at =
    record {
      finished = two c at;
      waiting = eqb (get_or c (at + 6) 0) 1;
      attached = figures_in c (at + 2);
      room = figures_in c (at + 8);
    }

-- where the figures of a store stand in a place
unfoldable pub figures_at : Store → ℕ
figures_at in_attached = 2
figures_at in_room = 8

unfoldable pub places_in : List ℕ → (p : ℕ) → List Place
places_in c p = tab (λ r. place_in c (seat_at r)) 0 p

unfoldable pub place_row : Place → List ℕ
place_row q =
    low_two q.finished
    ++ (low_two q.attached.in_use
    ++ (low_two q.attached.peak ++ (cond q.waiting 1 0 ∷ 0 ∷ (low_two q.room.in_use ++ low_two q.room.peak))))

-- a waiting list of n operations
unfoldable pub words_in : List ℕ → (base n : ℕ) → List ℕ
words_in c base n = tab (λ k. two c (word_at base k)) 0 n

-- values that fit their bytes
pub record FitsFigures (a : Figures) : Type 0 where
  pub in_use_fits : a.in_use < 65536
  pub peak_fits : a.peak < 65536

pub record FitsPlace (q : Place) : Type 0 where
  pub finished_fits : q.finished < 65536
  pub attached_fits : FitsFigures q.attached
  pub room_fits : FitsFigures q.room

-- figures and a place that the code has by value; and such that were read: what they are, and that they fit
abbrev pub figures_of : StoreFigures → Figures
figures_of f = figures f.in_use f.peak

abbrev pub place_of : BoardPlace → Place
place_of q = place q.finished q.waiting (figures_of q.attached) (figures_of q.room)

pub record FiguresRead (value : Figures) (f : StoreFigures) : Type 0 where
  pub is : figures_of f ≡ value
  pub fits : FitsFigures (figures_of f)

pub record PlaceRead (value : Place) (q : BoardPlace) : Type 0 where
  pub is : place_of q ≡ value
  pub fits : FitsPlace (place_of q)
