-- Places of boards: a place that was put is read back and is the only one that changed; the figures of a store by where they
-- stand. Assumes nothing.
use Rattle.std.specs.Prelude.{◌≡◌, refl, Bool, true, false, cond, List, [], ◌∷◌, ℕ, ◌+◌, ◌<◌, ◌≤◌, eqb, length, get_or, set}
use Rattle.std.proofs.Common.{sym, ◌∙◌, ap, arith}
use Rattle.rules.specs.Limits.{most_boards, scratch_size}
use Rattle.rules.specs.Sheet.{two}
use Rattle.rules.specs.Job.{Figures, Place, Store, in_attached, in_room, figures, place, first_place, account, with_account}
use Rattle.rules.specs.Step.{splice}
use Rattle.rules.specs.Report.{low_two}
use Rattle.laws.specs.Splice.{Same, splice_within, splice_apart}
use Rattle.laws.specs.ReportRows.{two_bytes}
use Rattle.words.specs.Two.{two_same, two_within}
use Rattle.words.specs.Tab.{tab_same, tab_set, tab_at}
use Rattle.state.specs.Layout.{seat_size, seat_at, places_at}
use Rattle.state.specs.Decoded.{figures_in, place_in, places_in, place_row, figures_at, FitsFigures, FitsPlace}

pub seat_length : (q : Place) → length (place_row q) ≡ seat_size
unfolding place_row low_two
seat_length q = refl

-- the figures of a store stand at their own place; a place with other figures of a store fits its bytes
pub figures_are : (w : Store) (c : List ℕ) (at : ℕ) → account w (place_in c at) ≡ figures_in c (at + figures_at w)
unfolding account figures_at
figures_are in_attached c at = refl
figures_are in_room c at = refl

pub fits_account : (w : Store) (p : Place) → FitsPlace p → FitsFigures (account w p)
unfolding account
fits_account in_attached p f = f.attached_fits
fits_account in_room p f = f.room_fits

pub fits_with : (w : Store) (a : Figures) (p : Place) → FitsFigures a → FitsPlace p → FitsPlace (with_account w a p)
unfolding with_account place
fits_with in_attached a p g f = record { finished_fits = f.finished_fits; attached_fits = g; room_fits = f.room_fits }
fits_with in_room a p g f = record { finished_fits = f.finished_fits; attached_fits = f.attached_fits; room_fits = g }

-- lists with the same bytes in a place decode to the same place
figures_same : (c d : List ℕ) (at : ℕ) → Same at (at + 4) c d → figures_in c at ≡ figures_in d at
figures_same c d at e =
    let i = two_same c d at (λ j l u. e j (omega arith) (omega arith)) in
    let p = two_same c d (at + 2) (λ j l u. e j (omega arith) (omega arith)) in
    cc

pub seat_same : (c d : List ℕ) (at : ℕ) → Same at (at + seat_size) c d → place_in c at ≡ place_in d at
seat_same c d at e =
    let f = two_same c d at (λ j l u. e j (omega arith) (omega arith)) in
    let a = figures_same c d (at + 2) (λ j l u. e j (omega arith) (omega arith)) in
    let w = e (at + 6) (omega arith) (omega arith) in
    let b = figures_same c d (at + 8) (λ j l u. e j (omega arith) (omega arith)) in
    cc

pub places_same : (c d : List ℕ) (p : ℕ) → Same places_at (seat_at p) c d → places_in c p ≡ places_in d p
unfolding places_in
places_same c d p e = tab_same (λ r. place_in c (seat_at r)) (λ r. place_in d (seat_at r)) 0 p (λ k l u. seat_same c d (seat_at k) (λ j a b. e j (omega arith) (omega arith)))

-- the waiting byte says whether
waiting_back : (b : Bool) → eqb (cond b 1 0) 1 ≡ b
waiting_back true = refl
waiting_back false = refl

-- and is the low byte of its number
pub waiting_bytes : (b : Bool) → low_two (cond b 1 0) ≡ cond b 1 0 ∷ 0 ∷ []
unfolding low_two
waiting_bytes true = refl
waiting_bytes false = refl

-- figures and a place that were put are read back
figures_put : (c : List ℕ) (at : ℕ) (vs : List ℕ) (k : ℕ) (a : Figures) → at + length vs ≤ length c → k + 4 ≤ length vs →
    two vs k ≡ a.in_use → two vs (k + 2) ≡ a.peak → figures_in (splice c at vs) (at + k) ≡ a
unfolding figures
figures_put c at vs k a h l e f =
    let z : (at + k) + 2 ≡ at + (k + 2) = omega arith in
    let i : two (splice c at vs) (at + k) ≡ a.in_use = two_within c at vs h k (omega arith) ∙ e in
    let p : two (splice c at vs) ((at + k) + 2) ≡ a.peak =
    ap (λ (j : ℕ). two (splice c at vs) j) z ∙ (two_within c at vs h (k + 2) (omega arith) ∙ f) in
    let whole : figures_in (splice c at vs) (at + k) ≡ figures a.in_use a.peak = cc in
    whole

pub seat_put : (c : List ℕ) (at : ℕ) (q : Place) → FitsPlace q → at + seat_size ≤ length c → place_in (splice c at (place_row q)) at ≡ q
unfolding place_row low_two two place
seat_put c at q f h =
    let z : at + 0 ≡ at = omega arith in
    let a : two (splice c at (place_row q)) at ≡ q.finished =
    ap (λ (k : ℕ). two (splice c at (place_row q)) k) (sym z) ∙ (two_within c at (place_row q) h 0 (omega arith) ∙ two_bytes q.finished f.finished_fits) in
    let i : figures_in (splice c at (place_row q)) (at + 2) ≡ q.attached =
    figures_put c at (place_row q) 2 q.attached h (omega arith) (two_bytes q.attached.in_use f.attached_fits.in_use_fits)
    (two_bytes q.attached.peak f.attached_fits.peak_fits) in
    let w : eqb (get_or (splice c at (place_row q)) (at + 6) 0) 1 ≡ q.waiting =
    ap (λ (k : ℕ). eqb k 1) (splice_within c at (place_row q) h 6 (omega arith)) ∙ waiting_back q.waiting in
    let j : figures_in (splice c at (place_row q)) (at + 8) ≡ q.room =
    figures_put c at (place_row q) 8 q.room h (omega arith) (two_bytes q.room.in_use f.room_fits.in_use_fits)
    (two_bytes q.room.peak f.room_fits.peak_fits) in
    let whole : place_in (splice c at (place_row q)) at ≡ place q.finished q.waiting q.attached q.room = cc in
    whole

-- the place of board r put: entry r of the table set
pub places_put : (c : List ℕ) (r p : ℕ) (q : Place) → FitsPlace q → r < p → p ≤ most_boards → scratch_size ≤ length c → places_in (splice c (seat_at r) (place_row q)) p ≡ set (places_in c p) r q
unfolding places_in
places_put c r p q f l m h =
    let long = seat_length q in
    tab_set (λ k. place_in (splice c (seat_at r) (place_row q)) (seat_at k)) (λ k. place_in c (seat_at k)) p r q l
    (seat_put c (seat_at r) q f (omega arith))
    (λ j u d. seat_same (splice c (seat_at r) (place_row q)) c (seat_at j) (splice_apart c (seat_at r) (place_row q) (omega arith) (seat_at j) (seat_at j + seat_size) (omega arith)))

pub places_at_rank : (c : List ℕ) (p r : ℕ) → r < p → get_or (places_in c p) r first_place ≡ place_in c (seat_at r)
unfolding places_in
places_at_rank c p r l = tab_at (λ k. place_in c (seat_at k)) p r first_place l
