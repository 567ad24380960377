-- The parts of a step, as rules has them and as the code makes them: an initiating step's end, a waiting half's end, a release.
--   initiated-..    by whether the operation has a waiting half
--   ended-..        by whether it is only a waiting half
--   release-..      by the state of the message; what a release leaves alone
-- Assumes nothing.
use Rattle.std.specs.Prelude.{◌≡◌, refl, Bool, true, false, cond, List, ℕ, ◌<◌, eqb, length, get_or, set}
use Rattle.std.proofs.Common.{sym, ◌∙◌, ap, subst, arith, get_or-set_same, get_or-set_other, eq-eqb, ne_eqb}
use Rattle.std.proofs.Math.Decide.{ℕ_discrete, dec_lt}
use Rattle.std.proofs.Math.Seq.{set_out}
use Rattle.rules.specs.Sheet.{Sheet, op, rank_of, only_half, no_half}
use Rattle.rules.specs.Job.{Job, Entry, Place, Store, job, first_place, account, entry_at, place_at, with_entries, with_places}
use Rattle.rules.specs.Step.{store_of, charge_of, released, release, with_place, with_row, one_finished, now_waiting, initiated, half_row, ended}
use Rattle.state.specs.declared.Queue.{Queue}
use Rattle.state.specs.declared.Queue.TheVariants.{Messages, Receives}
use Rattle.state.specs.Queues.{list_of}
use Rattle.laws.specs.Stores.{finished_stays}
use Rattle.state.specs.Changes.{CanFinish, released_in}
use Rattle.telling.specs.Telling.{Looks}

-- AFTER AN INITIATING STEP
pub initiated_finished : (s : Sheet) (r i : ℕ) (x : Job) → no_half (op s i) ≡ true → with_place r (one_finished (place_at x r)) x ≡ initiated s r i x
unfolding initiated
initiated_finished s r i x e = rw e

pub initiated_waiting : (s : Sheet) (r i : ℕ) (x : Job) → no_half (op s i) ≡ false → with_place r (now_waiting (place_at x r)) x ≡ initiated s r i x
unfolding initiated
initiated_waiting s r i x e = rw e

-- what an operation that ends a waiting half is given
pub record Ends (r i : ℕ) (s : Sheet) (x : Job) : Type 0 where
  pub looks : Looks i s x
  pub can_finish : CanFinish r s x

-- AFTER A WAITING HALF
pub ended_only : (s : Sheet) (r i : ℕ) (x : Job) → only_half (op s i) ≡ true →
    with_place r (one_finished (place_at (with_row i (half_row s x i) x) r)) (with_row i (half_row s x i) x) ≡ ended s r i x
unfolding ended with_entries job place_at
ended_only s r i x e = rw e

pub ended_other : (s : Sheet) (r i : ℕ) (x : Job) → only_half (op s i) ≡ false → with_place r (one_finished (place_at x r)) x ≡ ended s r i x
unfolding ended
ended_other s r i x e = rw e

pub row_can_finish : (s : Sheet) (r i : ℕ) (e : Entry) (x : Job) → CanFinish r s x → CanFinish r s (with_row i e x)
unfolding with_entries job place_at
row_can_finish s r i e x h =
    record {
      there = h.there;
      room = h.room;
    }

-- A RELEASE
pub release_charged : (s : Sheet) (m rank n : ℕ) (w : Store) (x : Job) → (entry_at x m).state ≡ 2 → rank ≡ rank_of s m →
    w ≡ store_of (op s m) → n ≡ charge_of w (op s m) → with_place rank (released_in w n (place_at x rank)) x ≡ release s m x
unfolding release
release_charged s m rank n w x e er ew en = let t = eq-eqb (entry_at x m).state 2 e in rw t (cc)

pub release_none : (s : Sheet) (m : ℕ) (x : Job) → ((entry_at x m).state ≡ 2 → ⊥) → x ≡ release s m x
unfolding release
release_none s m x e = let t = ne_eqb (entry_at x m).state 2 e in rw t

-- a place with as many operations finished, put for another, changes no count of them
pub place_put_finished : (x : Job) (k r : ℕ) (q : Place) → q.finished ≡ (place_at x k).finished → (place_at (with_place k q x) r).finished ≡ (place_at x r).finished
unfolding place_at with_place with_places job
place_put_finished x k r q e = go (ℕ_discrete r k) (dec_lt k (length x.places))
  where
    go : Dec (r ≡ k) → Dec (k < length x.places) → (get_or (set x.places k q) r first_place).finished ≡ (get_or x.places r first_place).finished
    go (no d) l = ap (λ (p : Place). p.finished) (get_or-set_other x.places k r q first_place d)
    go (yes d) (yes l) =
        subst (λ (n : ℕ). (get_or (set x.places k q) n first_place).finished ≡ (get_or x.places n first_place).finished) (sym d)
        (ap (λ (p : Place). p.finished) (get_or-set_same x.places k q first_place l) ∙ e)
    go (yes d) (no l) = ap (λ (ps : List Place). (get_or ps r first_place).finished) (set_out x.places k q (omega arith))

-- the place of a message's board once its charge is gone
abbrev freed : Sheet → (m : ℕ) → Job → Place
freed s m x = released_in (store_of (op s m)) (charge_of (store_of (op s m)) (op s m)) (place_at x (rank_of s m))

pub released_finished : (s : Sheet) (m : ℕ) (x : Job) (r : ℕ) → (place_at (release s m x) r).finished ≡ (place_at x r).finished
unfolding release
released_finished s m x r = go (eqb (entry_at x m).state 2)
  where
    go : (b : Bool) → (place_at (cond b (with_place (rank_of s m) (freed s m x) x) x) r).finished ≡ (place_at x r).finished
    go false = refl
    go true =
        let w = store_of (op s m) in
        let p = place_at x (rank_of s m) in
        place_put_finished x (rank_of s m) r (freed s m x) (finished_stays w (released (charge_of w (op s m)) (account w p)) p)

-- a place that is put, and a release, leave the waiting lists
pub place_put_list : (list : Queue) (x : Job) (r : ℕ) (q : Place) → list_of list (with_place r q x) ≡ list_of list x
unfolding list_of with_place with_places job
place_put_list Messages x r q = refl
place_put_list Receives x r q = refl

pub released_list : (list : Queue) (s : Sheet) (m : ℕ) (x : Job) → list_of list (release s m x) ≡ list_of list x
unfolding release
released_list list s m x = go (eqb (entry_at x m).state 2)
  where
    go : (b : Bool) → list_of list (cond b (with_place (rank_of s m) (freed s m x) x) x) ≡ list_of list x
    go true = place_put_list list x (rank_of s m) (freed s m x)
    go false = refl
