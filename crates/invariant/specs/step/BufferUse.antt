-- The places of a job after a charge, a release, or neither, and then the step of a board. A charge and a release change bytes
-- in use of one store and nothing else; the peak is the most of them.
--   Use                     how bytes in use change; use_kept, use_charged, use_released
--   matched_is              a match, field by field
--   Used                    a list of places in which only bytes in use changed; used_kept, used_charged, used_uncharged,
--                           used_released
--   stepped_moved           and then a board steps
--   set_enters              and an operation enters unmatched, with its row
-- Assumes nothing.
use Rattle.std.specs.Prelude.{◌≡◌, refl, ◌⊎◌, ◌≢◌, Bool, true, false, ◌&&◌, List, length, get_or, set}
use Rattle.std.proofs.Common.{sym, subst, ◌∙◌, inl, inr, arith, get_or-set_same, get_or-set_other, eqb-true}
use Rattle.std.proofs.Math.Path.{ap}
use Rattle.std.proofs.Math.Bool.{cond}
use Prim.Native.Nat.{ℕ, suc, ◌+◌, ◌-◌, ◌≤◌, ◌<◌, max}
use Rattle.std.proofs.Math.Dec.{eqb}
use Rattle.std.proofs.Math.ListN.{length-set}
use Rattle.rules.specs.Limits.{absent}
use Rattle.rules.specs.Sheet.{Sheet, Op, op, rank_of, is_standard}
use Rattle.rules.specs.Job.{Job, Entry, Figures, Place, Store, in_attached, in_room, job, entry, bare_entry, figures, first_place, account, with_account}
use Rattle.rules.specs.Job.{in_use_at, peak_at, entry_at, place_at, with_entries, with_places, with_messages, with_receives, with_memory}
use Rattle.rules.specs.Step.{one_finished, now_waiting, is_cut, without, delivered, store_of, kept_in, charge_of, charged, released, with_place, release}
use Rattle.rules.specs.Step.{matched_rows, matched}
use Rattle.laws.specs.Tests.{true_not_false, not_so}
use Rattle.laws.specs.Stores.{same_store, own_figures, other_figures, finished_stays, waiting_stays}
use Rattle.invariant.specs.sheet.Kinds.{standard_not_buffered}
use Rattle.invariant.specs.Invariant.{state_at}
use Rattle.invariant.specs.matching.RowChanges.{Enters}
use Rattle.invariant.specs.step.Places.{Moved, after, getD_update, moved_in_use}

abbrev pub Use : (x y : Job) → (change : Store → ℕ → ℕ → ℕ) → Type 0
Use x y f = (w : Store) (q : ℕ) → in_use_at w y q ≡ f w q (in_use_at w x q)

-- in use of a store at board q, after the step: as before; more by a send of board r, where it is kept there; less by a message
-- that was kept there and was matched
abbrev pub use_kept : Store → (q n : ℕ) → ℕ
use_kept w q n = n

unfoldable pub use_charged : Sheet → (r i : ℕ) → (kept : Bool) → Store → (q n : ℕ) → ℕ
use_charged s r i k w q n = cond (eqb q r && (kept_in w (op s i) && k)) (n + charge_of w (op s i)) n

unfoldable pub use_released : Sheet → Job → (m : ℕ) → Store → (q n : ℕ) → ℕ
use_released s x m w q n =
    cond (eqb q (rank_of s m) && (kept_in w (op s m) && eqb (state_at x m) 2)) (n - charge_of w (op s m)) n

-- CLOSED FORMS
-- a place in which the account of a store changed
abbrev changed : (Figures → Figures) → Store → Place → Place
changed f v p = with_account v (f (account v p)) p

-- the places after a message's charge is released
unfoldable pub released_places : Sheet → Job → (m : ℕ) → List Place
released_places s x m =
    let v = store_of (op s m) in
    cond (eqb (state_at x m) 2)
    (set x.places (rank_of s m) (changed (released (charge_of v (op s m))) v (place_at x (rank_of s m)))) x.places

release_is : (s : Sheet) (m : ℕ) (x : Job) → release s m x ≡ with_places (released_places s x m) x
unfolding release released_places with_place with_places job
release_is s m x = go (eqb (entry_at x m).state 2)
  where
    v : Store
    v = store_of (op s m)

    up : List Place
    up = set x.places (rank_of s m) (changed (released (charge_of v (op s m))) v (place_at x (rank_of s m)))

    go : (b : Bool) → cond b (with_places up x) x ≡ with_places (cond b up x.places) x
    go true = refl
    go false = refl

pub matched_is : (s : Sheet) (m r : ℕ) (x : Job) →
    matched s m r x ≡
    job (set (set x.entries m (entry 3 0 r absent absent 0)) r
    (entry 3 (cond (is_cut s m r) 1 0) m (rank_of s m) (op s m).tag (op s m).long))
    (released_places s x m) (without m x.messages) (without r x.receives) (delivered s m r x.memory) x.stop x.steps
unfolding matched matched_rows with_memory with_receives with_messages with_entries with_places job
matched_is s m r x =
    ap
    (λ (z : Job).
    with_memory (delivered s m r x.memory)
    (with_receives (without r x.receives)
    (with_messages (without m x.messages) (matched_rows s m r z))))
    (release_is s m x)

-- STORES: an operation is kept in one at the most, and a change of a store's account leaves the other's as it was
pub record Other (v w : Store) : Type 0 where
  pub same : (f : Figures → Figures) (p : Place) → account w (changed f v p) ≡ account w p
  pub not_kept : (o : Op) → kept_in v o ≡ true → kept_in w o ≡ false

pub this_or_other : (v w : Store) → (w ≡ v) ⊎ Other v w
unfolding kept_in same_store
this_or_other in_attached in_attached = inl refl
this_or_other in_room in_room = inl refl
this_or_other in_attached in_room =
    inr
    (record {
      same = λ f p. other_figures in_room in_attached (f (account in_attached p)) p refl;
      not_kept = λ o e. not_so (is_standard o) (λ h. true_not_false e (standard_not_buffered o h));
    })
this_or_other in_room in_attached =
    inr
    (record {
      same = λ f p. other_figures in_attached in_room (f (account in_room p)) p refl;
      not_kept = standard_not_buffered;
    })

-- PLACES
abbrev pub place_in : List Place → (q : ℕ) → Place
place_in ps q = get_or ps q first_place

-- a list of places in which only bytes in use changed, and the peak with them
pub record Used (x : Job) (ps : List Place) (change : Store → ℕ → ℕ → ℕ) : Type 0 where
  pub long : length ps ≡ length x.places
  pub finished : (q : ℕ) → (place_in ps q).finished ≡ (place_at x q).finished
  pub waiting : (q : ℕ) → (place_in ps q).waiting ≡ (place_at x q).waiting
  pub in_use : (w : Store) (q : ℕ) → (account w (place_in ps q)).in_use ≡ change w q (in_use_at w x q)
  pub peak : (w : Store) (q : ℕ) → (account w (place_in ps q)).peak ≡ max (peak_at w x q) (account w (place_in ps q)).in_use

-- a change of an account's figures to which the peak keeps up, and what it does to bytes in use
record Recharges (f : Figures → Figures) (n : ℕ → ℕ) : Type 0 where
  in_use : (a : Figures) → (f a).in_use ≡ n a.in_use
  peak : (a : Figures) → a.in_use ≤ a.peak → (f a).peak ≡ max a.peak (f a).in_use

release_recharges : (n : ℕ) → Recharges (released n) (λ k. k - n)
unfolding released figures
release_recharges n =
    record {
      in_use = λ a. refl;
      peak = λ a l. omega arith;
    }

charge_recharges : (n : ℕ) → Recharges (charged n) (λ k. k + n)
unfolding charged figures
charge_recharges n =
    record {
      in_use = λ a. refl;
      peak = λ a l. refl;
    }

module _ (s : Sheet) (x : Job) (small : (w : Store) (q : ℕ) → in_use_at w x q ≤ peak_at w x q) where
  pub used_kept : Used x x.places use_kept
  unfolding place_at
  used_kept =
      record {
        long = refl;
        finished = λ q. refl;
        waiting = λ q. refl;
        in_use = λ w q. refl;
        peak = λ w q. omega (arith, small w q);
      }

  and_none : (a b : Bool) → (a && (b && false)) ≡ false
  and_none true true = refl
  and_none true false = refl
  and_none false b = refl

  -- where no change is made, whatever it would be
  used_none : (c : Store → ℕ → Bool) (n : Store → ℕ → ℕ) → ((w : Store) (q : ℕ) → c w q ≡ false) →
      Used x x.places (λ w q k. cond (c w q) (n w k) k)
  used_none c n none_here =
      record {
        long = refl;
        finished = used_kept.finished;
        waiting = used_kept.waiting;
        in_use =
            λ w q. used_kept.in_use w q
            ∙ ap (λ (b : Bool). cond b (n w (in_use_at w x q)) (in_use_at w x q)) (sym (none_here w q));
        peak = used_kept.peak;
      }

  -- the account of store v of board r changed by f, for operation i, which is kept there
  used_changed : (r i : ℕ) (v : Store) (f : Figures → Figures) (n : Store → ℕ → ℕ) → r < length x.places →
      kept_in v (op s i) ≡ true → Recharges f (n v) →
      Used x (set x.places r (changed f v (place_at x r)))
      (λ w q k. cond (eqb q r && (kept_in w (op s i) && true)) (n w k) k)
  unfolding place_at
  used_changed r i v f n l kept re =
      record {
        long = length-set x.places r (changed f v (place_at x r));
        finished = λ q. ap (λ (p : Place). p.finished) (at q) ∙ finished (eqb q r) q;
        waiting = λ q. ap (λ (p : Place). p.waiting) (at q) ∙ waiting (eqb q r) q;
        in_use = λ w q. ap (λ (p : Place). (account w p).in_use) (at q) ∙ uses (eqb q r) w q (this_or_other v w);
        peak =
            λ w q. ap (λ (p : Place). (account w p).peak) (at q) ∙ peaks (eqb q r) w q (this_or_other v w)
            ∙ ap (λ (p : Place). max (peak_at w x q) (account w p).in_use) (sym (at q));
      }
    where
      now : (b : Bool) → ℕ → Place
      now b q = cond b (changed f v (place_at x q)) (place_at x q)

      at : (q : ℕ) → place_in (set x.places r (changed f v (place_at x r))) q ≡ now (eqb q r) q
      at q = getD_update x.places r q (changed f v) first_place l

      finished : (b : Bool) (q : ℕ) → (now b q).finished ≡ (place_at x q).finished
      finished true q = finished_stays v (f (account v (place_at x q))) (place_at x q)
      finished false q = refl

      waiting : (b : Bool) (q : ℕ) → (now b q).waiting ≡ (place_at x q).waiting
      waiting true q = waiting_stays v (f (account v (place_at x q))) (place_at x q)
      waiting false q = refl

      uses : (b : Bool) (w : Store) (q : ℕ) → (w ≡ v) ⊎ Other v w →
          (account w (now b q)).in_use ≡ cond (b && (kept_in w (op s i) && true)) (n w (in_use_at w x q)) (in_use_at w x q)
      uses true w q (inl e) =
          subst
          (λ (u : Store).
          (account u (changed f v (place_at x q))).in_use ≡ cond (kept_in u (op s i) && true) (n u (in_use_at u x q)) (in_use_at u x q))
          (sym e)
          (ap (λ (a : Figures). a.in_use) (own_figures v (f (account v (place_at x q))) (place_at x q)) ∙ re.in_use (account v (place_at x q))
          ∙ ap (λ (b : Bool). cond (b && true) (n v (in_use_at v x q)) (in_use_at v x q)) (sym kept))
      uses true w q (inr o) =
          ap (λ (a : Figures). a.in_use) (o.same f (place_at x q))
          ∙ ap (λ (b : Bool). cond (b && true) (n w (in_use_at w x q)) (in_use_at w x q)) (sym (o.not_kept (op s i) kept))
      uses false w q c = refl

      peaks : (b : Bool) (w : Store) (q : ℕ) → (w ≡ v) ⊎ Other v w →
          (account w (now b q)).peak ≡ max (peak_at w x q) (account w (now b q)).in_use
      peaks true w q (inl e) =
          subst
          (λ (u : Store).
          (account u (changed f v (place_at x q))).peak ≡ max (peak_at u x q) (account u (changed f v (place_at x q))).in_use)
          (sym e)
          (let same = own_figures v (f (account v (place_at x q))) (place_at x q) in
          ap (λ (a : Figures). a.peak) same ∙ re.peak (account v (place_at x q)) (small v q)
          ∙ ap (λ (a : Figures). max (peak_at v x q) a.in_use) (sym same))
      peaks true w q (inr o) =
          omega
          (arith, small w q, ap (λ (a : Figures). a.peak) (o.same f (place_at x q)), ap (λ (a : Figures). a.in_use) (o.same f (place_at x q)))
      peaks false w q c = omega (arith, small w q)

  pub used_released : (m : ℕ) → rank_of s m < length x.places → (state_at x m ≡ 2 → kept_in (store_of (op s m)) (op s m) ≡ true) →
      Used x (released_places s x m) (use_released s x m)
  unfolding released_places use_released
  used_released m l kept = go (eqb (state_at x m) 2) (λ b. kept (eqb-true (state_at x m) 2 b))
    where
      v : Store
      v = store_of (op s m)

      go : (b : Bool) → (b ≡ true → kept_in v (op s m) ≡ true) →
          Used x
          (cond b (set x.places (rank_of s m) (changed (released (charge_of v (op s m))) v (place_at x (rank_of s m)))) x.places)
          (λ w q n. cond (eqb q (rank_of s m) && (kept_in w (op s m) && b)) (n - charge_of w (op s m)) n)
      go true k =
          used_changed (rank_of s m) m v (released (charge_of v (op s m))) (λ w n. n - charge_of w (op s m)) l (k refl)
          (release_recharges (charge_of v (op s m)))
      go false k =
          used_none (λ w q. eqb q (rank_of s m) && (kept_in w (op s m) && false)) (λ w n. n - charge_of w (op s m))
          (λ w q. and_none (eqb q (rank_of s m)) (kept_in w (op s m)))

  pub used_charged : (r i : ℕ) (v : Store) → r < length x.places → kept_in v (op s i) ≡ true →
      Used x (set x.places r (changed (charged (charge_of v (op s i))) v (place_at x r))) (use_charged s r i true)
  unfolding use_charged
  used_charged r i v l kept =
      used_changed r i v (charged (charge_of v (op s i))) (λ w n. n + charge_of w (op s i)) l kept
      (charge_recharges (charge_of v (op s i)))

  pub used_uncharged : (r i : ℕ) → Used x x.places (use_charged s r i false)
  unfolding use_charged
  used_uncharged r i =
      used_none (λ w q. eqb q r && (kept_in w (op s i) && false)) (λ w n. n + charge_of w (op s i))
      (λ w q. and_none (eqb q r) (kept_in w (op s i)))

-- a place list in which then the board that steps moves on
abbrev pub stepped_places : List Place → (r : ℕ) → (last : Bool) → List Place
stepped_places ps r last = set ps r (cond last (one_finished (place_in ps r)) (now_waiting (place_in ps r)))

pub stepped_moved : {x : Job} {ps : List Place} {change : Store → ℕ → ℕ → ℕ} (y : Job) → Used x ps change → (r : ℕ) (last : Bool) →
    r < length x.places →
    y.places ≡ stepped_places ps r last → length y.entries ≡ length x.entries → y.stop ≡ x.stop →
    y.steps ≡ suc x.steps →
    Moved x y r last × Use x y change
unfolding place_at after
stepped_moved {x} {ps} {change} y U r last l are long stop steps = (M, λ w q. moved_in_use M w q ∙ U.in_use w q)
  where
    f : Place → Place
    f = λ p. cond last (one_finished p) (now_waiting p)

    M : Moved x y r last
    M =
        record {
          used = λ q. place_in ps q;
          place_is =
              λ q. ap (λ (p : List Place). place_in p q) are
              ∙ getD_update ps r q f first_place (omega (arith, U.long));
          used_finished = U.finished;
          used_waiting = U.waiting;
          used_peak = U.peak;
          places_long = ap (λ (p : List Place). length p) are ∙ length-set ps r (f (place_in ps r)) ∙ U.long;
          entries_long = long;
          stop_same = stop;
          steps_more = steps;
        }

-- ROWS
pub set_enters : (x y : Job) (i v : ℕ) (new : Entry) → new.state ≡ v → state_at x i ≡ 0 → i < length x.entries → 1 ≤ v → v ≢ 3 →
    y.entries ≡ set x.entries i new → Enters x y i v × (entry_at y i ≡ new)
unfolding entry_at
set_enters x y i v new state fresh l some_v no_match are = (
  record {
    fresh = fresh;
    state = ap (λ (e : Entry). e.state) row ∙ state;
    other =
        λ j d. ap (λ (e : List Entry). get_or e j (bare_entry 0)) are
        ∙ get_or-set_other x.entries i j new (bare_entry 0) d;
    some_state = some_v;
    no_match = no_match;
  },
  row,
)
  where
    row : get_or y.entries i (bare_entry 0) ≡ new
    row = ap (λ (e : List Entry). get_or e i (bare_entry 0)) are ∙ get_or-set_same x.entries i new (bare_entry 0) l
