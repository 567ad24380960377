-- `steps::initiating::begin` meets its contract: by what the search found, each way is the definition's. Assumes nothing.
use Rattle.std.proofs.Common.{Bool, List, None, Option, Some, ap, arith, false, length, subst, sym, true, ℕ, ◌<◌, ◌∙◌, ◌≡◌}
use mathlib.Core.Option.{none, some}
use Rattle.rules.specs.Sheet.{Sheet, sheet_in, two}
use Rattle.rules.specs.Job.{Job}
use Rattle.rules.specs.Step.{first_by, initiated, initiating, pend_receive}
use Rattle.state.specs.declared.Queue.{Queue}
use Rattle.state.specs.Layout.{word_at}
use Rattle.state.specs.Queues.{base_of, count_of, list_of, with_list, pended}
use Rattle.state.specs.Decodes.{Decodes}
use Rattle.state.proofs.Decodes.{list_length}
use Rattle.search.specs.Search.{Readable, Listed, FirstBelow, First, pair_fits}
use Rattle.search.specs.Held.{holds_reads, listed_in, found_is, missing_is}
use Rattle.steps.specs.Pairing.{searched, matched_with}
use Rattle.steps.specs.Initiate.{begins_unentered, begins_pairs, initiating_found, initiating_posted, initiating_left}
use Rattle.simulation.specs.Simulates.{holds_for}
use Rattle.steps.proofs.initiating.begin.Goals as goal
use Rattle.steps.proofs.initiating.begin.Goals.{After-find}

pub is_receive-receives-requires : goal.is_receive-receives-requires
is_receive-receives-requires c = let p = c.requires in (begins_unentered p.valid p.fine).inside

pub find-requires : goal.find-requires
find-requires c =
    let a = c.args in
    let p = c.requires in
    let list = c.searched-list.result in
    let there = listed_in a.s.now a.c.now a.t p.job p.decodes list p.valid p.fine.board.reached in
    let same = sym c.bytes.ensures in (
      subst (λ (b : List ℕ). Readable a.s.now b) same (holds_reads p),
      subst (λ (b : List ℕ). Listed a.s.now b list c.count.result) same
          (subst (λ (n : ℕ). Listed a.s.now a.c.now list n) (sym c.count.ensures) there),
      (begins_unentered p.valid p.fine).inside,
    )

-- WHAT THE SEARCH FOUND, in every job that is held
module _ (c : After-find) where
  abbrev s : Sheet
  s = sheet_in c.args.s.now

  -- the list, which an operation of its kind searches
  abbrev list : Queue
  list = c.searched-list.result

  abbrev receives : Bool
  receives = c.is_receive-receives.result

  abbrev fits_at : ℕ → Bool
  fits_at i = pair_fits list s c.args.i (two c.args.c.now (word_at (base_of list) i))

  first : (o : Option ℕ) → c.find.result ≡ o → First fits_at (count_of list c.args.t) o
  first o e =
      subst (λ (p : Option ℕ). First fits_at (count_of list c.args.t) p) e
      (subst (λ (n : ℕ). First fits_at n c.find.result) c.count.ensures
      (subst (λ (b : List ℕ). First (λ i. pair_fits list s c.args.i (two b (word_at (base_of list) i))) c.count.result c.find.result)
      c.bytes.ensures c.find.ensures))

  module _ (k : ℕ) (e : c.find.result ≡ Some k) (x : Job) (d : Decodes s c.args.c.now c.args.t x) where
    abbrev j : ℕ
    j = two c.args.c.now (word_at (base_of list) k)

    there : FirstBelow fits_at (count_of list c.args.t) k
    there = first (Some k) e

    within : k < length (list_of list x)
    within = omega (arith, there.inside, list_length s c.args.c.now c.args.t x d list)

    found : initiated s c.args.r c.args.i (matched_with list s c.args.i j x) ≡ initiating s c.args.r c.args.i x
    found =
        ap (λ (q : Queue). initiated s c.args.r c.args.i (matched_with q s c.args.i j x)) c.searched-list.ensures
        ∙ initiating_found s c.args.r c.args.i x receives j (sym c.is_receive-receives.ensures)
        (subst (λ (q : Queue). first_by (λ i. pair_fits q s c.args.i i) (list_of q x) ≡ some j) c.searched-list.ensures
        (found_is c.args.s.now c.args.c.now c.args.t x d list c.args.i k there))

  missing : c.find.result ≡ None → (x : Job) → Decodes s c.args.c.now c.args.t x → (b : Bool) → receives ≡ b →
      first_by (λ i. pair_fits (searched b) s c.args.i i) (list_of (searched b) x) ≡ none
  missing n x d b e =
      subst (λ (q : Queue). first_by (λ i. pair_fits q s c.args.i i) (list_of q x) ≡ none)
      (c.searched-list.ensures ∙ ap (λ (h : Bool). searched h) e)
      (missing_is c.args.s.now c.args.c.now c.args.t x d list c.args.i (first None n))

pub pair-requires : goal.pair-requires
pair-requires c =
    let p = c.requires in
    let z = (goal.at.pair-requires c).After-find in
    let k = c.in-Some.k in (
      holds_for p (begins_pairs p.valid p.fine (list z) k (within z k c.in-Some.is p.job p.decodes)),
      (there z k c.in-Some.is p.job p.decodes).inside,
    )

pub returns-in-Some : goal.returns-in-Some
returns-in-Some c =
    let z = (goal.at.returns-in-Some c).After-find in
    let k = c.in-Some.k in
    let met = c.pair in
    record {
      after =
          λ x d b.
          subst (λ (y : Job). Decodes (s z) met.new.c met.result y) (found z k c.in-Some.is x d)
          (met.ensures.after x d (begins_pairs c.requires.valid b (list z) k (within z k c.in-Some.is x d)));
    }

pub pend-requires : goal.pend-requires
pend-requires c =
    let p = c.requires in
    holds_for p (begins_unentered p.valid p.fine)

pub returns-in-None : goal.returns-in-None
unfolding pended pend_receive with_list list_of
returns-in-None c =
    let a = c.args in
    let z = (goal.at.returns-in-None c).After-find in
    let posted = c.pend in
    let is = c.if-receives.true in
    record {
      after =
          λ x d b.
          subst (λ (y : Job). Decodes (s z) posted.new.c posted.result y)
          (initiating_posted (s z) a.r a.i x (sym c.is_receive-receives.ensures ∙ is) (missing z c.in-None.is x d true is))
          (posted.ensures.after x d (begins_unentered c.requires.valid b));
    }

pub leave-requires : goal.leave-requires
leave-requires c =
    let p = c.requires in
    holds_for p (begins_unentered p.valid p.fine)

pub returns-in-None-2 : goal.returns-in-None-2
returns-in-None-2 c =
    let a = c.args in
    let z = (goal.at.returns-in-None-2 c).After-find in
    let left = c.leave in
    let is = c.if-receives.false in
    record {
      after =
          λ x d b.
          subst (λ (y : Job). Decodes (s z) left.new.c left.result y)
          (initiating_left (s z) a.r a.i x (sym c.is_receive-receives.ensures ∙ is) (missing z c.in-None-2.is x d false is))
          (left.ensures.after x d (begins_unentered c.requires.valid b));
    }
