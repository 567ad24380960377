-- Tests of the operations of a list, and of a board's script.
--   none_at         where no operation of a list passes a test, the one at a place does not
--   none_each       and back: where none at a place does, no operation of the list does
--   none_script     nor any of a board's script
--   script_at       an operation of a sheet stands in the script of its board
--   script_none     so where no operation of its board's script passes a test, it does not
-- Assumes nothing.
use Rattle.std.specs.Prelude.{◌≡◌, refl, Bool, true, false, not, List, [], ◌∷◌, ℕ, zero, suc, ◌-◌, ◌<◌, get_or, take, drop}
use Rattle.std.proofs.Common.{sym, ap, ◌∙◌, arith, get_or-take, get_or-drop}
use Rattle.std.proofs.lemmas.Bool.{not-true}
use Rattle.rules.specs.Sheet.{Sheet, Op, Board, no_op, op, board, N_of, rank_of}
use Rattle.rules.specs.Claims.{script}
use Rattle.laws.specs.Tests.{and_left, and_right, and_both}
use Rattle.invariant.specs.sheet.Valid.{Valid}
use Rattle.promises.specs.ExchangeStatements.{none_of}

-- a test that `no_op` does not pass, which stands past the end
pub none_at : (f : Op → Bool) (os : List Op) (k : ℕ) → none_of f os ≡ true → f no_op ≡ false → f (get_or os k no_op) ≡ false
unfolding none_of
none_at f [] k h n = n
none_at f (o ∷ os) zero h n = not-true (f o) (and_left (not (f o)) (none_of f os) h)
none_at f (o ∷ os) (suc k) h n = none_at f os k (and_right (not (f o)) (none_of f os) h) n

pub none_each : (f : Op → Bool) (os : List Op) → ((k : ℕ) → f (get_or os k no_op) ≡ false) → none_of f os ≡ true
unfolding none_of
none_each f [] h = refl
none_each f (o ∷ os) h = and_both (ap not (h 0)) (none_each f os (λ k. h (suc k)))

none_take : (f : Op → Bool) (n : ℕ) (os : List Op) → none_of f os ≡ true → none_of f (take n os) ≡ true
unfolding none_of
none_take f zero os h = refl
none_take f (suc n) [] h = refl
none_take f (suc n) (o ∷ os) h =
    and_both (and_left (not (f o)) (none_of f os) h) (none_take f n os (and_right (not (f o)) (none_of f os) h))

none_drop : (f : Op → Bool) (n : ℕ) (os : List Op) → none_of f os ≡ true → none_of f (drop n os) ≡ true
unfolding none_of
none_drop f zero os h = h
none_drop f (suc n) [] h = refl
none_drop f (suc n) (o ∷ os) h = none_drop f n os (and_right (not (f o)) (none_of f os) h)

pub none_script : (f : Op → Bool) (b : Board) (os : List Op) → none_of f os ≡ true → none_of f (script b os) ≡ true
unfolding script
none_script f b os h = none_take f b.count (drop b.first os) (none_drop f b.first os h)

pub script_at : (s : Sheet) → Valid s → (k : ℕ) → k < N_of s →
    get_or (script (board s (rank_of s k)) s.ops) (k - (board s (rank_of s k)).first) no_op ≡ op s k
unfolding script op
script_at s g k l =
    let b = board s (rank_of s k) in
    let low = g.rank_low k l in
    get_or-take b.count (drop b.first s.ops) (k - b.first) no_op (omega (arith, g.rank_high k l))
    ∙ get_or-drop b.first s.ops (k - b.first) no_op
    ∙ ap (λ (z : ℕ). get_or s.ops z no_op) (omega arith)

pub script_none : (f : Op → Bool) (s : Sheet) → Valid s → (k : ℕ) → k < N_of s →
    none_of f (script (board s (rank_of s k)) s.ops) ≡ true → f no_op ≡ false → f (op s k) ≡ false
script_none f s g k l h n =
    let b = board s (rank_of s k) in
    ap f (sym (script_at s g k l)) ∙ none_at f (script b s.ops) (k - b.first) h n
