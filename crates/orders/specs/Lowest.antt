-- The lowest rank that is able, sought from rank 0 on. Assumes nothing.
--   Lowest   the answer: that rank, none where no board is able
--   Sought   the search has come to rank r; sought_none, sought_more, sought_found, sought_all: its steps
--   lowest_low, lowest_none_able   the rank is one of the sheet's; whether no board is able
use Rattle.std.specs.Prelude.{◌≡◌, Bool, true, false, cond, List, Option, None, Some, ℕ, zero, suc, ◌+◌, ◌-◌, ◌<◌, ◌≤◌}
use Rattle.std.proofs.Math.Path.{sym, ap}
use Rattle.std.proofs.Common.{◌∙◌, arith, add-one}
use Rattle.std.proofs.Math.Option.{Option as Maybe, some}
use Rattle.rules.specs.Sheet.{Sheet, sheet_in, P_of}
use Rattle.rules.specs.Job.{Job}
use Rattle.rules.specs.Step.{able, is_none}
use Rattle.rules.specs.Order.{lowest_able, next_rank, none_able}
use Rattle.state.specs.declared.Control.{Control}
use Rattle.orders.specs.Jobs.{Every}
use Rattle.orders.specs.Optional.{option_of}

abbrev pub Lowest : Sheet → Job → Option ℕ → Type 0
Lowest s x o = next_rank s x ≡ option_of o

-- a search that has come to rank r
pub record Sought (bs c : List ℕ) (t : Control) (r : ℕ) : Type 0 where
  pub left : Every bs c t (λ x. next_rank (sheet_in bs) x ≡ lowest_able (P_of (sheet_in bs) - r) r (sheet_in bs) x)

pub sought_none : (bs c : List ℕ) (t : Control) → Sought bs c t 0
unfolding next_rank
sought_none bs c t = record { left = λ lent x d. ap (λ (n : ℕ). lowest_able n 0 (sheet_in bs) x) (omega arith) }

-- rank r is asked for
lowest_next : (s : Sheet) (x : Job) (r : ℕ) (b : Bool) → r < P_of s → b ≡ able s x r →
    lowest_able (P_of s - r) r s x ≡ cond b (some r) (lowest_able (P_of s - (r + 1)) (r + 1) s x)
unfolding lowest_able
lowest_next s x r b l e =
    let left : P_of s - r ≡ suc (P_of s - (r + 1)) = omega arith in
    ap (λ (n : ℕ). lowest_able n r s x) left
    ∙ (ap (λ (k : ℕ). cond (able s x r) (some r) (lowest_able (P_of s - (r + 1)) k s x)) (sym (add-one r))
    ∙ ap (λ (f : Bool). cond f (some r) (lowest_able (P_of s - (r + 1)) (r + 1) s x)) (sym e))

module _ {bs c : List ℕ} {t : Control} {r : ℕ} (h : Sought bs c t r) where
  abbrev s : Sheet
  s = sheet_in bs

  module _ (l : r < P_of s) (b : Bool) (ask : Every bs c t (λ x. b ≡ able s x r)) where
    pub sought_found : b ≡ true → Every bs c t (λ x. Lowest s x (Some r))
    sought_found e lent x d = h.left lent x d ∙ lowest_next s x r true l (sym e ∙ ask lent x d)

    pub sought_more : b ≡ false → Sought bs c t (r + 1)
    sought_more e =
        record { left = λ lent x d. h.left lent x d ∙ lowest_next s x r false l (sym e ∙ ask lent x d) }

  pub sought_all : P_of s ≤ r → Every bs c t (λ x. Lowest s x None)
  unfolding lowest_able
  sought_all l lent x d =
      let none_left : P_of s - r ≡ 0 = omega arith in
      h.left lent x d ∙ ap (λ (n : ℕ). lowest_able n r s x) none_left

-- WHAT IT SAYS
lowest_within : (k a r : ℕ) (s : Sheet) (x : Job) → lowest_able k a s x ≡ some r → r < a + k
unfolding lowest_able
lowest_within zero a r s x e = absurd (let z : ◌≡◌ {A = ℕ} 0 1 = cc in omega arith)
lowest_within (suc k) a r s x e = go (able s x a) e (λ later. omega (arith, lowest_within k (suc a) r s x later))
  where
    go : (b : Bool) → cond b (some a) (lowest_able k (suc a) s x) ≡ some r → (lowest_able k (suc a) s x ≡ some r → r < a + suc k) → r < a + suc k
    go true e later = let same : a ≡ r = cc in omega arith
    go false e later = later e

module _ (s : Sheet) (x : Job) where
  -- the rank is one of the sheet's
  pub lowest_low : (r : ℕ) → Lowest s x (Some r) → r < P_of s
  unfolding next_rank
  lowest_low r low = omega (arith, lowest_within (P_of s) 0 r s x low)

  -- no board is able where there is none
  pub lowest_none_able : (o : Option ℕ) → Lowest s x o → none_able s x ≡ is_none (option_of o)
  unfolding none_able
  lowest_none_able o low = ap (λ (q : Maybe ℕ). is_none q) low
