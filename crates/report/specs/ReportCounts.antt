-- Pending messages, pending receives and cut messages, counted over the rows that scratch holds. Assumes nothing.
--   message_row, receive_row, cut_row    what is counted, as the rows have it
--   Counted                              the operations before i are counted
--   messages_are, receives_are, cut_are  the counts are those of the job that stands there
use Rattle.std.specs.Prelude.{◌≡◌, refl, Bool, true, false, ◌&&◌, ◌||◌, cond, List, ℕ, zero, suc, ◌+◌, ◌-◌, ◌≤◌, ◌<◌}
use Rattle.std.specs.Int.{from_bool}
use Rattle.std.proofs.Common.{sym, ap₂, ◌∙◌, arith, add-one}
use Rattle.std.proofs.Math.Path.{ap}
use Rattle.std.proofs.Math.Dec.{eqb}
use Rattle.rules.specs.Sheet.{Sheet, op, N_of, sheet_in, is_send, is_receive}
use Rattle.rules.specs.Job.{Job, Entry, entry_at}
use Rattle.rules.specs.Report.{count_from, is_pending_message, is_pending_receive, pending_messages, pending_receives, cut_messages, entry_in}
use Rattle.state.specs.declared.Control.{Control}
use Rattle.state.specs.Layout.{row_at}
use Rattle.state.proofs.Decodes.{entry_is}
use Rattle.simulation.specs.Represents.{Represents}

unfoldable pub message_row : Sheet → (c : List ℕ) → (i : ℕ) → Bool
message_row s c i = is_send (op s i) && (eqb (entry_in c (row_at i)).state 1 || eqb (entry_in c (row_at i)).state 2)

unfoldable pub receive_row : Sheet → (c : List ℕ) → (i : ℕ) → Bool
receive_row s c i = is_receive (op s i) && eqb (entry_in c (row_at i)).state 1

unfoldable pub cut_row : (c : List ℕ) → (i : ℕ) → Bool
cut_row c i = eqb (entry_in c (row_at i)).cut 1

-- a test is 1 where it holds, else 0
bit_is : (b : Bool) → from_bool b ≡ cond b 1 0
bit_is true = refl
bit_is false = refl

bit_most : (b : Bool) → from_bool b ≤ 1
bit_most true = omega arith
bit_most false = omega arith

-- THE COUNT of the numbers below n that pass a test has come to i, at k
pub record Counted (n : ℕ) (f : ℕ → Bool) (k i : ℕ) : Type 0 where
  pub upper : i ≤ n
  pub few : k ≤ i
  pub is : count_from n 0 f ≡ k + count_from (n - i) i f

pub counted_none : (n : ℕ) (f : ℕ → Bool) → Counted n f 0 0
counted_none n f =
    let e : n - 0 ≡ n = omega arith in
    record {
      upper = omega arith;
      few = omega arith;
      is = omega (arith, ap (λ (m : ℕ). count_from m 0 f) e);
    }

count_more : (n i : ℕ) (f : ℕ → Bool) → i < n → count_from (n - i) i f ≡ cond (f i) 1 0 + count_from (n - (i + 1)) (i + 1) f
unfolding count_from
count_more n i f l =
    let e : n - i ≡ suc (n - (i + 1)) = omega arith in
    ap (λ (m : ℕ). count_from m i f) e ∙ ap (λ (j : ℕ). cond (f i) 1 0 + count_from (n - (i + 1)) j f) (sym (add-one i))

-- b is the test of i, v its bit
pub counted_more : {n : ℕ} {f : ℕ → Bool} {k i v : ℕ} {b : Bool} → Counted n f k i → i < n → b ≡ f i → v ≡ from_bool b → Counted n f (k + v) (i + 1)
counted_more {n} {f} {k} {i} {v} {b} q l e h =
    let same : v ≡ cond (f i) 1 0 = h ∙ (bit_is b ∙ ap (λ (t : Bool). cond t 1 0) e) in
    record {
      upper = omega arith;
      few = omega (arith, q.few, h, bit_most b);
      is = omega (arith, q.is, count_more n i f l);
    }

pub counted_all : {n : ℕ} {f : ℕ → Bool} {k i : ℕ} → Counted n f k i → n ≤ i → k ≡ count_from n 0 f
unfolding count_from
counted_all {n} {f} {k} {i} q l =
    let e : n - i ≡ 0 = omega arith in
    omega (arith, q.is, ap (λ (m : ℕ). count_from m i f) e)

-- the three counts of a report
pub record RowsCounted (s : Sheet) (c : List ℕ) (messages receives cut : ℕ) : Type 0 where
  pub messages_counted : messages ≡ count_from (N_of s) 0 (message_row s c)
  pub receives_counted : receives ≡ count_from (N_of s) 0 (receive_row s c)
  pub cut_counted : cut ≡ count_from (N_of s) 0 (cut_row c)

-- tests that agree on what is counted
count_agree : (k i : ℕ) (f g : ℕ → Bool) → ((j : ℕ) → i ≤ j → j < i + k → f j ≡ g j) → count_from k i f ≡ count_from k i g
unfolding count_from
count_agree zero i f g h = refl
count_agree (suc k) i f g h =
    ap₂ (λ (b : Bool) (n : ℕ). cond b 1 0 + n) (h i (omega arith) (omega arith)) (count_agree k (suc i) f g (λ j l u. h j (omega arith) (omega arith)))

-- THE JOB'S
module _ {bs lent c : List ℕ} {t : Control} {x : Job} (d : Represents bs lent c t x) where
  abbrev s : Sheet
  s = sheet_in bs

  row : (j : ℕ) → j < 0 + N_of s → entry_in c (row_at j) ≡ entry_at x j
  row j u = entry_is s c t x d.decodes j (omega arith)

  pub messages_are : count_from (N_of s) 0 (message_row s c) ≡ pending_messages s x
  unfolding pending_messages is_pending_message message_row
  messages_are =
      count_agree (N_of s) 0 (message_row s c) (is_pending_message s x)
      (λ j l u. ap (λ (e : Entry). is_send (op s j) && (eqb e.state 1 || eqb e.state 2)) (row j u))

  pub receives_are : count_from (N_of s) 0 (receive_row s c) ≡ pending_receives s x
  unfolding pending_receives is_pending_receive receive_row
  receives_are =
      count_agree (N_of s) 0 (receive_row s c) (is_pending_receive s x)
      (λ j l u. ap (λ (e : Entry). is_receive (op s j) && eqb e.state 1) (row j u))

  pub cut_are : count_from (N_of s) 0 (cut_row c) ≡ cut_messages s x
  unfolding cut_messages cut_row
  cut_are = count_agree (N_of s) 0 (cut_row c) (λ i. eqb (entry_at x i).cut 1) (λ j l u. ap (λ (e : Entry). eqb e.cut 1) (row j u))
