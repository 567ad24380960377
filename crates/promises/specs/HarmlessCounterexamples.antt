-- Why an exchange of two able steps must be harmless where the sheet is not calm (Statements: Harmless), as to probes and queries
-- (document 02, K9) and to rooms (K6). Without the condition that a query tells the same before the other step and after it, or that
-- a standard send is buffered before it exactly if it is after it, and where races for probes are allowed and races for receives
-- are not, there is an exchange that leaves reports which differ in more than peaks.
-- The exchanges are those of SwapCounterexamples, computed.
--   NoRace, BothTellSame, BothKeepSame   with GoesOn the conditions of Harmless
--   parts_harmless               together they are Harmless
--   SwapWhere                   an exchange leaves jobs alike where a condition holds of it; with Harmless it is promised
--   harm_refutes                 an exchange that ends apart, and of which the condition holds, refutes SwapWhere
--   query_apart, any_probe_apart, room_apart             the exchanges end apart; .._goes_on: and stop the job in neither order
--   query_step_matters, probe_race_matters, room_step_matters
-- Definitions: what is proved of them stands in proofs/HarmlessCounterexamples. Assumes nothing.
use Rattle.std.specs.Prelude.{◌≡◌, ◌≢◌, Bool, true, false, List, ◌∷◌, ◌++◌, ℕ}
use Rattle.rules.specs.Sheet.{Sheet, Op, op, sheet_in, is_send}
use Rattle.rules.specs.Job.{Job}
use Rattle.rules.specs.Step.{able, next_op, in_waiting_half, fits_with}
use Rattle.rules.specs.Claims.{accepts, left_by, Alike}
use Rattle.promises.specs.Statements.{Lent}
use Rattle.promises.specs.ExchangeStatements.{TellsSame, KeepsSame}

-- THE CONDITIONS OF HARMLESS, one by one, beside GoesOn
-- they do not enter two messages that one operation fits which a test counts
unfoldable pub NoRace : (counts : Op → Bool) → Sheet → Job → (p q : ℕ) → Type 0
NoRace counts s x p q =
    (r : ℕ) → in_waiting_half s x p ≡ false → in_waiting_half s x q ≡ false →
    is_send (op s (next_op s x p)) ≡ true → is_send (op s (next_op s x q)) ≡ true → counts (op s r) ≡ true →
    fits_with s (next_op s x p) r ≡ true → fits_with s (next_op s x q) r ≡ true → ⊥

-- a query among them tells the same before the other step and after it
unfoldable pub BothTellSame : Sheet → Job → (p q : ℕ) → Type 0
BothTellSame s x p q = TellsSame s x p q × TellsSame s x q p

-- a standard send among them is buffered before the other step exactly if it is after it
unfoldable pub BothKeepSame : Sheet → Job → (p q : ℕ) → Type 0
BothKeepSame s x p q = KeepsSame s x p q × KeepsSame s x q p

-- SwapGeneral's claim that what the steps left is alike, where a condition holds of the two steps
unfoldable pub SwapWhere : (Sheet → Job → (p q : ℕ) → Type 0) → Type 0
SwapWhere H =
    (bs i before after : List ℕ) (p q : ℕ) → Lent bs i →
    let s = sheet_in bs in
    accepts s before i ≡ true → p ≢ q → able s (left_by s before i) p ≡ true → able s (left_by s before i) q ≡ true →
    H s (left_by s before i) p q → Alike s (left_by s (before ++ (p ∷ q ∷ after)) i) (left_by s (before ++ (q ∷ p ∷ after)) i)
