-- The changes that steps are made of, in the words of rules' Step: what a function of src/changes leaves holds the job that the
-- definition of its name makes. That is proved in proofs/ChangesHold. Assumes nothing.
use Rattle.std.specs.Prelude.{◌≡◌, Bool, true, false, ℕ, suc, ◌+◌, ◌<◌}
use mathlib.Core.List.{List}
use Rattle.std.proofs.Math.Dec.{leb}
use Rattle.rules.specs.Sheet.{Sheet, op, N_of, P_of, rank_of}
use Rattle.rules.specs.Job.{Job, Place, Store, place_at, account, with_account}
use Rattle.rules.specs.Step.{is_cut, with_place, charged, released}
use Rattle.state.specs.declared.Control.{Control}
use Rattle.state.specs.Decodes.{Decodes}

-- wherever scratch c and control block t hold a job of which `ok` holds, b and u hold the job that f makes of it
abbrev pub Becomes : (c : List ℕ) → Control → (b : List ℕ) → Control → (Sheet → Job → Type 0) → (Sheet → Job → Job) → Type 0
Becomes c t b u ok f = (s : Sheet) (x : Job) → Decodes s c t x → ok s x → Decodes s b u (f s x)

-- the same where the control block stays
abbrev pub Changes : (c b : List ℕ) → (Sheet → Job → Type 0) → (Sheet → Job → Job) → Type 0
Changes c b ok f = (t : Control) → Becomes c t b t ok f

-- board r is there, and one operation more can be counted as finished
pub record CanFinish (r : ℕ) (s : Sheet) (x : Job) : Type 0 where
  pub there : r < P_of s
  pub room : suc (place_at x r).finished < 65536

-- a place whose store is charged n bytes, and one from whose store they go
abbrev pub charged_in : Store → (n : ℕ) → Place → Place
charged_in w n p = with_account w (charged n (account w p)) p

abbrev pub released_in : Store → (n : ℕ) → Place → Place
released_in w n p = with_account w (released n (account w p)) p

-- a charge of n bytes to the account of board r's store, which has a size: taken where there is room, which `ok` says
pub record Charges (w : Store) (c b : List ℕ) (r size n : ℕ) (ok : Bool) : Type 0 where
  pub says : (s : Sheet) (t : Control) (x : Job) → Decodes s c t x → r < P_of s → ok ≡ leb ((account w (place_at x r)).in_use + n) size
  pub taken : ok ≡ true → Changes c b (λ s x. r < P_of s) (λ s x. with_place r (charged_in w n (place_at x r)) x)
  pub refused : ok ≡ false → b ≡ c

-- what an operation that tells puts into its row fits its bytes
pub record Tellable (s : Sheet) (i source tag long : ℕ) : Type 0 where
  pub inside : i < N_of s
  pub source_fits : source < 65536
  pub tag_fits : tag < 65536
  pub long_fits : long < 65536

-- the figures of a matched receive's row: its status, that fits its bytes
pub record Status (s : Sheet) (m r : ℕ) (cut : Bool) (source tag long : ℕ) : Type 0 where
  pub sent_inside : m < N_of s
  pub received_inside : r < N_of s
  pub cut_is : cut ≡ is_cut s m r
  pub source_is : source ≡ rank_of s m
  pub tag_is : tag ≡ (op s m).tag
  pub long_is : long ≡ (op s m).long
  pub source_fits : source < 65536
  pub tag_fits : tag < 65536
  pub long_fits : long < 65536
