-- The two waiting lists as one (document 01, "How a board steps"): pending messages in order of arrival and posted receives in
-- order of posting. Where a list stands in scratch, how many it has, and what it is of a job; a law that holds of both is
-- stated over a list `q` and proved once. Assumes nothing.
use Rattle.std.specs.Prelude.{List, [], ◌∷◌, ◌++◌, ℕ, ◌+◌, ◌*◌, ◌≤◌}
use Rattle.std.proofs.Common.{arith}
use Rattle.rules.specs.Limits.{most_ops}
use Rattle.rules.specs.Job.{Job, with_messages, with_receives}
use Rattle.rules.specs.Step.{with_state}
use Rattle.state.specs.declared.Control.{Control}
use Rattle.state.specs.declared.Queue.{Queue}
use Rattle.state.specs.declared.Queue.TheVariants.{Messages, Receives}
use Rattle.state.specs.Layout.{messages_at, receives_at, ranks_at}
use Rattle.state.specs.Controls.{counted}

unfoldable pub base_of : Queue → ℕ
base_of Messages = messages_at
base_of Receives = receives_at

unfoldable pub count_of : Queue → Control → ℕ
count_of Messages t = t.messages
count_of Receives t = t.receives

unfoldable pub recounted : Queue → (count : ℕ) → Control → Control
recounted Messages n t = counted n t.receives t
recounted Receives n t = counted t.messages n t

unfoldable pub list_of : Queue → Job → List ℕ
list_of Messages x = x.messages
list_of Receives x = x.receives

unfoldable pub with_list : Queue → List ℕ → Job → Job
with_list Messages l x = with_messages l x
with_list Receives l x = with_receives l x

-- operation i becomes pending in a state: its row, and behind the others in its list
unfoldable pub pended : Queue → (i state : ℕ) → Job → Job
pended q i v x = with_list q (list_of q x ++ (i ∷ [])) (with_state i v x)

-- a list has its own stretch of scratch
pub record Based (base : ℕ) : Type 0 where
  pub low : messages_at ≤ base
  pub high : base + 2 * most_ops ≤ ranks_at

pub list_based : (q : Queue) → Based (base_of q)
unfolding base_of
list_based Messages = record { low = omega arith; high = omega arith }
list_based Receives = record { low = omega arith; high = omega arith }
