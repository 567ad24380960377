-- A job stands in scratch: the sheet passes check, the job is one that an order leads to (promises' invariant), and scratch and
-- the control block decode to it. Every function of the engine is given this and says
-- what it does to every such job. Assumes nothing: these are definitions.
use Rattle.std.specs.Prelude.{◌≡◌, true, List, ℕ, ◌≤◌, length}
use Rattle.rules.specs.Sheet.{sheet_in, inbox_total}
use Rattle.rules.specs.Job.{Job}
use Rattle.rules.specs.Step.{able}
use Rattle.laws.specs.Laid.{Laid}
use Rattle.invariant.specs.sheet.Valid.{Valid}
use Rattle.invariant.specs.Invariant.{Reached}
use Rattle.state.specs.declared.Control.{Control}
use Rattle.state.specs.Decodes.{Decodes}

-- `lent` is the inboxes as they were lent: the engine steps without them
pub record Represents (bs lent c : List ℕ) (t : Control) (x : Job) : Type 0 where
  pub laid : Laid bs
  pub good : Valid (sheet_in bs)
  pub room : inbox_total (sheet_in bs) ≤ length lent
  pub reached : Reached (sheet_in bs) lent x
  pub decodes : Decodes (sheet_in bs) c t x

-- some job stands there: what a function asks at its entry
pub record Represented (bs c : List ℕ) (t : Control) : Type 0 where
  pub lent : List ℕ
  pub job : Job
  pub represents : Represents bs lent c t job

-- and board r is able in it
pub record RepresentedAble (bs c : List ℕ) (t : Control) (r : ℕ) : Type 0 where
  pub lent : List ℕ
  pub job : Job
  pub represents : Represents bs lent c t job
  pub is_able : able (sheet_in bs) job r ≡ true
