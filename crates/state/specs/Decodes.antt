-- Scratch and its control block hold a job. Each change of scratch is the change of the job that rules names, so that an engine above
-- never speaks of bytes. Nothing is held of the inbox memory: deliveries are made at the end, from the rows. What is proved of it stands
-- in proofs/Decodes. Assumes nothing.
use Rattle.std.specs.Prelude.{◌≡◌, ℕ, ◌≤◌, take}
use mathlib.Core.List.{List}
use Rattle.std.proofs.Math.ListN.{length}
use Rattle.rules.specs.Limits.{most_ops, most_boards, scratch_size}
use Rattle.rules.specs.Sheet.{Sheet, N_of, P_of}
use Rattle.rules.specs.Job.{Job}
use Rattle.rules.specs.Report.{op_rows}
use Rattle.state.specs.declared.Control.{Control}
use Rattle.state.specs.Layout.{row_at, messages_at, receives_at}
use Rattle.state.specs.Decoded.{entries_in, places_in, words_in}
use Rattle.state.specs.Indexed.{Indexed}
use Rattle.state.specs.Controls.{stop_of}

pub record Decodes (s : Sheet) (c : List ℕ) (t : Control) (x : Job) : Type 0 where
  pub few_ops : N_of s ≤ most_ops
  pub few_boards : P_of s ≤ most_boards
  pub few_messages : t.messages ≤ most_ops
  pub few_receives : t.receives ≤ most_ops
  pub roomy : scratch_size ≤ length c
  pub entries_are : x.entries ≡ entries_in c (N_of s)
  pub rows_are : take (row_at (N_of s)) c ≡ op_rows x.entries
  pub places_are : x.places ≡ places_in c (P_of s)
  pub messages_are : x.messages ≡ words_in c messages_at t.messages
  pub receives_are : x.receives ≡ words_in c receives_at t.receives
  pub stop_is : x.stop ≡ stop_of t.stop
  pub steps_are : x.steps ≡ t.steps
  pub indexed : Indexed s c
