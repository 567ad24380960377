-- What run's contract says of the judge's call: a refusal is check's, since no room is short, and behind number 0 the report's
-- own bytes are the report of the job that run left. Assumes nothing.
use Rattle.std.specs.Prelude.{◌≡◌, List, ℕ, ◌≤◌, eqb, length, take}
use Rattle.std.proofs.Math.Path.{sym}
use Rattle.std.proofs.Common.{◌∙◌, ap, arith, eq-eqb}
use Rattle.std.proofs.Math.Decide.{ℕ_discrete}
use Rattle.std.proofs.Math.ListN.{length-replicate}
use Rattle.rules.specs.Limits.{most_inbox, report_size, scratch_size}
use Rattle.rules.specs.Sheet.{Sheet, second_in, sheet_in, P_of, N_of}
use Rattle.rules.specs.Job.{Job}
use Rattle.rules.specs.Refusal.{Refusal, refusal, accepted, sheet_refusal}
use Rattle.rules.specs.Order.{run}
use Rattle.rules.specs.Report.{report}
use Rattle.rules.specs.Service.{Answers, room_refusal, in_front, kept_or, run_refusal, RunSays}
use Rattle.laws.specs.Broken.{or_else_passed, or_else_stopped}
use Rattle.laws.specs.Tests.{cond_true}
use Rattle.laws.specs.Editions.{rows_most}
use Rattle.laws.specs.Laid.{Laid}
use Rattle.laws.specs.Answers.{answers_number}
use Rattle.laws.specs.Rooms.{rooms_enough}
use Rattle.invariant.specs.sheet.FromBytes.{unrefused_accepted, accepted_laid, valid_from_accepted}
use Rattle.invariant.specs.deliveries.Commute.{delivery_laws}
use Rattle.invariant.specs.preserve.Orders.{left_reached}
use Rattle.promises.proofs.claims.RunEnds.{run_ended}
use Rattle.promises.proofs.compare.ReportBytes.{report_length}
use Rattle.promises.proofs.claims.Calls.{front_report}
use Rattle.jamturret.specs.Rooms.{Ready}
use Rattle.jamturret.specs.Outcomes.{ready}
use Rattle.judge.specs.Printed.{most_report, most_order, zeros, report_for, line_size, told_size}

-- the report of a sheet that check accepts stands at the start of a room
pub record Reported (bs room : List ℕ) : Type 0 where
  pub passed : (sheet_refusal bs).number ≡ 0
  pub laid : Laid bs
  pub own : take (report_size (second_in bs) (P_of (sheet_in bs)) (N_of (sheet_in bs))) room ≡ report_for bs
  pub long : most_report ≡ length room

-- the outcome of a run from zeroed inboxes: a refusal of check's, or the report
pub record Ran (bs : List ℕ) (n p : ℕ) (room : List ℕ) : Type 0 where
  pub number : n ≡ (sheet_refusal bs).number
  pub place : (n ≡ 0 → ⊥) → p ≡ (sheet_refusal bs).place
  pub reported : n ≡ 0 → Reported bs room

-- two lines stand at the start of their rooms, with their sizes
pub record Lines (line told : List ℕ) (n : ℕ) (line_room : List ℕ) (m : ℕ) (told_room : List ℕ) : Type 0 where
  pub is : take n line_room ≡ line
  pub told_is : take m told_room ≡ told
  pub fits : n ≤ line_size
  pub told_fits : m ≤ told_size

-- rooms of these sizes are never short
abbrev rooms_lent : (bs : List ℕ) → Refusal
rooms_lent bs = room_refusal (second_in bs) (sheet_in bs) most_inbox most_report most_order scratch_size

never_short : (bs : List ℕ) → (sheet_refusal bs).number ≡ 0 → rooms_lent bs ≡ accepted
never_short bs e =
    let a = unrefused_accepted bs e in
    let q = accepted_laid bs a in
    rooms_enough (second_in bs) (sheet_in bs) most_inbox most_report most_order scratch_size
    (record {
      inbox = (valid_from_accepted bs a).inbox_small;
      report = omega (arith, rows_most (second_in bs) (P_of (sheet_in bs)));
      order = omega arith;
      scratch = omega arith;
    })

-- so that run's refusal is check's
checks : (bs : List ℕ) (n p : ℕ) → Answers (run_refusal bs most_inbox most_report most_order scratch_size) n p →
    (n ≡ (sheet_refusal bs).number) × ((n ≡ 0 → ⊥) → p ≡ (sheet_refusal bs).place)
unfolding Answers run_refusal refusal
checks bs n p t = go (ℕ_discrete (sheet_refusal bs).number 0)
  where
    go : Dec ((sheet_refusal bs).number ≡ 0) → (n ≡ (sheet_refusal bs).number) × ((n ≡ 0 → ⊥) → p ≡ (sheet_refusal bs).place)
    go (no h) =
        let same = or_else_stopped (sheet_refusal bs) (rooms_lent bs) h in
        (t.0 ∙ ap (λ (g : Refusal). g.number) same, λ _. t.1 ∙ ap (λ (g : Refusal). g.place) same)
    go (yes e) =
        let same = or_else_passed (sheet_refusal bs) (rooms_lent bs) e ∙ never_short bs e in
        let none : n ≡ 0 = t.0 ∙ ap (λ (g : Refusal). g.number) same in
        (none ∙ sym e, λ h. absurd (h none))

module _ (bs i i' r r' o o' c c' : List ℕ) (n p : ℕ) (said : RunSays bs n p i i' r r' o o' c c') (z : n ≡ 0) where
  abbrev s : Sheet
  s = sheet_in bs

  given : Ready bs (length i) (length r) (length o) (length c)
  unfolding RunSays
  given = ready bs (length i) (length r) (length o) (length c) n p said.0 z

  pub sheet_laid : Laid bs
  sheet_laid = given.laid

  long : length (run s i).end.entries ≡ N_of s
  long =
      ap (λ (x : Job). length x.entries) (sym (run_ended given.good (delivery_laws s given.good) i given.roomy.inbox).same_job)
      ∙ (left_reached given.good (delivery_laws s given.good) given.roomy.inbox (run s i).order).placed.entries_long

  reported : r' ≡ in_front (report (second_in bs) s (run s i).end) r
  unfolding RunSays kept_or
  reported =
      let f = run_refusal bs (length i) (length r) (length o) (length c) in
      let e : f.number ≡ 0 = sym (answers_number f n p said.0) ∙ z in
      said.2 ∙ cond_true (eqb f.number 0) (in_front (report (second_in bs) s (run s i).end) r) r (eq-eqb f.number 0 e)

  -- the report's own bytes are the report
  pub own_report : take (report_size (second_in bs) (P_of (sheet_in bs)) (N_of (sheet_in bs))) r' ≡ report (second_in bs) (sheet_in bs) (run (sheet_in bs) i).end
  own_report =
      ap (λ (w : List ℕ). take (report_size (second_in bs) (P_of s) (N_of s)) w) reported
      ∙ front_report (report (second_in bs) s (run s i).end) r (report_size (second_in bs) (P_of s) (N_of s))
      (report_length (second_in bs) s (run s i).end long)

-- THE JUDGE'S OWN CALL, from zeroed inboxes
module _ (bs i' r r' o o' c c' : List ℕ) (n p : ℕ) (long : most_report ≡ length r) (kept : length r' ≡ length r)
    (for_order : length o ≡ most_order) (for_scratch : length c ≡ scratch_size)
    (said : RunSays bs n p (zeros most_inbox) i' r r' o o' c c') where
  answered : Answers (run_refusal bs most_inbox most_report most_order scratch_size) n p
  unfolding RunSays
  answered =
      let i = length-replicate {A = ℕ} most_inbox 0 in
      rw (i, sym long, for_order, for_scratch) at said.0

  pub ran : Ran bs n p r'
  unfolding report_for
  ran =
      record {
        number = (checks bs n p answered).0;
        place = (checks bs n p answered).1;
        reported = λ z. record {
          passed = sym (checks bs n p answered).0 ∙ z;
          laid = sheet_laid bs (zeros most_inbox) i' r r' o o' c c' n p said z;
          own = own_report bs (zeros most_inbox) i' r r' o o' c c' n p said z;
          long = long ∙ sym kept;
        };
      }
