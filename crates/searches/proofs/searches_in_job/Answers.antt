-- `searches::searches_in_job` meets its contract: a way for each thing that is not so, and what the search finds. Assumes nothing.
use Rattle.std.proofs.Common.{List, ap, arith, length, subst, sym, ℕ, ◌+◌, ◌<◌, ◌∙◌, ◌≡◌}
use Rattle.rules.specs.Sheet.{sheet_in, N_of}
use Rattle.rules.specs.Refusal.{sheet_refusal}
use Rattle.laws.specs.Answers.{answers_number}
use Rattle.invariant.specs.sheet.FromBytes.{unrefused_accepted, valid_from_accepted}
use Rattle.invariant.specs.sheet.Valid.{Valid}
use Rattle.sheet.specs.Refused.{accepts, refuses}
use Rattle.searches.specs.Jobs.{searched_places, places_in_job}
use Rattle.searches.proofs.Jobs.{scratch_short, no_operations, places_told, sheet_refused}
use Rattle.searches.proofs.searches_in_job.Goals as goal
use Rattle.searches.proofs.searches_in_job.Goals.{In-Ok, After-ops-ops, then-ops-n-via-then-ops-n, then-ops-n-via-else-ops-n+then-ops-n-2}

-- check has accepted the sheet, which has the bytes that were lent
module _ (c : In-Ok) where
  passes : (sheet_refusal c.args.sheet.now).number ≡ 0
  passes = accepts _ c.in-Ok.ensures.refuses

  same : c.in-Ok.sheet ≡ c.args.sheet.now
  same = c.in-Ok.ensures.sheet

pub returns-in_default : goal.returns-in_default
returns-in_default c =
    let a = c.args in
    let e = c.in_default.field-0 in
    sheet_refused a.sheet.now a.order.now (length a.scratch.now) a.i a.n
    (λ z. refuses e.rule (answers_number _ _ e.place c.in_default.ensures.refuses ∙ z))

pub returns-then-scratch-lt-SCRATCH_SIZE : goal.returns-then-scratch-lt-SCRATCH_SIZE
returns-then-scratch-lt-SCRATCH_SIZE c =
    let a = c.args in
    scratch_short a.sheet.now a.order.now (length a.scratch.now) a.i a.n (passes (goal.at.returns-then-scratch-lt-SCRATCH_SIZE c).In-Ok) c.if-scratch-lt-SCRATCH_SIZE.true

-- there are no operations where more are asked for than the sheet has
module _ (c : After-ops-ops) where
  abbrev k : In-Ok
  k = (goal.at.After-ops-ops c).In-Ok

  ops_are : c.ops-ops.result ≡ N_of (sheet_in c.args.sheet.now)
  ops_are = c.ops-ops.ensures.is ∙ ap (λ (bs : List ℕ). N_of (sheet_in bs)) (same k)

  none : N_of (sheet_in c.args.sheet.now) < c.args.i + c.args.n → 0 ≡ searched_places c.args.sheet.now c.args.order.now (length c.args.scratch.now) c.args.i c.args.n
  none h =
      let a = c.args in
      no_operations a.sheet.now a.order.now (length a.scratch.now) a.i a.n (passes k) c.if-scratch-lt-SCRATCH_SIZE.false h

pub returns-then-ops-n : goal.returns-then-ops-n
returns-then-ops-n c =
    let k = (goal.at.returns-then-ops-n c).After-ops-ops in
    elim c.then-ops-n.branch [
      | then-ops-n-via-then-ops-n w ↦ none k (omega (arith, w.if-ops-n.true, ops_are k))
      | then-ops-n-via-else-ops-n+then-ops-n-2 w ↦ none k (omega (arith, w.if-ops-n-2.true, ops_are k))
    ]

pub after-requires : goal.after-requires
after-requires c =
    let k = (goal.at.after-requires c).In-Ok in (
      subst (λ (bs : List ℕ). Valid (sheet_in bs)) (sym (same k)) (valid_from_accepted c.args.sheet.now (unrefused_accepted c.args.sheet.now (passes k))),
      omega (arith, c.if-ops-n-2.false, c.if-ops-n.false, c.ops-ops.ensures.is),
    )

pub returns : goal.returns
returns c =
    let k = (goal.at.returns c).In-Ok in
    let a = c.args in
    let told : c.after.result ≡ places_in_job a.sheet.now a.order.now a.i a.n =
    c.after.ensures ∙ ap (λ (bs : List ℕ). places_in_job bs a.order.now a.i a.n) (same k) in
    places_told a.sheet.now a.order.now (length a.scratch.now) a.i a.n (passes k) c.if-scratch-lt-SCRATCH_SIZE.false
    (omega (arith, c.if-ops-n-2.false, c.if-ops-n.false, ops_are (goal.at.returns c).After-ops-ops)) told
