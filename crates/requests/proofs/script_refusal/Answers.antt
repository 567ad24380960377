-- `requests::script_refusal` meets its contract: the search inside the script goes on by what the table of slots answers, which is rule
-- 7's answer. Assumes nothing.
use Rattle.std.proofs.Common.{List, ap, arith, not, subst₂, sym, ℕ, ◌+◌, ◌<◌, ◌∙◌, ◌≡◌}
use Rattle.rules.specs.Sheet.{sheet_in, op, N_of, rank_of}
use Rattle.rules.specs.Refusal.{request_good}
use Rattle.laws.specs.Scripts.{searched_none, searched_inside, searched_rank, searched_more, searched_bad, searched_all}
use Rattle.requests.specs.Slots.{Slotted, table_good}
use Rattle.requests.specs.Requests.{Kept, kept_none, kept_more, table_answer, slotted}
use Rattle.requests.proofs.script_refusal.Goals as goal
use Rattle.requests.proofs.script_refusal.Goals.{In-loop-i}

pub loop-i-init : goal.loop-i-init
loop-i-init c =
    let s = sheet_in c.args.s.now in (
      searched_none c.requires.0 c.requires.2 c.first-first.ensures.is (omega arith),
      kept_none s c.requires.0.consecutive c.args.r c.first-first.result c.requires.2 c.first-first.ensures.is,
    )

-- what is known of operation i inside the loop
module _ (c : In-loop-i) where
  inside : c.loop-i.i < N_of (sheet_in c.args.s.now)
  inside = searched_inside c.loop-i.invariant.0 c.loop-i-test.true

  ranked : rank_of (sheet_in c.args.s.now) c.loop-i.i ≡ c.args.r
  ranked = searched_rank c.loop-i.invariant.0 c.loop-i-test.true

  there : (j : ℕ) → j < N_of (sheet_in c.args.s.now) → Slotted (op (sheet_in c.args.s.now) j)
  there = slotted c.args.s.now c.known.ensures c.requires.0 c.requires.1

  -- the table's answer is rule 7's
  answered : table_good c.loop-i.table.starts c.loop-i.table.ends (op (sheet_in c.args.s.now) c.loop-i.i) ≡ request_good (sheet_in c.args.s.now) c.loop-i.i
  answered = table_answer c.loop-i.invariant.1 ranked (λ j l. (there j (omega (arith, inside))).slot_small)

pub is_good-requires : goal.is_good-requires
is_good-requires c =
    let d = (goal.at.is_good-requires c).In-loop-i in
    (inside d, there d _ (inside d))

pub returns-then-not-is_good : goal.returns-then-not-is_good
returns-then-not-is_good c =
    let d = (goal.at.returns-then-not-is_good c).In-loop-i in
    searched_bad c.loop-i.invariant.0 c.loop-i-test.true (c.is_good.ensures ∙ answered d) (ap not c.if-not-is_good.true)

pub note-requires : goal.note-requires
note-requires c =
    let d = (goal.at.note-requires c).In-loop-i in
    (inside d, there d _ (inside d))

pub loop-i-preserved : goal.loop-i-preserved
loop-i-preserved c =
    let d = (goal.at.loop-i-preserved c).In-loop-i in
    let good = c.is_good.ensures in (
      searched_more c.loop-i.invariant.0 c.loop-i-test.true (good ∙ answered d) (ap not c.if-not-is_good.false),
      subst₂ (λ (x y : List ℕ). Kept (sheet_in c.args.s.now) c.args.r (c.loop-i.i + 1) x y) (sym c.note.ensures.0) (sym c.note.ensures.1)
          (kept_more c.loop-i.invariant.1 (ranked d) (there d _ (inside d)) (sym good ∙ c.if-not-is_good.false)),
    )

pub returns : goal.returns
returns c = searched_all c.loop-i.invariant.0 c.loop-i-test.false
