-- `setup::put_tables` meets its contract. The loop's invariant: the tables are right below board r's script. Assumes
-- nothing.
use Rattle.std.proofs.Common.{ap, arith, subst, sym, ℕ, ◌∙◌, ◌≡◌}
use Rattle.rules.specs.Sheet.{sheet_in, P_of, counts_before}
use Rattle.laws.specs.Ranks.{counts_none}
use Rattle.setup.specs.SetupTables.{Filled, filled_none}
use Rattle.setup.proofs.put_tables.Goals as goal

pub loop-r-init : goal.loop-r-init
loop-r-init c =
    let s = sheet_in c.args.s.now in
    let b = c.args.c.now in
    subst (λ (k : ℕ). Filled s b k) (sym (counts_none s)) (filled_none s b c.known.ensures)

pub put_script-requires : goal.put_script-requires
put_script-requires c =
    let l = c.loop-r in
    (c.requires, omega (arith, c.loop-r-test.true, c.boards-r-end.ensures.is), l.invariant)

pub returns : goal.returns
returns c =
    let l = c.loop-r in
    let s = sheet_in c.args.s.now in
    let all : l.r ≡ P_of s = omega arith in
    subst (λ (k : ℕ). Filled s l.c k) (ap (λ (k : ℕ). counts_before s k) all ∙ c.requires.counts_total) l.invariant

pub loop-r-preserved : goal.loop-r-preserved
loop-r-preserved c = c.put_script.ensures
