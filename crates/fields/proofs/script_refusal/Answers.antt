-- `fields::script_refusal` meets its contract: what the closure tests is the definition's test of an operation. Assumes nothing.
use Rattle.std.proofs.Common.{ap, ap₂, arith, cond, rules, sym, ℕ, ◌≡◌, ◌<◌, ◌∙◌}
use Rattle.rules.specs.Sheet.{sheet_in, N_of, P_of, op, board, rank_of, is_receive}
use Rattle.rules.specs.Refusal.{op_good, room_for, fields_good}
use Rattle.laws.specs.Ranks.{rank_in_script}
use Rattle.laws.specs.Scripts.{script_inside}
use Rattle.fields.proofs.script_refusal.Goals as goal

pub first_broken-requires : goal.first_broken-requires
first_broken-requires c =
    let inside = script_inside (sheet_in c.args.s.now) c.requires.0 c.args.r c.requires.1 in
    λ i l h.
    let small : i < N_of (sheet_in c.args.s.now) = omega arith in
    search rules

pub returns : goal.returns
unfolding op_good room_for
returns c =
    let s = sheet_in c.args.s.now in
    c.first_broken.ensures (op_good s) _ _ (omega arith) (sym c.first-first.ensures.is)
    (λ i l h b p.
    let o = op s i in
    let room = cond (is_receive o) c.inbox-inbox.result c.payload-payload.result in
    let told : b ≡ fields_good c.boards-p.result c.comms-comms.result room o = search rules in
    let rank : rank_of s i ≡ c.args.r = rank_in_script s c.requires.0.consecutive c.args.r i c.requires.1 (omega arith) (omega arith) in
    told
    ∙ (ap (λ (p : ℕ). fields_good p c.comms-comms.result room o) c.boards-p.ensures.is
    ∙ (ap (λ (m : ℕ). fields_good (P_of s) m room o) c.comms-comms.ensures.is
    ∙ ap (λ (k : ℕ). fields_good (P_of s) s.comms k o)
    (ap₂ (λ (m k : ℕ). cond (is_receive o) m k) (c.inbox-inbox.ensures.is ∙ ap (λ (q : ℕ). (board s q).inbox) (sym rank)) c.payload-payload.ensures.is))))
