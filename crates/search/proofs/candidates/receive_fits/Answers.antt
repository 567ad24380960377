-- `search::candidates::receive_fits` meets its contract: test by test, in the order in which they are made. Assumes nothing.
use Rattle.std.proofs.Common.{ap, eq-eqb, eqb, ne_eqb, sym, ℕ, ◌&&◌, ◌∙◌, ◌≡◌}
use Rattle.rules.specs.Sheet.{sheet_in}
use Rattle.waiting.specs.Envelopes.{is_asked}
use Rattle.search.specs.Candidates.{Sides, receive_beside, receive_order, and_then, and_stop}
use Rattle.search.proofs.candidates.receive_fits.Goals as goal
use Rattle.search.proofs.candidates.receive_fits.Goals.{Joined-asks_for, then-a-rank_at, else-a-rank_at, then-asks_for, else-asks_for}

-- what the tests came to: board and tag, and source
module _ (c : Joined-asks_for) where
  abbrev x : Sides
  x = receive_beside (sheet_in c.args.s.now) c.args.a c.args.q

  rank : c.rank_at.result ≡ x.board
  rank = c.rank_at.ensures.is ∙ c.requires.0.tables.rank_is c.args.q c.requires.1

  tag : c.if-a-rank_at.value ≡ (eqb x.destination x.board && is_asked x.tag x.mark)
  tag = elim c.if-a-rank_at.branch [
    | then-a-rank_at w ↦ and_then (eq-eqb x.destination x.board (w.if-a-rank_at.true ∙ rank))
        (w.value-is ∙ w.asks_for.ensures ∙ ap (λ (t : ℕ). is_asked t x.mark) w.tag.ensures.is)
    | else-a-rank_at w ↦ and_stop _ (ne_eqb x.destination x.board (λ e. w.if-a-rank_at.false (e ∙ sym rank)))
        (w.value-is ∙ ap (λ (r : ℕ). eqb x.destination r) rank)
  ]

  source : c.if-asks_for.value ≡ ((eqb x.destination x.board && is_asked x.tag x.mark) && is_asked x.source x.sender)
  source = elim c.if-asks_for.branch [
    | then-asks_for w ↦ and_then (sym tag ∙ w.if-asks_for.true)
        (w.value-is ∙ w.asks_for-then-asks_for.ensures ∙ ap (λ (p : ℕ). is_asked p x.sender) w.peer.ensures.is)
    | else-asks_for w ↦ and_stop _ (sym tag ∙ w.if-asks_for.false) (w.value-is ∙ tag)
  ]

pub returns-then-asks_for-2 : goal.returns-then-asks_for-2
returns-then-asks_for-2 c =
    let z = (goal.at.returns-then-asks_for-2 c).Joined-asks_for in
    and_then (sym (source z) ∙ c.if-asks_for-2.true) (ap (λ (n : ℕ). eqb c.args.a.communicator n) c.comm.ensures.is) ∙ receive_order (x z)

pub returns-else-asks_for-2 : goal.returns-else-asks_for-2
returns-else-asks_for-2 c =
    let z = (goal.at.returns-else-asks_for-2 c).Joined-asks_for in
    and_stop _ (sym (source z) ∙ c.if-asks_for-2.false) (source z) ∙ receive_order (x z)
