-- `search::candidates::message_fits` meets its contract: test by test, in the order in which they are made. Assumes nothing.
use Rattle.std.proofs.Common.{ap, eqb, sym, ℕ, ◌&&◌, ◌∙◌, ◌≡◌}
use Rattle.rules.specs.Sheet.{sheet_in}
use Rattle.waiting.specs.Envelopes.{is_asked}
use Rattle.search.specs.Candidates.{Sides, message_beside, message_order, read_any, read_named, and_then, and_stop}
use Rattle.search.proofs.candidates.message_fits.Goals as goal
use Rattle.search.proofs.candidates.message_fits.Goals.{Joined-peer-a, then-a-eq-ANY, else-a-eq-ANY, then-a-rank_at, else-a-rank_at, then-peer-a+then-a-eq-ANY-2, then-peer-a+else-a-eq-ANY-2, else-peer-a}

-- what the tests came to: source, board and tag
module _ (c : Joined-peer-a) where
  abbrev x : Sides
  x = message_beside (sheet_in c.args.s.now) c.args.a c.args.m

  source : c.if-a-eq-ANY.value ≡ is_asked x.source x.sender
  source = elim c.if-a-eq-ANY.branch [
    | then-a-eq-ANY w ↦ read_any x.sender w.if-a-eq-ANY.true w.value-is
    | else-a-eq-ANY w ↦ read_named w.if-a-eq-ANY.false
        (w.rank_at.ensures.is ∙ c.requires.0.tables.rank_is c.args.m c.requires.1) w.value-is
  ]

  board : c.if-a-rank_at.value ≡ (is_asked x.source x.sender && eqb x.destination x.board)
  board = elim c.if-a-rank_at.branch [
    | then-a-rank_at w ↦ and_then (sym source ∙ w.if-a-rank_at.true) (w.value-is ∙ ap (λ (p : ℕ). eqb p x.board) w.peer.ensures.is)
    | else-a-rank_at w ↦ and_stop _ (sym source ∙ w.if-a-rank_at.false) (w.value-is ∙ source)
  ]

  tag : c.if-peer-a.value ≡ ((is_asked x.source x.sender && eqb x.destination x.board) && is_asked x.tag x.mark)
  tag = elim c.if-peer-a.branch [
    | then-peer-a+then-a-eq-ANY-2 w ↦ and_then (sym board ∙ w.if-peer-a.true) (read_any x.mark w.if-a-eq-ANY-2.true w.value-is)
    | then-peer-a+else-a-eq-ANY-2 w ↦ and_then (sym board ∙ w.if-peer-a.true) (read_named w.if-a-eq-ANY-2.false w.tag.ensures.is w.value-is)
    | else-peer-a w ↦ and_stop _ (sym board ∙ w.if-peer-a.false) (w.value-is ∙ board)
  ]

pub returns-then-a-tag : goal.returns-then-a-tag
returns-then-a-tag c =
    let z = (goal.at.returns-then-a-tag c).Joined-peer-a in
    and_then (sym (tag z) ∙ c.if-a-tag.true) (ap (λ (n : ℕ). eqb n c.args.a.communicator) c.comm.ensures.is) ∙ message_order (x z)

pub returns-else-a-tag : goal.returns-else-a-tag
returns-else-a-tag c =
    let z = (goal.at.returns-else-a-tag c).Joined-peer-a in
    and_stop _ (sym (tag z) ∙ c.if-a-tag.false) (tag z) ∙ message_order (x z)
