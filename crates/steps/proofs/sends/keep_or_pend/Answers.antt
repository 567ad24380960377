-- `steps::sends::keep_or_pend` meets its contract: kept where there is a room and it fits there, else pending. Assumes nothing.
use Rattle.std.proofs.Common.{List, subst, sym, ℕ, ◌∙◌}
use Rattle.rules.specs.Sheet.{sheet_in}
use Rattle.rules.specs.Step.{pend_message}
use Rattle.state.specs.Queues.{list_of, with_list, pended}
use Rattle.account.specs.Stores.{stands_for}
use Rattle.simulation.specs.Simulates.{Holds, simulates_as, simulates_told, simulates_from}
use Rattle.steps.specs.Pairing.{Unentered}
use Rattle.steps.specs.Unmatched.{roomed_fits, roomed_full, roomed_not}
use Rattle.steps.specs.Pending.{kept_holds, refused_holds, kept_pends}
use Rattle.steps.proofs.sends.keep_or_pend.Goals as goal
use Rattle.steps.proofs.sends.keep_or_pend.Goals.{else-has_room-via-then-has_room+else-keep, else-has_room-via-else-has_room}

pub pend-requires : goal.pend-requires
pend-requires c = kept_holds c.keep.ensures c.if-keep.true c.requires

pub returns-then-keep : goal.returns-then-keep
unfolding stands_for pended pend_message with_list list_of
returns-then-keep c =
    let a = c.args in
    let k = c.keep.ensures in
    let fits = c.if-keep.true in
    simulates_told (λ x d o. roomed_fits (sheet_in a.s.now) a.r a.i x (sym c.has_room.ensures ∙ c.if-has_room.true) (sym (k.says x d o) ∙ fits))
    (kept_pends k fits c.pend.ensures)

pub pend-requires-2 : goal.pend-requires-2
pend-requires-2 c =
    let a = c.args in
    let held : List ℕ → Type 0 = λ b. Holds a.s.now b a.t (Unentered a.r a.i) in
    elim c.else-has_room.branch [
      | else-has_room-via-then-has_room+else-keep w ↦ subst held (sym w.c-is) (refused_holds w.keep.ensures w.if-keep.false c.requires)
      | else-has_room-via-else-has_room w ↦ subst held (sym w.c-is) c.requires
    ]

pub returns : goal.returns
unfolding stands_for pended pend_message with_list list_of
returns c =
    let a = c.args in
    elim c.else-has_room.branch [
      | else-has_room-via-then-has_room+else-keep w ↦
          simulates_told (λ x d o. roomed_full (sheet_in a.s.now) a.r a.i x (sym c.has_room.ensures ∙ w.if-has_room.true) (sym (w.keep.ensures.says x d o) ∙ w.if-keep.false))
          (simulates_from (w.c-is ∙ w.keep.ensures.refused w.if-keep.false) c.pend-2.ensures)
      | else-has_room-via-else-has_room w ↦
          simulates_as (λ x o. roomed_not (sheet_in a.s.now) a.r a.i x (sym c.has_room.ensures ∙ w.if-has_room.false))
          (simulates_from w.c-is c.pend-2.ensures)
    ]
