-- Two neighbouring able steps exchanged, for whole orders, on any sheet where the exchange is harmless. The laws about exchanged
-- steps that ask less of the steps, or more of the sheet, cite this one (SwapAnySource, SwapSame).
--   swap_general
-- Assumes nothing.
use Rattle.std.specs.Prelude.{◌≡◌, ◌≢◌, true, List, ◌∷◌, ◌++◌, length}
use Rattle.std.proofs.Math.Path.{sym, ap, subst}
use Rattle.std.proofs.Common.{◌∙◌}
use Prim.Native.Nat.{ℕ, suc}
use Rattle.rules.specs.Sheet.{Sheet, sheet_in}
use Rattle.rules.specs.Job.{Job}
use Rattle.rules.specs.Step.{able, step}
use Rattle.rules.specs.Order.{Followed, follow, follow_from}
use Rattle.rules.specs.Claims.{accepts, left_by, Alike}
use Rattle.promises.specs.Statements.{Lent}
use Rattle.promises.specs.ExchangeStatements.{Harmless, SwapGeneral}
use Rattle.invariant.specs.sheet.Valid.{Valid}
use Rattle.invariant.specs.deliveries.Laws.{DeliveryLaws}
use Rattle.invariant.specs.deliveries.Commute.{delivery_laws}
use Rattle.invariant.specs.Invariant.{Reached}
use Rattle.promises.proofs.compare.WholeOrders.{LeftSamePositions, positions_follow, follow_join, follow_two}
use Rattle.promises.proofs.compare.Exchange.{able_p, able_q, swap_same_positions}
use Rattle.promises.proofs.compare.SamePositionsAlike.{positions_alike}
use Rattle.promises.proofs.claims.OneJob.{lent_valid, lent_reached}

module _ {bs i : List ℕ} (h : Lent bs i) (before : List ℕ) (p q : ℕ) (d : p ≢ q) where
  abbrev s : Sheet
  s = sheet_in bs

  abbrev x : Job
  x = left_by s before i

  g : Valid s
  g = lent_valid h

  A : DeliveryLaws s
  A = delivery_laws s g

  X : Reached s i x
  X = lent_reached h before

  -- what follows two able steps after the beginning
  two_more : (accepted : accepts s before i ≡ true) (j k : ℕ) (after : List ℕ) → able s x j ≡ true →
      able s (step s j x) k ≡ true →
      follow s (before ++ (j ∷ k ∷ after)) i ≡ follow_from (suc (suc (length before))) s after (step s k (step s j x))
  two_more accepted j k after a b = follow_join s before (j ∷ k ∷ after) i accepted ∙ follow_two s (length before) j k after x a b

  exchanged : (after : List ℕ) → accepts s before i ≡ true → able s x p ≡ true → able s x q ≡ true → Harmless s x p q →
      ((follow s (before ++ (p ∷ q ∷ after)) i).refused_at ≡ (follow s (before ++ (q ∷ p ∷ after)) i).refused_at)
      × Alike s (left_by s (before ++ (p ∷ q ∷ after)) i) (left_by s (before ++ (q ∷ p ∷ after)) i)
  unfolding left_by
  exchanged after accepted a b H = (
    ap (λ (f : Followed). f.refused_at) one ∙ L.refused ∙ sym (ap (λ (f : Followed). f.refused_at) other),
    subst (λ (f : Followed). Alike s f.left (follow s (before ++ (q ∷ p ∷ after)) i).left) (sym one)
        (subst (λ (f : Followed). Alike s (follow_from n s after (step s q (step s p x))).left f.left) (sym other)
        (positions_alike g L.same_positions)),
  )
    where
      n : ℕ
      n = suc (suc (length before))

      one : follow s (before ++ (p ∷ q ∷ after)) i ≡ follow_from n s after (step s q (step s p x))
      one = two_more accepted p q after a (able_q g A h.room X p q d a b H)

      other : follow s (before ++ (q ∷ p ∷ after)) i ≡ follow_from n s after (step s p (step s q x))
      other = two_more accepted q p after b (able_p g A h.room X p q d a b H)

      L : LeftSamePositions s i i (follow_from n s after (step s q (step s p x))) (follow_from n s after (step s p (step s q x)))
      L = positions_follow g A h.room h.room n after (swap_same_positions g A h.room X p q d a b H)

pub swap_general : SwapGeneral
unfolding SwapGeneral
swap_general bs i before after p q h accepted d a b H = exchanged h before p q d after accepted a b H
