-- The loop that adds up what the engine's searches find in a job comes to the definition's sum (specs/Jobs), and each thing that is
-- not so to 0. Assumes nothing.
use Rattle.std.specs.Prelude.{Option as Found, None, Some, unwrap_or, ◌≡◌, Bool, ◌&&◌, cond, List, eqb, leb, replicate}
use Rattle.std.proofs.Math.Path.{refl, sym, ap, subst}
use Rattle.std.proofs.Common.{◌∙◌, add-zero, zero-add, eq-eqb, ne_eqb, le-leb}
use Rattle.std.proofs.Math.Bool.{true, false}
use Rattle.std.proofs.Math.Option.{Option}
use Prim.Native.Nat.{ℕ, zero, suc, ◌+◌, ◌-◌, ◌<◌, ◌≤◌}
use native.Mathlib.Omega.{arith}
use Rattle.std.proofs.lemmas.Bool.{lt-leb}
use Rattle.rules.specs.Limits.{scratch_size}
use Rattle.rules.specs.Sheet.{Sheet, sheet_in, N_of, two, inbox_total}
use Rattle.rules.specs.Job.{Job}
use Rattle.rules.specs.Step.{fits_with}
use Rattle.rules.specs.Order.{Followed, followed, follow}
use Rattle.rules.specs.Refusal.{sheet_refusal}
use Rattle.laws.specs.Tests.{cond_true, cond_false}
use Rattle.words.specs.Tab.{tab}
use Rattle.state.specs.declared.Control.{Control}
use Rattle.state.specs.declared.Queue.TheVariants.{Messages}
use Rattle.state.specs.Layout.{word_at}
use Rattle.state.specs.Queues.{base_of, count_of, list_of}
use Rattle.state.specs.Decoded.{words_in}
use Rattle.state.specs.Decodes.{Decodes}
use Rattle.state.proofs.Decodes.{list_are}
use Rattle.search.specs.Search.{First, pair_fits}
use Rattle.searches.specs.Jobs.{place_by, sum_places, places_in_job, searched_places}

-- what a search over a list in scratch has found is that place
module _ (f : ℕ → Bool) (g : ℕ → ℕ) where
  tab_place : (i n k : ℕ) → k ≤ n → ((j : ℕ) → j < k → f (g (i + j)) ≡ false) → (k < n → f (g (i + k)) ≡ true) → k ≡ place_by f (tab g i n)
  unfolding place_by tab
  tab_place i zero k l b t = omega arith
  tab_place i (suc n) zero l b t =
      sym (cond_true (f (g i)) 0 (suc (place_by f (tab g (suc i) n))) (subst (λ (m : ℕ). f (g m) ≡ true) (add-zero i) (t (omega arith))))
  tab_place i (suc n) (suc k) l b t =
      ap suc (tab_place (suc i) n k (omega arith) (λ j h. subst (λ (m : ℕ). f (g m) ≡ false) (omega arith) (b (suc j) (omega arith)))
      (λ h. subst (λ (m : ℕ). f (g m) ≡ true) (omega arith) (t (omega arith))))
      ∙ sym (cond_false (f (g i)) 0 (suc (place_by f (tab g (suc i) n))) (subst (λ (m : ℕ). f (g m) ≡ false) (add-zero i) (b 0 (omega arith))))

pub first_place_by : (f : ℕ → Bool) (c : List ℕ) (base count : ℕ) (o : Found ℕ) → First (λ j. f (two c (word_at base j))) count o
    → unwrap_or o count ≡ place_by f (words_in c base count)
unfolding words_in
first_place_by f c base count None h =
    let g : ℕ → ℕ = λ j. two c (word_at base j) in
    tab_place f g 0 count count (omega arith) (λ j q. subst (λ (m : ℕ). f (g m) ≡ false) (sym (zero-add j)) (h j q)) (λ q. absurd (omega arith))
first_place_by f c base count (Some k) h =
    let g : ℕ → ℕ = λ j. two c (word_at base j) in
    tab_place f g 0 count k (omega (arith, h.inside)) (λ j q. subst (λ (m : ℕ). f (g m) ≡ false) (sym (zero-add j)) (h.before j q))
    (λ q. subst (λ (m : ℕ). f (g m) ≡ true) (sym (zero-add k)) h.found)

-- what is found is one of those that wait, or their number
pub first_within : (f : ℕ → Bool) (count : ℕ) (o : Found ℕ) → First f count o → unwrap_or o count ≤ count
first_within f count None h = omega arith
first_within f count (Some k) h = omega (arith, h.inside)

places_step : (s : Sheet) (ms : List ℕ) (i n : ℕ) → sum_places s ms i (suc n) ≡ place_by (λ m. fits_with s m i) ms + sum_places s ms (suc i) n
unfolding sum_places
places_step s ms i n = refl

places_zero : (s : Sheet) (ms : List ℕ) (i : ℕ) → sum_places s ms i 0 ≡ 0
unfolding sum_places
places_zero s ms i = refl

-- ONE AFTER ANOTHER: what the next receive finds is added, and the rest is left to add
pub places_none : (s : Sheet) (ms : List ℕ) (i n : ℕ) → 0 + sum_places s ms (i + 0) (n - 0) ≡ sum_places s ms i n
places_none s ms i n =
    let a : n - 0 ≡ n = omega arith in
    let e = ap (λ (m : ℕ). sum_places s ms (i + 0) m) a in
    let f = ap (λ (k : ℕ). sum_places s ms k n) (add-zero i) in
    omega (arith, e, f)

pub places_more : (s : Sheet) (ms : List ℕ) (i n j total k : ℕ) → j < n → total + sum_places s ms (i + j) (n - j) ≡ sum_places s ms i n →
    k ≡ place_by (λ m. fits_with s m (i + j)) ms → total + k + sum_places s ms (i + (j + 1)) (n - (j + 1)) ≡ sum_places s ms i n
places_more s ms i n j total k l e p =
    let a : n - j ≡ suc (n - (j + 1)) = omega (arith, l) in
    let b : i + (j + 1) ≡ suc (i + j) = omega arith in
    let f = places_step s ms (i + j) (n - (j + 1)) in
    let g = ap (λ (m : ℕ). sum_places s ms (i + j) m) a in
    let h = ap (λ (m : ℕ). sum_places s ms m (n - (j + 1))) b in
    omega (arith, e, f, g, h, p)

pub places_all : (s : Sheet) (ms : List ℕ) (i n j total : ℕ) → n ≤ j → total + sum_places s ms (i + j) (n - j) ≡ sum_places s ms i n → total ≡ sum_places s ms i n
places_all s ms i n j total l e =
    let a : n - j ≡ 0 = omega (arith, l) in
    let g = ap (λ (m : ℕ). sum_places s ms (i + j) m) a in
    omega (arith, e, g, places_zero s ms (i + j))

-- what a search over scratch has found, of the pending messages
pub found_place : (s : Sheet) (c : List ℕ) (count i : ℕ) (o : Found ℕ) → First (λ j. pair_fits Messages s i (two c (word_at (base_of Messages) j))) count o →
    unwrap_or o count ≡ place_by (λ m. fits_with s m i) (words_in c (base_of Messages) count)
unfolding pair_fits
found_place s c count i o h = first_place_by (λ m. fits_with s m i) c (base_of Messages) count o h

-- THE ANSWER: of the job that the order led to, and where nothing is asked
pub found_in_job : (bs order c : List ℕ) (t : Control) (x : Job) → Decodes (sheet_in bs) c t x → (i n r : ℕ) (o : Option ℕ) →
    follow (sheet_in bs) order (replicate (inbox_total (sheet_in bs)) 0) ≡ followed o x →
    r ≡ sum_places (sheet_in bs) (words_in c (base_of Messages) (count_of Messages t)) i n → r ≡ places_in_job bs order i n
unfolding places_in_job list_of followed
found_in_job bs order c t x d i n r o e h =
    h ∙ ap (λ (ms : List ℕ). sum_places (sheet_in bs) ms i n) (sym (list_are (sheet_in bs) c t x d Messages))
    ∙ ap (λ (y : Followed). sum_places (sheet_in bs) y.left.messages i n) (sym e)

module _ (bs order : List ℕ) (room i n : ℕ) where
  -- the answer, by the three tests
  answer : (a b c : Bool) → ℕ
  answer a b c = cond (a && (b && c)) (places_in_job bs order i n) 0

  told : (a b c : Bool) → eqb (sheet_refusal bs).number 0 ≡ a → leb scratch_size room ≡ b → leb (i + n) (N_of (sheet_in bs)) ≡ c → searched_places bs order room i n ≡ answer a b c
  unfolding searched_places answer
  told a b c p q r = rw (p, q, r) refl

  pub sheet_refused : ((sheet_refusal bs).number ≡ 0 → ⊥) → 0 ≡ searched_places bs order room i n
  unfolding answer
  sheet_refused h = sym (told false (leb scratch_size room) (leb (i + n) (N_of (sheet_in bs))) (ne_eqb (sheet_refusal bs).number 0 h) refl refl)

  module _ (z : (sheet_refusal bs).number ≡ 0) where
    pub scratch_short : room < scratch_size → 0 ≡ searched_places bs order room i n
    unfolding answer
    scratch_short h = sym (told true false (leb (i + n) (N_of (sheet_in bs))) (eq-eqb (sheet_refusal bs).number 0 z) (lt-leb scratch_size room h) refl)

    module _ (l : scratch_size ≤ room) where
      pub no_operations : N_of (sheet_in bs) < i + n → 0 ≡ searched_places bs order room i n
      unfolding answer
      no_operations h = sym (told true true false (eq-eqb (sheet_refusal bs).number 0 z) (le-leb scratch_size room l) (lt-leb (i + n) (N_of (sheet_in bs)) h))

      pub places_told : {r : ℕ} → i + n ≤ N_of (sheet_in bs) → r ≡ places_in_job bs order i n → r ≡ searched_places bs order room i n
      unfolding answer
      places_told h e = e ∙ sym (told true true true (eq-eqb (sheet_refusal bs).number 0 z) (le-leb scratch_size room l) (le-leb (i + n) (N_of (sheet_in bs)) h))
