-- Waiting lists: members, order, the first that passes a test, removal. A waiting list is described by one record, `Holds`:
-- which numbers are in it, and in which order.
--   In v l             v is a member of l
--   Sorted R l         R holds between each member and every later one
--   Holds R P l        l holds exactly the numbers with P, sorted by R
--   holds_more         one more at the end
--   holds_less         the first v taken out
--   holds_same         the same list under other words
--   first_by_none, first_by_some   what a search found; holds_found: of two lists with the same members, in both or in neither
-- Assumes nothing.
use Rattle.std.specs.Prelude.{◌≡◌, refl, ◌⊎◌, ◌≢◌, Bool, true, false, cond, List, [], ◌∷◌, ◌++◌, ℕ, eqb}
use Rattle.std.proofs.Common.{sym, ap, subst, ◌∙◌, inl, inr, arith, eqb-true}
use Rattle.std.proofs.Math.Option.{Option, none, some}
use Rattle.std.proofs.lemmas.Bool.{eqb-false}
use Rattle.rules.specs.Step.{first_by, is_none, without}

abbrev pub In : ℕ → List ℕ → Type 0
In v [] = ⊥
In v (x ∷ xs) = (v ≡ x) ⊎ In v xs

abbrev pub Sorted : (ℕ → ℕ → Type 0) → List ℕ → Type 0
Sorted R [] = Unit {0}
Sorted R (x ∷ xs) = ((y : ℕ) → In y xs → R x y) × Sorted R xs

pub record Holds (R : ℕ → ℕ → Type 0) (P : ℕ → Type 0) (l : List ℕ) : Type 0 where
  pub sound : (v : ℕ) → In v l → P v
  pub whole : (v : ℕ) → P v → In v l
  pub sorted : Sorted R l

-- ONE MORE AT THE END
in_end : (v : ℕ) (l : List ℕ) → In v (l ++ (v ∷ []))
in_end v [] = inl refl
in_end v (x ∷ xs) = inr (in_end v xs)

in_more : (v i : ℕ) (l : List ℕ) → In v l → In v (l ++ (i ∷ []))
in_more v i [] h = absurd h
in_more v i (x ∷ xs) (inl e) = inl e
in_more v i (x ∷ xs) (inr h) = inr (in_more v i xs h)

in_split : (v i : ℕ) (l : List ℕ) → In v (l ++ (i ∷ [])) → In v l ⊎ (v ≡ i)
in_split v i [] (inl e) = inr e
in_split v i [] (inr h) = absurd h
in_split v i (x ∷ xs) (inl e) = inl (inl e)
in_split v i (x ∷ xs) (inr h) = go (in_split v i xs h)
  where
    go : In v xs ⊎ (v ≡ i) → In v (x ∷ xs) ⊎ (v ≡ i)
    go (inl k) = inl (inr k)
    go (inr e) = inr e

sorted_more : (R : ℕ → ℕ → Type 0) (i : ℕ) (l : List ℕ) → Sorted R l → ((v : ℕ) → In v l → R v i) → Sorted R (l ++ (i ∷ []))
sorted_more R i [] h late = (λ y n. absurd n, tt)
sorted_more R i (x ∷ xs) h late =
    (λ y n. go y (in_split y i xs n), sorted_more R i xs h.1 (λ v k. late v (inr k)))
  where
    go : (y : ℕ) → In y xs ⊎ (y ≡ i) → R x y
    go y (inl k) = h.0 y k
    go y (inr e) = subst (λ (z : ℕ). R x z) (sym e) (late x (inl refl))

pub holds_more : {R : ℕ → ℕ → Type 0} {P Q : ℕ → Type 0} {l : List ℕ} (i : ℕ) → Holds R P l → ((v : ℕ) → P v → R v i) →
    ((v : ℕ) → P v → Q v) → Q i → ((v : ℕ) → Q v → P v ⊎ (v ≡ i)) → Holds R Q (l ++ (i ∷ []))
holds_more {R} {P} {Q} {l} i h late keep new only =
    record {
      sound = λ v k. snd v (in_split v i l k);
      whole = λ v q. whl v (only v q);
      sorted = sorted_more R i l h.sorted (λ v k. late v (h.sound v k));
    }
  where
    snd : (v : ℕ) → In v l ⊎ (v ≡ i) → Q v
    snd v (inl k) = keep v (h.sound v k)
    snd v (inr e) = subst Q (sym e) new

    whl : (v : ℕ) → P v ⊎ (v ≡ i) → In v (l ++ (i ∷ []))
    whl v (inl p) = in_more v i l (h.whole v p)
    whl v (inr e) = subst (λ (z : ℕ). In z (l ++ (i ∷ []))) (sym e) (in_end i l)

-- THE FIRST v TAKEN OUT; a list sorted by an order that holds of no number and itself has no member twice
in_without : (v u : ℕ) (l : List ℕ) → In v (without u l) → In v l
unfolding without
in_without v u [] h = h
in_without v u (x ∷ xs) h = go (eqb x u) (in_without v u xs) h
  where
    go : (b : Bool) → (In v (without u xs) → In v xs) → In v (cond b xs (x ∷ without u xs)) → In v (x ∷ xs)
    go true before h = inr h
    go false before (inl e) = inl e
    go false before (inr h) = inr (before h)

without_other : (v u : ℕ) (l : List ℕ) → In v l → v ≢ u → In v (without u l)
unfolding without
without_other v u [] h d = absurd h
without_other v u (x ∷ xs) h d = go (eqb x u) refl h (λ k. without_other v u xs k d)
  where
    go : (b : Bool) → eqb x u ≡ b → In v (x ∷ xs) → (In v xs → In v (without u xs)) → In v (cond b xs (x ∷ without u xs))
    go true e (inl q) before = absurd (d (q ∙ eqb-true x u e))
    go true e (inr k) before = k
    go false e (inl q) before = inl q
    go false e (inr k) before = inr (before k)

without_same : (R : ℕ → ℕ → Type 0) → ((v : ℕ) → R v v → ⊥) → (u : ℕ) (l : List ℕ) → Sorted R l → In u (without u l) → ⊥
unfolding without
without_same R irr u [] h k = k
without_same R irr u (x ∷ xs) h k = go (eqb x u) refl (without_same R irr u xs h.1) k
  where
    go : (b : Bool) → eqb x u ≡ b → (In u (without u xs) → ⊥) → In u (cond b xs (x ∷ without u xs)) → ⊥
    go true e before k = irr u (subst (λ (z : ℕ). R z u) (eqb-true x u e) (h.0 u k))
    go false e before (inl q) = eqb-false x u e (sym q)
    go false e before (inr k) = before k

sorted_less : (R : ℕ → ℕ → Type 0) (u : ℕ) (l : List ℕ) → Sorted R l → Sorted R (without u l)
unfolding without
sorted_less R u [] h = tt
sorted_less R u (x ∷ xs) h = go (eqb x u) (sorted_less R u xs h.1)
  where
    go : (b : Bool) → Sorted R (without u xs) → Sorted R (cond b xs (x ∷ without u xs))
    go true before = h.1
    go false before = (λ y k. h.0 y (in_without y u xs k), before)

pub holds_less : {R : ℕ → ℕ → Type 0} {P Q : ℕ → Type 0} {l : List ℕ} (u : ℕ) → Holds R P l → ((v : ℕ) → R v v → ⊥) →
    ((v : ℕ) → P v → v ≢ u → Q v) → ((v : ℕ) → Q v → P v) → (Q u → ⊥) → Holds R Q (without u l)
holds_less {R} {P} {Q} {l} u h irr keep only out =
    record {
      sound =
          λ v k. keep v (h.sound v (in_without v u l k))
          (λ e. without_same R irr u l h.sorted (subst (λ (z : ℕ). In z (without u l)) e k));
      whole = λ v q. without_other v u l (h.whole v (only v q)) (λ e. out (subst Q e q));
      sorted = sorted_less R u l h.sorted;
    }

-- what is not in a list is not taken out of it
pub without_none : (u : ℕ) (l : List ℕ) → (In u l → ⊥) → without u l ≡ l
unfolding without
without_none u [] h = refl
without_none u (x ∷ xs) h = go (eqb x u) refl (without_none u xs (λ k. h (inr k)))
  where
    go : (b : Bool) → eqb x u ≡ b → without u xs ≡ xs → cond b xs (x ∷ without u xs) ≡ x ∷ xs
    go true e before = absurd (h (inl (sym (eqb-true x u e))))
    go false e before = ap {B = List ℕ} (λ l. x ∷ l) before

-- THE SAME LIST under other words
sorted_same : (R S : ℕ → ℕ → Type 0) (l : List ℕ) → ((v u : ℕ) → In v l → In u l → R v u → S v u) → Sorted R l → Sorted S l
sorted_same R S [] f h = tt
sorted_same R S (x ∷ xs) f h = (
  λ y k. f x y (inl refl) (inr k) (h.0 y k),
  sorted_same R S xs (λ v u a b. f v u (inr a) (inr b))
      h.1,
)

pub holds_same : {R S : ℕ → ℕ → Type 0} {P Q : ℕ → Type 0} {l : List ℕ} → Holds R P l → ((v u : ℕ) → P v → P u → R v u → S v u) →
    ((v : ℕ) → P v → Q v) → ((v : ℕ) → Q v → P v) → Holds S Q l
holds_same {R} {S} {P} {Q} {l} h order to from =
    record {
      sound = λ v k. to v (h.sound v k);
      whole = λ v q. h.whole v (from v q);
      sorted = sorted_same R S l (λ v u a b. order v u (h.sound v a) (h.sound u b)) h.sorted;
    }

-- A SEARCH: none passes, or the one found passes and every other that does comes later
pub first_by_none : (f : ℕ → Bool) (l : List ℕ) → first_by f l ≡ none → (v : ℕ) → In v l → f v ≡ false
unfolding first_by
first_by_none f [] e v h = absurd h
first_by_none f (x ∷ xs) e v h = go (f x) refl e h (λ e. first_by_none f xs e v)
  where
    go : (b : Bool) → f x ≡ b → cond b (some x) (first_by f xs) ≡ none → In v (x ∷ xs) →
        (first_by f xs ≡ none → In v xs → f v ≡ false) → f v ≡ false
    go true t e h before = cc
    go false t e (inl q) before = ap f q ∙ t
    go false t e (inr k) before = before e k

pub record Found (R : ℕ → ℕ → Type 0) (f : ℕ → Bool) (l : List ℕ) (v : ℕ) : Type 0 where
  pub member : In v l
  pub passes : f v ≡ true
  pub earliest : (u : ℕ) → In u l → f u ≡ true → u ≢ v → R v u

pub first_by_some : {R : ℕ → ℕ → Type 0} (f : ℕ → Bool) (l : List ℕ) → Sorted R l → (v : ℕ) → first_by f l ≡ some v →
    Found R f l v
unfolding first_by
first_by_some {R} f [] s v e = absurd (let z : ◌≡◌ {A = ℕ} 0 1 = cc in omega arith)
first_by_some {R} f (x ∷ xs) s v e = go (f x) refl (first_by_some f xs s.1 v) e
  where
    go : (b : Bool) → f x ≡ b → (first_by f xs ≡ some v → Found R f xs v) → cond b (some x) (first_by f xs) ≡ some v →
        Found R f (x ∷ xs) v
    go true t before e =
        let q : x ≡ v = cc in
        record {
          member = inl (sym q);
          passes = cc;
          earliest = earliest_here q;
        }
      where
        earliest_here : x ≡ v → (u : ℕ) → In u (x ∷ xs) → f u ≡ true → u ≢ v → R v u
        earliest_here q u (inl k) p d = absurd (d (k ∙ q))
        earliest_here q u (inr k) p d = subst (λ (z : ℕ). R z u) q (s.0 u k)
    go false t before e =
        record {
          member = inr (before e).member;
          passes = (before e).passes;
          earliest = earliest_there (before e);
        }
      where
        earliest_there : Found R f xs v → (u : ℕ) → In u (x ∷ xs) → f u ≡ true → u ≢ v → R v u
        earliest_there b u (inl k) p d =
            absurd
            (let z : true ≡ false = sym p ∙ ap f k ∙ t in let y : ◌≡◌ {A = ℕ} 0 1 = cc in omega arith)
        earliest_there b u (inr k) p d = b.earliest u k p d

-- what passes in one of two lists with the same members passes in the other
found_in : {R S : ℕ → ℕ → Type 0} {P Q : ℕ → Type 0} {l m : List ℕ} (f : ℕ → Bool) → Holds R P l → Holds S Q m → ((v : ℕ) → P v → Q v) →
    (v : ℕ) → first_by f l ≡ some v → first_by f m ≡ none → ⊥
found_in {R} {S} {P} {Q} {l} {m} f h k to v e n =
    let F = first_by_some f l h.sorted v e in
    let z : true ≡ false = sym F.passes ∙ first_by_none f m n v (k.whole v (to v (h.sound v F.member))) in
    let y : ◌≡◌ {A = ℕ} 0 1 = cc in omega arith

pub holds_found : {R S : ℕ → ℕ → Type 0} {P Q : ℕ → Type 0} {l m : List ℕ} (f : ℕ → Bool) → Holds R P l → Holds S Q m →
    ((v : ℕ) → P v → Q v) → ((v : ℕ) → Q v → P v) → is_none (first_by f l) ≡ is_none (first_by f m)
unfolding is_none
holds_found {R} {S} {P} {Q} {l} {m} f h k to from = go (first_by f l) refl (first_by f m) refl
  where
    go : (a : Option ℕ) → first_by f l ≡ a → (b : Option ℕ) → first_by f m ≡ b → is_none a ≡ is_none b
    go none e none n = refl
    go none e (some v) n = absurd (found_in f k h from v n e)
    go (some v) e none n = absurd (found_in f h k to v e n)
    go (some v) e (some u) n = refl
