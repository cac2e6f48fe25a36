-- Finite sets of numbers: a search of the members, and how many there are.
use Rattle.std.proofs.Common.{◌≡◌, ◌⊎◌, ℕ, zero, suc, ◌+◌, ◌-◌, ◌<◌, ◌≤◌, Bool, true, false, List, [], ◌∷◌, arith, ap, sym, ◌∙◌, subst, refl, inl, inr, ⊎_elim, true≢false}
use Rattle.std.specs.Prelude.{◌&&◌, ◌||◌, nat_eq, not}
use Rattle.std.proofs.lemmas.Bool.Decides.{nat_tests}
use Rattle.std.specs.List.{list_any}
use Rattle.std.specs.Ordering.{nat_cmp, eq_by_cmp}
use Rattle.std.specs.Cmp.{nat_cmp_total, unsigned_tied}
use Rattle.std.specs.FinSet as set
use Rattle.staat_model.specs.declared.set.PartSet.{PartSet}
use Rattle.staat_model.specs.Sets.{Has, IsLeastOf, IsNonempty, IsSubset}
use Rattle.staat_model.proofs.SetMembers.{has-empty, has-insert}
use Rattle.staat_model.proofs.SetSizes.{len_more, len_remove}
use Rattle.staat_model.proofs.SetWords.{same_members}
use Rattle.staat_model.proofs.FreeSides.{member_or}
use Rattle.staat_model.proofs.RestrictLemmas.{nonempty_or}
use Rattle.staat_vec.proofs.Naturals.{le_from_not_lt}

-- ---- a search

abbrev Listed : List ℕ → ℕ → Type 0
Listed qs q = list_any (eq_by_cmp nat_cmp q) qs ≡ true

listed_here : (x : ℕ) (xs : List ℕ) → Listed (x ∷ xs) x
listed_here x xs = ap (λ b. b || list_any (eq_by_cmp nat_cmp x) xs) (unsigned_tied x x ∙ (let e : nat_eq x x ≡ true = grind (arith, nat_tests) in e))

listed_later : (x q : ℕ) (xs : List ℕ) → Listed xs q → Listed (x ∷ xs) q
listed_later x q xs h = go (eq_by_cmp nat_cmp q x)
  where
    go : (b : Bool) → (b || list_any (eq_by_cmp nat_cmp q) xs) ≡ true
    go true = refl
    go false = h

listed_cases : (x q : ℕ) (xs : List ℕ) → Listed (x ∷ xs) q → (q ≡ x) ⊎ Listed xs q
listed_cases x q xs h = go (nat_eq q x) refl (ap (λ b. b || list_any (eq_by_cmp nat_cmp q) xs) (sym (unsigned_tied q x)) ∙ h)
  where
    go : (b : Bool) → nat_eq q x ≡ b → (b || list_any (eq_by_cmp nat_cmp q) xs) ≡ true → (q ≡ x) ⊎ Listed xs q
    go true e h = let same : q ≡ x = grind (arith, nat_tests) in inl same
    go false e h = inr h

module _ (P : ℕ → Type 0) (dec : (q : ℕ) → P q ⊎ (P q → ⊥)) where
  some_listed : (qs : List ℕ) → ((q : ℕ) × Listed qs q × P q) ⊎ ((q : ℕ) → Listed qs q → P q → ⊥)
  some_listed [] = inr (λ q h p. true≢false (sym h))
  some_listed (x ∷ xs) = go (dec x) (some_listed xs)
    where
      go : P x ⊎ (P x → ⊥) → ((q : ℕ) × Listed xs q × P q) ⊎ ((q : ℕ) → Listed xs q → P q → ⊥) → ((q : ℕ) × Listed (x ∷ xs) q × P q) ⊎ ((q : ℕ) → Listed (x ∷ xs) q → P q → ⊥)
      go (inl p) rest = inl (x, listed_here x xs, p)
      go (inr out) (inl t) = inl (t.0, listed_later x t.0 xs t.1, t.2)
      go (inr out) (inr none) = inr (λ q h p. ⊎_elim (λ e. out (subst P e p)) (λ m. none q m p) (listed_cases x q xs h))

  -- some member has the property, or none has
  pub some_or_none : (s : PartSet) → ((q : ℕ) × Has s q × P q) ⊎ ((q : ℕ) → Has s q → P q → ⊥)
  some_or_none s = go (some_listed (set.items s))
    where
      go : ((q : ℕ) × Listed (set.items s) q × P q) ⊎ ((q : ℕ) → Listed (set.items s) q → P q → ⊥) → ((q : ℕ) × Has s q × P q) ⊎ ((q : ℕ) → Has s q → P q → ⊥)
      go (inl t) = inl (t.0, set.contains-items s t.0 ∙ t.1, t.2)
      go (inr none) = inr (λ q h p. none q (sym (set.contains-items s q) ∙ h) p)

-- ---- how many members

has-remove : (s : PartSet) (p q : ℕ) → (q ≡ p → ⊥) → Has s q → Has (set.remove s p) q
has-remove s p q ne h = set.contains-remove nat_cmp_total s p q ∙ ap (λ b. not b && set.contains s q) (unsigned_tied q p) ∙ go (nat_eq q p) (let e : nat_eq q p ≡ false = grind (arith, nat_tests) in e)
  where
    go : (b : Bool) → b ≡ false → (not b && set.contains s q) ≡ true
    go true e = absurd (true≢false e)
    go false e = h

has-of-remove : (s : PartSet) (p q : ℕ) → Has (set.remove s p) q → (q ≡ p → ⊥) × Has s q
has-of-remove s p q h = go (nat_eq q p) refl (sym (set.contains-remove nat_cmp_total s p q ∙ ap (λ b. not b && set.contains s q) (unsigned_tied q p)) ∙ h)
  where
    go : (b : Bool) → nat_eq q p ≡ b → (not b && set.contains s q) ≡ true → (q ≡ p → ⊥) × Has s q
    go true e h = absurd (true≢false (sym h))
    go false e h = let ne : q ≡ p → ⊥ = grind (arith, nat_tests) in (ne, h)

pub len_some : (s : PartSet) (p : ℕ) → Has s p → 0 < set.len s
len_some s p h = go (set.len s) refl
  where
    go : (n : ℕ) → set.len s ≡ n → 0 < set.len s
    go zero e = absurd (has-empty p (subst (λ (t : PartSet). Has t p) (set.empty_of_len s e) h))
    go (suc n) e = omega arith

len_within : (n : ℕ) (s t : PartSet) → set.len s ≤ n → IsSubset s t → set.len s ≤ set.len t
len_within zero s t le h = omega arith
len_within (suc n) s t le h = go (λ u v. len_within n u v) (nonempty_or s)
  where
    go : ((u v : PartSet) → set.len u ≤ n → IsSubset u v → set.len u ≤ set.len v) → IsNonempty s ⊎ ((q : ℕ) → Has s q → ⊥) → set.len s ≤ set.len t
    go fewer (inl (p, in_s)) =
        let es : set.len (set.remove s p) ≡ set.len s - 1 = len_remove s p in_s in
        let et : set.len (set.remove t p) ≡ set.len t - 1 = len_remove t p (h p in_s) in
        let ms : 0 < set.len s = len_some s p in_s in
        let mt : 0 < set.len t = len_some t p (h p in_s) in
        let small : set.len (set.remove s p) ≤ n = omega (arith, es, le) in
        let rest : set.len (set.remove s p) ≤ set.len (set.remove t p) = fewer (set.remove s p) (set.remove t p) small (λ q m. let r = has-of-remove s p q m in has-remove t p q r.0 (h q r.1)) in
        omega (arith, es, et, ms, mt, rest)
    go fewer (inr none) =
        let e : set.len s ≡ 0 = ap set.len (same_members s set.empty (λ q m. absurd (none q m)) (λ q m. absurd (has-empty q m))) ∙ set.len-empty nat_cmp in
        omega arith

-- a subset has no more members
pub len_subset : (s t : PartSet) → IsSubset s t → set.len s ≤ set.len t
len_subset s t h = len_within (set.len s) s t (omega arith) h

-- a subset that lacks a member has fewer
pub len_fewer : (s t : PartSet) (p : ℕ) → IsSubset s t → Has t p → (Has s p → ⊥) → set.len s < set.len t
len_fewer s t p h in_t out =
    let more : set.len (set.insert s p) ≡ set.len s + 1 = len_more s p out in
    let le : set.len (set.insert s p) ≤ set.len t = len_subset (set.insert s p) t (λ q m. ⊎_elim (λ e. subst (Has t) (sym e) in_t) (h q) ((has-insert s p q).0 m)) in
    omega (arith, more, le)

-- a subset with as many members is the set itself
pub same_by_len : (s t : PartSet) → IsSubset s t → set.len t ≤ set.len s → s ≡ t
same_by_len s t h le = same_members s t h (λ q in_t. ⊎_elim (λ m. m) (λ out. absurd (let lt : set.len s < set.len t = len_fewer s t q h in_t out in omega arith)) (member_or s q))

-- ---- the least member

lower_or : (p q : ℕ) → (q < p) ⊎ (q < p → ⊥)
lower_or p q = grind arith

least_step : (s : PartSet) (p : ℕ) → Has s p → ((q : ℕ) → Has s q → q < p → (r : ℕ) × IsLeastOf s r) → ((q : ℕ) × Has s q × (q < p)) ⊎ ((q : ℕ) → Has s q → q < p → ⊥) → (r : ℕ) × IsLeastOf s r
least_step s p h next (inl t) = next t.0 t.1 t.2
least_step s p h next (inr none) = (p, record { has = h; least = λ q m. le_from_not_lt p q (none q m) })

least_below : (n : ℕ) (s : PartSet) (p : ℕ) → Has s p → p < n → (r : ℕ) × IsLeastOf s r
least_below zero s p h lt = absurd (omega arith)
least_below (suc n) s p h lt = least_step s p h (λ q m l. least_below n s q m (omega (arith, l, lt))) (some_or_none (λ q. q < p) (lower_or p) s)

pub some_least : (s : PartSet) (p : ℕ) → Has s p → (r : ℕ) × IsLeastOf s r
some_least s p h = least_below (suc p) s p h (omega arith)
