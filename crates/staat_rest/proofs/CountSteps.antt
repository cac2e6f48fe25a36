-- How many nodes there are, by their names.
use Rattle.std.proofs.Common.{◌⊎◌, ℕ, zero, suc, ◌+◌, ◌<◌, ◌≤◌, List, inl, inr, ⊎_elim, sym, subst, arith}
use Rattle.std.proofs.lemmas.Bool.{cases_eq}
use Rattle.staat_holds.specs.Chains.{IsName}
use Rattle.staat_rest.proofs.NameSteps.{part_or}

-- one where p is the name of a node
name_worth : List ℕ → ℕ → ℕ
name_worth names p = ⊎_elim {C = ℕ} (λ h. 1) (λ h. 0) (part_or names p p)

-- how many of the first numbers, so many, are names of nodes
pub names_below : List ℕ → ℕ → ℕ
names_below names zero = 0
names_below names (suc k) = names_below names k + name_worth names k

worth_le : (a b : List ℕ) (p : ℕ) → (IsName b p → IsName a p) → name_worth b p ≤ name_worth a p
unfolding name_worth
worth_le a b p back = go (part_or b p p) (part_or a p p)
  where
    go : (x : IsName b p ⊎ (IsName b p → ⊥)) (y : IsName a p ⊎ (IsName a p → ⊥)) → ⊎_elim {C = ℕ} (λ h. 1) (λ h. 0) x ≤ ⊎_elim {C = ℕ} (λ h. 1) (λ h. 0) y
    go (inl h) (inl g) = omega arith
    go (inl h) (inr off) = absurd (off (back h))
    go (inr off) y = omega arith

worth_less : (a b : List ℕ) (p : ℕ) → IsName a p → (IsName b p → ⊥) → name_worth b p < name_worth a p
unfolding name_worth
worth_less a b p named lost = go (part_or b p p) (part_or a p p)
  where
    go : (x : IsName b p ⊎ (IsName b p → ⊥)) (y : IsName a p ⊎ (IsName a p → ⊥)) → ⊎_elim {C = ℕ} (λ h. 1) (λ h. 0) x < ⊎_elim {C = ℕ} (λ h. 1) (λ h. 0) y
    go (inl h) y = absurd (lost h)
    go (inr off) (inl g) = omega arith
    go (inr off) (inr none) = absurd (none named)

names_le : (a b : List ℕ) (k : ℕ) → ((p : ℕ) → IsName b p → IsName a p) → names_below b k ≤ names_below a k
unfolding names_below
names_le a b zero back = omega arith
names_le a b (suc k) back = let rest = names_le a b k back in let one = worth_le a b k (back k) in omega (arith, rest, one)

-- where one name is lost there are fewer
pub names_less : (a b : List ℕ) (k q : ℕ) → ((p : ℕ) → IsName b p → IsName a p) → q < k → IsName a q → (IsName b q → ⊥) → names_below b k < names_below a k
unfolding names_below
names_less a b zero q back lt named lost = absurd (omega (arith, lt))
names_less a b (suc k) q back lt named lost = ⊎_elim {C = names_below b (suc k) < names_below a (suc k)}
    (λ e. let rest = names_le a b k back in let one = worth_less a b k (subst (IsName a) e named) (λ h. lost (subst (IsName b) (sym e) h)) in omega (arith, rest, one))
    (λ ne. let rest = names_less a b k q back (omega (arith, lt, ne)) named lost in let one = worth_le a b k (back k) in omega (arith, rest, one))
    (cases_eq q k)
