-- Sets with one member.
use Rattle.std.proofs.Common.{◌≡◌, ◌≢◌, ℕ, zero, suc, ◌+◌, ◌-◌, ◌<◌, ◌≤◌, arith, ap, sym, ◌∙◌, subst, ⊎_elim, eq-eqb, eqb-true}
use Rattle.std.specs.Prelude.{nat_eq, not, ◌&&◌, cond}
use Rattle.std.specs.FinSet as set
use Rattle.std.specs.Ordering.{nat_cmp}
use Rattle.std.specs.Cmp.{nat_cmp_total, unsigned_tied}
use Rattle.staat_model.specs.declared.set.PartSet.{PartSet}
use Rattle.staat_model.specs.Sets.{Has, IsSubset, single}
use Rattle.staat_model.proofs.SetMembers.{has-single, has-empty, not_from}
use Rattle.staat_model.proofs.SetWords.{same_members}
use Rattle.staat_vec.proofs.Naturals.{lt_or_le, same_or}
use Rattle.staat_vec.proofs.Truth.{and_split, not_true_clash}
use Rattle.std.proofs.lemmas.Bool.{cond-false, false_from_ne_true}

has-remove : (s : PartSet) (p q : ℕ) → q ≢ p → Has s q → Has (set.remove s p) q
has-remove s p q ne h =
    set.contains-remove nat_cmp_total s p q ∙ ap (λ b. not b && set.contains s q) (unsigned_tied q p) ∙ (λ i. not_from (nat_eq q p) (λ t. ne (eqb-true q p t)) i && h i)

pub len_remove : (s : PartSet) (p : ℕ) → Has s p → set.len (set.remove s p) ≡ set.len s - 1
len_remove s p h = set.len-remove nat_cmp_total s p ∙ ap (λ b. cond b (set.len s - 1) (set.len s)) h

pub one_within : (s : PartSet) (p : ℕ) → Has s p → set.len s ≤ 1 → IsSubset s (single p)
one_within s p h le q m = ⊎_elim (λ e. (has-single p q).1 e)
    (λ ne. let z : set.len (set.remove s p) ≡ 0 = (let r : set.len (set.remove s p) ≡ set.len s - 1 = len_remove s p h in omega arith) in
    absurd (has-empty q (subst (λ t. Has t q) (set.empty_of_len (set.remove s p) z) (has-remove s p q ne m))))
    (same_or q p)

pub one_is : (s : PartSet) (p : ℕ) → Has s p → IsSubset s (single p) → s ≡ single p
one_is s p h within = same_members s (single p) within (λ q m. subst (Has s) (sym ((has-single p q).0 m)) h)

pub many : (s : PartSet) (p : ℕ) → Has s p → (IsSubset s (single p) → ⊥) → 1 < set.len s
many s p h other = ⊎_elim (λ lt. lt) (λ le. absurd (other (one_within s p h le))) (lt_or_le 1 (set.len s))

has-of-remove : (s : PartSet) (p q : ℕ) → Has (set.remove s p) q → (q ≢ p) × Has s q
has-of-remove s p q h =
    let t = and_split (not (nat_eq q p)) (set.contains s q) (sym (set.contains-remove nat_cmp_total s p q ∙ ap (λ b. not b && set.contains s q) (unsigned_tied q p)) ∙ h) in
    ((λ e. not_true_clash (nat_eq q p) t.0 (eq-eqb q p e)), t.1)

-- a set of numbers below n has at most n members
pub len_below : (n : ℕ) (s : PartSet) → ((q : ℕ) → Has s q → q < n) → set.len s ≤ n
len_below zero s small = let e : set.len s ≡ 0 = ap set.len (same_members s set.empty (λ q h. absurd (let lt : q < 0 = small q h in omega arith)) (λ q h. absurd (has-empty q h))) ∙ set.len-empty nat_cmp in omega arith
len_below (suc n) s small =
    let rest : set.len (set.remove s n) ≤ n = len_below n (set.remove s n) (λ q h. let t = has-of-remove s n q h in let lt : q < suc n = small q t.1 in let ne : q ≢ n = t.0 in omega arith) in
    let e : set.len (set.remove s n) ≡ cond (set.contains s n) (set.len s - 1) (set.len s) = set.len-remove nat_cmp_total s n in
    grind (arith, e, rest)

-- one more member
pub len_more : (s : PartSet) (p : ℕ) → (Has s p → ⊥) → set.len (set.insert s p) ≡ set.len s + 1
len_more s p fresh = set.len-insert nat_cmp_total s p ∙ cond-false _ _ _ (false_from_ne_true (set.contains s p) fresh)

pub len-single : (p : ℕ) → set.len (single p) ≡ 1
len-single p = len_more set.empty p (has-empty p) ∙ ap (λ n. n + 1) (set.len-empty nat_cmp)
