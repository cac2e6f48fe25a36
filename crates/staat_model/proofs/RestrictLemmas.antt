-- A set that is stuck rules out every plan of a set that holds it.
use Rattle.std.proofs.Common.{◌≡◌, ◌≤◌, ◌⊎◌, ℕ, List, [], ◌∷◌, arith, ap, sym, ◌∙◌, subst, refl, inl, inr, ⊎_elim, true≢false}
use Rattle.std.specs.Prelude.{◌||◌}
use Rattle.std.proofs.lemmas.Bool.Decides.{nat_tests}
use Rattle.std.specs.Cmp.{unsigned_tied}
use Rattle.std.specs.Ordering.{nat_cmp, eq_by_cmp}
use Rattle.std.specs.List.{list_any}
use Rattle.std.specs.FinSet as set
use Rattle.staat_model.specs.declared.assembly.Part.{Part}
use Rattle.staat_model.specs.declared.set.PartSet.{PartSet}
use Rattle.staat_model.specs.Sets.{Has, single, IsNonempty, IsSubset, AreApart}
use Rattle.staat_model.specs.Removal.{IsFree}
use Rattle.staat_model.specs.Plans.{Plan, leaf, split, parts_of, IsGood, IsStuck}
use Rattle.staat_model.proofs.SetMembers.{has-difference, has-intersection, has-single, has-union}
use Rattle.staat_model.proofs.SetSizes.{len-single, len_below, one_is}
use Rattle.staat_model.proofs.FreeSides.{member_or}
use Rattle.staat_model.proofs.WholeLemmas.{moves_whole_lemma}

-- ---- what is in a set and what is not

-- a set has a member or is empty
pub nonempty_or : (s : PartSet) → IsNonempty s ⊎ ((p : ℕ) → Has s p → ⊥)
nonempty_or s = by_items (set.items s) refl
  where
    by_items : (ps : List ℕ) → set.items s ≡ ps → IsNonempty s ⊎ ((p : ℕ) → Has s p → ⊥)
    by_items [] is = inr (λ p has. true≢false (sym has ∙ set.contains-items s p ∙ ap (list_any (eq_by_cmp nat_cmp p)) is))
    by_items (x ∷ xs) is = inl (x, set.contains-items s x ∙ ap (list_any (eq_by_cmp nat_cmp x)) is ∙ ap (λ b. b || list_any (eq_by_cmp nat_cmp x) xs) (unsigned_tied x x) ∙ grind (arith, nat_tests))

pub rest_within : (w s : PartSet) → IsSubset (set.difference w s) w
rest_within w s p h = ((has-difference w s p).0 h).0

pub rest_apart : (w s : PartSet) → AreApart s (set.difference w s)
rest_apart w s p in_s h = ((has-difference w s p).0 h).1 in_s

-- within the one part there is no set of two
no_two : (a : PartSet) (p : ℕ) → IsSubset a (single p) → 2 ≤ set.len a → ⊥
no_two a p within two = elim (member_or a p) [
  | inl has ↦ (let one : set.len a ≡ 1 = ap set.len (one_is a p has within) ∙ len-single p in omega (arith, one, two))
  | inr out ↦ (let none = len_below 0 a (λ q h. absurd (out (subst (Has a) ((has-single p q).0 (within q h)) h))) in omega (arith, none, two))
]

-- ---- the law

pub restrict_lemma : (parts : List Part) (a : PartSet) → IsStuck parts a → (t : Plan) (w : PartSet) → IsSubset a w → IsGood parts w t → ⊥
restrict_lemma parts a stuck (leaf p) w within good = no_two a p (subst (IsSubset a) good within) stuck.two
restrict_lemma parts a stuck (split d moved rest) w within good =
    let m : PartSet = parts_of moved in
    let r : PartSet = parts_of rest in
    let split_of : (q : ℕ) → Has w q → Has m q ⊎ Has r q = λ q h. (has-union m r q).0 (subst (λ (u : PartSet). Has u q) good.0 h) in
    let rest_of : (q : ℕ) → Has (set.difference w m) q → Has r q =
    λ q h. let t = (has-difference w m q).0 h in ⊎_elim (λ in_m. absurd (t.1 in_m)) (λ in_r. in_r) (split_of q t.0) in
    let step : IsFree parts m r d = good.2 in
    let free : IsFree parts m (set.difference w m) d = record { moves = step.moves; clear = λ arc from to. step.clear arc from (rest_of arc.b to) } in
    elim (nonempty_or (set.intersection a m)) [
      | inl one ↦ (let both = (has-intersection a m one.0).0 one.1 in
          restrict_lemma parts a stuck moved m (λ q h. moves_whole_lemma parts a w m d one.0 q stuck within free both.0 h both.1) good.3)
      | inr none ↦ restrict_lemma parts a stuck rest r (λ q h. ⊎_elim (λ in_m. absurd (none q ((has-intersection a m q).1 (h, in_m)))) (λ in_r. in_r) (split_of q (within q h))) good.4
    ]
