-- What two free sides have in common is free, so the side that moves is one alone.
use Rattle.std.proofs.Common.{◌≡◌, ◌⊎◌, ℕ, ◌≤◌, Bool, true, false, List, arith, sym, subst, refl, inl, inr}
use Rattle.std.specs.Cmp.{nat_cmp_total}
use Rattle.std.specs.FinSet as set
use Rattle.staat_vec.specs.declared.vector.V3.{V3}
use Rattle.staat_model.specs.declared.assembly.Part.{Part}
use Rattle.staat_model.specs.declared.set.PartSet.{PartSet}
use Rattle.staat_model.specs.Outcomes.{IsMinimalBy, IsMovedSideBy}
use Rattle.staat_model.specs.Removal.{IsFreeBy}
use Rattle.staat_model.specs.Sets.{Has, IsSubset}
use Rattle.staat_model.proofs.Decisions.{carried}
use Rattle.staat_model.proofs.SetMembers.{has-difference, has-intersection}
use Rattle.staat_model.proofs.SetWords.{same_members}

-- a test passes or not
passes_or : (b : Bool) → (b ≡ true) ⊎ (b ≡ true → ⊥)
passes_or true = inl refl
passes_or false = inr (λ h. cc)

-- a number is in the set or not
pub member_or : (s : PartSet) (p : ℕ) → Has s p ⊎ (Has s p → ⊥)
member_or s p = passes_or (set.contains s p)

-- a set lies within another or not
pub subset_or : (s t : PartSet) → IsSubset s t ⊎ (IsSubset s t → ⊥)
subset_or s t = carried (set.is_subset-contains nat_cmp_total s t) (set.contains-is_subset nat_cmp_total s t) (passes_or (set.is_subset s t))

pub free_both : {R : List V3 → List V3 → V3 → Type 0} (parts : List Part) (w s t : PartSet) (d : V3) → IsFreeBy R parts s (set.difference w s) d
    → IsFreeBy R parts t (set.difference w t) d → IsFreeBy R parts (set.intersection s t) (set.difference w (set.intersection s t)) d
free_both parts w s t d fs ft = record {
  moves = fs.moves;
  clear = λ arc a_in b_in meets.
      let a = (has-intersection s t arc.a).0 a_in in
      let b = (has-difference w (set.intersection s t) arc.b).0 b_in in
      elim (member_or s arc.b) [
        | inl in_s ↦ ft.clear arc a.1 ((has-difference w t arc.b).1 (b.0, λ in_t. b.1 ((has-intersection s t arc.b).1 (in_s, in_t)))) meets
        | inr not_s ↦ fs.clear arc a.0 ((has-difference w s arc.b).1 (b.0, not_s)) meets
      ];
}

-- a minimal side lies within each minimal side that it meets
minimal_within : {R : List V3 → List V3 → V3 → Type 0} (parts : List Part) (w s t : PartSet) (d : V3) (p : ℕ) → IsMinimalBy R parts w d s
    → IsMinimalBy R parts w d t → Has s p → Has t p → IsSubset s t
minimal_within parts w s t d p ms mt in_s in_t = elim (subset_or s t) [
  | inl all ↦ all
  | inr not_all ↦ absurd (ms.minimal (set.intersection s t) (record {
    nonempty = (p, (has-intersection s t p).1 (in_s, in_t));
    within = λ q h. ((has-intersection s t q).0 h).0;
    proper = λ same. not_all (λ q h. ((has-intersection s t q).0 (subst (λ (u : PartSet). Has u q) (sym same) h)).1);
  }) (free_both parts w s t d ms.free mt.free))
]

pub IsMovedSide-unique : {R : List V3 → List V3 → V3 → Type 0} (parts : List Part) (w : PartSet) (d : V3) (s t : PartSet) → IsMovedSideBy R parts w d s
    → IsMovedSideBy R parts w d t → s ≡ t
IsMovedSide-unique parts w d s t a b =
    let low : a.least ≤ b.least = a.first t b.least b.is b.has in
    let high : b.least ≤ a.least = b.first s a.least a.is a.has in
    let e : b.least ≡ a.least = omega (arith, low, high) in
    let in_t : Has t a.least = subst (Has t) e b.has in
    same_members s t (minimal_within parts w s t d a.least a.is b.is a.has in_t) (minimal_within parts w t s d a.least b.is a.is in_t a.has)
