-- The marks of planes.
use Rattle.std.proofs.Common.{◌≡◌, ◌↔◌, ◌⊎◌, inl, inr, ⊎_elim, ℕ, zero, suc, ◌+◌, ◌<◌, ◌≤◌, arith, ap, sym, subst, ◌∙◌, refl, Bool, true, false, List, length, get_or, set, replicate, true≢false}
use Rattle.std.specs.Prelude.{Some, slice_get}
use Rattle.std.proofs.lemmas.Bool.{cases_lt}
use Rattle.std.proofs.lemmas.Grind.{get_or-set_at}
use Rattle.std.proofs.lemmas.List.{get_or-replicate, get_or-set_other, get_or_default}
use Rattle.std.proofs.lemmas.List.Elements.{Contains-get_or}
use Rattle.staat_vec.specs.declared.vector.V3.{V3}
use Rattle.staat_vec.specs.Primitives.{canon}
use Rattle.staat_vec.specs.Vectors.{cross, origin}
use Rattle.staat_vec.proofs.VecRing.{cross_self}
use Rattle.staat_model.specs.declared.set.PartSet.{PartSet}
use Rattle.staat_model.specs.Planes.{axes}
use Rattle.staat_model.specs.Sets.{IsSubset}
use Rattle.staat_model.proofs.Places.{one_at_place, place_within}
use Rattle.staat_pairs.specs.Searches.{HasPlane, IsCanonOf}
use Rattle.staat_pairs.specs.Tables.{AreTablePlanes, Table}
use Rattle.staat_planes.specs.MarkedPlanes.{AddsMarks, AreUsedMarks, IsPlaneMarked}
use Rattle.staat_planes.specs.Tables.{IsPlaneOf}
use Rattle.staat_planes.proofs.Gaining.{adds_both, adds_nothing, adds_same}
use Rattle.staat_planes.proofs.PairSteps.{whole_used}
use Rattle.staat_planes.proofs.UsedLaw.{axis_used, other_used}
use Rattle.staat_vec.proofs.Naturals.{lt_one_more_cases, same_or}

-- ---- over a loop

-- the property with some number below m
pub record IsBelow (P : ℕ → V3 → Type 0) (m : ℕ) (n : V3) : Type 0 where
  pub j : ℕ
  pub lt : j < m
  pub holds : P j n

pub adds_as : (planes : List V3) (P R : V3 → Type 0) (old new : List Bool) → AddsMarks planes P old new → ((n : V3) → P n → R n) → ((n : V3) → R n → P n) → AddsMarks planes R old new
adds_as planes P R old new adds to from = record { each = λ k n le at. adds_same (adds.each k n le at) (to n) (from n) }

adds_none : (planes : List V3) (P : V3 → Type 0) (old : List Bool) → ((n : V3) → P n → ⊥) → AddsMarks planes P old old
adds_none planes P old none = record { each = λ k n le at. adds_nothing (none n) }

-- beside a fact that holds
pub adds_where : (planes : List V3) (H : Type 0) (P : V3 → Type 0) (old new : List Bool) → H → AddsMarks planes P old new → AddsMarks planes (λ n. H × P n) old new
adds_where planes H P old new h adds = adds_as planes P (λ n. H × P n) old new adds (λ n p. (h, p)) (λ n b. b.1)

pub adds_more : (planes : List V3) (P : ℕ → V3 → Type 0) (m : ℕ) (old mid new : List Bool) → AddsMarks planes (IsBelow P m) old mid → AddsMarks planes (P m) mid new → AddsMarks planes (IsBelow P (m + 1)) old new
adds_more planes P m old mid new before here = record { each = λ k n le at. adds_same (adds_both (before.each k n le at) (here.each k n le at)) (to n) (from n) }
  where
    to : (n : V3) → IsBelow P m n ⊎ P m n → IsBelow P (m + 1) n
    to n (inl b) = record { j = b.j; lt = (let lt = b.lt in omega (arith, lt)); holds = b.holds }
    to n (inr p) = record { j = m; lt = omega arith; holds = p }

    from : (n : V3) → IsBelow P (m + 1) n → IsBelow P m n ⊎ P m n
    from n b = ⊎_elim (λ lt. inl (record { j = b.j; lt = lt; holds = b.holds })) (λ e. inr (subst (λ j. P j n) e b.holds)) (lt_one_more_cases b.j m b.lt)

pub adds_skip : (planes : List V3) (P : ℕ → V3 → Type 0) (m : ℕ) (old new : List Bool) → AddsMarks planes (IsBelow P m) old new → ((n : V3) → P m n → ⊥) → AddsMarks planes (IsBelow P (m + 1)) old new
adds_skip planes P m old new before none = adds_more planes P m old new new before (adds_none planes (P m) new none)

-- ---- one mark

pub one_mark : (planes : List V3) (v : V3) (j : ℕ) (old : List Bool) → AreTablePlanes planes → slice_get planes j ≡ Some v → length planes ≤ length old → AddsMarks planes (λ n. n ≡ v) old (set old j true)
one_mark planes v j old are there room = record {
  each = λ k n le at. ⊎_elim {C = IsPlaneMarked (set old j true) k ↔ (IsPlaneMarked old k ⊎ (n ≡ v))}
      (λ e. (
        (λ _. inr (one_at_place planes j n v (subst (λ m. slice_get planes m ≡ Some n) e at) there)),
        (λ _. get_or-set_at old j k true false e (let lt = place_within planes j v there in omega (arith, lt, room))),
      ))
      (λ ne. let stays : get_or (set old j true) k false ≡ get_or old k false = get_or-set_other old j k true false ne in (
        (λ m. inl (sym stays ∙ m)),
        (λ h. ⊎_elim {C = IsPlaneMarked (set old j true) k} (λ o. stays ∙ o)
            (λ e. absurd (are.apart k j n v at there ne (ap (λ u. cross u v) e ∙ cross_self v))) h),
      ))
      (same_or k j);
}

-- ---- the facets of two pieces

pub facet_marks : (facets : List V3) (n : V3) → IsBelow (λ m n. n ≡ canon (get_or facets m origin)) (length facets) n → IsCanonOf facets n
facet_marks facets n b = record { facet = get_or facets b.j origin; listed = Contains-get_or facets b.j origin b.lt; is = b.holds }

pub facet_marked : (facets : List V3) (n : V3) → IsCanonOf facets n → IsBelow (λ m n. n ≡ canon (get_or facets m origin)) (length facets) n
facet_marked facets n c = let (j, lt, e) = c.listed in record { j = j; lt = lt; holds = c.is ∙ ap canon (sym (get_or_default facets j origin c.facet lt ∙ e)) }

-- ---- the marks of a set

none_marked : (n k : ℕ) → get_or (replicate n false) k false ≡ false
none_marked zero k = refl
none_marked (suc n) zero = refl
none_marked (suc n) (suc k) = none_marked n k

pub used_marked : (t : Table) (w : PartSet) (marks final : List Bool) → IsSubset w t.of → AddsMarks t.planes (λ n. HasPlane t w n) (replicate 1024 false) marks → ((k : ℕ) → k < 3 → IsPlaneMarked final k) → ((k : ℕ) → 3 ≤ k → get_or final k false ≡ get_or marks k false) → AreUsedMarks t w final
used_marked t w marks final within adds axes same = record {
  axes = axes;
  each = λ parts k n made at. ⊎_elim {C = IsPlaneMarked final k ↔ IsPlaneOf parts w n}
      (λ lt. axis_used parts t w k n (get_or final k false) made at lt (axes k lt))
      (λ le. other_used parts t w k n (get_or final k false) made within at le (
        (λ m. ⊎_elim {C = HasPlane t w n} (λ o. absurd (true≢false (sym o ∙ none_marked 1024 k))) (λ p. p) ((adds.each k n le at).0 (sym (same k le) ∙ m))),
        (λ p. same k le ∙ (adds.each k n le at).1 (inr p)),
      ))
      (cases_lt k 3);
}

pub all_marked : (t : Table) (w : PartSet) → IsSubset w t.of → IsSubset t.of w → length t.planes ≤ 1024 → AreUsedMarks t w (replicate 1024 true)
all_marked t w within over most = record {
  axes = λ k lt. get_or-replicate 1024 k true false (omega (arith, lt));
  each = λ parts k n made at. whole_used parts t w k n (get_or (replicate 1024 true) k false) made within over at
      (get_or-replicate 1024 k true false (let lt = place_within t.planes k n at in omega (arith, lt, most)));
}
