-- A set that is stuck is one of parts that exist.
use Rattle.std.proofs.Common.{◌≡◌, ℕ, ◌≤◌, arith, pos, refl, sym, ap, subst, ◌∙◌, ⊎_elim, List, length}
use Rattle.std.specs.Prelude.{Some, slice_get}
use Rattle.std.specs.FinSet as set
use Rattle.std.proofs.lemmas.Option.{option_and_then_some}
use Rattle.staat_vec.specs.declared.vector.V3.{V3}
use Rattle.staat_vec.specs.Vectors.{vector}
use Rattle.staat_model.specs.declared.assembly.Part.{Part}
use Rattle.staat_model.specs.declared.set.PartSet.{PartSet}
use Rattle.staat_model.specs.Assemblies.{piece_at}
use Rattle.staat_model.specs.Certificates.{IsStuckSet}
use Rattle.staat_model.specs.Plans.{IsStuck}
use Rattle.staat_model.specs.Sets.{Has, IsSide, below, single}
use Rattle.staat_model.proofs.FreeSides.{member_or}
use Rattle.staat_model.proofs.PlaneLemmas.{axis_normal}
use Rattle.staat_vec.proofs.Primitives.{IsPrimitive-some}
use Rattle.staat_model.proofs.Places.{place_within}
use Rattle.staat_model.proofs.SetBits.{has-below}
use Rattle.staat_model.proofs.SetMembers.{has-single}
use Rattle.staat_model.proofs.SetSizes.{len-single}

-- a part that has a piece exists
pub part_exists : (parts : List Part) (a i : ℕ) (p : List V3) → piece_at parts a i ≡ Some p → Has (below (length parts)) a
part_exists parts a i p e = option_and_then_some {P = Has (below (length parts)) a} (λ part. slice_get part.pieces i) (slice_get parts a) p e (λ part at inside. (has-below (length parts) a).1 (place_within parts a part at))

-- one part of a set of two or more is a side of it
one_is_side : (w : PartSet) (p : ℕ) → 2 ≤ set.len w → Has w p → IsSide w (single p)
one_is_side w p two has = record {
  nonempty = (p, (has-single p p).1 refl);
  within = λ q h. subst (Has w) (sym ((has-single p q).0 h)) has;
  proper = λ e. let one : set.len w ≡ 1 = ap set.len (sym e) ∙ len-single p in omega (arith, one, two);
}

-- a part that does not exist would be free alone
pub stuck_exists : (parts : List Part) (w : PartSet) → IsStuck parts w → IsStuckSet parts w
stuck_exists parts w is = record {
  two = is.two;
  within = λ p has. ⊎_elim {C = Has (below (length parts)) p} (λ h. h) (λ no_part. absurd (is.held (single p) (vector (pos 1) (pos 0) (pos 0)) (one_is_side w p is.two has) (record {
    moves = let n = axis_normal (vector (pos 1) (pos 0) (pos 0)) (0, omega arith, refl) in IsPrimitive-some (vector (pos 1) (pos 0) (pos 0)) n.primitive;
    clear = λ arc a b m. no_part (subst (Has (below (length parts))) ((has-single p arc.a).0 a) (part_exists parts arc.a arc.i m.p m.p_is));
  }))) (member_or (below (length parts)) p);
}
