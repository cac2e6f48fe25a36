-- No overlap in ascending order of the parts is no overlap at all.
use Rattle.std.proofs.Common.{◌≡◌, pos, sym, ◌∙◌, List, [], ◌∷◌, ⊎_elim}
use Rattle.staat_vec.specs.declared.vector.V3.{V3}
use Rattle.staat_vec.specs.Vectors.{origin, plus, times}
use Rattle.staat_vec.proofs.Ring.{num}
use Rattle.staat_vec.proofs.VecRing.{originE, plusE, timesE, values, v0, ring3}
use Rattle.staat_model.specs.declared.assembly.Part.{Part}
use Rattle.staat_model.specs.declared.certificate.Arc.{Arc}
use Rattle.staat_model.specs.Assemblies.{IsSound}
use Rattle.staat_model.specs.Meeting.{Overlap, mix}
use Rattle.staat_asm.specs.Overlaps.{IsOverlap}
use Rattle.staat_vec.proofs.Naturals.{trichotomy}

pub still : (m : V3) → plus m (times 0 origin) ≡ m
still m = ring3 (values (m ∷ []) []) (plusE v0 (timesE (num (pos 0)) originE)) v0 (tt, tt, tt)

mutual_overlap : (p q : List V3) → Overlap p q → Overlap q p
mutual_overlap p q o = record {
  a = o.b;
  b = o.a;
  a_weights = o.b_weights;
  b_weights = o.a_weights;
  same_sum = sym o.same_sum;
  same_place = still (mix o.b q) ∙ sym o.same_place ∙ still (mix o.a p);
}

pub sound_from : (parts : List Part) → ((arc : Arc) → IsOverlap parts arc → ⊥) → IsSound parts
sound_from parts none arc apart h =
    ⊎_elim (λ lt. none arc (lt, h))
    (λ r. ⊎_elim (λ e. absurd (apart e))
    (λ lt. none (record { a = arc.b; i = arc.j; b = arc.a; j = arc.i }) (lt, record { p = h.q; q = h.p; p_is = h.q_is; q_is = h.p_is; holds = mutual_overlap h.p h.q h.holds })) r)
    (trichotomy arc.a arc.b)
