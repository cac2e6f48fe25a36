-- The rest of a set, seen as the side that moves the other way.
use Rattle.std.proofs.Common.{List, ap, sym, ◌∙◌, subst, ⊎_elim, ℕ}
use Rattle.std.specs.FinSet as set
use Rattle.staat_vec.specs.declared.vector.V3.{V3}
use Rattle.staat_vec.specs.Vectors.{negative}
use Rattle.staat_vec.proofs.Canons.{negative-negative}
use Rattle.staat_model.specs.declared.assembly.Part.{Part}
use Rattle.staat_model.specs.declared.set.PartSet.{PartSet}
use Rattle.staat_model.specs.Removal.{IsFree}
use Rattle.staat_model.specs.Sets.{Has, IsSide, IsSubset, IsNonempty}
use Rattle.staat_model.proofs.Reversed.{meets_opposite_lemma}
use Rattle.staat_model.proofs.RestrictLemmas.{nonempty_or, rest_within}
use Rattle.staat_model.proofs.SetMembers.{has-difference}
use Rattle.staat_model.proofs.SetWords.{same_members}
use Rattle.staat_model.proofs.FreeSides.{member_or}

-- a member of w that is not in the rest without s is in s
pub back_in : (w s : PartSet) (q : ℕ) → Has (set.difference w (set.difference w s)) q → Has s q
back_in w s q h =
    let t = (has-difference w (set.difference w s) q).0 h in
    ⊎_elim (λ m. m) (λ out. absurd (t.1 ((has-difference w s q).1 (t.0, out)))) (member_or s q)

pub rest_some : (w s : PartSet) → IsSide w s → IsNonempty (set.difference w s)
rest_some w s side = ⊎_elim (λ some. some)
    (λ none. absurd (side.proper (same_members s w side.within (λ q h. ⊎_elim (λ m. m) (λ out. absurd (none q ((has-difference w s q).1 (h, out)))) (member_or s q)))))
    (nonempty_or (set.difference w s))

-- the rest of a side is a side
pub other_side : (w s : PartSet) → IsSide w s → IsSide w (set.difference w s)
other_side w s side = record {
  nonempty = rest_some w s side;
  within = rest_within w s;
  proper = λ same. let some = side.nonempty in ((has-difference w s some.0).0 (subst (λ (u : PartSet). Has u some.0) (sym same) (side.within some.0 some.1))).1 some.1;
}

-- it moves the other way where the side can be moved
pub other_free : (parts : List Part) (w s : PartSet) (d : V3) → IsSubset s w → IsFree parts s (set.difference w s) d → IsFree parts (set.difference w s) (set.difference w (set.difference w s)) (negative d)
other_free parts w s d within free = record {
  moves = λ e. free.moves (sym (negative-negative d) ∙ ap negative e);
  clear = λ arc a_in b_in m. free.clear (record { a = arc.b; i = arc.j; b = arc.a; j = arc.i }) (back_in w s arc.b b_in) a_in
      (record { p = m.q; q = m.p; p_is = m.q_is; q_is = m.p_is; holds = (meets_opposite_lemma m.p m.q d).0 m.holds });
}
