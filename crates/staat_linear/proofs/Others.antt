-- Sets of parts that have members.
use Rattle.std.proofs.Common.{◌≡◌, ⊎_elim, ℕ, ◌≤◌, arith, refl, sym, subst}
use Rattle.std.specs.FinSet as set
use Rattle.std.specs.Ordering.{nat_cmp}
use Rattle.staat_model.specs.declared.set.PartSet.{PartSet}
use Rattle.staat_model.specs.Sets.{Has, IsNonempty, single}
use Rattle.staat_model.proofs.OneOutcome.{not_single}
use Rattle.staat_model.proofs.OtherSides.{rest_some}
use Rattle.staat_model.proofs.RestrictLemmas.{nonempty_or}
use Rattle.staat_model.proofs.SetMembers.{has-single}
use Rattle.staat_graph.proofs.Finite.{len_subset}
use Rattle.staat_linear.specs.Orders.{all_but}

-- a part of a set of two has another one beside it
pub some_other : (w others : PartSet) (p : ℕ) → Has w p → 2 ≤ set.len w → others ≡ all_but w p → IsNonempty others
some_other w others p has two same = subst (λ (s : PartSet). IsNonempty s) (sym same) (rest_some w (single p) (record {
  nonempty = (p, (has-single p p).1 refl);
  within = λ q h. subst (Has w) (sym ((has-single p q).0 h)) has;
  proper = λ e. not_single w p (sym e) two;
}))

pub two_some : (s : PartSet) → 2 ≤ set.len s → IsNonempty s
two_some s two = ⊎_elim (λ h. h)
    (λ none. let le : set.len s ≤ set.len set.empty = len_subset s set.empty (λ q h. absurd (none q h)) in let e = set.len-empty nat_cmp in absurd (omega (arith, le, e, two)))
    (nonempty_or s)
