-- The chosen order: its steps, and that it is good or names a set that is locked.
use Rattle.std.proofs.Common.{◌≡◌, ℕ, ◌<◌, ◌≤◌, refl, sym, subst, ap, ◌∙◌, List, [], ◌∷◌, ◌++◌}
use Rattle.std.proofs.lemmas.List.Elements.{All-contains}
use Rattle.std.specs.Prelude.{◌↔◌, MatchOption, None, Option, Some}
use Rattle.std.specs.FinSet as set
use Rattle.staat_vec.specs.declared.vector.V3.{V3}
use Rattle.staat_model.specs.declared.assembly.Part.{Part}
use Rattle.staat_model.specs.declared.set.PartSet.{PartSet}
use Rattle.staat_model.specs.Assemblies.{IsAssembly}
use Rattle.staat_model.specs.Planes.{ArePlanes, vertices}
use Rattle.staat_model.specs.Sets.{Has, IsSubset, single}
use Rattle.staat_model.proofs.RestrictLemmas.{rest_apart, rest_within}
use Rattle.staat_model.proofs.SetMembers.{has-difference, has-single}
use Rattle.staat_model.proofs.SomePlanes.{some_planes}
use Rattle.staat_model.proofs.VertexLemmas.{vertices_decide_lemma}
use Rattle.staat_graph.proofs.Finite.{len_fewer}
use Rattle.staat_core.specs.declared.search.Served.{Served}
use Rattle.staat_core.specs.VertexSearch.{IsFirstServed}
use Rattle.staat_linear.specs.declared.order.Leave.{Leave}
use Rattle.staat_linear.specs.declared.order.Order.{Order}
use Rattle.staat_linear.specs.declared.order.Order.TheVariants.{Whole, Locked}
use Rattle.staat_linear.specs.Holding.{IsLeastLeaving}
use Rattle.staat_linear.specs.Orders.{HasNoLeave, IsChosen, IsLeave, IsLocked, LetsLeave, SettlesOrder, no_leave, after, all_but, one_part, then_on}

-- ---- one step

-- a part that is free along some direction is free along a vertex
locked_at_vertices : (parts : List Part) (w : PartSet) → IsAssembly parts → 2 ≤ set.len w → HasNoLeave parts w → IsLocked parts w
locked_at_vertices parts w is two none = record {
  two = two;
  held = λ p d has free.
      let at = vertices_decide_lemma parts w (single p) (all_but w p) none.planes d is none.planes_are (λ q h. subst (Has w) (sym ((has-single p q).0 h)) has) (rest_within w (single p)) (rest_apart w (single p)) free in
      All-contains (λ v. LetsLeave parts w v → ⊥) (vertices none.planes) at.v none.none at.vertex (p, record { member = has; free = at.free });
}

-- a set has no step exactly where it is locked
pub locked_if_none : (parts : List Part) (w : PartSet) (found : Option Leave) → IsAssembly parts → 2 ≤ set.len w
    → MatchOption found (HasNoLeave parts w) (IsLeave parts w) → (found ≡ None) ↔ IsLocked parts w
locked_if_none parts w None is two none = (λ e. locked_at_vertices parts w is two none, λ locked. refl)
locked_if_none parts w (Some leave) is two step =
    (λ e. absurd cc, λ locked. absurd (locked.held leave.part leave.d step.leaves.member step.leaves.free))

-- the first vertex that serves, with the part that leaves there, is the step
pub served_is_leave : (parts : List Part) (w : PartSet) (s : Served ℕ) → ((planes : List V3) → ArePlanes parts w planes → IsFirstServed (LetsLeave parts w) (IsLeastLeaving parts w) (vertices planes) s) → IsLeave parts w (record { part = s.found; d = s.d })
served_is_leave parts w s first =
    let (planes, are) = some_planes parts w in
    let h = first planes are in
    record { planes = planes; planes_are = are; first = h.first; leaves = h.found_is.leaves; least = h.found_is.least }

-- ---- the order

-- by these steps w comes down to u
abbrev pub ComesDown : List Part → PartSet → List Leave → PartSet → Type 0
ComesDown parts w [] u = w ≡ u
ComesDown parts w (leave ∷ leaves) u = (2 ≤ set.len w) × IsLeave parts w leave × ComesDown parts (all_but w leave.part) leaves u

pub one_more : (parts : List Part) (w : PartSet) (leaves : List Leave) (u : PartSet) (leave : Leave) → ComesDown parts w leaves u → 2 ≤ set.len u → IsLeave parts u leave → ComesDown parts w (leaves ++ leave ∷ []) (all_but u leave.part)
one_more parts w [] u leave down two is =
    (subst (λ (s : PartSet). 2 ≤ set.len s) (sym down) two, subst (λ (s : PartSet). IsLeave parts s leave) (sym down) is, ap (λ (s : PartSet). all_but s leave.part) down)
one_more parts w (first ∷ leaves) u leave down two is = (down.0, down.1, one_more parts (all_but w first.part) leaves u leave down.2 two is)

pub down_to_last : (parts : List Part) (w : PartSet) (leaves : List Leave) (u : PartSet) (last : ℕ) → ComesDown parts w leaves u → u ≡ single last → IsChosen parts w (Whole leaves last)
down_to_last parts w [] u last down one = one_part (down ∙ one)
down_to_last parts w (leave ∷ leaves) u last down one = then_on down.0 down.1 (down_to_last parts (all_but w leave.part) leaves u last down.2 one) refl

pub down_to_locked : (parts : List Part) (w : PartSet) (leaves : List Leave) (u : PartSet) → ComesDown parts w leaves u → 2 ≤ set.len u → HasNoLeave parts u → IsChosen parts w (Locked u)
down_to_locked parts w [] u down two none = subst (λ (s : PartSet). IsChosen parts s (Locked u)) (sym down) (no_leave two none)
down_to_locked parts w (leave ∷ leaves) u down two none = then_on down.0 down.1 (down_to_locked parts (all_but w leave.part) leaves u down.2 two none) refl

-- without one part a set of two is smaller, and has others
pub fewer : (w u : PartSet) (p : ℕ) → Has w p → u ≡ all_but w p → set.len u < set.len w
fewer w u p has e = subst (λ (t : PartSet). set.len t < set.len w) (sym e) (len_fewer (all_but w p) w p (rest_within w (single p)) has (λ h. ((has-difference w (single p) p).0 h).1 ((has-single p p).1 refl)))

pub inside : (w u z : PartSet) (p : ℕ) → IsSubset w z → u ≡ all_but w p → IsSubset u z
inside w u z p within e q h = within q (rest_within w (single p) q (subst (λ (t : PartSet). Has t q) e h))

-- ---- what is chosen is right

settles_after : (parts : List Part) (w : PartSet) (leave : Leave) (rest : Order) → IsLeave parts w leave → SettlesOrder parts (all_but w leave.part) rest → SettlesOrder parts w (after leave rest)
settles_after parts w leave (Whole leaves last) step good = record { order = (step.leaves.member, good.order); free = (step.leaves.free, good.free) }
settles_after parts w leave (Locked a) step t = ((λ q h. rest_within w (single leave.part) q (t.0 q h)), t.1)

pub chosen_settles : (parts : List Part) (w : PartSet) (order : Order) → IsAssembly parts → IsChosen parts w order → SettlesOrder parts w order
chosen_settles parts w order is (one_part e) = record { order = e; free = tt }
chosen_settles parts w order is (no_leave two none) = ((λ q h. h), locked_at_vertices parts w is two none)
chosen_settles parts w order is (then_on {leave} {rest} two step later e) = subst (SettlesOrder parts w) (sym e) (settles_after parts w leave rest step (chosen_settles parts (all_but w leave.part) rest is later))
