-- From the laws on lists of vectors to those on pieces, whose differences they are.
use Rattle.std.proofs.Common.{◌↔◌, ◌≤◌, refl, sym, ap, subst, ◌∙◌, arith, pos, ◌≤ℤ◌, ◌<ℤ◌, List, [], ◌∷◌, All, Contains, length}
use Rattle.std.proofs.lemmas.List.Elements.{All-contains}
use Rattle.staat_vec.specs.declared.vector.V3.{V3}
use Rattle.staat_vec.specs.Vectors.{dot, minus, plus, origin}
use Rattle.staat_vec.proofs.Ring.{at, num}
use Rattle.staat_vec.proofs.VecRing.{originE, timesE, dot_comm, ring3}
use Rattle.staat_model.specs.Pieces.{IsPiece}
use Rattle.staat_model.specs.Meeting.{Meets, Overlap, mix}
use Rattle.staat_model.specs.Walls.{IsBeyond}
use Rattle.staat_model.specs.Facets.{IsFacet, IsDifference}
use Rattle.staat_model.specs.Cones.{differences, IsAbove, IsSpanning, IsConeFacet, IsCrossing}
use Rattle.staat_model.proofs.Members.{All-from_members}
use Rattle.staat_model.proofs.Differences.{in_differences, from_differences, differences_span_lemma}
use Rattle.staat_model.proofs.FacetLemmas.{facet_crosses_lemma, reached_by_facets_lemma}
use Rattle.staat_model.proofs.WeightLemmas.{reached_from_meets, meets_from_reached}
use Rattle.staat_vec.proofs.VectorLists.{some_member}
use Rattle.staat_vec.proofs.VectorLaws.{dot_origin}
use Rattle.staat_vec.proofs.Integers.{zero_not_positive}

-- vs lists the differences of the two lists of points, in any order and any number of times
pub record AreDifferences (p q vs : List V3) : Type 0 where
  pub each : (v : V3) → Contains vs v → IsDifference p q v
  pub all : (v : V3) → IsDifference p q v → Contains vs v

pub differences_are : (p q : List V3) → AreDifferences p q (differences p q)
differences_are p q = record {
  each = λ v h. let (a, b, a_in, b_in, e) = from_differences p q v h in record { a = a; b = b; a_in = a_in; b_in = b_in; is = e };
  all = λ v d. subst (λ z. Contains (differences p q) z) (sym d.is) (in_differences p q d.a d.b d.a_in d.b_in);
}

pub above_is_beyond : (p q vs : List V3) (n : V3) → AreDifferences p q vs → IsAbove n vs → IsBeyond p q n
above_is_beyond p q vs n are up =
    All-from_members (λ a. All (λ b. pos 0 ≤ℤ dot n (minus b a)) q) p
    (λ a a_in. All-from_members (λ b. pos 0 ≤ℤ dot n (minus b a)) q
    (λ b b_in. subst (λ z. pos 0 ≤ℤ z) (dot_comm (minus b a) n) (All-contains (λ v. pos 0 ≤ℤ dot v n) vs (minus b a) up (are.all (minus b a) (record { a = a; b = b; a_in = a_in; b_in = b_in; is = refl })))))

pub beyond_is_above : (p q vs : List V3) (n : V3) → AreDifferences p q vs → IsBeyond p q n → IsAbove n vs
beyond_is_above p q vs n are up =
    All-from_members (λ v. pos 0 ≤ℤ dot v n) vs
    (λ v v_in. let d = are.each v v_in in
    subst (λ z. pos 0 ≤ℤ z) (dot_comm n (minus d.b d.a) ∙ ap (λ w. dot w n) (sym d.is))
    (All-contains (λ b. pos 0 ≤ℤ dot n (minus b d.a)) q d.b (All-contains (λ a. All (λ b. pos 0 ≤ℤ dot n (minus b a)) q) p d.a up d.a_in) d.b_in))

pub to_cone_facet : (p q vs : List V3) (n : V3) → AreDifferences p q vs → IsFacet p q n → IsConeFacet vs n
to_cone_facet p q vs n are f =
    let t = f.touches in record {
      primitive = f.primitive;
      above = beyond_is_above p q vs n are f.beyond;
      across = record { u = t.u; v = t.v; u_in = are.all t.u t.u_is; v_in = are.all t.v t.v_is; independent = t.independent; u_on = dot_comm t.u n ∙ t.u_on; v_on = dot_comm t.v n ∙ t.v_on };
    }

pub from_cone_facet : (p q vs : List V3) (n : V3) → AreDifferences p q vs → IsConeFacet vs n → IsFacet p q n
from_cone_facet p q vs n are f =
    let t = f.across in record {
      primitive = f.primitive;
      beyond = above_is_beyond p q vs n are f.above;
      touches = record { u = t.u; v = t.v; u_is = are.each t.u t.u_in; v_is = are.each t.v t.v_in; u_on = dot_comm n t.u ∙ t.u_on; v_on = dot_comm n t.v ∙ t.v_on; independent = t.independent };
    }

pub piece_some : (p : List V3) → IsPiece p → 1 ≤ length p
piece_some p is = let four = is.at_least in omega (arith, four)

pub pieces_span : (p q : List V3) → IsPiece p → IsPiece q → IsSpanning (differences p q)
pieces_span p q is_p is_q = let (b, b_in) = some_member q (piece_some q is_q) in differences_span_lemma p q b is_p.solid b_in

pub meets_by_facets_lemma : (p q : List V3) (d : V3) → IsPiece p → IsPiece q → Meets p q d ↔ ((n : V3) → IsFacet p q n → pos 0 <ℤ dot n d)
meets_by_facets_lemma p q d is_p is_q =
    let vs = differences p q in
    let are = differences_are p q in
    let law = reached_by_facets_lemma vs d (pieces_span p q is_p is_q) in (
      (λ m n f. law.0 (reached_from_meets p q d m) n (to_cone_facet p q vs n are f)),
      λ ahead. meets_from_reached p q d (piece_some p is_p) (piece_some q is_q) (law.1 (λ n f. ahead n (from_cone_facet p q vs n are f))),
    )

-- ---- without moving

overlap_from_meets : (p q : List V3) → Meets p q origin → Overlap p q
overlap_from_meets p q m =
    let r = m.meeting in
    record { a = r.a; b = r.b; a_weights = r.a_weights; b_weights = r.b_weights; same_sum = r.same_sum; same_place = ap (plus (mix r.a p)) (ring3 (pos m.t ∷ []) (timesE (num (pos 0)) originE) (timesE (at 0) originE) (tt, tt, tt)) ∙ r.same_place }

pub overlap_by_facets_lemma : (p q : List V3) → IsPiece p → IsPiece q → Overlap p q ↔ ((n : V3) → IsFacet p q n → ⊥)
overlap_by_facets_lemma p q is_p is_q =
    let law = meets_by_facets_lemma p q origin is_p is_q in (
      (λ o n f. zero_not_positive (dot n origin) (dot_origin n) (law.0 (record { t = 0; meeting = o }) n f)),
      λ none. overlap_from_meets p q (law.1 (λ n f. absurd (none n f))),
    )

-- each facet of two pieces comes from two of their differences
pub facets_from_differences_lemma : (p q : List V3) (n : V3) → IsFacet p q n → IsCrossing (differences p q) n
facets_from_differences_lemma p q n f = facet_crosses_lemma (differences p q) n (to_cone_facet p q (differences p q) n (differences_are p q) f)
