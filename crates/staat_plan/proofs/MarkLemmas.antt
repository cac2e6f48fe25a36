-- The marks of a robust plan hold.
use Rattle.std.proofs.Common.{◌≡◌, ◌≢◌, ◌⊎◌, inl, inr, refl, sym, ap, subst, ◌∙◌, true, pos}
use Rattle.std.proofs.Common.{List, [], ◌∷◌, ◌++◌, All, Contains, map}
use Rattle.std.proofs.lemmas.List.Elements.{All-cons, All-contains, All-nil}
use Rattle.std.specs.FinSet as set
use Rattle.staat_vec.specs.{Lists.IsFirst, Primitives.{IsPrimitiveOf, primitive}, Vectors.{dot, sign}}
use Rattle.staat_vec.specs.declared.vector.V3.{V3}
use Rattle.staat_vec.proofs.{ListLaws.Contains-from_map, Primitives.primitive-is, Signs.zero_sign, Unique.IsFirst-in}
use Rattle.staat_model.specs.{Assemblies.IsAssembly, Cells.{AreCellsOf, CellEntry, IsEntry, kind_of, signs_of}}
use Rattle.staat_model.specs.{Outcomes.{stuck, try_cell}, Planes.{ArePlanes, vertices}, Plans.{Plan, parts_of, split}}
use Rattle.staat_model.specs.{declared.assembly.Part.Part, declared.set.PartSet.PartSet, declared.tree.Kind.Kind}
use Rattle.staat_model.specs.declared.tree.Kind.TheVariants.{Edge, Open, Point}
use Rattle.staat_model.proofs.CellLemmas.{off_all, zeros, open_no_zero}
use Rattle.staat_model.proofs.{Members.{All-from_members, all_back, all_front}, OneTable.ArePlanes-unique}
use Rattle.staat_model.proofs.PointLemmas.{point_is_vertex_lemma, representative_lemma}
use Rattle.staat_model.specs.Outcomes.{AreCellTries, Finding, IsOutcome, IsStep, Serves, Try, both_planned, one_part, planned}
use Rattle.staat_cells.proofs.Zeros.{none_zero, open_kind}
use Rattle.staat_plan.specs.Marks.{AreMarksRight, HasOneMark, IsOffPlanes, MarkHolds, MarksHold, OnlyPlanesServe}
use Rattle.staat_plan.specs.Marks.{OnlyVerticesServe, at_leaf, at_split}
use Rattle.staat_plan.proofs.{Right.right, Tries.none_of_kind}

-- ---- the first, in one list after another

first_in : {X Y : Type 0} (f : X → Y) (P : Y → Type 0) (xs ys : List X) (y : Y) → IsFirst P (map f (xs ++ ys)) y
    → IsFirst P (map f xs) y ⊎ (All (λ x. P (f x) → ⊥) xs × IsFirst P (map f ys) y)
first_in f P [] ys y first = inr (All-nil (λ x. P (f x) → ⊥), first)
first_in f P (x ∷ xs) ys y (inl h) = inl (inl h)
first_in f P (x ∷ xs) ys y (inr h) = elim (first_in f P xs ys y h.1) [
  | inl a ↦ inl (inr (h.0, a))
  | inr b ↦ inr (All-cons (λ x. P (f x) → ⊥) x xs h.0 b.0, b.1)
]

-- ---- directions off all planes

open_off : (planes : List V3) (d : V3) → All (λ n. dot n d ≢ pos 0) planes → kind_of (signs_of planes d) ≡ Open
open_off planes d off = open_kind (signs_of planes d) (none_zero (λ n. sign (dot n d)) planes
    (λ n c z. All-contains (λ m. dot m d ≢ pos 0) planes n off c (zero_sign (dot n d) z)))

-- ---- the mark of a step

module _ (parts : List Part) (is : IsAssembly parts) (w : PartSet) (planes : List V3)
    (are : ArePlanes parts w planes) where
  abbrev NoneServes : List CellEntry → Type 0
  NoneServes cells = All (λ (c : CellEntry). Serves parts w c.d → ⊥) cells

  module _ (opens : List CellEntry) (opens_are : AreCellsOf planes Open opens) (none : NoneServes opens) where
    only_planes : OnlyPlanesServe parts w
    only_planes others d others_are off serves =
        let same : others ≡ planes = ArePlanes-unique parts w others planes others_are are in
        none_of_kind parts is w planes are Open opens opens_are none d serves
        (open_off planes d (subst (All (λ n. dot n d ≢ pos 0)) same off))

    only_vertices : (edges : List CellEntry) → AreCellsOf planes Edge edges → NoneServes edges
        → OnlyVerticesServe parts w
    only_vertices edges edges_are no_edge others d others_are serves = by_kind (kind_of (signs_of planes d)) refl
      where
        by_kind : (kind : Kind) → kind_of (signs_of planes d) ≡ kind
            → (v : V3) × Contains (vertices others) v × IsPrimitiveOf d v
        by_kind Open e = absurd (none_of_kind parts is w planes are Open opens opens_are none d serves e)
        by_kind Edge e = absurd (none_of_kind parts is w planes are Edge edges edges_are no_edge d serves e)
        by_kind Point e =
            let free = serves.free in
            let same : planes ≡ others = ArePlanes-unique parts w planes others are others_are in (
              primitive d,
              point_is_vertex_lemma parts w others d others_are free.moves
                  (subst (λ l. kind_of (signs_of l d) ≡ Point) same e),
              primitive-is d free.moves,
            )

  -- the representative of an open cell lies off all planes
  off_planes : (c : CellEntry) → IsEntry planes Open c → IsOffPlanes parts w c.d
  off_planes c entry others others_are =
      let signs = representative_lemma parts w planes Open c.signs c.d are entry.cell entry.by_count entry.representative in
      let none : zeros (signs_of planes c.d) ≡ 0 = ap zeros signs ∙ open_no_zero (zeros c.signs) entry.by_count in
      subst (All (λ n. dot n c.d ≢ pos 0)) (ArePlanes-unique parts w planes others are others_are)
      (All-from_members (λ n. dot n c.d ≢ pos 0) planes
      (λ n n_in z. off_all planes c.d none n n_in (ap sign z)))

  abbrev P : Try → Type 0
  P try = Serves parts w try.d

  marked : (kind : Kind) (cells : List CellEntry) (try : Try) → AreCellsOf planes kind cells
      → IsFirst P (map try_cell cells) try → ((c : CellEntry) → IsEntry planes kind c → MarkHolds parts w c.d kind)
      → HasOneMark parts w try
  marked kind cells try of first holds =
      let (c, c_in, e) = Contains-from_map try_cell cells try (IsFirst-in P (map try_cell cells) try first).0 in
      let entry = All-contains (IsEntry planes kind) cells c of.each c_in in
      record {
        mark = kind;
        is = ap (λ (t : Try). t.mark) (sym e) ∙ ap (λ k. k ∷ []) entry.kind_is;
        holds = subst (λ (t : Try). MarkHolds parts w t.d kind) e (holds c entry);
      }

  one_mark : (opens edges points : List CellEntry) (try : Try) → AreCellsOf planes Open opens
      → AreCellsOf planes Edge edges → AreCellsOf planes Point points
      → IsFirst P (map try_cell (opens ++ edges ++ points)) try → HasOneMark parts w try
  one_mark opens edges points try opens_are edges_are points_are first =
      elim (first_in try_cell P (opens ++ edges) points try first) [
        | inl early ↦ (elim (first_in try_cell P opens edges try early) [
          | inl a ↦ marked Open opens try opens_are a off_planes
          | inr b ↦ marked Edge edges try edges_are b.1 (λ c entry. only_planes opens opens_are b.0)
        ])
        | inr b ↦ (
            let no_open = all_front (λ (c : CellEntry). Serves parts w c.d → ⊥) opens edges b.0 in
            let no_edge = all_back (λ (c : CellEntry). Serves parts w c.d → ⊥) opens edges b.0 in
            marked Point points try points_are b.1 (λ c entry. (
              only_planes opens opens_are no_open,
              only_vertices opens opens_are no_open edges edges_are no_edge,
            )))
      ]

pub mark_holds_lemma : (parts : List Part) → IsAssembly parts → (w : PartSet) (try : Try) (side : PartSet)
    → IsStep true parts w try side → HasOneMark parts w try
mark_holds_lemma parts is w try side step =
    let are : AreCellTries parts w step.tries = step.tries_are in
    one_mark parts is w are.planes are.planes_are are.opens are.edges are.points try are.opens_are are.edges_are
    are.points_are (subst (λ l. IsFirst (λ (t : Try). Serves parts w t.d) l try) are.is step.first)

-- ---- the marks of a plan

module _ (parts : List Part) (is : IsAssembly parts) where
  pub marks_hold_lemma : (w : PartSet) (plan : Plan) (marks : List Kind)
      → IsOutcome true parts w (planned plan marks)
      → MarksHold parts plan marks
  marks_hold_lemma w plan marks (one_part e) = at_leaf
  marks_hold_lemma w plan marks (both_planned {side} {try} {moved} {rest} {d} {ms} {rs} two step one sub e marks_are) =
      let whole : set.union (parts_of moved) (parts_of rest) ≡ w =
      (right true parts is w (planned (split d moved rest) marks) (both_planned two step one sub e marks_are)).0 in
      let own = mark_holds_lemma parts is w try side step in
      at_split (subst (λ v. MarkHolds parts (set.union (parts_of moved) (parts_of rest)) v own.mark) (sym e)
      (subst (λ u. MarkHolds parts u try.d own.mark) (sym whole) own.holds))
      (marks_hold_lemma side moved ms one) (marks_hold_lemma (set.difference w side) rest rs sub)
      (marks_are ∙ ap (λ l. l ++ ms ++ rs) own.is)

  pub marks_right : (w : PartSet) (f : Finding) → IsOutcome true parts w f → AreMarksRight parts f
  marks_right w (planned plan marks) outcome = marks_hold_lemma w plan marks outcome
  marks_right w (stuck a) outcome = tt
