-- The first vertex along which some side begins to move, and that none does where the set is tight.
use Rattle.std.proofs.Common.{◌≡◌, ◌≢◌, ◌↔◌, ◌≤◌, inl, inr, Option, None, Some, arith, ap, ℕ, refl, subst, sym, Bool, List, All}
use Rattle.std.specs.FinSet as set
use Rattle.std.proofs.lemmas.List.Elements.{All-contains}
use Rattle.staat_vec.specs.declared.vector.V3.{V3}
use Rattle.staat_vec.specs.Lists.{IsFirst}
use Rattle.staat_vec.specs.Vectors.{negative, origin}
use Rattle.staat_vec.proofs.Unique.{IsFirst-in, IsFirst-unique}
use Rattle.staat_model.specs.declared.assembly.Part.{Part}
use Rattle.staat_model.specs.declared.set.PartSet.{PartSet}
use Rattle.staat_model.specs.Outcomes.{IsMovedSideBy}
use Rattle.staat_model.specs.Planes.{ArePlanes, vertices}
use Rattle.staat_model.specs.Sets.{IsSubset}
use Rattle.staat_model.proofs.FreeSides.{IsMovedSide-unique}
use Rattle.staat_model.proofs.OneTable.{ArePlanes-unique}
use Rattle.staat_graph.specs.Graphs.{HasArc, IsFirstSink, IsStrong}
use Rattle.staat_graph.proofs.Sides.{moved_of_first, serves_of_weak, weak_of_serves}
use Rattle.staat_pairs.specs.Tables.{Table, WasMadeFrom}
use Rattle.staat_core.specs.declared.search.Served.{Served}
use Rattle.staat_core.specs.VertexSearch.{IsFirstServed}
use Rattle.staat_local.specs.declared.side.Loose.{Loose}
use Rattle.staat_local.specs.Beginnings.{HoldsBetween, IsBeginning, IsFoundIn, IsTight, Loosens}
use Rattle.staat_local.specs.Contacts.{Starts}
use Rattle.staat_local.specs.Touching.{AreMarks}
use Rattle.staat_local.proofs.Holding.{loosens_turned, shows_starts, tight_at_vertices}

module _ (parts : List Part) (t : Table) (marks : List Bool) (made : WasMadeFrom parts t) (are : AreMarks parts t marks) (w : PartSet) (within : IsSubset w t.of) (d : V3) (some : d ≢ origin)
    (rows : List ℕ) (arcs : (a b : ℕ) → HasArc rows a b ↔ HoldsBetween t marks d a b) where
  -- neither along d nor the other way
  pub loosens_not : IsStrong (HasArc rows) w → (Loosens parts w d → ⊥) × (Loosens parts w (negative d) → ⊥)
  loosens_not strong =
      let none : Loosens parts w d → ⊥ = λ l. weak_of_serves parts d w rows some (shows_starts parts t marks made are d rows arcs w within) l strong in
      (none, λ l. none (loosens_turned parts w d made.assembly l))

  -- the group that no arc leaves begins to move
  pub moves_along : (s : PartSet) → (IsStrong (HasArc rows) w → ⊥) → IsFirstSink (HasArc rows) w s → Loosens parts w d × IsMovedSideBy Starts parts w d s
  moves_along s weak sink =
      let shows = shows_starts parts t marks made are d rows arcs w within in
      (serves_of_weak parts d w rows some shows weak, moved_of_first parts d w rows some shows s sink)

-- ---- what a search finds of the whole set of a table

module _ (parts : List Part) (t : Table) (w : PartSet) (made : WasMadeFrom parts t) (all : w ≡ t.of) where
  own_planes : ArePlanes parts w t.planes
  own_planes = subst (λ (u : PartSet). ArePlanes parts u t.planes) (sym all) made.planes

  pub served_begins : (s : Served PartSet) → ((planes : List V3) → ArePlanes parts w planes → IsFirstServed (Loosens parts w) (IsMovedSideBy Starts parts w) (vertices planes) s) → IsBeginning parts t.of (record { side = s.found; d = s.d })
  served_begins s first =
      let h = first t.planes own_planes in
      subst (λ (u : PartSet). IsBeginning parts u (record { side = s.found; d = s.d })) all (record { planes = t.planes; planes_are = own_planes; first = h.first; moved = h.found_is })

  pub none_is_tight : 2 ≤ set.len t.of → ((planes : List V3) → ArePlanes parts w planes → All (λ v. Loosens parts w v → ⊥) (vertices planes)) → IsTight parts t.of
  none_is_tight two none =
      let fails = subst (λ (u : PartSet). All (λ v. Loosens parts u v → ⊥) (vertices t.planes)) all (none t.planes own_planes) in
      tight_at_vertices parts t.of t.planes made.assembly made.planes two (λ v v_in. All-contains (λ v. Loosens parts t.of v → ⊥) (vertices t.planes) v fails v_in)

pub none_loosens : (parts : List Part) (w : PartSet) (loose : Loose) → IsBeginning parts w loose → IsTight parts w → ⊥
none_loosens parts w loose b tight =
    let l = (IsFirst-in (Loosens parts w) (vertices b.planes) loose.d b.first).1 in
    tight.held l.side loose.d l.is_side l.free

pub begins_not_tight : (parts : List Part) (w : PartSet) (loose : Loose) → IsBeginning parts w loose → (Some loose ≡ None) ↔ IsTight parts w
begins_not_tight parts w loose b = (λ e. absurd cc, λ tight. absurd (none_loosens parts w loose b tight))

-- there is one beginning
pub one_beginning_lemma : (parts : List Part) (w : PartSet) (x y : Loose) → IsBeginning parts w x → IsBeginning parts w y → x ≡ y
one_beginning_lemma parts w x y a b =
    let planes : a.planes ≡ b.planes = ArePlanes-unique parts w a.planes b.planes a.planes_are b.planes_are in
    let d : x.d ≡ y.d = IsFirst-unique (Loosens parts w) (vertices b.planes) x.d y.d (subst (λ ps. IsFirst (Loosens parts w) (vertices ps) x.d) planes a.first) b.first in
    let side : x.side ≡ y.side = IsMovedSide-unique parts w y.d x.side y.side (subst (λ v. IsMovedSideBy Starts parts w v x.side) d a.moved) b.moved in
    λ i. record { side = side i; d = d i }

-- one thing is found of a set
pub one_found_lemma : (parts : List Part) (w : PartSet) (x y : Option Loose) → IsFoundIn parts w x → IsFoundIn parts w y → x ≡ y
one_found_lemma parts w (Some x) (Some y) a b = ap (λ l. Some l) (one_beginning_lemma parts w x y a.1 b.1)
one_found_lemma parts w (Some x) None (two, a) (inl few) = absurd (omega (arith, two, few))
one_found_lemma parts w (Some x) None (two, a) (inr tight) = absurd (none_loosens parts w x a tight)
one_found_lemma parts w None (Some y) (inl few) (two, b) = absurd (omega (arith, two, few))
one_found_lemma parts w None (Some y) (inr tight) (two, b) = absurd (none_loosens parts w y b tight)
one_found_lemma parts w None None a b = refl
