-- The arcs of a table at a direction are those of the blocking graph of each assembly that it was made from.
use Rattle.std.proofs.Common.{◌≡◌, ◌↔◌, ℕ, ◌<◌, sym, subst, ◌∙◌, pos, ◌<ℤ◌, List, All}
use Rattle.staat_vec.specs.declared.vector.V3.{V3}
use Rattle.staat_vec.specs.Lists.{Lists}
use Rattle.staat_vec.specs.Vectors.{dot, vector_cmp}
use Rattle.staat_model.specs.declared.assembly.Part.{Part}
use Rattle.staat_model.specs.declared.certificate.Arc.{Arc}
use Rattle.staat_model.specs.Assemblies.{HoldsAt, IsAssembly}
use Rattle.staat_model.specs.Facets.{IsFacet}
use Rattle.staat_model.specs.Meeting.{Meets}
use Rattle.staat_model.specs.Removal.{MeetsAlong}
use Rattle.staat_model.specs.Sets.{IsSubset}
use Rattle.staat_model.proofs.GraphLemmas.{piece_is}
use Rattle.staat_graph.specs.Blocking.{ShowsBlocking}
use Rattle.staat_graph.specs.Graphs.{HasArc}
use Rattle.staat_model.specs.declared.set.PartSet.{PartSet}
use Rattle.staat_cone.proofs.WallLemmas.{meets_by_list}
use Rattle.staat_pairs.specs.Tables.{IsTableArc, Table, WasMadeFrom, facets_of}
use Rattle.staat_planes.specs.Tables.{BlocksIn, IsAhead, IsAheadIn}
use Rattle.staat_vec.proofs.Options.{some_injective}
use Rattle.staat_model.proofs.PlanLemmas.{piece_within}

-- the two pieces of an arc meet exactly where d leads ahead of their facets
pub meets_at : (parts : List Part) (t : Table) (d : V3) (arc : Arc) → IsAssembly parts → HoldsAt parts arc (λ p q. Lists vector_cmp (IsFacet p q) (facets_of t arc)) → MeetsAlong parts d arc ↔ All (λ n. pos 0 <ℤ dot n d) (facets_of t arc)
meets_at parts t d arc is h =
    let law = meets_by_list h.p h.q (facets_of t arc) d (piece_is parts arc.a arc.i h.p is h.p_is) (piece_is parts arc.b arc.j h.q is h.q_is) (λ n. (h.holds.each n, h.holds.all n)) in (
      (λ m.
          let first : m.p ≡ h.p = some_injective m.p h.p (sym m.p_is ∙ h.p_is) in
          let second : m.q ≡ h.q = some_injective m.q h.q (sym m.q_is ∙ h.q_is) in
          law.0 (subst (λ p. Meets p h.q d) first (subst (λ q. Meets m.p q d) second m.holds))),
      λ ahead. record { p = h.p; q = h.q; p_is = h.p_is; q_is = h.q_is; holds = law.1 ahead },
    )

pub ahead_is_blocking : (parts : List Part) (t : Table) (d : V3) (a b : ℕ) → WasMadeFrom parts t → IsAhead t d a b ↔ BlocksIn parts t.of d a b
ahead_is_blocking parts t d a b made = (
  λ h. record {
    a_in = h.across.a_in;
    b_in = h.across.b_in;
    blocks = record {
      i = h.i;
      j = h.j;
      different = h.across.different;
      meets = (meets_at parts t d (record { a = a; i = h.i; b = b; j = h.j }) made.assembly (made.facets (record { a = a; i = h.i; b = b; j = h.j }) h.across)).1 h.ahead;
    };
  },
  λ h.
      let block = h.blocks in
      let m = block.meets in
      let arc : Arc = record { a = a; i = block.i; b = b; j = block.j } in
      let across : IsTableArc t arc = record {
        a_in = h.a_in;
        b_in = h.b_in;
        different = block.different;
        i_is = subst (λ n. block.i < n) (sym (made.pieces a h.a_in)) (piece_within parts a block.i m.p m.p_is);
        j_is = subst (λ n. block.j < n) (sym (made.pieces b h.b_in)) (piece_within parts b block.j m.q m.q_is);
      } in
      record { i = block.i; j = block.j; across = across; ahead = (meets_at parts t d arc made.assembly (made.facets arc across)).0 m },
)

-- among the parts of a smaller set
pub arcs_in_are_blocking : (parts : List Part) (t : Table) (w : PartSet) (d : V3) (rows : List ℕ) → WasMadeFrom parts t → IsSubset w t.of → ((a b : ℕ) → HasArc rows a b ↔ IsAheadIn t w d a b) → (a b : ℕ) → HasArc rows a b ↔ BlocksIn parts w d a b
arcs_in_are_blocking parts t w d rows made within arcs a b =
    let law = ahead_is_blocking parts t d a b made in (
      (λ h. let r = (arcs a b).0 h in record { a_in = r.a_in; b_in = r.b_in; blocks = (law.0 r.ahead).blocks }),
      (λ h. (arcs a b).1 (record { a_in = h.a_in; b_in = h.b_in; ahead = law.1 (record { a_in = within a h.a_in; b_in = within b h.b_in; blocks = h.blocks }) })),
    )

pub shows_in : (parts : List Part) (w : PartSet) (d : V3) (rows : List ℕ) → ((a b : ℕ) → HasArc rows a b ↔ BlocksIn parts w d a b) → ShowsBlocking parts d w rows
shows_in parts w d rows arcs a b a_in b_in = (λ h. ((arcs a b).0 h).blocks, λ h. (arcs a b).1 (record { a_in = a_in; b_in = b_in; blocks = h }))

pub arcs_are_blocking : (parts : List Part) (t : Table) (d : V3) (rows : List ℕ) → WasMadeFrom parts t → ((a b : ℕ) → HasArc rows a b ↔ IsAhead t d a b) → (a b : ℕ) → HasArc rows a b ↔ BlocksIn parts t.of d a b
arcs_are_blocking parts t d rows made arcs a b =
    let law = ahead_is_blocking parts t d a b made in
    (λ h. law.0 ((arcs a b).0 h), λ h. (arcs a b).1 (law.1 h))

pub shows_blocking : (parts : List Part) (t : Table) (d : V3) (rows : List ℕ) → ((a b : ℕ) → HasArc rows a b ↔ BlocksIn parts t.of d a b) → ShowsBlocking parts d t.of rows
shows_blocking parts t d rows arcs = shows_in parts t.of d rows arcs
