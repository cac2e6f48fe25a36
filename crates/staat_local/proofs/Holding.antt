-- The graph of the parts that hold each other back, and the sides that begin to move.
use Rattle.std.proofs.Common.{◌≡◌, ◌≢◌, ◌↔◌, ℕ, ◌+◌, ◌<◌, ◌≤◌, pos, ◌<ℤ◌, sym, ap, subst, arith, Bool, List, length, All, Contains}
use Rattle.std.specs.Prelude.{slice_set}
use Rattle.std.specs.FinSet as set
use Rattle.std.specs.Int.{bit_at}
use Rattle.staat_vec.specs.declared.vector.V3.{V3}
use Rattle.staat_vec.specs.Vectors.{dot, negative, origin}
use Rattle.staat_model.specs.declared.assembly.Part.{Part}
use Rattle.staat_model.specs.declared.certificate.Arc.{Arc}
use Rattle.staat_model.specs.declared.set.PartSet.{PartSet}
use Rattle.staat_model.specs.Assemblies.{HoldsAt, IsAssembly, piece_at}
use Rattle.staat_model.specs.Cells.{IsBorder, signs_of}
use Rattle.staat_model.specs.Meeting.{Meets}
use Rattle.staat_model.specs.Planes.{ArePlanes, vertices}
use Rattle.staat_model.specs.Plans.{IsStuck}
use Rattle.staat_model.specs.Removal.{HoldsAlong, MeetsAlong}
use Rattle.staat_model.specs.Sets.{AreApart, Has, IsSubset}
use Rattle.staat_model.proofs.GraphLemmas.{arc_from_border, at_pieces}
use Rattle.staat_model.proofs.RestrictLemmas.{rest_apart, rest_within}
use Rattle.staat_model.proofs.Reversed.{meets_opposite_lemma}
use Rattle.staat_model.proofs.VertexLemmas.{holds_axes, vertex_on_border_lemma}
use Rattle.staat_graph.specs.Blocking.{ShowsBlockingBy}
use Rattle.staat_graph.specs.Graphs.{HasArc}
use Rattle.staat_graph.proofs.Arcs.{row_set}
use Rattle.staat_pairs.specs.Searches.{arc_of}
use Rattle.staat_pairs.specs.Tables.{IsTableArc, Table, WasMadeFrom, back, facets_of, slot}
use Rattle.staat_planes.proofs.GraphLaw.{meets_at}
use Rattle.staat_local.specs.Beginnings.{HoldsBack, HoldsBetween, IsLoose, IsTight, Loosens}
use Rattle.staat_local.specs.Contacts.{Contact, Starts}
use Rattle.staat_local.specs.Touching.{AreMarks, IsPairMarked}
use Rattle.staat_local.proofs.ByFacets.{starts_by_contact_lemma}
use Rattle.staat_local.proofs.Contacts.{meets_of_start}
use Rattle.staat_local.proofs.TouchMarks.{contact_back}
use Rattle.staat_vec.proofs.Options.{one_answer}
use Rattle.staat_model.proofs.OtherSides.{back_in, other_side}
use Rattle.staat_model.proofs.PlanLemmas.{piece_within}

-- ---- rows of a graph

-- the arcs of R that lead from the parts below n
abbrev pub HasFirstRows : (R : ℕ → ℕ → Type 0) (n : ℕ) (rows : List ℕ) → Type 0
HasFirstRows R n rows = (a b : ℕ) → HasArc rows a b ↔ (R a b × (a < n))

-- one more row
pub row_more : (R : ℕ → ℕ → Type 0) (rows : List ℕ) (n word : ℕ) (held : PartSet) → n < length rows → HasFirstRows R n rows → ((b : ℕ) → Has held b ↔ R n b) → ((b : ℕ) → Has held b ↔ (bit_at word b ≡ 1))
    → HasFirstRows R (n + 1) (slice_set rows n word)
row_more R rows n word held lt before now bits a b =
    row_set rows n a word (λ a b. R a b × (a < n + 1)) lt
    (λ q. (λ h. ((now q).0 ((bits q).1 h), omega arith), λ h. (bits q).0 ((now q).1 h.0)))
    (λ q ne. (λ h. let r = (before a q).0 h in (r.0, let below = r.1 in omega (arith, below)), λ h. (before a q).1 (h.0, let below = h.1 in omega (arith, below, ne)))) b

-- ---- what the marked graph says of an assembly

-- the pieces of an arc collide at once where they touch and meet
pub starts_at : (parts : List Part) (d : V3) (arc : Arc) → IsAssembly parts → HoldsAlong Starts parts d arc ↔ (HoldsAt parts arc Contact × MeetsAlong parts d arc)
starts_at parts d arc is = (
  (λ h. (
    at_pieces parts arc (λ p q. Starts p q d) Contact is.each (λ p q p_is q_is is_p is_q s. ((starts_by_contact_lemma p q d is_p is_q).0 s).0) h,
    at_pieces parts arc (λ p q. Starts p q d) (λ p q. Meets p q d) is.each (λ p q p_is q_is is_p is_q s. ((starts_by_contact_lemma p q d is_p is_q).0 s).1) h,
  )),
  λ both.
      let m = both.1 in
      at_pieces parts arc Contact (λ p q. Starts p q d) is.each (λ p q p_is q_is is_p is_q c.
      let first : m.p ≡ p = one_answer (piece_at parts arc.a arc.i) m.p p m.p_is p_is in
      let second : m.q ≡ q = one_answer (piece_at parts arc.b arc.j) m.q q m.q_is q_is in
      (starts_by_contact_lemma p q d is_p is_q).1 (c, subst (λ x. Meets x q d) first (subst (λ y. Meets m.p y d) second m.holds))) both.0,
)

module _ (parts : List Part) (t : Table) (marks : List Bool) (made : WasMadeFrom parts t) (are : AreMarks parts t marks) (d : V3) where
  starts_by_marks : (arc : Arc) → IsTableArc t arc → HoldsAlong Starts parts d arc ↔ (IsPairMarked marks (slot t.pieces arc) × All (λ n. pos 0 <ℤ dot n d) (facets_of t arc))
  starts_by_marks arc across =
      let law = starts_at parts d arc made.assembly in
      let meets = meets_at parts t d arc made.assembly (made.facets arc across) in
      (λ s. ((are arc across).1 (law.0 s).0, meets.0 (law.0 s).1), λ h. law.1 ((are arc across).0 h.0, meets.1 h.1))

  pub holding_is : (a b : ℕ) → HoldsBetween t marks d a b ↔ HoldsBack parts t.of d a b
  holding_is a b = (
    (λ h. record {
      a_in = h.across.a_in;
      b_in = h.across.b_in;
      starts = record { i = h.i; j = h.j; different = h.across.different; meets = (starts_by_marks (arc_of a h.i b h.j) h.across).1 (h.marked, h.ahead) };
    }),
    λ h.
        let block = h.starts in
        let m = block.meets in
        let across : IsTableArc t (arc_of a block.i b block.j) = record {
          a_in = h.a_in;
          b_in = h.b_in;
          different = block.different;
          i_is = subst (λ n. block.i < n) (sym (made.pieces a h.a_in)) (piece_within parts a block.i m.p m.p_is);
          j_is = subst (λ n. block.j < n) (sym (made.pieces b h.b_in)) (piece_within parts b block.j m.q m.q_is);
        } in
        let both = (starts_by_marks (arc_of a block.i b block.j) across).0 m in
        record { i = block.i; j = block.j; across = across; marked = both.0; ahead = both.1 },
  )

  module _ (rows : List ℕ) (arcs : (a b : ℕ) → HasArc rows a b ↔ HoldsBetween t marks d a b) where
    pub arcs_hold_back : (a b : ℕ) → HasArc rows a b ↔ HoldsBack parts t.of d a b
    arcs_hold_back a b = let law = holding_is a b in (λ h. law.0 ((arcs a b).0 h), λ h. (arcs a b).1 (law.1 h))

    pub shows_starts : (w : PartSet) → IsSubset w t.of → ShowsBlockingBy Starts parts d w rows
    shows_starts w within a b a_in b_in = (λ h. ((arcs_hold_back a b).0 h).starts, λ h. (arcs_hold_back a b).1 (record { a_in = within a a_in; b_in = within b b_in; starts = h }))

-- ---- the opposite direction

-- the second piece collides at once with the first where the first does with the second the other way
starts_turned : (parts : List Part) (d : V3) (arc : Arc) → IsAssembly parts → HoldsAlong Starts parts d arc → HoldsAlong Starts parts (negative d) (back arc)
starts_turned parts d arc is h =
    let both = (starts_at parts d arc is).0 h in
    let m = both.1 in
    (starts_at parts (negative d) (back arc) is).1
    (contact_back parts arc both.0, record { p = m.q; q = m.p; p_is = m.q_is; q_is = m.p_is; holds = (meets_opposite_lemma m.q m.p d).1 m.holds })

-- where a side is loose along the opposite of d, the rest is loose along d
pub loosens_turned : (parts : List Part) (w : PartSet) (d : V3) → IsAssembly parts → Loosens parts w (negative d) → Loosens parts w d
loosens_turned parts w d is l =
    let free = l.free in record {
      side = set.difference w l.side;
      is_side = other_side w l.side l.is_side;
      free = record {
        moves = λ e. free.moves (ap negative e);
        clear = λ arc ha hb starts. free.clear (back arc) (back_in w l.side arc.b hb) ha (starts_turned parts d arc is starts);
      };
    }

-- ---- vertices decide

module _ (parts : List Part) (w : PartSet) (planes : List V3) (is : IsAssembly parts) (are : ArePlanes parts w planes) where
  -- what is loose along a direction is loose on the border of its cell
  loose_on_border : (s r : PartSet) (d v : V3) → IsSubset s w → IsSubset r w → AreApart s r → v ≢ origin → IsBorder (signs_of planes v) (signs_of planes d) → IsLoose parts s r d → IsLoose parts s r v
  loose_on_border s r d v s_in r_in apart some border free = record {
    moves = some;
    clear = λ arc a_in b_in starts.
        let both = (starts_at parts v arc is).0 starts in
        free.clear arc a_in b_in ((starts_at parts d arc is).1 (
          both.0,
          arc_from_border parts w planes d v arc is are border (s_in arc.a a_in) (r_in arc.b b_in) (λ e. apart arc.a a_in (subst (Has r) (sym e) b_in)) both.1,
        ));
  }

  pub tight_at_vertices : 2 ≤ set.len w → ((v : V3) → Contains (vertices planes) v → Loosens parts w v → ⊥) → IsTight parts w
  tight_at_vertices two none = record {
    two = two;
    held = λ s d side free.
        let at = vertex_on_border_lemma planes d (holds_axes parts w planes are) free.moves in
        none at.v at.vertex (record { side = s; is_side = side; free = loose_on_border s (set.difference w s) d at.v side.within (rest_within w s) (rest_apart w s) at.nonzero at.border free });
  }

-- a set that no move begins to take apart is stuck
pub tight_is_stuck_lemma : (parts : List Part) (w : PartSet) → IsTight parts w → IsStuck parts w
tight_is_stuck_lemma parts w tight = record {
  two = tight.two;
  held = λ s d side free. tight.held s d side (record { moves = free.moves; clear = λ arc ha hb h. free.clear arc ha hb (record { p = h.p; q = h.q; p_is = h.p_is; q_is = h.q_is; holds = meets_of_start h.p h.q d h.holds }) });
}
