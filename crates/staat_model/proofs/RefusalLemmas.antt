-- A refusal that keeps its rules is right: its set is stuck, and no plan takes all parts apart.
use Rattle.std.proofs.Common.{ℕ, pos, ◌<ℤ◌, sym, subst, inl, inr, ⊎_elim, List, [], ◌∷◌, map, length, All, Contains}
use Rattle.std.specs.FinSet as set
use Rattle.std.proofs.lemmas.List.Elements.{All-contains}
use Rattle.staat_vec.specs.declared.vector.V3.{V3}
use Rattle.staat_vec.specs.Vectors.{dot, negative}
use Rattle.staat_model.specs.declared.assembly.Part.{Part}
use Rattle.staat_model.specs.declared.set.PartSet.{PartSet}
use Rattle.staat_model.specs.declared.certificate.Arc.{Arc}
use Rattle.staat_model.specs.declared.certificate.Dir.{Dir}
use Rattle.staat_model.specs.declared.certificate.Witness.{Witness}
use Rattle.staat_model.specs.Sets.{Has, IsSide, single, below}
use Rattle.staat_model.specs.Assemblies.{IsAssembly}
use Rattle.staat_model.specs.Facets.{IsFacet}
use Rattle.staat_model.specs.Meeting.{Meets}
use Rattle.staat_model.specs.Removal.{IsFree}
use Rattle.staat_model.specs.Plans.{Plan, IsGood, IsStuck}
use Rattle.staat_model.specs.Planes.{vertices}
use Rattle.staat_model.specs.Certificates.{RefusalHolds, IsWitness, IsArcWithin, IsBlocked, IsBlocking, HasLine, IsListed, ReachesAll, outward, inward}
use Rattle.staat_model.proofs.Differences.{from_map}
use Rattle.staat_model.proofs.SetMembers.{has-difference, has-insert, has-single}
use Rattle.staat_model.proofs.SetWords.{same_members}
use Rattle.staat_model.proofs.PieceFacets.{meets_by_facets_lemma}
use Rattle.staat_model.proofs.GraphLemmas.{at_pieces}
use Rattle.staat_model.proofs.OtherSides.{other_free, other_side}
use Rattle.staat_model.proofs.VertexLemmas.{stuck_at_vertices_lemma}
use Rattle.staat_model.proofs.RestrictLemmas.{restrict_lemma}
use Rattle.staat_vec.proofs.Unique.{Contains-front, from_place}
use Rattle.staat_vec.proofs.ListLaws.{Contains-there}
use Rattle.staat_model.proofs.FreeSides.{member_or}

-- ---- what is reached

-- what holds of the parts from which the arcs begin, and is passed on along each, holds of all that is reached
reached_all : (w : PartSet) (P : ℕ → Type 0) (step : Arc → ℕ × ℕ) (arcs : List Arc) → ((arc : Arc) → Contains arcs arc → P (step arc).0 → P (step arc).1)
    → (reached : PartSet) → ((p : ℕ) → Has reached p → P p) → ReachesAll w reached (map step arcs) → (p : ℕ) → Has w p → P p
reached_all w P step [] pass reached known r p h = known p (subst (λ s. Has s p) (sym r) h)
reached_all w P step (arc ∷ arcs) pass reached known (from, to, new, rest) p h =
    reached_all w P step arcs (λ other c. pass other (Contains-there arc other arcs c)) (set.insert reached (step arc).1)
    (λ q has. ⊎_elim (λ e. subst P (sym e) (pass arc (Contains-front arc arcs) (known (step arc).0 from))) (known q) ((has-insert reached (step arc).1 q).0 has)) rest p h

module _ (parts : List Part) (is : IsAssembly parts) (w s : PartSet) (v : V3) (side : IsSide w s) (free : IsFree parts s (set.difference w s) v) (witness : Witness) (holds : IsWitness parts w witness)
    (outs : All (IsBlocking parts v) witness.outs) (ins : All (IsBlocking parts v) witness.ins) where
  -- no arc leads out of the side
  stays : (arc : Arc) → IsBlocking parts v arc → Has w arc.b → Has s arc.a → Has s arc.b
  stays arc b in_w in_s =
      let meets = at_pieces parts arc (λ p q. (n : V3) → IsFacet p q n → pos 0 <ℤ dot n v) (λ p q. Meets p q v) is.each (λ p q p_is q_is is_p is_q ahead. (meets_by_facets_lemma p q v is_p is_q).1 ahead) b in
      ⊎_elim (λ h. h) (λ n. absurd (free.clear arc in_s ((has-difference w s arc.b).1 (in_w, n)) meets)) (member_or s arc.b)

  all_in : Has s holds.root → (p : ℕ) → Has w p → Has s p
  all_in at_root =
      reached_all w (Has s) outward witness.outs
      (λ arc c from. stays arc (All-contains (IsBlocking parts v) witness.outs arc outs c) (All-contains (IsArcWithin parts w) witness.outs arc holds.outs c).across.b_in from)
      (single holds.root) (λ p h. subst (Has s) (sym ((has-single holds.root p).0 h)) at_root) holds.outs_reach

  none_in : (Has s holds.root → ⊥) → (p : ℕ) → Has w p → Has s p → ⊥
  none_in off_root =
      reached_all w (λ p. Has s p → ⊥) inward witness.ins
      (λ arc c out into. out (stays arc (All-contains (IsBlocking parts v) witness.ins arc ins c) (All-contains (IsArcWithin parts w) witness.ins arc holds.ins c).across.b_in into))
      (single holds.root) (λ p h in_s. off_root (subst (Has s) ((has-single holds.root p).0 h) in_s)) holds.ins_reach

  not_free : ⊥
  not_free = elim (member_or s holds.root) [
    | inl h ↦ side.proper (same_members s w side.within (all_in h))
    | inr n ↦ (let some = side.nonempty in none_in n some.0 (side.within some.0 some.1) some.1)
  ]

-- ---- the refusal

pub refusal_is_stuck : (parts : List Part) (version stated : ℕ) (w : PartSet) (witnesses : List Witness) (dirs : List Dir) → IsAssembly parts → RefusalHolds parts version stated w witnesses dirs → IsStuck parts w
refusal_is_stuck parts version stated w witnesses dirs is valid =
    stuck_at_vertices_lemma parts w valid.planes is valid.planes_are valid.stuck_set.two at_vertex
  where
    -- the witness of a line keeps each side from being free along its direction
    at_line : (dir : Dir) (s : PartSet) → Contains dirs dir → IsSide w s → IsFree parts s (set.difference w s) dir.d → ⊥
    at_line dir s in_dirs side free =
        let b = All-contains (IsBlocked parts witnesses) dirs dir valid.blocked in_dirs in
        not_free parts is w s dir.d side free b.witness (All-contains (IsWitness parts w) witnesses b.witness valid.trees (from_place witnesses dir.witness b.witness b.witness_is)) b.outs b.ins

    at_direction : (d : V3) (s : PartSet) → HasLine dirs d → IsSide w s → IsFree parts s (set.difference w s) d → ⊥
    at_direction d s has side free = let (dir, in_dirs, same) = from_map (λ dir. dir.d) dirs d has in at_line dir s in_dirs side (subst (IsFree parts s (set.difference w s)) same free)

    at_vertex : (v : V3) (s : PartSet) → Contains (vertices valid.planes) v → IsSide w s → IsFree parts s (set.difference w s) v → ⊥
    at_vertex v s vertex side free = elim (All-contains (IsListed version dirs) (vertices valid.planes) v valid.all vertex) [
      | inl has ↦ at_direction v s has side free
      | inr opposite ↦ at_direction (negative v) (set.difference w s) opposite.1 (other_side w s side) (other_free parts w s v side.within free)
    ]

pub refusal_is_right_lemma : (parts : List Part) (version stated : ℕ) (w : PartSet) (witnesses : List Witness) (dirs : List Dir) → IsAssembly parts → RefusalHolds parts version stated w witnesses dirs
    → IsStuck parts w × ((plan : Plan) → IsGood parts (below (length parts)) plan → ⊥)
refusal_is_right_lemma parts version stated w witnesses dirs is valid =
    let stuck = refusal_is_stuck parts version stated w witnesses dirs is valid in
    (stuck, λ plan good. restrict_lemma parts w stuck plan (below (length parts)) valid.stuck_set.within good)
