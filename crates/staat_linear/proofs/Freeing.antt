-- A part is free of the others of a set along a direction exactly where no arc of the blocking graph leads from it to one of them.
use Rattle.std.proofs.Common.{◌≡◌, ◌≢◌, ⊎_elim, ℕ, ◌≤◌, sym, subst, ◌∙◌, List, refl, inl}
use Rattle.staat_vec.specs.declared.vector.V3.{V3}
use Rattle.staat_vec.specs.Vectors.{negative, origin}
use Rattle.staat_model.specs.declared.assembly.Part.{Part}
use Rattle.staat_model.specs.declared.certificate.Arc.{Arc}
use Rattle.staat_model.specs.declared.set.PartSet.{PartSet}
use Rattle.staat_model.specs.Sets.{Has, single}
use Rattle.staat_model.proofs.GraphLemmas.{opposite_blocks_lemma}
use Rattle.staat_model.proofs.SetMembers.{has-difference, has-single}
use Rattle.staat_graph.specs.Blocking.{ShowsBlocking}
use Rattle.staat_graph.specs.Graphs.{AreReversed, HasArc}
use Rattle.staat_core.specs.declared.joins.Moving.TheVariants.{OnePart}
use Rattle.staat_core.specs.Moves.{HoldsMoves}
use Rattle.staat_linear.specs.Holding.{AreHeld, IsHeld, IsLeastFree, IsLeastLeaving}
use Rattle.staat_linear.specs.Orders.{LeavesAlong, LetsLeave}
use Rattle.staat_linear.proofs.Locked.{has-without}
use Rattle.staat_vec.proofs.Naturals.{le_or_lt}

-- the reversed graph is that of the opposite direction
pub shows_back : (parts : List Part) (w : PartSet) (d : V3) (rows back : List ℕ) → ShowsBlocking parts d w rows → AreReversed rows back → ShowsBlocking parts (negative d) w back
shows_back parts w d rows back shows reversed a b a_in b_in =
    let law = opposite_blocks_lemma parts d a b in
    let s = shows b a b_in a_in in
    (λ h. law.1 (s.0 ((reversed a b).0 h)), λ h. (reversed a b).1 (s.1 (law.0 h)))

module _ (parts : List Part) (w : PartSet) (d : V3) (rows : List ℕ) (shows : ShowsBlocking parts d w rows) where
  -- what is held does not leave
  pub held_stays : (p : ℕ) → IsHeld rows w p → LeavesAlong parts w d p → ⊥
  held_stays p (q, q_in, apart, arc) leaves =
      let block = (shows p q leaves.member q_in).0 arc in
      leaves.free.clear (record { a = p; i = block.i; b = q; j = block.j }) ((has-single p p).1 refl) (has-without w p q q_in apart) block.meets

  -- what nothing holds leaves
  pub free_leaves : (p : ℕ) → d ≢ origin → Has w p → (IsHeld rows w p → ⊥) → LeavesAlong parts w d p
  free_leaves p some has free = record {
    member = has;
    free = record {
      moves = some;
      clear = λ arc from to meets.
          let at : arc.a ≡ p = (has-single p arc.a).0 from in
          let out = (has-difference w (single p) arc.b).0 to in
          let apart : arc.b ≢ p = λ e. out.1 ((has-single p arc.b).1 e) in
          let has_a : Has w arc.a = subst (Has w) (sym at) has in
          let arc_in = (shows arc.a arc.b has_a out.0).1 (record { i = arc.i; j = arc.j; different = λ e. apart (sym e ∙ at); meets = meets }) in
          free (arc.b, out.0, apart, subst (λ k. HasArc rows k arc.b) at arc_in);
    };
  }

  pub none_leaves : AreHeld rows w → LetsLeave parts w d → ⊥
  none_leaves held (p, leaves) = held_stays p (held p leaves.member) leaves

  pub least_leaves : (p : ℕ) → d ≢ origin → IsLeastFree rows w p → IsLeastLeaving parts w d p
  least_leaves p some h = record {
    leaves = free_leaves p some h.member h.free;
    least = λ q leaves. ⊎_elim {C = p ≤ q} (λ le. le) (λ lt. absurd (held_stays q (h.before q leaves.member lt) leaves)) (le_or_lt p q);
  }

-- where no part moves as far as some arcs tell, none leaves
pub nothing_leaves : (parts : List Part) (w : PartSet) (d : V3) (arcs : List Arc) → HoldsMoves parts arcs OnePart w d → (p : ℕ) → LeavesAlong parts w d p → ⊥
nothing_leaves parts w d arcs held p leaves = held (single p) (p, leaves.member, inl refl) (λ arc listed a_in b_in m. leaves.free.clear arc a_in b_in m)
