use Rattle.std.proofs.Common.{◌≡◌, ◌⊎◌, inl, inr, ⊎_elim, refl, rules}
use Rattle.staat_model.specs.Sets.{Has}
use Rattle.staat_graph.specs.Graphs.{HasArc}
use Rattle.staat_graph.proofs.Arcs.{row_set}
use Rattle.staat_graph.proofs.Finite.{len_fewer}
use Rattle.staat_vec.proofs.Truth.{false_test_clash}
use Rattle.staat_graph.proofs.graph.lead_to.Goals as goal

pub parts-init : goal.parts-init
parts-init c = record {
  long = search rules;
  within = λ q h. h;
  added = λ b q. (inl, λ s. ⊎_elim {C = HasArc c.args.rows.now b q} (λ h. h) (λ m. absurd (m.1 m.0)) s);
}

pub parts-preserved : goal.parts-preserved
parts-preserved c =
    let b0 = c.least-b.result in
    let own : Has c.parts.left b0 = c.least-b.ensures.least.has in
    let i = c.parts.invariant in
    let gone : Has c.without-left.result b0 → ⊥ = λ h. ((c.without-left.ensures.members b0).0 h).1 ((c.single.ensures.members b0).1 refl) in
    record {
      long = search rules;
      within = λ q h. i.within q ((c.without-left.ensures.members q).0 h).0;
      added = λ b q. row_set c.parts.rows b0 b c.bits.result (λ b q. HasArc c.args.rows.now b q ⊎ (Has c.args.from b × (Has c.without-left.result b → ⊥) × (q ≡ c.args.a)))
          (search rules)
          (λ q. (
            λ h. ⊎_elim {C = HasArc c.args.rows.now b0 q ⊎ (Has c.args.from b0 × (Has c.without-left.result b0 → ⊥) × (q ≡ c.args.a))}
                (λ r. ⊎_elim (λ old. inl old) (λ m. absurd (m.1 own)) ((i.added b0 q).0 ((c.from_bits.ensures q).0 r)))
                (λ t. inr (i.within b0 own, gone, (c.single-to.ensures.members q).0 t))
                ((c.union.ensures.members q).0 ((c.bits.ensures.bit q).1 h)),
            λ s. (c.bits.ensures.bit q).0 ((c.union.ensures.members q).1 (⊎_elim
                (λ old. inl ((c.from_bits.ensures q).1 ((i.added b0 q).1 (inl old))))
                (λ m. inr ((c.single-to.ensures.members q).1 m.2)) s)),
          ))
          (λ q ne. (
            λ h. ⊎_elim {C = HasArc c.args.rows.now b q ⊎ (Has c.args.from b × (Has c.without-left.result b → ⊥) × (q ≡ c.args.a))}
                (λ old. inl old)
                (λ m. inr (m.0, (λ l. m.1 ((c.without-left.ensures.members b).0 l).0), m.2))
                ((i.added b q).0 h),
            λ s. (i.added b q).1 (⊎_elim {C = HasArc c.args.rows.now b q ⊎ (Has c.args.from b × (Has c.parts.left b → ⊥) × (q ≡ c.args.a))}
                (λ old. inl old)
                (λ m. inr (m.0, (λ l. m.1 ((c.without-left.ensures.members b).1 (l, λ e. ne ((c.single.ensures.members b).0 e)))), m.2)) s),
          )) q;
    }

pub parts-smaller : goal.parts-smaller
parts-smaller c =
    let b0 = c.least-b.result in
    len_fewer c.without-left.result c.parts.left b0 (λ q h. ((c.without-left.ensures.members q).0 h).0) c.least-b.ensures.least.has
    (λ h. ((c.without-left.ensures.members b0).0 h).1 ((c.single.ensures.members b0).1 refl))

pub returns : goal.returns
returns c = λ b q.
    let none : Has c.parts.left b → ⊥ = λ h. false_test_clash c.meets.result c.parts-test.false (c.meets.ensures.1 (b, h, h)) in
    let i = c.parts.invariant.added b q in (
      λ h. ⊎_elim {C = HasArc c.args.rows.now b q ⊎ (Has c.args.from b × (q ≡ c.args.a))} (λ old. inl old) (λ m. inr (m.0, m.2)) (i.0 h),
      λ s. i.1 (⊎_elim {C = HasArc c.args.rows.now b q ⊎ (Has c.args.from b × (Has c.parts.left b → ⊥) × (q ≡ c.args.a))} (λ old. inl old) (λ m. inr (m.0, none, m.1)) s),
    )
