use Rattle.std.proofs.Common.{◌≡◌, ◌+◌, ◌≤◌, ◌∙◌, Option, arith, length, subst, sym, ℕ}
use Rattle.std.proofs.lemmas.Bool.{false≢true}
use Rattle.staat_vec.specs.Primitives.{IsCanon}
use Rattle.staat_vec.proofs.Truth.{false_test_clash}
use Rattle.staat_ring.specs.Belonging.{BelongTo}
use Rattle.staat_ring.specs.CountedSigns.{Signed}
use Rattle.staat_ring.specs.WholeCircles.{vertex_at}
use Rattle.staat_certify.specs.declared.visits.Found.{Found}
use Rattle.staat_certify.specs.Visits.{HasGone, IsVisitedTo}
use Rattle.staat_certify.proofs.VisitLemmas.{gone_more, gone_round}
use Rattle.staat_certify.proofs.visits.Survey.go_round.Goals as goal
use Rattle.staat_certify.proofs.visits.Survey.go_round.Goals.{then-listed+in_ok-told, else-listed}

pub loop-k-preserved : goal.loop-k-preserved
loop-k-preserved c =
    let parts = c.args.self.now.sound.now in
    let t = c.args.self.now.table.now in
    let version = c.args.self.now.version in
    let r = c.args.circle.now in
    let k = c.loop-k.k in
    let i = c.loop-k.invariant in
    elim c.if-listed.branch [
      | then-listed+in_ok-told w ↦
          let is = w.in_ok-told.ensures in
          record {
            made = subst (BelongTo t) (sym w.signs-is) is.made;
            gone = subst (λ (f : Found). HasGone parts t version f r (k + 1)) (sym w.found-is) is.gone;
            near = λ yes. subst (λ (s : Signed). IsVisitedTo parts t r s c.if-listed.found.witnesses.items c.if-listed.told (k + 1)) (sym w.signs-is)
                (subst (λ (f : Found). IsVisitedTo parts t r w.visit.new.signs f.witnesses.items c.if-listed.told (k + 1)) (sym w.found-is)
                (subst (λ (told : Option ℕ). IsVisitedTo parts t r w.visit.new.signs w.visit.new.found.witnesses.items told (k + 1)) (sym w.told-is) is.to));
            ahead = c.ahead_of-ahead.ensures;
          }
      | else-listed w ↦
          let unlisted : (version ≡ 2 → IsCanon (vertex_at t.planes r k)) → ⊥ = λ canonical. false_test_clash c.lists-listed.result w.if-listed.false (c.lists-listed.ensures.1 canonical) in
          record {
            made = subst (BelongTo t) (sym w.signs-is) i.made;
            gone = subst (λ (f : Found). HasGone parts t version f r (k + 1)) (sym w.found-is)
                (gone_more parts t version c.loop-k.found c.loop-k.found r k (λ v listed. listed) (λ below. i.gone.so_far) (λ canonical. absurd (unlisted canonical)) i.gone);
            near = λ yes. absurd (false≢true (sym w.if-listed.false ∙ yes));
            ahead = c.ahead_of-ahead.ensures;
          }
    ]

pub returns-clause-found : goal.returns-clause-found
returns-clause-found c =
    gone_round c.args.self.now.sound.now c.args.self.now.table.now c.set-set.ensures.rules.planes c.args.circle.now c.requires.circle c.args.self.now.version c.loop-k.found c.loop-k.k
    (let past : length c.args.circle.now.stops ≤ c.loop-k.k = omega (arith, c.loop-k-test.false, c.len-k-end.ensures) in past) c.loop-k.invariant.gone
