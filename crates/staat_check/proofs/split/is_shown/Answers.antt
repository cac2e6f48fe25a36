use Rattle.std.proofs.Common.{◌≡◌, ◌∙◌, ℤ, ◌<◌, ◌^◌, ◌↔◌, ◌≤ℤ◌, pos, refl, sym, subst, to_z, of_z, unsigned_abs, arith}
use Rattle.std.specs.Prelude.{IsTrue}
use Rattle.std.specs.Int.{w128}
use Rattle.std.specs.Int.Signed.{le_z}
use Rattle.std.proofs.lemmas.Bool.{false≢true}
use Rattle.staat_vec.proofs.Bounds.{wide}
use Rattle.staat_model.specs.Walls.{IsBeyond}
use Rattle.staat_vec.proofs.Options.{one_answer}
use Rattle.staat_check.proofs.split.is_shown.Goals as goal

away_from : (z dot : ℤ) → unsigned_abs z < 2 ^ 127 → z ≡ dot → IsTrue (le_z (to_z w128 (of_z w128 z)) (pos 0)) ↔ (dot ≤ℤ pos 0)
away_from z dot small is = (λ t. grind (arith, wide, small, is, t), λ h. grind (arith, wide, small, is, h))

pub returns-then-separates : goal.returns-then-separates
returns-then-separates c =
    let wall = c.if-separates.ensures.0 refl in
    let away = away_from c.dot.result _ (omega arith) c.dot.ensures.value in (
      λ t. record {
        p = c.piece-p.result.now;
        q = c.piece-q.result.now;
        p_is = c.piece-p.ensures;
        q_is = c.piece-q.ensures;
        holds = record { wall = wall.0; beyond = wall.1; away = away.0 t };
      },
      λ h. away.1 h.holds.away,
    )

pub returns-else-separates : goal.returns-else-separates
returns-else-separates c = (
  λ t. absurd (false≢true (sym c.if-separates.false ∙ t)),
  λ h.
      let n = c.args.sep.n in
      let p = one_answer _ h.p c.piece-p.result.now h.p_is c.piece-p.ensures in
      let q = one_answer _ h.q c.piece-q.result.now h.q_is c.piece-q.ensures in
      c.separates.ensures.1 (h.holds.wall, subst (λ x. IsBeyond x c.piece-q.result.now n) p (subst (λ y. IsBeyond h.p y n) q h.holds.beyond)),
)
