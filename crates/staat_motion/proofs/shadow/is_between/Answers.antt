use Rattle.std.proofs.Common.{◌≡◌, ◌≤ℤ◌, ℤ, T, false, inl, inr, of_z, pos, subst, sym, to_z, true}
use Rattle.std.specs.Prelude.{IsTrue}
use lib.Signed.{le_z}
use Rattle.std.specs.Int.{w128}
use Rattle.std.proofs.lemmas.Int.{to_z-of_z}
use Rattle.staat_motion.specs.Shadows.{HasGap}
use Rattle.staat_motion.proofs.shadow.is_between.Goals.{then-along-le0, else-along-le0}
use Rattle.staat_motion.proofs.shadow.is_between.Goals as goal

test_yes : (a b : ℤ) → le_z a b ≡ true → a ≤ℤ b
test_yes a b e = record { le = subst T (sym e) tt }

test_no : (a b : ℤ) → le_z a b ≡ false → a ≤ℤ b → ⊥
test_no a b e h = subst T e h.le

pub returns-then-lies_before : goal.returns-then-lies_before
returns-then-lies_before c =
    let at : to_z w128 (of_z w128 c.args.along) ≡ c.args.along = to_z-of_z w128 c.args.along c.ranges.along in
    elim c.if-along-le0.branch [
      | then-along-le0 w ↦
          let before : IsTrue w.lies_before.result = cc in
          let gap : HasGap c.args.along c.args.s c.args.t = inl (test_yes _ _ (rw (← at) w.if-along-le0.true), w.lies_before.ensures.0 before) in
          (λ _. gap, λ _. c.if-lies_before.true)
      | else-along-le0 w ↦ absurd cc
    ]

pub returns-then-along-ge0 : goal.returns-then-along-ge0
returns-then-along-ge0 c =
    let at : to_z w128 (of_z w128 c.args.along) ≡ c.args.along = to_z-of_z w128 c.args.along c.ranges.along in
    let ahead : pos 0 ≤ℤ c.args.along = test_yes _ _ (rw (← at) c.if-along-ge0.true) in
    let first : c.args.along ≤ℤ pos 0 → c.args.s.high ≤ℤ c.args.t.low → ⊥ = λ h k. elim c.if-along-le0.branch [
      | then-along-le0 w ↦ let told : IsTrue w.lies_before.result = w.lies_before.ensures.1 k in cc
      | else-along-le0 w ↦ test_no _ _ (rw (← at) w.if-along-le0.false) h
    ] in
    (λ t. inr (ahead, c.lies_before-then-along-ge0.ensures.0 t), λ g. elim g [ inl p ↦ absurd (first p.0 p.1) | inr p ↦ c.lies_before-then-along-ge0.ensures.1 p.1 ])

pub returns-else-along-ge0 : goal.returns-else-along-ge0
returns-else-along-ge0 c =
    let at : to_z w128 (of_z w128 c.args.along) ≡ c.args.along = to_z-of_z w128 c.args.along c.ranges.along in
    let first : c.args.along ≤ℤ pos 0 → c.args.s.high ≤ℤ c.args.t.low → ⊥ = λ h k. elim c.if-along-le0.branch [
      | then-along-le0 w ↦ let told : IsTrue w.lies_before.result = w.lies_before.ensures.1 k in cc
      | else-along-le0 w ↦ test_no _ _ (rw (← at) w.if-along-le0.false) h
    ] in
    (λ t. absurd cc, λ g. elim g [ inl p ↦ absurd (first p.0 p.1) | inr p ↦ absurd (test_no _ _ (rw (← at) c.if-along-ge0.false) p.0) ])
