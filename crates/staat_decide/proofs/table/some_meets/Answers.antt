use Rattle.std.proofs.Common.{◌∙◌, ◌≤◌, ◌<◌, ℕ, arith, refl, subst, sym}
use Rattle.std.proofs.lemmas.Bool.{false≢true}
use Rattle.staat_decide.specs.Keeping.{MeetsSome}
use Rattle.staat_decide.proofs.table.some_meets.Goals as goal
use Rattle.staat_model.proofs.PlanLemmas.{piece_within}
use borrow.Author.Count.{below_more}

pub returns-clause-answer : goal.returns-clause-answer
returns-clause-answer g c = (
  λ e. absurd (false≢true e),
  λ b. let lt = piece_within c.args.view.now.parts.now c.args.a b.i b.meets.p b.meets.p_is in
      absurd (c.loop-i.invariant.none b.i (omega (arith, lt, c.requires.first, c.loop-i-test.false)) (record { j = b.j; meets = b.meets })),
)

pub meets_some-requires : goal.meets_some-requires
meets_some-requires g c = record {
  made = c.requires.made;
  a_in = c.requires.a_in;
  i_in = subst (λ n. c.loop-i.i < n) c.requires.first c.loop-i-test.true;
  b_in = c.requires.b_in;
  count = c.requires.second;
  some = subst (λ n. 1 ≤ n) (sym c.loop-i.invariant.some) c.requires.some;
  kept = c.loop-i.invariant.kept;
}

pub loop-i-preserved : goal.loop-i-preserved
loop-i-preserved g c =
    let Free : ℕ → Type 0 = λ k. MeetsSome c.args.view.now.parts.now c.args.view.now.along.now.d c.args.a k c.args.b → ⊥ in
    let here : Free c.loop-i.i = λ m. false≢true (sym c.if-branch.false ∙ c.in_ok-meets_some.ensures.answer.1 m) in
    record {
      some = c.in_ok-meets_some.ensures.some ∙ c.loop-i.invariant.some;
      kept = c.in_ok-meets_some.ensures.kept;
      none = below_more Free c.loop-i.i c.loop-i.invariant.none here;
    }

pub returns-then-branch : goal.returns-then-branch
returns-then-branch g c =
    let found = c.in_ok-meets_some.ensures.answer.0 c.if-branch.true in
    record {
      some = c.in_ok-meets_some.ensures.some ∙ c.loop-i.invariant.some;
      kept = c.in_ok-meets_some.ensures.kept;
      answer = (λ t. record { different = c.requires.different; i = c.loop-i.i; j = found.j; meets = found.meets }, λ m. refl);
    }
