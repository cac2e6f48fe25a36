use Rattle.std.proofs.Common.{◌∙◌, ◌≤◌, ◌<◌, ℕ, List, arith, length, refl, subst, sym}
use Rattle.std.proofs.lemmas.Bool.{false≢true}
use Rattle.staat_model.specs.declared.assembly.Part.{Part}
use Rattle.staat_model.specs.Removal.{MeetsAlong}
use Rattle.staat_model.specs.Assemblies.{piece_count}
use Rattle.staat_motion.specs.Motions.{HasShadows, IsMotionOf, Motion}
use Rattle.staat_motion.proofs.Kept.{has_shadows, wholes_count}
use Rattle.staat_decide.proofs.table.meets_some.Goals as goal
use Rattle.staat_model.proofs.PlanLemmas.{piece_within}
use borrow.Author.Count.{below_more}

own_shadow : (parts : List Part) (along : Motion) (a i : ℕ) → IsMotionOf parts along → a < length parts → i < piece_count parts a
    → HasShadows along (record { a = a; i = i; b = a; j = i })
own_shadow parts along a i made a_in i_in =
    has_shadows parts along (record { a = a; i = i; b = a; j = i }) made (record { a_in = a_in; i_in = i_in; b_in = a_in; j_in = i_in })

pub piece_apart-requires-clause-part : goal.piece_apart-requires-clause-part
piece_apart-requires-clause-part g c =
    (own_shadow c.args.view.now.parts.now c.args.view.now.along.now c.args.a c.args.i c.requires.made c.requires.a_in c.requires.i_in).a_in

pub piece_apart-requires-clause-piece : goal.piece_apart-requires-clause-piece
piece_apart-requires-clause-piece g c =
    (own_shadow c.args.view.now.parts.now c.args.view.now.along.now c.args.a c.args.i c.requires.made c.requires.a_in c.requires.i_in).i_in

pub piece_apart-requires-clause-b_in : goal.piece_apart-requires-clause-b_in
piece_apart-requires-clause-b_in g c =
    let count = wholes_count c.args.view.now.parts.now c.args.view.now.along.now c.requires.made in omega (arith, count, c.requires.b_in)

pub returns-then-piece_apart-clause-answer : goal.returns-then-piece_apart-clause-answer
returns-then-piece_apart-clause-answer g c = (
  λ e. absurd (false≢true e),
  λ m. absurd (c.piece_apart.ensures.never c.args.view.now.parts.now m.j c.requires.made c.if-piece_apart.true m.meets),
)

pub returns-clause-answer : goal.returns-clause-answer
returns-clause-answer g c = (
  λ e. absurd (false≢true e),
  λ m. let lt = piece_within c.args.view.now.parts.now c.args.b m.j m.meets.q m.meets.q_is in
      absurd (c.loop-j.invariant.none m.j (omega (arith, lt, c.requires.count, c.loop-j-test.false)) m.meets),
)

pub pair_meets-requires : goal.pair_meets-requires
pair_meets-requires g c = record {
  made = c.requires.made;
  pieces = record {
    a_in = c.requires.a_in;
    i_in = c.requires.i_in;
    b_in = c.requires.b_in;
    j_in = subst (λ n. c.loop-j.j < n) c.requires.count c.loop-j-test.true;
  };
  some = subst (λ n. 1 ≤ n) (sym c.loop-j.invariant.some) c.requires.some;
  kept = c.loop-j.invariant.kept;
}

pub loop-j-preserved : goal.loop-j-preserved
loop-j-preserved g c =
    let Free : ℕ → Type 0 = λ k. MeetsAlong c.args.view.now.parts.now c.args.view.now.along.now.d (record { a = c.args.a; i = c.args.i; b = c.args.b; j = k }) → ⊥ in
    let here : Free c.loop-j.j = λ m. false≢true (sym c.if-branch.false ∙ c.in_ok-pair_meets.ensures.answer.1 m) in
    record {
      some = c.in_ok-pair_meets.ensures.some ∙ c.loop-j.invariant.some;
      kept = c.in_ok-pair_meets.ensures.kept;
      none = below_more Free c.loop-j.j c.loop-j.invariant.none here;
    }

pub returns-then-branch : goal.returns-then-branch
returns-then-branch g c = record {
  some = c.in_ok-pair_meets.ensures.some ∙ c.loop-j.invariant.some;
  kept = c.in_ok-pair_meets.ensures.kept;
  answer = (λ t. record { j = c.loop-j.j; meets = c.in_ok-pair_meets.ensures.answer.0 c.if-branch.true }, λ m. refl);
}
