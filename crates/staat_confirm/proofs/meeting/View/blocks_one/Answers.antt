use Rattle.std.proofs.Common.{◌≡◌, ◌∙◌, List, arith, get_or, refl, subst, sym, ℕ}
use Rattle.std.proofs.lemmas.Bool.{false≢true}
use Rattle.std.proofs.lemmas.List.{get_or_default}
use Rattle.staat_model.specs.declared.assembly.Part.{Part}
use Rattle.staat_model.specs.Removal.{Blocks}
use Rattle.staat_confirm.proofs.meeting.View.blocks_one.Goals as goal
use borrow.Author.Count.{below_more}

pub returns-then-branch : goal.returns-then-branch
returns-then-branch g c =
    let rest = c.args.rest.now in
    let i = c.loop-b.b-index in
    let b = get_or rest i 0 in
    let blocks = subst (λ (ps : List Part). Blocks ps c.args.self.now.along.now.d c.args.a b) c.as_slice.ensures.parts (c.in_ok-blocks.ensures.0 c.if-branch.true) in
    (λ t. (i, b, c.loop-b-test.true, get_or_default rest i b 0 c.loop-b-test.true, blocks), λ m. refl)

pub loop-b-preserved : goal.loop-b-preserved
loop-b-preserved g c =
    let rest = c.args.rest.now in
    let i = c.loop-b.b-index in
    let d = c.args.self.now.along.now.d in
    let a = c.args.a in
    let Free : ℕ → Type 0 = λ k. (b : ℕ) → get_or rest k b ≡ b → Blocks c.args.self.now.product.now d a b → ⊥ in
    let here : Free i = λ b is blocks.
    let same = sym is ∙ get_or_default rest i b 0 c.loop-b-test.true in
    let told = subst (λ (ps : List Part). Blocks ps d a (get_or rest i 0)) (sym c.as_slice.ensures.parts) (subst (Blocks c.args.self.now.product.now d a) same blocks) in
    false≢true (sym c.if-branch.false ∙ c.in_ok-blocks.ensures.1 told) in
    λ k b lt. below_more Free i (λ n l e. c.loop-b.invariant n e l) here k lt b

pub returns : goal.returns
returns g c = (
  λ t. absurd (false≢true t),
  λ some. let (k, b, lt, is, blocks) = some in absurd (c.loop-b.invariant k b (omega (arith, lt, c.loop-b-test.false)) is blocks),
)
