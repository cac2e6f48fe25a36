use Rattle.std.proofs.Common.{◌↔◌, ◌∙◌, ◌<◌, length, subst, sym, [], List, ℕ, All}
use Rattle.std.specs.Bool.{IsTrue}
use Rattle.staat_check.specs.Conditions.{LeadsAheadOf}
use Rattle.staat_check.proofs.directions.dir_leads_ahead.Goals as goal
use Rattle.staat_vec.proofs.ListLaws.{other_default}

pub leads_ahead_small-requires : goal.leads_ahead_small-requires
leads_ahead_small-requires c = record {
  normals = c.requires.small c.if-small.true;
  direction = c.is_within.ensures.0 c.if-is_within.true;
  numbers = let same = sym (c.as_slice-numbers.ensures ∙ other_default c.args.lists.now c.args.dir.witness c.index-lists-dir.result []
      c.requires.dir.named c.index-lists-dir.is) in
      subst (λ (numbers : List ℕ). All (λ k. k < length c.args.normals.now) numbers) same c.requires.dir.numbers;
}

pub leads_ahead-requires-clause-numbers : goal.leads_ahead-requires-clause-numbers
leads_ahead-requires-clause-numbers c =
    let same = sym (c.as_slice-numbers.ensures ∙ other_default c.args.lists.now c.args.dir.witness c.index-lists-dir.result []
    c.requires.dir.named c.index-lists-dir.is) in
    subst (λ (numbers : List ℕ). All (λ k. k < length c.args.normals.now) numbers) same c.requires.dir.numbers

pub returns-then-is_within : goal.returns-then-is_within
returns-then-is_within c =
    let same = sym (c.as_slice-numbers.ensures ∙ other_default c.args.lists.now c.args.dir.witness c.index-lists-dir.result []
    c.requires.dir.named c.index-lists-dir.is) in
    subst (λ (numbers : List ℕ). IsTrue c.leads_ahead_small.result
    ↔ All (LeadsAheadOf c.args.normals.now c.args.dir.d) numbers) (sym same) c.leads_ahead_small.ensures

pub returns-else-small : goal.returns-else-small
returns-else-small c =
    let same = sym (c.as_slice-numbers.ensures ∙ other_default c.args.lists.now c.args.dir.witness c.index-lists-dir.result []
    c.requires.dir.named c.index-lists-dir.is) in
    subst (λ (numbers : List ℕ). IsTrue c.leads_ahead.result
    ↔ All (LeadsAheadOf c.args.normals.now c.args.dir.d) numbers) (sym same) c.leads_ahead.ensures
