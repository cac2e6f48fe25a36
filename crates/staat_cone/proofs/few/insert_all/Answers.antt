use Rattle.std.proofs.Common.{All, Contains, List, subst, sym, take}
use Rattle.std.proofs.lemmas.List.Elements.{All-contains, All-more, All-weaker}
use Rattle.staat_vec.specs.declared.vector.V3.{V3}
use Rattle.staat_vec.specs.Vectors.{minus, origin}
use Rattle.staat_vec.proofs.ListLaws.{All-taken}
use Rattle.staat_cone.proofs.few.insert_all.Goals as goal

-- what leads from a to each of the points is a member
abbrev HasFrom : (few qs : List V3) → V3 → Type 0
HasFrom few qs a = All (λ b. Contains few (minus b a)) qs

pub loop-a-preserved : goal.loop-a-preserved
loop-a-preserved c =
    let ps = c.args.ps.now in
    let qs = c.args.qs.now in
    let i = c.loop-a.a-index in
    let old = c.loop-a.few.members.items in
    let new = c.insert_from.new.few.members.items in
    let kept = c.in_ok-insert_from.ensures.kept in
    record {
      grown = c.in_ok-insert_from.ensures.grown;
      all = All-more (HasFrom new qs) ps i origin c.loop-a-test.true
          (All-weaker (HasFrom old qs) (HasFrom new qs) (λ a. All-weaker (λ b. Contains old (minus b a)) (λ b. Contains new (minus b a)) (λ b. kept (minus b a)) qs) (take i ps) c.loop-a.invariant.all)
          c.in_ok-insert_from.ensures.all;
    }

pub returns-clause-all : goal.returns-clause-all
returns-clause-all c v d =
    let few = c.loop-a.few.members.items in
    let all = All-taken (HasFrom few c.args.qs.now) c.args.ps.now c.loop-a.a-index c.loop-a-test.false c.loop-a.invariant.all in
    subst (Contains few) (sym d.is) (All-contains (λ b. Contains few (minus b d.a)) c.args.qs.now d.b (All-contains (HasFrom few c.args.qs.now) c.args.ps.now d.a all d.a_in) d.b_in)
