use Rattle.std.proofs.Common.{Contains, get_or, subst, take}
use Rattle.std.proofs.lemmas.List.Elements.{All-more, All-weaker, Contains-get_or}
use Rattle.staat_vec.specs.Vectors.{minus, origin}
use Rattle.staat_vec.proofs.ListLaws.{All-taken}
use Rattle.staat_cone.proofs.FewLemmas.{ready}
use Rattle.staat_cone.proofs.few.insert_from.Goals as goal

pub loop-b-preserved : goal.loop-b-preserved
loop-b-preserved c =
    let qs = c.args.qs.now in
    let i = c.loop-b.b-index in
    let new = c.insert.new.self.members.items in
    let more = c.in_ok-insert.ensures in
    record {
      grown = more.grown c.args.ps.now qs (ready c.loop-b.invariant.grown (record {
        difference = record { a = c.args.a; b = get_or qs i origin; a_in = c.requires.member; b_in = Contains-get_or qs i origin c.loop-b-test.true; is = c.sub.ensures.value };
        within = c.sub.ensures.size;
      }));
      kept = λ v h. more.kept v (c.loop-b.invariant.kept v h);
      all = All-more (λ b. Contains new (minus b c.args.a)) qs i origin c.loop-b-test.true
          (All-weaker (λ b. Contains c.loop-b.few.members.items (minus b c.args.a)) (λ b. Contains new (minus b c.args.a)) (λ b. more.kept (minus b c.args.a)) (take i qs) c.loop-b.invariant.all)
          (subst (Contains new) c.sub.ensures.value more.member);
    }

pub returns-clause-all : goal.returns-clause-all
returns-clause-all c = All-taken (λ b. Contains c.loop-b.few.members.items (minus b c.args.a)) c.args.qs.now c.loop-b.b-index c.loop-b-test.false c.loop-b.invariant.all
