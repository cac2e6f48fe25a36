use Rattle.std.proofs.Common.{◌≡◌, ◌<◌, ◌+◌, ◌∙◌, ◌++◌, ◌∷◌, [], ⊎_elim, arith, inl, inr, refl, set, subst, sym, take, Contains}
use Rattle.std.proofs.lemmas.List.{length-set, take_more_set}
use Rattle.std.proofs.lemmas.List.Elements.{Contains-push, Contains-push_cases}
use Rattle.staat_core.specs.Cores.{core_pairs}
use Rattle.staat_core.proofs.Growing.{goes_one}
use Rattle.staat_core.proofs.cores.Core.push_pair.Goals as goal

pub returns : goal.returns
returns c =
    let k = c.args.self.now in
    let room = c.requires in
    let ps = take (k.count + 1) (set k.pairs k.count c.args.pair) in
    let few : k.count < 2016 = c.if-self-ge-MOST_PAIRS.false in
    let pushed : ps ≡ core_pairs k ++ c.args.pair ∷ [] = take_more_set k.pairs k.count c.args.pair (subst (λ n. k.count < n) (sym room.long) few) in
    record {
      room = record { long = length-set k.pairs k.count c.args.pair ∙ room.long; few = omega (arith, few); room = room.room; most = room.most; axes = room.axes };
      planes = refl;
      pairs = goes_one (core_pairs k) ps c.args.pair pushed;
      each = λ x h. ⊎_elim (λ old. inl old) (λ e. inr (sym e)) (Contains-push_cases (core_pairs k) c.args.pair x (subst (λ l. Contains l x) pushed h));
      pushed = λ told. subst (λ l. Contains l c.args.pair) (sym pushed) (Contains-push (core_pairs k) c.args.pair);
    }
