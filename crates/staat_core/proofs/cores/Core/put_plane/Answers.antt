use Rattle.std.proofs.Common.{◌≡◌, ◌<◌, ◌+◌, ◌∙◌, ◌∷◌, ◌++◌, [], arith, refl, sym, subst, set, take, Contains}
use Rattle.std.proofs.lemmas.List.Elements.{Contains-push}
use Rattle.std.proofs.lemmas.List.{length-set, take_more_set}
use Rattle.staat_core.specs.Cores.{core_planes}
use Rattle.staat_core.proofs.Growing.{axes_kept, goes_one}
use Rattle.staat_core.proofs.cores.Core.put_plane.Goals as goal

pub returns : goal.returns
returns c =
    let k = c.args.self.now in
    let few : k.used < 96 = c.if-self-ge-MOST_CORE_PLANES.false in
    let room = c.requires in
    let pushed : take (k.used + 1) (set k.planes k.used c.args.n) ≡ core_planes k ++ c.args.n ∷ [] = take_more_set k.planes k.used c.args.n (subst (λ n. k.used < n) (sym room.room) few) in
    let more = goes_one (core_planes k) (take (k.used + 1) (set k.planes k.used c.args.n)) c.args.n pushed in
    record {
      room = record {
        long = room.long;
        few = room.few;
        room = length-set k.planes k.used c.args.n ∙ room.room;
        most = omega (arith, few);
        axes = axes_kept (core_planes k) (take (k.used + 1) (set k.planes k.used c.args.n)) more room.axes;
      };
      planes = more;
      pairs = refl;
      put = λ told. subst (λ ns. Contains ns c.args.n) (sym pushed) (Contains-push (core_planes k) c.args.n);
    }
