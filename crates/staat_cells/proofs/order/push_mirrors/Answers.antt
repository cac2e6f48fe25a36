use Rattle.std.proofs.Common.{◌≡◌, ◌-◌, ◌+◌, ◌<◌, ℕ, arith, length, sym, List, [], ◌∷◌, ◌++◌, map, reverse, take, get_or}
use Rattle.std.proofs.lemmas.List.{append_assoc, get_or_append_left, get_or-reverse, length-reverse, map_more, take_all}
use Rattle.staat_cells.specs.declared.incidence.Incidence.{Incidence}
use Rattle.staat_cells.specs.Mirrors.{mirrored}
use Rattle.staat_cells.proofs.order.push_mirrors.Goals as goal
use Rattle.staat_vec.proofs.ListLaws.{append_nothing}

images_more : (f : Incidence → Incidence) (old items new : List Incidence) (i n : ℕ) (x z : Incidence) → n ≡ length old → i < n
    → items ≡ old ++ map f (take i (reverse old)) → x ≡ get_or items (n - 1 - i) x → z ≡ f x → new ≡ items ++ z ∷ []
    → new ≡ old ++ map f (take (i + 1) (reverse old))
images_more f old items new i n x z n_is lt are x_is z_is new_is =
    grind (arith, append_assoc, get_or_append_left, get_or-reverse, map_more, length-reverse)

pub loop-i-init : goal.loop-i-init
loop-i-init c = sym (append_nothing c.args.incidences.now.items)

pub loop-i-preserved : goal.loop-i-preserved
loop-i-preserved c =
    images_more (mirrored c.args.sum) c.args.incidences.now.items c.loop-i.incidences.items c.push.new.self.items c.loop-i.i
    c.len-count.result c.index.result.now c.mirrored-image.result (omega arith) c.loop-i-test.true c.loop-i.invariant
    c.index.ensures c.mirrored-image.ensures c.in_ok-push.ensures.items

pub returns : goal.returns
returns c = grind (arith, take_all, length-reverse)
