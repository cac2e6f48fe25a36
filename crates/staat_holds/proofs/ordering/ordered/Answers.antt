use Rattle.std.proofs.Common.{◌≡◌, List, ℕ, Contains, ap, subst, sym, ◌∙◌, ◌++◌, drop, length, map, take}
use Rattle.staat_vec.specs.Lists.{Lists}
use Rattle.staat_model.specs.declared.certificate.Arc.{Arc}
use Rattle.staat_model.specs.Certificates.{arc_cmp}
use Rattle.staat_holds.specs.Chains.{places_of}
use Rattle.staat_holds.specs.Holds.{lesser_first}
use Rattle.staat_holds.proofs.PairOrder.{in_order_pairs, lesser_parts, same_rules}
use Rattle.staat_holds.proofs.ordering.ordered.Goals as goal
use Rattle.staat_vec.proofs.ListLaws.{written_back}

-- the pairs that were found list the old ones, turned
listed : (old items now turned found new : List Arc) (len : ℕ) → items ≡ old → now ≡ items → turned ≡ map lesser_first now → length turned ≡ length items → len ≡ length items → new ≡ found
    → Lists arc_cmp (Contains (take len (turned ++ drop (length turned) items))) found → Lists arc_cmp (Contains (map lesser_first old)) new
listed old items now turned found new len is view e as_many long same lists =
    let back = written_back items turned len as_many long in
    subst (Lists arc_cmp (Contains (map lesser_first old))) (sym same)
    (subst (λ l. Lists arc_cmp (Contains l) found) (back ∙ e ∙ ap (map lesser_first) (view ∙ is)) lists)

found : (c : goal.After-from_vec) → Lists arc_cmp (Contains (map lesser_first c.args.hold.pairs)) c.from_vec.result
found c =
    let v = c.into_vec-pairs.result in
    listed c.args.hold.pairs v.items c.deref_mut.result.now c.turn_each.new.pairs c.in_order.result.items c.from_vec.result v.len
    c.into_vec-pairs.ensures c.deref_mut.ensures.value c.turn_each.ensures
    (c.turn_each.auto.pairs ∙ ap length c.deref_mut.ensures.value) v.ok.0 c.from_vec.ensures c.in_order.ensures

pub returns-clause-ordered : goal.returns-clause-ordered
returns-clause-ordered c parts names sorted keep =
    let lists = found c in record {
      nodes = sorted;
      lesser = lesser_parts parts (places_of c.args.hold.nodes names) (length c.args.hold.nodes) c.args.hold.pairs c.from_vec.result keep.pairs lists;
      pairs = lists.ascending;
    }

pub returns-clause-keeps : goal.returns-clause-keeps
returns-clause-keeps c parts names keep =
    same_rules parts names c.args.hold.nodes c.args.hold.pairs c.from_vec.result (in_order_pairs c.args.hold.pairs c.from_vec.result (found c)) keep
