-- In a graph whose arcs can be tested, what walks reach can be found, and so can a group that no arc leaves.
use Rattle.std.proofs.Common.{◌≡◌, ◌⊎◌, ℕ, zero, suc, ◌+◌, ◌<◌, ◌≤◌, arith, sym, subst, refl, inl, inr, ⊎_elim}
use Rattle.std.specs.FinSet as set
use Rattle.staat_model.specs.declared.set.PartSet.{PartSet}
use Rattle.staat_model.specs.Sets.{Has, IsSubset, single}
use Rattle.staat_model.proofs.FreeSides.{member_or}
use Rattle.staat_model.proofs.SetMembers.{has-insert, has-intersection, has-single}
use Rattle.staat_model.proofs.SetSizes.{len_more}
use Rattle.staat_model.proofs.SetWords.{same_members}
use Rattle.staat_model.specs.Bridges.{Back}
use Rattle.staat_graph.specs.Graphs.{Walks, here, IsReach, IsShut, IsGroup, IsSink}
use Rattle.staat_graph.proofs.Finite.{some_or_none, len_fewer, len_subset, len_some}
use Rattle.staat_graph.proofs.Walking.{stays, walk_starts, walk_ends, joined, one_more, turned, turned_back, reach_from, reach_shut, same_part}

-- what is reached and reaches back is a group
pub group_of_reach : (R : ℕ → ℕ → Type 0) (w s out into : PartSet) (p : ℕ) → Has w p → IsReach R w p out → IsReach (Back R) w p into → ((q : ℕ) → (Has s q → Has out q × Has into q) × (Has out q × Has into q → Has s q)) → IsGroup R w s
group_of_reach R w s out into p h o i both = record {
  nonempty = (p, (both p).1 (o.all p (here h), i.all p (here h)));
  within = λ q m. walk_ends (o.walks q ((both q).0 m).0);
  linked = λ a b ha hb. joined (turned_back (i.walks a ((both a).0 ha).1)) (o.walks b ((both b).0 hb).0);
  whole = λ a b ha m. (both b).1 (o.all b (joined (o.walks a ((both a).0 ha).0) m.0), i.all b (joined (i.walks a ((both a).0 ha).1) (turned m.1)));
}

-- two groups that share a part are one
pub one_group : (R : ℕ → ℕ → Type 0) (w s t : PartSet) (p : ℕ) → IsGroup R w s → IsGroup R w t → Has s p → Has t p → s ≡ t
one_group R w s t p gs gt hs ht = same_members s t (λ q m. gt.whole p q ht (gs.linked p q hs m, gs.linked q p m hs)) (λ q m. gs.whole p q hs (gt.linked p q ht m, gt.linked q p m ht))

-- a part that is reached back by all that it reaches is in a sink
pub sink_from : (R : ℕ → ℕ → Type 0) (w : PartSet) (p : ℕ) (r c : PartSet) → Has w p → IsReach R w p r → IsReach (Back R) w p c → IsSubset r c → IsSink R w r
sink_from R w p r c h out into sub = record {
  group = record {
    nonempty = (p, out.all p (here h));
    within = λ q m. walk_ends (out.walks q m);
    linked = λ a b ha hb. joined (turned_back (into.walks a (sub a ha))) (out.walks b hb);
    whole = λ a b ha m. out.all b (joined (out.walks a ha) m.0);
  };
  shut = reach_shut R w p r out;
}

-- and each part of a sink is
pub sink_turns : (R : ℕ → ℕ → Type 0) (w t : PartSet) (p : ℕ) (r c : PartSet) → IsSink R w t → Has t p → IsReach R w p r → IsReach (Back R) w p c → IsSubset r c
sink_turns R w t p r c sink h out into q m =
    let in_t : Has t q = stays t sink.shut h (out.walks q m) in
    into.all q (turned (sink.group.linked q p in_t h))

module _ (R : ℕ → ℕ → Type 0) (dec : (a b : ℕ) → R a b ⊎ (R a b → ⊥)) where
  -- an arc to a new part
  abbrev HasWayOut : PartSet → PartSet → Type 0
  HasWayOut w s = (b : ℕ) × Has w b × (Has s b → ⊥) × ((a : ℕ) × Has s a × R a b)

  way_out : (w s : PartSet) → HasWayOut w s ⊎ IsShut R w s
  way_out w s = go (some_or_none (λ b. (Has s b → ⊥) × ((a : ℕ) × Has s a × R a b)) enters w)
    where
      enters : (b : ℕ) → ((Has s b → ⊥) × ((a : ℕ) × Has s a × R a b)) ⊎ ((Has s b → ⊥) × ((a : ℕ) × Has s a × R a b) → ⊥)
      enters b = by_case (member_or s b) (some_or_none (λ a. R a b) (λ a. dec a b) s)
        where
          by_case : Has s b ⊎ (Has s b → ⊥) → ((a : ℕ) × Has s a × R a b) ⊎ ((a : ℕ) → Has s a → R a b → ⊥) → ((Has s b → ⊥) × ((a : ℕ) × Has s a × R a b)) ⊎ ((Has s b → ⊥) × ((a : ℕ) × Has s a × R a b) → ⊥)
          by_case (inl h) r = inr (λ t. t.0 h)
          by_case (inr out) (inl t) = inl (out, t)
          by_case (inr out) (inr none) = inr (λ t. none t.1.0 t.1.1 t.1.2)

      go : ((b : ℕ) × Has w b × ((Has s b → ⊥) × ((a : ℕ) × Has s a × R a b))) ⊎ ((b : ℕ) → Has w b → ((Has s b → ⊥) × ((a : ℕ) × Has s a × R a b)) → ⊥) → HasWayOut w s ⊎ IsShut R w s
      go (inl t) = inl (t.0, t.1, t.2.0, t.2.1)
      go (inr none) = inr (λ a b ha hb r. ⊎_elim (λ h. h) (λ out. absurd (none b hb (out, (a, ha, r)))) (member_or s b))

  -- the parts to which walks lead, as far as they were found
  abbrev AreWalked : PartSet → ℕ → PartSet → Type 0
  AreWalked w from s = Has s from × ((q : ℕ) → Has s q → Walks R w from q)

  one_more_part : (w : PartSet) (from : ℕ) (s : PartSet) → AreWalked w from s → ((t : PartSet) → set.len t ≡ set.len s + 1 → AreWalked w from t → (r : PartSet) × IsReach R w from r) → HasWayOut w s ⊎ IsShut R w s → (r : PartSet) × IsReach R w from r
  one_more_part w from s is next (inr shut) = (s, reach_from R w from s is.0 is.1 shut)
  one_more_part w from s is next (inl (b, hb, out, t)) = next (set.insert s b) (len_more s b out) (
    (has-insert s b from).1 (inr is.0),
    λ q m. ⊎_elim (λ e. subst (Walks R w from) (sym e) (one_more (is.1 t.0 t.1) t.2 hb)) (is.1 q) ((has-insert s b q).0 m),
  )

  grown_reach : (n : ℕ) (w : PartSet) (from : ℕ) (s : PartSet) → set.len w ≤ set.len s + n → AreWalked w from s → (r : PartSet) × IsReach R w from r
  grown_reach zero w from s le is = one_more_part w from s is (λ t e walked. absurd (let low : set.len t ≤ set.len w = len_subset t w (λ q m. walk_ends (walked.1 q m)) in omega (arith, low, le, e))) (way_out w s)
  grown_reach (suc n) w from s le is = one_more_part w from s is (λ t e walked. grown_reach n w from t (omega (arith, e, le)) walked) (way_out w s)

  pub reach_of : (w : PartSet) (from : ℕ) → Has w from → (r : PartSet) × IsReach R w from r
  reach_of w from h = grown_reach (set.len w) w from (single from) (omega arith) ((has-single from from).1 refl, λ q m. same_part R w from q h ((has-single from q).0 m))

  -- a walk leads from one part to another, or none does
  pub walk_or : (w : PartSet) (a b : ℕ) → Walks R w a b ⊎ (Walks R w a b → ⊥)
  walk_or w a b = go (member_or w a)
    where
      in_reach : ((r : PartSet) × IsReach R w a r) → Walks R w a b ⊎ (Walks R w a b → ⊥)
      in_reach (r, is) = by_case (member_or r b)
        where
          by_case : Has r b ⊎ (Has r b → ⊥) → Walks R w a b ⊎ (Walks R w a b → ⊥)
          by_case (inl h) = inl (is.walks b h)
          by_case (inr out) = inr (λ u. out (is.all b u))

      go : Has w a ⊎ (Has w a → ⊥) → Walks R w a b ⊎ (Walks R w a b → ⊥)
      go (inl h) = in_reach (reach_of w a h)
      go (inr out) = inr (λ u. out (walk_starts u))

  no_way_or : (w : PartSet) (a q : ℕ) → (Walks R w q a → ⊥) ⊎ ((Walks R w q a → ⊥) → ⊥)
  no_way_or w a q = ⊎_elim {C = (Walks R w q a → ⊥) ⊎ ((Walks R w q a → ⊥) → ⊥)} (λ u. inr (λ none. none u)) (λ none. inl none) (walk_or w q a)

  -- what a part reaches is a sink, or it reaches a part that reaches less
  descend_step : (w : PartSet) (a : ℕ) (r : PartSet) → Has w a → IsReach R w a r → ((q : ℕ) (s : PartSet) → Has w q → IsReach R w q s → set.len s < set.len r → (t : PartSet) × IsSink R w t)
      → ((q : ℕ) × Has r q × (Walks R w q a → ⊥)) ⊎ ((q : ℕ) → Has r q → (Walks R w q a → ⊥) → ⊥) → (t : PartSet) × IsSink R w t
  descend_step w a r h out next (inl (q, m, none)) =
      let hq : Has w q = walk_ends (out.walks q m) in
      let (s, from) = reach_of w q hq in
      next q s hq from (len_fewer s r a (λ x hx. out.all x (joined (out.walks q m) (from.walks x hx))) (out.all a (here h)) (λ hx. none (from.walks a hx)))
  descend_step w a r h out next (inr each) =
      let back : (q : ℕ) → Has r q → Walks R w q a = λ q m. ⊎_elim (λ u. u) (λ none. absurd (each q m none)) (walk_or w q a) in (
        r,
        record {
          group = record {
            nonempty = (a, out.all a (here h));
            within = λ q m. walk_ends (out.walks q m);
            linked = λ x y hx hy. joined (back x hx) (out.walks y hy);
            whole = λ x y hx m. out.all y (joined (out.walks x hx) m.0);
          };
          shut = reach_shut R w a r out;
        },
      )

  descend : (n : ℕ) (w : PartSet) (a : ℕ) (r : PartSet) → Has w a → IsReach R w a r → set.len r ≤ n → (t : PartSet) × IsSink R w t
  descend zero w a r h out le = absurd (let some : 0 < set.len r = len_some r a (out.all a (here h)) in omega (arith, some, le))
  descend (suc n) w a r h out le = descend_step w a r h out (λ q s hq from lt. descend n w q s hq from (omega (arith, lt, le))) (some_or_none (λ q. Walks R w q a → ⊥) (no_way_or w a) r)

  -- each set that is not empty has a group that no arc leaves
  pub some_sink : (w : PartSet) (p : ℕ) → Has w p → (t : PartSet) × IsSink R w t
  some_sink w p h = let (r, out) = reach_of w p h in descend (set.len r) w p r h out (omega arith)

-- each part has a group
pub some_group : (R : ℕ → ℕ → Type 0) (dec : (a b : ℕ) → R a b ⊎ (R a b → ⊥)) (w : PartSet) (p : ℕ) → Has w p → (s : PartSet) × IsGroup R w s × Has s p
some_group R dec w p h =
    let (out, o) = reach_of R dec w p h in
    let (into, i) = reach_of (Back R) (λ a b. dec b a) w p h in
    (set.intersection out into, group_of_reach R w (set.intersection out into) out into p h o i (has-intersection out into), (has-intersection out into p).1 (o.all p (here h), i.all p (here h)))
