-- Unlinking and relinking keep what rings were made from, and what lists of them do.
use Rattle.std.proofs.Common.{rules, ◌≡◌, ◌⊎◌, inl, inr, ⊎_elim, ℕ, suc, ◌≤◌, not, arith, ap, refl, sym, subst, ◌∙◌, List, [], ◌∷◌, ◌++◌, length, take, Contains}
use Rattle.std.specs.Prelude.{◌==◌, Some, slice_get}
use Rattle.std.proofs.lemmas.List.{append-nil, append_assoc, map_push, same_from_push, take-append-le, take_at}
use Rattle.staat_vec.proofs.ListLaws.{push_cases, push_end, push_front}
use Rattle.std.proofs.lemmas.List.Elements.{All-contains}
use Rattle.std.proofs.lemmas.Option.{slice_get_within}
use Rattle.staat_vec.specs.declared.vector.V3.{V3}
use Rattle.staat_vec.proofs.Unique.{Contains-front, Contains-cases, Contains-nothing}
use Rattle.staat_model.specs.declared.assembly.Part.{Part}
use Rattle.staat_model.specs.declared.set.PartSet.{PartSet}
use Rattle.staat_pairs.specs.Tables.{AreTablePlanes}
use Rattle.staat_ring.specs.Laws.{AreOtherPlanes, AreRelinked, AreRingsOfSet, AreUnlinked, HasNoAxis}
use Rattle.staat_ring.specs.Rings.{AreRings, Arrangement, UnlinkedPlane, Ring, WereMadeFrom, linked_of, unlinked_of}
use Rattle.staat_ring.specs.Without.{IsRelinked, IsUnlinked, unlinked_plane, rings_without}
use Rattle.staat_ring.proofs.RingsWithout.{linked_without, rings_stay}
use Rattle.staat_ring.proofs.WithoutLemmas.{filter_from}
use Rattle.staat_vec.proofs.Naturals.{apart_from_test}

abbrev Unlinks : Type 0
Unlinks = List (UnlinkedPlane (List Ring))

unlinked_push : (us : Unlinks) (u : UnlinkedPlane (List Ring)) → unlinked_of (us ++ u ∷ []) ≡ unlinked_of us ++ u.plane ∷ []
unlinked_push us u = map_push (λ (x : UnlinkedPlane (List Ring)). x.plane) us u

-- a place in a list with one more at its end
at_push : (us : Unlinks) (u : UnlinkedPlane (List Ring)) (k : ℕ) (x : UnlinkedPlane (List Ring)) → slice_get (us ++ u ∷ []) k ≡ Some x
    → ((slice_get us k ≡ Some x) × (take k (us ++ u ∷ []) ≡ take k us)) ⊎ ((u ≡ x) × (take k (us ++ u ∷ []) ≡ us))
at_push us u k x e = ⊎_elim {C = ((slice_get us k ≡ Some x) × (take k (us ++ u ∷ []) ≡ take k us)) ⊎ ((u ≡ x) × (take k (us ++ u ∷ []) ≡ us))}
    (λ h. inl (h, take-append-le k us (u ∷ []) (let lt = slice_get_within us k x h in omega (arith, lt)))) (λ h. inr (h.1, take_at us (u ∷ []) k (sym h.0))) (push_cases us u x k e)

pub unlinked_made : (planes : List V3) (p : ℕ) (a b : Arrangement) → AreTablePlanes planes → 3 ≤ p → IsUnlinked p a b → WereMadeFrom planes a → WereMadeFrom planes b
unlinked_made planes p a b table no_axis is made = record {
  now = subst (λ (rs : List Ring). AreRings planes rs (unlinked_of b.unlinked)) (sym is.rings)
      (subst (AreRings planes (rings_without p a.rings)) (sym (ap unlinked_of is.unlinked ∙ unlinked_push a.unlinked (unlinked_plane p a.rings))) (rings_stay planes a.rings (unlinked_of a.unlinked) p table made.now no_axis));
  before = λ k x e. subst (λ (us : Unlinks). AreRings planes x.before (unlinked_of (take k us))) (sym is.unlinked) (by k x (at_push a.unlinked (unlinked_plane p a.rings) k x (subst (λ (us : Unlinks). slice_get us k ≡ Some x) is.unlinked e)));
}
  where
    by : (k : ℕ) (x : UnlinkedPlane (List Ring)) → ((slice_get a.unlinked k ≡ Some x) × (take k (a.unlinked ++ unlinked_plane p a.rings ∷ []) ≡ take k a.unlinked)) ⊎ ((unlinked_plane p a.rings ≡ x) × (take k (a.unlinked ++ unlinked_plane p a.rings ∷ []) ≡ a.unlinked)) → AreRings planes x.before (unlinked_of (take k (a.unlinked ++ unlinked_plane p a.rings ∷ [])))
    by k x (inl (e, t)) = subst (λ (us : Unlinks). AreRings planes x.before (unlinked_of us)) (sym t) (made.before k x e)
    by k x (inr (e, t)) = subst (λ (us : Unlinks). AreRings planes x.before (unlinked_of us)) (sym t) (subst (λ (y : UnlinkedPlane (List Ring)). AreRings planes y.before (unlinked_of a.unlinked)) e made.now)

pub relinked_made : (planes : List V3) (p : ℕ) (a b : Arrangement) → IsRelinked p a b → WereMadeFrom planes a → WereMadeFrom planes b
relinked_made planes p a b is made = record {
  now =
      let e = push_end b.unlinked (unlinked_plane p b.rings) in
      let t = take_at b.unlinked (unlinked_plane p b.rings ∷ []) (length b.unlinked) refl in
      subst (λ (us : Unlinks). AreRings planes b.rings (unlinked_of us)) (ap (take (length b.unlinked)) is ∙ t) (made.before (length b.unlinked) (unlinked_plane p b.rings) (subst (λ (us : Unlinks). slice_get us (length b.unlinked) ≡ Some (unlinked_plane p b.rings)) (sym is) e));
  before = λ k x e.
      let f = push_front b.unlinked (unlinked_plane p b.rings) x k e in
      let t = take-append-le k b.unlinked (unlinked_plane p b.rings ∷ []) (let lt = slice_get_within b.unlinked k x e in omega (arith, lt)) in
      subst (λ (us : Unlinks). AreRings planes x.before (unlinked_of us)) (ap (take k) is ∙ t) (made.before k x (subst (λ (us : Unlinks). slice_get us k ≡ Some x) (sym is) f));
}

-- ---- lists of unlinks and relinks

pub relinked_back : (p : ℕ) (a m b : Arrangement) → IsUnlinked p a m → IsRelinked p m b → b ≡ a
relinked_back p a m b u r = search (rules, same_from_push)

pub undone : (ps : List ℕ) (a b c : Arrangement) → AreUnlinked ps a b → AreRelinked ps b c → c ≡ a
undone [] a b c u r = sym r ∙ sym u
undone (p ∷ ps) a b c (m, is, us) (w, rs, back) = relinked_back p a m c is (subst (λ (x : Arrangement). IsRelinked p x c) (undone ps m b w us rs) back)

-- ---- the circles of a set

pub all_made : (planes : List V3) (ps : List ℕ) (a b : Arrangement) → AreTablePlanes planes → HasNoAxis ps → AreUnlinked ps a b → WereMadeFrom planes a → WereMadeFrom planes b
all_made planes [] a b table none u made = subst (WereMadeFrom planes) u made
all_made planes (p ∷ ps) a b table none (m, is, us) made =
    all_made planes ps m b table (λ k d lt. none (suc k) d (omega (arith, lt))) us
    (unlinked_made planes p a m table (All-contains (λ p. 3 ≤ p) (p ∷ ps) p none (Contains-front p ps)) is made)

out_of : (ps : List ℕ) (a b : Arrangement) → AreUnlinked ps a b → unlinked_of b.unlinked ≡ unlinked_of a.unlinked ++ ps
out_of [] a b u = ap (λ (x : Arrangement). unlinked_of x.unlinked) (sym u) ∙ sym (append-nil (unlinked_of a.unlinked))
out_of (p ∷ ps) a b (m, is, us) = out_of ps m b us ∙ (ap (λ ks. ks ++ ps) (ap unlinked_of is.unlinked ∙ unlinked_push a.unlinked (unlinked_plane p a.rings)) ∙ append_assoc (unlinked_of a.unlinked) (p ∷ []) ps)

-- no plane of the list is linked any more
gone : (ps : List ℕ) (a b : Arrangement) → AreUnlinked ps a b → (k : ℕ) → Contains (linked_of b.rings) k → Contains (linked_of a.rings) k × (Contains ps k → ⊥)
gone [] a b u k c = (subst (λ (x : Arrangement). Contains (linked_of x.rings) k) (sym u) c, Contains-nothing k)
gone (p ∷ ps) a b (m, is, us) k c =
    let (cm, absent) = gone ps m b us k c in
    let f = filter_from (λ k. not (k == p)) (linked_of a.rings) k (subst (λ ks. Contains ks k) (ap linked_of is.rings ∙ linked_without p a.rings) cm) in
    (f.0, λ cp. ⊎_elim {C = ⊥} (λ e. apart_from_test k p f.1 e) absent (Contains-cases p ps k cp))

pub of_a_set : (parts : List Part) (w : PartSet) (planes : List V3) (ps : List ℕ) (a b : Arrangement) → AreTablePlanes planes → WereMadeFrom planes a → a.unlinked ≡ [] → HasNoAxis ps
    → AreOtherPlanes parts w planes ps → AreUnlinked ps a b → AreRingsOfSet parts w planes b
of_a_set parts w planes ps a b table made none no_axis others us = record {
  linked = λ k n at. (
    (λ c. (others k n at).0 (gone ps a b us k c).1),
    (λ is. stays k ((others k n at).1 is) (now.all k (slice_get_within planes k n at))),
  );
  circles = now.each;
}
  where
    now : AreRings planes b.rings (unlinked_of b.unlinked)
    now = (all_made planes ps a b table no_axis us made).now

    out : unlinked_of b.unlinked ≡ ps
    out = out_of ps a b us ∙ ap (λ (xs : Unlinks). unlinked_of xs ++ ps) none

    stays : (k : ℕ) → (Contains ps k → ⊥) → Contains (linked_of b.rings) k ⊎ Contains (unlinked_of b.unlinked) k → Contains (linked_of b.rings) k
    stays k absent (inl c) = c
    stays k absent (inr c) = absurd (absent (subst (λ ks. Contains ks k) out c))
