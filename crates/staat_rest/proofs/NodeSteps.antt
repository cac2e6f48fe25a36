-- The holds of a node keep the rules also where holds of other nodes have come before.
use Rattle.std.proofs.Common.{◌≡◌, ◌⊎◌, ℕ, ◌≤◌, List, [], ◌∷◌, length, get_or, map, inl, inr, ⊎_elim, sym, ap, subst, ◌∙◌, arith, All, Contains}
use Rattle.std.specs.Prelude.{Some, slice_get}
use Rattle.std.specs.List.Sorted.{IsStrictlySortedBy}
use Rattle.std.specs.Ordering.{nat_cmp}
use Rattle.std.proofs.lemmas.List.{length-map}
use Rattle.std.proofs.lemmas.List.Elements.{All-contains, All-head, All-tail}
use Rattle.std.proofs.lemmas.Map.Keys.{sorted_tail}
use Rattle.staat_vec.proofs.Unique.{Contains-cases, Contains-nothing, Contains-front, from_place}
use Rattle.staat_model.specs.declared.assembly.Part.{Part}
use Rattle.staat_model.proofs.Places.{place_within, some_at}
use Rattle.staat_holds.specs.declared.hold.Hold.{Hold}
use Rattle.staat_holds.specs.Chains.{IsName, joined_name, names_after, own_names}
use Rattle.staat_holds.specs.Partials.{IsOrderedHold}
use Rattle.staat_holds.proofs.NodeNames.{among_or, below_first, first_of, joined_in, joined_out}
use Rattle.staat_rest.specs.Nodes.{IsInNode, KeepFrom, NamesOnly, ShowsNode, holds_of}
use Rattle.staat_rest.proofs.Agreeing.{IsKept, keeps_as}
use Rattle.staat_rest.proofs.NameSteps.{after_append, keep_append, own_count, part_or}
use Rattle.staat_vec.proofs.ListLaws.{Contains-there, place_of, map_at_place, place_in_map}
use Rattle.staat_vec.proofs.Options.{some_injective}
use Rattle.staat_holds.proofs.ChainLaw.{own_is}
use Rattle.staat_decide.proofs.Holdings.{own_name}

-- both lists name the parts of the node n alike, by parts of it, and no other part by one of them
record Agree (names : List ℕ) (n : ℕ) (a b : List ℕ) : Type 0 where
  pub many_a : length a ≡ length names
  pub many_b : length b ≡ length names
  pub inside : (p : ℕ) → IsInNode names n p → (m : ℕ) × (slice_get a p ≡ Some m) × (slice_get b p ≡ Some m) × IsInNode names n m
  pub outside_a : (p m : ℕ) → (IsInNode names n p → ⊥) → slice_get a p ≡ Some m → IsInNode names n m → ⊥
  pub outside_b : (p m : ℕ) → (IsInNode names n p → ⊥) → slice_get b p ≡ Some m → IsInNode names n m → ⊥

turned_round : (names : List ℕ) (n : ℕ) (a b : List ℕ) → Agree names n a b → Agree names n b a
turned_round names n a b g = record {
  many_a = g.many_b;
  many_b = g.many_a;
  inside = λ p h. let (m, at_a, at_b, of) = g.inside p h in (m, at_b, at_a, of);
  outside_a = g.outside_b;
  outside_b = g.outside_a;
}

kept_of : (names : List ℕ) (n : ℕ) (a b nodes : List ℕ) → Agree names n a b → All (IsInNode names n) nodes → IsKept nodes a b
kept_of names n a b nodes g of k p c at = ⊎_elim {C = slice_get b p ≡ Some k}
    (λ h. let (m, at_a, at_b, _) = g.inside p h in at_b ∙ ap Some (some_injective m k (sym at_a ∙ at)))
    (λ out. absurd (g.outside_a p k out at (All-contains (IsInNode names n) nodes k of c)))
    (part_or names n p)

joined_part : (names : List ℕ) (n : ℕ) (nodes : List ℕ) (m : ℕ) → All (IsInNode names n) nodes → 1 ≤ length nodes → IsInNode names n m → IsInNode names n (joined_name nodes m)
joined_part names n nodes m of some h = ⊎_elim {C = IsInNode names n (joined_name nodes m)}
    (λ t. let (r, c, first) = first_of nodes some in subst (IsInNode names n) (sym (joined_in nodes m t.0 ∙ first m)) (All-contains (IsInNode names n) nodes r of c))
    (λ t. subst (IsInNode names n) (sym (joined_out nodes m t.0)) h)
    (among_or nodes m)

outside_step : (names : List ℕ) (n : ℕ) (a nodes : List ℕ) → All (IsInNode names n) nodes
    → ((p m : ℕ) → (IsInNode names n p → ⊥) → slice_get a p ≡ Some m → IsInNode names n m → ⊥)
    → (p m : ℕ) → (IsInNode names n p → ⊥) → slice_get (map (joined_name nodes) a) p ≡ Some m → IsInNode names n m → ⊥
outside_step names n a nodes of outside p m out at h =
    let (q, at_q, is) = place_in_map (joined_name nodes) a p m at in
    ⊎_elim {C = ⊥} (λ t. outside p q out at_q (All-contains (IsInNode names n) nodes q of t.0))
    (λ t. outside p q out at_q (subst (IsInNode names n) (sym is ∙ joined_out nodes q t.0) h)) (among_or nodes q)

agree_step : (names : List ℕ) (n : ℕ) (a b nodes : List ℕ) → All (IsInNode names n) nodes → 1 ≤ length nodes → Agree names n a b → Agree names n (map (joined_name nodes) a) (map (joined_name nodes) b)
agree_step names n a b nodes of some g = record {
  many_a = length-map a (joined_name nodes) ∙ g.many_a;
  many_b = length-map b (joined_name nodes) ∙ g.many_b;
  inside = λ p h.
      let (m, at_a, at_b, is) = g.inside p h in
      (joined_name nodes m, map_at_place (joined_name nodes) a p m at_a, map_at_place (joined_name nodes) b p m at_b, joined_part names n nodes m of some is);
  outside_a = outside_step names n a nodes of g.outside_a;
  outside_b = outside_step names n b nodes of g.outside_b;
}

-- the nodes of the hold are parts of the node n
abbrev IsWithinNode : List ℕ → ℕ → Hold → Type 0
IsWithinNode names n hold = All (IsInNode names n) hold.nodes

run : (parts : List Part) (names : List ℕ) (n : ℕ) (a b : List ℕ) (holds : List Hold) → All IsOrderedHold holds → All (IsWithinNode names n) holds → Agree names n a b → KeepFrom parts a holds
    → KeepFrom parts b holds × Agree names n (names_after a holds) (names_after b holds)
run parts names n a b [] ordered within g keep = (tt, g)
run parts names n a b (h ∷ holds) ordered within g keep =
    let of = All-head (IsWithinNode names n) h holds within in
    let sorted = (All-head IsOrderedHold h holds ordered).nodes in
    let two = keep.0.two in
    let some : 1 ≤ length h.nodes = omega (arith, two) in
    let first = keeps_as parts a b h sorted (kept_of names n a b h.nodes g of) (kept_of names n b a h.nodes (turned_round names n a b g) of) keep.0 in
    let rest = run parts names n (map (joined_name h.nodes) a) (map (joined_name h.nodes) b) holds (All-tail IsOrderedHold h holds ordered) (All-tail (IsWithinNode names n) h holds within)
    (agree_step names n a b h.nodes of some g) keep.1 in
    ((first, rest.0), rest.1)

-- a name of another node stays
stays : (names : List ℕ) (n : ℕ) (b : List ℕ) (holds : List Hold) → All (IsWithinNode names n) holds → (p m : ℕ) → slice_get b p ≡ Some m → (IsInNode names n m → ⊥) → slice_get (names_after b holds) p ≡ Some m
stays names n b [] within p m at out = at
stays names n b (h ∷ holds) within p m at out =
    let of = All-head (IsWithinNode names n) h holds within in
    let off : Contains h.nodes m → ⊥ = λ c. out (All-contains (IsInNode names n) h.nodes m of c) in
    stays names n (map (joined_name h.nodes) b) holds (All-tail (IsWithinNode names n) h holds within) p m (map_at_place (joined_name h.nodes) b p m at ∙ ap Some (joined_out h.nodes m off)) out

-- the name of a part is the name of a node
pub name_is : (names : List ℕ) → All (IsName names) names → (p n : ℕ) → IsInNode names n p → IsName names n
name_is names names_are p n at = All-contains (IsName names) names n names_are (from_place names p n at)

-- the list of the nodes, each before those that came before
pub onto : List ℕ → List ℕ → List ℕ
onto [] before = before
onto (n ∷ nodes) before = onto nodes (n ∷ before)

onto_has : (nodes before : List ℕ) (m : ℕ) → Contains nodes m ⊎ Contains before m → Contains (onto nodes before) m
unfolding onto
onto_has [] before m h = ⊎_elim {C = Contains before m} (λ c. absurd (Contains-nothing m c)) (λ c. c) h
onto_has (n ∷ nodes) before m h = onto_has nodes (n ∷ before) m (⊎_elim {C = Contains nodes m ⊎ Contains (n ∷ before) m}
    (λ c. ⊎_elim {C = Contains nodes m ⊎ Contains (n ∷ before) m} (λ e. inr (subst (Contains (n ∷ before)) (sym e) (Contains-front n before))) (λ later. inl later) (Contains-cases n nodes m c))
    (λ c. inr (Contains-there n m before c)) h)

has_onto : (nodes before : List ℕ) (m : ℕ) → Contains (onto nodes before) m → Contains nodes m ⊎ Contains before m
unfolding onto
has_onto [] before m h = inr h
has_onto (n ∷ nodes) before m h = ⊎_elim {C = Contains (n ∷ nodes) m ⊎ Contains before m}
    (λ c. inl (Contains-there n m nodes c))
    (λ c. ⊎_elim {C = Contains (n ∷ nodes) m ⊎ Contains before m} (λ e. inl (subst (Contains (n ∷ nodes)) (sym e) (Contains-front n nodes))) (λ old. inr old) (Contains-cases n before m c))
    (has_onto nodes (n ∷ before) m h)

module _ (parts : List Part) (names : List ℕ) (many : length names ≡ length parts) (names_are : All (IsName names) names) where
  own_fits : (n : ℕ) (done now : List ℕ) → NamesOnly names done now → (Contains done n → ⊥) → Agree names n (own_names (length parts)) now
  own_fits n done now is off = record {
    many_a = own_count (length parts) ∙ sym many;
    many_b = is.many;
    inside = λ p h. (p, own_name (length parts) p (let lt = place_within names p n h in omega (arith, lt, many)), is.others p n h off, h);
    outside_a = λ p m out at h. out (subst (IsInNode names n) (own_is (length parts) p m at) h);
    outside_b = outside;
  }
    where
      outside : (p m : ℕ) → (IsInNode names n p → ⊥) → slice_get now p ≡ Some m → IsInNode names n m → ⊥
      outside p m out at h =
          let long = is.many in
          let lt = place_within now p m at in
          let (q, at_q) = some_at names p (omega (arith, lt, long)) in
          ⊎_elim {C = ⊥}
          (λ t.
          let e : m ≡ q = some_injective m q (sym at ∙ is.joined p q at_q t.0) in
          let same : q ≡ n = some_injective q n (sym (name_is names names_are p q at_q) ∙ subst (IsInNode names n) e h) in
          out (at_q ∙ ap Some same))
          (λ t. out (subst (IsInNode names n) (some_injective m p (sym at ∙ is.others p q at_q t.0)) h))
          (among_or done q)

  node_step : (n : ℕ) (done now : List ℕ) (holds : List Hold) → NamesOnly names done now → (Contains done n → ⊥) → ShowsNode parts names n holds
      → KeepFrom parts now holds × NamesOnly names (n ∷ done) (names_after now holds)
  node_step n done now holds is off shows =
      let g = own_fits n done now is off in
      let (keep, after) = run parts names n (own_names (length parts)) now holds shows.ordered shows.within g shows.keep in (
        keep,
        record {
          many = after.many_b;
          joined = λ p h at c. ⊎_elim {C = slice_get (names_after now holds) p ≡ Some h}
              (λ e.
              let (m, at_a, at_b, _) = after.inside p (at ∙ ap Some e) in
              let named = shows.named.joined p n (at ∙ ap Some e) (Contains-front n []) in
              at_b ∙ ap Some (some_injective m n (sym at_a ∙ named) ∙ sym e))
              (λ old. stays names n now holds shows.within p h (is.joined p h at old)
              (λ of_n. off (subst (Contains done) (some_injective h n (sym (name_is names names_are p h at) ∙ of_n)) old)))
              (Contains-cases n done h c);
          others = λ p h at out. stays names n now holds shows.within p p (is.others p h at (λ old. out (Contains-there n h done old)))
              (λ of_n. out (subst (Contains (n ∷ done)) (some_injective n h (sym of_n ∙ at)) (Contains-front n done)));
        },
      )

  chain : (lists : List (List Hold)) (nodes done now : List ℕ) → ((n : ℕ) → IsName names n → ShowsNode parts names n (get_or lists n [])) → NamesOnly names done now
      → IsStrictlySortedBy nat_cmp nodes → All (IsName names) nodes → ((n : ℕ) → Contains nodes n → Contains done n → ⊥)
      → KeepFrom parts now (holds_of lists nodes) × NamesOnly names (onto nodes done) (names_after now (holds_of lists nodes))
  unfolding onto
  chain lists [] done now shows is sorted named off = (tt, is)
  chain lists (n ∷ nodes) done now shows is sorted named off =
      let holds = get_or lists n [] in
      let (keep, next) = node_step n done now holds is (off n (Contains-front n nodes)) (shows n (All-head (IsName names) n nodes named)) in
      let (keep_rest, end) = chain lists nodes (n ∷ done) (names_after now holds) shows next (sorted_tail nat_cmp n nodes sorted) (All-tail (IsName names) n nodes named) apart in
      (keep_append parts now holds (holds_of lists nodes) keep keep_rest, subst (NamesOnly names (onto nodes (n ∷ done))) (sym (after_append now holds (holds_of lists nodes))) end)
    where
      apart : (m : ℕ) → Contains nodes m → Contains (n ∷ done) m → ⊥
      apart m c old = ⊎_elim {C = ⊥}
          (λ e. let (k, at) = place_of nodes m c in below_first n nodes k m sorted at e)
          (λ earlier. off m (Contains-there n m nodes c) earlier) (Contains-cases n done m old)

  -- the holds of some nodes, one list after another, keep the rules, and join each of these nodes by itself
  pub holds_keep : (lists : List (List Hold)) (nodes : List ℕ) → ((n : ℕ) → IsName names n → ShowsNode parts names n (get_or lists n []))
      → IsStrictlySortedBy nat_cmp nodes → All (IsName names) nodes
      → KeepFrom parts (own_names (length parts)) (holds_of lists nodes) × NamesOnly names nodes (names_after (own_names (length parts)) (holds_of lists nodes))
  holds_keep lists nodes shows sorted named =
      let (keep, is) = chain lists nodes [] (own_names (length parts)) shows begin sorted named (λ n c old. Contains-nothing n old) in (
        keep,
        record {
          many = is.many;
          joined = λ p n at c. is.joined p n at (onto_has nodes [] n (inl c));
          others = λ p n at off. is.others p n at (λ c. ⊎_elim {C = ⊥} off (λ old. Contains-nothing n old) (has_onto nodes [] n c));
        },
      )
    where
      begin : NamesOnly names [] (own_names (length parts))
      begin = record {
        many = own_count (length parts) ∙ sym many;
        joined = λ p n at c. absurd (Contains-nothing n c);
        others = λ p n at off. own_name (length parts) p (let lt = place_within names p n at in omega (arith, lt, many));
      }
