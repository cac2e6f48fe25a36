-- The lines of a refusal, how they and the witnesses are numbered, one more line, and how many they are.
use Rattle.staat_model.specs.declared.certificate.Body.TheVariants as body
use Rattle.std.proofs.Common.{◌≡◌, ◌⊎◌, inl, inr, ⊎_elim, ℕ, ◌<◌, ◌≤◌, ◌+◌, List, [], ◌∷◌, ◌++◌, length, map, sym, ap, ◌∙◌, subst, arith, length-append, take, ◌*◌, refl, All, Contains, zero, suc, Bool, true, false}
use Rattle.std.specs.Prelude.{Some, None, Option, IfSome, slice_get, Err, IfOk, Ok, Result, map, nat_eq, if◌then◌else◌}
use Rattle.std.proofs.lemmas.List.{map-append, length-map, length-take-le, append_cancel_left, length-append}
use Rattle.std.proofs.lemmas.List.Elements.{All-push, All-weaker, All-contains, All-nil, All-head, All-tail, Contains-append_left, Contains-push}
use Rattle.staat_vec.specs.declared.vector.V3.{V3}
use Rattle.staat_model.specs.declared.assembly.Part.{Part}
use Rattle.staat_model.specs.declared.certificate.Dir.{Dir}
use Rattle.staat_model.specs.declared.certificate.Witness.{Witness}
use Rattle.staat_model.specs.declared.set.PartSet.{PartSet}
use Rattle.staat_model.specs.Certify.{IsWitnessAt, NamesWitness, IsBodyOf, IsDirection, IsRefusalOf, NumbersByFirstUse}
use Rattle.staat_certify.specs.WitnessListings.{AreListed, IsNumberOf, EachStandsOnce, IsSizedDirection, IsWitnessListing, key_of, IsOfTable, AreKeys}
use Rattle.staat_vec.proofs.ListLaws.{push_front, take_next, All-at, map_at_place, push_cases, place_of, place_in_map, push_end}
use Rattle.staat_vec.specs.declared.vector.TheConstants.{DIRECTION, NORMAL}
use Rattle.staat_vec.specs.declared.memory.OutOfMemory.{OutOfMemory}
use Rattle.staat_vec.specs.Lists.{Lists}
use Rattle.staat_vec.specs.Primitives.{primitive}
use Rattle.staat_vec.specs.Vectors.{IsWithin, cross, vector_cmp}
use Rattle.staat_vec.proofs.Bounds.{IsWithin-cross, IsWithin-negative, IsWithin-wider}
use Rattle.staat_vec.proofs.Primitives.{IsPrimitive-some, IsWithin-primitive, primitive-is}
use Rattle.staat_model.specs.declared.certificate.Body.{Body}
use Rattle.staat_limits.specs.declared.limits.TheConstants.{LIST_LIMIT}
use Rattle.staat_model.specs.Outcomes.{stuck}
use Rattle.staat_model.specs.Planes.{ArePlanes, crossings, vertices}
use Rattle.staat_model.proofs.EndLemmas.{from_vertices}
use Rattle.staat_model.proofs.PlaneLemmas.{NoneParallel}
use Rattle.staat_model.proofs.VertexLemmas.{same_some}
use Rattle.staat_certify.specs.declared.visit_list.Visit.{Visit}
use Rattle.staat_certify.specs.Visits.{visited_directions}
use Rattle.staat_vec.proofs.VectorLists.{length-le_from_contains}
use Rattle.staat_model.specs.declared.certificate.Arc.{Arc}
use Rattle.staat_pairs.specs.Tables.{IsTable, IsTableArc, Table, slot}
use Rattle.staat_ring.proofs.PairNumbers.{one_arc}
use lib.Pointwise.{pointwise}
use Rattle.std.specs.List.{AllByRecursion, IsDistinct, list_any, position}
use Rattle.std.proofs.lemmas.List.Quantifiers.{position-Some}
use Rattle.std.proofs.lemmas.Option.{slice_get-get_or}
use lib.ListN.{get_or}
use Rattle.std.proofs.Math.Seq.{take-append_seam}
use Rattle.staat_model.proofs.Places.{place_within}
use Rattle.std.proofs.lemmas.Slice.Eq.{bytes_eq-Decides}
use Rattle.staat_vec.proofs.Naturals.{lt_one_more_cases}

pub numbers_none : NumbersByFirstUse 0 []
numbers_none = record { below = All-nil (λ k. k < 0); used = λ k lt. absurd (omega arith); in_order = λ k m at. absurd cc }

-- a number that was given, or the next one
pub numbers_next : (n : ℕ) (uses : List ℕ) (i more : ℕ) → NumbersByFirstUse n uses → ((i < n) × (more ≡ n)) ⊎ ((i ≡ n) × (more ≡ n + 1)) → NumbersByFirstUse more (uses ++ i ∷ [])
numbers_next n uses i more numbers given = record {
  below = All-push (λ k. k < more) uses i (All-weaker (λ k. k < n) (λ k. k < more) (λ k lt. ⊎_elim (λ h. omega (arith, lt, h.1)) (λ h. omega (arith, lt, h.1)) given) uses numbers.below) (⊎_elim (λ h. omega (arith, h.0, h.1)) (λ h. omega (arith, h.0, h.1)) given);
  used = λ k lt. ⊎_elim
      (λ old. Contains-append_left uses (i ∷ []) k (numbers.used k old))
      (λ e. subst (Contains (uses ++ i ∷ [])) (sym e) (Contains-push uses i))
      (cases k lt);
  in_order = λ k m at. ⊎_elim
      (λ early. let before = numbers.in_order k m early in (before.0, before.1, push_front uses i k before.0 before.2))
      (λ last.
      let below : k < n = ⊎_elim (λ h. omega (arith, h.0, last.1)) (λ h. omega (arith, h.0, last.1)) given in
      let place = place_of uses k (numbers.used k below) in
      (place.0, omega (arith, place_within uses place.0 k place.1, last.0), push_front uses i k place.0 place.1))
      (push_cases uses i (suc k) m at);
}
  where
    cases : (k : ℕ) → k < more → (k < n) ⊎ (k ≡ i)
    cases k lt = ⊎_elim {C = (k < n) ⊎ (k ≡ i)}
        (λ h. inl (omega (arith, lt, h.1)))
        (λ h. ⊎_elim {C = (k < n) ⊎ (k ≡ i)} (λ less. inl less) (λ e. inr (omega (arith, e, h.0))) (lt_one_more_cases k n (omega (arith, lt, h.1))))
        given

-- ---- keys by their items

module _ {X : Type 0} (items : X → List ℕ) where
  later_differs : (x : X) (xs : List X) (m : ℕ) (l : List ℕ) → AllByRecursion (λ y. pointwise nat_eq (items x) (items y) ≡ false) xs → slice_get (map items xs) m ≡ Some l → items x ≡ l → ⊥
  later_differs x [] m l all e same = cc
  later_differs x (y ∷ xs) zero l all e same =
      let there : items y ≡ l = cc in
      let wrong : true ≡ false = sym ((bytes_eq-Decides (items x) (items x)).1 refl) ∙ ap (λ k. pointwise nat_eq (items x) k) (same ∙ sym there) ∙ all.0 in
      cc
  later_differs x (y ∷ xs) (suc m) l all e same = later_differs x xs m l all.1 e same

  pub places_differ : (xs : List X) → IsDistinct (λ x y. pointwise nat_eq (items x) (items y)) xs → EachStandsOnce (map items xs)
  unfolding IsDistinct
  places_differ [] distinct k m l a b = absurd cc
  places_differ (x ∷ xs) distinct zero zero l a b = refl
  places_differ (x ∷ xs) distinct zero (suc m) l a b = absurd (later_differs x xs m l distinct.0 b (let same : items x ≡ l = cc in same))
  places_differ (x ∷ xs) distinct (suc k) zero l a b = absurd (later_differs x xs k l distinct.0 a (let same : items x ≡ l = cc in same))
  places_differ (x ∷ xs) distinct (suc k) (suc m) l a b = ap suc (places_differ xs distinct.1 k m l a b)

  pub number_is : (old new : List X) (key : X) (i : ℕ) → new ≡ (if list_any (λ y. pointwise nat_eq (items key) (items y)) old then old else old ++ key ∷ []) → EachStandsOnce (map items new)
      → (x : X) × (slice_get new i ≡ Some x) × (pointwise nat_eq (items key) (items x) ≡ true) → IsNumberOf (map items old) (map items new) (items key) i
  number_is old new key i e distinct (x, at, same) = go (list_any (λ y. pointwise nat_eq (items key) (items y)) old) refl e
    where
      here : slice_get (map items new) i ≡ Some (items key)
      here = map_at_place items new i x at ∙ ap Some (sym ((bytes_eq-Decides (items key) (items x)).0 same))

      go : (b : Bool) → list_any (λ y. pointwise nat_eq (items key) (items y)) old ≡ b → new ≡ (if b then old else old ++ key ∷ []) → IsNumberOf (map items old) (map items new) (items key) i
      go true any is = record { which = inl (ap (map items) is, subst (λ l. i < length l) (ap (map items) is) (place_within (map items new) i (items key) here)); at = here }
      go false any is =
          let more : map items new ≡ map items old ++ items key ∷ [] = ap (map items) is ∙ map-append items old (key ∷ []) in
          let last = ap (λ l. slice_get l (length (map items old))) more ∙ push_end (map items old) (items key) in
          record { which = inr (more, distinct i (length (map items old)) (items key) here last); at = here }

  -- the place of the first whose items these are
  pub found_at : (xs : List X) (key : List ℕ) (found : Option ℕ) → found ≡ position (λ x. pointwise nat_eq key (items x)) xs → IfSome found (λ i. slice_get (map items xs) i ≡ Some key)
  found_at xs key None is = tt
  found_at [] key (Some i) is = absurd cc
  found_at (x ∷ xs) key (Some i) is =
      let here = get_or (x ∷ xs) i x in
      let (within, same, _) = position-Some (λ y. pointwise nat_eq key (items y)) (x ∷ xs) i x (sym is) in
      map_at_place items (x ∷ xs) i here (slice_get-get_or (x ∷ xs) i x within) ∙ ap Some (sym ((bytes_eq-Decides key (items here)).0 same))

-- ---- a key tells its witness from each other of the table

module _ (t : Table) (rules : IsTable t) where
  arcs_same : (xs ys : List Arc) → All (IsTableArc t) xs → All (IsTableArc t) ys → map (slot t.pieces) xs ≡ map (slot t.pieces) ys → xs ≡ ys
  arcs_same [] [] p q e = refl
  arcs_same [] (y ∷ ys) p q e = absurd cc
  arcs_same (x ∷ xs) [] p q e = absurd cc
  arcs_same (x ∷ xs) (y ∷ ys) p q e =
      let first : slot t.pieces x ≡ slot t.pieces y = cc in
      let rest : map (slot t.pieces) xs ≡ map (slot t.pieces) ys = cc in
      let here = one_arc t rules x y (All-head (IsTableArc t) x xs p) (All-head (IsTableArc t) y ys q) first in
      let later = arcs_same xs ys (All-tail (IsTableArc t) x xs p) (All-tail (IsTableArc t) y ys q) rest in
      λ k. here k ∷ later k

  half : (x : Witness) → IsOfTable t x → length (key_of t.pieces x) ≡ 2 * length (map (slot t.pieces) x.outs)
  half x of = omega (arith, length-append (map (slot t.pieces) x.outs) (map (slot t.pieces) x.ins), length-map x.outs (slot t.pieces), length-map x.ins (slot t.pieces), of.even)

  pub key_tells : (x y : Witness) → IsOfTable t x → IsOfTable t y → key_of t.pieces x ≡ key_of t.pieces y → x ≡ y
  key_tells x y p q e =
      let (xs, us) : List ℕ × List ℕ = (map (slot t.pieces) x.outs, map (slot t.pieces) x.ins) in
      let (ys, vs) : List ℕ × List ℕ = (map (slot t.pieces) y.outs, map (slot t.pieces) y.ins) in
      let long : length xs ≡ length ys = omega (arith, half x p, half y q, ap length e) in
      let first : xs ≡ ys = sym (take-append_seam xs us) ∙ ap (take (length xs)) e ∙ ap (λ n. take n (ys ++ vs)) long ∙ take-append_seam ys vs in
      let second : us ≡ vs = append_cancel_left xs us vs (e ∙ ap (λ l. l ++ vs) (sym first)) in
      let outs = arcs_same x.outs y.outs p.outs q.outs first in
      let ins = arcs_same x.ins y.ins p.ins q.ins second in
      λ k. record { outs = outs k; ins = ins k }

-- ---- a witness and its number

-- a witness whose key is known was found before
pub known_is : (t : Table) (keys : List (List ℕ)) (witnesses : List Witness) (witness : Witness) (i : ℕ) → IsTable t → IsOfTable t witness → AreKeys t keys witnesses → slice_get keys i ≡ Some (key_of t.pieces witness)
    → slice_get witnesses i ≡ Some witness
known_is t keys witnesses witness i rules own before at =
    let (x, there, same) = place_in_map (key_of t.pieces) witnesses i (key_of t.pieces witness) (subst (λ ks. slice_get ks i ≡ Some (key_of t.pieces witness)) before.are at) in
    there ∙ ap Some (key_tells t rules x witness (All-at (IsOfTable t) witnesses i x there before.each) own same)

module _ (t : Table) (keys more : List (List ℕ)) (witnesses : List Witness) (witness : Witness) (i : ℕ) (own : IsOfTable t witness) (before : AreKeys t keys witnesses) (of : IsNumberOf keys more (key_of t.pieces witness) i) (distinct : EachStandsOnce more) where
  many : length keys ≡ length witnesses
  many = ap length before.are ∙ length-map witnesses (key_of t.pieces)

  -- it was there
  pub number_old : IsTable t → (i ≡ length witnesses → ⊥) → AreKeys t more witnesses × IsNumberOf witnesses witnesses witness i
  number_old rules other = ⊎_elim
      (λ old.
      let now : AreKeys t more witnesses = record { are = old.0 ∙ before.are; each = before.each; distinct = distinct } in
      (now, record { which = inl (refl, omega (arith, many, old.1)); at = known_is t more witnesses witness i rules own now of.at }))
      (λ new. absurd (other (new.1 ∙ many)))
      of.which

  -- it is new
  pub number_new : (now : List Witness) → now ≡ witnesses ++ witness ∷ [] → i ≡ length witnesses → AreKeys t more now × IsNumberOf witnesses now witness i
  number_new now is last = ⊎_elim
      (λ old. absurd (omega (arith, many, old.1, last)))
      (λ new. (
        record {
          are = new.0 ∙ ap (λ ks. ks ++ key_of t.pieces witness ∷ []) before.are ∙ sym (map-append (key_of t.pieces) witnesses (witness ∷ [])) ∙ ap (map (key_of t.pieces)) (sym is);
          each = subst (All (IsOfTable t)) (sym is) (All-push (IsOfTable t) witnesses witness before.each own);
          distinct = distinct;
        },
        record { which = inr (is, last); at = ap (slice_get now) last ∙ ap (λ ws. slice_get ws (length witnesses)) is ∙ push_end witnesses witness },
      ))
      of.which

-- witnesses whose keys are different are different
pub apart_by_keys : (t : Table) (keys : List (List ℕ)) (witnesses : List Witness) → AreKeys t keys witnesses → EachStandsOnce witnesses
apart_by_keys t keys witnesses by k m x a b = by.distinct k m (key_of t.pieces x) (there k a) (there m b)
  where
    there : (n : ℕ) → slice_get witnesses n ≡ Some x → slice_get keys n ≡ Some (key_of t.pieces x)
    there n at = ap (λ ks. slice_get ks n) by.are ∙ map_at_place (key_of t.pieces) witnesses n x at

pub no_keys : (t : Table) (keys : List (List ℕ)) (witnesses : List Witness) → keys ≡ [] → witnesses ≡ [] → AreKeys t keys witnesses
no_keys t keys witnesses none no_witness = record {
  are = none ∙ sym (ap (map (key_of t.pieces)) no_witness);
  each = subst (All (IsOfTable t)) (sym no_witness) (All-nil (IsOfTable t));
  distinct = λ k m key a b. let nothing : slice_get [] k ≡ Some key = subst (λ (ks : List (List ℕ)). slice_get ks k ≡ Some key) none a in cc;
}

-- ---- one more line

module _ (parts : List Part) (w : PartSet) (old now : List Witness) (witness : Witness) (i : ℕ) (of : IsNumberOf old now witness i) where
  pub kept : (k : ℕ) (x : Witness) → slice_get old k ≡ Some x → slice_get now k ≡ Some x
  kept k x at = ⊎_elim
      (λ same. subst (λ ws. slice_get ws k ≡ Some x) (sym same.0) at)
      (λ new. subst (λ ws. slice_get ws k ≡ Some x) (sym new.0) (push_front old witness x k at))
      of.which

  named : (dir : Dir) → NamesWitness parts w old dir → NamesWitness parts w now dir
  named dir names = record { witness = names.witness; witness_is = kept dir.witness names.witness names.witness_is; is = names.is }

  given : ((i < length old) × (length now ≡ length old)) ⊎ ((i ≡ length old) × (length now ≡ length old + 1))
  given = ⊎_elim
      (λ same. inl (same.1, ap length same.0))
      (λ new. inr (new.1, ap length new.0 ∙ length-append old (witness ∷ [])))
      of.which

  pub listed_more : (dirs next : List Dir) (d : V3) → AreListed parts w old dirs → IsWitnessAt parts w d witness → next ≡ dirs ++ (record { d = d; witness = i }) ∷ [] → AreListed parts w now next
  listed_more dirs next d before is e = subst (λ ds. AreListed parts w now ds) (sym e) (record {
    each = All-push (NamesWitness parts w now) dirs line (All-weaker (NamesWitness parts w old) (NamesWitness parts w now) named dirs before.each) (record { witness = witness; witness_is = of.at; is = is });
    by_first_use = subst (λ ns. Rattle.staat_model.specs.Certify.NumbersByFirstUse (length now) ns) (sym (map-append (λ (dir : Dir). dir.witness) dirs (line ∷ []))) (numbers_next (length old) (map (λ dir. dir.witness) dirs) i (length now) before.by_first_use given);
    few = let long : length (dirs ++ line ∷ []) ≡ length dirs + 1 = length-append dirs (line ∷ []) in
        ⊎_elim (λ h. omega (arith, long, h.1, before.few)) (λ h. omega (arith, long, h.1, before.few)) given;
  })
    where
      line : Dir
      line = record { d = d; witness = i }

  pub number_small : i ≤ length old
  number_small = ⊎_elim (λ same. let lt = same.1 in omega (arith, lt)) (λ new. let e = new.1 in omega (arith, e)) of.which

pub line_pushed : (dirs next : List Dir) (x d : V3) (i : ℕ) → next ≡ dirs ++ (record { d = x; witness = i }) ∷ [] → x ≡ d → map (λ (dir : Dir). dir.d) next ≡ map (λ (dir : Dir). dir.d) dirs ++ d ∷ []
line_pushed dirs next x d i e same =
    ap (map (λ (dir : Dir). dir.d)) e ∙ map-append (λ (dir : Dir). dir.d) dirs ((record { d = x; witness = i }) ∷ []) ∙ ap (λ (v : V3). map (λ (dir : Dir). dir.d) dirs ++ v ∷ []) same

-- the lines so far are those of these directions
pub record HasLines (parts : List Part) (w : PartSet) (witnesses : List Witness) (dirs : List Dir) (ds : List V3) : Type 0 where
  pub listed : AreListed parts w witnesses dirs
  pub lines : map (λ dir. dir.d) dirs ≡ ds

-- ---- the vertices of planes

pub vertex_sized : (planes : List V3) (v : V3) → All (IsWithin NORMAL) planes → NoneParallel planes → Contains (vertices planes) v → IsSizedDirection v
vertex_sized planes v small apart c =
    let f = from_vertices planes v apart c in
    let g : IsWithin NORMAL f.g = All-contains (IsWithin NORMAL) planes f.g small f.g_in in
    let h : IsWithin NORMAL f.h = All-contains (IsWithin NORMAL) planes f.h small f.h_in in
    let turn : IsWithin DIRECTION (cross f.g f.h) = IsWithin-wider (2 * (NORMAL * NORMAL)) DIRECTION (cross f.g f.h) (omega arith) (IsWithin-cross NORMAL NORMAL f.g f.h g h) in
    let ray : IsWithin DIRECTION (primitive (cross f.g f.h)) = IsWithin-primitive DIRECTION (cross f.g f.h) turn in
    record {
      size = ⊎_elim {C = IsWithin DIRECTION v} (λ e. subst (IsWithin DIRECTION) (sym e) ray) (λ e. subst (IsWithin DIRECTION) (sym e) (IsWithin-negative DIRECTION (primitive (cross f.g f.h)) ray)) f.is;
      some = same_some v _ f.is (IsPrimitive-some _ (primitive-is (cross f.g f.h) f.independent).primitive);
    }

crossings_count : (g : V3) (hs : List V3) → length (crossings g hs) ≡ 2 * length hs
crossings_count g [] = refl
crossings_count g (h ∷ hs) = let rest = crossings_count g hs in omega (arith, rest)

vertices_count : (gs : List V3) → length gs ≤ 1024 → length (vertices gs) ≤ 2048 * length gs
vertices_count [] le = omega arith
vertices_count (g ∷ gs) le =
    let here = crossings_count g gs in
    let rest = vertices_count gs (omega arith) in
    omega (arith, here, rest, length-append (crossings g gs) (vertices gs))

pub few_directions : (version : ℕ) (planes ds : List V3) → length planes ≤ 1024 → Lists vector_cmp (IsDirection version planes) ds → length ds < LIST_LIMIT
few_directions version planes ds few lists =
    let le : length ds ≤ length (vertices planes) = length-le_from_contains ds (vertices planes) lists.ascending (λ v c. (lists.each v c).vertex) in
    let most = vertices_count planes few in
    omega (arith, le, most)

-- ---- the whole list

pub refusal_listed : (parts : List Part) (version : ℕ) (w : PartSet) (planes ds : List V3) (witnesses : List Witness) (dirs : List Dir) → ArePlanes parts w planes → Lists vector_cmp (IsDirection version planes) ds → EachStandsOnce witnesses → AreListed parts w witnesses dirs → map (λ dir. dir.d) dirs ≡ ds → IsRefusalOf parts version w witnesses dirs
refusal_listed parts version w planes ds witnesses dirs planes_are lists apart listed e = record {
  planes = planes;
  planes_are = planes_are;
  directions = subst (Lists vector_cmp (IsDirection version planes)) (sym e) lists;
  each = listed.each;
  distinct = apart;
  by_first_use = listed.by_first_use;
}

pub listed_end : (parts : List Part) (version : ℕ) (w : PartSet) (planes ds : List V3) (answer : Result Body OutOfMemory) → ArePlanes parts w planes → Lists vector_cmp (IsDirection version planes) ds
    → IfOk answer (IsWitnessListing parts w ds) → IfOk answer (IsBodyOf parts version (stuck w))
listed_end parts version w planes ds (Ok (body.Plan nodes)) are lists listed = listed
listed_end parts version w planes ds (Ok (body.Stuck v witnesses dirs)) are lists (same, apart, listed, lines) = (same, refusal_listed parts version w planes ds witnesses dirs are lists apart listed lines)
listed_end parts version w planes ds (Err x) are lists listed = tt

-- ---- the lines so far

pub no_lines : (parts : List Part) (w : PartSet) (witnesses : List Witness) (dirs : List Dir) → witnesses ≡ [] → dirs ≡ [] → HasLines parts w witnesses dirs []
no_lines parts w witnesses dirs x d =
    subst (λ ws. HasLines parts w ws dirs []) (sym x) (subst (λ ds. HasLines parts w [] ds []) (sym d) (record {
      listed = record { each = All-nil (NamesWitness parts w []); by_first_use = numbers_none; few = omega arith };
      lines = refl;
    }))

pub few_lines : (visited : List Visit) (dirs : List Dir) (k : ℕ) → map (λ dir. dir.d) dirs ≡ visited_directions (take k visited) → k < length visited → length visited < LIST_LIMIT → length dirs < LIST_LIMIT
few_lines visited dirs k lines lt few =
    let e : length dirs ≡ length (take k visited) = sym (length-map dirs (λ (dir : Dir). dir.d)) ∙ (ap length lines ∙ length-map (take k visited) (λ (visit : Visit). visit.d)) in
    let t = length-take-le k visited (omega (arith, lt)) in
    omega (arith, e, t, lt, few)

pub lines_more : (visited : List Visit) (before after : List Dir) (k : ℕ) (visit : Visit) → map (λ dir. dir.d) before ≡ visited_directions (take k visited) → slice_get visited k ≡ Some visit → map (λ dir. dir.d) after ≡ map (λ dir. dir.d) before ++ visit.d ∷ []
    → map (λ dir. dir.d) after ≡ visited_directions (take (k + 1) visited)
lines_more visited before after k visit lines at line =
    line ∙ (ap (λ (ds : List V3). ds ++ visit.d ∷ []) lines ∙ sym (ap visited_directions (take_next visited k visit at) ∙ map-append (λ (v : Visit). v.d) (take k visited) (visit ∷ [])))
