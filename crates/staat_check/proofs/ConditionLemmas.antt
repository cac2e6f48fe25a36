-- The facets of the arcs of a witness, by their numbers.
use Rattle.std.proofs.Common.{◌≡◌, ◌↔◌, ⊎_elim, ℕ, ℤ, ◌+◌, ◌<◌, ◌≤◌, arith, refl, sym, ap, subst, ◌∙◌, List, [], ◌∷◌, ◌++◌, append-nil, append_assoc, length, get_or, take, pos, ◌<ℤ◌, All, Contains}
use mathlib.Core.Bool.{beq}
use Rattle.std.proofs.lemmas.Bool.{false≢true}
use Rattle.std.specs.Prelude.{Bool, Err, IsTrue, Ok, OnOk, Result, Some, false, flat_map, map, slice_get, true}
use Rattle.staat_vec.specs.declared.memory.OutOfMemory.{OutOfMemory}
use Rattle.std.proofs.lemmas.List.{drop_at, flat_map_more, get_or-map, get_or_append_left, get_or_push, length-append, length-map, take_all, take_more}
use Rattle.std.proofs.lemmas.Option.{get_or_from_slice_get}
use Rattle.std.proofs.lemmas.List.Elements.{All-append, All-cons, All-contains, All-head, All-nil, All-tail, Contains-append_cases, Contains-append_left, Contains-append_right, Contains-push, Contains-push_cases}
use Rattle.staat_vec.specs.declared.vector.V3.{V3}
use Rattle.staat_vec.specs.Primitives.{canon}
use Rattle.staat_vec.specs.Vectors.{dot, negative, origin}
use Rattle.staat_vec.proofs.Canons.{canon-either, negative-negative}
use Rattle.staat_vec.proofs.ListLaws.{Contains-map, get_drop, get_front, map_at_place, other_default}
use Rattle.staat_vec.proofs.Naturals.{lt_one_more_cases}
use Rattle.staat_vec.proofs.Options.{some_injective}
use Rattle.staat_vec.proofs.Unique.{Contains-nothing}
use Rattle.staat_model.specs.declared.assembly.Part.{Part}
use Rattle.staat_model.specs.declared.certificate.Arc.{Arc}
use Rattle.staat_model.specs.declared.certificate.Witness.{Witness}
use Rattle.staat_model.specs.Certificates.{IsBlocking}
use Rattle.staat_model.specs.Facets.{IsFacet}
use Rattle.staat_model.proofs.Differences.{from_map}
use Rattle.staat_model.proofs.Members.{All-from_members, all_back, all_front}
use Rattle.staat_model.proofs.Places.{one_at_place, place_within}
use Rattle.staat_pairs.specs.Tables.{IsTableArc, Table, WasMadeFrom, back, facets_of, reversed_facets}
use Rattle.staat_pairs.proofs.TableLemmas.{facets_reversed}
use Rattle.staat_pairs.proofs.ReversedFacets.{from_reversed, in_reversed}
use Rattle.staat_check.specs.Conditions.{AddsNumbers, AreConditions, AreLists, AreNumbers, HasNumber, IsAcrossAll, IsNumbered, LeadsAheadOf, asked_facets, both_sides, turned_all, turned_if}

-- ---- both sides of planes

side_behind : (planes : List V3) (k : ℕ) (n : V3) → slice_get planes k ≡ Some n → slice_get (both_sides planes) (length planes + k) ≡ Some (negative n)
side_behind planes k n at =
    sym (get_drop (both_sides planes) (length planes) k) ∙ ap (λ l. slice_get l k) (drop_at planes (map negative planes) (length planes) refl) ∙ map_at_place negative planes k n at

turned_of : (facet seen : V3) → seen ≡ canon facet → IsTrue false ↔ (seen ≡ facet) → canon facet ≡ negative facet
turned_of facet seen e told = ⊎_elim {C = canon facet ≡ negative facet} (λ here. absurd (false≢true (told.1 (e ∙ here)))) (λ turned. turned) (canon-either facet)

-- the number of a facet, or of its opposite, whose canonical vector stands at place k
pub number_is : (planes : List V3) (k : ℕ) (facet seen : V3) (same turned : Bool) → seen ≡ canon facet → IsTrue same ↔ (seen ≡ facet) → slice_get planes k ≡ Some (canon facet)
    → (beq same turned ≡ true → slice_get (both_sides planes) (length planes + k) ≡ Some (turned_if turned facet)) × (beq same turned ≡ false → slice_get (both_sides planes) k ≡ Some (turned_if turned facet))
number_is planes k facet seen true true e told at = (λ is. side_behind planes k facet (at ∙ ap Some (sym e ∙ told.0 refl)), λ not. absurd (false≢true (sym not)))
number_is planes k facet seen true false e told at = (λ is. absurd (false≢true is), λ not. get_front planes (map negative planes) k facet (at ∙ ap Some (sym e ∙ told.0 refl)))
number_is planes k facet seen false true e told at = (λ is. absurd (false≢true is), λ not. get_front planes (map negative planes) k (negative facet) (at ∙ ap Some (turned_of facet seen e told)))
number_is planes k facet seen false false e told at = (
  λ is. side_behind planes k (canon facet) at ∙ ap Some (ap negative (turned_of facet seen e told) ∙ negative-negative facet),
  λ not. absurd (false≢true (sym not)),
)

-- the product with a normal that was read
pub product_is : (normals : List V3) (d : V3) (r : ℤ) (k : ℕ) (n : V3) → k < length normals → n ≡ get_or normals k n → r ≡ dot n d → r ≡ dot (get_or normals k origin) d
product_is normals d r k n lt is e = e ∙ ap (λ m. dot m d) (other_default normals k n origin lt is)

-- ---- numbers

no_numbers : (normals : List V3) (none : List ℕ) → none ≡ [] → AreNumbers normals [] none
no_numbers normals none empty = subst (AreNumbers normals []) (sym empty) (record { from = λ k c. absurd (Contains-nothing k c); all = λ n c. absurd (Contains-nothing n c) })

turned_size : (turned : Bool) (facets : List V3) → length (turned_all turned facets) ≡ length facets
turned_size false facets = refl
turned_size true facets = length-map facets negative

turned_at : (turned : Bool) (facets : List V3) (k : ℕ) (d : V3) → k < length facets → get_or (turned_all turned facets) k (turned_if turned d) ≡ turned_if turned (get_or facets k d)
turned_at false facets k d lt = refl
turned_at true facets k d lt = get_or-map negative facets k d (negative d) lt

-- one more number
adds_one : (normals more : List V3) (old mid new : List ℕ) (p : ℕ) (n : V3) → AddsNumbers normals more old mid → slice_get normals p ≡ Some n → new ≡ mid ++ p ∷ [] → AddsNumbers normals (more ++ n ∷ []) old new
adds_one normals more old mid new p n adds at is = λ facets before.
    let are = adds facets before in
    subst (λ l. AreNumbers normals l new) (append_assoc facets more (n ∷ [])) (record {
      from = λ m c. ⊎_elim {C = IsNumbered normals ((facets ++ more) ++ n ∷ []) m}
          (λ early. let h = are.from m early in record { facet = h.facet; at = h.at; listed = Contains-append_left (facets ++ more) (n ∷ []) h.facet h.listed })
          (λ same. record { facet = n; at = subst (λ j. slice_get normals j ≡ Some n) same at; listed = Contains-push (facets ++ more) n })
          (Contains-push_cases mid p m (subst (λ l. Contains l m) is c));
      all = λ x c. ⊎_elim {C = HasNumber normals new x}
          (λ early. let h = are.all x early in record { number = h.number; listed = subst (λ l. Contains l h.number) (sym is) (Contains-append_left mid (p ∷ []) h.number h.listed); at = h.at })
          (λ same. record { number = p; listed = subst (λ l. Contains l p) (sym is) (Contains-push mid p); at = at ∙ ap Some same })
          (Contains-push_cases (facets ++ more) n x c);
    })

pub facets_more : (turned : Bool) (normals facets seen : List V3) (k p : ℕ) (d : V3) (old mid new : List ℕ) → seen ≡ facets → k < length seen → AddsNumbers normals (take k (turned_all turned facets)) old mid
    → slice_get normals p ≡ Some (turned_if turned (get_or seen k d)) → new ≡ mid ++ p ∷ [] → AddsNumbers normals (take (k + 1) (turned_all turned facets)) old new
facets_more turned normals facets seen k p d old mid new e lt adds at is =
    let turned_facets : List V3 = turned_all turned facets in
    let within : k < length facets = subst (λ l. k < length l) e lt in
    let below : k < length turned_facets = subst (λ n. k < n) (sym (turned_size turned facets)) within in
    subst (λ l. AddsNumbers normals l old new) (sym (take_more turned_facets k (turned_if turned d) below))
    (adds_one normals (take k turned_facets) old mid new p (get_or turned_facets k (turned_if turned d)) adds
    (at ∙ ap (λ l. Some (turned_if turned (get_or l k d))) e ∙ ap Some (sym (turned_at turned facets k d within))) is)

-- lists with the same members
same_numbers : (normals facets others : List V3) (numbers : List ℕ) → ((n : V3) → Contains facets n → Contains others n) → ((n : V3) → Contains others n → Contains facets n)
    → AreNumbers normals facets numbers → AreNumbers normals others numbers
same_numbers normals facets others numbers there back are = record {
  from = λ k c. let h = are.from k c in record { facet = h.facet; at = h.at; listed = there h.facet h.listed };
  all = λ n c. are.all n (back n c);
}

to_reversed : (facets : List V3) (n : V3) → Contains (map negative facets) n → Contains (reversed_facets facets) n
to_reversed facets n c = let (x, listed, e) = from_map negative facets n c in subst (Contains (reversed_facets facets)) (sym e) (in_reversed facets x listed)

to_opposites : (facets : List V3) (n : V3) → Contains (reversed_facets facets) n → Contains (map negative facets) n
to_opposites facets n c = subst (Contains (map negative facets)) (negative-negative n) (Contains-map negative facets (negative n) (from_reversed facets n c))

same_members : (before xs ys : List V3) → ((n : V3) → Contains xs n → Contains ys n) → (n : V3) → Contains (before ++ xs) n → Contains (before ++ ys) n
same_members before xs ys to n c = ⊎_elim {C = Contains (before ++ ys) n} (λ early. Contains-append_left before ys n early) (λ now. Contains-append_right before ys n (to n now)) (Contains-append_cases before xs n c)

-- the facets of an arc to a lesser part are the opposites of those that are kept
adds_back : (t : Table) (normals : List V3) (arc other : Arc) (old new : List ℕ) → IsTableArc t arc → arc.b ≤ arc.a → other ≡ back arc → AddsNumbers normals (map negative (facets_of t other)) old new → AddsNumbers normals (facets_of t arc) old new
adds_back t normals arc other old new across le e adds = λ before are.
    let facets : List V3 = facets_of t other in
    let turns : facets_of t arc ≡ reversed_facets facets = facets_reversed t arc other facets across le e refl in
    subst (λ l. AreNumbers normals (before ++ l) new) (sym turns)
    (same_numbers normals (before ++ map negative facets) (before ++ reversed_facets facets) new (same_members before (map negative facets) (reversed_facets facets) (to_reversed facets))
    (same_members before (reversed_facets facets) (map negative facets) (to_opposites facets)) (adds before are))

pub adds_back_if_ok : (t : Table) (normals : List V3) (arc other : Arc) (old new : List ℕ) (r : Result (Unit {0}) OutOfMemory) → IsTableArc t arc → arc.b ≤ arc.a → other ≡ back arc
    → OnOk r (AddsNumbers normals (map negative (facets_of t other)) old new) → OnOk r (AddsNumbers normals (facets_of t arc) old new)
adds_back_if_ok t normals arc other old new (Ok u) across le e adds = adds_back t normals arc other old new across le e adds
adds_back_if_ok t normals arc other old new (Err x) across le e adds = tt

-- ---- numbers of arcs

pub arcs_more : (t : Table) (normals : List V3) (arcs : List Arc) (k : ℕ) (d : Arc) (old mid new : List ℕ) → k < length arcs → AddsNumbers normals (flat_map (facets_of t) (take k arcs)) old mid
    → AddsNumbers normals (facets_of t (get_or arcs k d)) mid new → AddsNumbers normals (flat_map (facets_of t) (take (k + 1) arcs)) old new
arcs_more t normals arcs k d old mid new lt adds more = λ facets before.
    let early : List V3 = flat_map (facets_of t) (take k arcs) in
    let now : List V3 = facets_of t (get_or arcs k d) in
    let whole : flat_map (facets_of t) (take (k + 1) arcs) ≡ early ++ now = ap (flat_map (facets_of t)) (take_more arcs k d lt) ∙ sym (flat_map_more (facets_of t) [] (take k arcs) (get_or arcs k d)) in
    subst (λ l. AreNumbers normals l new) (append_assoc facets early now ∙ ap (λ l. facets ++ l) (sym whole)) (more (facets ++ early) (adds facets before))

pub arcs_none : (t : Table) (normals : List V3) (arcs : List Arc) (old : List ℕ) → AddsNumbers normals (flat_map (facets_of t) (take 0 arcs)) old old
arcs_none t normals arcs old = λ facets before. subst (λ l. AreNumbers normals l old) (sym (append-nil facets)) before

pub arcs_end : (t : Table) (normals : List V3) (arcs : List Arc) (k : ℕ) (old new : List ℕ) → length arcs ≤ k → AddsNumbers normals (flat_map (facets_of t) (take k arcs)) old new → AddsNumbers normals (flat_map (facets_of t) arcs) old new
arcs_end t normals arcs k old new le adds = subst (λ l. AddsNumbers normals (flat_map (facets_of t) l) old new) (take_all k arcs le) adds

pub witness_arcs : (t : Table) (normals : List V3) (witness : Witness) (outs ins : List Arc) (old mid new : List ℕ) (r : Result (Unit {0}) OutOfMemory) → outs ≡ witness.outs → ins ≡ witness.ins → AddsNumbers normals (flat_map (facets_of t) outs) old mid
    → OnOk r (AddsNumbers normals (flat_map (facets_of t) ins) mid new) → OnOk r (AddsNumbers normals (asked_facets t witness) old new)
witness_arcs t normals witness outs ins old mid new (Ok u) e f first second = λ facets before.
    let some : AddsNumbers normals (flat_map (facets_of t) witness.outs) old mid = subst (λ l. AddsNumbers normals (flat_map (facets_of t) l) old mid) e first in
    let more : AddsNumbers normals (flat_map (facets_of t) witness.ins) mid new = subst (λ l. AddsNumbers normals (flat_map (facets_of t) l) mid new) f second in
    subst (λ l. AreNumbers normals l new) (append_assoc facets (flat_map (facets_of t) witness.outs) (flat_map (facets_of t) witness.ins)) (more (facets ++ flat_map (facets_of t) witness.outs) (some facets before))
witness_arcs t normals witness outs ins old mid new (Err x) e f first second = tt

pub conditions_are : (t : Table) (normals : List V3) (witness : Witness) (none all once : List ℕ) → none ≡ [] → AddsNumbers normals (asked_facets t witness) none all → ((m : ℕ) → Contains once m ↔ Contains all m) → AreConditions t normals witness once
conditions_are t normals witness none all once empty adds same =
    let whole = adds [] (no_numbers normals none empty) in
    record {
      from = λ m c. whole.from m ((same m).0 c);
      all = λ n c. let h = whole.all n c in record { number = h.number; listed = (same h.number).1 h.listed; at = h.at };
    }

-- ---- lists for witnesses

pub lists_none : (t : Table) (normals : List V3) (witnesses : List Witness) (lists : List (List ℕ)) → lists ≡ [] → AreLists t normals witnesses 0 lists
lists_none t normals witnesses lists e = record { count = ap length e; each = λ m witness lt. absurd (omega (arith, lt)) }

pub lists_more : (t : Table) (normals : List V3) (witnesses : List Witness) (lists more : List (List ℕ)) (list : List ℕ) (k : ℕ) (witness : Witness) → slice_get witnesses k ≡ Some witness → AreLists t normals witnesses k lists → AreConditions t normals witness list → more ≡ lists ++ list ∷ [] → AreLists t normals witnesses (k + 1) more
lists_more t normals witnesses lists more list k witness at are conditions e = record {
  count = ap length e ∙ length-append lists (list ∷ []) ∙ ap (λ n. n + 1) are.count;
  each = λ m other lt other_at. subst (λ l. AreConditions t normals other (get_or l m [])) (sym e) (⊎_elim
      (λ early. subst (AreConditions t normals other) (sym (get_or_append_left lists (list ∷ []) [] m (omega (arith, early, are.count)))) (are.each m other early other_at))
      (λ now.
      let last : get_or (lists ++ list ∷ []) m [] ≡ list = get_or_push lists list [] m (are.count ∙ sym now) in
      let same : witness ≡ other = one_at_place witnesses k witness other at (subst (λ j. slice_get witnesses j ≡ Some other) now other_at) in
      subst (AreConditions t normals other) (sym last) (subst (λ w. AreConditions t normals w list) same conditions))
      (lt_one_more_cases m k lt));
}

pub lists_end : (t : Table) (normals : List V3) (witnesses : List Witness) (lists : List (List ℕ)) (k n : ℕ) → n ≤ k → k ≤ n → AreLists t normals witnesses k lists → AreLists t normals witnesses n lists
lists_end t normals witnesses lists k n le ge are = subst (λ m. AreLists t normals witnesses m lists) (omega (arith, le, ge)) are

pub numbers_small : (normals facets : List V3) (numbers : List ℕ) → AreNumbers normals facets numbers → All (λ k. k < length normals) numbers
numbers_small normals facets numbers are = All-from_members (λ k. k < length normals) numbers (λ k c. let h = are.from k c in place_within normals k h.facet h.at)

pub numbers_law : (normals facets : List V3) (numbers : List ℕ) (d : V3) → AreNumbers normals facets numbers → All (LeadsAheadOf normals d) numbers ↔ All (λ n. pos 0 <ℤ dot n d) facets
numbers_law normals facets numbers d are = (
  λ all. All-from_members (λ n. pos 0 <ℤ dot n d) facets (λ n c. let h = are.all n c in subst (λ x. pos 0 <ℤ dot x d) (get_or_from_slice_get normals h.number n origin h.at) (All-contains (LeadsAheadOf normals d) numbers h.number all h.listed)),
  λ all. All-from_members (LeadsAheadOf normals d) numbers (λ k c. let h = are.from k c in subst (λ x. pos 0 <ℤ dot x d) (sym (get_or_from_slice_get normals k h.facet origin h.at)) (All-contains (λ n. pos 0 <ℤ dot n d) facets h.facet all h.listed)),
)

-- ---- what is asked of a direction

module _ (parts : List Part) (t : Table) (made : WasMadeFrom parts t) (d : V3) where
  abbrev pub Ahead : V3 → Type 0
  Ahead n = pos 0 <ℤ dot n d

  arc_blocking : (arc : Arc) → IsTableArc t arc → ((n : V3) → Contains (facets_of t arc) n → pos 0 <ℤ dot n d) → IsBlocking parts d arc
  arc_blocking arc across all = let h = made.facets arc across in record { p = h.p; q = h.q; p_is = h.p_is; q_is = h.q_is; holds = λ n f. all n (h.holds.all n f) }

  arc_ahead_of : (arc : Arc) → IsTableArc t arc → IsBlocking parts d arc → (n : V3) → Contains (facets_of t arc) n → pos 0 <ℤ dot n d
  arc_ahead_of arc across b n c =
      let h = made.facets arc across in
      let first : h.p ≡ b.p = some_injective h.p b.p (sym h.p_is ∙ b.p_is) in
      let second : h.q ≡ b.q = some_injective h.q b.q (sym h.q_is ∙ b.q_is) in
      b.holds n (subst (λ p. IsFacet p b.q n) first (subst (λ q. IsFacet h.p q n) second (h.holds.each n c)))

  arcs_law : (arcs : List Arc) → All (IsTableArc t) arcs → All Ahead (flat_map (facets_of t) arcs) ↔ All (IsBlocking parts d) arcs
  arcs_law [] across = (λ all. All-nil (IsBlocking parts d), λ all. All-nil Ahead)
  arcs_law (arc ∷ arcs) across =
      let here : IsTableArc t arc = All-head (IsTableArc t) arc arcs across in
      let rest = arcs_law arcs (All-tail (IsTableArc t) arc arcs across) in
      let more : List V3 = flat_map (facets_of t) arcs in (
        λ all. All-cons (IsBlocking parts d) arc arcs
            (arc_blocking arc here (λ n c. All-contains Ahead (facets_of t arc) n (all_front Ahead (facets_of t arc) more all) c))
            (rest.0 (all_back Ahead (facets_of t arc) more all)),
        λ blocking. All-append Ahead (facets_of t arc) more
            (All-from_members Ahead (facets_of t arc) (arc_ahead_of arc here (All-head (IsBlocking parts d) arc arcs blocking)))
            (rest.1 (All-tail (IsBlocking parts d) arc arcs blocking)),
      )

  pub facets_law : (witness : Witness) → IsAcrossAll t witness → All Ahead (asked_facets t witness) ↔ (All (IsBlocking parts d) witness.outs × All (IsBlocking parts d) witness.ins)
  facets_law witness across =
      let first : List V3 = flat_map (facets_of t) witness.outs in
      let second : List V3 = flat_map (facets_of t) witness.ins in (
        λ all. ((arcs_law witness.outs across.outs).0 (all_front Ahead first second all), (arcs_law witness.ins across.ins).0 (all_back Ahead first second all)),
        λ both. All-append Ahead first second ((arcs_law witness.outs across.outs).1 both.0) ((arcs_law witness.ins across.ins).1 both.1),
      )
