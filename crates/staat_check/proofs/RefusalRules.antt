-- The rules of a refusal, by what was found of them.
use Rattle.std.proofs.Common.{◌≡◌, ◌↔◌, inl, inr, ⊎_elim, ℕ, ◌+◌, ◌*◌, ◌<◌, ◌≤◌, arith, refl, sym, ap, subst, ◌∙◌, List, [], length, take, get_or, All, Contains}
use Rattle.staat_vec.specs.declared.memory.OutOfMemory.{OutOfMemory}
use Rattle.std.specs.Prelude.{Err, IfOk, Ok, Option, None, Result, Some, slice_index_or, MatchOption, sum_by}
use Rattle.std.specs.FinSet as set
use Rattle.std.proofs.lemmas.List.Elements.{All-contains, All-more, All-weaker}
use Rattle.std.proofs.lemmas.Option.{slice_get-get_or}
use Rattle.std.proofs.lemmas.List.Sums.{sum_by-le, sum_by_more_le}
use Rattle.staat_vec.specs.declared.vector.V3.{V3}
use Rattle.staat_vec.specs.declared.vector.TheConstants.{DIRECTION}
use Rattle.staat_vec.specs.Lists.{FailsFirst, IsFirst}
use Rattle.staat_vec.specs.Vectors.{IsWithin}
use Rattle.staat_model.specs.declared.assembly.Part.{Part}
use Rattle.staat_model.specs.declared.certificate.Arc.{Arc}
use Rattle.staat_model.specs.declared.certificate.Dir.{Dir}
use Rattle.staat_model.specs.declared.certificate.Witness.{Witness}
use Rattle.staat_model.specs.declared.set.PartSet.{PartSet}
use Rattle.staat_model.specs.Certificates.{HasLine, IsArcWithin, IsBlocked, IsBlocking, IsListed, IsStuckSet, IsWitness}
use Rattle.staat_model.specs.declared.verdict.Reason.TheVariants.{MissingDirection}
use Rattle.staat_model.specs.declared.verdict.Verdict.{Verdict}
use Rattle.staat_model.specs.declared.verdict.Verdict.TheVariants.{ValidRefusal, Not}
use Rattle.staat_model.specs.Planes.{vertices}
use Rattle.staat_model.specs.Reasons.{IsNoStuckSet, missing_direction, witness_size}
use Rattle.staat_model.specs.Sets.{Has, IsNonempty, IsSubset, below}
use Rattle.staat_model.specs.Texts.{IsWitnessInOrder}
use Rattle.staat_model.proofs.Members.{All-from_members}
use Rattle.staat_model.proofs.Places.{one_at_place, some_at}
use Rattle.staat_model.proofs.RestrictLemmas.{nonempty_or}
use Rattle.staat_model.proofs.SetBits.{has-below}
use Rattle.staat_model.proofs.SetMembers.{has-difference}
use Rattle.staat_pairs.specs.Tables.{IsTableArc, Table, WasMadeFrom}
use Rattle.staat_check.specs.Conditions.{AreLists, IsAcrossAll, IsFitDir, LeadsAhead, asked_facets}
use Rattle.staat_check.specs.Verdicts.{IsRefusalVerdict, IsSaidBy}
use Rattle.staat_check.proofs.ConditionLemmas.{facets_law, numbers_law, numbers_small}
use Rattle.staat_vec.proofs.Naturals.{le_or_lt}
use Rattle.staat_vec.proofs.ListLaws.{Contains-map}
use Rattle.staat_vec.proofs.Unique.{from_place}
use Rattle.staat_model.proofs.FreeSides.{member_or}

-- ---- the set

pub no_stuck_set : (parts : List Part) (w first : PartSet) (n : ℕ) → n ≡ length parts → first ≡ below n → (IsSubset w first → ⊥) → IsNoStuckSet parts w
no_stuck_set parts w first n e is not = ⊎_elim {C = IsNoStuckSet parts w}
    (λ some. let h = (has-difference w first some.0).0 some.1 in inr (some.0, h.0, high some.0 h.1))
    (λ none. absurd (not (λ p has. elim (member_or first p) [ inl h ↦ h | inr out ↦ absurd (none p ((has-difference w first p).1 (has, out))) ])))
    (nonempty_or (set.difference w first))
  where
    high : (p : ℕ) → (Has first p → ⊥) → length parts ≤ p
    high p out = ⊎_elim (λ le. le) (λ lt. absurd (out (subst (λ s. Has s p) (sym is) ((has-below n p).1 (omega (arith, e, lt)))))) (le_or_lt (length parts) p)

pub some_part : (parts : List Part) (w : PartSet) → IsStuckSet parts w → IsNonempty w
some_part parts w h = ⊎_elim (λ some. some)
    (λ none. absurd (let e : w ≡ set.empty = Rattle.staat_model.proofs.SetWords.same_members w set.empty (λ p has. absurd (none p has)) (λ p has. absurd (Rattle.staat_model.proofs.SetMembers.has-empty p has)) in
    let n : set.len w ≡ 0 = ap set.len e ∙ set.len-empty Rattle.std.specs.Ordering.nat_cmp in
    let two : 2 ≤ set.len w = h.two in
    omega (arith, n, two)))
    (nonempty_or w)

pub parts_below : (parts : List Part) (w : PartSet) → IsStuckSet parts w → (p : ℕ) → Has w p → p < length parts
parts_below parts w h p has = (has-below (length parts) p).0 (h.within p has)

-- ---- rules that say the same

-- they may differ where nothing of the list stands
pub answer_as : {X : Type 0} (P Q : X → Type 0) (xs : List X) (answer : Option ℕ) → ((x : X) → Contains xs x → P x ↔ Q x) → MatchOption answer (All P xs) (FailsFirst P xs) → MatchOption answer (All Q xs) (FailsFirst Q xs)
answer_as P Q xs None same all = All-from_members Q xs (λ x c. (same x c).0 (All-contains P xs x all c))
answer_as P Q xs (Some k) same first = record {
  x = first.x;
  at = first.at;
  fails = λ q. first.fails ((same first.x (from_place xs k first.x first.at)).1 q);
  before = λ m y lt at. (same y (from_place xs m y at)).0 (first.before m y lt at);
}

module _ (parts : List Part) (t : Table) (made : WasMadeFrom parts t) (witnesses : List Witness) (normals : List V3) (lists : List (List ℕ)) (across : All (IsAcrossAll t) witnesses) (are : AreLists t normals witnesses (length witnesses) lists) where
  dir_law : (dir : Dir) → dir.witness < length witnesses → LeadsAhead normals lists dir ↔ IsBlocked parts witnesses dir
  dir_law dir lt =
      let some = some_at witnesses dir.witness lt in
      let is = All-contains (IsAcrossAll t) witnesses some.0 across (from_place witnesses dir.witness some.0 some.1) in
      let conditions = are.each dir.witness some.0 lt some.1 in
      let ahead = numbers_law normals (asked_facets t some.0) (slice_index_or lists dir.witness []) dir.d conditions in
      let law = facets_law parts t made dir.d some.0 is in (
        λ all. let both = law.0 (ahead.0 all) in record { witness = some.0; witness_is = some.1; outs = both.0; ins = both.1 },
        λ b.
            let same : b.witness ≡ some.0 = one_at_place witnesses dir.witness b.witness some.0 b.witness_is some.1 in
            ahead.1 (law.1 (subst (λ (w : Witness). All (IsBlocking parts dir.d) w.outs) same b.outs, subst (λ (w : Witness). All (IsBlocking parts dir.d) w.ins) same b.ins)),
      )

  pub blocked_answer : (dirs : List Dir) (answer : Option ℕ) → All (λ dir. dir.witness < length witnesses) dirs → MatchOption answer (All (LeadsAhead normals lists) dirs) (FailsFirst (LeadsAhead normals lists) dirs) → MatchOption answer (All (IsBlocked parts witnesses) dirs) (FailsFirst (IsBlocked parts witnesses) dirs)
  blocked_answer dirs answer named = answer_as (LeadsAhead normals lists) (IsBlocked parts witnesses) dirs answer (λ dir c. dir_law dir (All-contains (λ (dir : Dir). dir.witness < length witnesses) dirs dir named c))

pub fit_dirs : (t : Table) (normals : List V3) (witnesses : List Witness) (dirs : List Dir) (lists : List (List ℕ)) → AreLists t normals witnesses (length witnesses) lists → All (λ dir. dir.witness < length witnesses) dirs → All (λ dir. IsWithin DIRECTION dir.d) dirs → All (IsFitDir normals lists) dirs
fit_dirs t normals witnesses dirs lists are named sizes = All-from_members (IsFitDir normals lists) dirs (λ dir c.
    let lt = All-contains (λ (dir : Dir). dir.witness < length witnesses) dirs dir named c in
    let some = some_at witnesses dir.witness lt in
    let conditions = are.each dir.witness some.0 lt some.1 in
    record {
      named = subst (λ n. dir.witness < n) (sym are.count) lt;
      size = All-contains (λ (dir : Dir). IsWithin DIRECTION dir.d) dirs dir sizes c;
      numbers = numbers_small normals (asked_facets t some.0) (slice_index_or lists dir.witness []) conditions;
    })

-- ---- the arcs of witnesses in the table

pub across_all : (parts : List Part) (w : PartSet) (t : Table) (witnesses : List Witness) → WasMadeFrom parts t → t.of ≡ w → All (IsWitness parts w) witnesses → All (IsAcrossAll t) witnesses
across_all parts w t witnesses made e trees = All-weaker (IsWitness parts w) (IsAcrossAll t) (λ witness h. record {
  outs = All-weaker (IsArcWithin parts w) (IsTableArc t) one witness.outs h.outs;
  ins = All-weaker (IsArcWithin parts w) (IsTableArc t) one witness.ins h.ins;
}) witnesses trees
  where
    one : (arc : Arc) → IsArcWithin parts w arc → IsTableArc t arc
    one arc h =
        let across = h.across in
        let a : Has t.of arc.a = subst (λ s. Has s arc.a) (sym e) across.a_in in
        let b : Has t.of arc.b = subst (λ s. Has s arc.b) (sym e) across.b_in in
        record { a_in = a; b_in = b; different = h.different; i_is = subst (λ n. arc.i < n) (sym (made.pieces arc.a a)) across.i_in; j_is = subst (λ n. arc.j < n) (sym (made.pieces arc.b b)) across.j_in }

-- ---- lines

pub few_lines : (witnesses : List Witness) → All IsWitnessInOrder witnesses → length witnesses < 33554432 → sum_by witness_size witnesses ≤ 33554432 * 63
few_lines witnesses each few =
    let sizes : sum_by witness_size witnesses ≤ length witnesses * 63 = sum_by-le witness_size 63 witnesses (All-weaker IsWitnessInOrder (λ w. witness_size w ≤ 63) (λ w h. omega (arith, h.outs, h.ins)) witnesses each) in
    let most : length witnesses * 63 ≤ 33554432 * 63 = omega (arith, few) in
    omega (arith, sizes, most)

pub lines_fit : (witnesses : List Witness) (k lines : ℕ) (w : Witness) → k < length witnesses → w ≡ get_or witnesses k w → lines ≡ sum_by witness_size (take k witnesses) → lines + witness_size w ≤ sum_by witness_size witnesses
lines_fit witnesses k lines w lt is e = omega (arith, e, ap witness_size is, sum_by_more_le witness_size witnesses k w lt)

-- ---- what is said where all directions are blocked

pub refusal_said : (parts : List Part) (version : ℕ) (witnesses : List Witness) (dirs : List Dir) (t : Table) (missing : Option V3) (v : Verdict) → IsStuckSet parts t.of → All (IsWitness parts t.of) witnesses → WasMadeFrom parts t → All (IsBlocked parts witnesses) dirs
    → MatchOption missing (All (IsListed version dirs) (vertices t.planes)) (IsFirst (λ u. IsListed version dirs u → ⊥) (vertices t.planes)) → MatchOption missing (v ≡ ValidRefusal) (λ d. v ≡ Not (MissingDirection d)) → IsRefusalVerdict parts version (length parts) t.of witnesses dirs v
refusal_said parts version witnesses dirs t None v set_is trees made blocked all said =
    subst (IsRefusalVerdict parts version (length parts) t.of witnesses dirs) (sym said)
    (record { count = refl; stuck_set = set_is; trees = trees; blocked = blocked; planes = t.planes; planes_are = made.planes; all = all })
refusal_said parts version witnesses dirs t (Some d) v set_is trees made blocked first said =
    subst (IsRefusalVerdict parts version (length parts) t.of witnesses dirs) (sym said) (missing_direction t.planes d refl set_is trees blocked made.planes first refl)

-- ---- directions

pub next_line : (directions : List V3) (dirs : List Dir) (found k : ℕ) (u : V3) (e : Dir) → found < length directions → k < length dirs → get_or directions found u ≡ (get_or dirs k e).d → All (HasLine dirs) (take found directions) → All (HasLine dirs) (take (found + 1) directions)
next_line directions dirs found k u e lt in_dirs same all =
    let x : Dir = get_or dirs k e in
    let c : Contains dirs x = from_place dirs k x (slice_get-get_or dirs k e in_dirs) in
    All-more (HasLine dirs) directions found u lt all (subst (HasLine dirs) (sym same) (Contains-map (λ (dir : Dir). dir.d) dirs x c))

-- ---- what is said by a table

pub said_by : (parts : List Part) (t : Table) (w : PartSet) (version : ℕ) (witnesses : List Witness) (dirs : List Dir) (r : Result Verdict OutOfMemory) → IfOk r (IsSaidBy t version witnesses dirs) → t.of ≡ w → WasMadeFrom parts t → IsStuckSet parts w → All (IsWitness parts w) witnesses
    → IfOk r (IsRefusalVerdict parts version (length parts) w witnesses dirs)
said_by parts t w version witnesses dirs (Ok v) said e made stuck trees =
    subst (λ s. IsRefusalVerdict parts version (length parts) s witnesses dirs v) e
    (said parts made (subst (IsStuckSet parts) (sym e) stuck) (subst (λ s. All (IsWitness parts s) witnesses) (sym e) trees))
said_by parts t w version witnesses dirs (Err x) said e made stuck trees = tt
