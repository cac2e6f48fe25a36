use Rattle.std.proofs.Common.{◌≡◌, ◌<◌, ◌∙◌, List, ap, arith, length, map, refl, replicate, subst, sym, ℕ, zero, suc}
use Rattle.std.specs.Prelude.{None, Option, Some, slice_get}
use Rattle.std.proofs.lemmas.List.{length-replicate, take_all}
use Rattle.staat_vec.proofs.Options.{from_some}
use Rattle.staat_model.specs.declared.certificate.Witness.{Witness}
use Rattle.staat_model.proofs.Places.{place_within}
use Rattle.staat_certify.specs.Visits.{visited_directions}
use Rattle.staat_certify.specs.WitnessListings.{EachStandsOnce, AreListed, AreNames}
use Rattle.staat_certify.proofs.ListedLemmas.{few_lines, lines_more, no_lines}
use Rattle.staat_certify.proofs.listing.listing_of.Goals as goal

none_there : (n k p : ℕ) → slice_get (replicate {A = Option ℕ} n None) k ≡ Some (Some p) → ⊥
none_there zero k p e = cc
none_there (suc n) zero p e = cc
none_there (suc n) (suc k) p e = none_there n k p e

none_only : (P : Option ℕ → Type 0) → ((n : ℕ) → P (Some n) → ⊥) → (y : Option ℕ) → P y → y ≡ None
none_only P other None p = refl
none_only P other (Some n) p = absurd (other n p)

pub loop-k-init : goal.loop-k-init
loop-k-init c =
    let count = length c.as_slice-witnesses.result.now in
    let names : c.in_ok-vec.field-0.items ≡ replicate {A = Option ℕ} count None = c.in_ok-vec.ensures.items_if_clones_equal (none_only _ (λ n p. p)) in
    record {
      lines = no_lines c.args.sound.now c.args.table.now.of c.new.result.items c.in_ok-with_capacity.field-0.items c.new.ensures.items c.in_ok-with_capacity.ensures.items;
      names = record {
        size = ap length names ∙ length-replicate count None;
        each = λ p i at. absurd (none_there count p i (subst (λ ns. slice_get ns p ≡ Some (Some i)) names at));
        all = λ i lt. absurd (let none = ap length c.new.ensures.items in omega (arith, lt, none));
      };
    }

pub push_dir-requires-clause-room : goal.push_dir-requires-clause-room
push_dir-requires-clause-room c =
    few_lines c.args.found.now.visited c.loop-k.listing.dirs.items c.loop-k.k c.loop-k.invariant.lines.lines
    (let lt : c.loop-k.k < length c.args.found.now.visited = omega (arith, c.loop-k-test.true, c.len-k-end.ensures) in lt) c.requires.few

pub loop-k-preserved : goal.loop-k-preserved
loop-k-preserved c =
    let k = c.loop-k.k in
    record {
      lines = record {
        listed = c.in_ok-push_dir.ensures.listed;
        lines = lines_more c.args.found.now.visited c.loop-k.listing.dirs.items c.push_dir.new.listing.dirs.items k c.get-visit.result c.loop-k.invariant.lines.lines c.get-visit.ensures c.in_ok-push_dir.ensures.line;
      };
      names = c.in_ok-push_dir.ensures.names;
    }

-- what is listed was found at different places
names_apart : (found listed : List Witness) (names : List (Option ℕ)) → EachStandsOnce found → AreNames found listed names → EachStandsOnce listed
names_apart found listed names apart are k m x a b =
    let (p, at_p) = are.all k (place_within listed k x a) in
    let (q, at_q) = are.all m (place_within listed m x b) in
    let (y, found_p, listed_k) = are.each p k at_p in
    let (z, found_q, listed_m) = are.each q m at_q in
    let same : p ≡ q = apart p q x (found_p ∙ sym listed_k ∙ a) (found_q ∙ sym listed_m ∙ b) in
    from_some (from_some (sym at_p ∙ ap (slice_get names) same ∙ at_q))

pub returns : goal.returns
returns c =
    let i = c.loop-k.invariant in
    let apart = subst EachStandsOnce (sym c.as_slice-witnesses.ensures.value) c.requires.apart in (
      c.set.ensures.is,
      subst EachStandsOnce (sym c.from_vec.ensures) (names_apart c.as_slice-witnesses.result.now c.loop-k.listing.witnesses.items c.loop-k.listing.names.items apart i.names),
      subst (λ ws. AreListed c.args.sound.now c.args.table.now.of ws c.from_vec-2.result) (sym c.from_vec.ensures) (subst (AreListed c.args.sound.now c.args.table.now.of c.loop-k.listing.witnesses.items) (sym c.from_vec-2.ensures) i.lines.listed),
      ap (map (λ dir. dir.d)) c.from_vec-2.ensures ∙ i.lines.lines ∙ ap visited_directions (take_all c.loop-k.k c.args.found.now.visited (omega (arith, c.loop-k-test.false, c.len-k-end.ensures))),
    )
