use Rattle.std.proofs.Common.{◌≡◌, ◌≢◌, ◌∙◌, ◌<◌, ◌∷◌, [], ◌++◌, inr, ⊎_elim, ℕ, zero, suc, List, ap, arith, length, length-append, length-set, refl, set, subst, sym}
use Rattle.std.specs.Prelude.{Option, Some, slice_get}
use Rattle.std.proofs.lemmas.Option.{slice_get-get_or}
use Rattle.staat_model.specs.declared.certificate.Witness.{Witness}
use Rattle.staat_model.proofs.Places.{place_within}
use Rattle.staat_certify.specs.WitnessListings.{AreNames, IsNumberOf}
use Rattle.staat_certify.proofs.listing.name_of.Goals as goal
use Rattle.staat_vec.proofs.ListLaws.{place_is, push_end, push_front, set_here}
use Rattle.staat_vec.proofs.Naturals.{lt_one_more_cases, same_or}
use Rattle.staat_vec.proofs.Options.{from_some}

-- a name at another place stays
set_there : (names : List (Option ℕ)) (p q i : ℕ) → q ≢ p → slice_get (set names p (Some i)) q ≡ slice_get names q
set_there [] p q i ne = refl
set_there (y ∷ names) zero zero i ne = absurd (ne refl)
set_there (y ∷ names) zero (suc q) i ne = refl
set_there (y ∷ names) (suc p) zero i ne = refl
set_there (y ∷ names) (suc p) (suc q) i ne = set_there names p q i (λ e. ne (ap suc e))

-- the names with that of one witness more
names_more : (found listed more : List Witness) (names : List (Option ℕ)) (p i : ℕ) (x : Witness)
    → AreNames found listed names → slice_get found p ≡ Some x → ((n : ℕ) → slice_get names p ≡ Some (Some n) → ⊥)
    → more ≡ listed ++ x ∷ [] → i ≡ length listed → AreNames found more (set names p (Some i))
names_more found listed more names p i x before at none is last = record {
  size = length-set names p (Some i) ∙ before.size;
  each = λ q j named. ⊎_elim {C = (y : Witness) × (slice_get found q ≡ Some y) × (slice_get more j ≡ Some y)}
      (λ e.
      let same = sym (set_here names p (Some i) within) ∙ ap (slice_get (set names p (Some i))) (sym e) ∙ named in
      (x, ap (slice_get found) e ∙ at, ap (slice_get more) (sym (from_some (from_some same)) ∙ last) ∙ ap (λ ws. slice_get ws (length listed)) is ∙ push_end listed x))
      (λ ne.
      let (y, there, listed_at) = before.each q j (sym (set_there names p q i ne) ∙ named) in
      (y, there, ap (λ ws. slice_get ws j) is ∙ push_front listed x y j listed_at))
      (same_or q p);
  all = λ j lt. ⊎_elim {C = (q : ℕ) × (slice_get (set names p (Some i)) q ≡ Some (Some j))}
      (λ less. let (q, named) = before.all j less in (q, set_there names p q i (λ e. none j (ap (slice_get names) (sym e) ∙ named)) ∙ named))
      (λ e. (p, set_here names p (Some i) within ∙ ap (λ n. Some (Some n)) (last ∙ sym e)))
      (lt_one_more_cases j (length listed) (let long = ap length is ∙ length-append listed (x ∷ []) in omega (arith, lt, long)));
}
  where
    within : p < length names
    within = let lt = place_within found p x at in omega (arith, lt, before.size)

pub returns-clause-names : goal.returns-clause-names
returns-clause-names c =
    let found = c.args.found.now in
    let names = c.args.listing.now.names.items in
    let x : Witness = c.in_ok-copy_of.field-0 in
    let at : slice_get found c.args.p ≡ Some x = slice_get-get_or found c.args.p c.index-found-p.result c.requires.place ∙ ap Some (sym (c.in_ok-copy_of.ensures ∙ c.index-found-p.is)) in
    let there : slice_get names c.args.p ≡ Some c.index.result.now = place_is names c.args.p c.index.result.now (let same = c.requires.names.size in let lt = c.requires.place in omega (arith, same, lt)) c.index.ensures in
    names_more found c.args.listing.now.witnesses.items c.push.new.self.items names c.args.p c.len-number.result x c.requires.names at
    (λ n named. c.in_default.not-Some n (from_some (sym there ∙ named))) c.in_ok-push.ensures.items (omega (arith, c.len-number.ensures))

pub returns-clause-number : goal.returns-clause-number
returns-clause-number c witness named =
    let found = c.args.found.now in
    let listed = c.args.listing.now.witnesses.items in
    let x : Witness = c.in_ok-copy_of.field-0 in
    let at : slice_get found c.args.p ≡ Some x = slice_get-get_or found c.args.p c.index-found-p.result c.requires.place ∙ ap Some (sym (c.in_ok-copy_of.ensures ∙ c.index-found-p.is)) in
    let last : c.len-number.result ≡ length listed = omega (arith, c.len-number.ensures) in
    subst (λ y. IsNumberOf listed c.push.new.self.items y c.len-number.result) (from_some (sym at ∙ named)) (record {
      which = inr (c.in_ok-push.ensures.items, last);
      at = ap (slice_get c.push.new.self.items) last ∙ ap (λ ws. slice_get ws (length listed)) c.in_ok-push.ensures.items ∙ push_end listed x;
    })
