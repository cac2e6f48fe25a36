-- How sketches grow.
use Rattle.std.proofs.Common.{◌≡◌, ◌∙◌, ℕ, zero, suc, ◌+◌, ◌<◌, ◌≤◌, ◌++◌, List, [], ◌∷◌, map, take, get_or, length, ap, sym, subst, arith, append_assoc, append-nil, refl}
use Rattle.std.specs.Prelude.{sum_by}
use Rattle.std.proofs.lemmas.List.{map_more, take_more}
use Rattle.std.proofs.lemmas.List.Sums.{sum_by_push}
use Rattle.std.proofs.lemmas.List.Elements.{All-nil}
use Rattle.staat_off.specs.Raws.{IsCounted}
use Rattle.staat_manifest.specs.declared.listing.ListedPart.{ListedPart}
use Rattle.staat_explode.specs.declared.scene.Solid.{Solid}
use Rattle.staat_explode.specs.Sizes.{IsSolidIn}
use Rattle.staat_input.specs.declared.sketch.Sketch.{Sketch}
use Rattle.staat_input.specs.Work.{Files}
use Rattle.staat_edge.specs.Fitting.{Narrows}
use Rattle.staat_edge.specs.Told.{ShelfTold}
use Rattle.staat_input.specs.Drawing.{AreSmall, Drew, SketchGrows, solids_from, solids_of_part}

pub drew_then : (a b c : Sketch) (xs ys : List Solid) → Drew a b xs → Drew b c ys → Drew a c (xs ++ ys)
drew_then a b c xs ys first second = record {
  keep = second.keep ∙ first.keep;
  solids = λ on. second.solids (first.keep ∙ on) ∙ ap (λ (zs : List Solid). zs ++ ys) (first.solids on) ∙ append_assoc a.solids.items xs ys;
}

pub small_more : (parts most more : ℕ) (solids : List Solid) → most ≤ more → AreSmall parts most solids → AreSmall parts more solids
small_more parts most more solids le h = record { placed = h.placed; counted = h.counted; few = omega (arith, le, h.few) }

pub small_none : (parts : ℕ) → AreSmall parts 0 []
small_none parts = record { placed = All-nil (IsSolidIn parts); counted = All-nil (λ (t : Solid). IsCounted t.raw); few = omega arith }

-- the solids of one part more
pub solids_more : (files : Files) (digits part : ℕ) (named : List ListedPart) (i : ℕ) (d : ListedPart) → i < length named → solids_from files digits part (take (i + 1) named) ≡ solids_from files digits part (take i named) ++ solids_of_part files digits (part + i) (get_or named i d)
solids_more files digits part [] i d lt = absurd (omega (arith, lt))
solids_more files digits part (n ∷ named) zero d lt =
    let number : part ≡ part + 0 = omega arith in
    append-nil (solids_of_part files digits part n) ∙ ap (λ k. solids_of_part files digits k n) number
solids_more files digits part (n ∷ named) (suc i) d lt =
    let rest = solids_more files digits (part + 1) named i d (omega (arith, lt)) in
    let number : part + 1 + i ≡ part + suc i = omega arith in
    let next = rest ∙ ap (λ k. solids_from files digits (part + 1) (take i named) ++ solids_of_part files digits k (get_or named i d)) number in
    let turned : suc i + 1 ≡ suc (i + 1) = omega arith in
    ap (λ k. solids_from files digits part (take k (n ∷ named))) turned
    ∙ ap (λ (zs : List Solid). solids_of_part files digits part n ++ zs) next
    ∙ sym (append_assoc (solids_of_part files digits part n) (solids_from files digits (part + 1) (take i named)) (solids_of_part files digits (part + suc i) (get_or named i d)))

-- ---- sketches that grow

pub grows_none : (W : Files → List Solid) (least : ℕ) (told : ShelfTold) (a : Sketch) → ((files : Files) → W files ≡ []) → SketchGrows W least 0 told a a
grows_none W least told a none = record {
  drew = λ files fit. record { keep = refl; solids = λ on. sym (append-nil a.solids.items) ∙ ap (λ zs. a.solids.items ++ zs) (sym (none files)) };
  small = λ parts most le h. small_more parts most (most + 0) a.solids.items (omega arith) h;
}

-- and grow on
pub grows_more : {F G W : Files → List Solid} {least own m n : ℕ} {mid now : ShelfTold} {a b c : Sketch} (total : ℕ)
    → Narrows mid now → own ≤ least → m + n ≡ total → ((files : Files) → F files ++ G files ≡ W files)
    → SketchGrows F least m mid a b → SketchGrows G own n now b c → SketchGrows W least total now a c
grows_more {F} {G} {W} {least} {own} {m} {n} {mid} {now} {a} {b} {c} total back le count same first second = record {
  drew = λ files fit. subst (Drew a c) (same files)
      (drew_then a b c (F files) (G files) (first.drew files (back files fit)) (second.drew files fit));
  small = λ parts most few h. subst (λ k. AreSmall parts k c.solids.items) (omega (arith, count))
      (second.small parts (most + m) (omega (arith, le, few)) (first.small parts most few h));
}

-- the solid of one file more
pub pieces_more : (f : List ℕ → Solid) (names : List (List ℕ)) (i : ℕ) (name : List ℕ) → i < length names → name ≡ get_or names i name
    → map f (take i names) ++ f name ∷ [] ≡ map f (take (i + 1) names)
pieces_more f names i name lt at =
    ap (λ (n : List ℕ). map f (take i names) ++ f n ∷ []) at ∙ sym (map_more f names i name lt)

pub parts_more : (files : Files) (digits : ℕ) (named : List ListedPart) (i number : ℕ) (n : ListedPart) → i < length named
    → n ≡ get_or named i n → number ≡ i
    → solids_from files digits 0 (take i named) ++ solids_of_part files digits number n ≡ solids_from files digits 0 (take (i + 1) named)
parts_more files digits named i number n lt at is =
    let place : number ≡ 0 + i = omega (arith, is) in
    ap (λ k. solids_from files digits 0 (take i named) ++ solids_of_part files digits k n) place
    ∙ ap (λ (m : ListedPart). solids_from files digits 0 (take i named) ++ solids_of_part files digits (0 + i) m) at
    ∙ sym (solids_more files digits 0 named i n lt)

abbrev piece_count : List ListedPart → ℕ
piece_count named = sum_by (λ (n : ListedPart). length n.pieces) named

pub pieces_counted : (named : List ListedPart) (i : ℕ) (n : ListedPart) → i < length named → n ≡ get_or named i n → piece_count (take (i + 1) named) ≡ piece_count (take i named) + length n.pieces
pieces_counted named i n lt at =
    ap piece_count (take_more named i n lt) ∙ sum_by_push (λ (n : ListedPart). length n.pieces) (take i named) (get_or named i n)
    ∙ ap (λ (m : ListedPart). piece_count (take i named) + length m.pieces) (sym at)
