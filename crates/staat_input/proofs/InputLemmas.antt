-- Steps for the members of a list, one after another, and the parts that they give.
use Rattle.std.proofs.Common.{◌≡◌, ◌∙◌, refl, sym, ap, ap₂, subst, arith, ℕ, ◌+◌, ◌<◌, ◌≤◌, List, [], ◌∷◌, ◌++◌, take, drop, map, length, get_or, All, Ok, Err, inl, inr, append_assoc, append-nil}
use Rattle.std.specs.Prelude.{Result, IfErr, IsErrAnd, sum_by, IfOk, OnOk}
use Rattle.std.proofs.Common.{lit≤}
use Rattle.std.proofs.lemmas.List.{drop_more, drop_all, map_more, map-append, length-map}
use Rattle.std.proofs.lemmas.List.Elements.{All-nil, All-cons, All-head, All-tail, All-append}
use Rattle.std.proofs.lemmas.List.Sums.{sum_by-cons}
use Rattle.staat_edge.specs.Files.{Lacks, held_name, told_name}
use Rattle.staat_edge.specs.Told.{ShelfTold}
use Rattle.staat_edge.proofs.Taken.{rose_since}
use Rattle.staat_vec.specs.declared.vector.TheConstants.{POINT}
use Rattle.staat_vec.specs.Vectors.{IsWithin, origin}
use Rattle.staat_model.specs.declared.assembly.Part.{Part}
use Rattle.staat_model.specs.Assemblies.{ArePartsWithin, IsPart}
use Rattle.staat_model.specs.Pieces.{IsPiece}
use Rattle.staat_manifest.specs.Listings.{IsListingWithin}
use Rattle.staat_fault.specs.declared.fault.Fault.{Fault}
use Rattle.staat_fault.specs.declared.fault.Fault.TheVariants as fault
use Rattle.staat_manifest.specs.declared.listing.ListedPart.{ListedPart}
use Rattle.staat_input.specs.declared.limits.Limits.{Limits}
use Rattle.staat_input.specs.Inputs.{alone}
use Rattle.staat_input.specs.Shapes.{AreRead, IsFewWithin}
use Rattle.staat_input.specs.Causes.{HasCause, over}
use Rattle.staat_input.specs.Work.{Found, Then, Each, Follows}

-- what is given already goes before what is found
abbrev pub prepend : {X : Type 0} → List X → Found (List X) → Found (List X)
prepend done (Ok ys) = Ok (done ++ ys)
prepend done (Err fault) = Err fault

-- with the members before this place giving `done`, whatever the rest finds the whole finds
abbrev pub Continues : {X Y : Type 0} → (X → Found Y → Type 0) → List X → ℕ → List Y → Type 0
Continues Step xs i done = (found : Found _) → Each Step (drop i xs) found → Each Step xs (prepend done found)

one_more : {X Y : Type 0} (Step : X → Found Y → Type 0) (x : X) (xs : List X) (y : Y) (found : Found (List Y)) → Step x (Ok y) → Each Step xs found → Each Step (x ∷ xs) (prepend (y ∷ []) found)
one_more Step x xs y (Ok ys) step rest = inr (y, step, inr (ys, rest, refl))
one_more Step x xs y (Err fault) step rest = inr (y, step, inl (fault, rest, refl))

prepend_twice : {Y : Type 0} (done : List Y) (y : Y) (found : Found (List Y)) → prepend done (prepend (y ∷ []) found) ≡ prepend (done ++ y ∷ []) found
prepend_twice done y (Ok ys) = ap Ok (sym (append_assoc done (y ∷ []) ys))
prepend_twice done y (Err fault) = refl

pub each_more : {X Y : Type 0} (Step : X → Found Y → Type 0) (xs : List X) (i : ℕ) (done : List Y) (d : X) (y : Y) → i < length xs → Step (get_or xs i d) (Ok y) → Continues Step xs i done → Continues Step xs (i + 1) (done ++ y ∷ [])
each_more Step xs i done d y lt step before found h =
    subst (Each Step xs) (prepend_twice done y found)
    (before (prepend (y ∷ []) found) (subst (λ zs. Each Step zs (prepend (y ∷ []) found)) (sym (drop_more xs i d lt)) (one_more Step (get_or xs i d) (drop (i + 1) xs) y found step h)))

pub each_end : {X Y : Type 0} (Step : X → Found Y → Type 0) (xs : List X) (i : ℕ) (done : List Y) → length xs ≤ i → Continues Step xs i done → Each Step xs (Ok done)
each_end Step xs i done le before =
    subst (λ zs. Each Step xs (Ok zs)) (append-nil done) (before (Ok []) (subst (λ zs. Each Step zs (Ok [])) (sym (drop_all i xs le)) refl))

-- where one step finds a fault so does another, the whole follows at a fault of the one
pub follows_fault : {X Y : Type 0} (First : Found X → Type 0) (Whole : Found Y → Type 0) (f : Fault) → ((g : Fault) → First (Err g) → Whole (Err g)) → Follows First (Err f) → Follows Whole (Err f)
follows_fault First Whole fault.OutOfMemory both h = tt
follows_fault First Whole f both h = both f h

-- two steps as one
pub then_given : {X Y : Type 0} (First : Found X → Type 0) (Second : X → Found Y → Type 0) (x : X) (r : Result Y Fault) → First (Ok x) → Follows (Second x) r → Follows (Then First Second) r
then_given First Second x (Ok y) first second = inr (x, first, second)
then_given First Second x (Err f) first second = follows_fault (Second x) (Then First Second) f (λ g at. inr (x, first, at)) second

-- the answer with a fault of the first step
pub then_failed : {X Y : Type 0} (First : Found X → Type 0) (Second : X → Found Y → Type 0) (f : Fault) (r : Result Y Fault) → Follows First (Err f) → IsErrAnd r (λ e. e ≡ f) → Follows (Then First Second) r
then_failed First Second f (Ok y) h fails = absurd fails
then_failed First Second f (Err e) h fails = subst (λ g. Follows (Then First Second) (Err g)) (sym fails) (follows_fault First (Then First Second) f (λ g at. inl (g, at, refl)) h)

-- ---- causes

-- a shelf on which the count was lower before
pub cause_from : (before mid after : ShelfTold) (f : Fault) → before.faults ≤ mid.faults → mid.holds ≡ before.holds → HasCause (over mid after) f → HasCause (over before after) f
cause_from before mid after (fault.ReadFault name) le same (inl lacks) = inl (subst (λ holds. Lacks holds name) same lacks)
cause_from before mid after (fault.ReadFault name) le same (inr (rose, at)) = inr (rose_since before.faults mid.faults after.faults le rose, λ e. at (ap (λ holds. held_name holds name) same ∙ e))
cause_from before mid after (fault.TooLong name) le same h = record { place = h.place; opened = h.opened ∙ ap (λ holds. told_name holds name) same }
cause_from before mid after f le same h = h

-- what holds of a fault holds of the answer with it
pub failed_with : {X : Type 0} (P : Fault → Type 0) (f : Fault) (r : Result X Fault) → P f → IsErrAnd r (λ e. e ≡ f) → IfErr r P
failed_with P f (Ok x) h fails = absurd fails
failed_with P f (Err e) h fails = subst P (sym fails) h

-- nothing is said of a value where there is a fault
pub no_value : {X : Type 0} (P : X → Type 0) (Q : Fault → Type 0) (r : Result X Fault) → IsErrAnd r Q → IfOk r P
no_value P Q (Ok x) fails = absurd fails
no_value P Q (Err f) fails = tt

pub no_value_on : {X : Type 0} (P : Type 0) (Q : Fault → Type 0) (r : Result X Fault) → IsErrAnd r Q → OnOk r P
no_value_on P Q (Ok x) fails = absurd fails
no_value_on P Q (Err f) fails = tt

-- want of memory is free
pub memory_free : {X : Type 0} (Step : Found X → Type 0) (r : Result X Fault) → IsErrAnd r
    (λ e. e ≡ fault.OutOfMemory) → Follows Step r
memory_free Step (Ok x) fails = absurd fails
memory_free Step (Err f) fails = subst (λ g. Follows Step (Err g)) (sym fails) tt

-- what holds in any case holds where there is a value
pub value_on : {X : Type 0} (P : Type 0) (r : Result X Fault) → P → OnOk r P
value_on P (Ok x) h = h
value_on P (Err f) h = tt

-- ---- the parts

pub same_length : (named : List ListedPart) (parts : List Part) → AreRead named parts → length parts ≡ length named
same_length named parts read = sym (length-map parts (λ part. length part.pieces)) ∙ ap length read.each ∙ length-map named (λ (part : ListedPart). length part.pieces)

filled : (named : List ListedPart) (parts : List Part) → map (λ part. length part.pieces) parts ≡ map (λ (part : ListedPart). length part.pieces) named → All (λ (part : ListedPart). 1 ≤ length part.pieces) named → All (λ part. All IsPiece part.pieces) parts → All IsPart parts
filled named [] same some pieces = All-nil IsPart
filled [] (part ∷ parts) same some pieces = absurd cc
filled (n ∷ named) (part ∷ parts) same some pieces =
    let first : length part.pieces ≡ length n.pieces = cc in
    let rest : map (λ part. length part.pieces) parts ≡ map (λ (part : ListedPart). length part.pieces) named = cc in
    All-cons IsPart part parts (record { nonempty = subst (λ k. 1 ≤ k) (sym first) (All-head (λ (part : ListedPart). 1 ≤ length part.pieces) n named some); pieces = All-head (λ part. All IsPiece part.pieces) part parts pieces })
    (filled named parts rest (All-tail (λ (part : ListedPart). 1 ≤ length part.pieces) n named some) (All-tail (λ part. All IsPiece part.pieces) part parts pieces))

summed : (named : List ListedPart) (parts : List Part) → map (λ part. length part.pieces) parts ≡ map (λ (part : ListedPart). length part.pieces) named → sum_by (λ part. length part.pieces) parts ≡ sum_by (λ (part : ListedPart). length part.pieces) named
summed [] [] same = refl
summed (n ∷ named) [] same = absurd cc
summed [] (part ∷ parts) same = absurd cc
summed (n ∷ named) (part ∷ parts) same =
    let first : length part.pieces ≡ length n.pieces = cc in
    let rest : map (λ part. length part.pieces) parts ≡ map (λ (part : ListedPart). length part.pieces) named = cc in
    sum_by-cons (λ part. length part.pieces) part parts ∙ ap₂ (λ a b. a + b) first (summed named parts rest) ∙ sym (sum_by-cons (λ (part : ListedPart). length part.pieces) n named)

pub few_read : (l : Limits) (named : List ListedPart) (parts : List Part) → IsFewWithin l named → AreRead named parts → ArePartsWithin l.parts l.pieces parts
few_read l named parts few read = record {
  at_least = subst (λ k. 1 ≤ k) (sym (same_length named parts read)) few.at_least;
  at_most = subst (λ k. k ≤ l.parts) (sym (same_length named parts read)) few.at_most;
  each = filled named parts read.each few.each read.pieces;
  pieces = subst (λ k. k ≤ l.pieces) (sym (summed named parts read.each)) few.pieces;
}

pub none_read : AreRead [] []
none_read = record { each = refl; pieces = All-nil (λ part. All IsPiece part.pieces) }

pub one_read : (named : List ListedPart) (i : ℕ) (d : ListedPart) (parts : List Part) (part : Part) → i < length named → AreRead (take i named) parts → d ≡ get_or named i d → length part.pieces ≡ length d.pieces → All IsPiece part.pieces → AreRead (take (i + 1) named) (parts ++ part ∷ [])
one_read named i d parts part lt read at same pieces = record {
  each = map-append (λ part. length part.pieces) parts (part ∷ []) ∙ ap₂ (λ a n. a ++ n ∷ []) read.each (same ∙ ap (λ (n : ListedPart). length n.pieces) at) ∙ sym (map_more (λ (part : ListedPart). length part.pieces) named i d lt);
  pieces = All-append (λ part. All IsPiece part.pieces) parts (part ∷ []) read.pieces (All-cons (λ part. All IsPiece part.pieces) part [] pieces (All-nil (λ part. All IsPiece part.pieces)));
}

-- files that are parts by themselves
files_few : (l : Limits) (names : List (List ℕ)) → l.parts ≤ l.pieces → 1 ≤ length names → length names ≤ l.parts → IsFewWithin l (map alone names)
files_few l names room some most = record {
  at_least = subst (λ k. 1 ≤ k) (sym (length-map names alone)) some;
  at_most = subst (λ k. k ≤ l.parts) (sym (length-map names alone)) most;
  each = singles names;
  placed = still names;
  pieces = omega (arith, counted names, most, room);
}
  where
    singles : (names : List (List ℕ)) → All (λ (part : ListedPart). 1 ≤ length part.pieces) (map alone names)
    singles [] = All-nil (λ (part : ListedPart). 1 ≤ length part.pieces)
    singles (name ∷ names) = All-cons (λ (part : ListedPart). 1 ≤ length part.pieces) (alone name) (map alone names) (lit≤ tt) (singles names)

    there : IsWithin POINT origin
    there = record { x = omega arith; y = omega arith; z = omega arith }

    still : (names : List (List ℕ)) → All (λ (part : ListedPart). IsWithin POINT part.at) (map alone names)
    still [] = All-nil (λ (part : ListedPart). IsWithin POINT part.at)
    still (name ∷ names) = All-cons (λ (part : ListedPart). IsWithin POINT part.at) (alone name) (map alone names) there (still names)

    counted : (names : List (List ℕ)) → sum_by (λ (part : ListedPart). length part.pieces) (map alone names) ≡ length names
    counted [] = refl
    counted (name ∷ names) = sum_by-cons (λ (part : ListedPart). length part.pieces) (alone name) (map alone names) ∙ omega (arith, counted names)

pub named_files : (l : Limits) (names : List (List ℕ)) (named : List ListedPart) → l.parts ≤ l.pieces → (1 ≤ length names) × (length names ≤ l.parts) → named ≡ map alone names → IsFewWithin l named
named_files l names named room (some, most) e = subst (IsFewWithin l) (sym e) (files_few l names room some most)

pub listing_few : (l : Limits) (named : List ListedPart) → IsListingWithin l.parts l.pieces named → IsFewWithin l named
listing_few l named is = record { at_least = is.at_least; at_most = is.at_most; each = is.each; placed = is.placed; pieces = is.pieces }
