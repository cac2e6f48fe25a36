-- What readers keep: of values, of the places where they leave the file, and of refusals.
use Rattle.std.proofs.Common.{◌≡◌, ◌<◌, ◌≤◌, ℕ, ℤ, zero, suc, Bool, true, false, List, length, Option, Some, None, Result, Ok, Err, cond, refl, ap, sym, subst, arith, All}
use Rattle.std.specs.Prelude.{IfOk, ◌&&◌, ◌==◌, ◌/◌, ◌%◌, nat_lt, nat_le, unsigned_abs}
use Rattle.std.proofs.lemmas.Bool.{leb-true, ltb-true}
use Rattle.std.proofs.lemmas.List.Elements.{All-cons, All-nil, All-weaker}
use Rattle.staat_vec.specs.declared.vector.V3.{V3}
use Rattle.staat_vec.specs.declared.vector.TheConstants.{POINT}
use Rattle.staat_vec.specs.Vectors.{IsWithin}
use Rattle.staat_off.specs.declared.raw.Raw.{Raw}
use Rattle.staat_limits.specs.declared.limits.TheConstants.{MOST_COUNT}
use Rattle.staat_off.specs.declared.refusal.OffRefusal.{OffRefusal}
use Rattle.staat_off.specs.declared.refusal.OffRefusal.TheVariants.{BadCount, BadIndex, BadNumber, NotWhole, TooBig}
use Rattle.staat_off.specs.Answers.{Gives}
use Rattle.staat_off.specs.Coordinates.{coordinate_of, decision_of, denominator, numerator, within_limit}
use Rattle.staat_off.specs.Numerals.{Numeral, numeral_of}
use Rattle.staat_off.specs.Raws.{HasCorners, IsCounted, IsIndexed}
use Rattle.staat_off.specs.Readers.{Reader, ◌>>=◌, decided, many, refuse, resumed, return, value_in}
use Rattle.staat_off.specs.Reading.{accepted, coordinate, corner_count, count, end, face, file, header, index, line_passed, point, reading, short_number, word}
use Rattle.staat_off.specs.Scan.{Rest, after_line, rest_at}
use Rattle.staat_off.specs.Values.{signed}
use Rattle.staat_off.specs.Words.{Word}
use Rattle.staat_vec.proofs.Truth.{and_split}

abbrev pub Any : {A : Type 0} → A → Type 0
Any x = Unit {0}

-- P holds of the value and S of the place, or N of the refusal
abbrev pub Kept : {A : Type 0} → (Rest → Type 0) → (OffRefusal → Type 0) → (A → Type 0) → Result (A × Rest) OffRefusal → Type 0
Kept S N P (Ok read) = P read.0 × S read.1
Kept S N P (Err refusal) = N refusal

-- the refusals that name an offset are of N
abbrev pub AreRefused : (OffRefusal → Type 0) → ℕ → Type 0
AreRefused N at = N (BadNumber at) × N (NotWhole at) × N (TooBig at) × N (BadCount at) × N (BadIndex at)

-- from the places S on, the words that are found are of W, what is left is a place of S again, and refusals are of N
pub record Scans (S : Rest → Type 0) (N : OffRefusal → Type 0) (W : Word → Type 0) : Type 0 where
  pub finds : (rest : Rest) → S rest → Kept S N W (word rest)
  pub begins : (rest : Rest) → S rest → Kept {A = Unit {0}} S N Any (header rest)
  pub ends : (rest : Rest) → S rest → Kept {A = Unit {0}} Any N Any (end rest)
  pub passes : (rest : Rest) → S rest → S (after_line rest)
  pub refuses : (w : Word) → W w → AreRefused N w.at

pub record IsFace (vertices : ℕ) (corners : List ℕ) : Type 0 where
  pub below : All (λ corner. corner < vertices) corners
  pub at_least : 1 ≤ length corners
  pub at_most : length corners ≤ MOST_COUNT

-- what holds of every file that is read
pub record IsBounded (raw : Raw) : Type 0 where
  pub indexed : IsIndexed raw
  pub counted : IsCounted raw
  pub corners : HasCorners raw

module _ (S : Rest → Type 0) (N : OffRefusal → Type 0) (W : Word → Type 0) (scans : Scans S N W) where
  -- a reader that leads from the places S to the places T
  abbrev Leads : {A : Type 0} → (Rest → Type 0) → (A → Type 0) → Reader A → Type 0
  Leads T P reader = (rest : Rest) → S rest → Kept T N P (reader rest)

  abbrev Keeps : {A : Type 0} → (A → Type 0) → Reader A → Type 0
  Keeps P reader = Leads S P reader

  then : {A B : Type 0} (T : Rest → Type 0) (P : A → Type 0) (Q : B → Type 0) (reader : Reader A) (next : A → Reader B)
      → Keeps P reader → ((x : A) → P x → Leads T Q (next x)) → Leads T Q (reader >>= next)
  then {A = A} T P Q reader next h each rest s = go (reader rest) (h rest s)
    where
      go : (r : Result (A × Rest) OffRefusal) → Kept S N P r → Kept T N Q (resumed r next)
      go (Ok read) k = each read.0 k.0 read.1 k.1
      go (Err e) k = k

  -- ---- counts and indices

  accepted_keeps : (test : ℕ → Bool) (P : ℕ → Type 0) → ((n : ℕ) → test n ≡ true → P n) → (o : Option ℕ) (e : OffRefusal) → N e → Keeps P (accepted test o e)
  accepted_keeps test P told None e h rest s = h
  accepted_keeps test P told (Some n) e h rest s = go (test n) refl
    where
      go : (t : Bool) → test n ≡ t → Kept S N P (cond t (return {A = ℕ} n) (refuse e) rest)
      go true same = (told n same, s)
      go false same = h

  count_keeps : Keeps (λ n. n ≤ MOST_COUNT) count
  unfolding count
  count_keeps =
      then S W _ word _ scans.finds
      (λ w is. accepted_keeps (λ n. nat_le n MOST_COUNT) _ (λ n. leb-true n MOST_COUNT) (short_number w.text) _ (scans.refuses w is).3)

  corner_count_keeps : Keeps (λ n. (1 ≤ n) × (n ≤ MOST_COUNT)) corner_count
  unfolding corner_count
  corner_count_keeps =
      then S W _ word _ scans.finds
      (λ w is. accepted_keeps (λ n. nat_le 1 n && nat_le n MOST_COUNT) _
      (λ n e. let both = and_split (nat_le 1 n) (nat_le n MOST_COUNT) e in (leb-true 1 n both.0, leb-true n MOST_COUNT both.1)) (short_number w.text) _ (scans.refuses w is).3)

  index_keeps : (vertices : ℕ) → Keeps (λ n. n < vertices) (index vertices)
  unfolding index
  index_keeps vertices =
      then S W _ word _ scans.finds
      (λ w is. accepted_keeps (λ n. nat_lt n vertices) _ (λ n. ltb-true n vertices) (short_number w.text) _ (scans.refuses w is).4)

  -- ---- coordinates

  abbrev IsSmall : ℤ → Type 0
  IsSmall z = unsigned_abs z ≤ POINT

  limit_keeps : (negative : Bool) (v : ℕ) (w : Word) → W w → Keeps IsSmall (decided (within_limit negative v w.at))
  limit_keeps negative v w is rest s = go (nat_le v POINT) refl
    where
      size : (b : Bool) (u : ℕ) → unsigned_abs (signed b u) ≡ u
      size true zero = refl
      size true (suc u) = refl
      size false u = refl

      go : (t : Bool) → nat_le v POINT ≡ t → Kept S N IsSmall (decided (cond t (Ok (signed negative v)) (Err (TooBig w.at))) rest)
      go true e = (rw (size negative v) (leb-true v POINT e), s)
      go false e = (scans.refuses w is).2

  decision_keeps : (k : ℕ) (o : Option Numeral) (w : Word) → W w → Keeps IsSmall (decided (decision_of k o w.at))
  decision_keeps k None w is rest s = (scans.refuses w is).0
  decision_keeps k (Some n) w is rest s = go (numerator n k % denominator n k == 0)
    where
      go : (t : Bool) → Kept S N IsSmall (decided (cond t (within_limit n.is_negative (numerator n k / denominator n k) w.at) (Err (NotWhole w.at))) rest)
      go true = limit_keeps n.is_negative (numerator n k / denominator n k) w is rest s
      go false = (scans.refuses w is).1

  coordinate_keeps : (digits : ℕ) → Keeps IsSmall (coordinate digits)
  unfolding coordinate coordinate_of
  coordinate_keeps digits =
      then S W _ word _ scans.finds (λ w. decision_keeps digits (numeral_of w.text) w)

  pub point_keeps : (digits : ℕ) → Keeps (IsWithin POINT) (point digits)
  unfolding point
  point_keeps digits =
      then S IsSmall _ (coordinate digits) _ (coordinate_keeps digits) (λ x small_x.
      then S IsSmall _ (coordinate digits) _ (coordinate_keeps digits) (λ y small_y.
      then S IsSmall _ (coordinate digits) _ (coordinate_keeps digits) (λ z small_z rest s.
      (record { x = small_x; y = small_y; z = small_z }, s))))

  -- ---- lists

  -- each of many, and how many there are
  many_keep : {A : Type 0} (P : A → Type 0) (n : ℕ) (reader : Reader A) → Keeps P reader → Keeps (λ xs. All P xs × (length xs ≡ n)) (many n reader)
  unfolding many
  many_keep P zero reader each = λ rest s. ((All-nil P, refl), s)
  many_keep P (suc n) reader each =
      then S P _ reader _ each (λ x first.
      then S (λ xs. All P xs × (length xs ≡ n)) _ (many n reader) _ (many_keep P n reader each) (λ xs others rest s.
      ((All-cons P x xs first others.0, ap suc others.1), s)))

  face_keeps : (vertices : ℕ) → Keeps (IsFace vertices) (face vertices)
  unfolding face
  face_keeps vertices =
      then S (λ n. (1 ≤ n) × (n ≤ MOST_COUNT)) _ corner_count _ corner_count_keeps (λ n bounds.
      then S (λ ks. All (λ k. k < vertices) ks × (length ks ≡ n)) _ (many n (index vertices)) _ (many_keep (λ k. k < vertices) n (index vertices) (index_keeps vertices)) (λ ks each.
      then S Any (IsFace vertices) line_passed (λ _. return ks) (λ rest s. (tt, scans.passes rest s)) (λ _ _ rest s.
      (record { below = each.0; at_least = omega (arith, each.1, bounds.0); at_most = omega (arith, each.1, bounds.1) }, s))))

  pub file_keeps : (digits : ℕ) → Leads Any IsBounded (file digits)
  unfolding file
  file_keeps digits =
      then Any Any _ header _ scans.begins (λ _ _.
      then Any (λ n. n ≤ MOST_COUNT) _ count _ count_keeps (λ v few_v.
      then Any (λ n. n ≤ MOST_COUNT) _ count _ count_keeps (λ f few_f.
      then Any (λ n. n ≤ MOST_COUNT) _ count _ count_keeps (λ _ _.
      then Any (λ ps. All (IsWithin POINT) ps × (length ps ≡ v)) _ (many v (point digits)) _ (many_keep (IsWithin POINT) v (point digits) (point_keeps digits)) (λ ps points.
      then Any (λ fs. All (IsFace v) fs × (length fs ≡ f)) _ (many f (face v)) _ (many_keep (IsFace v) f (face v) (face_keeps v)) (λ fs faces.
      λ rest s. last (end rest) (scans.ends rest s) (bounded v f few_v few_f ps points fs faces)))))))
    where
      last : {raw : Raw} (r : Result (Unit {0} × Rest) OffRefusal) → Kept Any N Any r → IsBounded raw → Kept Any N IsBounded (resumed r (λ _. return raw))
      last (Ok read) k is = (is, tt)
      last (Err e) k is = k

      bounded : (v f : ℕ) → v ≤ MOST_COUNT → f ≤ MOST_COUNT → (ps : List V3) → All (IsWithin POINT) ps × (length ps ≡ v)
          → (fs : List (List ℕ)) → All (IsFace v) fs × (length fs ≡ f) → IsBounded (record { points = ps; faces = fs })
      bounded v f few_v few_f ps points fs faces = record {
        indexed = record {
          within = points.0;
          corners = All-weaker (IsFace v) (All (λ corner. corner < length ps)) (λ ks face. subst (λ n. All (λ corner. corner < n) ks) (sym points.1) face.below) fs faces.0;
        };
        counted = record {
          points = omega (arith, points.1);
          faces = omega (arith, faces.1);
          corners = All-weaker (IsFace v) (λ ks. length ks ≤ MOST_COUNT) (λ ks face. face.at_most) fs faces.0;
        };
        corners = All-weaker (IsFace v) (λ ks. 1 ≤ length ks) (λ ks face. face.at_least) fs faces.0;
      }

-- ---- wherever reading begins

anything : {A : Type 0} (r : Result (A × Rest) OffRefusal) → Kept Any Any Any r
anything (Ok read) = (tt, tt)
anything (Err e) = tt

scans_anything : Scans Any Any Any
scans_anything = record {
  finds = λ rest s. anything (word rest);
  begins = λ rest s. anything (header rest);
  ends = λ rest s. anything (end rest);
  passes = λ rest s. tt;
  refuses = λ w is. (tt, tt, tt, tt, tt);
}

pub point_bound : (digits : ℕ) (rest : Rest) (v : V3 × Rest) → point digits rest ≡ Ok v → IsWithin POINT v.0
point_bound digits rest v h =
    (subst (Kept Any Any (IsWithin POINT)) h (point_keeps Any Any Any scans_anything digits rest tt)).0

-- of what a call gives
pub given_bounded : (digits : ℕ) (rest after : Rest) (r : Result Raw OffRefusal) → Gives (λ raw. raw) r after (file digits rest) → IfOk r IsBounded
given_bounded digits rest after (Ok raw) h =
    (subst (Kept Any Any IsBounded) h (file_keeps Any Any Any scans_anything digits rest tt)).0
given_bounded digits rest after (Err e) h = tt

-- and of what is read
pub reading_bounded : (digits : ℕ) (bytes : List ℕ) (raw : Raw) → reading digits bytes ≡ Ok raw → IsBounded raw
unfolding reading
reading_bounded digits bytes raw h = go (file digits (rest_at bytes 0)) (file_keeps Any Any Any scans_anything digits (rest_at bytes 0) tt) h
  where
    go : (r : Result (Raw × Rest) OffRefusal) → Kept Any Any IsBounded r → value_in r ≡ Ok raw → IsBounded raw
    go (Ok read) k e = let told : read.0 ≡ raw = cc in subst IsBounded told k.0
    go (Err refusal) k e = cc
