-- The text of a line: one line feed at its end, fewer than 128 bytes, and no text of two lines.
use Rattle.std.proofs.Common.{◌≡◌, ◌≢◌, ℕ, zero, suc, ◌+◌, ◌*◌, ◌^◌, ◌<◌, ◌≤◌, Bool, true, false, List, [], ◌∷◌, ◌++◌, map, length, get_or, All, ap, sym, subst, refl, ◌∙◌, arith, ℤ, pos, unsigned_abs, append_assoc, length-append, ◌⊎◌, inl, inr}
use Rattle.std.specs.Prelude.{codes, if◌then◌else◌, nat_lt}
use Rattle.std.specs.List.{list_all}
use Rattle.std.specs.FinSet as set
use Rattle.std.specs.Fmt.{signed_decimal}
use Rattle.std.specs.Str.{bytes_eq}
use Rattle.std.proofs.lemmas.Bool.{ltb-true}
use Rattle.std.proofs.lemmas.List.Elements.{All-append, All-cons, All-head, All-nil, All-tail, All-weaker}
use Rattle.staat_vec.specs.declared.vector.V3.{V3}
use Rattle.staat_vec.specs.declared.vector.TheConstants.{NORMAL, DIRECTION}
use Rattle.staat_vec.specs.Vectors.{IsWithin}
use Rattle.staat_model.specs.declared.set.PartSet.{PartSet}
use Rattle.staat_model.specs.declared.certificate.Arc.{Arc}
use Rattle.staat_model.specs.declared.line.Line.{Line}
use Rattle.staat_model.specs.declared.line.Line.TheVariants as line
use Rattle.staat_model.specs.Lines.{members, members_from, vector_numbers, word_of, numbers_in, spaced, line_text, ArePlain, IsParted, IsArcInBounds, IsInBounds}
use Rattle.staat_model.specs.Sets.{Has, IsSubset, below}
use Rattle.staat_model.specs.Texts.{HasNoFeed, IsLine}
use Rattle.staat_model.proofs.Decimals.{IsSmall, natural_length, signed_length, signed_plain, signed_same}
use Rattle.staat_model.proofs.Members.{cut_once}
use Rattle.staat_model.proofs.SetBits.{has-below}
use Rattle.staat_model.proofs.SetMembers.{has-empty, has-insert}
use Rattle.staat_model.proofs.SetWords.{same_members}
use Rattle.staat_vec.proofs.Truth.{and_split}

-- there is one way to cut a word from what follows
pub one_cut : (xs ys p q : List ℕ) → ArePlain xs → ArePlain ys → IsParted p → IsParted q → xs ++ p ≡ ys ++ q → (xs ≡ ys) × (p ≡ q)
one_cut = cut_once (λ b. 32 < b) IsParted (λ b p low high. omega (arith, low, high))

pub parted_spaced : (zs : List ℤ) → IsParted (spaced zs)
parted_spaced [] = omega arith
parted_spaced (z ∷ zs) = omega arith

pub tails_of : (x : ℕ) (p q : List ℕ) → x ∷ p ≡ x ∷ q → p ≡ q
tails_of x p q e = cc

-- the numbers are known by their text
pub spaced_same : (ys zs : List ℤ) → All IsSmall ys → All IsSmall zs → spaced ys ≡ spaced zs → ys ≡ zs
spaced_same [] [] a b e = refl
spaced_same (y ∷ ys) (z ∷ zs) a b e =
    let sy = All-head IsSmall y ys a in
    let sz = All-head IsSmall z zs b in
    let cuts = one_cut (signed_decimal y) (signed_decimal z) (spaced ys) (spaced zs) (signed_plain y sy) (signed_plain z sz) (parted_spaced ys) (parted_spaced zs) (tails_of 32 _ _ e) in
    let front : y ≡ z = signed_same y z sy sz cuts.0 in
    let rest : ys ≡ zs = spaced_same ys zs (All-tail IsSmall y ys a) (All-tail IsSmall z zs b) cuts.1 in
    λ i. front i ∷ rest i
spaced_same ys zs a b e = absurd cc

-- ---- a line from its word and its numbers

abbrev natural : List ℤ → ℕ → ℕ
natural zs k = unsigned_abs (get_or zs k (pos 0))

abbrev vector_from : List ℤ → ℕ → V3
vector_from zs k = record { x = get_or zs k (pos 0); y = get_or zs (k + 1) (pos 0); z = get_or zs (k + 2) (pos 0) }

abbrev arc_from : List ℤ → Arc
arc_from zs = record { a = natural zs 0; i = natural zs 1; b = natural zs 2; j = natural zs 3 }

abbrev pub set_from : List ℤ → PartSet
set_from [] = set.empty
set_from (z ∷ zs) = set.insert (set_from zs) (unsigned_abs z)

unfoldable line_from : List ℕ → List ℤ → Line
line_from word zs =
    if bytes_eq word (codes "STAAT") then line.Head (natural zs 0)
    else if bytes_eq word (codes "parts") then line.Parts (natural zs 0)
    else if bytes_eq word (codes "plan") then line.Plan
    else if bytes_eq word (codes "stuck") then line.Stuck (set_from zs)
    else if bytes_eq word (codes "leaf") then line.Leaf (natural zs 0)
    else if bytes_eq word (codes "split") then line.Split (vector_from zs 0)
    else if bytes_eq word (codes "sep") then line.Sep (record { arc = arc_from zs; n = vector_from zs 4 })
    else if bytes_eq word (codes "witness") then line.Witness (natural zs 0)
    else if bytes_eq word (codes "out") then line.Out (arc_from zs)
    else if bytes_eq word (codes "in") then line.In (arc_from zs)
    else if bytes_eq word (codes "dir") then line.Dir (record { d = vector_from zs 0; witness = natural zs 3 })
    else line.End

-- the members that were listed are those of the set from s on
pub listed_members : (n s : ℕ) (w : PartSet) (q : ℕ) → (Has (set_from (map pos (members_from s n w))) q → Has w q) × (Has w q → s ≤ q → q < s + n → Has (set_from (map pos (members_from s n w))) q)
listed_members zero s w q = (λ h. absurd (has-empty q h), λ h low high. absurd (omega arith))
listed_members (suc n) s w q = go (set.contains w s) refl (listed_members n (suc s) w q)
  where
    from : s ≤ q → (s ≡ q) ⊎ (suc s ≤ q)
    from low = grind arith

    go : (b : Bool) → set.contains w s ≡ b → (Has (set_from (map pos (members_from (suc s) n w))) q → Has w q) × (Has w q → suc s ≤ q → q < suc s + n → Has (set_from (map pos (members_from (suc s) n w))) q)
        → (Has (set_from (map pos (if b then s ∷ members_from (suc s) n w else members_from (suc s) n w))) q → Has w q) × (Has w q → s ≤ q → q < s + suc n → Has (set_from (map pos (if b then s ∷ members_from (suc s) n w else members_from (suc s) n w))) q)
    go true e rest = (
      λ h. elim ((has-insert (set_from (map pos (members_from (suc s) n w))) s q).0 h) [ inl at ↦ subst (λ (k : ℕ). Has w k) (sym at) e | inr later ↦ rest.0 later ],
      λ h low high. (has-insert (set_from (map pos (members_from (suc s) n w))) s q).1 (elim (from low) [ inl at ↦ inl (sym at) | inr more ↦ inr (rest.1 h more (omega arith)) ]),
    )
    go false e rest = (
      rest.0,
      λ h low high. elim (from low) [ inl at ↦ absurd (let wrong : true ≡ false = sym h ∙ ap (set.contains w) (sym at) ∙ e in cc) | inr more ↦ rest.1 h more (omega arith) ],
    )

members_again : (w : PartSet) → IsSubset w (below 32) → set_from (map pos (members w)) ≡ w
unfolding members
members_again w small = same_members (set_from (map pos (members_from 0 32 w))) w
    (λ q h. (listed_members 32 0 w q).0 h)
    (λ q h. (listed_members 32 0 w q).1 h (omega arith) (let lt : q < 32 = (has-below 32 q).0 (small q h) in omega arith))

line_again : (l : Line) → IsInBounds l → line_from (word_of l) (numbers_in l) ≡ l
unfolding line_from
line_again (line.Stuck w) h = ap line.Stuck (members_again w h.1)
line_again l h = refl

-- ---- words

all_plain : (bs : List ℕ) → list_all (λ b. nat_lt 32 b) bs ≡ true → ArePlain bs
all_plain [] e = All-nil (λ b. 32 < b)
all_plain (b ∷ bs) e = let t = and_split (nat_lt 32 b) (list_all (λ c. nat_lt 32 c) bs) e in All-cons (λ c. 32 < c) b bs (ltb-true 32 b t.0) (all_plain bs t.1)

pub word_plain : (l : Line) → ArePlain (word_of l)
word_plain line.End = all_plain (codes "end") refl
word_plain l = all_plain (word_of l) refl

word_length : (l : Line) → length (word_of l) ≤ 7
word_length line.End = omega arith
word_length l = omega arith

-- ---- numbers

-- the bytes before the line feed
abbrev pub bare : List ℤ → List ℕ
bare [] = []
bare (z ∷ zs) = 32 ∷ (signed_decimal z ++ bare zs)

pub bare_more : (z : ℤ) (zs : List ℤ) (m n : ℕ) → length (signed_decimal z) ≤ m → length (bare zs) ≤ n → length (bare (z ∷ zs)) ≤ m + n + 1
bare_more z zs m n h k = omega (arith, length-append (signed_decimal z) (bare zs))

-- numbers that are small, with at most n bytes
record AreShort (n : ℕ) (zs : List ℤ) : Type 0 where
  small : All IsSmall zs
  most : length (bare zs) ≤ n

no_numbers : AreShort 0 []
no_numbers = record { small = All-nil IsSmall; most = omega arith }

one_more : (k n : ℕ) (z : ℤ) (zs : List ℤ) → IsSmall z → length (signed_decimal z) ≤ k → AreShort n zs → AreShort (k + n + 1) (z ∷ zs)
one_more k n z zs small few t = record { small = All-cons IsSmall z zs small t.small; most = bare_more z zs k n few t.most }

natural_more : (k n m : ℕ) (zs : List ℤ) → 0 < k → m < 10 ^ k → m < 10 ^ 64 → AreShort n zs → AreShort (k + n + 1) (pos m ∷ zs)
natural_more k n m zs some h wide t = one_more k n (pos m) zs wide (natural_length k m some h wide) t

arc_more : (n : ℕ) (arc : Arc) (zs : List ℤ) → IsArcInBounds arc → AreShort n zs → AreShort (2 + (2 + (2 + (2 + n + 1) + 1) + 1) + 1) (pos arc.a ∷ pos arc.i ∷ pos arc.b ∷ pos arc.j ∷ zs)
arc_more n arc zs h t =
    natural_more 2 _ arc.a _ (omega arith) (omega (arith, h.a)) (omega (arith, h.a))
    (natural_more 2 _ arc.i _ (omega arith) (omega (arith, h.i)) (omega (arith, h.i))
    (natural_more 2 _ arc.b _ (omega arith) (omega (arith, h.b)) (omega (arith, h.b))
    (natural_more 2 n arc.j zs (omega arith) (omega (arith, h.j)) (omega (arith, h.j)) t)))

vector_more : (m k n : ℕ) (v : V3) (zs : List ℤ) → 0 < k → m < 10 ^ k → m < 10 ^ 64 → IsWithin m v → AreShort n zs → AreShort (k + 1 + (k + 1 + (k + 1 + n + 1) + 1) + 1) (v.x ∷ v.y ∷ v.z ∷ zs)
vector_more m k n v zs some l wide h t =
    one_more (k + 1) _ v.x _ (omega (arith, h.x)) (signed_length k v.x some (omega (arith, h.x)) (omega (arith, h.x)))
    (one_more (k + 1) _ v.y _ (omega (arith, h.y)) (signed_length k v.y some (omega (arith, h.y)) (omega (arith, h.y)))
    (one_more (k + 1) n v.z zs (omega (arith, h.z)) (signed_length k v.z some (omega (arith, h.z)) (omega (arith, h.z))) t))

members_short : (n s : ℕ) (w : PartSet) → s + n ≤ 32 → AreShort (3 * n) (map pos (members_from s n w))
members_short zero s w h = no_numbers
members_short (suc n) s w h = go (set.contains w s) (members_short n (suc s) w (omega arith))
  where
    go : (b : Bool) → AreShort (3 * n) (map pos (members_from (suc s) n w)) → AreShort (3 * suc n) (map pos (if b then s ∷ members_from (suc s) n w else members_from (suc s) n w))
    go true t = let more = natural_more 2 (3 * n) s _ (omega arith) (omega arith) (omega arith) t in record { small = more.small; most = omega (arith, more.most) }
    go false t = record { small = t.small; most = omega (arith, t.most) }

-- directions of 25 digits and normals of 12 leave room
numbers_short : (l : Line) → IsInBounds l → (n : ℕ) × (n ≤ 110) × AreShort n (numbers_in l)
unfolding members
numbers_short (line.Head version) h = (_, omega arith, natural_more 1 0 version [] (omega arith) (omega (arith, h.1)) (omega (arith, h.1)) no_numbers)
numbers_short (line.Parts n) h = (_, omega arith, natural_more 2 0 n [] (omega arith) (omega (arith, h.1)) (omega (arith, h.1)) no_numbers)
numbers_short line.Plan h = (0, omega arith, no_numbers)
numbers_short (line.Stuck w) h = (96, omega arith, members_short 32 0 w (omega arith))
numbers_short (line.Leaf p) h = (_, omega arith, natural_more 2 0 p [] (omega arith) (omega arith) (omega arith) no_numbers)
numbers_short (line.Split d) h = (_, omega arith, vector_more DIRECTION 25 0 d [] (omega arith) (omega arith) (omega arith) h no_numbers)
numbers_short (line.Sep sep) h = (_, omega arith, arc_more _ sep.arc (vector_numbers sep.n) h.0 (vector_more NORMAL 12 0 sep.n [] (omega arith) (omega arith) (omega arith) h.1 no_numbers))
numbers_short (line.Witness k) h = (_, omega arith, natural_more 8 0 k [] (omega arith) (omega arith) (omega arith) no_numbers)
numbers_short (line.Out arc) h = (_, omega arith, arc_more 0 arc [] h no_numbers)
numbers_short (line.In arc) h = (_, omega arith, arc_more 0 arc [] h no_numbers)
numbers_short (line.Dir dir) h =
    let number = natural_more 8 0 dir.witness [] (omega arith) (omega (arith, h.1)) (omega (arith, h.1)) no_numbers in
    (_, omega arith, vector_more DIRECTION 25 _ dir.d (pos dir.witness ∷ []) (omega arith) (omega arith) (omega arith) h.0 number)
numbers_short line.End h = (0, omega arith, no_numbers)

numbers_small : (l : Line) → IsInBounds l → All IsSmall (numbers_in l)
numbers_small l h = AreShort.small (numbers_short l h).2

-- no line has the text of another
pub one_line : (l m : Line) → IsInBounds l → IsInBounds m → line_text l ≡ line_text m → l ≡ m
one_line l m f g e =
    let cuts = one_cut (word_of l) (word_of m) (spaced (numbers_in l)) (spaced (numbers_in m)) (word_plain l) (word_plain m) (parted_spaced (numbers_in l)) (parted_spaced (numbers_in m)) e in
    let same : numbers_in l ≡ numbers_in m = spaced_same (numbers_in l) (numbers_in m) (numbers_small l f) (numbers_small m g) cuts.1 in
    sym (line_again l f) ∙ (λ i. line_from (cuts.0 i) (same i)) ∙ line_again m g

-- ---- the bytes before the line feed

pub spaced_bare : (zs : List ℤ) → spaced zs ≡ bare zs ++ 10 ∷ []
spaced_bare [] = refl
spaced_bare (z ∷ zs) = ap (λ l. 32 ∷ l) (ap (λ l. signed_decimal z ++ l) (spaced_bare zs) ∙ sym (append_assoc (signed_decimal z) (bare zs) (10 ∷ [])))

pub plain_no_feed : (xs : List ℕ) → ArePlain xs → HasNoFeed xs
plain_no_feed xs h = All-weaker (λ b. 32 < b) (λ b. b ≢ 10) (λ b k e. omega arith) xs h

pub bare_no_feed : (zs : List ℤ) → All IsSmall zs → HasNoFeed (bare zs)
bare_no_feed [] h = All-nil (λ b. b ≢ 10)
bare_no_feed (z ∷ zs) h =
    All-cons (λ b. b ≢ 10) 32 (signed_decimal z ++ bare zs) (λ e. omega arith)
    (All-append (λ b. b ≢ 10) (signed_decimal z) (bare zs) (plain_no_feed (signed_decimal z) (signed_plain z (All-head IsSmall z zs h))) (bare_no_feed zs (All-tail IsSmall z zs h)))

pub line_front : Line → List ℕ
line_front l = word_of l ++ bare (numbers_in l)

pub line_is : (l : Line) → line_text l ≡ line_front l ++ 10 ∷ []
unfolding line_front
line_is l = ap (λ t. word_of l ++ t) (spaced_bare (numbers_in l)) ∙ sym (append_assoc (word_of l) (bare (numbers_in l)) (10 ∷ []))

pub line_whole : (l : Line) → IsInBounds l → IsLine (line_text l)
unfolding line_front
line_whole l h = record {
  front = line_front l;
  is = line_is l;
  no_feed = All-append (λ b. b ≢ 10) (word_of l) (bare (numbers_in l)) (plain_no_feed (word_of l) (word_plain l)) (bare_no_feed (numbers_in l) (numbers_small l h));
}

-- ---- lengths

pub line_length : (l : Line) → IsInBounds l → length (line_front l) < 127
unfolding line_front
line_length l h = let (n, few, t) = numbers_short l h in omega (arith, length-append (word_of l) (bare (numbers_in l)), word_length l, few, t.most)
