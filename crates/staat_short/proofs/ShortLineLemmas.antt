-- A line of a short certificate is read exactly from its text, which has one line feed, at its end, and at most 128
-- bytes.
use Rattle.std.proofs.Common.{◌≡◌, ◌≢◌, ◌++◌, ◌∷◌, ◌+◌, ◌*◌, ◌<◌, ◌≤◌, ℕ, List, [], length, All, ap, ap₂, sym, subst, refl, ◌∙◌, arith, ℤ, pos, append_assoc, length-append, ◌⊎◌, inl, inr}
use Rattle.std.specs.Prelude.{Some, None, cond, ◌==◌, nat_lt, true, false, option_and_then, option_map, codes, get_or}
use Rattle.std.specs.Fmt.{signed_decimal}
use Rattle.std.specs.List.{list_all}
use Rattle.std.specs.Str.{bytes_eq}
use Rattle.std.proofs.lemmas.Slice.Eq.{bytes_eq-Decides}
use Rattle.std.proofs.lemmas.Bool.{ltb-true, lt-ltb, eq-eqb, false≢true}
use Rattle.std.proofs.lemmas.Option.{cond_some}
use Rattle.std.proofs.lemmas.List.Elements.{All-append, All-cons, All-head, All-nil, All-tail, All-weaker}
use Rattle.staat_vec.specs.declared.vector.TheConstants.{DIRECTION}
use Rattle.staat_vec.proofs.Decimals.{signed_decimal_length}
use Rattle.staat_vec.proofs.Options.{let_through, none_some, some_injective}
use Rattle.staat_vec.proofs.Truth.{and_split}
use Rattle.staat_limits.specs.declared.limits.TheConstants.{LINE_LIMIT, MOST_PRODUCT_PARTS, MOST_PRODUCT_PIECES}
use Rattle.staat_model.specs.declared.certificate.Arc.{Arc}
use Rattle.staat_model.specs.Lines.{spaced, ArePlain}
use Rattle.staat_model.specs.Texts.{HasNoFeed, IsLine}
use Rattle.staat_model.proofs.LineTexts.{bare as bare_numbers, bare_no_feed, one_cut, parted_spaced, plain_no_feed, spaced_bare, spaced_same}
use Rattle.staat_cert.specs.LineReading.{IsLineOf, arc_alone, bare_from, natural_alone, positive_alone, vector_alone}
use Rattle.staat_cert.specs.Spaced.{IsBounded}
use Rattle.staat_cert.proofs.Cuts.{all_small}
use Rattle.staat_cert.proofs.LineLemmas.{arc_again, arc_alone_found, arc_bounded, cons, natural_again, natural_alone_found, nil, positive_again, positive_alone_found, vector_again, vector_alone_found, vector_bounded}
use Rattle.staat_cert.proofs.Options.{and_then_found}
use Rattle.staat_cert.proofs.WordLines.{IsReadable, bare_found, kind_found, tried}
use Rattle.staat_short.specs.declared.line.ShortLine.{ShortLine}
use Rattle.staat_short.specs.declared.line.ShortLine.TheVariants as line
use Rattle.staat_short.specs.ShortLines.{IsShortLine, short_line_text, short_numbers, short_word}
use Rattle.staat_short.specs.ShortReading.{pair_from, short_line_from}
use Rattle.staat_short.specs.ShortStanding.{IsShortLineText}

-- ---- from numbers

abbrev IsOf : List ℕ → List ℤ → ShortLine → Type 0
IsOf = IsLineOf short_word short_numbers IsShortLine

pair_found : (zs : List ℤ) (r : ShortLine) → pair_from zs ≡ Some r → IsOf (codes "pair") zs r
unfolding pair_from
pair_found zs r e =
    let s = and_then_found _ (arc_alone MOST_PRODUCT_PARTS MOST_PRODUCT_PIECES zs) r e in
    let f = arc_alone_found MOST_PRODUCT_PARTS MOST_PRODUCT_PIECES zs s.0 s.1 in
    let test = cond_some (nat_lt s.0.a s.0.b) (line.Pair s.0) r s.2 in
    subst (IsOf (codes "pair") zs) test.1 (record { word_is = refl; numbers_are = f.0; bounds = record { i = f.1.1; b = f.1.2; j = f.1.3; below = ltb-true s.0.a s.0.b test.0 } })

-- a line without numbers
bare : (l : ShortLine) → short_numbers l ≡ [] → IsShortLine l → IsOf (short_word l) [] l
bare l none bounds = record { word_is = refl; numbers_are = sym none; bounds = bounds }

pub short_line_found : (word : List ℕ) (zs : List ℤ) (r : ShortLine) → short_line_from word zs ≡ Some r → IsOf word zs r
unfolding short_line_from
short_line_found word zs r =
    tried word (codes "pair") zs r _ _ (pair_found zs r)
    (tried word (codes "part") zs r _ _ (kind_found line.Part (natural_alone MOST_PRODUCT_PARTS zs) _ zs r (λ p. refl) (natural_alone_found MOST_PRODUCT_PARTS zs))
    (tried word (codes "hold") zs r _ _ (bare_found line.Hold zs r (bare line.Hold refl tt))
    (tried word (codes "leaf") zs r _ _ (kind_found line.Leaf (natural_alone MOST_PRODUCT_PARTS zs) _ zs r (λ p. refl) (natural_alone_found MOST_PRODUCT_PARTS zs))
    (tried word (codes "split") zs r _ _ (kind_found line.Split (vector_alone DIRECTION zs) _ zs r (λ d. refl) (vector_alone_found DIRECTION zs))
    (tried word (codes "group") zs r _ _ (bare_found line.Group zs r (bare line.Group refl tt))
    (tried word (codes "end") zs r _ _ (bare_found line.End zs r (bare line.End refl tt))
    (tried word (codes "plan") zs r _ _ (bare_found line.Plan zs r (bare line.Plan refl tt))
    (tried word (codes "stuck") zs r _ _ (bare_found line.Stuck zs r (bare line.Stuck refl tt))
    (tried word (codes "rest") zs r _ _ (bare_found line.Rest zs r (bare line.Rest refl tt))
    (tried word (codes "parts") zs r _ _ (kind_found line.Parts (positive_alone (MOST_PRODUCT_PARTS + 1) zs) _ zs r (λ n. refl) (λ n e. let f = positive_alone_found (MOST_PRODUCT_PARTS + 1) zs n e in (f.0, (f.1, omega (arith, f.2))))) (λ e. absurd (none_some r e))))))))))))

-- ---- from lines

-- its first word is all that stands before its numbers
abbrev HasWord : ShortLine → Type 0
HasWord line.Title = ⊥
HasWord l = Unit {0}

line_again : (r : ShortLine) → HasWord r → IsShortLine r → short_line_from (short_word r) (short_numbers r) ≡ Some r
unfolding short_line_from natural_alone vector_alone bare_from pair_from
line_again line.Title w h = absurd w
line_again (line.Parts n) w h = ap (option_map line.Parts) (positive_again (MOST_PRODUCT_PARTS + 1) n h.0 (omega arith))
line_again (line.Split d) w h = ap (option_map line.Split) (vector_again DIRECTION d h)
line_again (line.Leaf p) w h = ap (option_map line.Leaf) (natural_again MOST_PRODUCT_PARTS p h)
line_again (line.Part p) w h = ap (option_map line.Part) (natural_again MOST_PRODUCT_PARTS p h)
line_again (line.Pair pair) w h =
    ap (option_and_then (λ (p : Arc). cond (nat_lt p.a p.b) (Some (line.Pair p)) None)) (arc_again MOST_PRODUCT_PARTS MOST_PRODUCT_PIECES pair (omega (arith, h.b, h.below), h.i, h.b, h.j))
    ∙ let_through (nat_lt pair.a pair.b) (line.Pair pair) (lt-ltb pair.a pair.b h.below)
line_again l w h = refl

-- there are four numbers at most, and they are small
numbers_small : (l : ShortLine) → IsShortLine l → All IsBounded (short_numbers l) × (length (short_numbers l) ≤ 4)
numbers_small (line.Parts n) h = (cons (pos n) [] (omega (arith, h.1)) nil, omega arith)
numbers_small (line.Split d) h = (vector_bounded DIRECTION d [] (omega arith) h nil, omega arith)
numbers_small (line.Leaf p) h = (cons (pos p) [] (omega arith) nil, omega arith)
numbers_small (line.Part p) h = (cons (pos p) [] (omega arith) nil, omega arith)
numbers_small (line.Pair pair) h = (arc_bounded MOST_PRODUCT_PARTS MOST_PRODUCT_PIECES pair [] (omega arith) (omega arith) (omega (arith, h.b, h.below), h.i, h.b, h.j) nil, omega arith)
numbers_small l h = (nil, omega arith)

-- ---- words

all_above : (low : ℕ) (bs : List ℕ) → list_all (λ b. nat_lt low b) bs ≡ true → All (λ b. low < b) bs
all_above low [] e = All-nil (λ b. low < b)
all_above low (b ∷ bs) e = let t = and_split (nat_lt low b) (list_all (λ c. nat_lt low c) bs) e in All-cons (λ c. low < c) b bs (ltb-true low b t.0) (all_above low bs t.1)

word_plain : (l : ShortLine) → HasWord l → ArePlain (short_word l)
word_plain line.Title w = absurd w
word_plain l w = all_above 32 (short_word l) refl

word_no_feed : (l : ShortLine) → HasNoFeed (short_word l)
word_no_feed line.Title = All-weaker (λ b. 31 < b) (λ b. b ≢ 10) (λ b high e. omega arith) (codes "STAAT SHORT 1") (all_above 31 (codes "STAAT SHORT 1") refl)
word_no_feed l = plain_no_feed (short_word l) (word_plain l tt)

word_length : (l : ShortLine) → length (short_word l) ≤ 13
word_length line.Title = omega arith
word_length l = omega arith

-- ---- one line

other_than : (m n : ℕ) → (m == n) ≡ false → m ≡ n → ⊥
other_than m n e same = false≢true (sym e ∙ eq-eqb m n same)

-- no other line begins as the title does
no_title : (l : ShortLine) → HasWord l → short_line_text line.Title ≡ short_line_text l → ⊥
no_title line.Title w e = w
no_title l w e = other_than 83 (get_or (short_line_text l) 0 0) refl (ap (λ t. get_or t 0 0) e)

is_title : (l : ShortLine) → (l ≡ line.Title) ⊎ HasWord l
is_title line.Title = inl refl
is_title l = inr tt

one_word_line : (l m : ShortLine) → HasWord l → HasWord m → IsShortLine l → IsShortLine m → short_line_text l ≡ short_line_text m → l ≡ m
one_word_line l m u w f g e =
    let cuts = one_cut (short_word l) (short_word m) (spaced (short_numbers l)) (spaced (short_numbers m)) (word_plain l u) (word_plain m w) (parted_spaced (short_numbers l)) (parted_spaced (short_numbers m)) e in
    let same : short_numbers l ≡ short_numbers m = spaced_same (short_numbers l) (short_numbers m) (all_small (short_numbers l) (numbers_small l f).0) (all_small (short_numbers m) (numbers_small m g).0) cuts.1 in
    some_injective l m (sym (line_again l u f) ∙ ap₂ short_line_from cuts.0 same ∙ line_again m w g)

-- no line has the text of another
pub one_short_line : (l m : ShortLine) → IsShortLine l → IsShortLine m → short_line_text l ≡ short_line_text m → l ≡ m
one_short_line l m f g e = elim (is_title l) [
  | inl a ↦ elim (is_title m) [
    | inl b ↦ a ∙ sym b
    | inr w ↦ absurd (no_title m w (ap short_line_text (sym a) ∙ e))
  ]
  | inr u ↦ elim (is_title m) [
    | inl b ↦ absurd (no_title l u (ap short_line_text (sym b) ∙ sym e))
    | inr w ↦ one_word_line l m u w f g e
  ]
]

-- ---- what is read of bytes

-- the line of bytes that are not the title is read from its word and its numbers
pub readable : (bytes : List ℕ) → bytes_eq bytes (short_line_text line.Title) ≡ false → (l : ShortLine) → IsShortLineText bytes l → IsReadable short_word short_numbers short_line_from l
readable bytes other l h = elim (is_title l) [
  | inl a ↦ absurd (false≢true (sym other ∙ (bytes_eq-Decides bytes (short_line_text line.Title)).1 (h.text ∙ ap short_line_text a)))
  | inr w ↦ record { plain = word_plain l w; bounded = (numbers_small l h.bounds).0; line = l; again = line_again l w h.bounds }
]

pub is_title_text : (bytes : List ℕ) → bytes_eq bytes (short_line_text line.Title) ≡ true → IsShortLineText bytes line.Title
is_title_text bytes e = record { text = (bytes_eq-Decides bytes (short_line_text line.Title)).0 e; bounds = tt }

-- ---- the bytes

pub short_line_whole : (l : ShortLine) → IsShortLine l → IsLine (short_line_text l)
short_line_whole l h = record {
  front = short_word l ++ bare_numbers (short_numbers l);
  is = ap (λ t. short_word l ++ t) (spaced_bare (short_numbers l)) ∙ sym (append_assoc (short_word l) (bare_numbers (short_numbers l)) (10 ∷ []));
  no_feed = All-append (λ b. b ≢ 10) (short_word l) (bare_numbers (short_numbers l)) (word_no_feed l) (bare_no_feed (short_numbers l) (all_small (short_numbers l) (numbers_small l h).0));
}

spaced_length : (zs : List ℤ) → All IsBounded zs → length (spaced zs) ≤ 27 * length zs + 1
spaced_length [] small = omega arith
spaced_length (z ∷ zs) small =
    let one = signed_decimal_length z (let bound = All-head IsBounded z zs small in omega (arith, bound)) in
    let rest = spaced_length zs (All-tail IsBounded z zs small) in
    omega (arith, one, rest, length-append (signed_decimal z) (spaced zs))

pub short_line_length : (l : ShortLine) → IsShortLine l → length (short_line_text l) ≤ LINE_LIMIT
short_line_length l h =
    let small = numbers_small l h in
    omega (arith, word_length l, small.1, spaced_length (short_numbers l) small.0, length-append (short_word l) (spaced (short_numbers l)))
