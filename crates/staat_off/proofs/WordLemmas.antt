-- The scan finds the words of a file.
use Rattle.std.proofs.Common.{◌≡◌, ◌≢◌, ◌==◌, ◌+◌, ◌<◌, ◌≤◌, ℕ, zero, suc, Bool, true, false, not, List, [], ◌∷◌, length, drop, Some, refl, sym, ap, ◌∙◌, cond, subst, arith, inl, inr}
use Rattle.std.specs.Prelude.{slice_get}
use Rattle.std.specs.List.{prefix_len}
use Rattle.std.proofs.lemmas.Bool.{cases_lt, eqb-true, eqb-false, false≢true}
use Rattle.staat_off.specs.declared.rest.TheConstants.{HASH, LINE_FEED}
use Rattle.staat_off.specs.Scan.{begins, gap, goes_on}
use Rattle.staat_off.specs.Words.{HasNoWord, IsCommented, IsWordPlace, is_plain}
use Rattle.staat_off.proofs.Places.{byte_at, no_byte}
use Rattle.staat_vec.proofs.Options.{none_some, some_injective}

-- whether a comment goes on from before a place
abbrev pub Flag : Bool → List ℕ → ℕ → Type 0
Flag true file p = (i : ℕ) × (suc i ≡ p) × IsCommented file i
Flag false file p = (i : ℕ) → suc i ≡ p → IsCommented file i → ⊥

-- one place more
longer : (file : List ℕ) (i b : ℕ) → slice_get file (suc i) ≡ Some b → b ≢ LINE_FEED → IsCommented file i → IsCommented file (suc i)
longer file i b at ne h = (
  h.0,
  record {
    begins = h.1.begins;
    before = omega (arith, h.1.before);
    goes_on = λ k low high. elim (cases_lt i k) [
      | inl above ↦
          let last : k ≡ suc i = omega arith in
          λ e. ne (some_injective b LINE_FEED (sym at ∙ subst (λ m. slice_get file m ≡ Some LINE_FEED) last e))
      | inr within ↦ h.1.goes_on k low (omega arith)
    ];
  },
)

-- one place less
shorter : (file : List ℕ) (i : ℕ) (h : IsCommented file (suc i)) → h.0 ≤ i → IsCommented file i
shorter file i h le = (
  h.0,
  record {
    begins = h.1.begins;
    before = le;
    goes_on = λ k low high. h.1.goes_on k low (omega arith);
  },
)

begun : (file : List ℕ) (p : ℕ) → slice_get file p ≡ Some HASH → IsCommented file p
begun file p at = (
  p,
  record {
    begins = at;
    before = omega arith;
    goes_on = λ k low high e.
        let here : k ≡ p = omega arith in
        let same : HASH ≡ LINE_FEED = some_injective HASH LINE_FEED (sym at ∙ subst (λ m. slice_get file m ≡ Some LINE_FEED) here e) in
        omega arith;
  },
)

-- ---- the flag at the next place

after_comment : (file : List ℕ) (p b : ℕ) (t : Bool) → (b == LINE_FEED) ≡ t → slice_get file p ≡ Some b → Flag true file p → Flag (not t) file (suc p)
after_comment file p b true e at h = λ i next commented.
    let here : i ≡ p = omega arith in
    let feed : b ≡ LINE_FEED = eqb-true b LINE_FEED e in
    let low : commented.0 ≤ p = omega (arith, commented.1.before) in
    commented.1.goes_on p low (omega arith) (at ∙ ap Some feed)
after_comment file zero b false e at h = absurd (omega (arith, h.1))
after_comment file (suc p) b false e at h =
    let last : h.0 ≡ p = omega (arith, h.1) in
    (suc p, refl, longer file p b at (eqb-false b LINE_FEED e) (subst (IsCommented file) last h.2))

not_before : (file : List ℕ) (p : ℕ) (there : IsCommented file p) → there.0 < p → Flag false file p → ⊥
not_before file zero there less closed = omega arith
not_before file (suc i) there less closed = closed i refl (shorter file i there (omega arith))

not_within : (file : List ℕ) (p b : ℕ) → slice_get file p ≡ Some b → b ≢ HASH → Flag false file p → IsCommented file p → ⊥
not_within file p b at ne closed there = elim (cases_lt there.0 p) [
  | inl less ↦ not_before file p there less closed
  | inr most ↦
      let same : there.0 ≡ p = omega (arith, there.1.before) in
      ne (some_injective b HASH (sym at ∙ subst (λ m. slice_get file m ≡ Some HASH) same there.1.begins))
]

after_open : (file : List ℕ) (p b : ℕ) (t : Bool) → (b == HASH) ≡ t → slice_get file p ≡ Some b → Flag false file p → Flag t file (suc p)
after_open file p b true e at h =
    let hash : b ≡ HASH = eqb-true b HASH e in
    (p, refl, begun file p (at ∙ ap Some hash))
after_open file p b false e at h = λ i next commented.
    let here : i ≡ p = omega arith in
    not_within file p b at (eqb-false b HASH e) h (subst (IsCommented file) here commented)

after_byte : (c : Bool) (file : List ℕ) (p b : ℕ) → slice_get file p ≡ Some b → Flag c file p → Flag (goes_on c b) file (suc p)
after_byte true file p b at h = after_comment file p b (b == LINE_FEED) refl at h
after_byte false file p b at h = after_open file p b (b == HASH) refl at h

-- ---- bytes and places of words

not_line_feed : (b : ℕ) → is_plain b ≡ true → b ≢ LINE_FEED
not_line_feed b plain e = false≢true (ap is_plain (sym e) ∙ plain)

not_hash : (b : ℕ) → is_plain b ≡ true → b ≢ HASH
not_hash b plain e = false≢true (ap is_plain (sym e) ∙ plain)

-- a plain byte behind no comment is a place of a word
plain_place : (file : List ℕ) (p b : ℕ) → slice_get file p ≡ Some b → is_plain b ≡ true → Flag false file p → IsWordPlace file p
plain_place file p b at plain closed = record {
  byte = b;
  at = at;
  plain = plain;
  outside = not_within file p b at (not_hash b plain) closed;
}

-- and no comment goes on behind it
plain_after : (file : List ℕ) (p b : ℕ) → slice_get file p ≡ Some b → is_plain b ≡ true → Flag false file p → Flag false file (suc p)
plain_after file p b at plain closed = λ i next commented.
    let here : i ≡ p = omega arith in
    not_within file p b at (not_hash b plain) closed (subst (IsCommented file) here commented)

byte_of_place : (file : List ℕ) (p b : ℕ) → slice_get file p ≡ Some b → (w : IsWordPlace file p) → is_plain b ≡ true
byte_of_place file p b at w =
    let same : w.byte ≡ b = some_injective w.byte b (sym w.at ∙ at) in
    ap is_plain (sym same) ∙ w.plain

commented_here : (file : List ℕ) (p b : ℕ) → slice_get file p ≡ Some b → b ≢ LINE_FEED → Flag true file p → IsCommented file p
commented_here file zero b at ne h = absurd (omega (arith, h.1))
commented_here file (suc p) b at ne h =
    let last : h.0 ≡ p = omega (arith, h.1) in
    longer file p b at ne (subst (IsCommented file) last h.2)

no_word_here : (c : Bool) (file : List ℕ) (p b : ℕ) → begins c b ≡ false → slice_get file p ≡ Some b → Flag c file p → IsWordPlace file p → ⊥
no_word_here true file p b e at h w =
    w.outside (commented_here file p b at (not_line_feed b (byte_of_place file p b at w)) h)
no_word_here false file p b e at h w =
    false≢true (sym e ∙ byte_of_place file p b at w)

begins_closed : (c : Bool) (b : ℕ) → begins c b ≡ true → c ≡ false
begins_closed true b e = absurd (false≢true e)
begins_closed false b e = refl

-- ---- what stands before the next word

module _ (file : List ℕ) where
  gap_by : (c : Bool) (p b n : ℕ) (t : Bool) → begins c b ≡ t → slice_get file p ≡ Some b → Flag c file p → HasNoWord file (suc p) (suc p + n) → HasNoWord file p (p + cond t 0 (n + 1))
  gap_by c p b n true e at flag rest = λ i low high w. omega arith
  gap_by c p b n false e at flag rest = λ i low high w. elim (cases_lt p i) [
    | inl above ↦ rest i above (omega arith) w
    | inr here ↦
        let same : i ≡ p = omega arith in
        no_word_here c file p b e at flag (subst (IsWordPlace file) same w)
  ]

  pub gap_skips : (c : Bool) (p : ℕ) (bs : List ℕ) → drop p file ≡ bs → Flag c file p → HasNoWord file p (p + gap c bs)
  unfolding gap
  gap_skips c p [] e flag = λ i low high w. omega arith
  gap_skips c p (b ∷ bs) e flag =
      let there = byte_at file p b bs e in
      gap_by c p b (gap (goes_on c b) bs) (begins c b) refl there.0 flag (gap_skips (goes_on c b) (suc p) bs there.1 (after_byte c file p b there.0 flag))

  stop_by : (c : Bool) (p b n : ℕ) (t : Bool) (bs : List ℕ) → begins c b ≡ t → Flag c file p → (n < length bs → Flag false file (suc p + n)) → cond t 0 (n + 1) < length (b ∷ bs) → Flag false file (p + cond t 0 (n + 1))
  stop_by c p b n true bs e flag rest lt =
      let here : p ≡ p + 0 = omega arith in
      subst (Flag false file) here (subst (λ x. Flag x file p) (begins_closed c b e) flag)
  stop_by c p b n false bs e flag rest lt =
      let there : suc p + n ≡ p + (n + 1) = omega arith in
      subst (Flag false file) there (rest (omega arith))

  -- no comment goes on there
  pub gap_closes : (c : Bool) (p : ℕ) (bs : List ℕ) → drop p file ≡ bs → Flag c file p → gap c bs < length bs → Flag false file (p + gap c bs)
  unfolding gap
  gap_closes c p [] e flag lt = absurd (omega arith)
  gap_closes c p (b ∷ bs) e flag lt =
      let there = byte_at file p b bs e in
      stop_by c p b (gap (goes_on c b) bs) (begins c b) bs refl flag (gap_closes (goes_on c b) (suc p) bs there.1 (after_byte c file p b there.0 flag)) lt

front_by : (c : Bool) (b n : ℕ) (t : Bool) (bs : List ℕ) → begins c b ≡ t → (n < length bs → 0 < prefix_len is_plain (drop n bs)) → cond t 0 (n + 1) < length (b ∷ bs) → 0 < prefix_len is_plain (drop (cond t 0 (n + 1)) (b ∷ bs))
front_by true b n true bs e rest lt = absurd (false≢true e)
front_by false b n true bs e rest lt =
    let plain : is_plain b ≡ true = e in
    rw plain (omega arith)
front_by c b n false bs e rest lt =
    let one : n + 1 ≡ suc n = omega arith in
    rw one (rest (omega arith))

-- a word begins there
pub gap_front : (c : Bool) (bs : List ℕ) → gap c bs < length bs → 0 < prefix_len is_plain (drop (gap c bs) bs)
unfolding gap
gap_front c [] lt = absurd (omega arith)
gap_front c (b ∷ bs) lt =
    front_by c b (gap (goes_on c b) bs) (begins c b) bs refl (gap_front (goes_on c b) bs) lt

-- ---- the word itself

-- what is known of a run of plain bytes from a place on
pub record IsRun (file : List ℕ) (q n : ℕ) : Type 0 where
  pub places : (i : ℕ) → q ≤ i → i < q + n → IsWordPlace file i
  pub closed : Flag false file (q + n)
  pub last : IsWordPlace file (q + n) → ⊥

run_by : (file : List ℕ) (q c n : ℕ) (t : Bool) → is_plain c ≡ t → slice_get file q ≡ Some c → Flag false file q → (Flag false file (suc q) → IsRun file (suc q) n) → IsRun file q (cond t (1 + n) 0)
run_by file q c n true e at closed rest =
    let more = rest (plain_after file q c at e closed) in
    let end : suc q + n ≡ q + (1 + n) = omega arith in
    record {
      places = λ i low high. elim (cases_lt q i) [
        | inl above ↦ more.places i above (omega arith)
        | inr here ↦
            let same : q ≡ i = omega arith in
            subst (IsWordPlace file) same (plain_place file q c at e closed)
      ];
      closed = subst (Flag false file) end more.closed;
      last = subst (λ p. IsWordPlace file p → ⊥) end more.last;
    }
run_by file q c n false e at closed rest =
    let end : q ≡ q + 0 = omega arith in
    record {
      places = λ i low high. absurd (omega arith);
      closed = subst (Flag false file) end closed;
      last = subst (λ p. IsWordPlace file p → ⊥) end (λ w. false≢true (sym e ∙ byte_of_place file q c at w));
    }

pub run_of : (file : List ℕ) (q : ℕ) (cs : List ℕ) → drop q file ≡ cs → Flag false file q → IsRun file q (prefix_len is_plain cs)
run_of file q [] e closed =
    let end : q ≡ q + 0 = omega arith in
    record {
      places = λ i low high. absurd (omega arith);
      closed = subst (Flag false file) end closed;
      last = subst (λ p. IsWordPlace file p → ⊥) end (λ w. none_some w.byte (sym (no_byte file q e q (omega arith)) ∙ w.at));
    }
run_of file q (c ∷ cs) e closed =
    let there = byte_at file q c cs e in
    run_by file q c (prefix_len is_plain cs) (is_plain c) refl there.0 closed (run_of file (suc q) cs there.1)
