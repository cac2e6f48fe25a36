-- What more bytes of a text make of what has been read.
use Rattle.std.proofs.Common.{◌≡◌, ◌≢◌, ◌++◌, ◌∷◌, ◌+◌, ℕ, Bool, true, false, List, [], length, ap, sym, subst, refl, ◌∙◌, arith, inl, length-append, append_assoc, append-nil}
use Rattle.std.proofs.lemmas.List.Elements.{All-nil, All-push}
use Rattle.staat_model.specs.Texts.{IsLine, joined}
use Rattle.staat_vec.proofs.Truth.{false_true_clash}
use Rattle.staat_cert.specs.TextLines.{BeginsWhole, IsFirstBadOf, IsKeptLine, IsReadTo, Stands, TakesLine}
use Rattle.staat_cert.proofs.TextLemmas.{bad_at, bad_more, joined_one}

module _ {C : Type 0} (spells : List ℕ → C → Type 0) (taken : List ℕ → Type 0) (rest : List ℕ) (count : ℕ) where
  pub made_bad : (text : List ℕ) → IsFirstBadOf spells text (count + 1) → Stands spells taken rest count true text
  made_bad text h = record { good = λ e. cc; wrong = λ e. h }

  pub made_good : (bad : Bool) (text : List ℕ) → bad ≡ false → IsReadTo spells taken rest count text → Stands spells taken rest count bad text
  made_good bad text e h = record { good = λ f. h; wrong = λ t. absurd (false_true_clash bad e t) }

  -- a reading that has a bad line
  pub stays_bad : (bad : Bool) (text more : List ℕ) → bad ≡ true → Stands spells taken rest count bad text → Stands spells taken rest count bad (text ++ more)
  stays_bad bad text more e h = record { good = λ f. absurd (false_true_clash bad f e); wrong = λ t. bad_more spells text more (count + 1) (h.wrong t) }

  pub no_run : (bad : Bool) (text run : List ℕ) → length run ≡ 0 → Stands spells taken rest count bad text → Stands spells taken rest count bad (text ++ run)
  no_run bad text [] e h = subst (Stands spells taken rest count bad) (sym (append-nil text)) h
  no_run bad text (b ∷ run) e h = absurd (omega arith)

-- ---- a whole line

module _ {C : Type 0} (spells : List ℕ → C → Type 0) (taken new : List ℕ → Type 0) (rest line : List ℕ) (count : ℕ) (is_taken : Bool) (text : List ℕ)
    (takes : IsLine line → TakesLine spells taken new line is_taken) (is : line ≡ rest ++ 10 ∷ []) (g : IsReadTo spells taken rest count text) where
  whole : IsLine line
  whole = record { front = rest; is = is; no_feed = g.no_feed }

  pub taken_there : (more : ℕ) (bad : Bool) → bad ≡ false → is_taken ≡ true → more ≡ count + 1 → Stands spells new [] more bad (text ++ 10 ∷ [])
  taken_there more bad good e n =
      let all = joined_one g.lines line in
      let now = (subst (TakesLine spells taken new line) e (takes whole)) (joined g.lines) g.took in
      made_good spells new [] more bad (text ++ 10 ∷ []) good (record {
        lines = g.lines ++ line ∷ [];
        is = ap (λ x. x ++ 10 ∷ []) g.is ∙ append_assoc (joined g.lines) rest (10 ∷ []) ∙ ap (λ x. joined g.lines ++ x) (sym is) ∙ sym all ∙ sym (append-nil (joined (g.lines ++ line ∷ [])));
        number = omega (arith, n, g.number, length-append g.lines (line ∷ []));
        each = All-push IsKeptLine g.lines line g.each (record { whole = whole; short = omega (arith, g.short, ap length is, length-append rest (10 ∷ [])) });
        took = subst new (sym all) now.0;
        begins = subst (BeginsWhole spells) (sym all) now.1;
        no_feed = All-nil (λ b. b ≢ 10);
        short = omega arith;
        closed = λ c k. refl;
      })

  pub refused_there : (kept : List ℕ) → is_taken ≡ false → Stands spells new kept count true (text ++ 10 ∷ [])
  refused_there kept e =
      made_bad spells new kept count (text ++ 10 ∷ []) (bad_at spells taken rest count text g (10 ∷ []) (inl (record {
        line = line;
        rest = [];
        is = sym is ∙ sym (append-nil line);
        whole = whole;
        wrong = (subst (TakesLine spells taken new line) e (takes whole)) (joined g.lines) g.took;
      })))
