-- What steps give one after another, by what the first of them gave.
use Rattle.std.proofs.Common.{◌≡◌, ◌∙◌, Option, Some, None, ap}
use Rattle.staat_words.specs.Spelled.{◌>>=◌}

pub went_on : {A B : Type 0} (o : Option A) (x : A) (f : A → Option B) (r : Option B) → Some x ≡ o → r ≡ f x → r ≡ (o >>= f)
went_on o x f r first rest = rest ∙ ap (λ a. a >>= f) first

pub ended : {A B : Type 0} (o : Option A) (f : A → Option B) (r : Option B) → None ≡ o → r ≡ None → r ≡ (o >>= f)
ended o f r first none = none ∙ ap (λ a. a >>= f) first
