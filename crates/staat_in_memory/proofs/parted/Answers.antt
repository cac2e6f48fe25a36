use Rattle.std.proofs.Common.{rules, ◌≡◌, ◌≢◌, ◌∙◌, ◌++◌, ◌∷◌, [], ℕ, List, codes, map, refl, string_bytes, sym, true≢false}
use Rattle.std.proofs.lemmas.List.{map_push}
use Rattle.std.proofs.lemmas.List.Elements.{All-append, All-cons, All-nil}
use Rattle.std.proofs.lemmas.Slice.Eq.{bytes_eq-Decides}
use Rattle.staat_in_memory.proofs.parted.Goals as goal

pub loop-word-preserved-then-eq : goal.loop-word-preserved-then-eq
loop-word-preserved-then-eq c =
    let decides = bytes_eq-Decides c.as_str.result.now (codes "--") in
    let word_is : string_bytes c.in-Some.word ≡ codes "--" = sym c.as_str.ensures.value ∙ decides.0 (sym (c.eq.ensures) ∙ c.if-eq.true) in
    let before = c.loop-word.invariant.before c.if-not-is_name.false in
    record {
      plain = c.loop-word.invariant.plain;
      before = λ no. absurd (true≢false (sym no));
      behind = λ _. rw (map_push, before.0, word_is, before.1) refl;
    }

pub loop-word-preserved : goal.loop-word-preserved
loop-word-preserved c =
    let Other = λ (w : List ℕ). w ≢ codes "--" in
    let word = c.in-Some.word in
    let decides = bytes_eq-Decides c.as_str.result.now (codes "--") in
    let other : string_bytes word ≢ codes "--" = λ e.
    true≢false (sym (c.eq.ensures ∙ decides.1 (c.as_str.ensures.value ∙ e)) ∙ c.if-eq.false) in
    let before = c.loop-word.invariant.before c.if-not-is_name.false in
    let pushed : c.push-else-eq.new.self.items ≡ c.loop-word.names.items ++ word ∷ [] = search rules in
    record {
      plain = rw (pushed, map_push) (All-append Other (map string_bytes c.loop-word.names.items) (string_bytes word ∷ []) c.loop-word.invariant.plain (All-cons Other (string_bytes word) [] other (All-nil Other)));
      before = λ _. (rw (pushed, map_push, map_push, before.0) refl, before.1);
      behind = λ no. absurd (true≢false (sym c.if-not-is_name.false ∙ no));
    }
