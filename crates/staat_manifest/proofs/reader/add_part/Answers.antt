use Rattle.std.proofs.Common.{◌≡◌, ◌+◌, ◌++◌, ℕ, Bool, true, false, not, List, if◌then◌else◌, ◌∷◌, [], None, Some, ap, arith, length, map, subst, sym, ◌∙◌}
use Rattle.std.specs.Str.{bytes_eq}
use Rattle.std.proofs.lemmas.List.{length-map, map_push}
use Rattle.std.proofs.lemmas.List.Sums.{sum_by_push}
use Rattle.std.specs.List.{sum_by}
use Rattle.serde_json.specs.Data.{Data}
use Rattle.serde_json.specs.View.{view}
use Rattle.staat_manifest.specs.declared.listing.ListedPart.{ListedPart}
use Rattle.staat_manifest.specs.Placements.{at_of}
use Rattle.staat_manifest.specs.declared.refusal.ManifestRefusal.TheVariants.{RepeatedName}
use Rattle.staat_manifest.specs.Answers.{RefusesPart}
use Rattle.staat_manifest.specs.Listings.{listed}
use Rattle.staat_manifest.specs.Rules.{name_rule}
use Rattle.staat_manifest.specs.Values.{name_of, pieces_in, text_in}
use Rattle.staat_manifest.proofs.RuleLemmas.{by_count, by_joint, count_over, count_within, form_refuses, name_repeated, refused_by}
use Rattle.staat_manifest.proofs.ValueLemmas.{any_seen}
use Rattle.staat_manifest.proofs.reader.add_part.Goals as goal

-- a part of this name and these pieces, which is moved so, is the one that is listed
is_listed : (part : ListedPart) (value : Data) → part.name ≡ name_of value → part.pieces ≡ map text_in (pieces_in value) → part.at ≡ at_of value → part ≡ listed value
is_listed part value name pieces at = λ i. record { name = name i; pieces = pieces i; at = at i }

pub returns-in_err-form-clause-rules : goal.returns-in_err-form-clause-rules
returns-in_err-form-clause-rules c =
    refused_by _ _ _ c.from_residual.result c.from_residual.ensures.1
    (form_refuses c.args.most_pieces c.args.list.now.items (view c.args.part.now) _ (omega arith))
    c.in_err-form.ensures.rules

pub returns-then-not-branch-clause-rules : goal.returns-then-not-branch-clause-rules
returns-then-not-branch-clause-rules c =
    let earlier = c.args.list.now.items in
    let own = c.in_ok-form.form.name.now in
    let joint = by_joint c.args.most_pieces earlier (view c.args.part.now) _ (omega arith) c.in_ok-form.ensures.rules in
    let name = ap (name_rule (map (λ s. s.now) c.args.names.now.keys)) (sym c.in_ok-form.ensures.name) in
    let seen = any_seen (bytes_eq own) (λ s. s.now) c.args.names.now.keys in
    let repeated : name_rule (map (λ s. s.now) c.args.names.now.keys) own ≡ Some (RepeatedName own) =
    grind (arith, seen, c.in_ok-insert.ensures.added) in
    let broken = name_repeated c.args.most_pieces earlier (listed (view c.args.part.now)) _ _ c.requires.tallied.named
    c.requires.tallied.counted _ (name ∙ repeated) in
    subst (λ o. RefusesPart o c.repeated_name.result) (sym (joint ∙ broken)) c.repeated_name.ensures

pub returns-then-piece_count-most_pieces-clause-rules : goal.returns-then-piece_count-most_pieces-clause-rules
returns-then-piece_count-most_pieces-clause-rules c =
    let earlier = c.args.list.now.items in
    let part = listed (view c.args.part.now) in
    let own = c.in_ok-form.form.name.now in
    let joint = by_joint c.args.most_pieces earlier (view c.args.part.now) _ (omega arith) c.in_ok-form.ensures.rules in
    let name = ap (name_rule (map (λ s. s.now) c.args.names.now.keys)) (sym c.in_ok-form.ensures.name) in
    let seen = any_seen (bytes_eq own) (λ s. s.now) c.args.names.now.keys in
    let new : name_rule (map (λ s. s.now) c.args.names.now.keys) own ≡ None = grind (arith, seen, c.in_ok-insert.ensures.added) in
    let counted = by_count c.args.most_pieces earlier part _ _ c.requires.tallied.named c.requires.tallied.counted (name ∙ new) in
    let size : length part.pieces ≡ length c.in_ok-form.form.pieces.now =
    sym (ap (λ pieces. length (map text_in pieces)) c.in_ok-form.ensures.pieces) ∙ simp length-map in
    joint ∙ counted ∙ count_over c.args.most_pieces _ (omega (arith, size))

pub returns-clause-rules : goal.returns-clause-rules
returns-clause-rules c =
    let earlier = c.args.list.now.items in
    let part = listed (view c.args.part.now) in
    let own = c.in_ok-form.form.name.now in
    let joint = by_joint c.args.most_pieces earlier (view c.args.part.now) _ (omega arith) c.in_ok-form.ensures.rules in
    let name = ap (name_rule (map (λ s. s.now) c.args.names.now.keys)) (sym c.in_ok-form.ensures.name) in
    let seen = any_seen (bytes_eq own) (λ s. s.now) c.args.names.now.keys in
    let new : name_rule (map (λ s. s.now) c.args.names.now.keys) own ≡ None = grind (arith, seen, c.in_ok-insert.ensures.added) in
    let counted = by_count c.args.most_pieces earlier part _ _ c.requires.tallied.named c.requires.tallied.counted (name ∙ new) in
    let size : length part.pieces ≡ length c.in_ok-form.form.pieces.now =
    sym (ap (λ pieces. length (map text_in pieces)) c.in_ok-form.ensures.pieces) ∙ simp length-map in
    joint ∙ counted ∙ count_within c.args.most_pieces _ (omega (arith, size))

pub returns-clause-added : goal.returns-clause-added
returns-clause-added c =
    c.in_ok-push.ensures.items ∙ ap (λ part. c.args.list.now.items ++ part ∷ [])
    (is_listed c.in_ok-listed.field-0 (view c.args.part.now) (c.in_ok-listed.ensures.name ∙ c.in_ok-form.ensures.name)
    (c.in_ok-listed.ensures.pieces ∙ ap (map text_in) c.in_ok-form.ensures.pieces) (c.in_ok-listed.ensures.at ∙ c.in_ok-form.ensures.at))

-- a name that was put in is behind those that were in
put_behind : {X : Type 0} (seen put : Bool) (keys more now : List X) → put ≡ not seen → put ≡ true
    → now ≡ (if seen then keys else more) → now ≡ more
put_behind true put keys more now is new at = absurd (cc)
put_behind false put keys more now is new at = at

counted_more : (count n : ℕ) (list now : List ListedPart) (part : ListedPart) → count ≡ sum_by (λ p. length p.pieces) list
    → now ≡ list ++ part ∷ [] → length part.pieces ≡ n → count + n ≡ sum_by (λ p. length p.pieces) now
counted_more count n list now part counted is size =
    omega (arith, counted, size, ap (sum_by (λ p. length p.pieces)) is, sum_by_push (λ p. length p.pieces) list part)

pub returns-clause-tallied : goal.returns-clause-tallied
returns-clause-tallied c =
    let list = c.args.list.now.items in
    let part = c.in_ok-listed.field-0 in
    let items = c.in_ok-push.ensures.items in
    let new : c.in_ok-insert.field-0 ≡ true = cc in
    let keys = put_behind _ c.in_ok-insert.field-0 c.args.names.now.keys _ c.insert.new.self.keys c.in_ok-insert.ensures.added new c.in_ok-insert.ensures.keys in
    let size : length part.pieces ≡ length c.in_ok-form.form.pieces.now = ap length c.in_ok-listed.ensures.pieces ∙ simp length-map in
    record {
      named = ap (map (λ s. s.now)) keys ∙ map_push (λ s. s.now) c.args.names.now.keys c.in_ok-form.form.name
          ∙ ap (λ names. names ++ c.in_ok-form.form.name.now ∷ []) c.requires.tallied.named
          ∙ ap (λ name. map (λ p. p.name) list ++ name ∷ []) (sym c.in_ok-listed.ensures.name)
          ∙ sym (map_push (λ (p : ListedPart). p.name) list part) ∙ ap (map (λ p. p.name)) (sym items);
      counted = counted_more c.args.piece_count (length c.in_ok-form.form.pieces.now) list c.push.new.self.items part c.requires.tallied.counted items size;
      within = c.if-piece_count-most_pieces.false;
    }
