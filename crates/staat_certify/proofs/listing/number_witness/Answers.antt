use Rattle.staat_certify.proofs.listing.number_witness.Goals as goal
use Rattle.std.proofs.Common.{List, ℕ, map, subst, arith}
use Rattle.staat_certify.specs.WitnessListings.{IsNumberOf}
use Rattle.staat_certify.proofs.ListedLemmas.{number_is, places_differ, number_new, number_old}

pub returns-in_ok-push : goal.returns-in_ok-push
returns-in_ok-push c =
    let old = map (λ v. v.items) c.args.keys.now.keys in
    let more = map (λ v. v.items) c.insert_full.new.self.keys in
    let distinct = places_differ (λ v. v.items) c.insert_full.new.self.keys c.in_ok-number.ensures.unique in
    let of = subst (λ (key : List ℕ). IsNumberOf old more key c.in_ok-number.number) c.requires.key (number_is (λ v. v.items) c.args.keys.now.keys c.insert_full.new.self.keys c.args.key c.in_ok-number.number c.in_ok-number.ensures.keys distinct c.in_ok-number.ensures.stored) in
    let (keys, number) = number_new c.args.table.now old more c.args.witnesses.now.items c.args.witness c.in_ok-number.number c.requires.arcs c.requires.keys of distinct c.push.new.self.items c.in_ok-push.ensures.items (omega (arith, c.if-number-len.true, c.len.ensures)) in
    record { keys = keys; number = number }

pub returns-else-number-len : goal.returns-else-number-len
returns-else-number-len c =
    let old = map (λ v. v.items) c.args.keys.now.keys in
    let more = map (λ v. v.items) c.insert_full.new.self.keys in
    let distinct = places_differ (λ v. v.items) c.insert_full.new.self.keys c.in_ok-number.ensures.unique in
    let of = subst (λ (key : List ℕ). IsNumberOf old more key c.in_ok-number.number) c.requires.key (number_is (λ v. v.items) c.args.keys.now.keys c.insert_full.new.self.keys c.args.key c.in_ok-number.number c.in_ok-number.ensures.keys distinct c.in_ok-number.ensures.stored) in
    let (keys, number) = number_old c.args.table.now old more c.args.witnesses.now.items c.args.witness c.in_ok-number.number c.requires.arcs c.requires.keys of distinct c.set-set.ensures.rules (λ e. c.if-number-len.false (omega (arith, e, c.len.ensures))) in
    record { keys = keys; number = number }
