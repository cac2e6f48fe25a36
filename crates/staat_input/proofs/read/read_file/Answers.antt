use Rattle.std.proofs.Common.{◌≡◌, ◌∙◌, ◌⊎◌, ◌<◌, [], ◌∷◌, ℕ, Err, List, Result, refl, ap, false, inl, inr, subst, sym, true}
use Rattle.std.specs.Prelude.{IsSomeAnd}
use Rattle.staat_edge.proofs.OpeningLemmas.{refused}
use Rattle.staat_edge.specs.declared.whole.ReadRefusal.{ReadRefusal}
use Rattle.staat_edge.specs.declared.whole.ReadRefusal.TheVariants as read
use Rattle.staat_edge.specs.Causes.{Rose}
use Rattle.staat_edge.specs.Files.{Lacks, failed_at, held_name, told_name}
use Rattle.staat_edge.specs.Fitting.{IsLonger, IsWhole}
use Rattle.staat_edge.specs.Opening.{OpensFiles}
use Rattle.staat_edge.specs.Readings.{whole_reading}
use Rattle.staat_edge.specs.Told.{ShelfTold}
use Rattle.staat_fault.specs.declared.fault.Fault.TheVariants.{OutOfMemory}
use Rattle.staat_limits.specs.declared.limits.TheConstants.{FILE_LIMIT}
use Rattle.staat_input.specs.Causes.{HasCause, IsUnread, ShelfSide, over}
use Rattle.staat_input.specs.Refusals.{read_fault}
use Rattle.staat_input.specs.Work.{IsNotTaken}
use Rattle.staat_input.proofs.InputLemmas.{failed_with, no_value}
use Rattle.staat_input.proofs.read.read_file.Goals as goal

pub returns-in-Ok : goal.returns-in-Ok
returns-in-Ok g c =
    let before = g.H.Shelf.told c.args.shelf.now in
    let now = g.H.Shelf.told c.read_whole.new.shelf in
    let bytes = c.in-Ok.bytes in
    record {
      after = record { holds = c.read_whole.ensures.holds; count = c.read_whole.ensures.count };
      gave = subst (λ name. now.given ≡ whole_reading name bytes ∷ before.given) c.as_str.ensures c.in-Ok.ensures.gave;
      opens = subst (λ name. OpensFiles true (name ∷ []) before now) c.as_str.ensures c.in-Ok.ensures.opens;
      whole = subst (λ name. IsWhole now name bytes) c.as_str.ensures c.in-Ok.ensures.content;
      within = c.in-Ok.ensures.within;
      refused = tt;
      cause = tt;
    }

unread : (shelf : ShelfSide) (name : List ℕ) → Lacks shelf.old.holds name ⊎ Rose shelf.old.faults shelf.new.faults
    → shelf.new.failed ≡ failed_at true (held_name shelf.old.holds name) shelf.old.failed → IsUnread shelf name
unread shelf name (inl lacks) failed = inl lacks
unread shelf name (inr rose) failed = inr (rose, λ held. failed ∙ ap (λ n. failed_at true n shelf.old.failed) held)

-- what is known of a refusal shows why the fault came that it is
caused : {X : Type 0} (shelf : ShelfSide) (name : List ℕ) (refusal : ReadRefusal) (r : Result X ReadRefusal) → r ≡ Err refusal
    → (r ≡ Err read.ReadFault → Lacks shelf.old.holds name ⊎ Rose shelf.old.faults shelf.new.faults)
    → (r ≡ Err read.ReadFault → shelf.new.failed ≡ failed_at true (held_name shelf.old.holds name) shelf.old.failed)
    → (r ≡ Err read.TooLong → IsSomeAnd shelf.new.place (λ at. FILE_LIMIT < at))
    → (r ≡ Err read.TooLong → shelf.new.opened ≡ told_name shelf.old.holds name)
    → HasCause shelf (read_fault name refusal)
caused shelf name read.ReadFault r is fault failed long opened = unread shelf name (fault is) (failed is)
caused shelf name read.TooLong r is fault failed long opened = record { place = long is; opened = opened is }
caused shelf name read.OutOfMemory r is fault failed long opened = tt

-- and that the file was not taken
not_taken : {X : Type 0} (told : ShelfTold) (name : List ℕ) (refusal : ReadRefusal) (r : Result X ReadRefusal) → r ≡ Err refusal
    → (r ≡ Err read.TooLong → IsLonger told name FILE_LIMIT) → IsNotTaken told name (read_fault name refusal)
not_taken told name read.ReadFault r is longer = refl
not_taken told name read.TooLong r is longer = (refl, longer is)
not_taken told name read.OutOfMemory r is longer = tt

pub returns-in_ok-copied-in-Err : goal.returns-in_ok-copied-in-Err
returns-in_ok-copied-in-Err g c =
    let before = g.H.Shelf.told c.args.shelf.now in
    let now = g.H.Shelf.told c.read_whole.new.shelf in
    let refusal = c.in-Err.refusal in
    let read = c.read_whole.ensures in
    let is = c.read_fault.ensures ∙ ap (λ (n : List ℕ). read_fault n refusal) c.in_ok-copied-in-Err.ensures in
    record {
      after = record { holds = read.holds; count = read.count };
      gave = tt;
      opens = subst (λ name. OpensFiles false (name ∷ []) before now) c.as_str.ensures c.in-Err.ensures.opens;
      whole = tt;
      within = tt;
      refused = subst (IsNotTaken now c.args.name.now) (sym is)
          (subst (λ (n : List ℕ). IsNotTaken now n (read_fault n refusal)) c.as_str.ensures
          (not_taken now c.as_str.result.now refusal c.read_whole.result c.in-Err.is read.longer));
      cause = subst (HasCause (over before now)) (sym is)
          (subst (λ (n : List ℕ). HasCause (over before now) (read_fault n refusal)) c.as_str.ensures
          (caused (over before now) c.as_str.result.now refusal c.read_whole.result c.in-Err.is read.fault read.failed
          read.long read.long_name));
    }

pub returns-in_err-copied-in-Err : goal.returns-in_err-copied-in-Err
returns-in_err-copied-in-Err g c =
    let before = g.H.Shelf.told c.args.shelf.now in
    let now = g.H.Shelf.told c.read_whole.new.shelf in
    let found = c.from_residual.result in
    let is = c.from_residual.ensures.1 in
    record {
      after = record { holds = c.read_whole.ensures.holds; count = c.read_whole.ensures.count };
      gave = no_value _ _ found is;
      opens = refused _ found _ _ _ is
          (subst (λ name. OpensFiles false (name ∷ []) before now) c.as_str.ensures c.in-Err.ensures.opens);
      whole = no_value _ _ found is;
      within = no_value _ _ found is;
      refused = failed_with (IsNotTaken now c.args.name.now) OutOfMemory found tt is;
      cause = failed_with (HasCause (over before now)) OutOfMemory found tt is;
    }
