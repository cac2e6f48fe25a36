-- What a call does, from its answer or its fault and the writing of it.
use Rattle.std.proofs.Common.{◌≡◌, ◌≢◌, ◌⊎◌, ℕ, ◌<◌, ◌≤◌, List, [], Option, Some, None, Ok, Err, refl, ap, sym, ◌∙◌, subst, arith, inl, inr, append-nil}
use Rattle.std.proofs.Math.Decide.{ℕ_discrete}
use Rattle.staat_edge.specs.Causes.{Rose}
use Rattle.staat_edge.specs.Files.{bytes_of, Lacks}
use Rattle.staat_edge.specs.Fitting.{Fit, FitBy}
use Rattle.staat_edge.specs.Readings.{FileReading}
use Rattle.staat_edge.specs.Sinks.{GrewBy}
use Rattle.staat_words.specs.declared.request.Request.{Request}
use Rattle.staat_words.specs.declared.request.Request.TheVariants.{Check, Confirm}
use Rattle.staat_fault.specs.declared.fault.Fault.{Fault}
use Rattle.staat_fault.specs.declared.fault.Fault.TheVariants.{ReadFault, WriteFault, OutOfMemory}
use Rattle.staat_fault.specs.Faults.{status_of, line_of}
use Rattle.staat_input.specs.declared.answer.Answer.{Answer}
use Rattle.staat_input.specs.Work.{Files}
use Rattle.staat_top.specs.Replies.{Reply, IsReply, HasOneReply, answered, refused}
use Rattle.staat_input.specs.Causes.{ShelfSide, IsUnread}
use Rattle.staat_top.specs.Runs.{SinkSide, Took, TookPart, Untouched, IsCaused, HasRequestBounds, IsFound}
use Rattle.staat_top.specs.Runs.{IsExplained, IsSaid, NoFault, SaysWhole, SaysPart, Gave, Ran}
use Rattle.staat_top.specs.Opened.{OpensWork}
use Rattle.staat_top.proofs.OneReply.{no_reply, one_reply}
use Rattle.staat_top.proofs.RightLemmas.{status_is_right, status_is_denied}
use Rattle.staat_top.proofs.Replying.{least_status}
use Rattle.staat_top.proofs.CallLemmas.{Stops, headlines}

took_nothing : (side : SinkSide) → Untouched side → Took side []
took_nothing side same = go side.old.wrote side.new.wrote same
  where
    go : (old new : Option (List ℕ)) → new ≡ old → GrewBy old new []
    go None new e = e
    go (Some old) new e = e ∙ ap Some (sym (append-nil old))

-- the answer is the reply
answer_reply : (asked : Option Request) (shelf : ShelfSide) (files : Files) (a : Answer) → IsFound asked shelf (Ok a) → Fit shelf.new files → IsReply asked files (answered a)
answer_reply asked shelf files a found fit = record { found = Ok a; work = found files fit; makes = refl }

-- an answer was printed
pub ran_answer : (asked : Option Request) (shelf : ShelfSide) (out err : SinkSide) (a : Answer) (result : ℕ)
    → OpensWork asked shelf.old shelf.new → a.status < 2 → IsFound asked shelf (Ok a) → HasRequestBounds asked → (asked ≡ None → ⊥)
    → (result ≢ 6 → (result ≡ a.status) × Untouched err × Took out a.text)
    → (result ≡ 6 → TookPart out a.text)
    → (result ≡ 6 → Took err (line_of WriteFault) ⊎ TookPart err (line_of WriteFault))
    → Ran asked shelf out err result
ran_answer asked shelf out err a result opens small found bounds asks whole part line =
    let complete : HasOneReply asked → (files : Files) → Fit shelf.new files → NoFault shelf out err → result ≢ 7 → (reply : Reply) → IsReply asked files reply → Gave reply out err result = λ own files fit well no_memory reply is_reply.
    elim (ℕ_discrete result 6) [
      | yes e ↦ absurd (well.out_well (part e).fault)
      | no ne ↦
          let w = whole ne in
          let same : answered a ≡ reply = one_reply asked files _ _ own (answer_reply asked shelf files a found fit) is_reply in
          subst (λ r. Gave r out err result) same (record { is = w.0; to_out = w.2; to_err = took_nothing err w.1 })
    ] in record {
      out_kept = λ ge ne. absurd (omega (arith, (whole ne).0));
      err_kept = λ lt. (whole (λ e. omega (arith, e))).1;
      answers = λ lt.
          let w = whole (λ e. omega (arith, e)) in
          record { answer = a; found = found; is = w.0; printed = w.2 };
      refuses = λ ge ne. absurd (omega (arith, (whole ne).0));
      write_fault = λ e. inl (record { answer = a; small = small; found = found; part = part e; line = line e });
      usage = λ none. absurd (asks none);
      reply = λ le files fit.
          let w = whole (λ e. omega (arith, e)) in
          record { reply = answered a; right = answer_reply asked shelf files a found fit; gave = record { is = w.0; to_out = w.2; to_err = took_nothing err w.1 } };
      opens = opens;
      headline = λ files fit. headlines asked files shelf out err result (record {
        printed = λ lt. let w = whole (λ e. omega (arith, e)) in record { bounds = bounds; answer = a; work = found files fit; is = w.0; took = w.2 };
        bounds = λ well no_memory. bounds;
        complete = λ own. complete own files fit;
        stops = λ ge well no_memory. elim (ℕ_discrete result 6) [
          | yes e ↦ absurd (well.out_well (part e).fault)
          | no ne ↦ absurd (omega (arith, ge, small, (whole ne).0))
        ];
      });
      complete = complete;
      right = λ zero files fit.
          let w = whole (λ e. omega (arith, e)) in
          record { text = a.text; took = w.2; is_so = status_is_right asked files a bounds (found files fit) (sym w.0 ∙ zero) };
      denied = λ one files fit.
          let w = whole (λ e. omega (arith, e)) in
          record { text = a.text; took = w.2; is_so = status_is_denied asked files a bounds (found files fit) (sym w.0 ∙ one) };
    }

-- want of memory has no other cause
memory_explained : (asked : Option Request) (shelf : ShelfSide) → IsExplained asked shelf OutOfMemory
memory_explained None shelf = record { cause = inr refl; found = λ files fit. tt }
memory_explained (Some (Check request)) shelf = record { cause = tt; found = λ files fit. tt }
memory_explained (Some (Confirm request)) shelf = record { cause = tt; found = λ files fit. tt }
memory_explained (Some request) shelf = record { cause = tt; found = λ files fit. tt }

said_explained : (asked : Option Request) (shelf : ShelfSide) (fault said : Fault) → IsExplained asked shelf fault → IsSaid fault said → IsExplained asked shelf said
said_explained asked shelf fault said explained (inl e) = subst (IsExplained asked shelf) (sym e) explained
said_explained asked shelf fault said explained (inr e) = subst (IsExplained asked shelf) (sym e) (memory_explained asked shelf)

-- a fault that is no read fault, write fault or want of memory is the reply
fault_reply : (asked : Option Request) (shelf : ShelfSide) (files : Files) (fault : Fault) → status_of fault ≤ 4 → IsFound asked shelf (Err fault) → Fit shelf.new files → IsReply asked files (refused fault)
fault_reply asked shelf files (ReadFault name) le found fit = absurd (omega arith)
fault_reply asked shelf files OutOfMemory le found fit = absurd (omega arith)
fault_reply asked shelf files fault le found fit = record { found = Err fault; work = found files fit; makes = refl }

-- files that fit do not have what the shelf lacks
fit_lacks : (holds : Option Files) (given : List FileReading) (files : Files) (name : List ℕ) → FitBy holds given files → Lacks holds name → bytes_of name files ≡ None
fit_lacks None given files name fit lacks = absurd lacks
fit_lacks (Some held) given files name fit lacks = subst (λ holds. Lacks holds name) fit lacks

-- no fault that a shelf has shows where its count did not rise and the file is there
unread_lacks : (shelf : ShelfSide) (files : Files) (name : List ℕ) → shelf.new.holds ≡ shelf.old.holds → Fit shelf.new files → (Rose shelf.old.faults shelf.new.faults → ⊥) → IsUnread shelf name → bytes_of name files ≡ None
unread_lacks shelf files name kept fit well (inl lacks) = fit_lacks shelf.new.holds shelf.new.given files name fit (subst (λ holds. Lacks holds name) (sym kept) lacks)
unread_lacks shelf files name kept fit well (inr failed) = absurd (well failed.0)

cause_some : (asked : Option Request) (shelf : ShelfSide) (name : List ℕ) → IsCaused asked shelf (ReadFault name) → IsUnread shelf name
cause_some None shelf name (inl e) = absurd cc
cause_some None shelf name (inr e) = absurd cc
cause_some (Some (Check request)) shelf name unread = unread
cause_some (Some (Confirm request)) shelf name unread = unread
cause_some (Some request) shelf name unread = unread

no_write_fault : (asked : Option Request) (shelf : ShelfSide) → IsCaused asked shelf WriteFault → ⊥
no_write_fault None shelf (inl e) = absurd cc
no_write_fault None shelf (inr e) = absurd cc
no_write_fault (Some (Check request)) shelf caused = caused
no_write_fault (Some (Confirm request)) shelf caused = caused
no_write_fault (Some request) shelf caused = caused

-- where nothing failed and there was memory, the reply is that of the fault
complete_fault : (asked : Option Request) (shelf : ShelfSide) (files : Files) (fault : Fault) (reply : Reply) → HasOneReply asked → IsExplained asked shelf fault → shelf.new.holds ≡ shelf.old.holds → Fit shelf.new files → (Rose shelf.old.faults shelf.new.faults → ⊥) → status_of fault ≢ 7 → IsReply asked files reply → refused fault ≡ reply
complete_fault asked shelf files (ReadFault name) reply own explained kept fit well memory is_reply =
    absurd (no_reply asked files name reply (explained.found files fit) (unread_lacks shelf files name kept fit well (cause_some asked shelf name explained.cause)) is_reply)
complete_fault asked shelf files WriteFault reply own explained kept fit well memory is_reply = absurd (no_write_fault asked shelf explained.cause)
complete_fault asked shelf files OutOfMemory reply own explained kept fit well memory is_reply = absurd (memory refl)
complete_fault asked shelf files fault reply own explained kept fit well memory is_reply =
    one_reply asked files _ _ own (record { found = Err fault; work = explained.found files fit; makes = refl }) is_reply

-- where nothing failed and there was memory, the work stands at the fault, and a file that is to be read is not there
stopped : (asked : Option Request) (shelf : ShelfSide) (files : Files) (fault : Fault) (result : ℕ) → result ≡ status_of fault → IsExplained asked shelf fault → shelf.new.holds ≡ shelf.old.holds → Fit shelf.new files → (Rose shelf.old.faults shelf.new.faults → ⊥) → result ≢ 7 → Stops asked files result
stopped asked shelf files (ReadFault name) result is explained kept fit well memory =
    record { fault = ReadFault name; is = is; work = explained.found files fit; lacks = λ n e. unread_lacks shelf files n kept fit well (subst (IsUnread shelf) (same_name name n e) (cause_some asked shelf name explained.cause)) }
  where
    same_name : (n m : List ℕ) → ReadFault n ≡ ReadFault m → n ≡ m
    same_name n m e = cc
stopped asked shelf files OutOfMemory result is explained kept fit well memory = absurd (memory is)
stopped asked shelf files fault result is explained kept fit well memory = record { fault = fault; is = is; work = explained.found files fit; lacks = λ n e. absurd cc }

-- where the words make no request, the status is that of usage or of want of memory
usage_status : (shelf : ShelfSide) (fault : Fault) → IsCaused None shelf fault → (status_of fault ≡ 2) ⊎ (status_of fault ≡ 7)
usage_status shelf fault (inl e) = inl (ap status_of e)
usage_status shelf fault (inr e) = inr (ap status_of e)

gave_line : (out err : SinkSide) (fault : Fault) (result : ℕ) → Untouched out → result ≡ status_of fault → Took err (line_of fault) → Gave (refused fault) out err result
gave_line out err fault result same is line = record { is = is; to_out = took_nothing out same; to_err = line }

-- of want of memory nothing else is said
said_memory : (fault said : Fault) → fault ≡ OutOfMemory → IsSaid fault said → said ≡ OutOfMemory
said_memory fault said none (inl e) = e ∙ none
said_memory fault said none (inr e) = e

-- a fault's line was printed
pub ran_fault : (asked : Option Request) (shelf : ShelfSide) (out err : SinkSide) (result : ℕ) (fault : Fault)
    → shelf.new.holds ≡ shelf.old.holds → OpensWork asked shelf.old shelf.new
    → IsExplained asked shelf fault → (fault ≢ OutOfMemory → HasRequestBounds asked) → Untouched out
    → (result ≢ 6 → SaysWhole fault err result)
    → (result ≡ 6 → SaysPart fault err)
    → Ran asked shelf out err result
ran_fault asked shelf out err result fault kept opens explained bounds same whole part =
    let complete : HasOneReply asked → (files : Files) → Fit shelf.new files → NoFault shelf out err → result ≢ 7 → (reply : Reply) → IsReply asked files reply → Gave reply out err result = λ own files fit well memory reply is_reply.
    elim (ℕ_discrete result 6) [
      | yes e ↦ absurd (well.err_well (part e).part.fault)
      | no ne ↦
          let w = whole ne in
          let said = said_explained asked shelf fault w.said explained w.is_said in
          let is_it : refused w.said ≡ reply = complete_fault asked shelf files w.said reply own said kept fit well.shelf_well (λ e. memory (w.is ∙ e)) is_reply in
          subst (λ r. Gave r out err result) is_it (gave_line out err w.said result same w.is w.line)
    ] in record {
      out_kept = λ ge ne. same;
      err_kept = λ lt. let w = whole (λ e. omega (arith, e)) in absurd (omega (arith, w.is, least_status w.said));
      answers = λ lt. let w = whole (λ e. omega (arith, e)) in absurd (omega (arith, w.is, least_status w.said));
      refuses = λ ge ne.
          let w = whole ne in
          record { fault = w.said; explained = said_explained asked shelf fault w.said explained w.is_said; is = w.is; line = w.line };
      write_fault = λ e.
          let w = part e in
          inr (record { fault = w.said; explained = said_explained asked shelf fault w.said explained w.is_said; part = w.part; kept = same });
      usage = λ none.
          elim (ℕ_discrete result 6) [
            | yes e ↦ inr (inl e)
            | no ne ↦
                let w = whole ne in
                let said = said_explained asked shelf fault w.said explained w.is_said in
                elim (usage_status shelf w.said (subst (λ a. IsCaused a shelf w.said) none said.cause)) [
                  | inl two ↦ inl (w.is ∙ two)
                  | inr seven ↦ inr (inr (w.is ∙ seven))
                ]
          ];
      reply = λ le files fit.
          let w = whole (λ e. omega (arith, e)) in
          let said = said_explained asked shelf fault w.said explained w.is_said in
          record {
            reply = refused w.said;
            right = fault_reply asked shelf files w.said (omega (arith, w.is)) said.found fit;
            gave = gave_line out err w.said result same w.is w.line;
          };
      opens = opens;
      headline = λ files fit. headlines asked files shelf out err result (record {
        printed = λ lt. let w = whole (λ e. omega (arith, e)) in absurd (omega (arith, w.is, least_status w.said));
        bounds = λ well memory. elim (ℕ_discrete result 6) [
          | yes e ↦ absurd (well.err_well (part e).part.fault)
          | no ne ↦ let w = whole ne in bounds (λ none. memory (w.is ∙ ap status_of (said_memory fault w.said none w.is_said)))
        ];
        complete = λ own. complete own files fit;
        stops = λ ge well memory. elim (ℕ_discrete result 6) [
          | yes e ↦ absurd (well.err_well (part e).part.fault)
          | no ne ↦
              let w = whole ne in
              stopped asked shelf files w.said result w.is (said_explained asked shelf fault w.said explained w.is_said) kept fit well.shelf_well memory
        ];
      });
      complete = complete;
      right = λ zero files fit. let w = whole (λ e. omega (arith, e)) in absurd (omega (arith, w.is, least_status w.said));
      denied = λ one files fit. let w = whole (λ e. omega (arith, e)) in absurd (omega (arith, w.is, least_status w.said));
    }
