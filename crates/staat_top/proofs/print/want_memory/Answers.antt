use Rattle.std.proofs.Common.{refl, inl}
use Rattle.staat_fault.specs.declared.fault.Fault.TheVariants.{OutOfMemory}
use Rattle.staat_fault.specs.Faults.{body_of, line_of}
use Rattle.staat_top.proofs.print.want_memory.Goals as goal

pub returns-clause-whole : goal.returns-clause-whole
unfolding line_of body_of
returns-clause-whole g c = λ other.
    let w = c.say.ensures.whole other in
    record { said = OutOfMemory; is_said = inl refl; is = w.0; line = w.1 }

pub returns-clause-part : goal.returns-clause-part
unfolding line_of body_of
returns-clause-part g c = λ six. record { said = OutOfMemory; is_said = inl refl; part = c.say.ensures.part six }
