use Rattle.buckets.specs.Written.{PatientsWritten}
use Rattle.buckets.proofs.patient_buckets.Given as goal

abbrev pub invariant-loop-s : goal.invariant-loop-s
invariant-loop-s l = PatientsWritten l.patients l.s l.written
