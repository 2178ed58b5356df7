use Rattle.line_reader.proofs.Forms.{FieldsRead}
use Rattle.line_reader.proofs.read_form.Given as goal

abbrev pub invariant-loop-k : goal.invariant-loop-k
invariant-loop-k g l = FieldsRead g.row.N l.line l.word l.kinds l.values l.at l.k
