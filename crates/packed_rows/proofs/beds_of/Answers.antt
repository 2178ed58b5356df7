use Rattle.std.proofs.Common.{arith, rules, ◌∙◌}
use Rattle.packed_rows.proofs.Taking.{no_word_written, one_word_written, all_words_written}
use Rattle.packed_rows.proofs.beds_of.Goals as goal

pub loop-j-init : goal.loop-j-init
loop-j-init c = no_word_written c.args.row.words

pub loop-j-preserved : goal.loop-j-preserved
loop-j-preserved c =
    let l = c.loop-j in
    one_word_written c.args.row.words _ l.j (search rules) (omega arith) (rw (← l.invariant) c.put_beds.ensures)

pub returns : goal.returns
returns c = c.loop-j.invariant ∙ all_words_written c.args.row.words c.loop-j.j (search rules) (omega arith)
