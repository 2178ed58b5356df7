use borrow.Author.Rules.{rules}
use Rattle.std.proofs.lemmas.Slice.{overwrites}
use Rattle.text_writer.proofs.Turns.{text_written}
use Rattle.text_writer.proofs.write_text.Goals as goal

pub returns : goal.returns
returns c = text_written _ _ _ _ c.requires (search (rules, overwrites)) (search (rules, overwrites))
