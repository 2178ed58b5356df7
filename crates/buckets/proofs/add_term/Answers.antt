use Rattle.buckets.proofs.Adding.{term_put}
use Rattle.buckets.proofs.add_term.Goals as goal

pub returns : goal.returns
returns c = term_put c.requires c.term_members-members.ensures c.least_number-least.ensures c.highest_member-s.ensures
