use mathlib.Core.Path.{ap, ◌∙◌}
use Rattle.answers.specs.Rooms.{or_twelve}
use Rattle.parent_maker.proofs.number_without_room.Goals as goal

pub returns : goal.returns
returns c = c.or_twelve.ensures ∙ ap or_twelve (c.checked_number.ensures ∙ c.check_to_make.ensures)
