-- What stands in the labels of a client.
use Rattle.std.specs.Prelude.{ℕ, List, Option, None, Some}
use Rattle.std.specs.Cmp.Lexicographic.{slice_cmp}
use Rattle.std.specs.FinMap.{FinMap, get, insert}
use Rattle.std.specs.Ordering.{nat_cmp}
use Rattle.oz_command.specs.declared.command.Command.{Command}
use Rattle.oz_command.specs.declared.command.Command.TheVariants.{KeyCommit, KeyOpen}
use Rattle.oz_steps.specs.declared.label.Label.{Label}

-- what each label that was opened stands for: nothing where the line that opened it last was told something else than
-- OK
abbrev pub LabelMap : Type 0
LabelMap = FinMap {K = List ℕ} (slice_cmp nat_cmp) (Option Label)

-- what the label that a line commits stands for, if it was opened; a line that commits none needs nothing
abbrev pub label_for : LabelMap → Command → Option (Option Label)
label_for labels (KeyCommit name) = get labels name
label_for labels command = Some None

-- the labels behind a line that left this
abbrev pub noted : LabelMap → Command → Option Label → LabelMap
noted labels (KeyOpen name volume bucket key payload) left = insert labels name left
noted labels command left = labels
