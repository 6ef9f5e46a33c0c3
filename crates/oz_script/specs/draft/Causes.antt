-- The word of each fault of a script.
use Rattle.std.specs.Prelude.{ℕ, List, codes}
use Rattle.oz_script.specs.declared.draft.fault.Cause.{Cause}
use Rattle.oz_script.specs.declared.draft.fault.Cause.TheVariants.{Long, Form, Many, Label, After, Circle, Later}

-- what the program prints
abbrev pub cause_text : Cause → List ℕ
cause_text Long = codes "long"
cause_text Form = codes "form"
cause_text Many = codes "many"
cause_text Label = codes "label"
cause_text After = codes "after"
cause_text Circle = codes "circle"
cause_text Later = codes "later"
