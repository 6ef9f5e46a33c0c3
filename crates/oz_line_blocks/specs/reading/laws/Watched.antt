-- Whether anything was noted, of notes behind others.
use Rattle.std.proofs.Common.{◌≡◌, Bool, true, false, ◌||◌, List, [], ◌∷◌, ◌++◌, refl, ap, ◌∙◌}
use Rattle.oz_replicas.specs.declared.note.Note.{Note}
use Rattle.oz_line_blocks.specs.reading.Lacks.{has_notes}

either : (t : Bool) (before after : List Note) → ((t || has_notes before) || has_notes after) ≡ (t || has_notes (before ++ after))
either true before after = refl
either false [] after = refl
either false (note ∷ before) after = refl

pub noted_joined : (first second third : Bool) (before after : List Note) → second ≡ (first || has_notes before)
    → third ≡ (second || has_notes after) → third ≡ (first || has_notes (before ++ after))
noted_joined first second third before after one two =
    two ∙ (ap (λ (t : Bool). t || has_notes after) one ∙ either first before after)
