use Rattle.std.proofs.Common.{List, refl, sym, subst}
use Rattle.oz_core.specs.Manager.{kept_up_to}
use Rattle.oz_effects.specs.Build.{Builds}
use Rattle.oz_rows.specs.declared.entry.RowEntry.{RowEntry}
use Rattle.oz_rows.specs.RowMaps.{row_of}
use Rattle.oz_sound.specs.StandsFor.{StandsFor}
use Rattle.oz_sound.specs.laws.Oneness.{one_namespace}
use Rattle.oz_headline.specs.restored.laws.Images.{image_opens}
use Rattle.oz_headline.specs.restored.laws.Stable.{within_stable}
use Rattle.oz_headline.proofs.restored.laws.a_stop_leaves_a_prefix.Goals as goal

pub returns-clause-opens : goal.returns-clause-opens
returns-clause-opens c = λ opening bodies all story last moment left builds legal stood prefix.
    image_opens opening (row_of all) bodies all builds refl story legal last stood moment left prefix

pub returns-clause-within : goal.returns-clause-within
returns-clause-within c = λ opening story moment left it early. within_stable opening story moment left it early

pub returns-clause-loads : goal.returns-clause-loads
returns-clause-loads c = λ opening story moment left it bodies all last namespace journal builds stands.
    let same = c.bytes_stand_for_one_thing.ensures.one_reading left it.bodies bodies it.journal journal in
    let one = c.bodies_make_one_thing.ensures.one_table bodies it.stand.all all it.most last (subst (λ (l : List (List _)). Builds l it.stand.all it.most) same it.stand.builds) builds in
    let kept = kept_up_to opening it.most story in
    (one_namespace (row_of all) namespace kept stands (subst (λ (l : List RowEntry). StandsFor (row_of l) kept) one.0 it.stand.stand.stands), sym one.1)
