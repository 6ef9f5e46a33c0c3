use Rattle.std.proofs.Common.{refl}
use Rattle.oz_rows.specs.RowMaps.{row_of}
use Rattle.oz_headline.specs.restored.laws.Images.{front_opens}
use Rattle.oz_headline.proofs.restored.laws.a_prefix_builds.Goals as goal

pub returns : goal.returns
returns c = λ opening bodies all story front last builds legal stood begins.
    front_opens opening (row_of all) bodies all builds refl story legal last stood front begins.0 begins.1
