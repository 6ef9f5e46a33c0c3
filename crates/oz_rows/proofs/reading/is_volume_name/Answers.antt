use Rattle.std.proofs.Common.{◌∙◌, is_ok}
use Rattle.oz_names.specs.Names.{is_volume_name}
use Rattle.oz_names.specs.laws.NameTests.{volume_name-passes, volume_name-from}
use Rattle.oz_rows.proofs.Tests.{same_test}
use Rattle.oz_rows.proofs.reading.is_volume_name.Goals as goal

pub returns : goal.returns
returns c =
    let name = c.args.name.now in
    c.is_ok.ensures.value ∙ same_test (is_ok c.volume_name.result) (is_volume_name name) c.volume_name.ensures.valid.0 c.volume_name.ensures.valid.1 (volume_name-passes name) (volume_name-from name)
