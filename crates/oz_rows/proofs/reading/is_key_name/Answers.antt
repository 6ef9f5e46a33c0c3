use Rattle.std.proofs.Common.{◌∙◌, is_ok}
use Rattle.oz_names.specs.Names.{is_key_name}
use Rattle.oz_names.specs.laws.NameTests.{key_name-passes, key_name-from}
use Rattle.oz_rows.proofs.Tests.{same_test}
use Rattle.oz_rows.proofs.reading.is_key_name.Goals as goal

pub returns : goal.returns
returns c =
    let name = c.args.name.now in
    c.is_ok.ensures.value ∙ same_test (is_ok c.key_name.result) (is_key_name name) c.key_name.ensures.valid.0 c.key_name.ensures.valid.1 (key_name-passes name) (key_name-from name)
