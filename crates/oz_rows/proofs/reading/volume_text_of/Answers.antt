use Rattle.std.proofs.Common.{◌∙◌, sym}
use Rattle.oz_names.specs.Names.{is_volume_name}
use Rattle.oz_rows.specs.Reading.{volume_name_at}
use Rattle.oz_rows.proofs.TextField.{text_there}
use Rattle.oz_rows.proofs.reading.volume_text_of.Goals as goal

pub returns-in-Some : goal.returns-in-Some
unfolding volume_name_at
returns-in-Some c =
    let reader = c.new-reader.result in
    let after = c.text.new.self in
    text_there is_volume_name c.args.bytes.now reader.bytes after.bytes c.in-Some.name.now reader.at after.at c.at.result c.in-Some.ensures.value c.in-Some.ensures.bytes c.new-reader.ensures.bytes c.new-reader.ensures.at c.at.ensures.place (sym c.is_volume_name.ensures ∙ c.if-is_volume_name.true)
