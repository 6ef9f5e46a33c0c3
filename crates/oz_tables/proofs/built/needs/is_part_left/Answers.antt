use Rattle.std.proofs.Common.{List, refl, sym, subst}
use Rattle.oz_rows.specs.declared.entry.RowEntry.{RowEntry}
use Rattle.oz_effects.specs.Parts.{IsPart, front_of}
use Rattle.oz_tables.proofs.built.needs.is_part_left.Goals as goal

pub returns : goal.returns
returns c =
    let all : List RowEntry = c.args.tables.now.rows in
    let front = front_of c.args.part c.args.volume.now c.args.bucket.now in
    record {
      part = c.as_slice.result.now;
      is = subst (λ (part : List RowEntry). IsPart all front part) (sym c.as_slice.ensures.value) (c.in_ok-rows.ensures all (record { in_order = c.rows_are_in_order.ensures; rows_are = λ key. refl }));
      told = c.is_one_left.ensures;
    }
