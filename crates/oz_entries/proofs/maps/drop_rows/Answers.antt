use Rattle.std.proofs.Common.{rules, not}
use Rattle.std.proofs.lemmas.Map.Made.{filter_same_pairs}
use Rattle.oz_entries.specs.Node.{is_in}
use Rattle.oz_entries.proofs.MapEdits.{rows_outside}
use Rattle.oz_entries.proofs.maps.drop_rows.Goals as goal

pub returns : goal.returns
returns c = rows_outside c.args.container _ _ (filter_same_pairs _ (λ e. not (is_in c.args.container e.0)) _ (λ k v b w f' t. search rules) _ _ c.retain.ensures.filtered)
