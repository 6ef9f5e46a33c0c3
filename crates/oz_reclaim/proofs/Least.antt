-- The least key of each kind: its names are empty, and its numbers 0.
use Rattle.std.proofs.Common.{[], arith}
use Rattle.oz_reclaim.specs.Gathered.{IsLeast}
use Rattle.oz_reclaim.proofs.Between.{name_last, number_last, number_first, not_equal}
use Rattle.oz_rows.specs.declared.key.RowKey.TheVariants as keys

pub least_key : IsLeast (keys.Key [] [] [])
least_key (keys.Key w c k) kind e = name_last w _ (name_last c _ (name_last k _ not_equal)) e
least_key key kind e = absurd (omega (arith, kind))

pub least_open : IsLeast (keys.Open [] [] [] 0)
least_open (keys.Open w c k n) kind e = name_last w _ (name_last c _ (name_last k _ (number_last n))) e
least_open key kind e = absurd (omega (arith, kind))

pub least_deleted : IsLeast (keys.Deleted [] [] 0 [] 0)
least_deleted (keys.Deleted w c o k l) kind e = name_last w _ (name_last c _ (number_first o _ (name_last k _ (number_last l)))) e
least_deleted key kind e = absurd (omega (arith, kind))

pub least_snapshot : IsLeast (keys.Snapshot [] [] 0)
least_snapshot (keys.Snapshot w c n) kind e = name_last w _ (name_last c _ (number_last n)) e
least_snapshot key kind e = absurd (omega (arith, kind))

pub least_snapshot_key : IsLeast (keys.SnapshotKey [] [] 0 [])
least_snapshot_key (keys.SnapshotKey w c n k) kind e = name_last w _ (name_last c _ (number_first n _ (name_last k _ not_equal))) e
least_snapshot_key key kind e = absurd (omega (arith, kind))
