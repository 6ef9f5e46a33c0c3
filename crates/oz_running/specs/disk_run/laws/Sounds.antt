-- Laws: rows that are sound are so but for what renamed rows say.
use Rattle.oz_rows.specs.RowMaps.{Rows}
use Rattle.oz_sound.specs.Sound.{IsSound, IsSoundButRenames}

pub but_renames : (all : Rows) → IsSound all → IsSoundButRenames all
but_renames all sound = record { blocks = sound.blocks; names = sound.names; numbers = sound.numbers; counts = sound.counts }
