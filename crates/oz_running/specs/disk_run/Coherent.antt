-- What a run takes for granted of the disks of a store, since loading doesn't test it.
use Rattle.std.specs.Prelude.{List, All, IsSome}
use Rattle.oz_core.specs.declared.opening.Opening.{Opening}
use Rattle.oz_core.specs.Contents.{OpeningBytes}
use Rattle.oz_datanode.specs.declared.disks.NodeDisks.{NodeDisks}
use Rattle.oz_rows.specs.RowMaps.{Rows}
use Rattle.oz_sound.specs.Sound.{IsSound}
use Rattle.oz_sound.specs.StandsFor.{StandsFor}
use Rattle.oz_headline.specs.store_opening.Agreeing.{BlocksAgree}
use Rattle.oz_world.specs.Disk.{Seen}

module _ {D : Type 0} (see : D → Seen) where
  -- both disks of a datanode tell their bytes
  abbrev pub BothTell : NodeDisks D → Type 0
  BothTell own = IsSome (see own.meta).told × IsSome (see own.slots).told

  -- What the disks of a store were opened as fits the manager's rows, the bytes of blocks on them, and the disks of
  -- datanodes. Loading tests the rest: that each disk can be read, and that no id on one is granted again.
  pub record IsCoherentStore (disks : List (NodeDisks D)) (all : Rows) (opening : Opening) (bytes : OpeningBytes)
      : Type 0 where
    -- The rows stand for the opening's namespace.
    pub stands : StandsFor all opening.namespace
    -- They are sound, in what renamed rows say of the names of snapshots' blocks too.
    pub sound : IsSound all
    -- Each block lies in a container that was made, and on members of that alone. All who hold it have the same bytes,
    -- which have the digests that were kept, and are as many as a key or a snapshot says. A block that is still being
    -- deleted was granted, and nothing reaches it.
    pub agree : BlocksAgree all opening bytes
    -- Each datanode's journal and slots tell their bytes.
    pub told : All BothTell disks
