-- What a memory disk's history gives now.
use Rattle.std.specs.Prelude.{ℕ, List}
use Rattle.oz_world.specs.declared.history.History.{History}
use Rattle.oz_world.specs.inner.Contents.{contents}

-- what a read gives
abbrev pub contents_of : History → List ℕ
contents_of history = contents history.first.items history.entries.items
