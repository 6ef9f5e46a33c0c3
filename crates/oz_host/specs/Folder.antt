-- Which files of a folder the disks of a run are.
use Rattle.std.specs.Prelude.{◌≡◌, ℕ, List, ◌++◌, IsSomeAnd, codes, decimal}
use Rattle.std.specs.String.{string_bytes}
use Rattle.oz_host.specs.declared.file_disk.FileDisk.{FileDisk}

-- the disk is the file of this name in a folder
abbrev pub IsFileIn : {R : Type 0} → List ℕ → List ℕ → FileDisk R → Type 0
IsFileIn dir name disk =
    IsSomeAnd disk.place (λ place. (place.folder.now ≡ dir) × (string_bytes place.path ≡ dir ++ (codes "/" ++ name)))

-- the disks of the datanode of this number are its two files in a folder
abbrev pub AreNodeFilesIn : {R : Type 0} → List ℕ → ℕ → FileDisk R → FileDisk R → Type 0
AreNodeFilesIn dir dn meta slots =
    IsFileIn dir (codes "dn" ++ decimal dn ++ codes ".meta") meta × IsFileIn dir (codes "dn" ++ decimal dn ++ codes ".slots") slots
