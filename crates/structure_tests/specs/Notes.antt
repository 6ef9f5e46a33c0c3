-- Notes that seats add, with a room for the first seat alone.
use Rattle.std.specs.Prelude.{ℕ, ◌==◌, if◌then◌else◌}

abbrev pub room_of_first : ℕ → ℕ → ℕ
room_of_first room n = (if n == 0 then room else 0)
