-- The disks of a datanode that go on.
use Rattle.std.proofs.Common.{ℕ, ◌≤◌, List, Option, None, Some, is_some, refl, sym, ap, ◌∙◌, arith}
use Rattle.std.proofs.lemmas.Bool.{false≢true}
use Rattle.std.specs.Prelude.{IsSome}
use Rattle.oz_datanode.specs.Datanode.{State, DisksGoOn, count_of, meta_of, slots_of}
use Rattle.oz_datanode.specs.laws.GoingOn.{count_never_falls}
use Rattle.oz_world.specs.Disk.{TellsAsBefore}

tells_on : (was now : Option (List ℕ)) → TellsAsBefore was now → IsSome was → IsSome now
tells_on was None same some = absurd (false≢true (ap (λ (o : Option (List ℕ)). is_some o) (sym (same.1 refl)) ∙ some))
tells_on was (Some bytes) same some = refl

no_less : (a b c : ℕ) → a ≤ b → b ≤ c → a ≤ c
no_less a b c one other = omega (arith, one, other)

module _ {D : Type 0} (told : D → Option (List ℕ)) (faults : D → ℕ) (old new : State D) (goes : DisksGoOn told faults old new) where
  pub both_tell : IsSome (told (meta_of old)) × IsSome (told (slots_of old))
      → IsSome (told (meta_of new)) × IsSome (told (slots_of new))
  both_tell some = (
    tells_on (told (meta_of old)) (told (meta_of new)) goes.meta_tells some.0,
    tells_on (told (slots_of old)) (told (slots_of new)) goes.slots_tell some.1,
  )

  pub no_fewer_then : (loaded : ℕ) → loaded ≤ count_of faults old → loaded ≤ count_of faults new
  no_fewer_then loaded least =
      no_less loaded (count_of faults old) (count_of faults new) least (count_never_falls told faults old new goes)
