use Rattle.std.proofs.Common.{◌≡◌, inl, inr, ℕ, ◌<◌, List, Option, None, is_some, true, length, sym, ap, ◌∙◌, arith}
use Rattle.std.proofs.lemmas.Bool.{cases_lt, false≢true}
use Rattle.std.proofs.lemmas.List.{get_or_past}
use Rattle.oz_fields.specs.declared.block.Block.{Block}
use Rattle.oz_entries.specs.Held.{user_of}
use Rattle.oz_entries.proofs.held.Held.uses_slots_of_rows.Goals as goal

-- behind the last slot none is used
below : (users : List (Option Block)) → length users ≡ 16384 → (slot : ℕ) → is_some (user_of users slot) ≡ true → slot < 16384
below users count slot used = elim (cases_lt slot 16384) [
  | inl less ↦ less
  | inr past ↦ absurd (false≢true (sym (ap is_some (get_or_past users slot None (omega (arith, past, count)))) ∙ used))
]

pub returns-clause-sound : goal.returns-clause-sound
returns-clause-sound c = rw (← c.self.view_is) c.self.invariant.1

pub returns-clause-within : goal.returns-clause-within
returns-clause-within c = rw (← c.self.view_is) (below c.self.inside.users.items c.self.invariant.0)
