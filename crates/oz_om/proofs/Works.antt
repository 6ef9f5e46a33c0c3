-- Stripes are looked at for work, one after another.
use Rattle.std.proofs.Common.{◌≡◌, ℕ, ◌<◌, ◌≤◌, ◌+◌, nat_lt, Bool, true, false, List, [], ◌++◌, Option, None, Some, is_some, refl, sym, ◌∙◌, ap, subst, append_assoc, append-nil, arith}
use mathlib.Core.Bool.{false≢true}
use Rattle.std.proofs.lemmas.Bool.Decides.{nat_tests}
use Rattle.oz_core.specs.declared.event.Event.{Event}
use Rattle.oz_core.specs.declared.opening.Opening.{Opening}
use Rattle.oz_names.specs.declared.limits.TheConstants.{STRIPES}
use Rattle.oz_requests.specs.declared.request.Request.{Request}
use Rattle.oz_rows.specs.RowMaps.{Rows}
use Rattle.oz_turn.specs.Told.{BeginsWith}
use Rattle.oz_om.specs.Working.{HadNone, HadWork, IsFirstWork, NoneBelow}

pub begins_itself : (story : List Event) → BeginsWith story story
begins_itself story = ([], sym (append-nil story))

pub begins_further : (first before after : List Event) → BeginsWith after before → BeginsWith before first → BeginsWith after first
begins_further first before after later earlier =
    (earlier.0 ++ later.0, later.1 ∙ (ap (λ (l : List Event). l ++ later.0) earlier.1 ∙ append_assoc first earlier.0 later.0))

pub below : (a b : ℕ) → nat_lt a b ≡ true → a < b
below a b e = grind (arith, nat_tests, e)

pub not_below : (a b : ℕ) → nat_lt a b ≡ false → b ≤ a
not_below a b e = grind (arith, nat_tests, e)

pub none_of : (request : Option Request) → is_some request ≡ false → (P : Option Request → Type 0) → P request → P None
none_of None e P work = work
none_of (Some request) e P work = absurd (false≢true (sym e))

module _ (opening : Opening) (loaded : Rows) where
  -- more was seen
  pub none_longer : (n : ℕ) (first before after : List Event) → NoneBelow opening loaded n first before → BeginsWith after before → NoneBelow opening loaded n first after
  none_longer n first before after none later stripe less =
      let old = none stripe less in
      record { story = old.story; behind = old.behind; seen = begins_further old.story before after later old.seen; none = old.none }

  -- a stripe had some, and none before it
  pub first_of : (n : ℕ) (first after : List Event) (request : Option Request) → is_some request ≡ true → n < STRIPES → NoneBelow opening loaded n first after
      → HadWork opening loaded n after request → IsFirstWork opening loaded first after request
  first_of n first after (Some request) e less none work = (n, less, none, work)
  first_of n first after None e less none work = absurd (false≢true e)

  -- one stripe more had none
  pub none_more : (n : ℕ) (first before after : List Event) → NoneBelow opening loaded n first before → BeginsWith after before → BeginsWith before first
      → HadWork opening loaded n after None → NoneBelow opening loaded (n + 1) first after
  none_more n first before after none later earlier now stripe less = by (nat_lt stripe n) refl
    where
      by : (t : Bool) → nat_lt stripe n ≡ t → HadNone opening loaded stripe first after
      by true e =
          let old = none stripe (below stripe n e) in
          record { story = old.story; behind = old.behind; seen = begins_further old.story before after later old.seen; none = old.none }
      by false e =
          let above = not_below stripe n e in
          let same : n ≡ stripe = omega (arith, above, less) in
          subst (λ (m : ℕ). HadNone opening loaded m first after) same
          (record { story = after; behind = begins_further first before after later earlier; seen = begins_itself after; none = now })
