-- The members of a container, as the storage container manager has them.
use Rattle.std.proofs.Common.{◌≡◌, ℕ, List, [], length, Option, None, Some, IfSome, sym, ap, ◌∙◌, subst}
use Rattle.std.specs.FinMap.{get}
use Rattle.std.specs.Option.{option_map, option_map_or}
use Rattle.oz_core.specs.declared.event.Event.{Event}
use Rattle.oz_core.specs.declared.opening.Container.{Container}
use Rattle.oz_core.specs.declared.opening.Opening.{Opening}
use Rattle.oz_core.specs.Scm.{containers, members}
use Rattle.oz_scm.specs.declared.grants.container.Container.{Container as MadeContainer}
use Rattle.oz_scm.specs.grants.Made.{Made, container_at}
use Rattle.oz_nodes.specs.Pipelines.{members_of}
use Rattle.oz_scm_events.specs.Kept.{as_told}

module _ (opening : Opening) (story : List Event) (number : ℕ) (made : Made) (nodes : made.nodes ≡ length opening.nodes) (result : Option (List ℕ))
    (its : result ≡ option_map (λ (one : MadeContainer). members_of made.nodes one.pipeline) (container_at made.containers number))
    (told : get (containers opening story) number ≡ option_map as_told (container_at made.containers number)) where
  pub members_are : IfSome result (λ dns. members opening story number ≡ dns)
  members_are = by (container_at made.containers number) its told
    where
      by : (found : Option MadeContainer) → result ≡ option_map (λ (one : MadeContainer). members_of made.nodes one.pipeline) found
          → get (containers opening story) number ≡ option_map as_told found → IfSome result (λ dns. members opening story number ≡ dns)
      by None gives is = subst (λ (o : Option (List ℕ)). IfSome o (λ dns. members opening story number ≡ dns)) (sym gives) tt
      by (Some one) gives is =
          subst (λ (o : Option (List ℕ)). IfSome o (λ dns. members opening story number ≡ dns)) (sym gives)
          (ap (λ (o : Option Container). option_map_or (λ (container : Container). members_of (length opening.nodes) container.pipeline) o []) is
          ∙ ap (λ (n : ℕ). members_of n one.pipeline) (sym nodes))

  pub none_are : result ≡ None → get (containers opening story) number ≡ None
  none_are none = by (container_at made.containers number) its told
    where
      by : (found : Option MadeContainer) → result ≡ option_map (λ (one : MadeContainer). members_of made.nodes one.pipeline) found
          → get (containers opening story) number ≡ option_map as_told found → get (containers opening story) number ≡ None
      by None gives is = is
      by (Some one) gives is = absurd (cc (sym none ∙ gives))
