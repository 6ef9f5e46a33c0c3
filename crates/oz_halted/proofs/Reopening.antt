-- What a stop may leave is a coherent opening.
use Rattle.std.proofs.Common.{◌≡◌, ⊎_elim, ◌⊎◌, ℕ, true, List, [], length, Option, None, Some, IsSome, Contains, inl, inr, refl, sym, ◌∙◌, ap, subst, arith}
use Rattle.std.specs.FinMap.{get}
use Rattle.oz_fields.specs.declared.block.Block.{Block}
use Rattle.oz_script.specs.declared.lines.script.Script.{Script}
use Rattle.oz_nodes.specs.Pipelines.{members_of}
use Rattle.oz_core.specs.declared.event.Event.{Event}
use Rattle.oz_core.specs.declared.opening.Container.{Container}
use Rattle.oz_core.specs.declared.opening.Opening.{Opening}
use Rattle.oz_core.specs.Coherent.{IsCoherent, IsOnDisk, IdsAreFresh, LogIsCoherent, BlocksAreCoherent}
use Rattle.oz_core.specs.Contents.{OpeningBytes, HasContent, WasThere}
use Rattle.oz_core.specs.Fits.{FitsFrom}
use Rattle.oz_core.specs.Law.{IsLegal}
use Rattle.oz_core.specs.Nodes.{was_held}
use Rattle.oz_core.specs.Scm.{containers, members}
use Rattle.oz_kept.specs.Held.{LinesAreApart}
use Rattle.oz_kept.specs.laws.Contents.{one_content, its_grant}
use Rattle.oz_kept.specs.reopened.Left.{IsLeft}
use Rattle.oz_kept.specs.reopened.laws.Given.{some_bytes}
use Rattle.oz_kept.specs.reopened.laws.Logged.{going_away, going_below}
use Rattle.oz_kept.specs.reopened.laws.Named.{WasGrantedIn, of_manager, of_manager_below, held_below}
use Rattle.oz_kept.specs.reopened.laws.Placed.{of_manager_made}
use Rattle.oz_kept.specs.reopened.laws.Rising.{IsOn, member_on, members_on}
use Rattle.oz_kept.specs.reopened.laws.Whole.{left_whole}
use Rattle.oz_halted.specs.Further.{MayBeLeftByAll}
use Rattle.oz_halted.proofs.Holding.{IsWell, node_well}
use Rattle.oz_halted.proofs.Managing.{ScmIsWell, scm_well}

inside : (o : Option Container) → IsSome o → (container : Container) × (o ≡ Some container)
inside None some = absurd cc
inside (Some container) some = (container, refl)

is_there : {A : Type 0} (o : Option A) (a : A) → o ≡ Some a → IsSome o
is_there o a e = subst IsSome (sym e) refl

module _ (opening : Opening) (bytes : OpeningBytes) (script : Script) (story : List Event) (most : ℕ) (left : Opening) (given : OpeningBytes)
    (coherent : IsCoherent opening bytes) (apart : LinesAreApart script) (legal : IsLegal opening story) (fits : FitsFrom opening bytes script [] story) (is : MayBeLeftByAll opening bytes script story most left given) where
  scm : ScmIsWell opening story left
  scm = scm_well opening bytes script story left legal is.scm

  node : (block : Block) (dn : ℕ) → was_held left dn block ≡ true → IsWell opening bytes script story given dn block
  node block dn held = node_well opening bytes script story coherent apart legal fits given dn block left (is.node dn) held

  log_stays : LogIsCoherent left
  log_stays = record {
    unreached = λ block logged reached. going_away opening story most left block legal coherent.log is.manager is.within.stable (scm.going block logged) reached;
    granted = λ block logged. let below = going_below opening story block legal coherent.fresh coherent.log (scm.going block logged) in omega (arith, below, scm.ids);
  }

  -- a block that a datanode holds was there, or was granted
  came_from : (block : Block) (content : List ℕ) → HasContent opening bytes script story block content → WasThere opening block ⊎ WasGrantedIn opening story legal block
  came_from block content (inl had) = inl (had.dn, had.held)
  came_from block content (inr of) = inr (record { id = of.id; grant = its_grant opening story legal of.id block of.before of.granted })

  ids_are_fresh : IdsAreFresh left
  ids_are_fresh = λ block on. ⊎_elim
      (λ reached. let below = of_manager_below opening story most block legal coherent.fresh (of_manager opening story most left block legal is.manager (inl reached)) in omega (arith, below, scm.ids))
      (λ rest. ⊎_elim
      (λ deleted. let below = of_manager_below opening story most block legal coherent.fresh (of_manager opening story most left block legal is.manager (inr deleted)) in omega (arith, below, scm.ids))
      (λ there.
      let well = node block there.0 there.1 in
      let below = held_below opening story block legal coherent.fresh (came_from block well.content well.its) in
      omega (arith, below, scm.ids))
      rest)
      on

  -- ---- where blocks lie

  placed_on : (block : Block) (dn : ℕ) → was_held left dn block ≡ true → (pipeline : ℕ) × IsOn left.containers block.container pipeline × Contains (members_of (length opening.nodes) pipeline) dn
  placed_on block dn held =
      let member = (node block dn held).member in
      let on = member_on opening story block.container dn member in
      (on.0, scm.made block.container on.0 on.1, subst (λ (l : List ℕ). Contains l dn) (members_on opening story block.container on.0 on.1) member)

  made_by_manager : (block : Block) → IsSome (get (containers opening story) block.container) → IsSome (get left.containers block.container)
  made_by_manager block some =
      let old = inside (get (containers opening story) block.container) some in
      let on = scm.made block.container old.0.pipeline (record { container = old.0; made = old.1; on = refl }) in
      is_there (get left.containers block.container) on.container on.made

  made : (block : Block) → IsOnDisk left block → IsSome (get left.containers block.container)
  made block on = ⊎_elim
      (λ reached. made_by_manager block (of_manager_made opening bytes story most block legal coherent.blocks (of_manager opening story most left block legal is.manager (inl reached))))
      (λ rest. ⊎_elim
      (λ deleted. made_by_manager block (of_manager_made opening bytes story most block legal coherent.blocks (of_manager opening story most left block legal is.manager (inr deleted))))
      (λ there. let on = (placed_on block there.0 there.1).1 in is_there (get left.containers block.container) on.container on.made)
      rest)
      on

  placed : (block : Block) (dn : ℕ) → was_held left dn block ≡ true → Contains (members left [] block.container) dn
  placed block dn held =
      let on = placed_on block dn held in
      let same : members left [] block.container ≡ members_of (length opening.nodes) on.0 =
      members_on left [] block.container on.0 on.1 ∙ ap (λ (n : ℕ). members_of n on.0) scm.count in
      subst (λ (l : List ℕ). Contains l dn) (sym same) on.2

  blocks_stay : BlocksAreCoherent left given
  blocks_stay = record {
    made = made;
    placed = placed;
    digests_match = λ block dn held. let well = node block dn held in is_there (given dn block) well.content well.gives;
    alike = λ block dn other held also.
        let one = node block dn held in
        let two = node block other also in
        one.gives ∙ ap Some (one_content opening bytes script coherent apart story legal block one.content two.content one.its two.its) ∙ sym two.gives;
    whole = λ piece dn content has held gives.
        let well = node piece.block dn held in
        left_whole opening bytes script story most left coherent apart legal fits is.manager piece content has
        (subst (HasContent opening bytes script story piece.block) (some_bytes well.content content (sym well.gives ∙ gives)) well.its);
  }

  pub may_reopen : IsCoherent left given
  may_reopen = record { log = log_stays; blocks = blocks_stay; fresh = ids_are_fresh }

-- what a story leaves it may leave
pub left_as_told : (opening : Opening) (bytes : OpeningBytes) (script : Script) (story : List Event) (most : ℕ) (left : Opening) (given : OpeningBytes) → IsLeft opening bytes script story most left given → MayBeLeftByAll opening bytes script story most left given
left_as_told opening bytes script story most left given is = record {
  within = is.within;
  manager = is.manager;
  scm = record { longer = story; one_more = inl refl; is = is.scm };
  node = λ dn. inl (record { longer = story; one_more = inl refl; is = is.node dn });
}
