-- What a stop leaves is an opening whose parts agree.
use Rattle.std.proofs.Common.{◌≡◌, ⊎_elim, ◌⊎◌, ℕ, ◌<◌, true, List, [], take, drop, Option, Some, IsSome, Contains, inl, inr, refl, sym, ◌∙◌, subst}
use Rattle.std.proofs.lemmas.List.{take-append-drop}
use Rattle.std.specs.FinMap.{get}
use Rattle.oz_fields.specs.declared.block.Block.{Block}
use Rattle.oz_script.specs.declared.lines.script.Script.{Script}
use Rattle.oz_model.specs.Reach.{IsReached}
use Rattle.oz_core.specs.declared.event.Event.{Event}
use Rattle.oz_core.specs.declared.opening.Opening.{Opening}
use Rattle.oz_core.specs.Coherent.{IsCoherent, IdsAreFresh, LogIsCoherent, BlocksAreCoherent, IsOnDisk}
use Rattle.oz_core.specs.Contents.{OpeningBytes, HasContent}
use Rattle.oz_core.specs.Fits.{Fits, FitsFrom}
use Rattle.oz_core.specs.Law.{IsLegal}
use Rattle.oz_core.specs.Nodes.{was_held, holds}
use Rattle.oz_core.specs.Scm.{next_id, Containers, members}
use Rattle.oz_kept.specs.Held.{LinesAreApart}
use Rattle.oz_kept.specs.laws.Contents.{fits_to}
use Rattle.oz_kept.specs.reopened.Left.{IsLeft}
use Rattle.oz_kept.specs.reopened.laws.Given.{give_alike, gives_content, some_bytes}
use Rattle.oz_kept.specs.reopened.laws.Whole.{left_whole}
use Rattle.oz_kept.specs.reopened.laws.Placed.{of_manager_made, held_made, held_by_member, members_left}
use Rattle.oz_kept.specs.reopened.laws.Logged.{going_away, going_below, left_going}
use Rattle.oz_kept.specs.reopened.laws.Named.{of_manager, of_manager_below, held_from, held_below}

pub fits_front : (opening : Opening) (bytes : OpeningBytes) (script : Script) (story : List Event) (place : ℕ) → Fits opening bytes script story
    → FitsFrom opening bytes script [] (take place story)
fits_front opening bytes script story place fits =
    fits_to opening bytes script [] (take place story) (drop place story)
    (subst (FitsFrom opening bytes script []) (sym (take-append-drop place story)) fits.steps)

-- the parts of what is said of blocks
pub record ArePlaced (left : Opening) : Type 0 where
  pub made : (block : Block) → IsOnDisk left block → IsSome (get left.containers block.container)
  pub placed : (block : Block) (dn : ℕ) → was_held left dn block ≡ true → Contains (members left [] block.container) dn

pub record AreAlike (left : Opening) (given : OpeningBytes) : Type 0 where
  pub digests_match : (block : Block) (dn : ℕ) → was_held left dn block ≡ true → IsSome (given dn block)
  pub alike : (block : Block) (dn other : ℕ) → was_held left dn block ≡ true → was_held left other block ≡ true → given dn block ≡ given other block

module _ (opening : Opening) (bytes : OpeningBytes) (script : Script) (story : List Event) (most : ℕ) (left : Opening) (given : OpeningBytes)
    (coherent : IsCoherent opening bytes) (legal : IsLegal opening story) (fits : FitsFrom opening bytes script [] story)
    (is : IsLeft opening bytes script story most left given) where
  pub fresh_ids : IdsAreFresh left
  fresh_ids = λ block on. subst (λ (n : ℕ). block.local < n) (sym is.scm.next_id)
      (⊎_elim
      (λ reached. named block (inl reached))
      (λ rest. ⊎_elim
      (λ deleted. named block (inr deleted))
      (λ there. held_below opening story block legal coherent.fresh
      (held_from opening bytes script story coherent legal fits block there.0 (sym ((is.node there.0).held block) ∙ there.1)))
      rest)
      on)
    where
      named : (block : Block) → IsReached left.namespace block ⊎ Contains left.left block → block.local < next_id opening story
      named block it = of_manager_below opening story most block legal coherent.fresh (of_manager opening story most left block legal is.manager it)

  pub log_stays : LogIsCoherent left
  log_stays = record {
    unreached = λ block logged reached. going_away opening story most left block legal coherent.log is.manager is.within.stable
        (left_going opening story left block legal is.scm logged) reached;
    granted = λ block logged. subst (λ (n : ℕ). block.local < n) (sym is.scm.next_id)
        (going_below opening story block legal coherent.fresh coherent.log (left_going opening story left block legal is.scm logged));
  }

  held_here : (block : Block) (dn : ℕ) → was_held left dn block ≡ true → holds opening story dn block ≡ true
  held_here block dn held = sym ((is.node dn).held block) ∙ held

  pub placed_well : ArePlaced left
  placed_well = record {
    made = λ block on. subst (λ (all : Containers). IsSome (get all block.container)) (sym is.scm.containers)
        (⊎_elim
        (λ reached. of_manager_made opening bytes story most block legal coherent.blocks
        (of_manager opening story most left block legal is.manager (inl reached)))
        (λ rest. ⊎_elim
        (λ deleted. of_manager_made opening bytes story most block legal coherent.blocks
        (of_manager opening story most left block legal is.manager (inr deleted)))
        (λ there. held_made opening bytes story block legal coherent.blocks
        (held_from opening bytes script story coherent legal fits block there.0 (held_here block there.0 there.1)))
        rest)
        on);
    placed = λ block dn held. subst (λ (l : List ℕ). Contains l dn) (sym (members_left opening story left block.container is.scm))
        (held_by_member opening bytes story block dn legal coherent.blocks (held_here block dn held));
  }

  pub given_alike : LinesAreApart script → AreAlike left given
  given_alike apart = record {
    digests_match = λ block dn held. some_given (given dn block) ((is.node dn).has block (held_here block dn held)).content
        ((is.node dn).has block (held_here block dn held)).gives;
    alike = λ block dn other held also. give_alike opening bytes script story coherent apart legal fits given block dn other (held_here block dn held)
        (held_here block other also)
        ((is.node dn).has block (held_here block dn held)) ((is.node other).has block (held_here block other also));
  }
    where
      some_given : (o : Option (List ℕ)) (content : List ℕ) → o ≡ Some content → IsSome o
      some_given o content e = subst IsSome (sym e) refl

  pub blocks_stay : LinesAreApart script → BlocksAreCoherent left given
  blocks_stay apart = record {
    made = placed_well.made;
    placed = placed_well.placed;
    digests_match = (given_alike apart).digests_match;
    alike = (given_alike apart).alike;
    whole = λ piece dn content has held gives.
        let back = (is.node dn).has piece.block (held_here piece.block dn held) in
        let same = some_bytes back.content content (sym back.gives ∙ gives) in
        left_whole opening bytes script story most left coherent apart legal fits is.manager piece content has
        (subst (HasContent opening bytes script story piece.block) same
        (gives_content opening bytes script story coherent apart legal fits given piece.block dn (held_here piece.block dn held) back));
  }

  pub stays_coherent : LinesAreApart script → IsCoherent left given
  stays_coherent apart = record { log = log_stays; blocks = blocks_stay apart; fresh = fresh_ids }
