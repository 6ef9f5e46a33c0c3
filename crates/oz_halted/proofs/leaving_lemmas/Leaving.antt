-- Every legal story leaves an opening.
use Rattle.std.proofs.Common.{◌≡◌, ⊎_elim, ℕ, ◌+◌, ◌<◌, ◌≤◌, Bool, true, false, List, [], length, Option, None, Some, Contains, refl, sym, ◌∙◌, ap, subst, arith}
use mathlib.Core.Bool.{false≢true}
use Rattle.std.proofs.lemmas.Bool.{cases_lt}
use Rattle.std.specs.List.{slice_get}
use Rattle.std.specs.Option.{option_map_or}
use Rattle.oz_fields.specs.declared.block.Block.{Block}
use Rattle.oz_script.specs.declared.lines.script.Script.{Script}
use Rattle.oz_core.specs.declared.event.Event.{Event}
use Rattle.oz_core.specs.declared.opening.NodeOpening.{NodeOpening}
use Rattle.oz_core.specs.declared.opening.Opening.{Opening}
use Rattle.oz_core.specs.Coherent.{IsCoherent}
use Rattle.oz_core.specs.Contents.{OpeningBytes}
use Rattle.oz_core.specs.Fits.{FitsFrom}
use Rattle.oz_core.specs.Law.{IsLegal}
use Rattle.oz_core.specs.Nodes.{has_piece, closes_at_opening, holds}
use Rattle.oz_kept.specs.Held.{HasBytes}
use Rattle.oz_kept.specs.reopened.Left.{GivesBack, IsLeft, IsLeftByNode, MayBeLast, greatest_in}
use Rattle.oz_kept.specs.reopened.laws.Named.{held_content}
use Rattle.oz_halted.proofs.leaving_lemmas.Managed.{left_with, by_manager, by_scm}
use Rattle.oz_halted.proofs.leaving_lemmas.Absent.{nodes_from, nodes_length, node_there, beyond}
use Rattle.oz_halted.proofs.leaving_lemmas.Held.{pieces_left, held_same, length_told, absent_holds}
use Rattle.oz_halted.proofs.leaving_lemmas.Replicas.{replicas_left, closed_same, greatest_same, absent_closed, absent_greatest}

module _ (opening : Opening) (bytes : OpeningBytes) (script : Script) (story : List Event) (most : ℕ) (coherent : IsCoherent opening bytes) (legal : IsLegal opening story) (fits : FitsFrom opening bytes script [] story) where
  abbrev node_of : ℕ → NodeOpening
  node_of dn = record { held = pieces_left opening story dn; replicas = replicas_left opening story dn }

  abbrev left : Opening
  left = left_with opening story most (nodes_from node_of 0 (length opening.nodes))

  -- ---- the bytes of what is held

  bytes_of : (dn : ℕ) (block : Block) (t : Bool) → holds opening story dn block ≡ t → Option (List ℕ)
  bytes_of dn block true held = Some (held_content opening bytes script story coherent legal fits block dn held).content
  bytes_of dn block false held = None

  abbrev given : OpeningBytes
  given dn block = bytes_of dn block (holds opening story dn block) refl

  record AreOf (dn : ℕ) (block : Block) (t : Bool) (is : holds opening story dn block ≡ t) : Type 0 where
    content : List ℕ
    has : HasBytes opening bytes script story block dn content
    gives : bytes_of dn block t is ≡ Some content

  are_of : (dn : ℕ) (block : Block) (t : Bool) (is : holds opening story dn block ≡ t) → t ≡ true → AreOf dn block t is
  unfolding bytes_of
  are_of dn block true is e =
      let its = held_content opening bytes script story coherent legal fits block dn is in
      record { content = its.content; has = its.has; gives = refl }
  are_of dn block false is e = absurd (false≢true e)

  gives_back : (dn : ℕ) (block : Block) → holds opening story dn block ≡ true → GivesBack opening bytes script story dn given block
  gives_back dn block held =
      let its = are_of dn block (holds opening story dn block) refl held in
      record { content = its.content; has = its.has; gives = its.gives }

  -- ---- a datanode that is there, and one that isn't

  some_node : (a b : NodeOpening) → Some a ≡ Some b → a ≡ b
  some_node a b e = cc

  by_node : (dn : ℕ) → dn < length opening.nodes → IsLeftByNode opening bytes script story dn left given
  by_node dn lt = record {
    held = λ block. ap (λ (o : Option NodeOpening). option_map_or (has_piece block) o false) there ∙ held_same opening story legal block dn;
    lengths = λ node piece is has.
        let same = some_node (node_of dn) node (sym there ∙ is) in
        length_told opening story dn piece (subst (λ (n : NodeOpening). Contains n.held piece) (sym same) has);
    has = λ block held. gives_back dn block held;
    closed = λ container. ap (λ (o : Option NodeOpening). option_map_or (closes_at_opening container) o false) there ∙ closed_same opening story dn container;
    greatest = λ container. ap (λ (o : Option NodeOpening). option_map_or (greatest_in container) o 0) there ∙ greatest_same opening story dn container;
  }
    where
      there : slice_get (nodes_from node_of 0 (length opening.nodes)) dn ≡ Some (node_of dn)
      there =
          let same : 0 + dn ≡ dn = omega arith in
          node_there node_of 0 (length opening.nodes) dn lt ∙ ap (λ (n : ℕ). Some (node_of n)) same

  by_none : (dn : ℕ) → length opening.nodes ≤ dn → IsLeftByNode opening bytes script story dn left given
  by_none dn le = record {
    held = λ block. ap (λ (o : Option NodeOpening). option_map_or (has_piece block) o false) none ∙ sym (absent_holds opening story legal dn le block);
    lengths = λ node piece is has. let both : None ≡ Some node = sym none ∙ is in absurd cc;
    has = λ block held. gives_back dn block held;
    closed = λ container. ap (λ (o : Option NodeOpening). option_map_or (closes_at_opening container) o false) none ∙ sym (absent_closed opening story dn container legal le);
    greatest = λ container. ap (λ (o : Option NodeOpening). option_map_or (greatest_in container) o 0) none ∙ sym (absent_greatest opening story dn container legal le);
  }
    where
      none : slice_get (nodes_from node_of 0 (length opening.nodes)) dn ≡ None
      none = beyond (nodes_from node_of 0 (length opening.nodes)) dn (omega (arith, le, nodes_length node_of 0 (length opening.nodes)))

  pub leaves : MayBeLast opening story most → (found : Opening) × (gives : OpeningBytes) × IsLeft opening bytes script story most found gives
  leaves within = (
    left,
    given,
    record {
      within = within;
      manager = by_manager opening story most (nodes_from node_of 0 (length opening.nodes));
      scm = by_scm opening story most (nodes_from node_of 0 (length opening.nodes)) (nodes_length node_of 0 (length opening.nodes));
      node = λ dn. ⊎_elim (λ lt. by_node dn lt) (λ le. by_none dn le) (cases_lt dn (length opening.nodes));
    },
  )
