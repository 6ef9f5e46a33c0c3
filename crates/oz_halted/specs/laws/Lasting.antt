-- What lasts as a story goes on: the content of a block, and the bytes that a datanode has of it.
use Rattle.std.proofs.Common.{◌≡◌, ℕ, Bool, true, false, ◌||◌, List, [], ◌∷◌, ◌++◌, length, take, Option, None, Some, inl, inr, refl, sym, ◌∙◌, ap, subst}
use mathlib.Core.Bool.{false≢true}
use Rattle.std.proofs.Math.Seq.{take-append_seam}
use Rattle.std.specs.Prelude.{MatchBool}
use Rattle.std.specs.List.{list_any, slice_get}
use Rattle.std.specs.Option.{option_map, option_map_or}
use Rattle.oz_fields.specs.declared.block.Block.{Block}
use Rattle.oz_fields.specs.declared.block.Piece.{Piece}
use Rattle.oz_script.specs.declared.lines.script.Script.{Script}
use Rattle.oz_core.specs.declared.event.Event.{Event}
use Rattle.oz_core.specs.declared.event.EventKind.{EventKind}
use Rattle.oz_core.specs.declared.event.EventKind.TheVariants.{Put, Copy}
use Rattle.oz_core.specs.declared.opening.NodeOpening.{NodeOpening}
use Rattle.oz_core.specs.declared.opening.Opening.{Opening}
use Rattle.oz_core.specs.Contents.{OpeningBytes, HasContent}
use Rattle.oz_core.specs.Fits.{FitsFrom}
use Rattle.oz_core.specs.Law.{IsLegal, puts_or_copies}
use Rattle.oz_core.specs.Nodes.{is_block, was_held, has_piece}
use Rattle.oz_core.specs.Stories.{has_event}
use Rattle.oz_kept.specs.Held.{Having, ArePut, HavingAfter, HavingFrom}
use Rattle.oz_kept.specs.reopened.laws.Whole.{fronts_fit}
use Rattle.oz_kept.specs.reopened.laws.Committed.{granted_lasts}
use Rattle.oz_halted.specs.Further.{pieces_on}

-- ---- fronts

pub content_lasts : (opening : Opening) (bytes : OpeningBytes) (script : Script) (story : List Event) → IsLegal opening story
    → FitsFrom opening bytes script [] story → (place : ℕ) (block : Block) (content : List ℕ)
    → HasContent opening bytes script (take place story) block content → HasContent opening bytes script story block content
content_lasts opening bytes script story legal fits place block content (inl had) = inl had
content_lasts opening bytes script story legal fits place block content (inr of) = inr (record {
  new = of.new;
  id = of.id;
  before = of.before;
  granted = granted_lasts opening bytes script story legal fits (fronts_fit opening bytes script story fits) of.id block of.before place of.granted;
  line = of.line;
  its = of.its;
  are = of.are;
})

-- the same of a front by its events
pub content_behind : (opening : Opening) (bytes : OpeningBytes) (script : Script) (before behind : List Event) → IsLegal opening (before ++ behind)
    → FitsFrom opening bytes script [] (before ++ behind) → (block : Block) (content : List ℕ)
    → HasContent opening bytes script before block content → HasContent opening bytes script (before ++ behind) block content
content_behind opening bytes script before behind legal fits block content has =
    content_lasts opening bytes script (before ++ behind) legal fits (length before) block content
    (subst (λ (l : List Event). HasContent opening bytes script l block content) (sym (take-append_seam before behind)) has)

-- ---- what two openings have alike

module _ (dn : ℕ) (block : Block) where
  held_in : (o : Option NodeOpening)
      → option_map_or (has_piece block) o false
      ≡ option_map_or (λ (held : List Piece). list_any (λ (piece : Piece). is_block block piece.block) held)
      (option_map (λ (node : NodeOpening). node.held) o) false
  held_in None = refl
  held_in (Some node) = refl

  pub held_as : (one other : Opening) → pieces_on one dn ≡ pieces_on other dn → was_held one dn block ≡ was_held other dn block
  held_as one other same =
      held_in (slice_get one.nodes dn)
      ∙ ap (λ (o : Option (List Piece)). option_map_or (λ (held : List Piece). list_any (λ (piece : Piece). is_block block piece.block) held) o false) same
      ∙ sym (held_in (slice_get other.nodes dn))

-- ---- bytes that a datanode has

-- it has the bytes that it had, behind events that give it none
module _ (script : Script) (block : Block) (dn : ℕ) (content : List ℕ) where
  kind_keeps : (kind : EventKind) (having : Having) → puts_or_copies dn block kind ≡ false → having dn content
      → HavingAfter script block kind having dn content
  kind_keeps (Put other put id first count) having none has =
      subst (λ (t : Bool). MatchBool t (ArePut script id first count content) (having dn content)) (sym none) has
  kind_keeps (Copy source target copied) having none has =
      subst (λ (t : Bool). MatchBool t (having source content) (having dn content)) (sym none) has
  kind_keeps kind having none has = has

  pub has_still : (story : List Event) (having : Having) → has_event (puts_or_copies dn block) story ≡ false → having dn content
      → HavingFrom script block having story dn content
  unfolding HavingFrom
  has_still [] having none has = has
  has_still (event ∷ story) having none has = by (puts_or_copies dn block event.kind) refl none (has_still story (HavingAfter script block event.kind having))
    where
      by : (t : Bool) → puts_or_copies dn block event.kind ≡ t → (t || has_event (puts_or_copies dn block) story) ≡ false
          → (has_event (puts_or_copies dn block) story ≡ false → HavingAfter script block event.kind having dn content
          → HavingFrom script block (HavingAfter script block event.kind having) story dn content)
          → HavingFrom script block (HavingAfter script block event.kind having) story dn content
      by true e whole later = absurd (false≢true (sym whole))
      by false e whole later = later whole (kind_keeps event.kind having e has)

  -- what the second of two parts makes of the first is had behind both
  pub has_in_parts : (one other : List Event) (having : Having) → HavingFrom script block (HavingFrom script block having one) other dn content
      → HavingFrom script block having (one ++ other) dn content
  unfolding HavingFrom
  has_in_parts [] other having has = has
  has_in_parts (event ∷ one) other having has = has_in_parts one other (HavingAfter script block event.kind having) has
