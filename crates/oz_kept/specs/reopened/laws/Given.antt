-- What a datanode was given of a block is the block's content.
use Rattle.std.proofs.Common.{◌≡◌, ℕ, ◌==◌, Bool, true, false, ◌&&◌, List, [], ◌∷◌, Some, sym, ◌∙◌, ap, subst}
use Rattle.std.specs.Prelude.{MatchBool}
use Rattle.oz_command.specs.Payload.{bytes_from}
use Rattle.oz_fields.specs.declared.block.Block.{Block}
use Rattle.oz_script.specs.declared.lines.script.Line.{Line}
use Rattle.oz_script.specs.declared.lines.script.Script.{Script}
use Rattle.oz_requests.specs.declared.request.AskId.{AskId}
use Rattle.oz_core.specs.declared.event.Event.{Event}
use Rattle.oz_core.specs.declared.event.EventKind.{EventKind}
use Rattle.oz_core.specs.declared.event.EventKind.TheVariants.{Put, Copy}
use Rattle.oz_core.specs.declared.opening.Opening.{Opening}
use Rattle.oz_core.specs.Coherent.{IsCoherent}
use Rattle.oz_core.specs.Contents.{OpeningBytes, HasContent}
use Rattle.oz_core.specs.Fits.{FitsFrom}
use Rattle.oz_core.specs.Law.{IsLegal}
use Rattle.oz_core.specs.Nodes.{is_block, holds}
use Rattle.oz_kept.specs.Held.{LinesAreApart, Having, HadAtOpening, ArePut, HavingAfter, HavingFrom, HasBytes}
use Rattle.oz_kept.specs.laws.Contents.{one_content}
use Rattle.oz_kept.specs.reopened.Left.{GivesBack}
use Rattle.oz_kept.specs.reopened.laws.Named.{held_content}

pub some_bytes : (a b : List ℕ) → Some a ≡ Some b → a ≡ b
some_bytes a b e = cc

one_put : (script : Script) → LinesAreApart script → (id : AskId) (first count : ℕ) (a b : List ℕ) → ArePut script id first count a
    → ArePut script id first count b → a ≡ b
one_put script apart id first count a b one other =
    let same : one.line ≡ other.line =
    apart one.line other.line one.its.there other.its.there (one.its.of_client ∙ sym other.its.of_client)
    (one.its.of_number ∙ sym other.its.of_number) in
    one.are ∙ ap (λ (l : Line). bytes_from l.command first count) same ∙ sym other.are

module _ (script : Script) (apart : LinesAreApart script) (block : Block) where
  -- a datanode has one value of it
  abbrev HasOne : Having → Type 0
  HasOne having = (dn : ℕ) (a b : List ℕ) → having dn a → having dn b → a ≡ b

  one_after : (kind : EventKind) (before : Having) → HasOne before → HasOne (HavingAfter script block kind before)
  one_after (Put other put id first count) before one = λ dn a b has also. by (other == dn && is_block block put) dn a b has also
    where
      by : (t : Bool) (dn : ℕ) (a b : List ℕ) → MatchBool t (ArePut script id first count a) (before dn a)
          → MatchBool t (ArePut script id first count b) (before dn b) → a ≡ b
      by true dn a b has also = one_put script apart id first count a b has also
      by false dn a b has also = one dn a b has also
  one_after (Copy source target copied) before one = λ dn a b has also. by (target == dn && is_block block copied) dn a b has also
    where
      by : (t : Bool) (dn : ℕ) (a b : List ℕ) → MatchBool t (before source a) (before dn a) → MatchBool t (before source b) (before dn b) → a ≡ b
      by true dn a b has also = one source a b has also
      by false dn a b has also = one dn a b has also
  one_after kind before one = one

  one_from : (story : List Event) (before : Having) → HasOne before → HasOne (HavingFrom script block before story)
  unfolding HavingFrom
  one_from [] before one = one
  one_from (event ∷ story) before one = one_from story (HavingAfter script block event.kind before) (one_after event.kind before one)

  pub one_value : (opening : Opening) (bytes : OpeningBytes) (story : List Event) (dn : ℕ) (a b : List ℕ) → HasBytes opening bytes script story block dn a
      → HasBytes opening bytes script story block dn b → a ≡ b
  one_value opening bytes story dn a b has also =
      one_from story (HadAtOpening opening bytes block) (λ dn a b one other. some_bytes a b (sym one.are ∙ other.are)) dn a b has also

module _ (opening : Opening) (bytes : OpeningBytes) (script : Script) (story : List Event) (coherent : IsCoherent opening bytes)
    (apart : LinesAreApart script) (legal : IsLegal opening story)
    (fits : FitsFrom opening bytes script [] story) (given : OpeningBytes) (block : Block) where
  -- what it gives back is the content
  pub gives_content : (dn : ℕ) → holds opening story dn block ≡ true → (gives : GivesBack opening bytes script story dn given block)
      → HasContent opening bytes script story block gives.content
  gives_content dn held gives =
      let its = held_content opening bytes script story coherent legal fits block dn held in
      subst (HasContent opening bytes script story block)
      (one_value script apart block opening bytes story dn its.content gives.content its.has gives.has) its.its

  pub give_alike : (dn other : ℕ) → holds opening story dn block ≡ true → holds opening story other block ≡ true
      → GivesBack opening bytes script story dn given block → GivesBack opening bytes script story other given block
      → given dn block ≡ given other block
  give_alike dn other held also one two =
      let same = one_content opening bytes script coherent apart story legal block one.content two.content (gives_content dn held one)
      (gives_content other also two) in
      one.gives ∙ ap Some same ∙ sym two.gives
